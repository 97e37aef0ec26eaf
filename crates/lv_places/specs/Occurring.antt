-- The symbols of a vocabulary that occur in normal forms, in its order.
use Rattle.std.specs.Prelude.{cond, List, [], ◌∷◌}
use Rattle.lv_formula.specs.declared.vocabulary.ConShape.{ConShape}
use Rattle.lv_formula.specs.declared.vocabulary.RelShape.{RelShape}
use Rattle.lv_places.specs.Forms.{Forms, occurs_some}

abbrev pub constants_in : Forms → List ConShape → List ConShape
constants_in fs [] = []
constants_in fs (c ∷ cs) = cond (occurs_some c.sym fs) (c ∷ constants_in fs cs) (constants_in fs cs)

abbrev pub relations_in : Forms → List RelShape → List RelShape
relations_in fs [] = []
relations_in fs (r ∷ rs) = cond (occurs_some r.sym fs) (r ∷ relations_in fs rs) (relations_in fs rs)
