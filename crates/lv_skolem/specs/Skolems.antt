-- What `skolemise` gives.
use Rattle.std.specs.Prelude.{◌≡◌, true, false, List, [], ◌∷◌, ◌++◌, Option, Some, None}
use Rattle.lv_formula.specs.declared.symbols.SortId.{SortId}
use Rattle.lv_formula.specs.declared.formula.Formula.{Formula}
use Rattle.lv_formula.specs.declared.vocabulary.Sentences.{Sentences}
use Rattle.lv_formula.specs.declared.vocabulary.Vocabulary.{Vocabulary}
use Rattle.lv_rewrite.specs.Normal.{nnf_of, nnf_of_all}
use Rattle.lv_places.specs.declared.skolem.Skolem.{Skolem}
use Rattle.lv_places.specs.Forms.{forms_of}
use Rattle.lv_places.specs.Occurring.{constants_in, relations_in}
use Rattle.lv_places.specs.Places.{places_of}
use Rattle.lv_places.specs.Sizes.{SizeIs}
use Rattle.lv_places.specs.SortGraphs.{CycleIs}

-- the normal forms of the hypotheses, and last that of the negated conclusion
abbrev pub normal_forms : Sentences → List Formula
normal_forms s = nnf_of_all s.hypotheses true ++ nnf_of s.conclusion false ∷ []

-- with a cycle there is no size
abbrev pub SizeUnless : Option (List SortId) → Skolem → Type 0
SizeUnless None sk = SizeIs sk sk.size
SizeUnless (Some cycle) sk = sk.size ≡ None

pub record IsSkolem (voc : Vocabulary) (s : Sentences) (sk : Skolem) : Type 0 where
  pub sorts : sk.sorts ≡ voc.sorts
  pub forms : sk.forms ≡ normal_forms s
  pub places : sk.places ≡ places_of (normal_forms s)
  pub constants : sk.constants ≡ constants_in (forms_of (normal_forms s)) voc.constants
  pub relations : sk.relations ≡ relations_in (forms_of (normal_forms s)) voc.relations
  pub cycle : CycleIs sk.places sk.cycle
  pub size : SizeUnless sk.cycle sk
