use Rattle.std.proofs.Common.{◌≡◌, ◌++◌, map, drop, get_or}
use Rattle.lv_places.specs.Universes.{term}
use Rattle.lv_ground.specs.Positions.{sort}
use Rattle.lv_ground.specs.Instances.{terms_around}
use Rattle.lv_ground.proofs.terms.arguments_of.Given as goal

abbrev pub invariant-loop-argument : goal.invariant-loop-argument
invariant-loop-argument l = l.terms.items ++ map (λ a. get_or (terms_around l.around) a.var (term (sort 0) 0)) (drop l.argument-index l.arguments) ≡ map
    (λ a. get_or (terms_around l.around) a.var (term (sort 0) 0)) l.arguments
