use Rattle.std.proofs.Common.{◌≡◌, ◌++◌, map, drop}
use Rattle.lv_places.specs.GroundForms.{term_id}
use Rattle.lv_ground.specs.Settings.{naming}
use Rattle.lv_ground.specs.Instances.{terms_around}
use Rattle.lv_ground.proofs.terms.instances_of.Given as goal

abbrev pub invariant-loop-term : goal.invariant-loop-term
invariant-loop-term l = l.all.items ++ map (term_id (naming l.setting) (terms_around l.around)) (drop l.term-index l.terms) ≡ map
    (term_id (naming l.setting) (terms_around l.around)) l.terms
