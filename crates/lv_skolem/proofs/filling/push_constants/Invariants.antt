use Rattle.std.proofs.Common.{◌≡◌, ◌++◌, drop}
use Rattle.lv_places.specs.Universes.{constant_terms}
use Rattle.lv_skolem.proofs.filling.push_constants.Given as goal

abbrev pub invariant-loop-shape : goal.invariant-loop-shape
invariant-loop-shape l = l.terms.items ++ constant_terms l.sort (drop l.shape-index l.constants) ≡ l.initial.terms.items ++ constant_terms l.sort l.constants
