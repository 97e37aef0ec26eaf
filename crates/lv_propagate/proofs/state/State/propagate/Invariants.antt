use Rattle.std.proofs.Common.{◌+◌, ◌-◌, ◌≤◌, length}
use Rattle.lv_watch.specs.Lists.{Permutes}
use Rattle.lv_watch.specs.Trail.{Lengthens}
use Rattle.lv_propagate.specs.State.{IsState, paid}
use Rattle.lv_propagate.proofs.state.State.propagate.Given as goal

abbrev pub invariant-loop-self : goal.invariant-loop-self
invariant-loop-self g l =
    IsState l.self × Permutes l.initial.self.packed l.self.packed × Lengthens l.initial.self.trail l.self.trail
    × (l.steps + paid l.initial.self ≤ l.initial.steps + paid l.self)

abbrev pub decreases-loop-self : goal.decreases-loop-self
decreases-loop-self g l = length l.self.trail.values.items - l.self.head
