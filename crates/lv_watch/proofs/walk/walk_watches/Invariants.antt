use Rattle.std.proofs.Common.{◌≡◌, ◌*◌, length}
use Rattle.lv_watch.specs.Visit.{IsFalse}
use Rattle.lv_watch.proofs.Passing.{Walks, ReachesAll, IsIndexBut}
use Rattle.lv_watch.specs.Trail.{HasTrail, Lengthens}
use Rattle.lv_watch.proofs.walk.walk_watches.Given as goal

abbrev pub invariant-loop-place : goal.invariant-loop-place
invariant-loop-place g l =
    Walks l.initial.packed l.packed l.initial.trail.values.items l.trail.values.items l.places l.place l.initial.steps l.steps ×
    IsFalse l.trail.values.items l.gone × (length l.watches ≡ 2 * length l.trail.values.items)
    × ReachesAll l.initial.trail.values.items l.trail.values.items l.initial.packed l.packed l.gone l.places l.place
    × IsIndexBut (length l.trail.values.items) l.packed l.watches l.gone l.places l.place
    × HasTrail l.packed l.trail × Lengthens l.initial.trail l.trail

abbrev pub invariant-loop-rest : goal.invariant-loop-rest
invariant-loop-rest g l = (length l.watches ≡ 2 * length l.trail.values.items) ×
    IsIndexBut (length l.trail.values.items) l.packed l.watches l.gone l.places l.rest
