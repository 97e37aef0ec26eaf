use Rattle.std.proofs.Common.{◌≡◌, drop}
use Rattle.lv_places.specs.Forms.{forms_of, free_some}
use Rattle.lv_places.proofs.placing.+free.Given as goal

abbrev pub invariant-is_free_in_some-loop-f : goal.invariant-is_free_in_some-loop-f
invariant-is_free_in_some-loop-f l = free_some l.x (forms_of (drop l.f-index l.fs)) ≡ free_some l.x (forms_of l.fs)
