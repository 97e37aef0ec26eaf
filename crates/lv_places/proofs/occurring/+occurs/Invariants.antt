use Rattle.std.proofs.Common.{◌≡◌, drop}
use Rattle.lv_places.specs.Forms.{forms_of, occurs_some}
use Rattle.lv_places.proofs.occurring.+occurs.Given as goal

abbrev pub invariant-occurs_in_part-loop-f : goal.invariant-occurs_in_part-loop-f
invariant-occurs_in_part-loop-f l = occurs_some l.sym (forms_of (drop l.f-index l.fs)) ≡ occurs_some l.sym (forms_of l.fs)
