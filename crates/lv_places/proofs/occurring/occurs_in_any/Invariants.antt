use Rattle.std.proofs.Common.{◌≡◌, drop}
use Rattle.lv_places.specs.Forms.{forms_of, occurs_some}
use Rattle.lv_places.proofs.occurring.occurs_in_any.Given as goal

abbrev pub invariant-loop-f : goal.invariant-loop-f
invariant-loop-f l = occurs_some l.sym (forms_of (drop l.f-index l.forms)) ≡ occurs_some l.sym (forms_of l.forms)
