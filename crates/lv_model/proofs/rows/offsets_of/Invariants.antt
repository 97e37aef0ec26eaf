use Rattle.std.proofs.Common.{◌≡◌, ◌++◌, drop}
use Rattle.lv_places.specs.Universes.{counts}
use Rattle.lv_model.specs.Quotients.{offsets_of}
use Rattle.lv_model.proofs.rows.offsets_of.Given as goal

abbrev pub invariant-loop-i : goal.invariant-loop-i
invariant-loop-i l = l.all.items ++ offsets_of (counts l.u.terms) l.classes (drop l.i l.sorts) ≡ offsets_of (counts l.u.terms) l.classes l.sorts
