use Rattle.std.proofs.Common.{◌≡◌}
use Rattle.lv_model.specs.Quotients.{classes_to}
use Rattle.lv_model.proofs.classes.all_classes.Given as goal

abbrev pub invariant-loop-s : goal.invariant-loop-s
invariant-loop-s l = l.all.items ≡ classes_to l.st l.s
