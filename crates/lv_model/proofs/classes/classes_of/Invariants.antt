use Rattle.std.proofs.Common.{◌≡◌}
use Rattle.lv_model.specs.Classes.{equal_in}
use Rattle.lv_model.specs.Truths.{truth}
use Rattle.lv_model.specs.Quotients.{befores_to, firsts_to, numbers_to}
use Rattle.lv_model.proofs.classes.classes_of.Given as goal

abbrev pub invariant-loop-place : goal.invariant-loop-place
invariant-loop-place l = record {
  before : l.before.items ≡ befores_to l.place (equal_in (truth l.st) l.sort);
  numbers : l.numbers.items ≡ numbers_to l.place (equal_in (truth l.st) l.sort);
  firsts : l.firsts.items ≡ firsts_to l.place (equal_in (truth l.st) l.sort);
}
