use Rattle.std.proofs.Common.{◌≡◌, false}
use Rattle.lv_formula.specs.Truth.{any_below}
use Rattle.lv_model.specs.Classes.{equal_in}
use Rattle.lv_model.specs.Truths.{truth}
use Rattle.lv_model.proofs.classes.first_like.Given as goal

abbrev pub invariant-loop-i : goal.invariant-loop-i
invariant-loop-i l = any_below l.i (λ j. equal_in (truth l.st) l.sort j l.place) ≡ false
