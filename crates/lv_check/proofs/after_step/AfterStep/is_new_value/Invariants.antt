use Rattle.std.proofs.Common.{◌≡◌, false, ◌&&◌, not, eqb}
use Rattle.lv_formula.specs.Truth.{any_below}
use Rattle.lv_struct.specs.Tables.{meaning}
use Rattle.lv_system.specs.Step.{set_value, symbol_at}
use Rattle.lv_labels.specs.Monitor.{elements_in}
use Rattle.lv_labels.specs.Runs.{is_constant}
use Rattle.lv_check.proofs.after_step.AfterStep.is_new_value.Given as goal

abbrev pub invariant-loop-c : goal.invariant-loop-c
invariant-loop-c l = any_below l.c (λ c. (not (symbol_at l.self.system.now c).fixed && is_constant (symbol_at l.self.system.now c) l.sort) && eqb (set_value (elements_in (meaning l.self.before.now) l.self.action.now) (meaning l.self.before.now) l.self.action.now.updates c) l.element) ≡ false
