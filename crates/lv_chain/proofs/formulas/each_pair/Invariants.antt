use Rattle.std.proofs.Common.{◌≡◌, ◌-◌, ◌++◌}
use Rattle.lv_chain.specs.Formulas.{of_pairs}
use Rattle.lv_chain.proofs.formulas.each_pair.Given as goal

abbrev pub invariant-loop-place : goal.invariant-loop-place
invariant-loop-place l = l.formulas.items ++ of_pairs l.kind l.place (l.end - l.place) ≡ of_pairs l.kind 0 l.end
