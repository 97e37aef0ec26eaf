use Rattle.std.proofs.Common.{◌≡◌, ◌++◌, drop}
use Rattle.lv_grammar.specs.ReadFormulas.{state_formulas}
use Rattle.lv_words.proofs.states.+state.Given as goal

abbrev pub invariant-all_of_state-loop-f : goal.invariant-all_of_state-loop-f
invariant-all_of_state-loop-f l = l.all.items ++ state_formulas (drop l.f-index l.fs) ≡ state_formulas l.fs
