use Rattle.std.proofs.Common.{◌≡◌, ◌++◌, drop}
use Rattle.lv_grammar.specs.ShownFormulas.{shown_formulas}
use Rattle.lv_show.proofs.formulas.+formula.Given as goal

abbrev pub invariant-formulas-loop-f : goal.invariant-formulas-loop-f
invariant-formulas-loop-f l = l.items.items ++ shown_formulas l.words.parts.now (drop l.f-index l.fs) l.depth ≡ l.initial.items.items ++ shown_formulas l.words.parts.now l.fs l.depth
