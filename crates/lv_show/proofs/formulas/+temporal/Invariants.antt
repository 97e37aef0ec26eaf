use Rattle.std.proofs.Common.{◌≡◌, ◌+◌, ◌*◌, ◌++◌, drop}
use Rattle.lv_formula.specs.TemporalMeasures.{temporal_nodes_of, temporal_nodes_of_all}
use Rattle.lv_grammar.specs.ShownFormulas.{shown_temporals}
use Rattle.lv_show.proofs.formulas.+temporal.Given as goal

abbrev pub decreases-temporal : goal.decreases-temporal
decreases-temporal l = 2 * temporal_nodes_of l.f.now

abbrev pub decreases-temporals : goal.decreases-temporals
decreases-temporals l = 2 * temporal_nodes_of_all l.fs.now + 1

abbrev pub invariant-temporals-loop-f : goal.invariant-temporals-loop-f
invariant-temporals-loop-f l = l.trees.items ++ shown_temporals l.words.parts.now (drop l.f-index l.fs) l.depth ≡ shown_temporals l.words.parts.now l.fs l.depth
