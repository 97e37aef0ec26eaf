use Rattle.std.proofs.Common.{◌≡◌, ◌+◌, ◌*◌, drop}
use Rattle.lv_words.specs.Scopes.{scope_seen}
use Rattle.lv_grammar.specs.ReadFormulas.{each, formula_of}
use Rattle.lv_words.proofs.Fronts.{with_front}
use Rattle.lv_words.proofs.formulas.+formula.Given as goal

abbrev pub invariant-all_parts-loop-item : goal.invariant-all_parts-loop-item
invariant-all_parts-loop-item l =
    with_front l.parts.items (each (formula_of l.setting.known.now l.setting.role l.room l.iffs (scope_seen l.scope)) (drop l.item-index l.items))
    ≡ each (formula_of l.setting.known.now l.setting.role l.room l.iffs (scope_seen l.scope)) l.items

abbrev pub decreases-formula : goal.decreases-formula
decreases-formula l = 4 * l.room

abbrev pub decreases-listed : goal.decreases-listed
decreases-listed l = 4 * l.room + 3

abbrev pub decreases-negation : goal.decreases-negation
decreases-negation l = 4 * l.room + 2

abbrev pub decreases-conjunction : goal.decreases-conjunction
decreases-conjunction l = 4 * l.room + 2

abbrev pub decreases-disjunction : goal.decreases-disjunction
decreases-disjunction l = 4 * l.room + 2

abbrev pub decreases-implication : goal.decreases-implication
decreases-implication l = 4 * l.room + 2

abbrev pub decreases-equivalence : goal.decreases-equivalence
decreases-equivalence l = 4 * l.room + 2

abbrev pub decreases-universal : goal.decreases-universal
decreases-universal l = 4 * l.room + 2

abbrev pub decreases-existential : goal.decreases-existential
decreases-existential l = 4 * l.room + 2

abbrev pub decreases-always : goal.decreases-always
decreases-always l = 4 * l.room + 2

abbrev pub decreases-eventually : goal.decreases-eventually
decreases-eventually l = 4 * l.room + 2

abbrev pub decreases-one : goal.decreases-one
decreases-one l = 4 * l.room + 1

abbrev pub decreases-two : goal.decreases-two
decreases-two l = 4 * l.room + 1

abbrev pub decreases-bound : goal.decreases-bound
decreases-bound l = 4 * l.room + 1

abbrev pub decreases-all_parts : goal.decreases-all_parts
decreases-all_parts l = 4 * l.room + 1
