use Rattle.std.proofs.Common.{rules, arith}
use Rattle.lv_grammar.proofs.LayoutLaw.{names_more}
use Rattle.lv_show.proofs.items.variables.Goals as goal

pub loop-sort-preserved : goal.loop-sort-preserved
loop-sort-preserved c =
    names_more c.loop-sort.items.items c.push.new.self.items c.in_ok-variable.field-0 c.loop-sort.number c.saturating_add-number.result c.args.sorts.now c.loop-sort._sort-index _ (omega arith) c.in_ok-variable.ensures
    (search rules) (search rules) c.loop-sort.invariant
