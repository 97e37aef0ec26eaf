use Rattle.std.proofs.Common.{◌<◌, ◌+◌, ◌++◌, drop, length, ap, ◌∙◌, arith}
use Rattle.lv_formula.specs.declared.symbols.Sym.TheVariants.{Param}
use Rattle.lv_struct.specs.Tables.{meaning, value_in}
use Rattle.lv_labels.specs.Monitor.{params_in}
use Rattle.lv_check.proofs.Params.{next_param}
use Rattle.lv_check.proofs.performing.elements_of.Goals as goal

pub loop-k-preserved : goal.loop-k-preserved
loop-k-preserved c =
    let params = c.args.action.now.params in
    let k = c.loop-k.k in
    let there : k < length params = omega (arith, ap length c.as_slice-sort-items.ensures) in
    ap (λ xs. xs ++ params_in (meaning c.args.m.now) (k + 1) (drop (k + 1) params)) c.in_ok-push.ensures.items
    ∙ next_param (meaning c.args.m.now) c.loop-k.elements.items k params c.value.result there (c.value.ensures ∙ ap (λ j. value_in c.args.m.now (Param j)) c.in_ok-number.ensures)
    ∙ c.loop-k.invariant
