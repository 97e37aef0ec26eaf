use Rattle.std.proofs.Common.{◌≡◌, ◌+◌, take, drop, sym, ap, ◌∙◌, subst}
use Rattle.lv_formula.specs.declared.vocabulary.RelShape.{RelShape}
use Rattle.lv_formula.specs.Symbols.{sym_eq}
use Rattle.lv_ground.specs.Positions.{relation_rows, relation_start}
use Rattle.lv_ground.specs.Settings.{numbers}
use Rattle.lv_ground.proofs.Loops.{start_next}
use Rattle.lv_ground.proofs.atoms.start_of.Goals as goal

pub loop-i-preserved : goal.loop-i-preserved
loop-i-preserved c =
    let n = numbers c.args.setting.now in
    let r = start_next n c.as_slice-relations.result.now c.args.sym c.loop-i.i c.index-relations-i.result c.loop-i-test.true (sym c.index-relations-i.is)
    (ap (λ (x : RelShape). sym_eq x.sym c.args.sym) c.index-relations-i.is ∙ sym c.equals.ensures ∙ c.if-equals.false) in
    subst (λ rs. relation_rows n (take (c.loop-i.i + 1) rs) + relation_start n (drop (c.loop-i.i + 1) rs) c.args.sym ≡ relation_rows n
    (take c.loop-i.i rs) + relation_start n (drop c.loop-i.i rs) c.args.sym)
    c.as_slice-relations.ensures r ∙ c.loop-i.invariant
