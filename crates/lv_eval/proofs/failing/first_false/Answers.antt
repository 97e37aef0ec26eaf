use Rattle.std.proofs.Common.{◌≡◌, ◌<◌, ◌^◌, ◌∙◌, [], true, length, get_or, sym, ap, subst, arith}
use Rattle.std.proofs.lemmas.List.{get_or_default}
use Rattle.lv_formula.specs.declared.formula.Formula.TheVariants.{True}
use Rattle.lv_formula.specs.Measures.{depth_of}
use Rattle.lv_formula.specs.Truth.{truth_in}
use Rattle.lv_struct.specs.Tables.{meaning}
use Rattle.lv_eval.proofs.FirstFalseLaws.{AreTrueBefore, all_true, depth_at, one_more}
use Rattle.lv_eval.proofs.failing.first_false.Goals as goal

pub is_true-requires : goal.is_true-requires
is_true-requires c =
    let below : c.loop-i.i < length c.args.fs.now = omega (arith, c.loop-i-test.true) in
    let least = depth_at c.args.fs.now c.loop-i.i below in
    let shallow = c.requires.shallow in
    subst (λ f. depth_of f < 2 ^ 32) (sym (c.index-fs-i.is ∙ get_or_default c.args.fs.now c.loop-i.i c.index-fs-i.result True below)) (omega (arith, least, shallow))

pub loop-i-preserved : goal.loop-i-preserved
loop-i-preserved c =
    let below : c.loop-i.i < length c.args.fs.now = omega (arith, c.loop-i-test.true) in
    let here : truth_in (meaning c.args.m.now) (get_or c.args.fs.now c.loop-i.i True) [] ≡ true =
    ap (λ f. truth_in (meaning c.args.m.now) f []) (sym (c.index-fs-i.is ∙ get_or_default c.args.fs.now c.loop-i.i c.index-fs-i.result True below)) ∙ (sym c.in_ok-is_true.ensures ∙ c.if-not-branch.false) in
    subst (AreTrueBefore (meaning c.args.m.now) c.args.fs.now) (omega arith) (one_more (meaning c.args.m.now) c.args.fs.now c.loop-i.i c.loop-i.invariant here)

pub returns : goal.returns
returns c =
    let end : c.loop-i.i ≡ length c.args.fs.now = omega (arith, c.loop-i-test.false, c.loop-i.auto) in
    all_true (meaning c.args.m.now) c.args.fs.now (subst (AreTrueBefore (meaning c.args.m.now) c.args.fs.now) end c.loop-i.invariant)
