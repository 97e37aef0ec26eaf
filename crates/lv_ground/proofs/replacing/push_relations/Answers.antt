use Rattle.std.proofs.Common.{◌≡◌, ◌<◌, Some, length, take, get_or, sym, ap, ◌∙◌, subst, arith}
use Rattle.std.proofs.Math.Seq.{take-length}
use Rattle.lv_places.specs.Equality.{replacements, relation_change, relation_clauses}
use Rattle.lv_ground.specs.Settings.{numbers}
use Rattle.lv_ground.specs.Making.{Makes}
use Rattle.lv_ground.proofs.Making.{makes_none, relations_next}
use Rattle.lv_ground.proofs.Starts.{get_there}
use Rattle.lv_ground.proofs.replacing.push_relations.Goals as goal

pub loop-shape-init : goal.loop-shape-init
loop-shape-init c = makes_none c.args.setting.now c.args.made.now c.requires.marked

pub push_replacements-requires-clause-applied : goal.push_replacements-requires-clause-applied
push_replacements-requires-clause-applied c =
    let rs = c.args.setting.now.sk.now.relations in
    let i = c.loop-shape.shape-index in
    let x = c.shape-item.result in
    let l : i < length rs = subst (λ xs. i < length xs) c.as_slice-shape-items.ensures c.loop-shape-test.true in
    let e : get_or rs i x ≡ x = subst (λ xs. get_or xs i x ≡ x) c.as_slice-shape-items.ensures (sym c.shape-item.is) in
    c.requires.ready.known i x (get_there rs i x l e) ∙ ap Some (sym c.as_slice.ensures)

pub loop-shape-preserved : goal.loop-shape-preserved
loop-shape-preserved c =
    let st = c.args.setting.now in
    let n = numbers st in
    let rs = st.sk.now.relations in
    let i = c.loop-shape.shape-index in
    let x = c.shape-item.result in
    let l : i < length rs = subst (λ xs. i < length xs) c.as_slice-shape-items.ensures c.loop-shape-test.true in
    let e : get_or rs i x ≡ x = subst (λ xs. get_or xs i x ≡ x) c.as_slice-shape-items.ensures (sym c.shape-item.is) in
    relations_next st c.args.made.now c.loop-shape.made c.push_replacements.new.made n rs i x l e c.loop-shape.invariant
    (subst (λ ss. Makes st c.loop-shape.made (replacements n ss (relation_change x.sym)) c.push_replacements.new.made) c.as_slice.ensures
    c.in_ok-push_replacements.ensures)

pub returns : goal.returns
returns c =
    let st = c.args.setting.now in
    let rs = st.sk.now.relations in
    let i : c.loop-shape.shape-index ≡ length rs = omega
    (arith, c.loop-shape-test.false, c.loop-shape.auto.shape-index-end, ap length c.as_slice-shape-items.ensures) in
    let e : take c.loop-shape.shape-index rs ≡ rs = ap (λ k. take k rs) i ∙ take-length rs in
    subst (λ l. Makes st c.args.made.now (relation_clauses (numbers st) l) c.loop-shape.made) e c.loop-shape.invariant
