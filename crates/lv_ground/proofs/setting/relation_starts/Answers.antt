use Rattle.std.proofs.Common.{◌≡◌, ◌<◌, ◌+◌, length, take, get_or, sym, ap, ◌∙◌, subst, arith, rules}
use Rattle.lv_places.specs.Universes.{count_at, product}
use Rattle.lv_ground.specs.Positions.{relation_rows}
use Rattle.lv_ground.specs.Settings.{AreRelationStarts}
use Rattle.lv_ground.proofs.Starts.{relation_starts_more, relation_rows_more}
use Rattle.lv_ground.proofs.setting.relation_starts.Goals as goal

pub loop-shape-preserved : goal.loop-shape-preserved
loop-shape-preserved c =
    let sk = c.args.sk.now in
    let n = count_at c.args.counts.now in
    let rs = sk.relations in
    let i = c.loop-shape.shape-index in
    let x = c.shape-item.result in
    let l : i < length rs = subst (λ xs. i < length xs) c.as_slice-shape-items.ensures c.loop-shape-test.true in
    let e : get_or rs i x ≡ x = subst (λ xs. get_or xs i x ≡ x) c.as_slice-shape-items.ensures (sym c.shape-item.is) in
    let sum : c.in_ok-all.all ≡ c.loop-shape.all + c.in_ok-atoms.atoms = search rules in
    let atoms : c.in_ok-atoms.atoms ≡ product n x.sorts = c.in_ok-atoms.ensures ∙ ap (product n) c.as_slice.ensures in
    let before = c.loop-shape.invariant.all in
    let all : c.in_ok-all.all ≡ relation_rows n (take (i + 1) rs) = (let q = relation_rows_more n rs i x l e in omega arith) in
    record {
      all = all;
      starts = subst (AreRelationStarts sk n (i + 1)) (sym c.in_ok-push.ensures.items)
          (relation_starts_more sk n i c.in_ok-all.all c.loop-shape.starts.items c.loop-shape.invariant.starts all);
    }
