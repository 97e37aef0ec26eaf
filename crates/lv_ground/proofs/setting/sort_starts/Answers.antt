use Rattle.std.proofs.Common.{◌≡◌, ◌+◌, sym, subst, arith, rules}
use Rattle.lv_places.specs.Universes.{count_at}
use Rattle.lv_ground.specs.Positions.{sort, pairs, rows_to}
use Rattle.lv_ground.specs.Settings.{AreSortStarts}
use Rattle.lv_ground.proofs.Starts.{sort_starts_more, rows_more}
use Rattle.lv_ground.proofs.setting.sort_starts.Goals as goal

pub loop-s-preserved : goal.loop-s-preserved
loop-s-preserved c =
    let sk = c.args.sk.now in
    let n = count_at c.args.counts.now in
    let i = c.loop-s.s in
    let sum : c.in_ok-all.all ≡ c.loop-s.all + c.in_ok-atoms.atoms = search rules in
    let atoms : c.in_ok-atoms.atoms ≡ pairs n (sort i) = c.in_ok-atoms.ensures in
    let before = c.loop-s.invariant.all in
    let all : c.in_ok-all.all ≡ rows_to sk n (i + 1) = (let q = rows_more sk n i in omega arith) in
    record {
      all = all;
      starts = subst (AreSortStarts sk n (i + 1)) (sym c.in_ok-push.ensures.items)
          (sort_starts_more sk n i c.in_ok-all.all c.loop-s.starts.items c.loop-s.invariant.starts all);
    }
