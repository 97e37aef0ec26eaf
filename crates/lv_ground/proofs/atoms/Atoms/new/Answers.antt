use Rattle.std.proofs.Common.{◌≡◌, ◌<◌, ◌∷◌, [], length, get_or, sym, ap, ◌∙◌, subst, arith, length-append}
use Rattle.lv_ground.specs.Positions.{rows_to, zeros, IsTable}
use Rattle.lv_ground.specs.Settings.{numbers}
use Rattle.lv_ground.proofs.Marks.{get_or_same, zeros_last, none_last, empty_table}
use Rattle.lv_ground.proofs.atoms.Atoms.new.Goals as goal

pub loop-at-preserved : goal.loop-at-preserved
loop-at-preserved c =
    let e = c.in_ok-push.ensures.items in
    let xs = c.loop-at.marks.items in
    let len = length-append xs (0 ∷ []) in
    record {
      len = omega (arith, ap length e, len, c.loop-at.invariant.len);
      none = λ i. ap (λ l. get_or l i 0) e ∙ none_last xs c.loop-at.invariant.none i;
      rest = omega (arith, ap zeros e, zeros_last xs, c.loop-at.invariant.rest);
    }

pub returns-clause-marked : goal.returns-clause-marked
returns-clause-marked c =
    let st = c.args.setting.now in
    let sk = st.sk.now in
    let n = numbers st in
    let table = c.loop-at.marks.items in
    let i = c.loop-at.invariant in
    let all = c.requires.sorts.each sk.sorts (omega arith) in
    let within : sk.sorts < length st.sorts.items = omega (arith, c.requires.sorts.len) in
    let possible : c.index-possible.result.now ≡ rows_to sk n sk.sorts = c.index-possible.ensures
    ∙ get_or_same st.sorts.items sk.sorts c.index-possible.result.now 0 within ∙ all in
    let len : length table ≡ rows_to sk n sk.sorts = omega (arith, i.len, possible, c.loop-at-test.false, c.loop-at.auto._at-end) in
    subst (λ l. IsTable sk n l table) (sym c.new.ensures.items)
    (empty_table sk n table len (omega (arith, i.len, c.loop-at.auto._at-end)) (omega (arith, i.len, i.rest)) i.none)
