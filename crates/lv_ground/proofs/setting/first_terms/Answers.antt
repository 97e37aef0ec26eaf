use Rattle.std.proofs.Common.{◌≡◌, ◌<◌, ◌+◌, ◌^◌, length, map, get_or, set, sym, ap, ◌∙◌, subst}
use Rattle.lv_places.specs.declared.skolem.PlaceArg.{PlaceArg}
use Rattle.lv_places.specs.Universes.{argument_sorts, count_at, product}
use Rattle.lv_ground.specs.Settings.{AreUsed, AreFirsts, first_term}
use Rattle.lv_ground.proofs.Starts.{places_more, firsts_more}
use Rattle.lv_ground.proofs.setting.first_terms.Goals as goal

pub loop-place-preserved : goal.loop-place-preserved
loop-place-preserved c =
    let sk = c.args.sk.now in
    let n = count_at c.args.counts.now in
    let ps = sk.places in
    let i = c.loop-place.place-index in
    let x = c.place-item.result in
    let l : i < length ps = subst (λ xs. i < length xs) c.as_slice-place-items.ensures c.loop-place-test.true in
    let e : get_or ps i x ≡ x = subst (λ xs. get_or xs i x ≡ x) c.as_slice-place-items.ensures (sym c.place-item.is) in
    let terms : c.in_ok-terms.terms ≡ product n (argument_sorts x) =
    c.in_ok-terms.ensures ∙ ap (product n) (c.as_slice-in-loop-place.ensures.value ∙ c.in_ok-sorts.ensures ∙ ap (λ l. map (λ (a : PlaceArg). a.sort) l)
    c.as_slice.ensures) in
    let used = c.loop-place.used.items in
    let v = c.in_ok-use_more.field-0 in
    let room : v + product n (argument_sorts x) < 2 ^ 32 = subst (λ k. v + k < 2 ^ 32) terms c.in_ok-use_more.ensures.room in
    let after = c.in_ok-use_more.ensures.after ∙ ap (λ k. set used x.sort.0 (count_at used x.sort + k)) terms in
    record {
      used = subst (AreUsed sk (first_term sk n (i + 1))) (sym after) (places_more sk c.requires n used i x l e c.loop-place.invariant.used);
      firsts = subst (AreFirsts sk n (i + 1)) (sym c.in_ok-push.ensures.items)
          (firsts_more sk c.requires n used c.loop-place.firsts.items i v x l e c.loop-place.invariant.used c.in_ok-use_more.ensures.before room
          c.loop-place.invariant.firsts);
    }
