use Rattle.std.proofs.Common.{◌≡◌, ◌<◌, length, take, map, get_or, sym, ap, ◌∙◌, subst, arith}
use Rattle.std.proofs.Math.Seq.{take-length}
use Rattle.lv_places.specs.declared.skolem.Place.{Place}
use Rattle.lv_places.specs.declared.skolem.PlaceArg.{PlaceArg}
use Rattle.lv_places.specs.Universes.{argument_sorts}
use Rattle.lv_places.specs.Equality.{replacements, place_change, place_clauses}
use Rattle.lv_ground.specs.Settings.{numbers}
use Rattle.lv_ground.specs.Making.{Makes, change_of}
use Rattle.lv_ground.specs.declared.replacing.Applied.TheVariants as applied
use Rattle.lv_ground.proofs.Making.{makes_none, places_next}
use Rattle.lv_ground.proofs.Standing.{place_with_is}
use Rattle.lv_ground.proofs.replacing.push_places.Goals as goal

pub loop-k-init : goal.loop-k-init
loop-k-init c = makes_none c.args.setting.now c.args.made.now c.requires.marked

pub overflow_cast-k : goal.overflow_cast-k
overflow_cast-k c = omega (arith, c.loop-k-test.true, ap length c.as_slice-places.ensures, c.requires.ready.few)

pub push_replacements-requires-clause-applied : goal.push_replacements-requires-clause-applied
push_replacements-requires-clause-applied c =
    let st = c.args.setting.now in
    let k = c.loop-k.k in
    let p = c.index-places-k.result in
    let l : k < length st.sk.now.places = subst (λ ps. k < length ps) c.as_slice-places.ensures c.loop-k-test.true in
    let e : get_or st.sk.now.places k p ≡ p = subst (λ ps. get_or ps k p ≡ p) c.as_slice-places.ensures (sym c.index-places-k.is) in (
      l,
      ap argument_sorts (place_with_is st k p l e)
          ∙ sym (c.as_slice-in-loop-k.ensures.value ∙ c.in_ok-sorts.ensures ∙ ap (λ l. map (λ (a : PlaceArg). a.sort) l) c.as_slice.ensures
          ∙ ap argument_sorts (sym c.index-places-k.is)),
    )

pub loop-k-preserved : goal.loop-k-preserved
loop-k-preserved c =
    let st = c.args.setting.now in
    let n = numbers st in
    let k = c.loop-k.k in
    let p = c.index-places-k.result in
    let l : k < length st.sk.now.places = subst (λ ps. k < length ps) c.as_slice-places.ensures c.loop-k-test.true in
    let e : get_or st.sk.now.places k p ≡ p = subst (λ ps. get_or ps k p ≡ p) c.as_slice-places.ensures (sym c.index-places-k.is) in
    let sorts = c.as_slice-in-loop-k.ensures.value ∙ c.in_ok-sorts.ensures ∙ ap (λ l. map (λ (a : PlaceArg). a.sort) l) c.as_slice.ensures
    ∙ ap argument_sorts (sym c.index-places-k.is) in
    let h1 = subst (λ ss. Makes st c.loop-k.made (replacements n ss (change_of st (applied.Place k))) c.push_replacements.new.made) sorts
    c.in_ok-push_replacements.ensures in
    let h2 = subst (λ (q : Place). Makes st c.loop-k.made (replacements n (argument_sorts p) (place_change st.sk.now n q.sort k))
    c.push_replacements.new.made) (place_with_is st k p l e) h1 in
    places_next st c.args.made.now c.loop-k.made c.push_replacements.new.made st.sk.now n st.sk.now.places k p l e c.loop-k.invariant h2

pub returns : goal.returns
returns c =
    let st = c.args.setting.now in
    let i : c.loop-k.k ≡ length st.sk.now.places = omega (arith, c.loop-k-test.false, c.loop-k.auto.k-end, ap length c.as_slice-places.ensures) in
    let e : take c.loop-k.k st.sk.now.places ≡ st.sk.now.places = ap (λ k. take k st.sk.now.places) i ∙ take-length st.sk.now.places in
    subst (λ l. Makes st c.args.made.now (place_clauses st.sk.now (numbers st) 0 l) c.loop-k.made) e c.loop-k.invariant
