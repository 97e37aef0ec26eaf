use Rattle.std.proofs.Common.{◌+◌, ◌++◌, [], cond, eqb, drop, map, sym, ap, ◌∙◌, append_assoc}
use Rattle.lv_places.specs.declared.terms.GroundTerm.TheVariants as make
use Rattle.lv_places.specs.Universes.{argument_sorts, place_terms, count_at, tuples}
use Rattle.lv_places.proofs.Universes.{place_terms_more}
use Rattle.lv_skolem.proofs.filling.push_places.Goals as goal

pub loop-i-preserved : goal.loop-i-preserved
loop-i-preserved c =
    let n = count_at c.args.counts.now in
    let p = c.index-places-i.result in
    let rest = place_terms n c.args.sort (c.loop-i.i + 1) (drop (c.loop-i.i + 1) c.args.places.now) in
    let pushed = c.in_ok-push_place.ensures
    ∙ ap (λ k. c.loop-i.terms.items ++ cond (eqb p.sort.0 c.args.sort.0) (map (make.Place k) (tuples n (argument_sorts p))) []) c.in_ok-number.ensures in
    ap (λ l. l ++ rest) pushed ∙ append_assoc _ _ rest
    ∙ ap (λ l. c.loop-i.terms.items ++ l) (sym (place_terms_more n c.args.sort c.args.places.now c.loop-i.i p c.loop-i-test.true (sym c.index-places-i.is)))
    ∙ c.loop-i.invariant
