use Rattle.std.proofs.Common.{◌≡◌, ◌<◌, true, false, ◌∷◌, sym, ap, ◌∙◌, arith}
use Rattle.lv_struct.specs.Tables.{meaning, size_in}
use Rattle.lv_formula.specs.Truth.{truth_in}
use Rattle.lv_formula.proofs.Below.{all_below-fails, any_below-holds}
use Rattle.lv_eval.proofs.evaluate.+truth.Goals as goal

pub holds_for_all-returns-then-not-truth_with-clause-value : goal.holds_for_all-returns-then-not-truth_with-clause-value
holds_for_all-returns-then-not-truth_with-clause-value t c =
    let fails : truth_in (meaning c.args.m.now) c.args.f.now (c.loop-x.x ∷ c.args.env.now.values) ≡ false =
    ap (λ e. truth_in (meaning c.args.m.now) c.args.f.now (c.loop-x.x ∷ e.values)) (sym c.loop-x.invariant.same) ∙ sym c.truth_with.ensures.value ∙ c.if-not-truth_with.true in
    let below : c.loop-x.x < size_in c.args.m.now c.args.sort = omega arith in
    sym (all_below-fails _ (λ x. truth_in (meaning c.args.m.now) c.args.f.now (x ∷ c.args.env.now.values)) c.loop-x.x below fails)

pub holds_for_any-returns-then-truth_with-clause-value : goal.holds_for_any-returns-then-truth_with-clause-value
holds_for_any-returns-then-truth_with-clause-value t c =
    let holds : truth_in (meaning c.args.m.now) c.args.f.now (c.loop-witness.witness ∷ c.args.env.now.values) ≡ true =
    ap (λ e. truth_in (meaning c.args.m.now) c.args.f.now (c.loop-witness.witness ∷ e.values)) (sym c.loop-witness.invariant.same) ∙ sym c.truth_with.ensures.value ∙ c.if-truth_with.true in
    let below : c.loop-witness.witness < size_in c.args.m.now c.args.sort = omega arith in
    sym (any_below-holds _ (λ x. truth_in (meaning c.args.m.now) c.args.f.now (x ∷ c.args.env.now.values)) c.loop-witness.witness below holds)
