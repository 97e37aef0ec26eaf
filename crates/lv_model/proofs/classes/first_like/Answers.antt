use Rattle.std.proofs.Common.{◌≡◌, ℕ, suc, sym, ◌∙◌, ap, arith}
use Rattle.lv_formula.specs.Truth.{any_below}
use Rattle.lv_model.specs.Classes.{equal_in}
use Rattle.lv_model.specs.Truths.{truth}
use Rattle.lv_model.proofs.Lists.{least_at, none_at}
use Rattle.lv_model.proofs.classes.first_like.Goals as goal

pub returns-then-are_equal : goal.returns-then-are_equal
returns-then-are_equal c =
    let p = λ (j : ℕ). equal_in (truth c.args.st.now) c.args.sort j c.args.place in
    sym (least_at (suc c.args.place) c.loop-i.i p (omega arith) c.loop-i.invariant (sym c.are_equal.ensures ∙ c.if-are_equal.true))

pub returns : goal.returns
returns c =
    let p = λ (j : ℕ). equal_in (truth c.args.st.now) c.args.sort j c.args.place in
    let z : c.loop-i.i ≡ suc c.args.place = omega arith in
    sym (none_at (suc c.args.place) p (sym (ap (λ k. any_below k p) z) ∙ c.loop-i.invariant))
