use Rattle.std.proofs.Common.{◌≡◌, ℕ, suc, ◌+◌, ◌∷◌, ◌++◌, [], length, get_or, sym, ap, ap₂, ◌∙◌, eq-eqb, arith, length-append}
use Rattle.std.proofs.lemmas.Bool.{ne_eqb}
use Rattle.lv_model.specs.Classes.{class_of, equal_in, count_below, is_first, first_like}
use Rattle.lv_model.specs.Truths.{truth}
use Rattle.lv_model.specs.Quotients.{befores_to, firsts_to}
use Rattle.lv_model.proofs.Lists.{class_at, first_within, firsts_kept, firsts_pushed, length-firsts_to, length-list_to, list_to_next}
use Rattle.lv_model.proofs.classes.classes_of.Goals as goal
use Rattle.lv_model.proofs.classes.classes_of.Goals.{then-first-place+in_ok-push-3, else-first-place}

pub index-requires : goal.index-requires
index-requires c =
    let eq = equal_in (truth c.args.st.now) c.args.sort in
    let at = c.loop-place.place in
    let l : length c.loop-place.before.items ≡ at =
    ap length c.loop-place.invariant.before ∙ length-list_to at (λ (i : ℕ). count_below i (is_first eq)) in
    let p : length c.push.new.self.items ≡ at + 1 =
    ap length c.in_ok-push.ensures.items ∙ length-append c.loop-place.before.items (c.len.result ∷ []) ∙ ap (λ k. k + 1) l in
    let w = first_within eq at in
    omega (arith, p, w, c.first_like-first.ensures)

pub loop-place-preserved : goal.loop-place-preserved
loop-place-preserved c =
    let eq = equal_in (truth c.args.st.now) c.args.sort in
    let at = c.loop-place.place in
    let first = c.first_like-first.result in
    let f = ap length c.loop-place.invariant.firsts ∙ length-firsts_to eq at in
    let none : c.len.result ≡ count_below at (is_first eq) = omega (arith, f, c.len.ensures, c.loop-place.firsts.ok.0) in
    let before : c.push.new.self.items ≡ befores_to (at + 1) eq =
    c.in_ok-push.ensures.items ∙ ap₂ (λ l x. l ++ x ∷ []) c.loop-place.invariant.before none
    ∙ sym (list_to_next at (λ (i : ℕ). count_below i (is_first eq))) in
    let d = c.index.result.now in
    let class : d ≡ class_of eq at =
    c.index.ensures ∙ ap (λ l. get_or l first d) before ∙ ap (λ i. get_or (befores_to (at + 1) eq) i d) c.first_like-first.ensures ∙ class_at eq at d in
    record {
      before = before;
      numbers = c.in_ok-push-2.ensures.items ∙ ap₂ (λ l x. l ++ x ∷ []) c.loop-place.invariant.numbers class ∙ sym (list_to_next at (class_of eq));
      firsts = firsts c;
    }
  where
    firsts : (c : goal.Joined-first-place)
        → c.if-first-place.firsts.items ≡ firsts_to (c.loop-place.place + 1) (equal_in (truth c.args.st.now) c.args.sort)
    firsts c =
        let eq = equal_in (truth c.args.st.now) c.args.sort in
        let at = c.loop-place.place in
        elim c.if-first-place.branch [
          | then-first-place+in_ok-push-3 w ↦ ap (λ v. v.items) w.firsts-is ∙ w.in_ok-push-3.ensures.items
              ∙ ap (λ l. l ++ at ∷ []) c.loop-place.invariant.firsts
              ∙ sym (firsts_pushed eq at (eq-eqb (first_like eq at) at (sym c.first_like-first.ensures ∙ w.if-first-place.true)))
          | else-first-place w ↦ ap (λ v. v.items) w.firsts-is ∙ c.loop-place.invariant.firsts
              ∙ sym (firsts_kept eq at (ne_eqb (first_like eq at) at (λ q. w.if-first-place.false (c.first_like-first.ensures ∙ q))))
        ]
