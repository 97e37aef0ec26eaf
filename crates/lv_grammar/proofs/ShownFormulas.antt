-- The formulas of parts that fit can be shown, each alone.
use Rattle.std.proofs.Common.{◌≡◌, zero, suc, ◌+◌, ◌^◌, ◌<◌, ◌≤◌, true, List, [], ◌∷◌, ◌++◌, reverse, refl, ◌∙◌, arith}
use Rattle.std.specs.List.{All}
use Rattle.std.proofs.lemmas.Bool.{and_parts}
use Rattle.lv_formula.specs.declared.symbols.SortId.{SortId}
use Rattle.lv_formula.specs.declared.formula.Formula.{Formula}
use Rattle.lv_formula.specs.declared.vocabulary.Vocabulary.{Vocabulary}
use Rattle.lv_formula.specs.Fits.{fits_in}
use Rattle.lv_formula.proofs.Induction.{Each as Holds}
use Rattle.lv_system.specs.declared.parts.Parts.{Parts}
use Rattle.lv_system.specs.declared.parts.Action.{Action}
use Rattle.lv_system.specs.declared.parts.ActionUpdate.{ActionUpdate}
use Rattle.lv_system.specs.declared.parts.ActionUpdate.TheVariants.{Relation, Constant}
use Rattle.lv_system.specs.declared.parts.Fair.{Fair}
use Rattle.lv_system.specs.Vocabularies.{fixed_vocabulary, own_vocabulary}
use Rattle.lv_system.specs.Limits.{is_small, in_item}
use Rattle.lv_system.specs.Fits.{formula_fits, formulas_fit, update_fits, updates_fit, action_fits, actions_fit, fair_fits, fairs_fit, fits_parts}
use Rattle.lv_system.proofs.FitsFacts.{tests, fit_action, fit_fair, fit_relation}
use Rattle.lv_grammar.specs.Lifted.{lifted}
use Rattle.lv_grammar.specs.HaveWords.{has_words, invariants_have_words}
use Rattle.lv_grammar.specs.LayoutLaws.{CanBeShown, UpdateCanBeShown, FormulasCanBeShown}
use Rattle.lv_grammar.proofs.FittingParts.{holds_from}
use Rattle.lv_grammar.proofs.SymbolWords.{HaveNames, have_names}
use Rattle.lv_grammar.proofs.VocabularyWords.{AreSpoken}
use Rattle.lv_grammar.proofs.SpokenParts.{fixed_spoken, own_spoken, formula_has_words}
use Rattle.lv_grammar.proofs.ItemFits.{words_hold}

-- what follows from what holds of each holds of the one with each number
numbered : {X : Type 0} (P Q : X → Type 0) → ((x : X) → P x → Q x) → (xs : List X) → Holds P xs → All Q xs
numbered P Q one [] h k d lt = absurd (omega (arith, lt))
numbered P Q one (x ∷ xs) h zero d lt = one x h.0
numbered P Q one (x ∷ xs) h (suc k) d lt = numbered P Q one xs h.1 k d (omega (arith, lt))

module _ (p : Parts) where
  alone : (voc : Vocabulary) → AreSpoken p voc → (fs : List Formula) → formulas_fit voc fs ≡ true → All (CanBeShown p) fs
  alone voc spoken fs e =
      numbered (λ f. formula_fits in_item voc [] f ≡ true) (CanBeShown p) one fs
      (holds_from (λ f. formula_fits in_item voc [] f ≡ true) (formula_fits in_item voc []) (formulas_fit voc) (λ x xs. refl) (λ x e. e) fs e)
    where
      one : (f : Formula) → formula_fits in_item voc [] f ≡ true → CanBeShown p f
      one f k = formula_has_words p voc spoken [] f (and_parts (is_small in_item f) (fits_in voc [] f) k).1

  module _ (n : HaveNames p) where
    over_own : (context : List SortId) (f : Formula) → fits_in (own_vocabulary p) context f ≡ true → CanBeShown p f
    over_own = formula_has_words p (own_vocabulary p) (own_spoken p n)

    guard_shown : (a : Action) → action_fits p a ≡ true → CanBeShown p a.guard
    guard_shown a k = over_own (reverse a.params) a.guard (fit_action p a k).guard

    update_shown : (params : List SortId) (u : ActionUpdate) → update_fits p params u ≡ true → UpdateCanBeShown p u
    update_shown params (Relation symbol body) h =
        let f = fit_relation p params symbol body h in
        over_own (reverse (params ++ f.sorts)) body f.fits
    update_shown params (Constant symbol term) h = tt

    updates_shown : (a : Action) → action_fits p a ≡ true → All (UpdateCanBeShown p) a.updates
    updates_shown a h =
        numbered (λ u. update_fits p a.params u ≡ true) (UpdateCanBeShown p) (update_shown a.params) a.updates
        (holds_from (λ u. update_fits p a.params u ≡ true) (update_fits p a.params) (updates_fit p a.params) (λ x xs. refl) (λ x e. e) a.updates (fit_action p a h).updates)

    fair_shown : (c : Fair) → fair_fits p c ≡ true → CanBeShown p c.condition
    fair_shown c k = over_own (reverse c.params) c.condition (fit_fair p c k).condition

-- each formula of parts that fit can be shown
pub formulas_can_be_shown : (p : Parts) → fits_parts p ≡ true → invariants_have_words p p.invariants ≡ true → FormulasCanBeShown p
formulas_can_be_shown p fits words =
    let t = tests p fits in
    let n = have_names p t.names in
    let actions = holds_from (λ a. action_fits p a ≡ true) (action_fits p) (actions_fit p) (λ x xs. refl) (λ x e. e) p.actions t.actions in
    let fairs = holds_from (λ c. fair_fits p c ≡ true) (fair_fits p) (fairs_fit p) (λ x xs. refl) (λ x e. e) p.fairs t.fairs in
    record {
      axioms = alone p (fixed_vocabulary p) (fixed_spoken p n) p.axioms t.axioms;
      inits = alone p (own_vocabulary p) (own_spoken p n) p.inits t.inits;
      guards = numbered (λ a. action_fits p a ≡ true) (λ a. CanBeShown p a.guard) (guard_shown p n) p.actions actions;
      updates = numbered (λ a. action_fits p a ≡ true) (λ a. All (UpdateCanBeShown p) a.updates) (updates_shown p n) p.actions actions;
      fairs = numbered (λ c. fair_fits p c ≡ true) (λ c. CanBeShown p c.condition) (fair_shown p n) p.fairs fairs;
      invariants = numbered (λ i. has_words p (lifted i.formula) ≡ true) (λ i. CanBeShown p i.formula) (λ i h. h) p.invariants (words_hold p p.invariants words);
    }
