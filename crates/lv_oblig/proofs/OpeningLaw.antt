-- The updates at the start make the opening.
use Rattle.std.proofs.Common.{◌≡◌, ℕ, Bool, true, false, cond, List, [], ◌∷◌, reverse, Option, Some, None, refl, sym, ap, subst, ◌∙◌, arith}
use Rattle.lv_formula.specs.declared.symbols.SortId.{SortId}
use Rattle.lv_formula.specs.declared.symbols.Sym.{Sym}
use Rattle.lv_formula.specs.declared.symbols.Sym.TheVariants.{Own, Witness, Label, Frozen, Saved, Touched, Kept, Due, Copy, CopyLabel, Next, Param}
use Rattle.lv_formula.specs.declared.terms.Term.{Term}
use Rattle.lv_formula.specs.declared.terms.Term.TheVariants.{Var}
use Rattle.lv_formula.specs.declared.update.Update.{Update}
use Rattle.lv_formula.specs.Vocabulary.{constant_in, relation_in}
use Rattle.lv_formula.proofs.Folds.{fold_at-And, fold_at-False}
use Rattle.lv_formula.specs.Updated.{body_in, term_in}
use Rattle.lv_formula.specs.Updated.{new_holds, new_value, updated}
use Rattle.lv_formula.specs.Meaning.{AgreeOn, Meaning, in_range, is_element}
use Rattle.lv_formula.specs.Tuples.{over}
use Rattle.lv_formula.specs.Truth.{truth_in, truth_step, value_of}
use Rattle.lv_system.specs.declared.parts.Parts.{Parts}
use Rattle.lv_labels.specs.Problem.{Problem, problem_of}
use Rattle.lv_labels.specs.Runs.{is_denoted, is_finite}
use Rattle.lv_footprint.specs.Footprint.{first_touched}
use Rattle.lv_monitor.proofs.FirstLaw.{first_true}
use Rattle.lv_labels.specs.Monitor.{is_touched_first, opening, opening_holds, opening_value, single}
use Rattle.lv_monitor.specs.Updates.{at_places, copies_of, is_added, start_body, start_updates_of}
use Rattle.lv_labels.specs.Vocabularies.{catch_vocabulary}
use Rattle.lv_temporal.proofs.Found.{IsConstantWord, IsRelationWord, catch-constant_found, catch-found}
use Rattle.lv_monitor.proofs.Lookups.{body_kept, body_left, copied, copy_term, no_body, no_term, term_left}
use Rattle.lv_oblig.proofs.NoNext.{no_next}
use Rattle.lv_monitor.proofs.TupleLaw.{alone, itself_true, places_true}

module _ (p : Parts) (m : Meaning) where
  abbrev q : Problem
  q = problem_of p

  abbrev us : List Update
  us = start_updates_of q

  -- of an element, what is touched first is what the formula says
  first_says : (s : SortId) (t : Term) (env : List ℕ) → is_element m s (value_of m env t) ≡ true → truth_in m (first_touched p s t) env ≡ is_touched_first q m s (value_of m env t)
  first_says s t env inside = first_true p m env s t ∙ ap (λ b. cond (is_finite p s) b (is_denoted q m s (value_of m env t))) (sym inside)

  kept_says : (r : Sym) (sorts : List SortId) → relation_in (catch_vocabulary q).relations r ≡ Some sorts → is_added r ≡ true → (tuple : List ℕ)
      → truth_in m (start_body p r sorts) (reverse tuple) ≡ new_holds m r (body_in us r) tuple
  kept_says r sorts is k tuple = ap (λ o. new_holds m r o tuple) (sym (body_kept is_added (start_body p) (copies_of (catch_vocabulary q).constants) r k (catch_vocabulary q).relations sorts is))

  left_says : (r : Sym) → is_added r ≡ false → (tuple : List ℕ) → m.holds r tuple ≡ new_holds m r (body_in us r) tuple
  left_says r k tuple = ap (λ o. new_holds m r o tuple)
      (sym (body_left is_added (start_body p) (copies_of (catch_vocabulary q).constants) r k (catch_vocabulary q).relations ∙ no_body (catch_vocabulary q).constants r))

  never : (env : List ℕ) → false ≡ truth_in m (start_body p Frozen []) env
  never env = sym (fold_at-False Bool (List ℕ) (truth_step m) env)

  says : (r : Sym) (sorts : List SortId) → relation_in (catch_vocabulary q).relations r ≡ Some sorts → IsRelationWord q r sorts → (tuple : List ℕ) → in_range m sorts tuple ≡ true
      → opening_holds q m r tuple ≡ new_holds m r (body_in us r) tuple
  says (Own n) sorts is w tuple inside = left_says (Own n) refl tuple
  says (Witness n) sorts is w tuple inside = absurd w
  says (Label n) sorts is w tuple inside = left_says (Label n) refl tuple
  says Frozen sorts is w tuple inside = never (reverse tuple) ∙ kept_says Frozen sorts is refl tuple
  says Saved sorts is w tuple inside = never (reverse tuple) ∙ kept_says Saved sorts is refl tuple
  says (Touched s) sorts is w tuple inside = alone m s tuple (subst (λ ss. in_range m ss tuple ≡ true) (sym w.1) inside) (single (is_touched_first q m s)) (truth_in m (first_touched p s (Var 0)))
      (λ x e. sym (first_says s (Var 0) (x ∷ []) e)) ∙ kept_says (Touched s) sorts is refl tuple
  says (Kept s) sorts is w tuple inside = never (reverse tuple) ∙ kept_says (Kept s) sorts is refl tuple
  says (Due n) sorts is w tuple inside = ap (λ ss. over (is_touched_first q m) ss tuple) w.1
      ∙ sym (fold_at-And Bool (List ℕ) (truth_step m) (at_places (first_touched p) sorts) (reverse tuple) ∙ places_true m (first_touched p) (is_touched_first q m) first_says sorts tuple inside)
      ∙ kept_says (Due n) sorts is refl tuple
  says (Copy n) sorts is w tuple inside = sym (itself_true m (Own n) sorts tuple inside) ∙ kept_says (Copy n) sorts is refl tuple
  says (CopyLabel n) sorts is w tuple inside = sym (itself_true m (Label n) sorts tuple inside) ∙ kept_says (CopyLabel n) sorts is refl tuple
  says (Next n) sorts is w tuple inside = absurd (no_next q n sorts is)
  says (Param n) sorts is w tuple inside = absurd w

  abbrev cs : Sym → Option Term
  cs c = term_in us c

  constant_left : (c : Sym) → copied c ≡ None → m.value c ≡ new_value m c (cs c)
  constant_left c h = ap (new_value m c) (sym (term_left is_added (start_body p) (copies_of (catch_vocabulary q).constants) c (catch_vocabulary q).relations ∙ no_term (catch_vocabulary q).constants c h))

  constant_says : (c : Sym) (s : SortId) → constant_in (catch_vocabulary q).constants c ≡ Some s → IsConstantWord q [] c s → opening_value m c ≡ new_value m c (cs c)
  constant_says (Own n) s is w = constant_left (Own n) refl
  constant_says (Witness n) s is w = constant_left (Witness n) refl
  constant_says (Copy n) s is w = ap (new_value m (Copy n)) (sym (term_left is_added (start_body p) (copies_of (catch_vocabulary q).constants) (Copy n) (catch_vocabulary q).relations ∙ copy_term (catch_vocabulary q).constants n s is))
  constant_says (Param n) s is w = absurd (omega (arith, w.0))
  constant_says _ s is w = absurd w

  -- the updated structure is the opening, on the vocabulary of the catch
  pub opening_updated : AgreeOn (catch_vocabulary q) (opening q m) (updated m us)
  opening_updated = record {
    sizes = λ s l. refl;
    relations = λ r sorts is tuple inside. says r sorts is (catch-found q r sorts is) tuple inside;
    constants = λ c s is. constant_says c s is (catch-constant_found q c s is);
  }
