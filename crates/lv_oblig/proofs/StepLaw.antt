-- The updates of a step make the structure after it.
use Rattle.std.proofs.Common.{◌≡◌, ℕ, zero, suc, ◌+◌, ◌-◌, ◌<◌, ◌≤◌, Bool, true, false, not, ◌&&◌, ◌||◌, eqb, cond, List, [], ◌∷◌, ◌++◌, length, get_or, reverse, Some, None, refl, sym, ap, ap₂, subst, ◌∙◌, arith, ⊎_elim}
use Rattle.std.proofs.Math.Bool.{and-true}
use Rattle.std.proofs.lemmas.Bool.{cases_Bool, eqb-true}
use Rattle.std.proofs.lemmas.List.{get_or-reverse, length-append, length-reverse}
use Rattle.std.proofs.lemmas.Option.{slice_get_within}
use Rattle.lv_formula.specs.declared.symbols.SortId.{SortId}
use Rattle.lv_formula.specs.declared.symbols.Sym.{Sym}
use Rattle.lv_formula.specs.declared.symbols.Sym.TheVariants.{Own, Witness, Label, Frozen, Saved, Touched, Kept, Due, Copy, CopyLabel, Next, Param}
use Rattle.lv_formula.specs.declared.terms.Term.{Term}
use Rattle.lv_formula.specs.declared.terms.Term.TheVariants.{Var, Const}
use Rattle.lv_formula.specs.declared.update.Update.{Update}
use Rattle.lv_formula.specs.declared.formula.Formula.{Formula}
use Rattle.lv_formula.specs.declared.formula.Formula.TheVariants.{Atom, Not}
use Rattle.lv_formula.specs.Fits.{fits_in, sort_of}
use Rattle.lv_formula.specs.Measures.{free_bound_of}
use Rattle.lv_formula.specs.Symbols.{sym_eq}
use Rattle.lv_formula.specs.Vocabulary.{constant_in, relation_in}
use Rattle.lv_formula.proofs.Folds.{fold_at-And, fold_at-Not, fold_at-Or, fold_at-True}
use Rattle.lv_formula.proofs.Induction.{Each}
use Rattle.lv_formula.specs.Updated.{body_in, term_in}
use Rattle.lv_formula.specs.Updated.{new_holds, new_value, updated}
use Rattle.lv_rewrite.proofs.InstantiateLaw.{truth_instantiate}
use Rattle.lv_rewrite.proofs.ReplaceLaw.{body_alone, values_append, values_reverse}
use Rattle.lv_rewrite.proofs.ScopeLaw.{bound_in}
use Rattle.lv_formula.specs.Meaning.{AgreeOn, Meaning, in_range, is_element}
use Rattle.lv_formula.specs.Tuples.{over}
use Rattle.lv_formula.specs.Truth.{all_true_in, any_true_in, truth_in, truth_step, value_of, values_of}
use Rattle.lv_formula.proofs.Below.{any_below_same}
use Rattle.lv_system.specs.declared.parts.Parts.{Parts}
use Rattle.lv_system.specs.declared.parts.Action.{Action}
use Rattle.lv_system.specs.declared.parts.ActionUpdate.{ActionUpdate}
use Rattle.lv_system.specs.declared.parts.ActionUpdate.TheVariants.{Relation, Constant}
use Rattle.lv_system.specs.Step.{no_symbol, set_holds, set_value, sorts_at, sorts_or_none, symbol_at}
use Rattle.lv_system.specs.Vocabularies.{own_vocabulary, relation_sorts}
use Rattle.lv_labels.specs.Problem.{Problem, justice_at, problem_of, tuple_variables}
use Rattle.lv_labels.specs.Runs.{is_constant, is_passed}
use Rattle.lv_labels.proofs.Ranges.{over_length}
use Rattle.lv_temporal.proofs.Scoped.{UpdateFits}
use Rattle.lv_labels.proofs.TupleVariables.{tuple_read}
use Rattle.lv_labels.proofs.OverTuples.{all_true-append}
use Rattle.lv_footprint.specs.Footprint.{new_term, param_term, same_new, same_param, touched_after_of}
use Rattle.lv_footprint.specs.Gathered.{gathered}
use Rattle.lv_footprint.proofs.GatheredLaw.{any_gathered, any_true-append, same_if-true}
use Rattle.lv_labels.specs.declared.moves.Move.{Move}
use Rattle.lv_labels.specs.Monitor.{elements_in, is_due_then, is_freeze, is_gained, is_new_value, is_save, is_touched, params_in, single, stepped, stepped_holds, stepped_value}
use Rattle.lv_monitor.specs.Updates.{at_places, copies_of, due_then, is_changed, itself, move_body, move_updates_of, own_updates, param_terms, step_updates_of, touched_term, with_params}
use Rattle.lv_labels.specs.Vocabularies.{catch_vocabulary}
use Rattle.lv_temporal.proofs.Found.{IsConstantWord, IsRelationWord, catch-constant_found, catch-found}
use Rattle.lv_monitor.proofs.Lookups.{copy_term}
use Rattle.lv_oblig.proofs.NoNext.{no_next}
use Rattle.lv_monitor.proofs.StepLookups.{NotOwn, body_behind, copies, left, moved, no_term_there, own_naming, term_behind, term_moves}
use Rattle.lv_monitor.proofs.TupleLaw.{alone, itself_true, places_true, touched_term-true}

or_swap : (a b : Bool) → (a || b) ≡ (b || a)
or_swap true true = refl
or_swap true false = refl
or_swap false true = refl
or_swap false false = refl

or_cond : (a b : Bool) → (a || b) ≡ cond a true b
or_cond true b = refl
or_cond false b = refl

module _ (m : Meaning) where
  params_at : (k : ℕ) (ss : List SortId) (i : ℕ) → i < length ss → get_or (params_in m k ss) i 0 ≡ m.value (Param (k + i))
  params_at k [] i l = absurd (omega (arith, l))
  params_at k (s ∷ ss) zero l = let here : k ≡ k + 0 = omega arith in ap (λ j. m.value (Param j)) here
  params_at k (s ∷ ss) (suc i) l = let there : suc k + i ≡ k + suc i = omega arith in params_at (suc k) ss i (omega (arith, l)) ∙ ap (λ j. m.value (Param j)) there

  params_length : (k : ℕ) (ss : List SortId) → length (params_in m k ss) ≡ length ss
  params_length k [] = refl
  params_length k (s ∷ ss) = ap suc (params_length (suc k) ss)

  params_values : (env : List ℕ) (k : ℕ) (ss : List SortId) → values_of m env (param_terms k ss) ≡ params_in m k ss
  params_values env k [] = refl
  params_values env k (s ∷ ss) = ap (λ vs. m.value (Param k) ∷ vs) (params_values env (suc k) ss)

module _ (p : Parts) (a : Action) (m : Meaning) where
  abbrev q : Problem
  q = problem_of p

  abbrev es : List ℕ
  es = elements_in m a

  -- ---- the action

  -- a formula over the parameters and a tuple, with the words of the parameters
  pub params_true : (sorts : List SortId) (body : Formula) → fits_in (own_vocabulary p) (reverse (a.params ++ sorts)) body ≡ true → (tuple : List ℕ) → length tuple ≡ length sorts
      → truth_in m (with_params a sorts body) (reverse tuple) ≡ truth_in m body (reverse (es ++ tuple))
  params_true sorts body fits tuple e =
      let ts = param_terms 0 a.params ++ tuple_variables (length sorts) in
      let values : values_of m (reverse tuple) (reverse ts) ≡ reverse (es ++ tuple) =
      values_reverse m (reverse tuple) ts ∙ ap reverse (values_append m (reverse tuple) (param_terms 0 a.params) (tuple_variables (length sorts))
      ∙ ap₂ (λ xs ys. xs ++ ys) (params_values m (reverse tuple) 0 a.params) (tuple_read m (length sorts) tuple e)) in
      let bound : free_bound_of body ≤ length (reverse (a.params ++ sorts)) = bound_in (own_vocabulary p) body (reverse (a.params ++ sorts)) fits in
      let long : length (reverse (a.params ++ sorts)) ≡ length (es ++ tuple) =
      length-reverse (a.params ++ sorts) ∙ (length-append a.params sorts ∙ (ap₂ (λ x y. x + y) (sym (params_length m 0 a.params)) (sym e) ∙ sym (length-append es tuple))) in
      truth_instantiate m (reverse ts) body (reverse tuple)
      ∙ ap (λ vs. truth_in m body (vs ++ reverse tuple)) values
      ∙ body_alone m body (es ++ tuple) (reverse tuple) (subst (λ n. free_bound_of body ≤ n) long bound)

  param_value : (env : List ℕ) (t : Term) (s : SortId) → sort_of (own_vocabulary p) (reverse a.params) t ≡ Some s → value_of m env (param_term (length a.params) t) ≡ value_of m (reverse es) t
  param_value env (Const c) s h = refl
  param_value env (Var i) s h =
      let within : i < length (reverse a.params) = slice_get_within (reverse a.params) i s h in
      let same : length (reverse a.params) ≡ length a.params = length-reverse a.params in
      let long : length es ≡ length a.params = params_length m 0 a.params in
      let inside : i < length es = omega (arith, within, same, long) in
      let place : length es - 1 - i < length a.params = omega (arith, inside, long) in
      let z : length a.params - 1 - i ≡ 0 + (length es - 1 - i) = omega (arith, long) in
      ap (λ j. m.value (Param j)) z ∙ sym (params_at m 0 a.params (length es - 1 - i) place) ∙ sym (get_or-reverse es i 0 inside)

  module _ (more : List Update) where
    abbrev all : List ActionUpdate → List Update
    all us = own_updates p a us ++ more

    own_holds : (r : ℕ) (sorts : List SortId) → relation_sorts (symbol_at p r).shape ≡ Some sorts → (tuple : List ℕ) → in_range m sorts tuple ≡ true → body_in more (Own r) ≡ None
        → (us : List ActionUpdate) → Each (UpdateFits p a.params) us → set_holds p es m us r tuple ≡ new_holds m (Own r) (body_in (all us) (Own r)) tuple
    own_holds r sorts is tuple inside none [] fits = ap (λ o. new_holds m (Own r) o tuple) (sym none)
    own_holds r sorts is tuple inside none (Constant symbol term ∷ us) fits = own_holds r sorts is tuple inside none us fits.1
    own_holds r sorts is tuple inside none (Relation symbol body ∷ us) fits = ⊎_elim
        (λ e. let here : symbol ≡ r = eqb-true symbol r e in
        let there : sorts_at p r ≡ sorts = ap sorts_or_none is in
        let known : fits.0.0 ≡ sorts_at p symbol = sym (ap sorts_or_none fits.0.2) in
        let its : sorts_at p symbol ≡ sorts = ap (λ n. sorts_at p n) here ∙ there in
        ap (λ c. cond c (in_range m (sorts_at p r) tuple && truth_in m body (reverse (es ++ tuple))) (set_holds p es m us r tuple)) e
        ∙ ap (λ c. c && truth_in m body (reverse (es ++ tuple))) (ap (λ ss. in_range m ss tuple) there ∙ inside)
        ∙ sym (params_true (sorts_at p symbol) body (subst (λ ss. fits_in (own_vocabulary p) (reverse (a.params ++ ss)) body ≡ true) known fits.0.4) tuple
        (over_length (is_element m) sorts tuple inside ∙ ap length (sym its)))
        ∙ ap (λ c. new_holds m (Own r) (cond c (Some (with_params a (sorts_at p symbol) body)) (body_in (all us) (Own r))) tuple) (sym (own_naming symbol r ∙ e)))
        (λ e. ap (λ c. cond c (in_range m (sorts_at p r) tuple && truth_in m body (reverse (es ++ tuple))) (set_holds p es m us r tuple)) e
        ∙ own_holds r sorts is tuple inside none us fits.1
        ∙ ap (λ c. new_holds m (Own r) (cond c (Some (with_params a (sorts_at p symbol) body)) (body_in (all us) (Own r))) tuple) (sym (own_naming symbol r ∙ e)))
        (cases_Bool (eqb symbol r))

    own_value : (c : ℕ) → term_in more (Own c) ≡ None → (us : List ActionUpdate) → Each (UpdateFits p a.params) us → set_value es m us c ≡ new_value m (Own c) (term_in (all us) (Own c))
    own_value c none [] fits = ap (new_value m (Own c)) (sym none)
    own_value c none (Relation symbol body ∷ us) fits = own_value c none us fits.1
    own_value c none (Constant symbol term ∷ us) fits = by (eqb symbol c) (own_value c none us fits.1)
        ∙ ap (λ b. new_value m (Own c) (cond b (Some (param_term (length a.params) term)) (term_in (all us) (Own c)))) (sym (own_naming symbol c))
      where
        by : (b : Bool) → set_value es m us c ≡ new_value m (Own c) (term_in (all us) (Own c))
            → cond b (value_of m (reverse es) term) (set_value es m us c) ≡ new_value m (Own c) (cond b (Some (param_term (length a.params) term)) (term_in (all us) (Own c)))
        by true rest = sym (param_value [] term fits.0.0 fits.0.4)
        by false rest = rest

  -- ---- touched

  new_value_is : (env : List ℕ) (c : ℕ) (us : List ActionUpdate) → Each (UpdateFits p a.params) us → value_of m env (new_term (length a.params) us c) ≡ set_value es m us c
  new_value_is env c [] fits = refl
  new_value_is env c (Relation symbol body ∷ us) fits = new_value_is env c us fits.1
  new_value_is env c (Constant symbol term ∷ us) fits = by (eqb symbol c) (new_value_is env c us fits.1)
    where
      by : (b : Bool) → value_of m env (new_term (length a.params) us c) ≡ set_value es m us c
          → value_of m env (cond b (param_term (length a.params) term) (new_term (length a.params) us c)) ≡ cond b (value_of m (reverse es) term) (set_value es m us c)
      by true rest = param_value env term fits.0.0 fits.0.4
      by false rest = rest

  passed_says : (s : SortId) (x k : ℕ) (ss : List SortId) → any_true_in m (gathered (same_param s) k ss) (x ∷ []) ≡ is_passed ss (params_in m k ss) s x
  passed_says s x k [] = refl
  passed_says s x k (t ∷ ts) = any_true-append m (same_param s k t) (gathered (same_param s) (suc k) ts) (x ∷ [])
      ∙ ap₂ (λ b c. b || c) (same_if-true m (x ∷ []) (eqb t.0 s.0) (Var 0) (Const (Param k))) (passed_says s x (suc k) ts)

  module _ (fits : Each (UpdateFits p a.params) a.updates) where
    after_says : (s : SortId) (x : ℕ) → truth_in m (touched_after_of p a s) (x ∷ []) ≡ (is_gained q a m s x || is_touched m s x)
    after_says s x = fold_at-Or Bool (List ℕ) (truth_step m) (Atom (Touched s) (Var 0 ∷ []) ∷ (gathered (same_param s) 0 a.params ++ gathered (same_new a s) 0 p.symbols)) (x ∷ [])
        ∙ ap₂ (λ b c. b || c) (touched_term-true m s (Var 0) (x ∷ []))
        (any_true-append m (gathered (same_param s) 0 a.params) (gathered (same_new a s) 0 p.symbols) (x ∷ [])
        ∙ ap₂ (λ b c. b || c) (passed_says s x 0 a.params) news)
        ∙ or_swap (is_touched m s x) (is_gained q a m s x)
      where
        news : any_true_in m (gathered (same_new a s) 0 p.symbols) (x ∷ []) ≡ is_new_value q a m s x
        news = any_gathered no_symbol (same_new a s) m (x ∷ []) p.symbols
            ∙ any_below_same (length p.symbols) _ _ (λ c l. same_if-true m (x ∷ []) (not (symbol_at p c).fixed && is_constant (symbol_at p c) s) (Var 0) (new_term (length a.params) a.updates c)
            ∙ ap (λ v. (not (symbol_at p c).fixed && is_constant (symbol_at p c) s) && eqb v x) (new_value_is (x ∷ []) c a.updates fits))

    -- ---- the move

    module _ (mv : Move) where
      abbrev moves : List Update
      moves = move_updates_of q a mv

      abbrev us : List Update
      us = step_updates_of q a mv

      -- what a word is after the step: its body where it changes, and else what it was
      changed : (r : Sym) → NotOwn r → (sorts : List SortId) → relation_in (catch_vocabulary q).relations r ≡ Some sorts → (tuple : List ℕ) (b : Bool) → is_changed mv r ≡ b
          → cond b (truth_in m (move_body q a mv r sorts) (reverse tuple)) (m.holds r tuple) ≡ new_holds m r (body_in us r) tuple
      changed r other sorts is tuple true k = ap (λ o. new_holds m r o tuple) (sym (body_behind p a moves r other a.updates ∙ moved q a mv r sorts k is))
      changed r other sorts is tuple false k = ap (λ o. new_holds m r o tuple) (sym (body_behind p a moves r other a.updates ∙ left q a mv r k))

      due_says : (n : ℕ) (sorts : List SortId) → (justice_at q n).sorts ≡ sorts → (tuple : List ℕ) → in_range m sorts tuple ≡ true → all_true_in m (due_then mv n sorts) (reverse tuple) ≡ is_due_then q mv m n tuple
      due_says n sorts e tuple inside = by (is_freeze mv || is_save mv)
        where
          by : (b : Bool) → all_true_in m (cond b (at_places touched_term sorts) (itself (Due n) sorts ∷ [])) (reverse tuple) ≡ cond b (over (is_touched m) (justice_at q n).sorts tuple) (m.holds (Due n) tuple)
          by true = places_true m touched_term (is_touched m) (λ s t env h. touched_term-true m s t env) sorts tuple inside ∙ ap (λ ss. over (is_touched m) ss tuple) (sym e)
          by false = and-true (truth_in m (itself (Due n) sorts) (reverse tuple)) ∙ itself_true m (Due n) sorts tuple inside

      due_after : (n : ℕ) (sorts : List SortId) → (justice_at q n).sorts ≡ sorts → (tuple : List ℕ) → in_range m sorts tuple ≡ true
          → stepped_holds q mv a m (Due n) tuple ≡ truth_in m (move_body q a mv (Due n) sorts) (reverse tuple)
      due_after n sorts e tuple inside = sym (
          fold_at-And Bool (List ℕ) (truth_step m) (due_then mv n sorts ++ Not (justice_at q n).body ∷ []) (reverse tuple)
          ∙ all_true-append m (due_then mv n sorts) (Not (justice_at q n).body ∷ []) (reverse tuple)
          ∙ ap₂ (λ b c. b && c) (due_says n sorts e tuple inside) (and-true _ ∙ fold_at-Not Bool (List ℕ) (truth_step m) (justice_at q n).body (reverse tuple)))

      says : (r : Sym) (sorts : List SortId) → relation_in (catch_vocabulary q).relations r ≡ Some sorts → IsRelationWord q r sorts → (tuple : List ℕ) → in_range m sorts tuple ≡ true
          → stepped_holds q mv a m r tuple ≡ new_holds m r (body_in us r) tuple
      unfolding sym_eq
      says (Own n) sorts is w tuple inside = own_holds moves n sorts w.1 tuple inside (left q a mv (Own n) refl) a.updates fits
      says (Witness n) sorts is w tuple inside = absurd w
      says (Label n) sorts is w tuple inside = sym (itself_true m (Next n) sorts tuple inside) ∙ changed (Label n) (λ k. refl) sorts is tuple true refl
      says Frozen sorts is w tuple inside = or_cond (is_freeze mv) (m.holds Frozen tuple)
          ∙ ap (λ b. cond (is_freeze mv) b (m.holds Frozen tuple)) (sym (fold_at-True Bool (List ℕ) (truth_step m) (reverse tuple))) ∙ changed Frozen (λ k. refl) sorts is tuple (is_freeze mv) refl
      says Saved sorts is w tuple inside = or_cond (is_save mv) (m.holds Saved tuple)
          ∙ ap (λ b. cond (is_save mv) b (m.holds Saved tuple)) (sym (fold_at-True Bool (List ℕ) (truth_step m) (reverse tuple))) ∙ changed Saved (λ k. refl) sorts is tuple (is_save mv) refl
      says (Touched s) sorts is w tuple inside = alone m s tuple (subst (λ ss. in_range m ss tuple ≡ true) (sym w.1) inside) (single (λ x. is_gained q a m s x || is_touched m s x)) (truth_in m (touched_after_of p a s))
          (λ x e. sym (after_says s x)) ∙ changed (Touched s) (λ k. refl) sorts is tuple true refl
      says (Kept s) sorts is w tuple inside = ap (λ b. cond (is_freeze mv) b (m.holds (Kept s) tuple))
          (alone m s tuple (subst (λ ss. in_range m ss tuple ≡ true) (sym w.1) inside) (m.holds (Touched s)) (truth_in m (touched_term s (Var 0))) (λ x e. sym (touched_term-true m s (Var 0) (x ∷ []))))
          ∙ changed (Kept s) (λ k. refl) sorts is tuple (is_freeze mv) refl
      says (Due n) sorts is w tuple inside = due_after n sorts w.1 tuple inside ∙ changed (Due n) (λ k. refl) sorts is tuple true refl
      says (Copy n) sorts is w tuple inside = ap (λ b. cond (is_save mv) b (m.holds (Copy n) tuple)) (sym (itself_true m (Own n) sorts tuple inside)) ∙ changed (Copy n) (λ k. refl) sorts is tuple (is_save mv) refl
      says (CopyLabel n) sorts is w tuple inside = ap (λ b. cond (is_save mv) b (m.holds (CopyLabel n) tuple)) (sym (itself_true m (Label n) sorts tuple inside)) ∙ changed (CopyLabel n) (λ k. refl) sorts is tuple (is_save mv) refl
      says (Next n) sorts is w tuple inside = absurd (no_next q n sorts is)
      says (Param n) sorts is w tuple inside = absurd w

      copy_says : (n : ℕ) (s : SortId) → constant_in (catch_vocabulary q).constants (Copy n) ≡ Some s → cond (is_save mv) (m.value (Own n)) (m.value (Copy n)) ≡ new_value m (Copy n) (term_in (copies q a mv) (Copy n))
      copy_says n s is = by (is_save mv)
        where
          by : (b : Bool) → cond b (m.value (Own n)) (m.value (Copy n)) ≡ new_value m (Copy n) (term_in (cond b (copies_of (catch_vocabulary q).constants) []) (Copy n))
          by true = ap (new_value m (Copy n)) (sym (copy_term (catch_vocabulary q).constants n s is))
          by false = refl

      constant_says : (c : Sym) (s : SortId) → constant_in (catch_vocabulary q).constants c ≡ Some s → IsConstantWord q [] c s → stepped_value mv a m c ≡ new_value m c (term_in us c)
      unfolding sym_eq
      constant_says (Own n) s is w = own_value moves n (term_moves q a mv (Own n) ∙ no_term_there q a mv (Own n) refl) a.updates fits
      constant_says (Witness n) s is w = ap (new_value m (Witness n)) (sym (term_behind p a moves (Witness n) (λ k. refl) a.updates ∙ (term_moves q a mv (Witness n) ∙ no_term_there q a mv (Witness n) refl)))
      constant_says (Copy n) s is w = copy_says n s is ∙ ap (new_value m (Copy n)) (sym (term_behind p a moves (Copy n) (λ k. refl) a.updates ∙ term_moves q a mv (Copy n)))
      constant_says (Param n) s is w = absurd (omega (arith, w.0))
      constant_says _ s is w = absurd w

      -- the updated structure is the one after the step, on the vocabulary of the catch
      pub stepped_updated : AgreeOn (catch_vocabulary q) (stepped q mv a m) (updated m us)
      stepped_updated = record {
        sizes = λ s l. refl;
        relations = λ r sorts is tuple inside. says r sorts is (catch-found q r sorts is) tuple inside;
        constants = λ c s is. constant_says c s is (catch-constant_found q c s is);
      }
