-- The sentences of an obligation stand over its vocabulary.
use Rattle.std.proofs.Common.{◌≡◌, ℕ, suc, ◌+◌, ◌-◌, ◌<◌, Bool, true, false, not, ◌||◌, eqb, cond, List, [], ◌∷◌, ◌++◌, length, get_or, reverse, All, Some, refl, sym, ap, subst, ◌∙◌, arith, ⊎_elim}
use Rattle.std.proofs.lemmas.Bool.{and_from, and_parts, cases_Bool, eqb-true}
use Rattle.std.proofs.lemmas.List.{append-nil, get_or-reverse, length-reverse}
use Rattle.std.proofs.lemmas.Option.{get_or_from_slice_get, slice_get_within}
use Rattle.lv_formula.specs.declared.symbols.SortId.{SortId}
use Rattle.lv_formula.specs.declared.symbols.Sym.{Sym}
use Rattle.lv_formula.specs.declared.symbols.Sym.TheVariants.{Own, Witness, Label, Frozen, Saved, Touched, Kept, Due, Copy, CopyLabel, Next, Param}
use Rattle.lv_formula.specs.declared.terms.Term.{Term}
use Rattle.lv_formula.specs.declared.terms.Term.TheVariants.{Var, Const}
use Rattle.lv_formula.specs.declared.vocabulary.Vocabulary.{Vocabulary}
use Rattle.lv_formula.specs.declared.formula.Formula.{Formula}
use Rattle.lv_formula.specs.declared.formula.Formula.TheVariants.{True, Atom, Not, Or}
use Rattle.lv_formula.specs.Fits.{all_fit_in, are_arguments, fits_in, fits_step, have_sorts, is_sort, sort_of}
use Rattle.lv_formula.specs.Symbols.{sym_eq}
use Rattle.lv_formula.specs.Vocabulary.{constant_in, relation_in}
use Rattle.lv_formula.proofs.AgreeLaw.{same_sort}
use Rattle.lv_formula.proofs.Folds.{fold_at-And, fold_at-Atom, fold_at-False, fold_at-Not, fold_at-Or, fold_at-Same, fold_at-True}
use Rattle.lv_formula.proofs.Induction.{Each}
use Rattle.lv_formula.specs.Updated.{body_in, term_in}
use Rattle.lv_rewrite.specs.Replace.{new_constant}
use Rattle.lv_system.specs.declared.parts.Action.{Action}
use Rattle.lv_system.specs.declared.parts.ActionUpdate.{ActionUpdate}
use Rattle.lv_system.specs.declared.parts.ActionUpdate.TheVariants.{Relation, Constant}
use Rattle.lv_system.specs.Step.{no_symbol, sorts_at, sorts_or_none, symbol_at}
use Rattle.lv_system.specs.Vocabularies.{constant_sort, own_vocabulary, relation_sorts}
use Rattle.lv_labels.specs.Problem.{Problem, justice_at, state_vocabulary, tuple_variables}
use Rattle.lv_labels.specs.declared.moves.Move.{Move}
use Rattle.lv_labels.specs.Monitor.{is_freeze, is_save}
use Rattle.lv_labels.specs.Vocabularies.{catch_vocabulary, step_vocabulary}
use Rattle.lv_temporal.proofs.Differ.{AreSortsThere}
use Rattle.lv_temporal.proofs.Extends.{extends_both, extends_self, state_extends_own, step_extends_catch, step_extends_state}
use Rattle.lv_temporal.proofs.Fits.{Extends}
use Rattle.lv_temporal.proofs.FitsMore.{fits_more}
use Rattle.lv_temporal.proofs.Found.{IsConstantWord, IsRelationWord, catch-constant_found, catch-found, catch-step, label-state, next-step, own-constant_state, own-state, param-step, touched-catch, witness-state}
use Rattle.lv_temporal.proofs.Scoped.{UpdateFits}
use Rattle.lv_temporal.proofs.Words.{no_sort_id, no_witness_decl}
use Rattle.lv_footprint.specs.Footprint.{first_touched, is_constant, is_finite, new_term, param_term, same_constant, same_if, same_new, same_param, same_witness, touched_after_of}
use Rattle.lv_footprint.specs.Gathered.{gathered}
use Rattle.lv_monitor.specs.Updates.{at_places, copies_of, due_then, is_added, is_changed, itself, move_body, move_updates_of, own_updates, param_terms, start_body, start_updates_of, step_updates_of, touched_term, with_params}
use Rattle.lv_monitor.proofs.InstanceFits.{BodyFits, all_fit-append, all_gathered_fit, have_append, have_reverse, instance_fits, places_fit, sort_is, sorts_agree, variables_have}
use Rattle.lv_monitor.proofs.Lookups.{body_kept, body_left, copy_term, no_body, no_term, term_left}
use Rattle.lv_oblig.proofs.NoNext.{no_next}
use Rattle.lv_monitor.proofs.StepLookups.{NotOwn, body_behind, copies, left, moved, no_term_there, own_naming, term_behind, term_moves}

-- nothing stands in a context but the tuple
closed : (voc : Vocabulary) (ss : List SortId) (f : Formula) → fits_in voc (reverse ss ++ []) f ≡ true → fits_in voc (reverse ss) f ≡ true
closed voc ss f h = subst (λ c. fits_in voc c f ≡ true) (append-nil (reverse ss)) h

all_closed : (voc : Vocabulary) (ss : List SortId) (fs : List Formula) → all_fit_in voc (reverse ss ++ []) fs ≡ true → all_fit_in voc (reverse ss) fs ≡ true
all_closed voc ss fs h = subst (λ c. all_fit_in voc c fs ≡ true) (append-nil (reverse ss)) h

same_if_fits : (voc : Vocabulary) (context : List SortId) (b : Bool) (t u : Term) (s : SortId) → sort_of voc context t ≡ Some s → (b ≡ true → sort_of voc context u ≡ Some s) → all_fit_in voc context (same_if b t u) ≡ true
same_if_fits voc c true t u s h k = and_from _ true (fold_at-Same Bool (List SortId) (fits_step voc) t u c ∙ sorts_agree _ _ s h (k refl)) refl
same_if_fits voc c false t u s h k = refl

-- a relation for its own tuple
pub itself_fits : (voc : Vocabulary) (r : Sym) (ss : List SortId) → relation_in voc.relations r ≡ Some ss → fits_in voc (reverse ss) (itself r ss) ≡ true
itself_fits voc r ss is = closed voc ss (itself r ss) (fold_at-Atom Bool (List SortId) (fits_step voc) r (tuple_variables (length ss)) (reverse ss ++ [])
    ∙ (ap (λ o. are_arguments voc (reverse ss ++ []) (tuple_variables (length ss)) o) is ∙ variables_have voc ss []))

-- a set for a term of its sort
pub member_fits : (voc : Vocabulary) (context : List SortId) (r : Sym) (s : SortId) (t : Term) → relation_in voc.relations r ≡ Some (s ∷ []) → sort_of voc context t ≡ Some s → fits_in voc context (Atom r (t ∷ [])) ≡ true
member_fits voc c r s t is h = fold_at-Atom Bool (List SortId) (fits_step voc) r (t ∷ []) c
    ∙ (ap (λ o. are_arguments voc c (t ∷ []) o) is ∙ and_from (is_sort (sort_of voc c t) s) true (sort_is (sort_of voc c t) s h) refl)

module _ (q : Problem) (there : AreSortsThere q) where
  -- ---- touched at the start

  module _ (voc : Vocabulary) (more : Extends (state_vocabulary q) voc) where
    own_constant : (n : ℕ) (s : SortId) → n < length q.parts.symbols → is_constant (symbol_at q.parts n) s ≡ true → constant_in voc.constants (Own n) ≡ Some s
    own_constant n s l e = more.constants (Own n) s (own-constant_state q n s l (same_sort (constant_sort (symbol_at q.parts n).shape) s e))

    witness_constant : (k : ℕ) (s : SortId) → k < length q.parts.witnesses → eqb (get_or q.parts.witnesses k no_witness_decl).sort.0 s.0 ≡ true → constant_in voc.constants (Witness k) ≡ Some s
    witness_constant k s l e = more.constants (Witness k) s (witness-state q k l ∙ same_sort (Some (get_or q.parts.witnesses k no_witness_decl).sort) s e)

    pub first_fits : (context : List SortId) (s : SortId) (t : Term) → sort_of voc context t ≡ Some s → fits_in voc context (first_touched q.parts s t) ≡ true
    first_fits c s t h = by (is_finite q.parts s)
      where
        by : (b : Bool) → fits_in voc c (cond b True (Or (gathered (same_constant s t) 0 q.parts.symbols ++ gathered (same_witness s t) 0 q.parts.witnesses))) ≡ true
        by true = fold_at-True Bool (List SortId) (fits_step voc) c
        by false = fold_at-Or Bool (List SortId) (fits_step voc) (gathered (same_constant s t) 0 q.parts.symbols ++ gathered (same_witness s t) 0 q.parts.witnesses) c
            ∙ all_fit-append voc c (gathered (same_constant s t) 0 q.parts.symbols) (gathered (same_witness s t) 0 q.parts.witnesses)
            (all_gathered_fit voc no_symbol c (same_constant s t) q.parts.symbols (λ n l. same_if_fits voc c _ t (Const (Own n)) s h (own_constant n s l)))
            (all_gathered_fit voc no_witness_decl c (same_witness s t) q.parts.witnesses (λ k l. same_if_fits voc c _ t (Const (Witness k)) s h (witness_constant k s l)))

  -- ---- the opening

  abbrev state : Vocabulary
  state = state_vocabulary q

  abbrev catch : Vocabulary
  catch = catch_vocabulary q

  first_body : (r : Sym) (ss : List SortId) → IsRelationWord q r ss → is_added r ≡ true → fits_in state (reverse ss) (start_body q.parts r ss) ≡ true
  first_body (Own n) ss w k = cc
  first_body (Witness n) ss w k = cc
  first_body (Label n) ss w k = cc
  first_body Frozen ss w k = fold_at-False Bool (List SortId) (fits_step state) (reverse ss)
  first_body Saved ss w k = fold_at-False Bool (List SortId) (fits_step state) (reverse ss)
  first_body (Touched s) ss w k = subst (λ x. fits_in state (reverse x) (first_touched q.parts s (Var 0)) ≡ true) w.1 (first_fits state (extends_self state) (s ∷ []) s (Var 0) refl)
  first_body (Kept s) ss w k = fold_at-False Bool (List SortId) (fits_step state) (reverse ss)
  first_body (Due j) ss w k = fold_at-And Bool (List SortId) (fits_step state) (at_places (first_touched q.parts) ss) (reverse ss)
      ∙ all_closed state ss (at_places (first_touched q.parts) ss)
      (places_fit state (first_touched q.parts) (λ c s t inside h. first_fits state (extends_self state) c s t h) ss [] (subst (λ x. All (λ s. s.0 < length q.parts.sorts) x) w.1 (there.justice j w.0)))
  first_body (Copy n) ss w k = itself_fits state (Own n) ss (own-state q n ss w.0 w.2)
  first_body (CopyLabel l) ss w k = itself_fits state (Label l) ss (label-state q l w.0 ∙ ap Some w.1)
  first_body (Next n) ss w k = cc
  first_body (Param n) ss w k = cc

  first_left : (r : Sym) (ss : List SortId) → IsRelationWord q r ss → relation_in catch.relations r ≡ Some ss → is_added r ≡ false → relation_in state.relations r ≡ Some ss
  first_left (Own n) ss w is k = own-state q n ss w.0 w.1
  first_left (Witness n) ss w is k = absurd w
  first_left (Label l) ss w is k = label-state q l w.0 ∙ ap Some w.1
  first_left Frozen ss w is k = cc
  first_left Saved ss w is k = cc
  first_left (Touched s) ss w is k = cc
  first_left (Kept s) ss w is k = cc
  first_left (Due j) ss w is k = cc
  first_left (Copy n) ss w is k = cc
  first_left (CopyLabel l) ss w is k = cc
  first_left (Next n) ss w is k = absurd (no_next q n ss is)
  first_left (Param n) ss w is k = absurd w

  -- each relation of the monitored structure becomes a body over the state, or is one of the state
  pub start_bodies : (r : Sym) (ss : List SortId) → relation_in catch.relations r ≡ Some ss → BodyFits state r ss (body_in (start_updates_of q) r)
  start_bodies r ss is = ⊎_elim
      (λ k. subst (BodyFits state r ss) (sym (body_kept is_added (start_body q.parts) _ r k catch.relations ss is)) (first_body r ss (catch-found q r ss is) k))
      (λ k. subst (BodyFits state r ss) (sym (body_left is_added (start_body q.parts) _ r k catch.relations ∙ no_body catch.constants r)) (first_left r ss (catch-found q r ss is) is k))
      (cases_Bool (is_added r))

  start_constant : (context : List SortId) (c : Sym) (s : SortId) → IsConstantWord q [] c s → constant_in catch.constants c ≡ Some s → sort_of state context (new_constant c (term_in (start_updates_of q) c)) ≡ Some s
  start_constant x (Own n) s w is = ap (λ o. sort_of state x (new_constant (Own n) o)) (term_left is_added (start_body q.parts) _ (Own n) catch.relations ∙ no_term catch.constants (Own n) refl)
      ∙ own-constant_state q n s w.0 w.1
  start_constant x (Witness k) s w is = ap (λ o. sort_of state x (new_constant (Witness k) o)) (term_left is_added (start_body q.parts) _ (Witness k) catch.relations ∙ no_term catch.constants (Witness k) refl)
      ∙ (witness-state q k w.0 ∙ ap Some w.1)
  start_constant x (Copy n) s w is = ap (λ o. sort_of state x (new_constant (Copy n) o)) (term_left is_added (start_body q.parts) _ (Copy n) catch.relations ∙ copy_term catch.constants n s is)
      ∙ own-constant_state q n s w.0 w.2
  start_constant x (Param k) s w is = absurd (omega (arith, w.0))
  start_constant x _ s w is = absurd w

  pub start_constants_fit : (context : List SortId) (c : Sym) (s : SortId) → constant_in catch.constants c ≡ Some s → sort_of state context (new_constant c (term_in (start_updates_of q) c)) ≡ Some s
  start_constants_fit x c s is = start_constant x c s (catch-constant_found q c s is) is

  -- ---- a step

  module _ (a : Action) (updates : Each (UpdateFits q.parts a.params) a.updates) where
    abbrev step : Vocabulary
    step = step_vocabulary q a

    grown : Extends state step
    grown = step_extends_state q a

    own_grown : Extends (own_vocabulary q.parts) step
    own_grown = extends_both (own_vocabulary q.parts) state step (state_extends_own q) grown

    params_have : (context : List SortId) (k : ℕ) (ss : List SortId) → ((i : ℕ) → i < length ss → constant_in step.constants (Param (k + i)) ≡ Some (get_or ss i no_sort_id)) → have_sorts step context (param_terms k ss) ss ≡ true
    params_have c k [] h = refl
    params_have c k (s ∷ ss) h = and_from (is_sort (constant_in step.constants (Param k)) s) (have_sorts step c (param_terms (suc k) ss) ss)
        (let here : k + 0 ≡ k = omega arith in sort_is _ s (subst (λ j. constant_in step.constants (Param j) ≡ Some s) here (h 0 (omega arith))))
        (params_have c (suc k) ss (λ i l. let on : k + suc i ≡ suc k + i = omega arith in subst (λ j. constant_in step.constants (Param j) ≡ Some (get_or ss i no_sort_id)) on (h (suc i) (omega (arith, l)))))

    -- a formula over the parameters and a tuple, with the words of the parameters
    pub with_params_fits : (ss : List SortId) (body : Formula) → fits_in (own_vocabulary q.parts) (reverse (a.params ++ ss)) body ≡ true → fits_in step (reverse ss) (with_params a ss body) ≡ true
    with_params_fits ss body h =
        let ts = param_terms 0 a.params ++ tuple_variables (length ss) in
        let vars : have_sorts step (reverse ss) (tuple_variables (length ss)) ss ≡ true = subst (λ c. have_sorts step c (tuple_variables (length ss)) ss ≡ true) (append-nil (reverse ss)) (variables_have step ss []) in
        let params : have_sorts step (reverse ss) (param_terms 0 a.params) a.params ≡ true =
        params_have (reverse ss) 0 a.params (λ i l. let z : i ≡ 0 + i = omega arith in subst (λ j. constant_in step.constants (Param j) ≡ Some (get_or a.params i no_sort_id)) z (param-step q a i l)) in
        instance_fits step (reverse ts) (reverse (a.params ++ ss)) (reverse ss)
        (have_reverse step (reverse ss) ts (a.params ++ ss) (have_append step (reverse ss) (param_terms 0 a.params) (tuple_variables (length ss)) a.params ss params vars))
        body (fits_more (own_vocabulary q.parts) step own_grown body (reverse (a.params ++ ss)) h)

    param_fits : (context : List SortId) (t : Term) (s : SortId) → sort_of (own_vocabulary q.parts) (reverse a.params) t ≡ Some s → sort_of step context (param_term (length a.params) t) ≡ Some s
    param_fits c (Const k) s h = own_grown.constants k s h
    param_fits c (Var i) s h =
        let within : i < length (reverse a.params) = slice_get_within (reverse a.params) i s h in
        let same : length (reverse a.params) ≡ length a.params = length-reverse a.params in
        let inside : i < length a.params = omega (arith, within, same) in
        let place : length a.params - 1 - i < length a.params = omega (arith, inside) in
        param-step q a (length a.params - 1 - i) place
        ∙ ap Some (sym (get_or-reverse a.params i no_sort_id inside) ∙ get_or_from_slice_get (reverse a.params) i s no_sort_id h)

    new_fits : (context : List SortId) (c : ℕ) (s : SortId) → c < length q.parts.symbols → constant_sort (symbol_at q.parts c).shape ≡ Some s → (us : List ActionUpdate) → Each (UpdateFits q.parts a.params) us
        → sort_of step context (new_term (length a.params) us c) ≡ Some s
    new_fits x c s l is [] fits = grown.constants (Own c) s (own-constant_state q c s l is)
    new_fits x c s l is (Relation symbol body ∷ us) fits = new_fits x c s l is us fits.1
    new_fits x c s l is (Constant symbol term ∷ us) fits = by (eqb symbol c) refl (new_fits x c s l is us fits.1)
      where
        by : (b : Bool) → eqb symbol c ≡ b → sort_of step x (new_term (length a.params) us c) ≡ Some s → sort_of step x (cond b (param_term (length a.params) term) (new_term (length a.params) us c)) ≡ Some s
        by true e rest = param_fits x term fits.0.0 fits.0.4 ∙ (sym fits.0.2 ∙ (ap (λ n. constant_sort (symbol_at q.parts n).shape) (eqb-true symbol c e) ∙ is))
        by false e rest = rest

    touched_in : (s : SortId) → s.0 < length q.parts.sorts → relation_in step.relations (Touched s) ≡ Some (s ∷ [])
    touched_in s l = catch-step q a (Touched s) (s ∷ []) (touched-catch q s l)

    passed_fit : (s : SortId) (k : ℕ) (ss : List SortId) → ((i : ℕ) → i < length ss → constant_in step.constants (Param (k + i)) ≡ Some (get_or ss i no_sort_id)) → all_fit_in step (s ∷ []) (gathered (same_param s) k ss) ≡ true
    passed_fit s k [] h = refl
    passed_fit s k (x ∷ xs) h = all_fit-append step (s ∷ []) (same_param s k x) (gathered (same_param s) (suc k) xs)
        (same_if_fits step (s ∷ []) (eqb x.0 s.0) (Var 0) (Const (Param k)) s refl
        (λ e. let here : k + 0 ≡ k = omega arith in subst (λ j. constant_in step.constants (Param j) ≡ Some x) here (h 0 (omega arith)) ∙ same_sort (Some x) s e))
        (passed_fit s (suc k) xs (λ i l. let on : k + suc i ≡ suc k + i = omega arith in subst (λ j. constant_in step.constants (Param j) ≡ Some (get_or xs i no_sort_id)) on (h (suc i) (omega (arith, l)))))

    after_fits : (s : SortId) → s.0 < length q.parts.sorts → fits_in step (s ∷ []) (touched_after_of q.parts a s) ≡ true
    after_fits s l = fold_at-Or Bool (List SortId) (fits_step step) (Atom (Touched s) (Var 0 ∷ []) ∷ (gathered (same_param s) 0 a.params ++ gathered (same_new a s) 0 q.parts.symbols)) (s ∷ [])
        ∙ and_from _ _ (member_fits step (s ∷ []) (Touched s) s (Var 0) (touched_in s l) refl)
        (all_fit-append step (s ∷ []) (gathered (same_param s) 0 a.params) (gathered (same_new a s) 0 q.parts.symbols)
        (passed_fit s 0 a.params (λ i b. let z : i ≡ 0 + i = omega arith in subst (λ j. constant_in step.constants (Param j) ≡ Some (get_or a.params i no_sort_id)) z (param-step q a i b)))
        (all_gathered_fit step no_symbol (s ∷ []) (same_new a s) q.parts.symbols (λ n b. same_if_fits step (s ∷ []) _ (Var 0) (new_term (length a.params) a.updates n) s refl
        (λ e. new_fits (s ∷ []) n s b (same_sort (constant_sort (symbol_at q.parts n).shape) s (and_parts (not (symbol_at q.parts n).fixed) (is_constant (symbol_at q.parts n) s) e).1) a.updates updates))))

    module _ (justice : (j : ℕ) → j < length q.justice → fits_in state (reverse (justice_at q j).sorts) (justice_at q j).body ≡ true) (mv : Move) where
      due_fits : (j : ℕ) (ss : List SortId) → relation_in catch.relations (Due j) ≡ Some ss → All (λ s. s.0 < length q.parts.sorts) ss → all_fit_in step (reverse ss) (due_then mv j ss) ≡ true
      due_fits j ss is inside = by (is_freeze mv || is_save mv)
        where
          by : (b : Bool) → all_fit_in step (reverse ss) (cond b (at_places touched_term ss) (itself (Due j) ss ∷ [])) ≡ true
          by true = all_closed step ss (at_places touched_term ss) (places_fit step touched_term (λ c s t l h. member_fits step c (Touched s) s t (touched_in s l) h) ss [] inside)
          by false = and_from _ true (itself_fits step (Due j) ss (catch-step q a (Due j) ss is)) refl

      moved_body : (r : Sym) (ss : List SortId) → IsRelationWord q r ss → relation_in catch.relations r ≡ Some ss → is_changed mv r ≡ true → fits_in step (reverse ss) (move_body q a mv r ss) ≡ true
      moved_body (Own n) ss w is k = cc
      moved_body (Witness n) ss w is k = absurd w
      moved_body (Label l) ss w is k = itself_fits step (Next l) ss (next-step q a l w.0 ∙ ap Some w.1)
      moved_body Frozen ss w is k = fold_at-True Bool (List SortId) (fits_step step) (reverse ss)
      moved_body Saved ss w is k = fold_at-True Bool (List SortId) (fits_step step) (reverse ss)
      moved_body (Touched s) ss w is k = subst (λ x. fits_in step (reverse x) (touched_after_of q.parts a s) ≡ true) w.1 (after_fits s w.0)
      moved_body (Kept s) ss w is k = subst (λ x. fits_in step (reverse x) (touched_term s (Var 0)) ≡ true) w.1 (member_fits step (s ∷ []) (Touched s) s (Var 0) (touched_in s w.0) refl)
      moved_body (Due j) ss w is k = fold_at-And Bool (List SortId) (fits_step step) (due_then mv j ss ++ Not (justice_at q j).body ∷ []) (reverse ss)
          ∙ all_fit-append step (reverse ss) (due_then mv j ss) (Not (justice_at q j).body ∷ [])
          (due_fits j ss is (subst (λ x. All (λ s. s.0 < length q.parts.sorts) x) w.1 (there.justice j w.0)))
          (and_from _ true (fold_at-Not Bool (List SortId) (fits_step step) (justice_at q j).body (reverse ss)
          ∙ subst (λ x. fits_in step (reverse x) (justice_at q j).body ≡ true) w.1 (fits_more state step grown (justice_at q j).body (reverse (justice_at q j).sorts) (justice j w.0))) refl)
      moved_body (Copy n) ss w is k = itself_fits step (Own n) ss (grown.relations (Own n) ss (own-state q n ss w.0 w.2))
      moved_body (CopyLabel l) ss w is k = itself_fits step (Label l) ss (grown.relations (Label l) ss (label-state q l w.0 ∙ ap Some w.1))
      moved_body (Next n) ss w is k = cc
      moved_body (Param n) ss w is k = absurd w

      move_bodies : (r : Sym) (ss : List SortId) → relation_in catch.relations r ≡ Some ss → BodyFits step r ss (body_in (move_updates_of q a mv) r)
      move_bodies r ss is = ⊎_elim
          (λ k. subst (BodyFits step r ss) (sym (moved q a mv r ss k is)) (moved_body r ss (catch-found q r ss is) is k))
          (λ k. subst (BodyFits step r ss) (sym (left q a mv r k)) (catch-step q a r ss is))
          (cases_Bool (is_changed mv r))

      own_body : (n : ℕ) (ss : List SortId) → relation_sorts (symbol_at q.parts n).shape ≡ Some ss → BodyFits step (Own n) ss (body_in (move_updates_of q a mv) (Own n))
          → (us : List ActionUpdate) → Each (UpdateFits q.parts a.params) us → BodyFits step (Own n) ss (body_in (own_updates q.parts a us ++ move_updates_of q a mv) (Own n))
      own_body n ss is h [] fits = h
      own_body n ss is h (Constant symbol term ∷ us) fits = own_body n ss is h us fits.1
      own_body n ss is h (Relation symbol body ∷ us) fits =
          subst (λ b. BodyFits step (Own n) ss (cond b (Some (with_params a (sorts_at q.parts symbol) body)) (body_in (own_updates q.parts a us ++ move_updates_of q a mv) (Own n)))) (sym (own_naming symbol n))
          (by (eqb symbol n) refl (own_body n ss is h us fits.1))
        where
          by : (b : Bool) → eqb symbol n ≡ b → BodyFits step (Own n) ss (body_in (own_updates q.parts a us ++ move_updates_of q a mv) (Own n))
              → BodyFits step (Own n) ss (cond b (Some (with_params a (sorts_at q.parts symbol) body)) (body_in (own_updates q.parts a us ++ move_updates_of q a mv) (Own n)))
          by true e rest =
              let its : sorts_at q.parts symbol ≡ ss = ap (λ k. sorts_at q.parts k) (eqb-true symbol n e) ∙ ap sorts_or_none is in
              let known : fits.0.0 ≡ sorts_at q.parts symbol = sym (ap sorts_or_none fits.0.2) in
              subst (λ x. fits_in step (reverse x) (with_params a (sorts_at q.parts symbol) body) ≡ true) its
              (with_params_fits (sorts_at q.parts symbol) body (subst (λ x. fits_in (own_vocabulary q.parts) (reverse (a.params ++ x)) body ≡ true) known fits.0.4))
          by false e rest = rest

      other_body : (r : Sym) (ss : List SortId) → relation_in catch.relations r ≡ Some ss → NotOwn r → BodyFits step r ss (body_in (step_updates_of q a mv) r)
      other_body r ss is apart = subst (BodyFits step r ss) (sym (body_behind q.parts a (move_updates_of q a mv) r apart a.updates)) (move_bodies r ss is)

      -- each relation of the monitored structure becomes a body over the words of the step, or stays
      pub step_bodies : (r : Sym) (ss : List SortId) → relation_in catch.relations r ≡ Some ss → BodyFits step r ss (body_in (step_updates_of q a mv) r)
      unfolding sym_eq
      step_bodies (Own n) ss is = own_body n ss (catch-found q (Own n) ss is).1 (move_bodies (Own n) ss is) a.updates updates
      step_bodies (Witness n) ss is = other_body (Witness n) ss is (λ k. refl)
      step_bodies (Label n) ss is = other_body (Label n) ss is (λ k. refl)
      step_bodies Frozen ss is = other_body Frozen ss is (λ k. refl)
      step_bodies Saved ss is = other_body Saved ss is (λ k. refl)
      step_bodies (Touched s) ss is = other_body (Touched s) ss is (λ k. refl)
      step_bodies (Kept s) ss is = other_body (Kept s) ss is (λ k. refl)
      step_bodies (Due n) ss is = other_body (Due n) ss is (λ k. refl)
      step_bodies (Copy n) ss is = other_body (Copy n) ss is (λ k. refl)
      step_bodies (CopyLabel n) ss is = other_body (CopyLabel n) ss is (λ k. refl)
      step_bodies (Next n) ss is = other_body (Next n) ss is (λ k. refl)
      step_bodies (Param n) ss is = other_body (Param n) ss is (λ k. refl)

      own_constant_new : (context : List SortId) (n : ℕ) (s : SortId) → n < length q.parts.symbols → constant_sort (symbol_at q.parts n).shape ≡ Some s → (us : List ActionUpdate) → Each (UpdateFits q.parts a.params) us
          → sort_of step context (new_constant (Own n) (term_in (own_updates q.parts a us ++ move_updates_of q a mv) (Own n))) ≡ Some s
      own_constant_new x n s l is [] fits = ap (λ o. sort_of step x (new_constant (Own n) o)) (term_moves q a mv (Own n) ∙ no_term_there q a mv (Own n) refl) ∙ grown.constants (Own n) s (own-constant_state q n s l is)
      own_constant_new x n s l is (Relation symbol body ∷ us) fits = own_constant_new x n s l is us fits.1
      own_constant_new x n s l is (Constant symbol term ∷ us) fits =
          ap (λ b. sort_of step x (new_constant (Own n) (cond b (Some (param_term (length a.params) term)) (term_in (own_updates q.parts a us ++ move_updates_of q a mv) (Own n))))) (own_naming symbol n)
          ∙ by (eqb symbol n) refl (own_constant_new x n s l is us fits.1)
        where
          by : (b : Bool) → eqb symbol n ≡ b → sort_of step x (new_constant (Own n) (term_in (own_updates q.parts a us ++ move_updates_of q a mv) (Own n))) ≡ Some s
              → sort_of step x (new_constant (Own n) (cond b (Some (param_term (length a.params) term)) (term_in (own_updates q.parts a us ++ move_updates_of q a mv) (Own n)))) ≡ Some s
          by true e rest = param_fits x term fits.0.0 fits.0.4 ∙ (sym fits.0.2 ∙ (ap (λ k. constant_sort (symbol_at q.parts k).shape) (eqb-true symbol n e) ∙ is))
          by false e rest = rest

      copy_new : (context : List SortId) (n : ℕ) (s : SortId) → n < length q.parts.symbols → constant_sort (symbol_at q.parts n).shape ≡ Some s → constant_in catch.constants (Copy n) ≡ Some s
          → sort_of step context (new_constant (Copy n) (term_in (copies q a mv) (Copy n))) ≡ Some s
      copy_new x n s l is found = by (is_save mv)
        where
          by : (b : Bool) → sort_of step x (new_constant (Copy n) (term_in (cond b (copies_of catch.constants) []) (Copy n))) ≡ Some s
          by true = ap (λ o. sort_of step x (new_constant (Copy n) o)) (copy_term catch.constants n s found) ∙ grown.constants (Own n) s (own-constant_state q n s l is)
          by false = (step_extends_catch q a).constants (Copy n) s found

      step_constant : (context : List SortId) (c : Sym) (s : SortId) → IsConstantWord q [] c s → constant_in catch.constants c ≡ Some s → sort_of step context (new_constant c (term_in (step_updates_of q a mv) c)) ≡ Some s
      unfolding sym_eq
      step_constant x (Own n) s w is = own_constant_new x n s w.0 w.1 a.updates updates
      step_constant x (Witness k) s w is = ap (λ o. sort_of step x (new_constant (Witness k) o)) (term_behind q.parts a (move_updates_of q a mv) (Witness k) (λ n. refl) a.updates ∙ (term_moves q a mv (Witness k) ∙ no_term_there q a mv (Witness k) refl))
          ∙ (step_extends_catch q a).constants (Witness k) s is
      step_constant x (Copy n) s w is = ap (λ o. sort_of step x (new_constant (Copy n) o)) (term_behind q.parts a (move_updates_of q a mv) (Copy n) (λ k. refl) a.updates ∙ term_moves q a mv (Copy n)) ∙ copy_new x n s w.0 w.2 is
      step_constant x (Param k) s w is = absurd (omega (arith, w.0))
      step_constant x _ s w is = absurd w

      pub step_constants_fit : (context : List SortId) (c : Sym) (s : SortId) → constant_in catch.constants c ≡ Some s → sort_of step context (new_constant c (term_in (step_updates_of q a mv) c)) ≡ Some s
      step_constants_fit x c s is = step_constant x c s (catch-constant_found q c s is) is
