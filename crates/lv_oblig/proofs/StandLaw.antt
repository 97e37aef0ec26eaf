-- The sentences of an obligation stand over its vocabulary.
use Rattle.std.proofs.Common.{◌≡◌, ℕ, zero, suc, ◌<◌, Bool, true, false, cond, ltb, List, [], ◌∷◌, ◌++◌, length, get_or, reverse, All, Some, refl, sym, ap, subst, ◌∙◌}
use Rattle.std.proofs.lemmas.Bool.{and_from, and_parts, lt-ltb}
use Rattle.std.proofs.lemmas.List.{append-nil}
use Rattle.lv_formula.specs.declared.symbols.SortId.{SortId}
use Rattle.lv_formula.specs.declared.symbols.Sym.{Sym}
use Rattle.lv_formula.specs.declared.symbols.Sym.TheVariants.{Own, Witness, Label, Frozen, Saved, Kept, Due, Copy, CopyLabel, Next}
use Rattle.lv_formula.specs.declared.terms.Term.TheVariants as term
use Rattle.lv_formula.specs.declared.vocabulary.Vocabulary.{Vocabulary}
use Rattle.lv_formula.specs.declared.formula.Formula.{Formula}
use Rattle.lv_formula.specs.declared.formula.Formula.TheVariants.{True, Same, Not, And, Or, Implies, Iff, Any}
use Rattle.lv_formula.specs.Fits.{all_fit_in, are_arguments, fits_in, fits_step, is_sort}
use Rattle.lv_formula.specs.Pairs.{SentencesFit}
use Rattle.lv_formula.specs.Vocabulary.{constant_in, relation_in}
use Rattle.lv_formula.proofs.Folds.{fold_at-And, fold_at-Any, fold_at-Atom, fold_at-False, fold_at-Iff, fold_at-Implies, fold_at-Not, fold_at-Or, fold_at-Same, fold_at-True}
use Rattle.lv_rewrite.specs.Instantiate.{instantiate_of}
use Rattle.lv_system.specs.declared.parts.Parts.{Parts}
use Rattle.lv_system.specs.declared.parts.Action.{Action}
use Rattle.lv_system.specs.declared.parts.Shape.{Shape}
use Rattle.lv_system.specs.declared.parts.Shape.TheVariants.{Relation, Constant}
use Rattle.lv_system.specs.Fits.{fits_parts}
use Rattle.lv_system.specs.Step.{action_at, no_symbol, symbol_at}
use Rattle.lv_system.specs.Vocabularies.{constant_sort, fixed_vocabulary, own_vocabulary, relation_sorts}
use Rattle.lv_system.proofs.FitsFacts.{fitting}
use Rattle.lv_labels.specs.Closing.{all_over, numbered}
use Rattle.lv_labels.specs.Problem.{Problem, choice_at, justice_at, label_at, no_choice, no_condition, problem_of, state_vocabulary}
use Rattle.lv_labels.specs.declared.moves.Move.{Move}
use Rattle.lv_labels.specs.declared.moves.Move.TheVariants.{Stay, Freeze, Save}
use Rattle.lv_labels.specs.declared.which.Which.{Which}
use Rattle.lv_labels.specs.declared.which.Which.TheVariants.{Start, Step, Catch}
use Rattle.lv_labels.specs.Obligations.{InvariantsFit, invariant_at, invariants_of, vocabulary_of}
use Rattle.lv_labels.specs.Vocabularies.{catch_vocabulary, step_vocabulary}
use Rattle.lv_temporal.proofs.ClosedFits.{IsFit}
use Rattle.lv_temporal.proofs.Differ.{AreSortsThere}
use Rattle.lv_temporal.proofs.Extends.{catch_extends_state, extends_both, extends_self, state_extends_fixed, state_extends_own, step_extends_catch, step_extends_state}
use Rattle.lv_temporal.proofs.Fits.{Extends}
use Rattle.lv_temporal.proofs.FitsMore.{all_fit_more, fits_more}
use Rattle.lv_temporal.proofs.Found.{copy-catch, copy-constant_catch, copy_label-catch, due-catch, frozen-catch, kept-catch, label-state, next-step, own-constant_state, own-state, saved-catch}
use Rattle.lv_temporal.proofs.Numbered.{ChoicesAreWitnesses}
use Rattle.lv_temporal.proofs.ProblemFits.{choices, problem_fits}
use Rattle.lv_temporal.proofs.SortsThere.{sorts_there}
use Rattle.lv_tableau.specs.Sentences.{equation_of, equations_of, start_sentences_of}
use Rattle.lv_prophecy.specs.Witnesses.{choice_sentence, choice_sentences}
use Rattle.lv_footprint.specs.Gathered.{gathered}
use Rattle.lv_monitor.specs.Conditions.{all_none_due, compare_of, kept_term, label_alike, looks_alike, mark_set, move_condition_of, none_due_of, shape_alike, stays_alike, symbol_alike}
use Rattle.lv_monitor.specs.Updates.{at_places, itself, start_updates_of, step_updates_of}
use Rattle.lv_oblig.specs.Numbers.{IsThere}
use Rattle.lv_oblig.specs.Sentences.{guard_of, sentences_of}
use Rattle.lv_oblig.proofs.FitLaw.{itself_fits, member_fits, start_bodies, start_constants_fit, step_bodies, step_constants_fit, with_params_fits}
use Rattle.lv_monitor.proofs.InstanceFits.{all_fit-append, all_gathered_fit, all_numbered_fit, instance_fits, over_fits, places_fit, replaced_fits, sort_is, sorts_agree}

pub one_fits : (voc : Vocabulary) (fs : List Formula) → all_fit_in voc [] fs ≡ true → (i : ℕ) → fits_in voc [] (get_or fs i True) ≡ true
one_fits voc [] h i = fold_at-True Bool (List SortId) (fits_step voc) []
one_fits voc (f ∷ fs) h zero = (and_parts (fits_in voc [] f) (all_fit_in voc [] fs) h).0
one_fits voc (f ∷ fs) h (suc i) = one_fits voc fs (and_parts (fits_in voc [] f) (all_fit_in voc [] fs) h).1 i

-- for each tuple, a formula over it alone
all_over_fits : (voc : Vocabulary) (ss : List SortId) (f : Formula) → All (λ s. s.0 < voc.sorts) ss → fits_in voc (reverse ss) f ≡ true → fits_in voc [] (all_over ss f) ≡ true
all_over_fits voc ss f there h = over_fits voc ss [] f there (subst (λ c. fits_in voc c f ≡ true) (sym (append-nil (reverse ss))) h)

module _ (q : Problem) (there : AreSortsThere q) where
  -- ---- over the words of the monitored structure

  module _ (voc : Vocabulary) (more : Extends (catch_vocabulary q) voc) where
    inside : (ss : List SortId) → All (λ s. s.0 < length q.parts.sorts) ss → All (λ s. s.0 < voc.sorts) ss
    inside ss h = subst (λ n. All (λ s. s.0 < n) ss) more.sorts h

    mark_fits : (r : Sym) → relation_in (catch_vocabulary q).relations r ≡ Some [] → fits_in voc [] (mark_set r) ≡ true
    mark_fits r is = fold_at-Atom Bool (List SortId) (fits_step voc) r [] [] ∙ ap (λ o. are_arguments voc [] [] o) (more.relations r [] is)

    not_fits : (context : List SortId) (f : Formula) → fits_in voc context f ≡ true → fits_in voc context (Not f) ≡ true
    not_fits c f h = fold_at-Not Bool (List SortId) (fits_step voc) f c ∙ h

    none_due_fit : all_fit_in voc [] (all_none_due q.justice) ≡ true
    none_due_fit = all_numbered_fit voc no_condition [] none_due_of q.justice (λ j l. all_over_fits voc (justice_at q j).sorts (Not (itself (Due j) (justice_at q j).sorts)) (inside (justice_at q j).sorts (there.justice j l))
        (not_fits (reverse (justice_at q j).sorts) (itself (Due j) (justice_at q j).sorts) (itself_fits voc (Due j) (justice_at q j).sorts (more.relations (Due j) (justice_at q j).sorts (due-catch q j l)))))

    condition_fits : (mv : Move) → all_fit_in voc [] (move_condition_of q.justice mv) ≡ true
    condition_fits Stay = refl
    condition_fits Freeze = and_from _ _ (not_fits [] (mark_set Frozen) (mark_fits Frozen (frozen-catch q))) (and_from _ _ (not_fits [] (mark_set Saved) (mark_fits Saved (saved-catch q))) none_due_fit)
    condition_fits Save = and_from _ _ (mark_fits Frozen (frozen-catch q)) (and_from _ _ (not_fits [] (mark_set Saved) (mark_fits Saved (saved-catch q))) none_due_fit)

  abbrev catch : Vocabulary
  catch = catch_vocabulary q

  looks_fit : (r copy : Sym) (ss : List SortId) → relation_in catch.relations r ≡ Some ss → relation_in catch.relations copy ≡ Some ss → All (λ s. s.0 < length q.parts.sorts) ss → fits_in catch [] (looks_alike r copy ss) ≡ true
  looks_fit r copy ss is same inside = all_over_fits catch ss (Implies (And (at_places kept_term ss)) (Iff (itself r ss) (itself copy ss))) inside
      (fold_at-Implies Bool (List SortId) (fits_step catch) (And (at_places kept_term ss)) (Iff (itself r ss) (itself copy ss)) (reverse ss)
      ∙ and_from _ _
      (fold_at-And Bool (List SortId) (fits_step catch) (at_places kept_term ss) (reverse ss)
      ∙ subst (λ c. all_fit_in catch c (at_places kept_term ss) ≡ true) (append-nil (reverse ss)) (places_fit catch kept_term (λ c s t l h. member_fits catch c (Kept s) s t (kept-catch q s l) h) ss [] inside))
      (fold_at-Iff Bool (List SortId) (fits_step catch) (itself r ss) (itself copy ss) (reverse ss) ∙ and_from _ _ (itself_fits catch r ss is) (itself_fits catch copy ss same)))

  stays_fit : (c copy : Sym) (s : SortId) → constant_in catch.constants c ≡ Some s → constant_in catch.constants copy ≡ Some s → s.0 < length q.parts.sorts → fits_in catch [] (stays_alike c copy s) ≡ true
  stays_fit c copy s is same inside = fold_at-Implies Bool (List SortId) (fits_step catch) (Or (kept_term s (term.Const c) ∷ kept_term s (term.Const copy) ∷ [])) (Same (term.Const c) (term.Const copy)) []
      ∙ and_from _ _
      (fold_at-Or Bool (List SortId) (fits_step catch) (kept_term s (term.Const c) ∷ kept_term s (term.Const copy) ∷ []) []
      ∙ and_from _ _ (member_fits catch [] (Kept s) s (term.Const c) (kept-catch q s inside) is) (and_from _ true (member_fits catch [] (Kept s) s (term.Const copy) (kept-catch q s inside) same) refl))
      (fold_at-Same Bool (List SortId) (fits_step catch) (term.Const c) (term.Const copy) [] ∙ sorts_agree _ _ s is same)

  shape_fits : (n : ℕ) → n < length q.parts.symbols → (symbol_at q.parts n).fixed ≡ false → (shape : Shape) → (symbol_at q.parts n).shape ≡ shape → fits_in catch [] (shape_alike n shape) ≡ true
  shape_fits n l free (Relation ss) is =
      let sorts : relation_sorts (symbol_at q.parts n).shape ≡ Some ss = ap relation_sorts is in
      looks_fit (Own n) (Copy n) ss ((catch_extends_state q).relations (Own n) ss (own-state q n ss l sorts)) (copy-catch q n ss l free sorts) (there.relations n ss l sorts)
  shape_fits n l free (Constant s) is =
      let sort : constant_sort (symbol_at q.parts n).shape ≡ Some s = ap constant_sort is in
      stays_fit (Own n) (Copy n) s ((catch_extends_state q).constants (Own n) s (own-constant_state q n s l sort)) (copy-constant_catch q n s l free sort) (there.constants n s l sort)

  symbol_fits : (n : ℕ) → n < length q.parts.symbols → all_fit_in catch [] (symbol_alike n (symbol_at q.parts n)) ≡ true
  symbol_fits n l = by (symbol_at q.parts n).fixed refl
    where
      by : (b : Bool) → (symbol_at q.parts n).fixed ≡ b → all_fit_in catch [] (cond b [] (shape_alike n (symbol_at q.parts n).shape ∷ [])) ≡ true
      by true e = refl
      by false e = and_from _ true (shape_fits n l e (symbol_at q.parts n).shape refl) refl

  compare_fits : all_fit_in catch [] (compare_of q) ≡ true
  compare_fits = all_fit-append catch [] (gathered symbol_alike 0 q.parts.symbols) (numbered label_alike 0 q.labels)
      (all_gathered_fit catch no_symbol [] symbol_alike q.parts.symbols symbol_fits)
      (all_numbered_fit catch no_condition [] label_alike q.labels (λ l b. looks_fit (Label l) (CopyLabel l) (label_at q l).sorts
      ((catch_extends_state q).relations (Label l) (label_at q l).sorts (label-state q l b)) (copy_label-catch q l b) (there.labels l b)))

module _ (p : Parts) (fits : fits_parts p ≡ true) (invariants : InvariantsFit p) where
  abbrev q : Problem
  q = problem_of p

  fit : IsFit q
  fit = problem_fits p fits invariants

  there : AreSortsThere q
  there = sorts_there p (fitting p fits)

  chosen : ChoicesAreWitnesses q
  chosen = choices p fits

  invariant_fits : (i : ℕ) → fits_in (catch_vocabulary q) [] (invariant_at p i) ≡ true
  invariant_fits i = one_fits (catch_vocabulary q) (invariants_of p) invariants i

  -- ---- the start

  abbrev state : Vocabulary
  state = state_vocabulary q

  choice_fits : (k : ℕ) → k < length q.choices → fits_in state [] (choice_sentence k (choice_at q k)) ≡ true
  choice_fits k l =
      let sort = (choice_at q k).sort in
      let body = (choice_at q k).body in
      let inside : sort.0 < length p.sorts = subst (λ s. s.0 < length p.sorts) (sym (chosen.sorts k l)) (there.witnesses k (subst (λ n. k < n) chosen.number l)) in
      fold_at-Implies Bool (List SortId) (fits_step state) (Any sort body) (instantiate_of (term.Const (Witness k) ∷ []) body) []
      ∙ and_from _ _
      (fold_at-Any Bool (List SortId) (fits_step state) sort body [] ∙ and_from (ltb sort.0 state.sorts) _ (lt-ltb sort.0 state.sorts inside) (fit.choices k l))
      (instance_fits state (term.Const (Witness k) ∷ []) (sort ∷ []) [] (and_from (is_sort (constant_in state.constants (Witness k)) sort) true (sort_is _ sort (fit.witnesses k l)) refl) body (fit.choices k l))

  start_fit : (i : ℕ) → SentencesFit state (sentences_of q (Start i))
  start_fit i = record {
    hypotheses = all_fit-append state [] (start_sentences_of q) (choice_sentences q.choices)
        (all_fit-append state [] p.axioms (p.inits ++ q.denied ∷ []) (all_fit_more (fixed_vocabulary p) state (state_extends_fixed q) p.axioms [] fit.axioms)
        (all_fit-append state [] p.inits (q.denied ∷ []) (all_fit_more (own_vocabulary p) state (state_extends_own q) p.inits [] fit.inits) (and_from _ true fit.denied refl)))
        (all_numbered_fit state no_choice [] choice_sentence q.choices choice_fits);
    conclusion = replaced_fits (catch_vocabulary q) state (start_updates_of q) refl (start_bodies q there) (start_constants_fit q there) (invariant_at p i) [] (invariant_fits i);
  }

  -- ---- a step

  module _ (k : ℕ) (l : k < length p.actions) where
    abbrev a : Action
    a = action_at p k

    abbrev step : Vocabulary
    step = step_vocabulary q a

    guard_fits : fits_in step [] (guard_of a) ≡ true
    guard_fits = with_params_fits q there a (fit.updates k l) [] a.guard (subst (λ ss. fits_in (own_vocabulary p) (reverse ss) a.guard ≡ true) (sym (append-nil a.params)) (fit.guards k l))

    equation_fits : (n : ℕ) → n < length q.labels → fits_in step [] (equation_of n (label_at q n)) ≡ true
    equation_fits n b =
        let c = label_at q n in
        all_over_fits step c.sorts (Iff (itself (Label n) c.sorts) (And (c.body ∷ itself (Next n) c.sorts ∷ []))) (there.labels n b)
        (fold_at-Iff Bool (List SortId) (fits_step step) (itself (Label n) c.sorts) (And (c.body ∷ itself (Next n) c.sorts ∷ [])) (reverse c.sorts)
        ∙ and_from _ _ (itself_fits step (Label n) c.sorts ((step_extends_state q a).relations (Label n) c.sorts (label-state q n b)))
        (fold_at-And Bool (List SortId) (fits_step step) (c.body ∷ itself (Next n) c.sorts ∷ []) (reverse c.sorts)
        ∙ and_from _ _ (fits_more state step (step_extends_state q a) c.body (reverse c.sorts) (fit.labels n b)) (and_from _ true (itself_fits step (Next n) c.sorts (next-step q a n b)) refl)))

    step_fit : (mv : Move) (i : ℕ) → SentencesFit step (sentences_of q (Step k mv i))
    step_fit mv i = record {
      hypotheses = all_fit-append step [] p.axioms _ (all_fit_more (fixed_vocabulary p) step (extends_both (fixed_vocabulary p) state step (state_extends_fixed q) (step_extends_state q a)) p.axioms [] fit.axioms)
          (all_fit-append step [] (invariants_of p) _ (all_fit_more (catch_vocabulary q) step (step_extends_catch q a) (invariants_of p) [] invariants)
          (and_from _ _ guard_fits
          (all_fit-append step [] (move_condition_of q.justice mv) (equations_of q.labels) (condition_fits q there step (step_extends_catch q a) mv)
          (all_numbered_fit step no_condition [] equation_of q.labels equation_fits))));
      conclusion = replaced_fits (catch_vocabulary q) step (step_updates_of q a mv) refl (step_bodies q there a (fit.updates k l) fit.justice mv) (step_constants_fit q there a (fit.updates k l) fit.justice mv) (invariant_at p i) [] (invariant_fits i);
    }

  -- ---- the catch

  abbrev caught : Vocabulary
  caught = catch_vocabulary q

  catch_fit : SentencesFit caught (sentences_of q Catch)
  catch_fit = record {
    hypotheses = all_fit-append caught [] p.axioms _ (all_fit_more (fixed_vocabulary p) caught (extends_both (fixed_vocabulary p) state caught (state_extends_fixed q) (catch_extends_state q)) p.axioms [] fit.axioms)
        (all_fit-append caught [] (invariants_of p) _ invariants
        (and_from _ _ (mark_fits q there caught (extends_self caught) Saved (saved-catch q))
        (all_fit-append caught [] (all_none_due q.justice) (compare_of q) (none_due_fit q there caught (extends_self caught)) (compare_fits q there))));
    conclusion = fold_at-False Bool (List SortId) (fits_step caught) [];
  }

  -- the hypotheses and the conclusion are closed formulas over the vocabulary of the obligation
  pub sentences_stand : (which : Which) → IsThere q which → SentencesFit (vocabulary_of q which) (sentences_of q which)
  sentences_stand (Start i) inside = start_fit i
  sentences_stand (Step k mv i) inside = step_fit k inside mv i
  sentences_stand Catch inside = catch_fit
