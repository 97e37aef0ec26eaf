-- What is due after a step, as lists of tuples.
use Rattle.std.proofs.Common.{◌≡◌, ℕ, zero, suc, ◌+◌, ◌<◌, ◌≤◌, Bool, true, false, not, ◌&&◌, ◌||◌, cond, List, [], ◌∷◌, length, map, get_or, reverse, filter, Option, Some, None, refl, sym, ap, ap₂, subst, ◌∙◌, arith, ⊎_elim}
use Rattle.std.proofs.Math.Bool.{and-false}
use Rattle.std.proofs.lemmas.Bool.{and_parts, cases_lt, false≢true}
use Rattle.std.proofs.lemmas.List.{get_or-map, get_or_past, length-map}
use Rattle.lv_formula.specs.declared.symbols.SortId.{SortId}
use Rattle.lv_formula.specs.declared.symbols.Sym.{Sym}
use Rattle.lv_formula.specs.declared.symbols.Sym.TheVariants.{Due, Touched}
use Rattle.lv_formula.specs.declared.formula.Formula.TheVariants.{True}
use Rattle.lv_formula.specs.Meaning.{Meaning, in_range, is_element}
use Rattle.lv_formula.specs.Symbols.{sym_eq}
use Rattle.lv_formula.specs.Truth.{truth_in, truth_step}
use Rattle.lv_formula.specs.Tuples.{has_tuple, over, tuples_over}
use Rattle.lv_formula.specs.Vocabulary.{relation_in}
use Rattle.lv_formula.proofs.Folds.{fold_at-True}
use Rattle.lv_struct.specs.declared.tables.Relation.{Relation}
use Rattle.lv_struct.specs.Tables.{HasVocabulary, IsSound, Tables, meaning, relation_shape, tuples_in}
use Rattle.lv_struct.proofs.MeaningLaws.{sorts-in_vocabulary}
use Rattle.lv_struct.proofs.TupleLaws.{has_tuple-filter, has_tuple-tuples_over}
use Rattle.lv_system.specs.declared.parts.Action.{Action}
use Rattle.lv_system.specs.declared.parts.Parts.{Parts}
use Rattle.lv_system.specs.Step.{action_at}
use Rattle.lv_labels.specs.declared.justice.Justice.{Justice}
use Rattle.lv_labels.specs.declared.moves.Move.{Move}
use Rattle.lv_labels.specs.Closing.{numbered}
use Rattle.lv_labels.specs.Monitor.{is_due_then, is_freeze, is_save, is_touched, stepped_holds}
use Rattle.lv_labels.specs.Problem.{Problem, justice_at, no_condition, problem_of}
use Rattle.lv_labels.specs.Rows.{condition_of}
use Rattle.lv_labels.specs.Vocabularies.{step_vocabulary}
use Rattle.lv_labels.proofs.Ranges.{over_more}
use Rattle.lv_oblig.proofs.Tight.{tight}
use Rattle.lv_temporal.proofs.Found.{catch-step, due-catch, step-found}
use Rattle.lv_check.specs.Due.{all_due_after, due_after, due_of, is_due_after}
use Rattle.lv_check.specs.Performing.{AreDueAfter}

-- a relation that isn't there has no tuples
no_tuples : (rs : List Relation) (r : Sym) → relation_in (map relation_shape rs) r ≡ None → (tuple : List ℕ) → has_tuple (tuples_in rs r) tuple ≡ false
no_tuples [] r none tuple = refl
no_tuples (x ∷ xs) r none tuple = by (sym_eq x.sym r) none (no_tuples xs r)
  where
    by : (b : Bool) → cond b (Some x.sorts) (relation_in (map relation_shape xs) r) ≡ None → (relation_in (map relation_shape xs) r ≡ None → (tuple : List ℕ) → has_tuple (tuples_in xs r) tuple ≡ false)
        → has_tuple (cond b x.tuples (tuples_in xs r)) tuple ≡ false
    by true here rest = cc
    by false here rest = rest here tuple

narrower : (b c : Bool) → (c ≡ true → b ≡ true) → (b && c) ≡ c
narrower true c h = refl
narrower false true h = h refl
narrower false false h = refl

-- the tuples of a test that passes in range alone
all_filtered : (m : Meaning) (test : List ℕ → Bool) (sorts : List SortId) (tuple : List ℕ) → (test tuple ≡ true → in_range m sorts tuple ≡ true) → has_tuple (filter test (tuples_over m.size sorts)) tuple ≡ test tuple
all_filtered m test sorts tuple inside = has_tuple-filter test (tuples_over m.size sorts) tuple
    ∙ ap (λ b. b && test tuple) (has_tuple-tuples_over m.size sorts tuple)
    ∙ narrower (in_range m sorts tuple) (test tuple) inside

module _ {X Y : Type 0} (f : ℕ → X → Y) (d : X) (e : Y) where
  numbered_at : (n : ℕ) (xs : List X) (i : ℕ) → i < length xs → get_or (numbered f n xs) i e ≡ f (n + i) (get_or xs i d)
  numbered_at n [] i lt = absurd (omega (arith, lt))
  numbered_at n (x ∷ xs) zero lt = let here : n ≡ n + 0 = omega arith in ap (λ k. f k x) here
  numbered_at n (x ∷ xs) (suc i) lt = let on : suc n + i ≡ n + suc i = omega arith in numbered_at (suc n) xs i (omega (arith, lt)) ∙ ap (λ k. f k (get_or xs i d)) on

  numbered_past : (n : ℕ) (xs : List X) (i : ℕ) → length xs ≤ i → get_or (numbered f n xs) i e ≡ e
  numbered_past n [] i past = refl
  numbered_past n (x ∷ xs) zero past = absurd (omega (arith, past))
  numbered_past n (x ∷ xs) (suc i) past = numbered_past (suc n) xs i (omega (arith, past))

no_justice : Justice
no_justice = record { sorts = []; condition = True }

module _ (p : Parts) (k : ℕ) (w : Tables) (has : HasVocabulary (step_vocabulary (problem_of p) (action_at p k)) w) (sound : IsSound w) (mv : Move) where
  abbrev q : Problem
  q = problem_of p

  abbrev a : Action
  a = action_at p k

  abbrev m : Meaning
  m = meaning w

  touched_inside : (s : SortId) (x : ℕ) → is_touched m s x ≡ true → is_element m s x ≡ true
  touched_inside s x h = by (relation_in (step_vocabulary q a).relations (Touched s)) refl
    where
      by : (o : Option (List SortId)) → relation_in (step_vocabulary q a).relations (Touched s) ≡ o → is_element m s x ≡ true
      by None none = absurd (false≢true (sym (no_tuples w.relations (Touched s) (sorts-in_vocabulary (step_vocabulary q a) w has (Touched s) ∙ none) (x ∷ [])) ∙ h))
      by (Some ss) is =
          let its : (s ∷ []) ≡ ss = (step-found q a (Touched s) ss is).1 in
          (and_parts (is_element m s x) true (subst (λ ss. in_range m ss (x ∷ []) ≡ true) (sym its) (tight (step_vocabulary q a) w sound has (Touched s) ss is (x ∷ []) h))).0

  -- what is due is in range
  due_inside : (j : ℕ) → j < length q.justice → (tuple : List ℕ) → is_due_then q mv m j tuple ≡ true → in_range m (justice_at q j).sorts tuple ≡ true
  due_inside j lt tuple = by (is_freeze mv || is_save mv)
    where
      by : (b : Bool) → cond b (over (is_touched m) (justice_at q j).sorts tuple) (m.holds (Due j) tuple) ≡ true → in_range m (justice_at q j).sorts tuple ≡ true
      by true h = over_more (is_touched m) (is_element m) touched_inside (justice_at q j).sorts tuple h
      by false h = tight (step_vocabulary q a) w sound has (Due j) (justice_at q j).sorts (catch-step q a (Due j) (justice_at q j).sorts (due-catch q j lt)) tuple h

  module _ (conditions : List Justice) (are : map condition_of conditions ≡ q.justice) where
    count : length (map condition_of conditions) ≡ length q.justice
    count = ap length are

    here : (j : ℕ) → j < length conditions → condition_of (get_or conditions j no_justice) ≡ justice_at q j
    here j lt = sym (get_or-map condition_of conditions j no_justice no_condition lt) ∙ ap (λ cs. get_or cs j no_condition) are

    past : (j : ℕ) → length q.justice ≤ j → (tuple : List ℕ) → stepped_holds q mv a m (Due j) tuple ≡ false
    past j l tuple = ap (λ c. is_due_then q mv m j tuple && not (truth_in m c.body (reverse tuple))) (get_or_past q.justice j no_condition l)
        ∙ ap (λ b. is_due_then q mv m j tuple && not b) (fold_at-True Bool (List ℕ) (truth_step m) (reverse tuple))
        ∙ and-false (is_due_then q mv m j tuple)

    -- the lists have the tuples that are due after the step
    pub are_due : (due : List (List (List ℕ))) → due ≡ all_due_after mv m conditions → AreDueAfter p mv a m due
    are_due due is j tuple = ap (λ d. has_tuple (get_or d j []) tuple) is ∙ ⊎_elim there gone (cases_lt j (length conditions))
      where
        long : length conditions ≡ length q.justice
        long = sym (length-map conditions condition_of) ∙ count

        there : j < length conditions → has_tuple (get_or (all_due_after mv m conditions) j []) tuple ≡ stepped_holds q mv a m (Due j) tuple
        there lt =
            let z : 0 + j ≡ j = omega arith in
            ap (λ ts. has_tuple ts tuple) (numbered_at (due_of mv m) no_justice [] 0 conditions j lt ∙ ap₂ (due_after mv m) z (here j lt))
            ∙ all_filtered m (is_due_after mv m j (justice_at q j)) (justice_at q j).sorts tuple
            (λ h. due_inside j (omega (arith, lt, long)) tuple (and_parts (is_due_then q mv m j tuple) (not (truth_in m (justice_at q j).body (reverse tuple))) h).0)

        gone : length conditions ≤ j → has_tuple (get_or (all_due_after mv m conditions) j []) tuple ≡ stepped_holds q mv a m (Due j) tuple
        gone l = ap (λ ts. has_tuple ts tuple) (numbered_past (due_of mv m) no_justice [] 0 conditions j l) ∙ sym (past j (omega (arith, l, long)) tuple)
