-- The unrolled lasso as a list of positions.
use Rattle.std.proofs.Common.{◌≡◌, ℕ, zero, suc, ◌+◌, ◌-◌, ◌<◌, ◌≤◌, true, false, ◌||◌, cond, List, [], length, get_or, reverse, refl, sym, ap, ap₂, subst, ◌∙◌, arith, inl, inr, zero-le}
use Rattle.std.proofs.lemmas.Bool.{cases_lt}
use Rattle.lv_formula.specs.declared.symbols.SortId.{SortId}
use Rattle.lv_formula.specs.declared.symbols.Sym.{Sym}
use Rattle.lv_formula.specs.declared.symbols.Sym.TheVariants.{Own, Witness, Label, Frozen, Saved, Touched, Kept, Due, Copy, CopyLabel, Next, Param}
use Rattle.lv_formula.specs.Meaning.{Meaning, is_element}
use Rattle.lv_formula.proofs.MeaningLaws.{same_meaning}
use Rattle.lv_formula.specs.Truth.{truth_in}
use Rattle.lv_system.specs.declared.parts.Parts.{Parts}
use Rattle.lv_system.specs.Lasso.{IsFair, IsLassoRun, Stop, lasso_of}
use Rattle.lv_system.specs.Step.{IsAllowed, IsPerformed, action_at}
use Rattle.lv_system.specs.TemporalTruth.{Lasso, holds, value_with}
use Rattle.lv_labels.specs.Positions.{no_position, run_of, seen_at, value_at}
use Rattle.lv_labels.specs.Problem.{Problem, justice_at, problem_of}
use Rattle.lv_labels.specs.Rounds.{IsRound}
use Rattle.lv_labels.specs.Runs.{IsLabelledRun, IsStart, IsState, LabelEquation, Run, is_denoted, is_finite, is_passed, touched}
use Rattle.lv_temporal.specs.TrueLabels.{TrueLabels, chosen_witnesses, listed, position_of, position_on, unrolled}
use Rattle.lv_formula.proofs.Below.{any_below_same}
use Rattle.lv_labels.proofs.Ranges.{over_same}
use Rattle.lv_temporal.proofs.ReadingTruth.{shown}
use Rattle.lv_temporal.proofs.Scoped.{IsScoped}
use Rattle.lv_temporal.proofs.Turns.{turn_round}
use Rattle.lv_temporal.proofs.Unrolled.{all_chosen, labelled_run, unrolled_run}
use Rattle.lv_temporal.proofs.Witnesses.{chosen_beyond}

-- an item below the length of the list
pub get_listed : {X : Type 0} (n : ℕ) (f : ℕ → X) (i : ℕ) (d : X) → i < n → get_or (listed n f) i d ≡ f i
get_listed zero f i d l = absurd (omega arith)
get_listed (suc n) f zero d l = refl
get_listed (suc n) f (suc i) d l = get_listed n (λ j. f (suc j)) i d (omega arith)

-- nothing stands past the end
pub get_beyond : {X : Type 0} (n : ℕ) (f : ℕ → X) (i : ℕ) (d : X) → n ≤ i → get_or (listed n f) i d ≡ d
get_beyond zero f i d l = refl
get_beyond (suc n) f zero d l = absurd (omega arith)
get_beyond (suc n) f (suc i) d l = get_beyond n (λ j. f (suc j)) i d (omega arith)

-- the list is as long as it says
pub length-listed : {X : Type 0} (n : ℕ) (f : ℕ → X) → length (listed n f) ≡ n
length-listed zero f = refl
length-listed (suc n) f = ap suc (length-listed n (λ i. f (suc i)))

-- ---- runs that are the same up to a position

-- the two have the same structures, actions and elements up to a position
pub record SameUpTo (last : ℕ) (r q : Run) : Type 0 where
  pub at : (i : ℕ) → i ≤ last → q.at i ≡ r.at i
  pub action : (i : ℕ) → i ≤ last → q.action i ≡ r.action i
  pub elements : (i : ℕ) → i ≤ last → q.elements i ≡ r.elements i

module _ (p : Problem) (r q : Run) where
  -- a labelled run stays one where nothing differs up to its last position
  pub run_same : q.last ≡ r.last → SameUpTo r.last r q → IsLabelledRun p r → IsLabelledRun p q
  run_same e same run = record {
    structures = λ i b. subst (λ m. IsState p m) (sym (same.at i (omega (arith, e)))) (run.structures i (omega (arith, e)));
    start = subst (λ m. IsStart p m) (sym (same.at 0 zero-le)) run.start;
    actions = λ i b. subst (λ a. a < length p.parts.actions) (sym (same.action i (omega (arith, e)))) (run.actions i (omega (arith, e)));
    allowed = λ i b. moved i (omega (arith, e)) (λ m a es. IsAllowed (action_at p.parts a) es m) (run.allowed i (omega (arith, e)));
    steps = λ i b. moved i (omega (arith, e)) (λ m a es. IsPerformed p.parts (action_at p.parts a) es m (q.at (suc i))) (subst (λ n. IsPerformed p.parts (action_at p.parts (r.action i)) (r.elements i) (r.at i) n) (sym (same.at (suc i) (omega (arith, e)))) (run.steps i (omega (arith, e))));
    witnesses = λ i b k. ap (λ m. m.value (Witness k)) (same.at (suc i) (omega (arith, e))) ∙ (run.witnesses i (omega (arith, e)) k ∙ ap (λ m. m.value (Witness k)) (sym (same.at i (omega (arith, e)))));
    labels = λ i b. subst (λ m. LabelEquation p m (λ l tuple. (q.at (suc i)).holds (Label l) tuple)) (sym (same.at i (omega (arith, e)))) (subst (λ n. LabelEquation p (r.at i) (λ l tuple. n.holds (Label l) tuple)) (sym (same.at (suc i) (omega (arith, e)))) (run.labels i (omega (arith, e))));
  }
    where
      moved : (i : ℕ) → i ≤ r.last → (P : Meaning → ℕ → List ℕ → Type 0) → P (r.at i) (r.action i) (r.elements i) → P (q.at i) (q.action i) (q.elements i)
      moved i b P h = subst (λ m. P m (q.action i) (q.elements i)) (sym (same.at i b)) (subst (λ a. P (r.at i) a (q.elements i)) (sym (same.action i b)) (subst (λ x. P (r.at i) (r.action i) x) (sym (same.elements i b)) h))

  module _ (last : ℕ) (same : SameUpTo last r q) where
    -- and the same elements are touched
    pub touched_same : (i : ℕ) → i ≤ last → (s : SortId) (x : ℕ) → touched p q i s x ≡ touched p r i s x
    touched_same i b s x = ap₂ (λ m ds. cond (is_finite p.parts s) (is_element m s x) ds) (same.at 0 zero-le) (ap₂ (λ c d. c || d)
        (any_below_same (suc i) (λ k. is_denoted p (q.at k) s x) (λ k. is_denoted p (r.at k) s x) (λ k lt. ap (λ m. is_denoted p m s x) (same.at k (omega arith))))
        (any_below_same i (λ k. is_passed (action_at p.parts (q.action k)).params (q.elements k) s x) (λ k. is_passed (action_at p.parts (r.action k)).params (r.elements k) s x)
        (λ k lt. ap₂ (λ a es. is_passed (action_at p.parts a).params es s x) (same.action k (omega arith)) (same.elements k (omega arith)))))

    -- and the same ranges are rounds
    pub round_same : (i j : ℕ) → i ≤ last → j ≤ last → IsRound p r i j → IsRound p q i j
    round_same i j b d round c lt tuple o = found (round c lt tuple (sym (over_same (touched p q i) (touched p r i) (touched_same i b) (justice_at p c).sorts tuple) ∙ o))
      where
        found : (k : ℕ) × (i ≤ k) × (k < j) × (truth_in (r.at k) (justice_at p c).body (reverse tuple) ≡ true) → (k : ℕ) × (i ≤ k) × (k < j) × (truth_in (q.at k) (justice_at p c).body (reverse tuple) ≡ true)
        found w = (w.0, w.1, w.2, ap (λ m. truth_in m (justice_at p c).body (reverse tuple)) (same.at w.0 (omega (arith, w.2))) ∙ w.3)

-- ---- the run as a list

module _ (p : Parts) (l : Lasso) where
  witness_same : (k : ℕ) → get_or (chosen_witnesses p l) k 0 ≡ all_chosen p l k
  witness_same k = elim (cases_lt k (length p.witnesses)) [
    | inl b ↦ get_listed (length p.witnesses) (all_chosen p l) k 0 b
    | inr b ↦ get_beyond (length p.witnesses) (all_chosen p l) k 0 b ∙ sym (chosen_beyond p l (length p.witnesses) k b)
  ]

  value_same : (i : ℕ) (c : Sym) → value_at (position_of p l (all_chosen p l) i) (chosen_witnesses p l) c ≡ value_with (l.state i) (all_chosen p l) c
  value_same i (Own x) = refl
  value_same i (Witness x) = witness_same x
  value_same i (Label x) = refl
  value_same i Frozen = refl
  value_same i Saved = refl
  value_same i (Touched x) = refl
  value_same i (Kept x) = refl
  value_same i (Due x) = refl
  value_same i (Copy x) = refl
  value_same i (CopyLabel x) = refl
  value_same i (Next x) = refl
  value_same i (Param x) = refl

  seen_same : (i : ℕ) → seen_at (position_of p l (all_chosen p l) i) (chosen_witnesses p l) ≡ shown p l (all_chosen p l) i
  seen_same i = same_meaning (seen_at (position_of p l (all_chosen p l) i) (chosen_witnesses p l)) (shown p l (all_chosen p l) i) (λ s. refl) (λ r t. refl) (value_same i)

  at_same : (last i : ℕ) → i ≤ last → get_or (unrolled p l last) i no_position ≡ position_of p l (all_chosen p l) (position_on l i)
  at_same last i b = get_listed (suc last) (λ i. position_of p l (all_chosen p l) (position_on l i)) i no_position (omega arith)

  last_same : (last : ℕ) → length (unrolled p l last) - 1 ≡ last
  last_same last = ap (λ n. n - 1) (length-listed (suc last) (λ i. position_of p l (all_chosen p l) (position_on l i))) ∙ less last
    where
      less : (n : ℕ) → suc n - 1 ≡ n
      less n = omega arith

  same_run : (last : ℕ) → SameUpTo last (unrolled_run p l (all_chosen p l) last) (run_of (chosen_witnesses p l) (unrolled p l last))
  same_run last = record {
    at = λ i b. ap (λ x. seen_at x (chosen_witnesses p l)) (at_same last i b) ∙ seen_same (position_on l i);
    action = λ i b. ap (λ x. x.action) (at_same last i b);
    elements = λ i b. ap (λ x. x.elements) (at_same last i b);
  }

  module _ (run : IsLassoRun p l) (scoped : IsScoped p) where
    -- the list is a labelled run
    pub labelled_list : holds l (λ k. 0) p.property 0 [] ≡ false → (last : ℕ) → IsLabelledRun (problem_of p) (run_of (chosen_witnesses p l) (unrolled p l last))
    labelled_list violated last = run_same (problem_of p) (unrolled_run p l (all_chosen p l) last) (run_of (chosen_witnesses p l) (unrolled p l last)) (last_same last) (same_run last) (labelled_run p l run scoped violated last)

    -- from a position a on, up to a turn behind a position of the loop, is a round
    pub round_list : IsFair p l → (last a i : ℕ) → a ≤ i → l.stem ≤ i → i + suc l.further ≤ last → IsRound (problem_of p) (run_of (chosen_witnesses p l) (unrolled p l last)) a (i + suc l.further)
    round_list fair last a i ai si b = round_same (problem_of p) (unrolled_run p l (all_chosen p l) last) (run_of (chosen_witnesses p l) (unrolled p l last)) last (same_run last) a (i + suc l.further) (omega arith) b
        (turn_round p l run scoped fair last a i ai si)

-- a loop that isn't empty is as long as its lasso says
turn_length : (stem loop : List Stop) → 0 < length loop → suc (lasso_of stem loop).further ≡ length loop
turn_length stem loop b = omega arith

-- the law of true labels, for a system whose formulas stand over their vocabularies
pub true_labels : (p : Parts) → IsScoped p → TrueLabels p
true_labels p scoped = record {
  labelled = λ stem loop ne run violated last. labelled_list p (lasso_of stem loop) run scoped violated last;
  rounds = λ stem loop ne run fair last i si b. subst (λ n. IsRound (problem_of p) (run_of (chosen_witnesses p (lasso_of stem loop)) (unrolled p (lasso_of stem loop) last)) i (i + n)) (turn_length stem loop ne)
      (round_list p (lasso_of stem loop) run scoped fair last i i (omega arith) si (rw (turn_length stem loop ne) b));
}
