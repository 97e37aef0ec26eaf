-- Each turn of a fair loop is a round.
use Rattle.std.proofs.Common.{◌≡◌, ℕ, zero, suc, ◌+◌, ◌-◌, ◌<◌, ◌≤◌, min, Bool, true, false, not, ◌||◌, leb, ltb, List, [], ◌∷◌, ◌++◌, map, length, get_or, reverse, refl, sym, ap, subst, ◌∙◌, arith, inl, inr, le_trans}
use Rattle.std.proofs.lemmas.Bool.{or_left, or_right, or_parts, not-false, leb-true, cases_Bool, cases_eq, cases_lt}
use Rattle.lv_formula.specs.declared.symbols.SortId.{SortId}
use Rattle.lv_formula.specs.declared.symbols.Sym.TheVariants.{Label}
use Rattle.lv_formula.specs.declared.formula.Formula.{Formula}
use Rattle.lv_formula.proofs.Folds.{folds_at as truths}
use Rattle.lv_formula.proofs.Induction.{Each}
use Rattle.lv_formula.specs.Meaning.{in_range, is_element}
use Rattle.lv_formula.specs.Tuples.{over}
use Rattle.lv_formula.specs.Truth.{truth_in, values_of}
use Rattle.lv_system.specs.declared.parts.Parts.{Parts}
use Rattle.lv_system.specs.declared.parts.Fair.{Fair}
use Rattle.lv_system.specs.Lasso.{IsFair, IsLassoRun, fair_at, no_fair}
use Rattle.lv_system.specs.TemporalTruth.{Lasso, at_each_later, end_of, holds, next_of}
use Rattle.lv_labels.specs.declared.key.Key.{Key}
use Rattle.lv_labels.specs.Labels.{labels_of, reading}
use Rattle.lv_labels.specs.Problem.{Condition, fair_condition, justice_at, label_justice, label_justices, no_condition, problem_of, tuple_variables}
use Rattle.lv_labels.specs.Rounds.{IsRound}
use Rattle.lv_labels.specs.Runs.{Run, touched}
use Rattle.lv_temporal.specs.TrueLabels.{key_at, no_key, position_on}
use Rattle.lv_labels.proofs.Later.{all_below_not, next_cases}
use Rattle.lv_labels.proofs.Once.{each_at, each_both, each_from}
use Rattle.lv_temporal.proofs.OwnTruth.{own_truth}
use Rattle.lv_labels.proofs.TupleVariables.{tuple_read}
use Rattle.lv_labels.proofs.Ranges.{over_length, over_more, over_reverse}
use Rattle.lv_temporal.proofs.Scoped.{IsScoped}
use Rattle.lv_temporal.proofs.Touched.{touched_in_range}
use Rattle.lv_temporal.proofs.Unrolled.{all_chosen, body_true, position_bound, size_at, structure_at, table_is, unrolled_run}

-- ---- where the positions of the unrolled run lie

module _ (l : Lasso) where
  run_on : (i d : ℕ) → position_on l i + d ≤ end_of l → position_on l (i + d) ≡ position_on l i + d
  run_on i zero h = ap (position_on l) (plus_zero i) ∙ sym (plus_zero (position_on l i))
    where
      plus_zero : (x : ℕ) → x + 0 ≡ x
      plus_zero x = omega arith
  run_on i (suc d) h = ap (position_on l) (plus_suc i d) ∙ (ap (next_of l) (run_on i d (omega arith)) ∙ next_cases l (position_on l i + d) (λ x. x ≡ position_on l i + suc d) (λ e. absurd (omega (arith, e, h))) (λ e. omega arith))
    where
      plus_suc : (x d : ℕ) → x + suc d ≡ suc (x + d)
      plus_suc x d = omega arith

  position_early : (i : ℕ) → i ≤ end_of l → position_on l i ≡ i
  position_early i h = ap (position_on l) (zero_plus i) ∙ (run_on 0 i (omega arith) ∙ sym (zero_plus i))
    where
      zero_plus : (x : ℕ) → x ≡ 0 + x
      zero_plus x = omega arith

  -- from the stem's end on all positions are in the loop
  pub position_late : (i : ℕ) → l.stem ≤ i → l.stem ≤ position_on l i
  position_late zero h = h
  position_late (suc i) h = elim (cases_eq l.stem (suc i)) [
    | inl e ↦ rw (position_early (suc i) (omega (arith, e))) h
    | inr e ↦ next_cases l (position_on l i) (λ x. l.stem ≤ x) (λ k. omega arith) (λ k. omega (arith, position_late i (omega (arith, e))))
  ]

  -- from a position of the loop on, each position of the loop is reached within a turn
  pub hits : (i : ℕ) → l.stem ≤ position_on l i → position_on l i ≤ end_of l → (j : ℕ) → l.stem ≤ j → j ≤ end_of l → (k : ℕ) × (i ≤ k) × (k < i + suc l.further) × (position_on l k ≡ j)
  hits i a b j c d = elim (cases_lt j (position_on l i)) [ inl h ↦ around h | inr h ↦ ahead h ]
    where
      ahead : position_on l i ≤ j → (k : ℕ) × (i ≤ k) × (k < i + suc l.further) × (position_on l k ≡ j)
      ahead h = (i + (j - position_on l i), omega arith, omega arith, run_on i (j - position_on l i) (omega arith) ∙ omega arith)

      turned : position_on l (suc (i + (end_of l - position_on l i))) ≡ l.stem
      turned = ap (next_of l) (run_on i (end_of l - position_on l i) (omega arith)) ∙ next_cases l (position_on l i + (end_of l - position_on l i)) (λ x. x ≡ l.stem) (λ e. refl) (λ e. absurd (e (omega arith)))

      around : j < position_on l i → (k : ℕ) × (i ≤ k) × (k < i + suc l.further) × (position_on l k ≡ j)
      around h = (
        suc (i + (end_of l - position_on l i)) + (j - l.stem),
        omega arith,
        omega arith,
        run_on (suc (i + (end_of l - position_on l i))) (j - l.stem) (omega (arith, turned)) ∙ omega (arith, turned),
      )

-- ---- each justice condition

-- what holds of each condition made of a fairness condition
fair_conditions : (P : Condition → Type 0) (cs : List Fair) → Each (λ c. P (fair_condition c)) cs → Each P (map fair_condition cs)
fair_conditions P [] h = tt
fair_conditions P (c ∷ cs) h = (h.0, fair_conditions P cs h.1)

-- what holds of each condition made of a label
pub label_conditions : (P : Condition → Type 0) (table : List Key) (b : ℕ) (ks : List Key) → ((i : ℕ) → i < length ks → P (label_justice table (b + i) (get_or ks i no_key))) → Each P (label_justices table b ks)
label_conditions P table b [] h = tt
label_conditions P table b (k ∷ ks) h = (subst (λ x. P (label_justice table x k)) (plus_zero b) (h 0 (omega arith)), label_conditions P table (suc b) ks (λ i lt. subst (λ x. P (label_justice table x (get_or ks i no_key))) (plus_suc b i) (h (suc i) (omega arith))))
  where
    plus_zero : (b : ℕ) → b + 0 ≡ b
    plus_zero b = omega arith

    plus_suc : (b i : ℕ) → b + suc i ≡ suc b + i
    plus_suc b i = omega arith

-- what holds of each justice condition
pub justice_conditions : (P : Condition → Type 0) (p : Parts) → ((j : ℕ) → j < length p.fairs → P (fair_condition (fair_at p j))) → ((n : ℕ) → n < length (labels_of p) → P (label_justice (labels_of p) n (key_at p n)))
    → (c : ℕ) → c < length (problem_of p).justice → P (justice_at (problem_of p) c)
justice_conditions P p fairs labels = each_at P no_condition (map fair_condition p.fairs ++ label_justices (labels_of p) 0 (labels_of p))
    (each_both P (map fair_condition p.fairs) (label_justices (labels_of p) 0 (labels_of p)) (fair_conditions P p.fairs (each_from (λ c. P (fair_condition c)) no_fair p.fairs fairs))
    (label_conditions P (labels_of p) 0 (labels_of p) (λ n lt. subst (λ x. P (label_justice (labels_of p) x (key_at p n))) (zero_plus n) (labels n lt))))
  where
    zero_plus : (n : ℕ) → n ≡ 0 + n
    zero_plus n = omega arith

module _ (p : Parts) (l : Lasso) (run : IsLassoRun p l) (scoped : IsScoped p) (fair : IsFair p l) (last : ℕ) where
  abbrev r : Run
  r = unrolled_run p l (all_chosen p l) last

  -- the condition is true of each tuple over what is touched at a, at a position from a on and before j
  abbrev MetAt : ℕ → ℕ → Condition → Type 0
  MetAt a j c = (tuple : List ℕ) → over (touched (problem_of p) r a) c.sorts tuple ≡ true → (k : ℕ) × (a ≤ k) × (k < j) × (truth_in (r.at k) c.body (reverse tuple) ≡ true)

  module _ (a i : ℕ) (ai : a ≤ i) (si : l.stem ≤ i) where
    hit : (j : ℕ) → l.stem ≤ j → j ≤ end_of l → (k : ℕ) × (i ≤ k) × (k < i + suc l.further) × (position_on l k ≡ j)
    hit = hits l i (position_late l i si) (position_bound p l run i)

    -- a tuple over what is touched is in range at each position
    range_at : (ss : List SortId) (tuple : List ℕ) → over (touched (problem_of p) r a) ss tuple ≡ true → (k : ℕ) → in_range (l.state (position_on l k)) ss tuple ≡ true
    range_at ss tuple o k = over_more (touched (problem_of p) r a) (is_element (l.state (position_on l k))) (λ s e h. ap (ltb e) (size_at p l run k s) ∙ touched_in_range p l run last a s e h) ss tuple o

    fair_met : (j : ℕ) → j < length p.fairs → MetAt a (i + suc l.further) (fair_condition (fair_at p j))
    fair_met j b tuple o = found (fair j b tuple (range_at (fair_at p j).params tuple o 0))
      where
        found : (k : ℕ) × (l.stem ≤ k) × (k ≤ end_of l) × (truth_in (l.state k) (fair_at p j).condition (reverse tuple) ≡ true) → (k : ℕ) × (a ≤ k) × (k < i + suc l.further) × (truth_in (r.at k) (fair_at p j).condition (reverse tuple) ≡ true)
        found w =
            let q : (k : ℕ) × (i ≤ k) × (k < i + suc l.further) × (position_on l k ≡ w.0) = hit w.0 w.1 w.2 in (
              q.0,
              le_trans ai q.1,
              q.2,
              sym (own_truth p l (all_chosen p l) (position_on l q.0) (structure_at p l run q.0) (fair_at p j).condition (reverse (fair_at p j).params) (reverse tuple) (scoped.fairs j b)
                  (over_reverse (is_element (l.state (position_on l q.0))) (fair_at p j).params tuple (range_at (fair_at p j).params tuple o q.0)))
                  ∙ (ap (λ x. truth_in (l.state x) (fair_at p j).condition (reverse tuple)) q.3 ∙ w.3),
            )

    abbrev body : ℕ → Formula
    body n = reading (labels_of p) (reverse (key_at p n).sorts) (key_at p n).inner

    abbrev atom_at : ℕ → ℕ → List ℕ → Bool
    atom_at n k tuple = (r.at k).holds (Label n) (values_of (r.at k) (reverse tuple) (tuple_variables (length (key_at p n).sorts)))

    justice_truth : (n k : ℕ) (tuple : List ℕ) → truth_in (r.at k) (label_justice (labels_of p) n (key_at p n)).body (reverse tuple) ≡ (atom_at n k tuple || (not (truth_in (r.at k) (body n) (reverse tuple)) || false))
    justice_truth n k tuple = simp truths refl

    label_met : (n : ℕ) → n < length (labels_of p) → MetAt a (i + suc l.further) (label_justice (labels_of p) n (key_at p n))
    label_met n b tuple o = elim (cases_Bool (at_each_later l (position_on l i) (λ j. holds l (all_chosen p l) (key_at p n).inner j (reverse tuple)))) [
      | inl h ↦ (
        i,
        ai,
        omega arith,
        justice_truth n i tuple ∙ or_left (atom_at n i tuple) (not (truth_in (r.at i) (body n) (reverse tuple)) || false)
            (ap ((r.at i).holds (Label n)) (tuple_read (r.at i) (length (key_at p n).sorts) tuple (over_length (touched (problem_of p) r a) (key_at p n).sorts tuple o))
            ∙ (table_is p l run scoped i n b tuple (range_at (key_at p n).sorts tuple o i) ∙ h)),
      )
      | inr h ↦ missed (all_below_not (suc (end_of l)) (λ j. not (leb (min (position_on l i) l.stem) j) || holds l (all_chosen p l) (key_at p n).inner j (reverse tuple)) h)
    ]
      where
        missed : (j : ℕ) × (j < suc (end_of l)) × ((not (leb (min (position_on l i) l.stem) j) || holds l (all_chosen p l) (key_at p n).inner j (reverse tuple)) ≡ false)
            → (k : ℕ) × (a ≤ k) × (k < i + suc l.further) × (truth_in (r.at k) (label_justice (labels_of p) n (key_at p n)).body (reverse tuple) ≡ true)
        missed w =
            let c : (not (leb (min (position_on l i) l.stem) w.0) ≡ false) × (holds l (all_chosen p l) (key_at p n).inner w.0 (reverse tuple) ≡ false) = or_parts _ _ w.2 in
            let m : min (position_on l i) l.stem ≤ w.0 = leb-true _ _ (not-false _ c.0) in
            let late : l.stem ≤ position_on l i = position_late l i si in
            let q : (k : ℕ) × (i ≤ k) × (k < i + suc l.further) × (position_on l k ≡ w.0) = hit w.0 (omega (arith, m, late)) (omega (arith, w.1)) in (
              q.0,
              le_trans ai q.1,
              q.2,
              justice_truth n q.0 tuple ∙ or_right (atom_at n q.0 tuple) (not (truth_in (r.at q.0) (body n) (reverse tuple)) || false) (or_left (not (truth_in (r.at q.0) (body n) (reverse tuple))) false
                  (ap not (body_true p l run scoped q.0 n b tuple (range_at (key_at p n).sorts tuple o q.0) ∙ (ap (λ x. holds l (all_chosen p l) (key_at p n).inner x (reverse tuple)) q.3 ∙ c.1)))),
            )

    -- from any position before a position of the loop, up to a turn behind it, is a round
    pub turn_round : IsRound (problem_of p) r a (i + suc l.further)
    turn_round = justice_conditions (MetAt a (i + suc l.further)) p fair_met label_met
