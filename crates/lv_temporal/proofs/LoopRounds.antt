-- A violating lasso run, unrolled far enough, has too many rounds.
use Rattle.std.proofs.Common.{◌≡◌, ℕ, zero, suc, ◌+◌, ◌-◌, ◌*◌, ◌<◌, ◌≤◌, Bool, true, false, ◌||◌, cond, refl, sym, ap, ap₂, ◌∙◌, List, [], ◌∷◌, length, get_or, reverse, arith, inl, inr, suc-mul, zero-le}
use Rattle.std.proofs.lemmas.Bool.{cases_Bool, false≢true, or_cases, or_left}
use Rattle.lv_formula.specs.declared.symbols.SortId.{SortId}
use Rattle.lv_formula.specs.Meaning.{is_element}
use Rattle.lv_formula.specs.Truth.{any_below, truth_in}
use Rattle.lv_formula.proofs.Below.{any_below-holds, any_below_same}
use Rattle.lv_system.specs.declared.parts.Parts.{Parts}
use Rattle.lv_system.specs.Lasso.{IsFair, IsLassoRun, Meets, Stop, lasso_of}
use Rattle.lv_system.specs.Step.{action_at}
use Rattle.lv_system.specs.TemporalTruth.{Lasso, holds}
use Rattle.lv_labels.specs.Positions.{Position, no_position, run_of, seen_at}
use Rattle.lv_labels.specs.Problem.{Problem, justice_at, problem_of}
use Rattle.lv_labels.specs.Rounds.{AreRounds, IsBounded, IsRound, valuations}
use Rattle.lv_labels.specs.Runs.{IsLabelledRun, Run, is_denoted, is_finite, is_passed, touched}
use Rattle.lv_temporal.specs.TrueLabels.{TrueLabels, chosen, chosen_witnesses, position_of, position_on, unrolled}
use Rattle.lv_temporal.proofs.Listed.{get_listed, length-listed}
use Rattle.lv_labels.proofs.Ranges.{over_more}

-- what is touched at first is touched later
pub touched_later : (q : Problem) (r : Run) (i : ℕ) (s : SortId) (x : ℕ) → touched q r 0 s x ≡ true → touched q r i s x ≡ true
touched_later q r i s x h = by_value (is_finite q.parts s) h
  where
    listed_first : ((false || is_denoted q (r.at 0) s x) || false) ≡ true → any_below (suc i) (λ k. is_denoted q (r.at k) s x) ≡ true
    listed_first h = elim (or_cases (is_denoted q (r.at 0) s x) false h) [
      | inl a ↦ any_below-holds (suc i) (λ k. is_denoted q (r.at k) s x) 0 (omega arith) a
      | inr a ↦ absurd (false≢true a)
    ]

    by_value : (b : Bool) → cond b (is_element (r.at 0) s x) ((false || is_denoted q (r.at 0) s x) || false) ≡ true
        → cond b (is_element (r.at 0) s x) (any_below (suc i) (λ k. is_denoted q (r.at k) s x) || any_below i (λ k. is_passed (action_at q.parts (r.action k)).params (r.elements k) s x)) ≡ true
    by_value true h = h
    by_value false h = or_left (any_below (suc i) (λ k. is_denoted q (r.at k) s x)) (any_below i (λ k. is_passed (action_at q.parts (r.action k)).params (r.elements k) s x)) (listed_first h)

-- a round from a later position on is one from the first position on
pub round_from_first : (q : Problem) (r : Run) (i j : ℕ) → IsRound q r i j → IsRound q r 0 j
round_from_first q r i j round c b tuple o = earlier (round c b tuple (over_more (touched q r 0) (touched q r i) (touched_later q r i) (justice_at q c).sorts tuple o))
  where
    earlier : (k : ℕ) × (i ≤ k) × (k < j) × (truth_in (r.at k) (justice_at q c).body (reverse tuple) ≡ true) → (k : ℕ) × (0 ≤ k) × (k < j) × (truth_in (r.at k) (justice_at q c).body (reverse tuple) ≡ true)
    earlier w = (w.0, zero-le, w.2, w.3)

-- the ends of n turns of this length after i
abbrev turns : ℕ → ℕ → ℕ → List ℕ
turns len i zero = []
turns len i (suc n) = (i + len) ∷ turns len (i + len) n

length_turns : (len i n : ℕ) → length (turns len i n) ≡ n
length_turns len i zero = refl
length_turns len i (suc n) = ap suc (length_turns len (i + len) n)

module _ (p : Parts) (stem loop : List Stop) where
  abbrev l : Lasso
  l = lasso_of stem loop

  abbrev place : ℕ → Position
  place i = position_of p l (chosen p l (length p.witnesses)) (position_on l i)

  abbrev run_to : ℕ → Run
  run_to last = run_of (chosen_witnesses p l) (unrolled p l last)

  last_of : (last : ℕ) → (run_to last).last ≡ last
  last_of last = ap (λ n. n - 1) (length-listed (suc last) place) ∙ less last
    where
      less : (n : ℕ) → suc n - 1 ≡ n
      less n = omega arith

  place_of : (last i : ℕ) → i ≤ last → get_or (unrolled p l last) i no_position ≡ place i
  place_of last i h = get_listed (suc last) place i no_position (omega arith)

  at_same : (last other i : ℕ) → i ≤ last → i ≤ other → get_or (unrolled p l last) i no_position ≡ get_or (unrolled p l other) i no_position
  at_same last other i h k = place_of last i h ∙ sym (place_of other i k)

  -- what is touched does not depend on how far the lasso is unrolled
  touched_same : (last other i : ℕ) → i ≤ last → i ≤ other → touched (problem_of p) (run_to last) i ≡ touched (problem_of p) (run_to other) i
  touched_same last other i h k = λ j s x. same s x j
    where
      same : (s : SortId) (x : ℕ) → touched (problem_of p) (run_to last) i s x ≡ touched (problem_of p) (run_to other) i s x
      same s x = ap₂ (λ a b. cond (is_finite p s) a b)
          (ap (λ y. is_element (seen_at y (chosen_witnesses p l)) s x) (at_same last other 0 zero-le zero-le))
          (ap₂ (λ a b. a || b)
          (any_below_same (suc i) (λ n. is_denoted (problem_of p) ((run_to last).at n) s x) (λ n. is_denoted (problem_of p) ((run_to other).at n) s x)
          (λ n m. ap (λ y. is_denoted (problem_of p) (seen_at y (chosen_witnesses p l)) s x) (at_same last other n (omega (arith, h)) (omega (arith, k)))))
          (any_below_same i (λ n. is_passed (action_at p ((run_to last).action n)).params ((run_to last).elements n) s x) (λ n. is_passed (action_at p ((run_to other).action n)).params ((run_to other).elements n) s x)
          (λ n m. ap (λ y. is_passed (action_at p y.action).params y.elements s x) (at_same last other n (omega (arith, h)) (omega (arith, k))))))

  size_same : (last other : ℕ) → ((run_to last).at 0).size ≡ ((run_to other).at 0).size
  size_same last other = ap (λ y. (seen_at y (chosen_witnesses p l)).size) (at_same last other 0 zero-le zero-le)

  module _ (last : ℕ) (some : 0 < length loop) (rounds : (i : ℕ) → length stem ≤ i → i + length loop ≤ last → IsRound (problem_of p) (run_to last) i (i + length loop)) where
    -- turns after the stem are one round after another
    turns_rounds : (n i : ℕ) → length stem ≤ i → i + n * length loop ≤ last → AreRounds (problem_of p) (run_to last) i (turns (length loop) i n)
    turns_rounds zero i a b = tt
    turns_rounds (suc n) i a b =
        let c : i + (n * length loop + length loop) ≤ last = rw suc-mul at b in
        let m : i + length loop ≤ last = omega (arith, c) in
        let k : (i + length loop) + n * length loop ≤ last = omega (arith, c) in
        (omega (arith, some), rw (last_of last) m, rounds i a m, turns_rounds n (i + length loop) (omega (arith, a)) k)

too_many : (p : Parts) → TrueLabels p → ((r : Run) → IsLabelledRun (problem_of p) r → IsBounded (problem_of p) r) → (stem loop : List Stop) → 0 < length loop → IsLassoRun p (lasso_of stem loop) → IsFair p (lasso_of stem loop)
    → holds (lasso_of stem loop) (λ k. 0) p.property 0 [] ≡ false → ⊥
too_many p labels bounded stem loop some run fair violated =
    let f : ℕ = length stem + length loop in
    let bound : ℕ = valuations (problem_of p) (touched (problem_of p) (run_to p stem loop f) f) ((run_to p stem loop f).at 0).size in
    let last : ℕ = f + suc bound * length loop in
    let rounds : (i : ℕ) → length stem ≤ i → i + length loop ≤ last → IsRound (problem_of p) (run_to p stem loop last) i (i + length loop) = labels.rounds stem loop some run fair last in
    let first : IsRound (problem_of p) (run_to p stem loop last) 0 f = round_from_first (problem_of p) (run_to p stem loop last) (length stem) f (rounds (length stem) (omega arith) (omega arith)) in
    let reached : f ≤ (run_to p stem loop last).last = rw (last_of p stem loop last) (omega arith) in
    let few : length (turns (length loop) f (suc bound)) ≤ valuations (problem_of p) (touched (problem_of p) (run_to p stem loop last) f) ((run_to p stem loop last).at 0).size =
    bounded (run_to p stem loop last) (labels.labelled stem loop some run violated last) f (turns (length loop) f (suc bound))
    (omega (arith, some), reached, first, turns_rounds p stem loop last some rounds (suc bound) f (omega arith) (omega arith)) in
    let same : valuations (problem_of p) (touched (problem_of p) (run_to p stem loop last) f) ((run_to p stem loop last).at 0).size ≡ bound =
    ap₂ (λ set size. valuations (problem_of p) set size) (touched_same p stem loop last f f (omega arith) (omega arith)) (size_same p stem loop last f) in
    absurd (omega (arith, few, same, length_turns (length loop) f (suc bound)))

-- where labels can be true and rounds are few, a system meets its property
pub meets : (p : Parts) → TrueLabels p → ((r : Run) → IsLabelledRun (problem_of p) r → IsBounded (problem_of p) r) → Meets p
meets p labels bounded stem loop some run fair = elim (cases_Bool (holds (lasso_of stem loop) (λ k. 0) p.property 0 [])) [
  | inl h ↦ h
  | inr h ↦ absurd (too_many p labels bounded stem loop some run fair h)
]
