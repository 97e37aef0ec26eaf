-- Formulas that are true up to some place.
use Rattle.std.proofs.Common.{◌≡◌, ℕ, zero, suc, ◌<◌, ◌≤◌, true, false, ◌&&◌, List, [], ◌∷◌, length, get_or, refl, ap, subst, ◌∙◌, arith, ltb, ⊎_elim}
use Rattle.std.proofs.lemmas.Bool.{and_from, cases_Bool, ltb-false, ltb-true}
use Rattle.std.proofs.Math.Bool.{and-false}
use Rattle.lv_formula.specs.declared.formula.Formula.{Formula}
use Rattle.lv_formula.specs.declared.formula.Formula.TheVariants.{True}
use Rattle.lv_formula.specs.Measures.{depth_of, depth_of_all}
use Rattle.lv_formula.specs.Meaning.{Meaning}
use Rattle.lv_formula.specs.Truth.{truth_in, all_true_in}
use Rattle.lv_eval.specs.FirstFalse.{IsFirstFalse}

-- no formula of a list is deeper than all together
pub depth_at : (fs : List Formula) (i : ℕ) → i < length fs → depth_of (get_or fs i True) ≤ depth_of_all fs
depth_at [] i lt = absurd (omega (arith, lt))
depth_at (f ∷ fs) zero lt = omega arith
depth_at (f ∷ fs) (suc i) lt = let rest = depth_at fs i (omega (arith, lt)) in omega (arith, rest)

-- each of the formulas before the place is true
abbrev pub AreTrueBefore : Meaning → List Formula → ℕ → Type 0
AreTrueBefore m fs n = (i : ℕ) → i < n → truth_in m (get_or fs i True) [] ≡ true

pub none_before : (m : Meaning) (fs : List Formula) → AreTrueBefore m fs 0
none_before m fs i lt = absurd (omega (arith, lt))

pub one_more : (m : Meaning) (fs : List Formula) (n : ℕ) → AreTrueBefore m fs n → truth_in m (get_or fs n True) [] ≡ true → AreTrueBefore m fs (suc n)
one_more m fs n before here i lt = ⊎_elim
    (λ less. before i (ltb-true i n less))
    (λ not. let from = ltb-false i n not in let same : n ≡ i = omega (arith, from, lt) in subst (λ k. truth_in m (get_or fs k True) [] ≡ true) same here)
    (cases_Bool (ltb i n))

pub all_true : (m : Meaning) (fs : List Formula) → AreTrueBefore m fs (length fs) → all_true_in m fs [] ≡ true
all_true m [] before = refl
all_true m (f ∷ fs) before = and_from (truth_in m f []) (all_true_in m fs []) (before zero (omega arith)) (all_true m fs (λ i lt. before (suc i) (omega (arith, lt))))

pub false_at : (m : Meaning) (fs : List Formula) (n : ℕ) → n < length fs → truth_in m (get_or fs n True) [] ≡ false → all_true_in m fs [] ≡ false
false_at m [] n lt h = absurd (omega (arith, lt))
false_at m (f ∷ fs) zero lt h = ap (λ b. b && all_true_in m fs []) h
false_at m (f ∷ fs) (suc n) lt h = ap (λ b. truth_in m f [] && b) (false_at m fs n (omega (arith, lt)) h) ∙ and-false (truth_in m f [])

-- where one is the first that is false, not all are true
pub not_all_true : (m : Meaning) (fs : List Formula) (n : ℕ) → IsFirstFalse m fs n → all_true_in m fs [] ≡ false
not_all_true m fs n first = false_at m fs n first.there first.fails
