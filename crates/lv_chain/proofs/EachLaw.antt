-- Lists of what there is for each number, one number after the other.
use Rattle.std.proofs.Common.{◌≡◌, ℕ, zero, suc, ◌+◌, ◌-◌, ◌<◌, ◌≤◌, List, [], ◌∷◌, ◌++◌, sym, ap, ◌∙◌, arith}
use Rattle.std.proofs.lemmas.List.{append_assoc}
use Rattle.lv_formula.specs.declared.formula.Formula.{Formula}
use Rattle.lv_chain.specs.declared.formulas.OfPair.{OfPair}
use Rattle.lv_chain.specs.Formulas.{each, of_pair, of_pairs}

-- one more at the end
pub each_more : {A : Type 0} (f : ℕ → A) (first count : ℕ) → each f first count ++ f (first + count) ∷ [] ≡ each f first (suc count)
each_more f first zero = let at : first + 0 ≡ first = omega arith in ap (λ i. f i ∷ []) at
each_more f first (suc count) = let at : first + suc count ≡ first + 1 + count = omega arith in
    ap (λ i. f first ∷ (each f (first + 1) count ++ f i ∷ [])) at ∙ ap (λ xs. f first ∷ xs) (each_more f (first + 1) count)

-- a step of a loop that puts one for each number
pub each_step : {A : Type 0} (f : ℕ → A) (first i : ℕ) (old before after : List A) (x : A) → first ≤ i → before ≡ old ++ each f first (i - first) → x ≡ f i → after ≡ before ++ x ∷ []
    → after ≡ old ++ each f first (i + 1 - first)
each_step f first i old before after x le was is pushed =
    let at : i ≡ first + (i - first) = omega (arith, le) in
    let more : suc (i - first) ≡ i + 1 - first = omega (arith, le) in
    pushed ∙ (ap (λ xs. xs ++ x ∷ []) was ∙ (append_assoc old (each f first (i - first)) (x ∷ [])
    ∙ ap (λ xs. old ++ xs) (ap (λ y. each f first (i - first) ++ y ∷ []) (is ∙ ap f at) ∙ (each_more f first (i - first) ∙ ap (each f first) more))))

-- the same from number 0 on, into an empty list
pub each_step_from_none : {A : Type 0} (f : ℕ → A) (i : ℕ) (before after : List A) (x : A) → before ≡ each f 0 i → x ≡ f i → after ≡ before ++ x ∷ [] → after ≡ each f 0 (i + 1)
each_step_from_none f i before after x was is pushed =
    let at : i ≡ 0 + i = omega arith in
    let more : suc i ≡ i + 1 = omega arith in
    pushed ∙ (ap (λ xs. xs ++ x ∷ []) was ∙ (ap (λ y. each f 0 i ++ y ∷ []) (is ∙ ap f at) ∙ (each_more f 0 i ∙ ap (each f 0) more)))

-- the formulas of a place with those behind it, and those of the pairs of later places
pub pairs_step : (kind : OfPair) (i end : ℕ) (before after all : List Formula) → i < end → before ++ of_pairs kind i (end - i) ≡ all
    → after ≡ before ++ each (of_pair kind i) (i + 1) (end - (i + 1)) → after ++ of_pairs kind (i + 1) (end - (i + 1)) ≡ all
pairs_step kind i end before after all lt was made =
    let count : end - i ≡ suc (end - (i + 1)) = omega (arith, lt) in
    let next : suc i ≡ i + 1 = omega arith in
    let row = each (of_pair kind i) (i + 1) (end - (i + 1)) in
    let others = of_pairs kind (i + 1) (end - (i + 1)) in
    ap (λ xs. xs ++ others) made ∙ (append_assoc before row others
    ∙ (ap (λ xs. before ++ xs) (sym (ap (of_pairs kind i) count ∙ ap (λ n. each (of_pair kind i) n (end - (i + 1)) ++ of_pairs kind n (end - (i + 1))) next)) ∙ was))
