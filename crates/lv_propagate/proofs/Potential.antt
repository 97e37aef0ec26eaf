-- What has been propagated pays for the reads: a clause of n literals pays n for each of them that is false.
use Rattle.std.proofs.Common.{◌≡◌, ℕ, zero, suc, ◌<◌, ◌+◌, ◌-◌, ◌*◌, ◌≤◌, Bool, true, false, List, [], ◌∷◌, ◌++◌, refl, sym, ◌∙◌, ap, length, get_or, arith}
use Rattle.std.specs.Prelude.{map}
use Rattle.std.specs.List.{Contains, sum_by}
use Rattle.std.proofs.Math.Nat.{mul-le-mul_left}
use Rattle.std.proofs.lemmas.List.{get_or-map}
use Rattle.std.proofs.lemmas.List.Sums.{sum_by-cons}
use Rattle.lv_cnf.specs.declared.literal.Lit.{Lit}
use Rattle.lv_cnf.specs.Literals.{negated}
use Rattle.lv_cnf.specs.Packed.{clause_at}
use Rattle.lv_watch.specs.Lists.{lengths_at, Within}
use Rattle.lv_propagate.specs.Potential.{one_if, falses, potential, squares}
use Rattle.lv_watch.specs.Lists.{Permutes}
use Rattle.std.specs.List.Sorted.{IsPermutation}
use Rattle.std.proofs.lemmas.List.Sorted.{sum_by-IsPermutation, length_permutation}
use Rattle.lv_propagate.proofs.Sums.{same, sum_at, Apart, sum_at_le}

one_le : (b : Bool) → one_if b ≤ 1
one_le true = omega arith
one_le false = omega arith

one_mono : (a b : Bool) → (a ≡ true → b ≡ true) → one_if a ≤ one_if b
one_mono true b h = let e : one_if b ≡ 1 = ap one_if (h refl) in omega arith
one_mono false b h = omega arith

falses_le : (s : Lit → Bool) (c : List Lit) → falses s c ≤ length c
falses_le s [] = omega arith
falses_le s (m ∷ c) = let a = one_le (s (negated m)) in let b = falses_le s c in omega arith

falses_mono : (s s' : Lit → Bool) (c : List Lit) → Within s s' → falses s c ≤ falses s' c
falses_mono s s' [] w = omega arith
falses_mono s s' (m ∷ c) w =
    let a = one_mono (s (negated m)) (s' (negated m)) (w (negated m)) in let b = falses_mono s s' c w in omega arith

falses_more : (s s' : Lit → Bool) (c : List Lit) (gone : Lit) → Within s s' → Contains c gone → s (negated gone) ≡ false → s' (negated gone) ≡ true →
    falses s c + 1 ≤ falses s' c
falses_more s s' [] gone w (k, lt, e) f t = absurd (omega arith)
falses_more s s' (m ∷ c) gone w (zero, lt, e) f t =
    let a : one_if (s (negated m)) ≡ 0 = ap (λ (l : Lit). one_if (s (negated l))) e ∙ ap one_if f in
    let b : one_if (s' (negated m)) ≡ 1 = ap (λ (l : Lit). one_if (s' (negated l))) e ∙ ap one_if t in
    let d = falses_mono s s' c w in omega arith
falses_more s s' (m ∷ c) gone w (suc k, lt, e) f t =
    let a = one_mono (s (negated m)) (s' (negated m)) (w (negated m)) in
    let b = falses_more s s' c gone w (k, omega arith, e) f t in omega arith

pub phi_le : (s : Lit → Bool) (cs : List (List Lit)) → potential s cs ≤ squares cs
phi_le s [] = omega arith
phi_le s (c ∷ cs) = let a = mul-le-mul_left (length c) (falses_le s c) in let b = phi_le s cs in omega (arith, a, b)

abbrev gain : (Lit → Bool) → (Lit → Bool) → List Lit → ℕ
gain s s' c = length c * falses s' c - length c * falses s c

sum_gains : (s s' : Lit → Bool) (cs : List (List Lit)) → Within s s' → potential s cs + sum_by same (map (gain s s') cs) ≡ potential s' cs
sum_gains s s' [] w = refl
sum_gains s s' (c ∷ cs) w =
    let a = mul-le-mul_left (length c) (falses_mono s s' c w) in
    let b = sum_gains s s' cs w in
    let d = sum_by-cons same (gain s s' c) (map (gain s s') cs) in
    omega (arith, a, b, d)

module _ (s s' : Lit → Bool) (cs : List (List Lit)) (gone : Lit) (w : Within s s') (f : s (negated gone) ≡ false) (t : s' (negated gone) ≡ true) where
  each_gain : (i : ℕ) → i < length cs → Contains (clause_at cs i) gone → length (clause_at cs i) ≤ get_or (map (gain s s') cs) i 0
  each_gain i lt has =
      let c = clause_at cs i in
      let a = mul-le-mul_left (length c) (falses_more s s' c gone w has f t) in
      let e : get_or (map (gain s s') cs) i 0 ≡ gain s s' c = get_or-map (gain s s') cs i [] 0 lt in
      omega (arith, a, e)

  lengths_gain : (list : List ℕ) → ((i : ℕ) → Contains list i → (i < length cs) × Contains (clause_at cs i) gone) →
      lengths_at cs list ≤ sum_at (map (gain s s') cs) list
  lengths_gain [] each = omega arith
  lengths_gain (i ∷ is) each =
      let here = each i (0, omega arith, refl) in
      let a = each_gain i here.0 here.1 in
      let b = lengths_gain is (λ j h. each j (suc h.0, omega arith, h.2)) in
      omega (arith, a, b)

  -- the reads of one walk are paid by what the potential grows
  pub phi_more : (list : List ℕ) → Apart list → ((i : ℕ) → Contains list i → (i < length cs) × Contains (clause_at cs i) gone) →
      potential s cs + lengths_at cs list ≤ potential s' cs
  phi_more list apart each =
      let a = lengths_gain list each in
      let b = sum_at_le list (map (gain s s') cs) apart in
      let d = sum_gains s s' cs w in
      omega (arith, a, b, d)

-- the order of a clause's literals does not matter

abbrev false_in : (Lit → Bool) → Lit → ℕ
false_in s m = one_if (s (negated m))

falses_sum : (s : Lit → Bool) (c : List Lit) → falses s c ≡ sum_by (false_in s) c
falses_sum s [] = refl
falses_sum s (m ∷ c) = let a = falses_sum s c in let b = sum_by-cons (false_in s) m c in omega (arith, a, b)

falses_permuted : (s : Lit → Bool) (c d : List Lit) → IsPermutation c d → falses s d ≡ falses s c
falses_permuted s c d p = falses_sum s d ∙ sum_by-IsPermutation (false_in s) c d p ∙ sym (falses_sum s c)

tail_permutes : (c d : List Lit) (cs ds : List (List Lit)) → Permutes (c ∷ cs) (d ∷ ds) → Permutes cs ds
tail_permutes c d cs ds p = record { count = let e = p.count in omega (arith, e); each = λ i. p.each (suc i) }

pub phi_permuted : (s : Lit → Bool) (old new : List (List Lit)) → Permutes old new → potential s new ≡ potential s old
phi_permuted s [] [] p = refl
phi_permuted s [] (d ∷ ds) p = let e = p.count in absurd (omega (arith, e))
phi_permuted s (c ∷ cs) [] p = let e = p.count in absurd (omega (arith, e))
phi_permuted s (c ∷ cs) (d ∷ ds) p =
    let a : length d ≡ length c = length_permutation c d (p.each 0) in
    let b : falses s d ≡ falses s c = falses_permuted s c d (p.each 0) in
    rw (a, b, phi_permuted s cs ds (tail_permutes c d cs ds p)) refl

falses_same : (s t : Lit → Bool) (c : List Lit) → ((l : Lit) → s l ≡ t l) → falses s c ≡ falses t c
falses_same s t [] same = refl
falses_same s t (m ∷ c) same = rw (same (negated m), falses_same s t c same) refl

pub phi_same : (s t : Lit → Bool) (cs : List (List Lit)) → ((l : Lit) → s l ≡ t l) → potential s cs ≡ potential t cs
phi_same s t [] same = refl
phi_same s t (c ∷ cs) same = rw (falses_same s t c same, phi_same s t cs same) refl

pub phi_append : (s : Lit → Bool) (cs ds : List (List Lit)) → potential s (cs ++ ds) ≡ potential s cs + potential s ds
phi_append s [] ds = omega arith
phi_append s (c ∷ cs) ds = let a = phi_append s cs ds in omega (arith, a)

pub squares_permuted : (old new : List (List Lit)) → Permutes old new → squares new ≡ squares old
squares_permuted [] [] p = refl
squares_permuted [] (d ∷ ds) p = let e = p.count in absurd (omega (arith, e))
squares_permuted (c ∷ cs) [] p = let e = p.count in absurd (omega (arith, e))
squares_permuted (c ∷ cs) (d ∷ ds) p =
    let a : length d ≡ length c = length_permutation c d (p.each 0) in
    rw (a, squares_permuted cs ds (tail_permutes c d cs ds p)) refl
