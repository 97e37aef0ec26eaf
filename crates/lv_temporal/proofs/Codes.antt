-- A projection has a number below the number of projections, and projections with one number are the same.
use Rattle.std.proofs.Common.{◌≡◌, ℕ, zero, suc, ◌+◌, ◌*◌, ◌^◌, ◌/◌, ◌%◌, ◌<◌, ◌≤◌, Bool, true, false, cond, refl, sym, ap, ap₂, ◌∙◌, List, [], ◌∷◌, length, arith, inl, inr, suc-mul, zero-mul, pow-add, mul-one, lit<, le_trans, Option, Some, None}
use Rattle.std.proofs.lemmas.Bool.{and_from, and_parts, cases_eq, cases_order, cond_both, false≢true}
use Rattle.std.proofs.Math.Arith.{digits_lt, digits_div, digits_mod, le-zero}
use Rattle.lv_formula.specs.declared.symbols.SortId.{SortId}
use Rattle.lv_formula.specs.declared.symbols.Sym.TheVariants.{Own, Label}
use Rattle.lv_formula.specs.Meaning.{Meaning}
use Rattle.lv_formula.specs.Tuples.{over}
use Rattle.lv_system.specs.declared.parts.Symbol.{Symbol}
use Rattle.lv_system.specs.declared.parts.Shape.{Shape}
use Rattle.lv_system.specs.declared.parts.Shape.TheVariants.{Relation, Constant}
use Rattle.lv_system.specs.Step.{symbol_at}
use Rattle.lv_system.specs.Vocabularies.{constant_sort, relation_sorts}
use Rattle.lv_labels.specs.Problem.{Problem, label_at}
use Rattle.lv_labels.specs.Rounds.{how_many, number_of_tuples, product, valuations, ways_of, ways_of_shape}
use Rattle.lv_labels.specs.Monitor.{shown}
use Rattle.lv_temporal.specs.Projections.{AreConstantsWithin, IsWithin, LooksAsCopied, LooksLike, Numbering}

-- the number with these digits to these bases
pub number : ℕ → (ℕ → ℕ) → (ℕ → ℕ) → ℕ
number zero base digit = 0
number (suc n) base digit = number n base digit * base n + digit n

-- digits below their bases make a number below the product of the bases
pub number_below : (n : ℕ) (base digit : ℕ → ℕ) → ((i : ℕ) → i < n → digit i < base i) → number n base digit < product n base
unfolding number
number_below zero base digit h = omega arith
number_below (suc n) base digit h = digits_lt (number_below n base digit (λ i l. h i (omega arith))) (h n (omega arith))

-- equal numbers have the same last digit
pub low_same : (q q' m r r' : ℕ) → r < m → r' < m → q * m + r ≡ q' * m + r' → r ≡ r'
low_same q q' m r r' l l' e = sym (digits_mod q l) ∙ (ap (λ x. x % m) e ∙ digits_mod q' l')

-- and the same digits before it
pub high_same : (q q' m r r' : ℕ) → r < m → r' < m → q * m + r ≡ q' * m + r' → q ≡ q'
high_same q q' m r r' l l' e = sym (digits_div q l) ∙ (ap (λ x. x / m) e ∙ digits_div q' l')

-- equal numbers have equal digits
pub number_same : (n : ℕ) (base d d' : ℕ → ℕ) → ((i : ℕ) → i < n → d i < base i) → ((i : ℕ) → i < n → d' i < base i) → number n base d ≡ number n base d' → (i : ℕ) → i < n → d i ≡ d' i
unfolding number
number_same zero base d d' h h' e i l = absurd (omega arith)
number_same (suc n) base d d' h h' e i l = elim (cases_eq i n) [
  | inl k ↦ rw k (low_same (number n base d) (number n base d') (base n) (d n) (d' n) (h n (omega arith)) (h' n (omega arith)) e)
  | inr k ↦ number_same n base d d' (λ j m. h j (omega arith)) (λ j m. h' j (omega arith)) (high_same (number n base d) (number n base d') (base n) (d n) (d' n) (h n (omega arith)) (h' n (omega arith)) e) i (omega (arith, k))
]

-- numbers with equal digits are equal
number_alike : (n : ℕ) (base d d' : ℕ → ℕ) → ((i : ℕ) → i < n → d i ≡ d' i) → number n base d ≡ number n base d'
unfolding number
number_alike zero base d d' h = refl
number_alike (suc n) base d d' h = ap₂ (λ x y. x * base n + y) (number_alike n base d d' (λ i l. h i (omega arith))) (h n (omega arith))

digit_alike : (b : Bool) (v w : ℕ) → (b ≡ true → v ≡ w) → cond b v 0 ≡ cond b w 0
digit_alike true v w h = h refl
digit_alike false v w h = refl

abbrev digit_base : (ℕ → Bool) → ℕ → ℕ → ℕ
digit_base set t e = cond (set e) (2 ^ t) 1

abbrev digit_in : (ℕ → Bool) → (ℕ → ℕ) → ℕ → ℕ
digit_in set g e = cond (set e) (g e) 0

ways_step : (b : Bool) (q l t : ℕ) → q ≡ 2 ^ (l * t) → q * cond b (2 ^ t) 1 ≡ 2 ^ (cond b (suc l) l * t)
ways_step true q l t e = rw (e, suc-mul) (sym (pow-add 2 (l * t) t))
ways_step false q l t e = rw e (mul-one _)

ways_product : (set : ℕ → Bool) (t n : ℕ) → product n (digit_base set t) ≡ 2 ^ (how_many set n * t)
ways_product set t zero = rw zero-mul
ways_product set t (suc n) = ways_step (set n) (product n (digit_base set t)) (how_many set n) t (ways_product set t n)

-- the number of a set of tuples, which its test gives
pub code : (SortId → ℕ → Bool) → (SortId → ℕ) → List SortId → (List ℕ → Bool) → ℕ
code set size [] f = cond (f []) 1 0
code set size (s ∷ ss) f = number (size s) (digit_base (set s) (number_of_tuples set size ss)) (digit_in (set s) (λ e. code set size ss (λ t. f (e ∷ t))))

bit_below : (b : Bool) → cond b 1 0 < 2 ^ 1
bit_below true = lit< tt
bit_below false = lit< tt

bit_same : (b c : Bool) → ◌≡◌ {A = ℕ} (cond b 1 0) (cond c 1 0) → b ≡ c
bit_same true true e = refl
bit_same true false e = absurd (omega (arith, e))
bit_same false true e = absurd (omega (arith, e))
bit_same false false e = refl

digit_below : (b : Bool) (v t : ℕ) → v < 2 ^ t → cond b v 0 < cond b (2 ^ t) 1
digit_below true v t l = l
digit_below false v t l = lit< tt

module _ (set : SortId → ℕ → Bool) (size : SortId → ℕ) where
  -- the number of a set of tuples is below two to the number of tuples
  pub code_below : (ss : List SortId) (f : List ℕ → Bool) → code set size ss f < 2 ^ number_of_tuples set size ss
  unfolding code
  code_below [] f = bit_below (f [])
  code_below (s ∷ ss) f = rw (← ways_product (set s) (number_of_tuples set size ss) (size s)) (number_below (size s) (digit_base (set s) (number_of_tuples set size ss)) (digit_in (set s) (λ e. code set size ss (λ t. f (e ∷ t)))) (λ e l. digit_below (set s e) (code set size ss (λ t. f (e ∷ t))) (number_of_tuples set size ss) (code_below ss (λ t. f (e ∷ t)))))

  -- sets of tuples with one number are the same over the set
  pub code_same : IsWithin size set → (ss : List SortId) (f g : List ℕ → Bool) → code set size ss f ≡ code set size ss g → (tuple : List ℕ) → over set ss tuple ≡ true → f tuple ≡ g tuple
  unfolding code
  code_same within [] f g e [] o = bit_same (f []) (g []) e
  code_same within [] f g e (x ∷ xs) o = absurd (false≢true o)
  code_same within (s ∷ ss) f g e [] o = absurd (false≢true o)
  code_same within (s ∷ ss) f g e (x ∷ xs) o =
      let w = and_parts (set s x) (over set ss xs) o in
      code_same within ss (λ t. f (x ∷ t)) (λ t. g (x ∷ t)) (chosen w.0 (number_same (size s) (digit_base (set s) (number_of_tuples set size ss)) (digit_in (set s) (λ y. code set size ss (λ t. f (y ∷ t)))) (digit_in (set s) (λ y. code set size ss (λ t. g (y ∷ t))))
      (λ y l. digit_below (set s y) (code set size ss (λ t. f (y ∷ t))) (number_of_tuples set size ss) (code_below ss (λ t. f (y ∷ t))))
      (λ y l. digit_below (set s y) (code set size ss (λ t. g (y ∷ t))) (number_of_tuples set size ss) (code_below ss (λ t. g (y ∷ t))))
      e x (within s x w.0))) xs w.1
    where
      chosen : {b : Bool} {v v' : ℕ} → b ≡ true → cond b v 0 ≡ cond b v' 0 → v ≡ v'
      chosen {b} {v} {v'} h k = rw h at k

  -- sets of tuples that are the same over the set have one number
  pub code_alike : (ss : List SortId) (f g : List ℕ → Bool) → ((tuple : List ℕ) → over set ss tuple ≡ true → f tuple ≡ g tuple) → code set size ss f ≡ code set size ss g
  unfolding code
  code_alike [] f g h = ap (λ b. cond b 1 0) (h [] refl)
  code_alike (s ∷ ss) f g h = number_alike (size s) (digit_base (set s) (number_of_tuples set size ss)) (digit_in (set s) (λ e. code set size ss (λ t. f (e ∷ t)))) (digit_in (set s) (λ e. code set size ss (λ t. g (e ∷ t))))
      (λ e l. digit_alike (set s e) (code set size ss (λ t. f (e ∷ t))) (code set size ss (λ t. g (e ∷ t)))
      (λ k. code_alike ss (λ t. f (e ∷ t)) (λ t. g (e ∷ t)) (λ t o. h (e ∷ t) (and_from (set s e) (over set ss t) k o))))

-- the place of an element in the set, counted from 1, or 0 where it is outside
abbrev pub spot : (ℕ → Bool) → ℕ → ℕ
spot set e = cond (set e) (suc (how_many set e)) 0

how_many_le : (set : ℕ → Bool) (a n : ℕ) → a ≤ n → how_many set a ≤ how_many set n
how_many_le set a zero l = rw (le-zero l) (omega arith)
how_many_le set a (suc n) l = elim (cases_eq a (suc n)) [
  | inl e ↦ rw e (omega arith)
  | inr e ↦ le_trans (how_many_le set a n (omega (arith, e))) (grown (set n) (how_many set n))
]
  where
    grown : (b : Bool) (v : ℕ) → v ≤ cond b (suc v) v
    grown true v = omega arith
    grown false v = omega arith

how_many_more : (set : ℕ → Bool) (a n : ℕ) → a < n → set a ≡ true → how_many set a < how_many set n
how_many_more set a n l h = le_trans (now h) (how_many_le set (suc a) n l)
  where
    now : set a ≡ true → suc (how_many set a) ≤ how_many set (suc a)
    now h = rw h (omega arith)

-- a spot is at most the number of elements of the set
pub spot_below : (set : ℕ → Bool) (e n : ℕ) → e < n → spot set e < suc (how_many set n)
spot_below set e n l = cond_both (set e) (suc (how_many set e)) 0 (λ v. v < suc (how_many set n)) (λ h. let k : how_many set e < how_many set n = how_many_more set e n l h in omega arith) (λ h. omega arith)

spot_cases : (set : ℕ → Bool) (a b : ℕ) (x y : Bool) → set a ≡ x → set b ≡ y → cond x (suc (how_many set a)) 0 ≡ cond y (suc (how_many set b)) 0 → ◌≡◌ {A = Option ℕ} (cond x (Some a) None) (cond y (Some b) None)
spot_cases set a b true true h k e = elim (cases_order a b) [
  | inl m ↦ ap Some m
  | inr m ↦ elim m [
    | inl l ↦ let q : how_many set a < how_many set b = how_many_more set a b l h in absurd (omega (arith, e))
    | inr l ↦ let q : how_many set b < how_many set a = how_many_more set b a l k in absurd (omega (arith, e))
  ]
]
spot_cases set a b true false h k e = absurd (omega (arith, e))
spot_cases set a b false true h k e = absurd (omega (arith, e))
spot_cases set a b false false h k e = refl

-- elements at one spot show the same
pub spot_same : (set : ℕ → Bool) (a b : ℕ) → spot set a ≡ spot set b → shown set a ≡ shown set b
spot_same set a b e = spot_cases set a b (set a) (set b) refl refl e

spot_alike_at : (set : ℕ → Bool) (a b : ℕ) (x y : Bool) → ◌≡◌ {A = Option ℕ} (cond x (Some a) None) (cond y (Some b) None) → cond x (suc (how_many set a)) 0 ≡ cond y (suc (how_many set b)) 0
spot_alike_at set a b true true e = let k : a ≡ b = cc in ap (λ c. suc (how_many set c)) k
spot_alike_at set a b true false e = cc
spot_alike_at set a b false true e = cc
spot_alike_at set a b false false e = refl

-- elements that show the same have one spot
pub spot_alike : (set : ℕ → Bool) (a b : ℕ) → shown set a ≡ shown set b → spot set a ≡ spot set b
spot_alike set a b e = spot_alike_at set a b (set a) (set b) e

-- how a symbol looks, as a number below its ways
abbrev pub shape_digit : (SortId → ℕ → Bool) → (SortId → ℕ) → Meaning → ℕ → Shape → ℕ
shape_digit set size m i (Relation sorts) = code set size sorts (m.holds (Own i))
shape_digit set size m i (Constant sort) = spot (set sort) (m.value (Own i))

-- a fixed symbol counts for nothing
abbrev pub symbol_digit : (SortId → ℕ → Bool) → (SortId → ℕ) → Meaning → ℕ → Symbol → ℕ
symbol_digit set size m i s = cond s.fixed 0 (shape_digit set size m i s.shape)

-- the number of the projection of a structure to a set
unfoldable pub projection : Problem → (SortId → ℕ → Bool) → (SortId → ℕ) → Meaning → ℕ
projection q set size m =
    number (length q.parts.symbols) (λ i. ways_of set size (symbol_at q.parts i)) (λ i. symbol_digit set size m i (symbol_at q.parts i)) * product (length q.labels) (λ l. 2 ^ number_of_tuples set size (label_at q l).sorts)
    + number (length q.labels) (λ l. 2 ^ number_of_tuples set size (label_at q l).sorts) (λ l. code set size (label_at q l).sorts (m.holds (Label l)))

module _ (q : Problem) (set : SortId → ℕ → Bool) (size : SortId → ℕ) where
  shape_below : (m : Meaning) (i : ℕ) (x : Shape) → ((s : SortId) → constant_sort x ≡ Some s → m.value (Own i) < size s) → shape_digit set size m i x < ways_of_shape set size x
  shape_below m i (Relation sorts) h = code_below set size sorts (m.holds (Own i))
  shape_below m i (Constant s) h = spot_below (set s) (m.value (Own i)) (size s) (h s refl)

  fixed_below : (b : Bool) (v w : ℕ) → v < w → cond b 0 v < cond b 1 w
  fixed_below true v w l = lit< tt
  fixed_below false v w l = l

  symbols_below : (m : Meaning) → AreConstantsWithin q size m → (i : ℕ) → i < length q.parts.symbols → symbol_digit set size m i (symbol_at q.parts i) < ways_of set size (symbol_at q.parts i)
  symbols_below m h i l = fixed_below (symbol_at q.parts i).fixed (shape_digit set size m i (symbol_at q.parts i).shape) (ways_of_shape set size (symbol_at q.parts i).shape) (shape_below m i (symbol_at q.parts i).shape (λ s c. h i s l c))

  labels_below : (m : Meaning) (l : ℕ) → l < length q.labels → code set size (label_at q l).sorts (m.holds (Label l)) < 2 ^ number_of_tuples set size (label_at q l).sorts
  labels_below m l b = code_below set size (label_at q l).sorts (m.holds (Label l))

  -- the number of a projection is below the number of projections
  pub projection_below : (m : Meaning) → AreConstantsWithin q size m → projection q set size m < valuations q set size
  unfolding projection
  projection_below m h = digits_lt (number_below (length q.parts.symbols) _ _ (symbols_below m h)) (number_below (length q.labels) _ _ (labels_below m))

  changing_same : (b : Bool) (v w : ℕ) → b ≡ false → cond b 0 v ≡ cond b 0 w → v ≡ w
  changing_same true v w h e = absurd (false≢true (sym h))
  changing_same false v w h e = e

  same_relation : IsWithin size set → (m n : Meaning) (i : ℕ) (x : Shape) (sorts : List SortId) → relation_sorts x ≡ Some sorts → shape_digit set size m i x ≡ shape_digit set size n i x → (tuple : List ℕ) → over set sorts tuple ≡ true → m.holds (Own i) tuple ≡ n.holds (Own i) tuple
  same_relation within m n i (Relation ss) sorts r e tuple o = let same : ss ≡ sorts = cc in code_same set size within ss (m.holds (Own i)) (n.holds (Own i)) e tuple (rw same o)
  same_relation within m n i (Constant s) sorts r e tuple o = cc

  same_constant : (m n : Meaning) (i : ℕ) (x : Shape) (sort : SortId) → constant_sort x ≡ Some sort → shape_digit set size m i x ≡ shape_digit set size n i x → shown (set sort) (m.value (Own i)) ≡ shown (set sort) (n.value (Own i))
  same_constant m n i (Relation ss) sort r e = cc
  same_constant m n i (Constant t) sort r e = let same : t ≡ sort = cc in rw (← same) (spot_same (set t) (m.value (Own i)) (n.value (Own i)) e)

  -- projections with one number look the same
  pub projection_same : IsWithin size set → (m n : Meaning) → AreConstantsWithin q size m → AreConstantsWithin q size n → projection q set size m ≡ projection q set size n → LooksLike q set m n
  unfolding projection
  projection_same within m n hm hn e = record {
    relations = λ r sorts l f k tuple o. same_relation within m n r (symbol_at q.parts r).shape sorts k (changing r l f) tuple o;
    labels = λ l b tuple o. code_same set size within (label_at q l).sorts (m.holds (Label l)) (n.holds (Label l)) (low l b) tuple o;
    constants = λ c sort l f k. same_constant m n c (symbol_at q.parts c).shape sort k (changing c l f);
  }
    where
      high : (i : ℕ) → i < length q.parts.symbols → symbol_digit set size m i (symbol_at q.parts i) ≡ symbol_digit set size n i (symbol_at q.parts i)
      high = number_same (length q.parts.symbols) (λ i. ways_of set size (symbol_at q.parts i)) (λ i. symbol_digit set size m i (symbol_at q.parts i)) (λ i. symbol_digit set size n i (symbol_at q.parts i)) (symbols_below m hm) (symbols_below n hn)
          (high_same _ _ _ _ _ (number_below (length q.labels) _ _ (labels_below m)) (number_below (length q.labels) _ _ (labels_below n)) e)

      low : (l : ℕ) → l < length q.labels → code set size (label_at q l).sorts (m.holds (Label l)) ≡ code set size (label_at q l).sorts (n.holds (Label l))
      low = number_same (length q.labels) (λ l. 2 ^ number_of_tuples set size (label_at q l).sorts) (λ l. code set size (label_at q l).sorts (m.holds (Label l))) (λ l. code set size (label_at q l).sorts (n.holds (Label l))) (labels_below m) (labels_below n)
          (low_same _ _ _ _ _ (number_below (length q.labels) _ _ (labels_below m)) (number_below (length q.labels) _ _ (labels_below n)) e)

      changing : (i : ℕ) → i < length q.parts.symbols → (symbol_at q.parts i).fixed ≡ false → shape_digit set size m i (symbol_at q.parts i).shape ≡ shape_digit set size n i (symbol_at q.parts i).shape
      changing i l f = changing_same (symbol_at q.parts i).fixed (shape_digit set size m i (symbol_at q.parts i).shape) (shape_digit set size n i (symbol_at q.parts i).shape) f (high i l)

  shape_alike : (m n : Meaning) (i : ℕ) (x : Shape)
      → ((sorts : List SortId) → relation_sorts x ≡ Some sorts → (tuple : List ℕ) → over set sorts tuple ≡ true → m.holds (Own i) tuple ≡ n.holds (Own i) tuple)
      → ((sort : SortId) → constant_sort x ≡ Some sort → shown (set sort) (m.value (Own i)) ≡ shown (set sort) (n.value (Own i)))
      → shape_digit set size m i x ≡ shape_digit set size n i x
  shape_alike m n i (Relation ss) relations constants = code_alike set size ss (m.holds (Own i)) (n.holds (Own i)) (relations ss refl)
  shape_alike m n i (Constant s) relations constants = spot_alike (set s) (m.value (Own i)) (n.value (Own i)) (constants s refl)

  changing_alike : (b : Bool) (v w : ℕ) → (b ≡ false → v ≡ w) → cond b 0 v ≡ cond b 0 w
  changing_alike true v w h = refl
  changing_alike false v w h = h refl

  -- structures that look the same have one number
  pub projection_alike : (m n : Meaning) → LooksLike q set m n → projection q set size m ≡ projection q set size n
  unfolding projection
  projection_alike m n h = ap₂ (λ x y. x * product (length q.labels) (λ l. 2 ^ number_of_tuples set size (label_at q l).sorts) + y)
      (number_alike (length q.parts.symbols) (λ i. ways_of set size (symbol_at q.parts i)) (λ i. symbol_digit set size m i (symbol_at q.parts i)) (λ i. symbol_digit set size n i (symbol_at q.parts i)) digits)
      (number_alike (length q.labels) (λ l. 2 ^ number_of_tuples set size (label_at q l).sorts) (λ l. code set size (label_at q l).sorts (m.holds (Label l))) (λ l. code set size (label_at q l).sorts (n.holds (Label l)))
      (λ l b. code_alike set size (label_at q l).sorts (m.holds (Label l)) (n.holds (Label l)) (h.labels l b)))
    where
      digits : (i : ℕ) → i < length q.parts.symbols → symbol_digit set size m i (symbol_at q.parts i) ≡ symbol_digit set size n i (symbol_at q.parts i)
      digits i l = changing_alike (symbol_at q.parts i).fixed (shape_digit set size m i (symbol_at q.parts i).shape) (shape_digit set size n i (symbol_at q.parts i).shape)
          (λ f. shape_alike m n i (symbol_at q.parts i).shape (λ sorts k. h.relations i sorts l f k) (λ sort k. h.constants i sort l f k))

  -- projections can be numbered
  pub numbering : IsWithin size set → Numbering q set size
  numbering within = record { number = projection q set size; below = projection_below; same = projection_same within; one = projection_alike }

-- what looks as it was saved has the projection of its copies
pub looks_as_copied : (q : Problem) (m : Meaning) → LooksAsCopied q m
looks_as_copied q m = (λ h. record { relations = h.relations; labels = h.labels; constants = h.constants }, λ h. record { relations = h.relations; labels = h.labels; constants = h.constants })
