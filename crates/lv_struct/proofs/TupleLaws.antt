-- The list of all tuples: which tuples it has, and in which order.
use Rattle.std.proofs.Common.{◌≡◌, ℕ, zero, suc, ◌<◌, Bool, true, false, ◌&&◌, ◌||◌, eqb, ltb, cond, List, [], ◌∷◌, ◌++◌, map, refl, sym, ap, ap₂, ◌∙◌, arith, ⊎_elim}
use Rattle.std.specs.List.{All, AllPairs, filter}
use Rattle.std.proofs.Math.Bool.{and-false}
use Rattle.std.proofs.lemmas.Bool.{cases_Bool, cases_order, and_from, or_left, or_right, eq-eqb, ne_eqb, lt-ltb, le-ltb}
use Rattle.std.proofs.lemmas.List.Elements.{All-nil, All-cons, All-head, All-tail, All-append, All-map, All-weaker}
use Rattle.std.proofs.lemmas.List.Kept.{AllPairs-cons}
use Rattle.lv_formula.specs.declared.symbols.SortId.{SortId}
use Rattle.lv_struct.proofs.CompareLaws.{tuple_tells}
use Rattle.lv_formula.specs.Tuples.{all_among, each_before, has_tuple, over, tuple_eq, tuple_lt, tuples_over}

or_assoc : (a b c : Bool) → (a || (b || c)) ≡ ((a || b) || c)
or_assoc true b c = refl
or_assoc false b c = refl

and_over_or : (a b c : Bool) → ((a && c) || (b && c)) ≡ ((a || b) && c)
and_over_or true true true = refl
and_over_or true true false = refl
and_over_or true false true = refl
and_over_or true false false = refl
and_over_or false b c = refl

pub has_tuple_append : (ts us : List (List ℕ)) (tuple : List ℕ) → has_tuple (ts ++ us) tuple ≡ (has_tuple ts tuple || has_tuple us tuple)
has_tuple_append [] us tuple = refl
has_tuple_append (t ∷ ts) us tuple = ap (λ b. tuple_eq t tuple || b) (has_tuple_append ts us tuple) ∙ or_assoc (tuple_eq t tuple) (has_tuple ts tuple) (has_tuple us tuple)

and_assoc : (a b c : Bool) → (a && (b && c)) ≡ ((a && b) && c)
and_assoc true b c = refl
and_assoc false b c = refl

pub all_among_append : (ts us vs : List (List ℕ)) → all_among (ts ++ us) vs ≡ (all_among ts vs && all_among us vs)
all_among_append [] us vs = refl
all_among_append (t ∷ ts) us vs = ap (λ b. has_tuple vs t && b) (all_among_append ts us vs) ∙ and_assoc (has_tuple vs t) (all_among ts vs) (all_among us vs)

has_tuple-before : (n : ℕ) (ts : List (List ℕ)) (x : ℕ) (xs : List ℕ) → has_tuple (map (λ t. n ∷ t) ts) (x ∷ xs) ≡ (eqb n x && has_tuple ts xs)
has_tuple-before n [] x xs = and_right_false (eqb n x)
  where
    and_right_false : (b : Bool) → false ≡ (b && false)
    and_right_false true = refl
    and_right_false false = refl
has_tuple-before n (t ∷ ts) x xs = ap (λ b. (eqb n x && tuple_eq t xs) || b) (has_tuple-before n ts x xs) ∙ split (eqb n x) (tuple_eq t xs) (has_tuple ts xs)
  where
    split : (a b c : Bool) → ((a && b) || (a && c)) ≡ (a && (b || c))
    split true b c = refl
    split false b c = refl

has_tuple-before_empty : (n : ℕ) (ts : List (List ℕ)) → has_tuple (map (λ t. n ∷ t) ts) [] ≡ false
has_tuple-before_empty n [] = refl
has_tuple-before_empty n (t ∷ ts) = has_tuple-before_empty n ts

below_more : (x n : ℕ) → (ltb x n || eqb n x) ≡ ltb x (suc n)
below_more x n = ⊎_elim
    (λ e. rw (eq-eqb n x (sym e), lt-ltb x (suc n) (omega (arith, e))) (or_right (ltb x n) true refl))
    (⊎_elim
    (λ lt. rw (lt-ltb x n lt, lt-ltb x (suc n) (omega (arith, lt))) refl)
    (λ gt. rw (le-ltb x n (omega (arith, gt)), ne_eqb n x (λ e. omega (arith, gt, e)), le-ltb x (suc n) (omega (arith, gt))) refl))
    (cases_order x n)

has_tuple-each_before : (n : ℕ) (ts : List (List ℕ)) (x : ℕ) (xs : List ℕ) → has_tuple (each_before n ts) (x ∷ xs) ≡ (ltb x n && has_tuple ts xs)
has_tuple-each_before zero ts x xs = rw (le-ltb x 0 (omega arith)) refl
has_tuple-each_before (suc n) ts x xs =
    has_tuple_append (each_before n ts) (map (λ t. n ∷ t) ts) (x ∷ xs)
    ∙ ap₂ (λ a b. a || b) (has_tuple-each_before n ts x xs) (has_tuple-before n ts x xs)
    ∙ and_over_or (ltb x n) (eqb n x) (has_tuple ts xs)
    ∙ ap (λ b. b && has_tuple ts xs) (below_more x n)

has_tuple-each_before_empty : (n : ℕ) (ts : List (List ℕ)) → has_tuple (each_before n ts) [] ≡ false
has_tuple-each_before_empty zero ts = refl
has_tuple-each_before_empty (suc n) ts =
    has_tuple_append (each_before n ts) (map (λ t. n ∷ t) ts) []
    ∙ ap₂ (λ a b. a || b) (has_tuple-each_before_empty n ts) (has_tuple-before_empty n ts)

-- a tuple is among all tuples of the sorts exactly where it is in their range
pub has_tuple-tuples_over : (size : SortId → ℕ) (sorts : List SortId) (tuple : List ℕ) → has_tuple (tuples_over size sorts) tuple ≡ over (λ s x. ltb x (size s)) sorts tuple
has_tuple-tuples_over size [] [] = refl
has_tuple-tuples_over size [] (x ∷ xs) = refl
has_tuple-tuples_over size (s ∷ ss) [] = has_tuple-each_before_empty (size s) (tuples_over size ss)
has_tuple-tuples_over size (s ∷ ss) (x ∷ xs) =
    has_tuple-each_before (size s) (tuples_over size ss) x xs ∙ ap (λ b. ltb x (size s) && b) (has_tuple-tuples_over size ss xs)

-- the first element is below n
StartsBelow : ℕ → List ℕ → Type 0
StartsBelow n [] = ⊥
StartsBelow n (x ∷ xs) = x < n

AllPairs-append : {X : Type 0} (R : X → X → Type 0) (xs ys : List X) → AllPairs R xs → AllPairs R ys → All (λ x. All (R x) ys) xs → AllPairs R (xs ++ ys)
AllPairs-append R [] ys p q across = q
AllPairs-append R (x ∷ xs) ys p q across = AllPairs-cons R x (xs ++ ys)
    (All-append (R x) xs ys (λ k d lt. p 0 (suc k) d (omega arith) (omega arith)) (All-head (λ x. All (R x) ys) x xs across))
    (AllPairs-append R xs ys (λ i j d before lt. p (suc i) (suc j) d (omega arith) (omega arith)) q (All-tail (λ x. All (R x) ys) x xs across))

before_under : (n : ℕ) (a b : List ℕ) → tuple_lt a b ≡ true → tuple_lt (n ∷ a) (n ∷ b) ≡ true
before_under n a b h = or_right (ltb n n) (eqb n n && tuple_lt a b) (and_from (eqb n n) (tuple_lt a b) (eq-eqb n n refl) h)

order_under : (n : ℕ) (ts : List (List ℕ)) → AllPairs (λ a b. tuple_lt a b ≡ true) ts → AllPairs (λ a b. tuple_lt a b ≡ true) (map (λ t. n ∷ t) ts)
order_under n [] h = λ i j d before lt. absurd (omega arith)
order_under n (t ∷ ts) h = AllPairs-cons (λ a b. tuple_lt a b ≡ true) (n ∷ t) (map (λ t. n ∷ t) ts)
    (All-map (λ b. tuple_lt (n ∷ t) b ≡ true) (λ t. n ∷ t) ts (λ k d lt. before_under n t _ (h 0 (suc k) d (omega arith) (omega arith))))
    (order_under n ts (λ i j d before lt. h (suc i) (suc j) d (omega arith) (omega arith)))

starts_below : (n : ℕ) (ts : List (List ℕ)) → All (StartsBelow n) (each_before n ts)
unfolding StartsBelow
starts_below zero ts = All-nil (StartsBelow 0)
starts_below (suc n) ts = All-append (StartsBelow (suc n)) (each_before n ts) (map (λ t. n ∷ t) ts)
    (All-weaker (StartsBelow n) (StartsBelow (suc n)) (more n) (each_before n ts) (starts_below n ts))
    (All-map (StartsBelow (suc n)) (λ t. n ∷ t) ts (λ k d lt. omega arith))
  where
    more : (n : ℕ) (t : List ℕ) → StartsBelow n t → StartsBelow (suc n) t
    more n [] h = h
    more n (x ∷ xs) h = omega arith

below_comes_before : (n : ℕ) (t u : List ℕ) → StartsBelow n t → tuple_lt t (n ∷ u) ≡ true
unfolding StartsBelow
below_comes_before n [] u h = absurd h
below_comes_before n (x ∷ xs) u h = or_left (ltb x n) (eqb x n && tuple_lt xs u) (lt-ltb x n h)

order_each_before : (n : ℕ) (ts : List (List ℕ)) → AllPairs (λ a b. tuple_lt a b ≡ true) ts → AllPairs (λ a b. tuple_lt a b ≡ true) (each_before n ts)
order_each_before zero ts h = λ i j d before lt. absurd (omega arith)
order_each_before (suc n) ts h = AllPairs-append (λ a b. tuple_lt a b ≡ true) (each_before n ts) (map (λ t. n ∷ t) ts)
    (order_each_before n ts h)
    (order_under n ts h)
    (All-weaker (StartsBelow n) (λ t. All (λ b. tuple_lt t b ≡ true) (map (λ t. n ∷ t) ts))
    (λ t starts. All-map (λ b. tuple_lt t b ≡ true) (λ t. n ∷ t) ts (λ k d lt. below_comes_before n t _ starts))
    (each_before n ts) (starts_below n ts))

-- each of all tuples comes before those that follow it
pub order-tuples_over : (size : SortId → ℕ) (sorts : List SortId) → AllPairs (λ a b. tuple_lt a b ≡ true) (tuples_over size sorts)
order-tuples_over size [] = λ i j d before lt. absurd (omega arith)
order-tuples_over size (s ∷ ss) = order_each_before (size s) (tuples_over size ss) (order-tuples_over size ss)

-- what holds of every tuple that a list has holds of each of its elements
pub All-from_has_tuple : (P : List ℕ → Type 0) (ts : List (List ℕ)) → ((tuple : List ℕ) → has_tuple ts tuple ≡ true → P tuple) → All P ts
All-from_has_tuple P [] h = All-nil P
All-from_has_tuple P (t ∷ ts) h = All-cons P t ts
    (h t (or_left (tuple_eq t t) (has_tuple ts t) ((tuple_tells t t).1 refl)))
    (All-from_has_tuple P ts (λ tuple e. h tuple (or_right (tuple_eq t tuple) (has_tuple ts tuple) e)))

-- all tuples of the sorts are in their range
pub in_range-tuples_over : (size : SortId → ℕ) (sorts : List SortId) → All (λ tuple. over (λ s x. ltb x (size s)) sorts tuple ≡ true) (tuples_over size sorts)
in_range-tuples_over size sorts = All-from_has_tuple (λ tuple. over (λ s x. ltb x (size s)) sorts tuple ≡ true) (tuples_over size sorts)
    (λ tuple e. sym (has_tuple-tuples_over size sorts tuple) ∙ e)

has_tuple-cond : (b : Bool) (t : List ℕ) (ts : List (List ℕ)) (tuple : List ℕ) → has_tuple (cond b (t ∷ ts) ts) tuple ≡ ((b && tuple_eq t tuple) || has_tuple ts tuple)
has_tuple-cond true t ts tuple = refl
has_tuple-cond false t ts tuple = refl

and_true : (b : Bool) → (b && true) ≡ b
and_true true = refl
and_true false = refl

test_of_same : (p : List ℕ → Bool) (t tuple : List ℕ) → (p t && tuple_eq t tuple) ≡ (tuple_eq t tuple && p tuple)
test_of_same p t tuple = ⊎_elim
    (λ e. rw (e) (and_true (p t) ∙ ap p ((tuple_tells t tuple).0 e)))
    (λ e. rw (e) (and-false (p t)))
    (cases_Bool (tuple_eq t tuple))

-- the tuples of a list that pass a test
pub has_tuple-filter : (p : List ℕ → Bool) (ts : List (List ℕ)) (tuple : List ℕ) → has_tuple (filter p ts) tuple ≡ (has_tuple ts tuple && p tuple)
has_tuple-filter p [] tuple = refl
has_tuple-filter p (t ∷ ts) tuple =
    has_tuple-cond (p t) t (filter p ts) tuple
    ∙ ap₂ (λ a b. a || b) (test_of_same p t tuple) (has_tuple-filter p ts tuple)
    ∙ and_over_or (tuple_eq t tuple) (has_tuple ts tuple) (p tuple)
