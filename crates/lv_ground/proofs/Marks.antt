-- The table of atoms as an atom is added.
use Rattle.std.proofs.Common.{◌≡◌, ◌≢◌, ℕ, zero, suc, ◌+◌, ◌-◌, ◌<◌, Bool, true, false, cond, List, [], ◌∷◌, ◌++◌, length, get_or, refl, sym, ap, ◌∙◌, subst, arith, set, length-append, ◌^◌}
use Rattle.std.specs.List.{list_any}
use Rattle.std.specs.Prelude.{◌||◌}
use Rattle.std.proofs.lemmas.Bool.{cond-true, cond-false, false≢true, or_parts, or_right}
use Rattle.std.proofs.lemmas.List.Folds.{list_any-append}
use Rattle.std.proofs.lemmas.List.{get_or-set_same, get_or-set_other, length-set}
use Rattle.lv_formula.specs.declared.symbols.SortId.{SortId}
use Rattle.lv_places.specs.declared.skolem.Skolem.{Skolem}
use Rattle.lv_places.specs.declared.grounded.GroundAtom.{GroundAtom}
use Rattle.lv_places.specs.Grounds.{same_atom, find_atom, with_atom}
use Rattle.lv_places.proofs.Tests.{by_cases}
use Rattle.lv_ground.proofs.Listed.{same_atom-true, same_atom_refl}
use Rattle.lv_ground.specs.Positions.{rows_to, position, possible_atoms, IsPossible, mark, zeros, IsTable}
use Rattle.lv_ground.proofs.Positions.{length-possible, same_position, position_below}

marked_by : (b : Bool) (k : ℕ) → cond b (suc k) 0 ≡ 0 → b ≡ false
marked_by true k h = absurd (omega arith)
marked_by false k h = refl

known_by : (b : Bool) (k j : ℕ) → cond b (suc k) 0 ≡ suc j → (b ≡ true) × (k ≡ j)
known_by true k j h = (refl, omega arith)
known_by false k j h = absurd (omega arith)

pub no_mark : (xs : List GroundAtom) (a : GroundAtom) → mark xs a ≡ 0 → list_any (same_atom a) xs ≡ false
no_mark xs a h = marked_by (list_any (same_atom a) xs) (find_atom xs a) h

-- an atom with a mark stands in the list
pub known : (xs : List GroundAtom) (a : GroundAtom) (j : ℕ) → mark xs a ≡ suc j → (with_atom xs a ≡ xs) × (find_atom xs a ≡ j)
known xs a j h =
    let r = known_by (list_any (same_atom a) xs) (find_atom xs a) j h in
    (cond-true (list_any (same_atom a) xs) xs (xs ++ a ∷ []) r.0, r.1)

-- an atom without a mark is added behind the others
find_last : (xs : List GroundAtom) (a : GroundAtom) → list_any (same_atom a) xs ≡ false → find_atom (xs ++ a ∷ []) a ≡ length xs
find_last [] a h = cond-true (same_atom a a) 0 1 (same_atom_refl a)
find_last (x ∷ xs) a h =
    let both = or_parts (same_atom a x) (list_any (same_atom a) xs) h in
    cond-false (same_atom a x) 0 _ both.0 ∙ ap suc (find_last xs a both.1)

pub find_before : (xs : List GroundAtom) (a b : GroundAtom) → list_any (same_atom b) xs ≡ true → find_atom (xs ++ a ∷ []) b ≡ find_atom xs b
find_before [] a b h = absurd (false≢true h)
find_before (x ∷ xs) a b h = step (same_atom b x) h (find_before xs a b)
  where
    step : (t : Bool) → (t || list_any (same_atom b) xs) ≡ true → (list_any (same_atom b) xs ≡ true → find_atom (xs ++ a ∷ []) b ≡ find_atom xs b)
        → cond t 0 (suc (find_atom (xs ++ a ∷ []) b)) ≡ cond t 0 (suc (find_atom xs b))
    step true h ih = refl
    step false h ih = ap suc (ih h)

pub mark_last : (xs : List GroundAtom) (a : GroundAtom) → mark xs a ≡ 0 → mark (xs ++ a ∷ []) a ≡ suc (length xs)
mark_last xs a h =
    let none = no_mark xs a h in
    let here : list_any (same_atom a) (xs ++ a ∷ []) ≡ true = list_any-append (same_atom a) xs (a ∷ []) ∙ or_right _ _
    (ap (λ b. b || false) (same_atom_refl a)) in
    cond-true (list_any (same_atom a) (xs ++ a ∷ [])) _ 0 here ∙ ap suc (find_last xs a none)

or_false : (b : Bool) → (b || false) ≡ b
or_false true = refl
or_false false = refl

mark_other : (xs : List GroundAtom) (a b : GroundAtom) → same_atom b a ≡ false → mark (xs ++ a ∷ []) b ≡ mark xs b
mark_other xs a b h =
    let e : list_any (same_atom b) (xs ++ a ∷ []) ≡ list_any (same_atom b) xs = list_any-append (same_atom b) xs (a ∷ [])
    ∙ ap (λ t. list_any (same_atom b) xs || (t || false)) h ∙ or_false _ in
    ap (λ t. cond t (suc (find_atom (xs ++ a ∷ []) b)) 0) e ∙ step (list_any (same_atom b) xs) refl
  where
    step : (t : Bool) → list_any (same_atom b) xs ≡ t → cond t (suc (find_atom (xs ++ a ∷ []) b)) 0 ≡ cond t (suc (find_atom xs b)) 0
    step true e = ap suc (find_before xs a b e)
    step false e = refl

-- an atom without a mark is added behind the others
pub added : (xs : List GroundAtom) (a : GroundAtom) → mark xs a ≡ 0 → (with_atom xs a ≡ xs ++ a ∷ []) × (find_atom (xs ++ a ∷ []) a ≡ length xs)
added xs a h =
    let none = no_mark xs a h in
    (cond-false (list_any (same_atom a) xs) xs (xs ++ a ∷ []) none, find_last xs a none)

zeros_set : (xs : List ℕ) (i v : ℕ) → i < length xs → get_or xs i 0 ≡ 0 → suc (zeros (set xs i (suc v))) ≡ zeros xs
zeros_set [] i v l e = absurd (omega arith)
zeros_set (zero ∷ xs) zero v l e = refl
zeros_set (suc x ∷ xs) zero v l e = absurd (omega arith)
zeros_set (zero ∷ xs) (suc i) v l e = ap suc (zeros_set xs i v (omega arith) e)
zeros_set (suc x ∷ xs) (suc i) v l e = zeros_set xs i v (omega arith) e

-- the table with the mark of an atom that is added
pub with_mark : (sk : Skolem) (n : SortId → ℕ) (xs : List GroundAtom) (table : List ℕ) (a : GroundAtom) → IsTable sk n xs table → IsPossible sk n a
    → mark xs a ≡ 0
    → IsTable sk n (xs ++ a ∷ []) (set table (position sk n a) (suc (length xs)))
with_mark sk n xs table a is possible none = record { len = len; few = few; rest = rest; marks = marks }
  where
    at : ℕ
    at = position sk n a

    next : List ℕ
    next = set table at (suc (length xs))

    within : at < length table
    within = omega (arith, position_below sk n a possible, is.len)

    same_length : length next ≡ length table
    same_length = length-set table at (suc (length xs))

    len : length next ≡ length (possible_atoms sk n)
    len = same_length ∙ is.len

    few : length next < 2 ^ 32
    few = subst (λ k. k < 2 ^ 32) (sym same_length) is.few

    rest : length (xs ++ a ∷ []) + zeros next ≡ length next
    rest =
        let z = zeros_set table at (length xs) within (is.marks a possible ∙ none) in
        let r = is.rest in
        omega (arith, same_length, length-append xs (a ∷ []))

    marks : (b : GroundAtom) → IsPossible sk n b → get_or next (position sk n b) 0 ≡ mark (xs ++ a ∷ []) b
    marks b h = by_cases (same_atom b a)
        (λ e. let same = same_atom-true b a e in
        subst (λ x. get_or next (position sk n x) 0 ≡ mark (xs ++ a ∷ []) x) (sym same)
        (get_or-set_same table at (suc (length xs)) 0 within ∙ sym (mark_last xs a none)))
        (λ e. let other : position sk n b ≢ at = λ q. false≢true (sym e ∙ ap (same_atom b) (sym (same_position sk n b a h possible q)) ∙ same_atom_refl b)
        in
        get_or-set_other table at (position sk n b) (suc (length xs)) 0 other ∙ is.marks b h ∙ sym (mark_other xs a b e))

-- there is a mark left to be set
pub has_room : (sk : Skolem) (n : SortId → ℕ) (xs : List GroundAtom) (table : List ℕ) → IsTable sk n xs table → length xs < 2 ^ 32
has_room sk n xs table is = omega (arith, is.few, is.rest)

-- an atom without a mark leaves room for one more
pub more_room : (sk : Skolem) (n : SortId → ℕ) (xs : List GroundAtom) (table : List ℕ) (a : GroundAtom) → IsTable sk n xs table → IsPossible sk n a
    → mark xs a ≡ 0 → length xs + 1 < 2 ^ 32
more_room sk n xs table a is possible none =
    let next = with_mark sk n xs table a is possible none in
    omega (arith, next.few, next.rest, length-append xs (a ∷ []))

-- what stands at an atom's number
pub get_or_same : (xs : List ℕ) (i d e : ℕ) → i < length xs → get_or xs i d ≡ get_or xs i e
get_or_same [] i d e l = absurd (omega arith)
get_or_same (x ∷ xs) zero d e l = refl
get_or_same (x ∷ xs) (suc i) d e l = get_or_same xs i d e (omega arith)

mark_at : (sk : Skolem) (n : SortId → ℕ) (xs : List GroundAtom) (table : List ℕ) (a : GroundAtom) (at m : ℕ) → IsTable sk n xs table → IsPossible sk n a
    → at ≡ position sk n a → m ≡ get_or table at m → mark xs a ≡ m
mark_at sk n xs table a at m is possible e h =
    let within : at < length table = omega (arith, position_below sk n a possible, is.len) in
    sym (is.marks a possible) ∙ ap (λ i. get_or table i 0) (sym e) ∙ get_or_same table at 0 m within ∙ sym h

pub known_at : (sk : Skolem) (n : SortId → ℕ) (xs : List GroundAtom) (table : List ℕ) (a : GroundAtom) (at m : ℕ) → IsTable sk n xs table
    → IsPossible sk n a → at ≡ position sk n a → m ≡ get_or table at m
    → 0 < m → (with_atom xs a ≡ xs) × (find_atom xs a ≡ m - 1)
known_at sk n xs table a at m is possible e h l = known xs a (m - 1) (let q = mark_at sk n xs table a at m is possible e h in omega arith)

pub unknown_at : (sk : Skolem) (n : SortId → ℕ) (xs : List GroundAtom) (table : List ℕ) (a : GroundAtom) (at m : ℕ) → IsTable sk n xs table
    → IsPossible sk n a → at ≡ position sk n a → m ≡ get_or table at m
    → m ≡ 0 → mark xs a ≡ 0
unknown_at sk n xs table a at m is possible e h z = mark_at sk n xs table a at m is possible e h ∙ z

-- ---- the table before any atom

pub zeros_last : (xs : List ℕ) → zeros (xs ++ 0 ∷ []) ≡ suc (zeros xs)
zeros_last [] = refl
zeros_last (zero ∷ xs) = ap suc (zeros_last xs)
zeros_last (suc x ∷ xs) = zeros_last xs

pub none_last : (xs : List ℕ) → ((i : ℕ) → get_or xs i 0 ≡ 0) → (i : ℕ) → get_or (xs ++ 0 ∷ []) i 0 ≡ 0
none_last [] h zero = refl
none_last [] h (suc i) = refl
none_last (x ∷ xs) h zero = h 0
none_last (x ∷ xs) h (suc i) = none_last xs (λ j. h (suc j)) i

pub empty_table : (sk : Skolem) (n : SortId → ℕ) (table : List ℕ) → length table ≡ rows_to sk n sk.sorts → length table < 2 ^ 32
    → zeros table ≡ length table → ((i : ℕ) → get_or table i 0 ≡ 0) → IsTable sk n [] table
empty_table sk n table len few rest none = record {
  len = len ∙ sym (length-possible sk n);
  few = few;
  rest = omega arith;
  marks = λ a h. none (position sk n a);
}
