-- What places depend on, and the marks by which code keeps it.
use Rattle.std.proofs.Common.{◌≡◌, ℕ, zero, suc, ◌+◌, ◌-◌, ◌<◌, ◌≤◌, Bool, true, false, cond, ◌&&◌, List, [], ◌∷◌, ◌++◌, length, get_or, map, reverse, refl, sym, ap, ◌∙◌, arith, add-one, length-append, append_assoc, ap₂, ⊎_elim}
use mathlib.Core.List.{reverse_aux}
use Rattle.std.proofs.lemmas.Bool.{and_parts, false≢true, cases_eq, cases_lt}
use Rattle.std.proofs.lemmas.List.{get_or_past, map-append, append-nil, get_or_append_left}
use Rattle.std.proofs.Math.Seq.{get_or-append_seam}
use Rattle.lv_formula.specs.declared.symbols.SortId.{SortId}
use Rattle.lv_formula.specs.declared.symbols.Sym.{Sym}
use Rattle.lv_formula.specs.Truth.{any_below}
use Rattle.lv_formula.proofs.Below.{any_below_same}
use Rattle.lv_formula.proofs.Readings.{any_below-some}
use Rattle.lv_places.specs.declared.skolem.PlaceArg.{PlaceArg}
use Rattle.lv_places.specs.Forms.{Form, Yes, No, Lit, And, Or, All, Any, Forms, Cons, turned, free, occurs}
use Rattle.lv_places.specs.Places.{Binder, Every, Chosen, sort_of, needs, place_needs, keep, numbered_from, place_of, sites, sites_all, places_in, places_in_all, marks_to, marked_from, place_at}

pub free_turned : (x : ℕ) (f : Form) → free x (turned f) ≡ free x f
free_turned x Yes = refl
free_turned x No = refl
free_turned x (Lit b a) = refl
free_turned x (And fs) = refl
free_turned x (Or fs) = refl
free_turned x (All s f) = refl
free_turned x (Any s f) = refl

pub occurs_turned : (c : Sym) (f : Form) → occurs c (turned f) ≡ occurs c f
occurs_turned c Yes = refl
occurs_turned c No = refl
occurs_turned c (Lit b a) = refl
occurs_turned c (And fs) = refl
occurs_turned c (Or fs) = refl
occurs_turned c (All s f) = refl
occurs_turned c (Any s f) = refl

pub places_turned : (g : List Binder) (f : Form) → places_in g (turned f) ≡ places_in g f
places_turned g Yes = refl
places_turned g No = refl
places_turned g (Lit b a) = refl
places_turned g (And fs) = refl
places_turned g (Or fs) = refl
places_turned g (All s f) = refl
places_turned g (Any s f) = refl

pub places_append : (g : List Binder) (f : Form) (fs : Forms) → places_in_all g (Cons f fs) ≡ places_in g f ++ places_in_all g fs
places_append g f fs = map-append place_of (sites g f) (sites_all g fs)

-- ---- what is needed stands around

pub needs_below : (g : List Binder) (x y : ℕ) → needs g x y ≡ true → (x < length g) × (y < length g)
needs_below [] x y h = absurd (false≢true h)
needs_below (Every s ∷ g) zero zero h = (omega arith, omega arith)
needs_below (Every s ∷ g) zero (suc y) h = absurd (false≢true h)
needs_below (Every s ∷ g) (suc x) zero h = absurd (false≢true h)
needs_below (Every s ∷ g) (suc x) (suc y) h = let r = needs_below g x y h in (omega (arith, r.0), omega (arith, r.1))
needs_below (Chosen s f ∷ g) zero zero h = absurd (false≢true h)
needs_below (Chosen s f ∷ g) zero (suc y) h =
    let a = any_below-some (length g) (λ x. free (x + 1) f && needs g x y) h in
    let r = needs_below g a.0 y (and_parts (free (a.0 + 1) f) (needs g a.0 y) a.2).1 in
    (omega arith, omega (arith, r.1))
needs_below (Chosen s f ∷ g) (suc x) zero h = absurd (false≢true h)
needs_below (Chosen s f ∷ g) (suc x) (suc y) h = let r = needs_below g x y h in (omega (arith, r.0), omega (arith, r.1))

pub place_needs_below : (g : List Binder) (f : Form) (y : ℕ) → place_needs g f y ≡ true → y < length g
place_needs_below g f y h =
    let a = any_below-some (length g) (λ x. free (x + 1) f && needs g x y) h in
    (needs_below g a.0 y (and_parts (free (a.0 + 1) f) (needs g a.0 y) a.2).1).1

-- ---- marks

pub marks_length : (n : ℕ) (p : ℕ → Bool) → length (marks_to n p) ≡ n
marks_length zero p = refl
marks_length (suc n) p = let r = marks_length n p in omega (arith, r, length-append (marks_to n p) (p n ∷ []))

pub marks_at : (n : ℕ) (p : ℕ → Bool) (i : ℕ) → i < n → get_or (marks_to n p) i false ≡ p i
marks_at zero p i l = absurd (omega arith)
marks_at (suc n) p i l = let e = marks_length n p in ⊎_elim
    (λ q. let z : i ≡ length (marks_to n p) = omega arith in
    ap (λ j. get_or (marks_to n p ++ p n ∷ []) j false) z ∙ get_or-append_seam (marks_to n p) (p n) [] false ∙ ap p (sym q))
    (λ ne. let lt : i < length (marks_to n p) = omega arith in let lt' : i < n = omega arith in
    get_or_append_left (marks_to n p) (p n ∷ []) false i lt ∙ marks_at n p i lt')
    (cases_eq i n)

pub marks_past : (n : ℕ) (p : ℕ → Bool) (i : ℕ) → n ≤ i → get_or (marks_to n p) i false ≡ false
marks_past n p i l = let e = marks_length n p in get_or_past (marks_to n p) i false (omega arith)

not_true : (b : Bool) → (b ≡ true → ⊥) → b ≡ false
not_true true h = absurd (h refl)
not_true false h = refl

needs_mark : (g : List Binder) (f : Form) (y : ℕ) → get_or (marks_to (length g) (place_needs g f)) y false ≡ place_needs g f y
needs_mark g f y = ⊎_elim
    (λ l. marks_at (length g) (place_needs g f) y l)
    (λ l. marks_past (length g) (place_needs g f) y l ∙ sym (not_true (place_needs g f y) (λ h. let r = place_needs_below g f y h in absurd (omega arith))))
    (cases_lt y (length g))

pub needs_marked : (g : List Binder) (s : SortId) (f : Form) (y : ℕ) → (y ≡ 0 → ⊥) → get_or (marks_to (length g) (place_needs g f)) (y - 1) false
    ≡ needs (Chosen s f ∷ g) 0 y
needs_marked g s f zero h = absurd (h refl)
needs_marked g s f (suc y) h = let e : suc y - 1 ≡ y = omega arith in ap (λ i. get_or (marks_to (length g) (place_needs g f)) i false) e ∙ needs_mark g f y

pub used_needs : (g : List Binder) (f : Form) (y : ℕ) → any_below (length g) (λ x. get_or (marks_to (length g) (λ x. free (x + 1) f)) x false && needs g x y)
    ≡ place_needs g f y
used_needs g f y = any_below_same (length g) (λ x. get_or (marks_to (length g) (λ x. free (x + 1) f)) x false && needs g x y)
    (λ x. free (x + 1) f && needs g x y)
    (λ x l. ap (λ b. b && needs g x y) (marks_at (length g) (λ x. free (x + 1) f) x l))

-- the marks of all variables up to y, and that of y
pub marks_step : (g : List Binder) (f : Form) (y : ℕ) (used marks : List Bool) (r : Bool) → used ≡ marks_to (length g) (λ x. free (x + 1) f)
    → marks ≡ marks_to y (place_needs g f)
    → r ≡ any_below (length used) (λ x. get_or used x false && needs g x y) → marks ++ r ∷ [] ≡ marks_to (y + 1) (place_needs g f)
marks_step g f y used marks r u m e =
    let n : length used ≡ length g = ap length u ∙ marks_length (length g) (λ x. free (x + 1) f) in
    let all : r ≡ place_needs g f y = e ∙ ap₂ (λ k l. any_below k (λ x. get_or l x false && needs g x y)) n u ∙ used_needs g f y in
    rw add-one (ap₂ (λ l b. l ++ b ∷ []) m all)

-- ---- arguments

turned_onto : {A : Type 0} (xs ys : List A) → reverse_aux xs ys ≡ reverse_aux xs [] ++ ys
turned_onto [] ys = refl
turned_onto (x ∷ xs) ys =
    turned_onto xs (x ∷ ys) ∙ sym (ap (λ l. l ++ ys) (turned_onto xs (x ∷ [])) ∙ append_assoc (reverse_aux xs []) (x ∷ []) ys)

last_kept : {A : Type 0} (b : Bool) (x : A) (xs : List A) → reverse xs ++ cond b (x ∷ []) [] ≡ reverse (cond b (x ∷ xs) xs)
last_kept true x xs = sym (turned_onto xs (x ∷ []))
last_kept false x xs = append-nil (reverse xs)

marked_kept : (marks : List Bool) (p : ℕ → Bool) (k : ℕ) (ss : List SortId) → ((i : ℕ) → get_or marks (k + i) false ≡ p i)
    → marked_from marks k ss ≡ reverse (keep p (numbered_from k ss))
marked_kept marks p k [] h = refl
marked_kept marks p k (s ∷ ss) h =
    let here : get_or marks k false ≡ p 0 = let z : k ≡ k + 0 = omega arith in ap (λ j. get_or marks j false) z ∙ h 0 in
    let rest = marked_kept marks (λ i. p (suc i)) (suc k) ss (λ i. let z : suc k + i ≡ k + suc i = omega arith in ap (λ j. get_or marks j false) z
    ∙ h (suc i)) in
    let one : marked_from marks (k + 1) ss ≡ marked_from marks (suc k) ss = rw add-one refl in
    let x : PlaceArg = record { sort = s; var = k } in
    ap₂ (λ l b. l ++ cond b (x ∷ []) []) (one ∙ rest) here ∙ last_kept (p 0) x (keep (λ i. p (suc i)) (numbered_from (suc k) ss))

-- the arguments of a place, by marks
pub arguments_marked : (g : List Binder) (s : SortId) (f : Form) (marks : List Bool) → marks ≡ marks_to (length g) (place_needs g f)
    → record { sort = s; arguments = marked_from marks 0 (map sort_of g) } ≡ place_at g s f
arguments_marked g s f marks m =
    ap (λ l. record { sort = s; arguments = l }) (ap (λ l. marked_from l 0 (map sort_of g)) m
    ∙ marked_kept (marks_to (length g) (place_needs g f)) (place_needs g f) 0 (map sort_of g) (λ i.
    let z : 0 + i ≡ i = omega arith in ap (λ j. get_or (marks_to (length g) (place_needs g f)) j false) z ∙ needs_mark g f i))
