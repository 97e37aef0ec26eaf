-- What is looked up, as it is made.
use Rattle.std.proofs.Common.{◌≡◌, ℕ, ◌+◌, ◌<◌, ◌^◌, cond, eqb, List, [], ◌∷◌, ◌++◌, length, get_or, take, set, Some, sym, ap, ◌∙◌, arith, length-append}
use Rattle.std.specs.Prelude.{slice_get}
use Rattle.std.proofs.Math.Seq.{get_or-append_seam}
use Rattle.std.proofs.lemmas.Bool.{cases_eq, eq-eqb, ne_eqb}
use Rattle.std.proofs.lemmas.Option.{slice_get-get_or, get_or_from_slice_get}
use Rattle.std.proofs.lemmas.List.{get_or_append_left, get_or-set_same, get_or-set_other, length-set}
use Rattle.lv_formula.specs.declared.symbols.SortId.{SortId}
use Rattle.lv_formula.specs.declared.vocabulary.ConShape.{ConShape}
use Rattle.lv_formula.specs.declared.vocabulary.RelShape.{RelShape}
use Rattle.lv_places.specs.declared.skolem.Place.{Place}
use Rattle.lv_places.specs.declared.skolem.Skolem.{Skolem}
use Rattle.lv_places.specs.Universes.{argument_sorts, constant_terms, count_at, place_count, product}
use Rattle.lv_places.proofs.Tests.{either}
use Rattle.lv_places.proofs.Universes.{IsRanged}
use Rattle.lv_ground.specs.Positions.{sort, pairs, relation_rows, rows_to}
use Rattle.lv_ground.specs.Settings.{AreUsed, AreFirsts, AreRelationStarts, AreSortStarts, first_term}
use Rattle.lv_ground.proofs.Loops.{relation_rows_last, sum_last, constants_last, place_count_last}

pub get_there : {A : Type 0} (xs : List A) (i : ℕ) (x : A) → i < length xs → get_or xs i x ≡ x → slice_get xs i ≡ Some x
get_there xs i x l e = slice_get-get_or xs i x l ∙ ap Some e

-- a list with one more, of which each is known
each_more : (F : ℕ → ℕ) (xs : List ℕ) (k v : ℕ) → length xs ≡ k → ((j : ℕ) → j < k → get_or xs j 0 ≡ F j) → v ≡ F k → (j : ℕ) → j < k + 1
    → get_or (xs ++ v ∷ []) j 0 ≡ F j
each_more F xs k v len each e j l = either (cases_eq j k)
    (λ q. let z : j ≡ length xs = omega arith in
    ap (λ i. get_or (xs ++ v ∷ []) i 0) z ∙ get_or-append_seam xs v [] 0 ∙ e ∙ ap F (sym q))
    (λ ne. let z : j < length xs = omega arith in
    get_or_append_left xs (v ∷ []) 0 j z ∙ each j (omega arith))

pub relation_starts_more : (sk : Skolem) (n : SortId → ℕ) (i v : ℕ) (starts : List ℕ) → AreRelationStarts sk n i starts
    → v ≡ relation_rows n (take (i + 1) sk.relations) → AreRelationStarts sk n (i + 1) (starts ++ v ∷ [])
relation_starts_more sk n i v starts h e = record {
  len = omega (arith, h.len, length-append starts (v ∷ []));
  each = λ j l. each_more (λ j. relation_rows n (take j sk.relations)) starts (i + 1) v (omega (arith, h.len)) (λ j l. h.each j (omega arith)) e j
      (omega arith);
}

pub sort_starts_more : (sk : Skolem) (n : SortId → ℕ) (i v : ℕ) (starts : List ℕ) → AreSortStarts sk n i starts → v ≡ rows_to sk n (i + 1)
    → AreSortStarts sk n (i + 1) (starts ++ v ∷ [])
sort_starts_more sk n i v starts h e = record {
  len = omega (arith, h.len, length-append starts (v ∷ []));
  each = λ j l. each_more (rows_to sk n) starts (i + 1) v (omega (arith, h.len)) (λ j l. h.each j (omega arith)) e j (omega arith);
}

pub rows_more : (sk : Skolem) (n : SortId → ℕ) (i : ℕ) → rows_to sk n (i + 1) ≡ rows_to sk n i + pairs n (sort i)
rows_more sk n i = let q = sum_last i (λ j. pairs n (sort j)) in omega arith

pub relation_rows_more : (n : SortId → ℕ) (rs : List RelShape) (i : ℕ) (r : RelShape) → i < length rs → get_or rs i r ≡ r
    → relation_rows n (take (i + 1) rs) ≡ relation_rows n (take i rs) + product n r.sorts
relation_rows_more n rs i r l e = relation_rows_last n rs i r l ∙ ap (λ (x : RelShape). relation_rows n (take i rs) + product n x.sorts) e

-- ---- terms that are counted

used_more : (sk : Skolem) (n m : SortId → ℕ) (used : List ℕ) (s : SortId) (k : ℕ) → AreUsed sk n used → s.0 < sk.sorts
    → ((t : SortId) → m t ≡ n t + cond (eqb s.0 t.0) k 0) → AreUsed sk m (set used s.0 (count_at used s + k))
used_more sk n m used s k h l e = record { len = length-set used s.0 (count_at used s + k) ∙ h.len; each = each }
  where
    each : (t : SortId) → t.0 < sk.sorts → count_at (set used s.0 (count_at used s + k)) t ≡ m t
    each t lt = either (cases_eq s.0 t.0)
        (λ q. let within : s.0 < length used = omega (arith, h.len) in
        let a = ap (λ i. get_or (set used s.0 (count_at used s + k)) i 0) (sym q) ∙ get_or-set_same used s.0 (count_at used s + k) 0 within in
        let b = h.each s l in
        let same : s ≡ t = λ i. record { 0 = q i } in
        let c = e t ∙ ap (λ b. n t + cond b k 0) (eq-eqb s.0 t.0 q) in
        let d = ap n same in
        omega arith)
        (λ ne. let a = get_or-set_other used s.0 t.0 (count_at used s + k) 0 (λ q. ne (sym q)) in
        let b = h.each t lt in
        let c = e t ∙ ap (λ b. n t + cond b k 0) (ne_eqb s.0 t.0 ne) in
        omega arith)

pub constant_range : (sk : Skolem) → IsRanged sk → (i : ℕ) (x : ConShape) → slice_get sk.constants i ≡ Some x → x.sort.0 < sk.sorts
constant_range sk range i x h = range.constants x.sym x.sort (range.distinct i x h)

pub place_range : (sk : Skolem) → IsRanged sk → (i : ℕ) (x : Place) → i < length sk.places → get_or sk.places i x ≡ x → x.sort.0 < sk.sorts
place_range sk range i x l e = range.places i x (get_there sk.places i x l e)

pub constants_more : (sk : Skolem) → IsRanged sk → (used : List ℕ) (i : ℕ) (x : ConShape) → i < length sk.constants → slice_get sk.constants i ≡ Some x
    → AreUsed sk (λ s. length (constant_terms s (take i sk.constants))) used → AreUsed sk (λ s. length (constant_terms s (take (i + 1) sk.constants)))
    (set used x.sort.0 (count_at used x.sort + 1))
constants_more sk range used i x l e h = used_more sk _ _ used x.sort 1 h (constant_range sk range i x e)
    (λ t. constants_last t sk.constants i x l ∙ ap (λ (y : ConShape). length (constant_terms t (take i sk.constants)) + cond (eqb y.sort.0 t.0) 1 0)
    (get_or_from_slice_get sk.constants i x x e))

pub places_more : (sk : Skolem) → IsRanged sk → (n : SortId → ℕ) (used : List ℕ) (i : ℕ) (x : Place) → i < length sk.places → get_or sk.places i x ≡ x
    → AreUsed sk (first_term sk n i) used → AreUsed sk (first_term sk n (i + 1)) (set used x.sort.0 (count_at used x.sort + product n (argument_sorts x)))
places_more sk range n used i x l e h = used_more sk _ _ used x.sort (product n (argument_sorts x)) h (place_range sk range i x l e)
    (λ t. let q = place_count_last n t sk.places i x l ∙ ap (λ (y : Place). place_count n t (take i sk.places) + cond (eqb y.sort.0 t.0)
    (product n (argument_sorts y)) 0) e in omega arith)

pub firsts_more : (sk : Skolem) → IsRanged sk → (n : SortId → ℕ) (used firsts : List ℕ) (i v : ℕ) (x : Place) → i < length sk.places
    → get_or sk.places i x ≡ x
    → AreUsed sk (first_term sk n i) used → v ≡ count_at used x.sort → v + product n (argument_sorts x) < 2 ^ 32 → AreFirsts sk n i firsts
    → AreFirsts sk n (i + 1) (firsts ++ v ∷ [])
firsts_more sk range n used firsts i v x l e h is room firsts_are = record {
  len = omega (arith, firsts_are.len, length-append firsts (v ∷ []));
  each = each;
  room = rooms;
}
  where
    here : v ≡ first_term sk n i x.sort
    here = is ∙ h.each x.sort (place_range sk range i x l e)

    same_place : (p : Place) → slice_get sk.places i ≡ Some p → x ≡ p
    same_place p q = let w : Some x ≡ Some p = sym (get_there sk.places i x l e) ∙ q in cc

    last : (j : ℕ) → j ≡ i → get_or (firsts ++ v ∷ []) j 0 ≡ v
    last j q = let z : j ≡ length firsts = omega (arith, firsts_are.len) in ap (λ k. get_or (firsts ++ v ∷ []) k 0) z ∙ get_or-append_seam firsts v [] 0

    before : (j : ℕ) → j < i → get_or (firsts ++ v ∷ []) j 0 ≡ get_or firsts j 0
    before j q = get_or_append_left firsts (v ∷ []) 0 j (omega (arith, firsts_are.len))

    each : (j : ℕ) (p : Place) → j < i + 1 → slice_get sk.places j ≡ Some p → get_or (firsts ++ v ∷ []) j 0 ≡ first_term sk n j p.sort
    each j p lt q = either (cases_eq j i)
        (λ z. let w = same_place p (ap (slice_get sk.places) (sym z) ∙ q) in last j z ∙ here ∙ ap (λ k. first_term sk n k x.sort) (sym z)
        ∙ ap (λ (y : Place). first_term sk n j y.sort) w)
        (λ ne. before j (omega arith) ∙ firsts_are.each j p (omega arith) q)

    rooms : (j : ℕ) (p : Place) → j < i + 1 → slice_get sk.places j ≡ Some p → get_or (firsts ++ v ∷ []) j 0 + product n (argument_sorts p) < 2 ^ 32
    rooms j p lt q = either (cases_eq j i)
        (λ z. let w = ap (λ (y : Place). product n (argument_sorts y)) (same_place p (ap (slice_get sk.places) (sym z) ∙ q)) in omega (arith, last j z))
        (λ ne. omega (arith, before j (omega arith), firsts_are.room j p (omega arith) q))
