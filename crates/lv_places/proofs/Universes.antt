-- What a universe has: where each term stands, and what stands where.
use mathlib.Core.Path.{fun_ext}
use Rattle.std.proofs.Math.Seq.{get_or-append_seam}
use Rattle.std.proofs.Common.{◌≡◌, ℕ, zero, suc, ◌+◌, ◌*◌, ◌<◌, ◌≤◌, Bool, true, false, cond, List, [], ◌∷◌, ◌++◌, length, map, get_or, take, drop, Some, refl, sym, ap, ◌∙◌, subst, arith, eqb, length-append, add-one}
use Rattle.std.specs.Prelude.{slice_get, option_map}
use Rattle.std.proofs.lemmas.Bool.{eq-eqb, eqb-true, cond-true, cond-false, cases_lt, cases_eq}
use Rattle.std.proofs.lemmas.List.{length-map, drop_more, get_or_past, get_or_append_left}
use Rattle.std.proofs.lemmas.Option.{slice_get-map}
use Rattle.lv_formula.specs.declared.symbols.SortId.{SortId}
use Rattle.lv_formula.specs.declared.symbols.Sym.{Sym}
use Rattle.lv_formula.specs.declared.vocabulary.ConShape.{ConShape}
use Rattle.lv_formula.specs.Symbols.{sym_eq}
use Rattle.lv_formula.specs.Vocabulary.{constant_in}
use Rattle.lv_formula.proofs.SymbolLaws.{sym_eq-true}
use Rattle.lv_places.specs.declared.skolem.Place.{Place}
use Rattle.lv_places.specs.declared.skolem.Skolem.{Skolem}
use Rattle.lv_places.specs.declared.terms.TermId.{TermId}
use Rattle.lv_places.specs.declared.terms.GroundTerm.{GroundTerm}
use Rattle.lv_places.specs.declared.terms.GroundTerm.TheVariants.{Constant, Place as PlaceTerm, Extra}
use Rattle.lv_places.specs.GroundForms.{Naming, naming_of}
use Rattle.lv_places.specs.Universes.{argument_sorts, term, heads, tuples, constant_terms, place_terms, or_extra, terms_of, counts, IsUniverse, product, place_count, tuple_number, constant_number, constant_sort, constant_id, place_id, terms_with, terms_to, count_at}
use Rattle.lv_places.specs.Sizes.{at_least_one, IsCount}
use Rattle.lv_places.proofs.Tests.{either}

pub same_sorts : (s t : SortId) → s.0 ≡ t.0 → s ≡ t
same_sorts s t e = λ i. record { 0 = e i }

-- a term of a sort
pub record IsTerm (n : SortId → ℕ) (s : SortId) (t : TermId) : Type 0 where
  pub sort_is : t.sort ≡ s
  pub within : t.place < n s

-- one term for each of these sorts
abbrev pub AreTerms : (SortId → ℕ) → List SortId → List TermId → Type 0
AreTerms n [] [] = Unit {0}
AreTerms n [] (t ∷ ts) = ⊥
AreTerms n (s ∷ ss) [] = ⊥
AreTerms n (s ∷ ss) (t ∷ ts) = IsTerm n s t × AreTerms n ss ts

pub term_is : (n : SortId → ℕ) (s : SortId) (t : TermId) → IsTerm n s t → t ≡ term s t.place
term_is n s t h = ap (λ z. term z t.place) h.sort_is

pub same_length : (n : SortId → ℕ) (ss : List SortId) (ts : List TermId) → AreTerms n ss ts → length ss ≡ length ts
same_length n [] [] h = refl
same_length n [] (t ∷ ts) h = absurd h
same_length n (s ∷ ss) [] h = absurd h
same_length n (s ∷ ss) (t ∷ ts) h = ap suc (same_length n ss ts h.1)

sorts_are : (n : SortId → ℕ) (ss : List SortId) (ts : List TermId) → AreTerms n ss ts → map (λ (t : TermId). t.sort) ts ≡ ss
sorts_are n [] [] h = refl
sorts_are n [] (t ∷ ts) h = absurd h
sorts_are n (s ∷ ss) [] h = absurd h
sorts_are n (s ∷ ss) (t ∷ ts) h = let p = (h.0).sort_is in let q = sorts_are n ss ts h.1 in cc

-- ---- elements of lists

pub get_left : {A : Type 0} (xs ys : List A) (i : ℕ) (x : A) → slice_get xs i ≡ Some x → slice_get (xs ++ ys) i ≡ Some x
get_left [] ys i x h = absurd (cc)
get_left (y ∷ xs) ys zero x h = h
get_left (y ∷ xs) ys (suc i) x h = get_left xs ys i x h

get_right : {A : Type 0} (xs ys : List A) (n i : ℕ) (x : A) → n ≡ length xs → slice_get ys i ≡ Some x → slice_get (xs ++ ys) (n + i) ≡ Some x
get_right [] ys n i x e h = let z : i ≡ n + i = omega arith in subst (λ k. slice_get ys k ≡ Some x) z h
get_right (y ∷ xs) ys n i x e h =
    let z : suc (length xs + i) ≡ n + i = omega arith in
    subst (λ k. slice_get (y ∷ (xs ++ ys)) k ≡ Some x) z (get_right xs ys (length xs) i x refl h)

pub get_map : {A B : Type 0} (f : A → B) (xs : List A) (i : ℕ) (x : A) → slice_get xs i ≡ Some x → slice_get (map f xs) i ≡ Some (f x)
get_map f xs i x h = slice_get-map f xs i ∙ ap (option_map f) h

pub get_unmap : {A B : Type 0} (f : A → B) (xs : List A) (i : ℕ) (y : B) → slice_get (map f xs) i ≡ Some y → (x : A) × (slice_get xs i ≡ Some x) × (f x ≡ y)
get_unmap f [] i y h = absurd (cc)
get_unmap f (x ∷ xs) zero y h = (x, refl, cc)
get_unmap f (x ∷ xs) (suc i) y h = get_unmap f xs i y h

pub get_below : {A : Type 0} (xs : List A) (i : ℕ) (x : A) → slice_get xs i ≡ Some x → i < length xs
get_below [] i x h = absurd (cc)
get_below (y ∷ xs) zero x h = omega arith
get_below (y ∷ xs) (suc i) x h = let r = get_below xs i x h in omega (arith, r)

abbrev pub Every_in : {A : Type 0} → (A → Type 0) → List A → Type 0
Every_in P [] = Unit {0}
Every_in P (x ∷ xs) = P x × Every_in P xs

pub every_append : {A : Type 0} (P : A → Type 0) (xs ys : List A) → Every_in P xs → Every_in P ys → Every_in P (xs ++ ys)
every_append P [] ys h k = k
every_append P (x ∷ xs) ys h k = (h.0, every_append P xs ys h.1 k)

every_map : {A B : Type 0} (P : A → Type 0) (Q : B → Type 0) (f : A → B) (xs : List A) → ((x : A) → P x → Q (f x)) → Every_in P xs → Every_in Q (map f xs)
every_map P Q f [] h k = tt
every_map P Q f (x ∷ xs) h k = (h x k.0, every_map P Q f xs h k.1)

pub every_at : {A : Type 0} (P : A → Type 0) (xs : List A) (i : ℕ) → Every_in P xs → i < length xs → (x : A) × (slice_get xs i ≡ Some x) × P x
every_at P [] i h l = absurd (omega arith)
every_at P (x ∷ xs) zero h l = (x, refl, h.0)
every_at P (x ∷ xs) (suc i) h l = every_at P xs i h.1 (omega arith)

-- ---- tuples

length-heads : (s : SortId) (n : ℕ) (rest : List (List TermId)) → length (heads s n rest) ≡ n * length rest
length-heads s zero rest = omega arith
length-heads s (suc n) rest =
    let r = length-heads s n rest in
    let m = length-map rest (λ ts. term s n ∷ ts) in
    omega (arith, length-append (heads s n rest) (map (λ ts. term s n ∷ ts) rest))

pub length-tuples : (n : SortId → ℕ) (ss : List SortId) → length (tuples n ss) ≡ product n ss
length-tuples n [] = refl
length-tuples n (s ∷ ss) = length-heads s (n s) (tuples n ss) ∙ ap (λ k. n s * k) (length-tuples n ss)

heads_at : (s : SortId) (n j r : ℕ) (ts : List TermId) (rest : List (List TermId)) → j < n → slice_get rest r ≡ Some ts
    → slice_get (heads s n rest) (j * length rest + r) ≡ Some (term s j ∷ ts)
heads_at s zero j r ts rest l h = absurd (omega arith)
heads_at s (suc n) j r ts rest l h =
    either (cases_eq j n)
    (λ e. let a = get_right (heads s n rest) (map (λ us. term s n ∷ us) rest) (n * length rest) r (term s n ∷ ts) (sym (length-heads s n rest))
    (get_map (λ us. term s n ∷ us) rest r ts h) in
    subst (λ k. slice_get (heads s (suc n) rest) (k * length rest + r) ≡ Some (term s k ∷ ts)) (sym e) a)
    (λ ne. get_left (heads s n rest) (map (λ us. term s n ∷ us) rest) (j * length rest + r) (term s j ∷ ts) (heads_at s n j r ts rest (omega arith) h))

pub tuple_at : (n : SortId → ℕ) (ss : List SortId) (ts : List TermId) → AreTerms n ss ts → slice_get (tuples n ss) (tuple_number n ts) ≡ Some ts
tuple_at n [] [] h = refl
tuple_at n [] (t ∷ ts) h = absurd h
tuple_at n (s ∷ ss) [] h = absurd h
tuple_at n (s ∷ ss) (t ∷ ts) h =
    let r = tuple_number n ts in
    let a = heads_at s (n s) t.place r ts (tuples n ss) (h.0).within (tuple_at n ss ts h.1) in
    let e : t.place * length (tuples n ss) + r ≡ t.place * product n (map (λ (t : TermId). t.sort) ts) + r =
    ap (λ k. t.place * k + r) (length-tuples n ss ∙ ap (product n) (sym (sorts_are n ss ts h.1))) in
    let t' : term s t.place ≡ t = sym (term_is n s t h.0) in
    subst (λ k. slice_get (tuples n (s ∷ ss)) k ≡ Some (t ∷ ts)) e
    (subst (λ x. slice_get (tuples n (s ∷ ss)) (t.place * length (tuples n ss) + r) ≡ Some (x ∷ ts)) t' a)

heads_are : (n : SortId → ℕ) (s : SortId) (ss : List SortId) (k : ℕ) (rest : List (List TermId)) → k ≤ n s → Every_in (AreTerms n ss) rest
    → Every_in (AreTerms n (s ∷ ss)) (heads s k rest)
heads_are n s ss zero rest l h = tt
heads_are n s ss (suc k) rest l h =
    every_append (AreTerms n (s ∷ ss)) (heads s k rest) _
    (heads_are n s ss k rest (omega arith) h)
    (every_map (AreTerms n ss) (AreTerms n (s ∷ ss)) (λ ts. term s k ∷ ts) rest (λ ts q. (record { sort_is = refl; within = omega arith }, q)) h)

pub tuples_are : (n : SortId → ℕ) (ss : List SortId) → Every_in (AreTerms n ss) (tuples n ss)
tuples_are n [] = (tt, tt)
tuples_are n (s ∷ ss) = heads_are n s ss (n s) (tuples n ss) (omega arith) (tuples_are n ss)

-- ---- where terms stand

pub length-place_terms : (n : SortId → ℕ) (s : SortId) (k : ℕ) (ps : List Place) → length (place_terms n s k ps) ≡ place_count n s ps
length-place_terms n s k [] = refl
length-place_terms n s k (p ∷ ps) =
    let r = length-place_terms n s (suc k) ps in
    let h = here (eqb p.sort.0 s.0) in
    omega (arith, length-append (cond (eqb p.sort.0 s.0) (map (PlaceTerm k) (tuples n (argument_sorts p))) []) (place_terms n s (suc k) ps))
  where
    here : (b : Bool) → length (cond b (map (PlaceTerm k) (tuples n (argument_sorts p))) []) ≡ cond b (product n (argument_sorts p)) 0
    here true = length-map (tuples n (argument_sorts p)) (PlaceTerm k) ∙ length-tuples n (argument_sorts p)
    here false = refl

places_at : (n : SortId → ℕ) (s : SortId) (ps : List Place) (k i r : ℕ) (p : Place) (ts : List TermId) → slice_get ps i ≡ Some p → p.sort ≡ s
    → slice_get (tuples n (argument_sorts p)) r ≡ Some ts → slice_get (place_terms n s k ps) (place_count n s (take i ps) + r) ≡ Some (PlaceTerm (k + i) ts)
places_at n s [] k i r p ts h e t = absurd (cc)
places_at n s (q ∷ ps) k zero r p ts h e t =
    let z : r ≡ 0 + r = omega arith in
    let z2 : k ≡ k + 0 = omega arith in
    let qp : q ≡ p = cc in
    let w : cond (eqb p.sort.0 s.0) (map (PlaceTerm k) (tuples n (argument_sorts p))) [] ≡ map (PlaceTerm k) (tuples n (argument_sorts p)) =
    cond-true (eqb p.sort.0 s.0) _ _ (eq-eqb p.sort.0 s.0 (ap (λ (z : SortId). z.0) e)) in
    let a = get_left (map (PlaceTerm k) (tuples n (argument_sorts p))) (place_terms n s (suc k) ps) r (PlaceTerm k ts)
    (get_map (PlaceTerm k) (tuples n (argument_sorts p)) r ts t) in
    let b : slice_get (place_terms n s k (p ∷ ps)) r ≡ Some (PlaceTerm k ts) =
    subst (λ l. slice_get (l ++ place_terms n s (suc k) ps) r ≡ Some (PlaceTerm k ts)) (sym w) a in
    let c = subst (λ x. slice_get (place_terms n s k (x ∷ ps)) r ≡ Some (PlaceTerm k ts)) (sym qp) b in
    subst (λ j. slice_get (place_terms n s k (q ∷ ps)) (0 + r) ≡ Some (PlaceTerm j ts)) z2
    (subst (λ j. slice_get (place_terms n s k (q ∷ ps)) j ≡ Some (PlaceTerm k ts)) z c)
places_at n s (q ∷ ps) k (suc i) r p ts h e t =
    let front = cond (eqb q.sort.0 s.0) (map (PlaceTerm k) (tuples n (argument_sorts q))) [] in
    let c = cond (eqb q.sort.0 s.0) (product n (argument_sorts q)) 0 in
    let a = places_at n s ps (suc k) i r p ts h e t in
    let l = front_length (eqb q.sort.0 s.0) in
    let z : c + (place_count n s (take i ps) + r) ≡ (c + place_count n s (take i ps)) + r = omega arith in
    let z2 : suc k + i ≡ k + suc i = omega arith in
    let b = get_right front (place_terms n s (suc k) ps) c (place_count n s (take i ps) + r) _ l a in
    subst (λ j. slice_get (place_terms n s k (q ∷ ps)) ((c + place_count n s (take i ps)) + r) ≡ Some (PlaceTerm j ts)) z2
    (subst (λ j. slice_get (place_terms n s k (q ∷ ps)) j ≡ Some (PlaceTerm (suc k + i) ts)) z b)
  where
    front_length : (b : Bool) → cond b (product n (argument_sorts q)) 0 ≡ length (cond b (map (PlaceTerm k) (tuples n (argument_sorts q))) [])
    front_length true = sym (length-map (tuples n (argument_sorts q)) (PlaceTerm k) ∙ length-tuples n (argument_sorts q))
    front_length false = refl

get_extra : (ts : List GroundTerm) (i : ℕ) (t : GroundTerm) → slice_get ts i ≡ Some t → slice_get (or_extra ts) i ≡ Some t
get_extra [] i t h = absurd (cc)
get_extra (x ∷ ts) i t h = h

constant_stands : (s : SortId) (cs : List ConShape) (c : Sym) → constant_in cs c ≡ Some s → slice_get (constant_terms s cs) (constant_number s cs c)
    ≡ Some (Constant c)
constant_stands s [] c h = absurd (cc)
constant_stands s (x ∷ cs) c h = step (sym_eq x.sym c) (eqb x.sort.0 s.0) refl refl (constant_stands s cs c)
  where
    step : (a b : Bool) → sym_eq x.sym c ≡ a → eqb x.sort.0 s.0 ≡ b
        → (constant_in cs c ≡ Some s → slice_get (constant_terms s cs) (constant_number s cs c) ≡ Some (Constant c))
        → slice_get (cond b (Constant x.sym ∷ constant_terms s cs) (constant_terms s cs)) (cond a 0 (cond b 1 0 + constant_number s cs c)) ≡ Some (Constant c)
    step true true e q ih = ap (λ d. Some (Constant d)) (sym_eq-true x.sym c e)
    step true false e q ih =
        let is : x.sort ≡ s = let w : Some x.sort ≡ Some s = sym (cond-true (sym_eq x.sym c) (Some x.sort) (constant_in cs c) e) ∙ h in cc in
        absurd (let z = eq-eqb x.sort.0 s.0 (ap (λ (y : SortId). y.0) is) in cc)
    step false b e q ih =
        let h' : constant_in cs c ≡ Some s = sym (cond-false (sym_eq x.sym c) (Some x.sort) (constant_in cs c) e) ∙ h in
        past b (ih h')
      where
        past : (b : Bool) → slice_get (constant_terms s cs) (constant_number s cs c) ≡ Some (Constant c)
            → slice_get (cond b (Constant x.sym ∷ constant_terms s cs) (constant_terms s cs)) (cond b 1 0 + constant_number s cs c) ≡ Some (Constant c)
        past true r = let z : suc (constant_number s cs c) ≡ 1 + constant_number s cs c =
            omega arith in subst (λ j. slice_get (Constant x.sym ∷ constant_terms s cs) j ≡ Some (Constant c)) z r
        past false r = let z : constant_number s cs c ≡ 0 + constant_number s cs c =
            omega arith in subst (λ j. slice_get (constant_terms s cs) j ≡ Some (Constant c)) z r

constant_sort_is : (cs : List ConShape) (c : Sym) (s : SortId) → constant_in cs c ≡ Some s → constant_sort cs c ≡ s
constant_sort_is [] c s h = absurd (cc)
constant_sort_is (x ∷ cs) c s h = step (sym_eq x.sym c) refl (constant_sort_is cs c s)
  where
    step : (b : Bool) → sym_eq x.sym c ≡ b → (constant_in cs c ≡ Some s → constant_sort cs c ≡ s) → cond (sym_eq x.sym c) x.sort (constant_sort cs c) ≡ s
    step true e ih = cond-true (sym_eq x.sym c) x.sort (constant_sort cs c) e
        ∙ (let w : Some x.sort ≡ Some s = sym (cond-true (sym_eq x.sym c) (Some x.sort) (constant_in cs c) e) ∙ h in cc)
    step false e ih = cond-false (sym_eq x.sym c) x.sort (constant_sort cs c) e ∙ ih (sym (cond-false (sym_eq x.sym c) (Some x.sort) (constant_in cs c) e) ∙ h)

-- ---- what a universe's terms are

abbrev pub IsSound : Skolem → (SortId → ℕ) → SortId → GroundTerm → Type 0
IsSound sk n s (Constant c) = constant_in sk.constants c ≡ Some s
IsSound sk n s (PlaceTerm k ts) = (p : Place) × (slice_get sk.places k ≡ Some p) × (p.sort ≡ s) × AreTerms n (argument_sorts p) ts
IsSound sk n s Extra = Unit {0}

-- sorts are in range, and constants have one sort
pub record IsRanged (sk : Skolem) : Type 0 where
  pub places : (k : ℕ) (p : Place) → slice_get sk.places k ≡ Some p → p.sort.0 < sk.sorts
  pub constants : (c : Sym) (s : SortId) → constant_in sk.constants c ≡ Some s → s.0 < sk.sorts
  pub distinct : (i : ℕ) (x : ConShape) → slice_get sk.constants i ≡ Some x → constant_in sk.constants x.sym ≡ Some x.sort

module _ (sk : Skolem) (n : SortId → ℕ) where
  places_sound : (s : SortId) (ps : List Place) (k : ℕ) → ((i : ℕ) (p : Place) → slice_get ps i ≡ Some p → slice_get sk.places (k + i) ≡ Some p)
      → Every_in (IsSound sk n s) (place_terms n s k ps)
  places_sound s [] k there = tt
  places_sound s (p ∷ ps) k there =
      every_append (IsSound sk n s) _ (place_terms n s (suc k) ps) (here (eqb p.sort.0 s.0) refl)
      (places_sound s ps (suc k) (λ i q h. let z : k + suc i ≡ suc k + i = omega arith in subst (λ j. slice_get sk.places j ≡ Some q) z (there (suc i) q h)))
    where
      here : (b : Bool) → eqb p.sort.0 s.0 ≡ b → Every_in (IsSound sk n s) (cond b (map (PlaceTerm k) (tuples n (argument_sorts p))) [])
      here true e =
          let z : k + 0 ≡ k = omega arith in
          let g = subst (λ j. slice_get sk.places j ≡ Some p) z (there 0 p refl) in
          every_map (AreTerms n (argument_sorts p)) (IsSound sk n s) (PlaceTerm k) (tuples n (argument_sorts p))
          (λ ts h. (p, g, same_sorts p.sort s (eqb-true p.sort.0 s.0 e), h)) (tuples_are n (argument_sorts p))
      here false e = tt

  constants_sound : (s : SortId) (cs : List ConShape) → ((i : ℕ) (x : ConShape) → slice_get cs i ≡ Some x → constant_in sk.constants x.sym ≡ Some x.sort)
      → Every_in (IsSound sk n s) (constant_terms s cs)
  constants_sound s [] there = tt
  constants_sound s (x ∷ cs) there = here (eqb x.sort.0 s.0) refl (constants_sound s cs (λ i y h. there (suc i) y h))
    where
      here : (b : Bool) → eqb x.sort.0 s.0 ≡ b → Every_in (IsSound sk n s) (constant_terms s cs)
          → Every_in (IsSound sk n s) (cond b (Constant x.sym ∷ constant_terms s cs) (constant_terms s cs))
      here true e h = (there 0 x refl ∙ ap Some (same_sorts x.sort s (eqb-true x.sort.0 s.0 e)), h)
      here false e h = h

  extra_sound : (s : SortId) (ts : List GroundTerm) → Every_in (IsSound sk n s) ts → Every_in (IsSound sk n s) (or_extra ts)
  extra_sound s [] h = (tt, tt)
  extra_sound s (t ∷ ts) h = h

abbrev pub PlacesAreTerms : Naming → List Place → Type 0
PlacesAreTerms u places = (k : ℕ) (p : Place) (ts : List TermId) → slice_get places k ≡ Some p → AreTerms u.count (argument_sorts p) ts
    → IsTerm u.count p.sort (u.place p.sort k ts)

abbrev pub ConstantsAreTerms : Naming → List ConShape → Type 0
ConstantsAreTerms u cs = (c : Sym) (s : SortId) → constant_in cs c ≡ Some s → IsTerm u.count s (u.constant c)

module _ (sk : Skolem) (u : List (List GroundTerm)) (is : IsUniverse sk u) (range : IsRanged sk) where
  abbrev N : SortId → ℕ
  N = counts u

  terms_sound : (s : SortId) → s.0 < sk.sorts → Every_in (IsSound sk N s) (terms_of u s)
  terms_sound s l =
      subst (Every_in (IsSound sk N s)) (sym (is.terms s l))
      (extra_sound sk N s _ (every_append (IsSound sk N s) (constant_terms s sk.constants) _
      (constants_sound sk N s sk.constants range.distinct)
      (places_sound sk N s sk.places 0 (λ i p h. let z : i ≡ 0 + i = omega arith in subst (λ j. slice_get sk.places j ≡ Some p) z h))))

  pub term_in_range : (s : SortId) (t : TermId) → IsTerm N s t → s.0 < sk.sorts
  term_in_range s t h =
      either (cases_lt s.0 sk.sorts) (λ l. l)
      (λ l. let e = get_or_past u s.0 [] (omega (arith, is.sorts)) in
      let z = ap length e in
      let w = h.within in
      absurd (omega arith))

  pub term_is_sound : (s : SortId) (t : TermId) → IsTerm N s t → (x : GroundTerm) × (slice_get (terms_of u s) t.place ≡ Some x) × IsSound sk N s x
  term_is_sound s t h = every_at (IsSound sk N s) (terms_of u s) t.place (terms_sound s (term_in_range s t h)) h.within

  pub place_stands : (k : ℕ) (p : Place) (ts : List TermId) → slice_get sk.places k ≡ Some p → AreTerms N (argument_sorts p) ts
      → slice_get (terms_of u p.sort) (place_id sk N p.sort k ts).place ≡ Some (PlaceTerm k ts)
  place_stands k p ts h are =
      let a = places_at N p.sort sk.places 0 k _ p ts h refl (tuple_at N (argument_sorts p) ts are) in
      let z : 0 + k ≡ k = omega arith in
      let a' = subst (λ j. slice_get (place_terms N p.sort 0 sk.places) (place_count N p.sort (take k sk.places) + tuple_number N ts)
      ≡ Some (PlaceTerm j ts)) z a in
      let cs = constant_terms p.sort sk.constants in
      let j = (place_id sk N p.sort k ts).place in
      let b : slice_get (cs ++ place_terms N p.sort 0 sk.places) j ≡ Some (PlaceTerm k ts) =
      get_right cs (place_terms N p.sort 0 sk.places) (length cs) _ (PlaceTerm k ts) refl a' in
      subst (λ xs. slice_get xs j ≡ Some (PlaceTerm k ts)) (sym (is.terms p.sort (range.places k p h)))
      (get_extra (cs ++ place_terms N p.sort 0 sk.places) j (PlaceTerm k ts) b)

  pub constant_is : (c : Sym) (s : SortId) → constant_in sk.constants c ≡ Some s → (constant_id sk c).sort ≡ s
  constant_is c s h = constant_sort_is sk.constants c s h

  pub constant_stands_at : (c : Sym) (s : SortId) → constant_in sk.constants c ≡ Some s → slice_get (terms_of u s) (constant_id sk c).place ≡ Some (Constant c)
  constant_stands_at c s h =
      let e = constant_sort_is sk.constants c s h in
      let a = get_left (constant_terms s sk.constants) (place_terms N s 0 sk.places) (constant_number s sk.constants c) (Constant c)
      (constant_stands s sk.constants c h) in
      let b = get_extra (constant_terms s sk.constants ++ place_terms N s 0 sk.places) (constant_number s sk.constants c) (Constant c) a in
      let d = subst (λ xs. slice_get xs (constant_number s sk.constants c) ≡ Some (Constant c)) (sym (is.terms s (range.constants c s h))) b in
      subst (λ z. slice_get (terms_of u s) (constant_number z sk.constants c) ≡ Some (Constant c)) (sym e) d

  pub places_are_terms : PlacesAreTerms (naming_of sk N) sk.places
  places_are_terms k p ts h are = record { sort_is = refl; within = get_below _ _ _ (place_stands k p ts h are) }

  pub constants_are_terms : ConstantsAreTerms (naming_of sk N) sk.constants
  constants_are_terms c s h = record { sort_is = constant_is c s h; within = get_below _ _ _ (constant_stands_at c s h) }

-- ---- the universe with given numbers of terms

length-terms_to : (sk : Skolem) (n : SortId → ℕ) (k : ℕ) → length (terms_to sk n k) ≡ k
length-terms_to sk n zero = refl
length-terms_to sk n (suc k) = let r = length-terms_to sk n k in omega (arith, r, length-append (terms_to sk n k) (terms_with sk n (record { 0 = k }) ∷ []))

terms_to_at : (sk : Skolem) (n : SortId → ℕ) (k : ℕ) (s : SortId) → s.0 < k → terms_of (terms_to sk n k) s ≡ terms_with sk n s
terms_to_at sk n zero s l = absurd (omega arith)
terms_to_at sk n (suc k) s l = let len = length-terms_to sk n k in
    either (cases_eq s.0 k)
    (λ e. let z : s.0 ≡ length (terms_to sk n k) = omega arith in
    let same : record { 0 = k } ≡ s = λ i. record { 0 = sym e i } in
    ap (λ j. get_or (terms_to sk n k ++ terms_with sk n (record { 0 = k }) ∷ []) j []) z
    ∙ get_or-append_seam (terms_to sk n k) (terms_with sk n (record { 0 = k })) [] [] ∙ ap (terms_with sk n) same)
    (λ ne. let lt : s.0 < length (terms_to sk n k) = omega arith in
    get_or_append_left (terms_to sk n k) (terms_with sk n (record { 0 = k }) ∷ []) [] s.0 lt ∙ terms_to_at sk n k s (omega arith))

length-or_extra : (ts : List GroundTerm) → length (or_extra ts) ≡ at_least_one (length ts)
length-or_extra [] = refl
length-or_extra (t ∷ ts) = refl

pub length-terms_with : (sk : Skolem) (n : SortId → ℕ) (s : SortId)
    → length (terms_with sk n s) ≡ at_least_one (length (constant_terms s sk.constants) + place_count n s sk.places)
length-terms_with sk n s =
    length-or_extra _ ∙ ap at_least_one (length-append (constant_terms s sk.constants) (place_terms n s 0 sk.places)
    ∙ ap (λ k. length (constant_terms s sk.constants) + k) (length-place_terms n s 0 sk.places))

-- numbers that count the terms give the universe
pub universe_is : (sk : Skolem) (ns : List ℕ) → length ns ≡ sk.sorts → IsCount sk (count_at ns) → IsUniverse sk (terms_to sk (count_at ns) sk.sorts)
universe_is sk ns len count = record {
  sorts = length-terms_to sk (count_at ns) sk.sorts;
  terms = λ s l. terms_to_at sk (count_at ns) sk.sorts s l ∙ ap (λ n. terms_with sk n s) (fun_ext same);
}
  where
    same : (s : SortId) → count_at ns s ≡ counts (terms_to sk (count_at ns) sk.sorts) s
    same s = either (cases_lt s.0 sk.sorts)
        (λ l. count s l ∙ sym (ap length (terms_to_at sk (count_at ns) sk.sorts s l) ∙ length-terms_with sk (count_at ns) s))
        (λ l. let len2 = length-terms_to sk (count_at ns) sk.sorts in
        get_or_past ns s.0 0 (omega arith) ∙ sym (ap length (get_or_past (terms_to sk (count_at ns) sk.sorts) s.0 [] (omega arith))))

-- the terms of a place and of those behind it
pub place_terms_more : (n : SortId → ℕ) (s : SortId) (ps : List Place) (i : ℕ) (p : Place) → i < length ps → get_or ps i p ≡ p
    → place_terms n s i (drop i ps) ≡ cond (eqb p.sort.0 s.0) (map (PlaceTerm i) (tuples n (argument_sorts p))) [] ++ place_terms n s (i + 1) (drop (i + 1) ps)
place_terms_more n s ps i p l e =
    ap (place_terms n s i) (drop_more ps i p l ∙ ap (λ q. q ∷ drop (i + 1) ps) e)
    ∙ ap (λ k. cond (eqb p.sort.0 s.0) (map (PlaceTerm i) (tuples n (argument_sorts p))) [] ++ place_terms n s k (drop (i + 1) ps)) (sym (add-one i))
