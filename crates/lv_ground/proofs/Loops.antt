-- Lists that loops make from front to back.
use Rattle.std.proofs.Common.{◌≡◌, ℕ, zero, suc, ◌+◌, ◌-◌, ◌<◌, cond, List, [], ◌∷◌, ◌++◌, length, get_or, take, drop, refl, sym, ap, ◌∙◌, arith, append_assoc, add-one, eqb, Bool, true, false}
use Rattle.std.proofs.lemmas.Bool.{cond-true, cond-false}
use Rattle.std.proofs.lemmas.List.{append-nil, take_more, drop_more}
use Rattle.lv_formula.specs.declared.symbols.SortId.{SortId}
use Rattle.lv_formula.specs.declared.symbols.Sym.{Sym}
use Rattle.lv_formula.specs.Symbols.{sym_eq}
use Rattle.lv_formula.specs.declared.vocabulary.RelShape.{RelShape}
use Rattle.lv_formula.specs.declared.vocabulary.ConShape.{ConShape}
use Rattle.lv_places.specs.declared.skolem.Place.{Place}
use Rattle.lv_places.specs.declared.skolem.Skolem.{Skolem}
use Rattle.lv_places.specs.declared.terms.GroundTerm.{GroundTerm}
use Rattle.lv_places.specs.declared.terms.GroundTerm.TheVariants.{Constant}
use Rattle.lv_places.specs.GroundForms.{Tree, TCons, each}
use Rattle.lv_places.specs.Sizes.{sum_to}
use Rattle.lv_places.specs.Universes.{argument_sorts, constant_terms, place_count, product}
use Rattle.lv_places.specs.Equality.{each_of, each_in, replacements, relation_change, place_change, relation_clauses, place_clauses}
use Rattle.lv_ground.specs.Positions.{relation_rows, relation_start}

each_of_from : {A : Type 0} (k m : ℕ) (f : ℕ → List A) → each_of k (suc m) f ≡ each_of k m f ++ f (k + m)
each_of_from k zero f = let z : k ≡ k + 0 = omega arith in append-nil (f k) ∙ ap f z
each_of_from k (suc m) f =
    let z : suc k + m ≡ k + suc m = omega arith in
    ap (λ l. f k ++ l) (each_of_from (suc k) m f) ∙ sym (append_assoc (f k) (each_of (suc k) m f) (f (suc k + m)))
    ∙ ap (λ i. (f k ++ each_of (suc k) m f) ++ f i) z

pub each_of_last : {A : Type 0} (m : ℕ) (f : ℕ → List A) → each_of 0 (m + 1) f ≡ each_of 0 m f ++ f m
each_of_last m f =
    let z : 0 + m ≡ m = omega arith in
    ap (λ i. each_of 0 i f) (add-one m) ∙ each_of_from 0 m f ∙ ap (λ i. each_of 0 m f ++ f i) z

each_in_both : {A B : Type 0} (xs ys : List B) (f : B → List A) → each_in (xs ++ ys) f ≡ each_in xs f ++ each_in ys f
each_in_both [] ys f = refl
each_in_both (x ∷ xs) ys f = ap (λ l. f x ++ l) (each_in_both xs ys f) ∙ sym (append_assoc (f x) (each_in xs f) (each_in ys f))

pub each_in_last : {A B : Type 0} (xs : List B) (i : ℕ) (d : B) (f : B → List A) → i < length xs → each_in (take (i + 1) xs) f ≡ each_in (take i xs) f ++ f
    (get_or xs i d)
each_in_last xs i d f l =
    ap (λ t. each_in t f) (take_more xs i d l) ∙ each_in_both (take i xs) (get_or xs i d ∷ []) f
    ∙ ap (λ t. each_in (take i xs) f ++ t) (append-nil (f (get_or xs i d)))

relations_both : (n : SortId → ℕ) (xs : List RelShape) (r : RelShape) → relation_clauses n (xs ++ r ∷ []) ≡ relation_clauses n xs ++ replacements n r.sorts
    (relation_change r.sym)
relations_both n [] r = append-nil _
relations_both n (x ∷ xs) r = ap (λ l. replacements n x.sorts (relation_change x.sym) ++ l) (relations_both n xs r)
    ∙ sym (append_assoc (replacements n x.sorts (relation_change x.sym)) (relation_clauses n xs) _)

pub relation_clauses_last : (n : SortId → ℕ) (rs : List RelShape) (i : ℕ) (r : RelShape) → i < length rs → get_or rs i r ≡ r
    → relation_clauses n (take (i + 1) rs) ≡ relation_clauses n (take i rs) ++ replacements n r.sorts (relation_change r.sym)
relation_clauses_last n rs i r l e =
    ap (relation_clauses n) (take_more rs i r l ∙ ap (λ x. take i rs ++ x ∷ []) e) ∙ relations_both n (take i rs) r

places_both : (sk : Skolem) (n : SortId → ℕ) (k : ℕ) (xs : List Place) (p : Place) → place_clauses sk n k (xs ++ p ∷ []) ≡ place_clauses sk n k
    xs ++ replacements n (argument_sorts p) (place_change sk n p.sort (k + length xs))
places_both sk n k [] p = let z : k ≡ k + 0 = omega arith in append-nil _ ∙ ap (λ j. replacements n (argument_sorts p) (place_change sk n p.sort j)) z
places_both sk n k (x ∷ xs) p =
    let z : suc k + length xs ≡ k + length (x ∷ xs) = omega arith in
    let first = replacements n (argument_sorts x) (place_change sk n x.sort k) in
    ap (λ l. first ++ l) (places_both sk n (suc k) xs p) ∙ sym (append_assoc first (place_clauses sk n (suc k) xs) _)
    ∙ ap (λ j. (first ++ place_clauses sk n (suc k) xs) ++ replacements n (argument_sorts p) (place_change sk n p.sort j)) z

length-taken : {A : Type 0} (xs : List A) (i : ℕ) → i < length xs → length (take i xs) ≡ i
length-taken [] i l = absurd (omega arith)
length-taken (x ∷ xs) zero l = refl
length-taken (x ∷ xs) (suc i) l = ap suc (length-taken xs i (omega arith))

pub place_clauses_last : (sk : Skolem) (n : SortId → ℕ) (ps : List Place) (i : ℕ) (p : Place) → i < length ps → get_or ps i p ≡ p → place_clauses sk n 0
    (take (i + 1) ps) ≡ place_clauses sk n 0 (take i ps) ++ replacements n (argument_sorts p) (place_change sk n p.sort i)
place_clauses_last sk n ps i p l e =
    let z : 0 + length (take i ps) ≡ i = (let q = length-taken ps i l in omega arith) in
    ap (place_clauses sk n 0) (take_more ps i p l ∙ ap (λ x. take i ps ++ x ∷ []) e) ∙ places_both sk n 0 (take i ps) p
    ∙ ap (λ j. place_clauses sk n 0 (take i ps) ++ replacements n (argument_sorts p) (place_change sk n p.sort j)) z

-- the ground forms of the instances from i on
pub each_next : (i m : ℕ) (h : ℕ → Tree) → i < m → each i (m - i) h ≡ TCons (h i) (each (i + 1) (m - (i + 1)) h)
each_next i m h l =
    let z : m - i ≡ suc (m - (i + 1)) = omega arith in
    ap (λ j. each i j h) z ∙ ap (λ j. TCons (h i) (each j (m - (i + 1)) h)) (sym (add-one i))

-- ---- counts of the first of a list

kept_count : (b : Bool) (t : GroundTerm) (ts : List GroundTerm) → length (cond b (t ∷ ts) ts) ≡ cond b 1 0 + length ts
kept_count true t ts = omega arith
kept_count false t ts = omega arith

constants_both : (s : SortId) (xs : List ConShape) (c : ConShape) → length (constant_terms s (xs ++ c ∷ [])) ≡ length (constant_terms s xs) + cond
    (eqb c.sort.0 s.0) 1 0
constants_both s [] c = let q = kept_count (eqb c.sort.0 s.0) (Constant c.sym) [] in omega arith
constants_both s (x ∷ xs) c =
    let p = kept_count (eqb x.sort.0 s.0) (Constant x.sym) (constant_terms s (xs ++ c ∷ [])) in
    let q = kept_count (eqb x.sort.0 s.0) (Constant x.sym) (constant_terms s xs) in
    let r = constants_both s xs c in
    omega arith

pub constants_last : (s : SortId) (cs : List ConShape) (i : ℕ) (d : ConShape) → i < length cs → length (constant_terms s (take (i + 1) cs)) ≡ length
    (constant_terms s (take i cs)) + cond (eqb (get_or cs i d).sort.0 s.0) 1 0
constants_last s cs i d l = ap (λ t. length (constant_terms s t)) (take_more cs i d l) ∙ constants_both s (take i cs) (get_or cs i d)

count_both : (n : SortId → ℕ) (s : SortId) (xs : List Place) (p : Place) → place_count n s (xs ++ p ∷ []) ≡ place_count n s xs + cond (eqb p.sort.0 s.0)
    (product n (argument_sorts p)) 0
count_both n s [] p = omega arith
count_both n s (x ∷ xs) p = let q = count_both n s xs p in omega arith

pub place_count_last : (n : SortId → ℕ) (s : SortId) (ps : List Place) (i : ℕ) (d : Place) → i < length ps
    → place_count n s (take (i + 1) ps) ≡ place_count n s (take i ps) + cond (eqb (get_or ps i d).sort.0 s.0) (product n (argument_sorts (get_or ps i d))) 0
place_count_last n s ps i d l = ap (place_count n s) (take_more ps i d l) ∙ count_both n s (take i ps) (get_or ps i d)

rows_both : (n : SortId → ℕ) (xs : List RelShape) (r : RelShape) → relation_rows n (xs ++ r ∷ []) ≡ relation_rows n xs + product n r.sorts
rows_both n [] r = omega arith
rows_both n (x ∷ xs) r = let q = rows_both n xs r in omega arith

pub relation_rows_last : (n : SortId → ℕ) (rs : List RelShape) (i : ℕ) (d : RelShape) → i < length rs → relation_rows n (take (i + 1) rs) ≡ relation_rows n
    (take i rs) + product n (get_or rs i d).sorts
relation_rows_last n rs i d l = ap (relation_rows n) (take_more rs i d l) ∙ rows_both n (take i rs) (get_or rs i d)

sum_from : (k m : ℕ) (g : ℕ → ℕ) → sum_to k (suc m) g ≡ sum_to k m g + g (k + m)
sum_from k zero g = let z = ap g (let e : k + 0 ≡ k = omega arith in e) in omega arith
sum_from k (suc m) g =
    let z = ap g (let e : suc k + m ≡ k + suc m = omega arith in e) in
    let q = sum_from (suc k) m g in
    omega arith

pub sum_last : (m : ℕ) (g : ℕ → ℕ) → sum_to 0 (m + 1) g ≡ sum_to 0 m g + g m
sum_last m g =
    let z = ap g (let e : 0 + m ≡ m = omega arith in e) in
    let q = sum_from 0 m g in
    let w = ap (λ i. sum_to 0 i g) (add-one m) in
    omega arith

-- where the atoms of a relation begin, past a relation of another name and at it
pub start_next : (n : SortId → ℕ) (rs : List RelShape) (r : Sym) (i : ℕ) (x : RelShape) → i < length rs → get_or rs i x ≡ x → sym_eq x.sym r ≡ false
    → relation_rows n (take (i + 1) rs) + relation_start n (drop (i + 1) rs) r ≡ relation_rows n (take i rs) + relation_start n (drop i rs) r
start_next n rs r i x l e differs =
    let p = relation_rows_last n rs i x l ∙ ap (λ (y : RelShape). relation_rows n (take i rs) + product n y.sorts) e in
    let q = ap (λ l. relation_start n l r) (drop_more rs i x l ∙ ap (λ y. y ∷ drop (i + 1) rs) e) ∙ cond-false (sym_eq x.sym r) 0 _ differs in
    omega arith

pub start_found : (n : SortId → ℕ) (rs : List RelShape) (r : Sym) (i : ℕ) (x : RelShape) → i < length rs → get_or rs i x ≡ x → sym_eq x.sym r ≡ true
    → relation_rows n (take i rs) ≡ relation_rows n (take i rs) + relation_start n (drop i rs) r
start_found n rs r i x l e same =
    let q = ap (λ l. relation_start n l r) (drop_more rs i x l ∙ ap (λ y. y ∷ drop (i + 1) rs) e) ∙ cond-true (sym_eq x.sym r) 0 _ same in
    omega arith
