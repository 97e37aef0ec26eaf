-- The number of an atom is its place among all that may occur.
use Rattle.std.proofs.Common.{◌≡◌, ℕ, zero, suc, ◌+◌, ◌<◌, List, [], ◌∷◌, length, map, Some, refl, sym, ap, ◌∙◌, subst, arith, length-append}
use Rattle.std.specs.Prelude.{slice_get}
use Rattle.std.proofs.lemmas.Bool.{cond-true, cond-false}
use Rattle.std.proofs.lemmas.List.{length-map}
use Rattle.lv_formula.specs.declared.symbols.SortId.{SortId}
use Rattle.lv_formula.specs.declared.symbols.Sym.{Sym}
use Rattle.lv_formula.specs.declared.vocabulary.RelShape.{RelShape}
use Rattle.lv_formula.specs.Symbols.{sym_eq}
use Rattle.lv_formula.specs.Vocabulary.{relation_in}
use Rattle.lv_formula.proofs.SymbolLaws.{sym_eq-true}
use Rattle.lv_places.specs.declared.skolem.Skolem.{Skolem}
use Rattle.lv_places.specs.declared.terms.TermId.{TermId}
use Rattle.lv_places.specs.declared.grounded.GroundAtom.{GroundAtom}
use Rattle.lv_places.specs.declared.grounded.GroundAtom.TheVariants.{Relation, Equal}
use Rattle.lv_places.specs.Universes.{tuples, product, tuple_number}
use Rattle.lv_places.specs.Sizes.{sum_to}
use Rattle.lv_places.specs.Equality.{each_of}
use Rattle.lv_places.proofs.Tests.{by_cases}
use Rattle.lv_places.proofs.Universes.{AreTerms, tuple_at, length-tuples, get_left, get_map, get_below}
use Rattle.lv_ground.proofs.Listed.{get_right}
use Rattle.lv_ground.specs.Positions.{sort, relation_rows, relation_start, pairs, rows_to, position, relation_atoms, pair_of, pair_atoms, possible_atoms, IsPossible}

length-relation_atoms : (n : SortId → ℕ) (rs : List RelShape) → length (relation_atoms n rs) ≡ relation_rows n rs
length-relation_atoms n [] = refl
length-relation_atoms n (r ∷ rs) =
    let p = length-map (tuples n r.sorts) (Relation r.sym) in
    let q = length-tuples n r.sorts in
    let h = length-relation_atoms n rs in
    omega (arith, length-append (map (Relation r.sym) (tuples n r.sorts)) (relation_atoms n rs))

length-pair_atoms : (n : SortId → ℕ) (s : SortId) → length (pair_atoms n s) ≡ pairs n s
length-pair_atoms n s = length-map (tuples n (s ∷ s ∷ [])) pair_of ∙ length-tuples n (s ∷ s ∷ [])

length-each : {A : Type 0} (k m : ℕ) (f : ℕ → List A) (g : ℕ → ℕ) → ((i : ℕ) → length (f i) ≡ g i) → length (each_of k m f) ≡ sum_to k m g
length-each k zero f g h = refl
length-each k (suc m) f g h =
    let p = h k in
    let q = length-each (suc k) m f g h in
    omega (arith, length-append (f k) (each_of (suc k) m f))

pub length-possible : (sk : Skolem) (n : SortId → ℕ) → length (possible_atoms sk n) ≡ rows_to sk n sk.sorts
length-possible sk n =
    let p = length-relation_atoms n sk.relations in
    let q = length-each 0 sk.sorts (λ i. pair_atoms n (sort i)) (λ i. pairs n (sort i)) (λ i. length-pair_atoms n (sort i)) in
    omega (arith, length-append (relation_atoms n sk.relations) (each_of 0 sk.sorts (λ i. pair_atoms n (sort i))))

relation_at : (n : SortId → ℕ) (rs : List RelShape) (r : Sym) (ss : List SortId) (ts : List TermId) → relation_in rs r ≡ Some ss → AreTerms n ss ts
    → slice_get (relation_atoms n rs) (relation_start n rs r + tuple_number n ts) ≡ Some (Relation r ts)
relation_at n [] r ss ts h are = absurd (cc)
relation_at n (x ∷ rs) r ss ts h are = by_cases (sym_eq x.sym r)
    (λ e. let w : Some x.sorts ≡ Some ss = sym (cond-true (sym_eq x.sym r) (Some x.sorts) (relation_in rs r) e) ∙ h in
    let same : ss ≡ x.sorts = cc in
    let is : x.sym ≡ r = sym_eq-true x.sym r e in
    let are' = subst (λ l. AreTerms n l ts) same are in
    let a = get_left (map (Relation x.sym) (tuples n x.sorts)) (relation_atoms n rs) (tuple_number n ts) (Relation x.sym ts)
    (get_map (Relation x.sym) (tuples n x.sorts) (tuple_number n ts) ts (tuple_at n x.sorts ts are')) in
    let z : tuple_number n ts ≡ relation_start n (x ∷ rs) r + tuple_number n ts = (let q = cond-true (sym_eq x.sym r) 0
    (product n x.sorts + relation_start n rs r) e in omega arith) in
    subst (λ q. slice_get (relation_atoms n (x ∷ rs)) (relation_start n (x ∷ rs) r + tuple_number n ts) ≡ Some (Relation q ts)) is
    (subst (λ k. slice_get (relation_atoms n (x ∷ rs)) k ≡ Some (Relation x.sym ts)) z a))
    (λ e. let h' : relation_in rs r ≡ Some ss = sym (cond-false (sym_eq x.sym r) (Some x.sorts) (relation_in rs r) e) ∙ h in
    let p = length-map (tuples n x.sorts) (Relation x.sym) ∙ length-tuples n x.sorts in
    let a = get_right (map (Relation x.sym) (tuples n x.sorts)) (relation_atoms n rs) (product n x.sorts) _ (Relation r ts) (sym p)
    (relation_at n rs r ss ts h' are) in
    let z : product n x.sorts + (relation_start n rs r + tuple_number n ts) ≡ relation_start n
    (x ∷ rs) r + tuple_number n ts = (let q = cond-false (sym_eq x.sym r) 0 (product n x.sorts + relation_start n rs r) e in omega arith) in
    subst (λ k. slice_get (relation_atoms n (x ∷ rs)) k ≡ Some (Relation r ts)) z a)

each_at : {A : Type 0} (k m i j : ℕ) (f : ℕ → List A) (g : ℕ → ℕ) (x : A) → ((i : ℕ) → length (f i) ≡ g i) → i < m → slice_get (f (k + i)) j ≡ Some x
    → slice_get (each_of k m f) (sum_to k i g + j) ≡ Some x
each_at k zero i j f g x h l e = absurd (omega arith)
each_at k (suc m) zero j f g x h l e =
    let z : k + 0 ≡ k = omega arith in
    let z2 : j ≡ 0 + j = omega arith in
    subst (λ p. slice_get (each_of k (suc m) f) p ≡ Some x) z2 (get_left (f k) (each_of (suc k) m f) j x (subst (λ p. slice_get (f p) j ≡ Some x) z e))
each_at k (suc m) (suc i) j f g x h l e =
    let z : k + suc i ≡ suc k + i = omega arith in
    let r = each_at (suc k) m i j f g x h (omega arith) (subst (λ p. slice_get (f p) j ≡ Some x) z e) in
    let z2 : g k + (sum_to (suc k) i g + j) ≡ (g k + sum_to (suc k) i g) + j = omega arith in
    subst (λ p. slice_get (each_of k (suc m) f) p ≡ Some x) z2 (get_right (f k) (each_of (suc k) m f) (g k) _ x (sym (h k)) r)

pub stands_at : (sk : Skolem) (n : SortId → ℕ) (a : GroundAtom) → IsPossible sk n a → slice_get (possible_atoms sk n) (position sk n a) ≡ Some a
stands_at sk n (Relation r ts) h = get_left (relation_atoms n sk.relations) _ _ _ (relation_at n sk.relations r h.0 ts h.1 h.2)
stands_at sk n (Equal a b) h =
    let s = h.0 in
    let is : a.sort ≡ s = (h.2).sort_is in
    let t = tuple_at n (s ∷ s ∷ []) (a ∷ b ∷ []) (h.2, (h.3, tt)) in
    let p = get_map pair_of (tuples n (s ∷ s ∷ [])) _ (a ∷ b ∷ []) t in
    let z : s.0 ≡ 0 + s.0 = omega arith in
    let p' = subst (λ i. slice_get (pair_atoms n (sort i)) (tuple_number n (a ∷ b ∷ [])) ≡ Some (Equal a b)) z p in
    let q = each_at 0 sk.sorts s.0 _ (λ i. pair_atoms n (sort i)) (λ i. pairs n (sort i)) (Equal a b) (λ i. length-pair_atoms n (sort i)) h.1 p' in
    let e = get_right (relation_atoms n sk.relations) _ (relation_rows n sk.relations) _ (Equal a b) (sym (length-relation_atoms n sk.relations)) q in
    let rows = relation_rows n sk.relations in
    let number = tuple_number n (a ∷ b ∷ []) in
    let at : rows + (sum_to 0 s.0 (λ i. pairs n (sort i)) + number) ≡ rows_to sk n a.sort.0 + number =
    (let w = ap (λ (z : SortId). sum_to 0 z.0 (λ i. pairs n (sort i))) is in omega arith) in
    subst (λ k. slice_get (possible_atoms sk n) k ≡ Some (Equal a b)) at e

-- atoms with one number are one
pub same_position : (sk : Skolem) (n : SortId → ℕ) (a b : GroundAtom) → IsPossible sk n a → IsPossible sk n b → position sk n a ≡ position sk n b → a ≡ b
same_position sk n a b h k e =
    let p = stands_at sk n a h in
    let q = stands_at sk n b k in
    let w : Some a ≡ Some b = sym p ∙ ap (slice_get (possible_atoms sk n)) e ∙ q in
    cc

pub position_below : (sk : Skolem) (n : SortId → ℕ) (a : GroundAtom) → IsPossible sk n a → position sk n a < length (possible_atoms sk n)
position_below sk n a h = get_below (possible_atoms sk n) (position sk n a) a (stands_at sk n a h)
