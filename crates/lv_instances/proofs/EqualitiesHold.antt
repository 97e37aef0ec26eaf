-- A structure makes the equality clauses true.
use Rattle.std.proofs.Common.{◌≡◌, ℕ, zero, suc, ◌+◌, ◌<◌, ◌≤◌, Bool, true, false, not, cond, List, [], ◌∷◌, ◌++◌, length, get_or, map, Some, refl, sym, ap, ◌∙◌, subst, arith, eqb}
use Rattle.std.specs.Prelude.{◌||◌, slice_get, slice_set}
use Rattle.std.proofs.lemmas.Bool.{and_parts, and_from, or_left, or_right, eqb-true, eq-eqb}
use Rattle.lv_formula.specs.declared.symbols.SortId.{SortId}
use Rattle.lv_formula.specs.declared.vocabulary.RelShape.{RelShape}
use Rattle.lv_formula.specs.Meaning.{Meaning}
use Rattle.lv_places.specs.declared.skolem.Skolem.{Skolem}
use Rattle.lv_places.specs.declared.terms.TermId.{TermId}
use Rattle.lv_places.specs.declared.grounded.GroundAtom.{GroundAtom}
use Rattle.lv_places.specs.declared.grounded.GroundAtom.TheVariants.{Relation, Equal}
use Rattle.lv_places.specs.Places.{Site, place_of}
use Rattle.lv_places.specs.Universes.{argument_sorts, term, tuples, place_id}
use Rattle.lv_places.specs.GroundForms.{naming_of}
use Rattle.lv_places.specs.Equality.{GroundClause, is, is_not, ground_true, all_ground_true, each_of, each_in, reflexive_clauses, symmetric_clauses, sort_clauses, replacements, relation_change, place_change, relation_clauses, place_clauses, equality_clauses}
use Rattle.lv_places.proofs.Tests.{by_cases}
use Rattle.lv_skolem.proofs.Sorted.{vocabulary_of}
use Rattle.lv_places.proofs.Arguments.{argument_sorts_are}
use Rattle.lv_places.proofs.Universes.{IsTerm, AreTerms, Every_in, tuples_are}
use Rattle.lv_instances.proofs.Choices.{skolem}
use Rattle.lv_instances.proofs.Rise.{Reads, atom_value}

all_append : (v : GroundAtom → Bool) (xs ys : List GroundClause) → all_ground_true v xs ≡ true → all_ground_true v ys ≡ true
    → all_ground_true v (xs ++ ys) ≡ true
all_append v [] ys h k = k
all_append v (c ∷ xs) ys h k = let p = and_parts (ground_true v c) (all_ground_true v xs) h in and_from _ _ p.0 (all_append v xs ys p.1 k)

each_of_from : (v : GroundAtom → Bool) (k n : ℕ) (f : ℕ → List GroundClause) → ((i : ℕ) → k ≤ i → i < k + n → all_ground_true v (f i) ≡ true)
    → all_ground_true v (each_of k n f) ≡ true
each_of_from v k zero f h = refl
each_of_from v k (suc n) f h = all_append v (f k) _ (h k (omega arith) (omega arith))
    (each_of_from v (suc k) n f (λ i lo hi. h i (omega arith) (omega arith)))

each_in_from : {B : Type 0} (v : GroundAtom → Bool) (P : B → Type 0) (xs : List B) (f : B → List GroundClause) → Every_in P xs
    → ((x : B) → P x → all_ground_true v (f x) ≡ true) → all_ground_true v (each_in xs f) ≡ true
each_in_from v P [] f h g = refl
each_in_from v P (x ∷ xs) f h g = all_append v (f x) _ (g x h.0) (each_in_from v P xs f h.1 g)

-- one clause, unless the test holds
unless_from : (v : GroundAtom → Bool) (b : Bool) (c : GroundClause) → (b ≡ false → ground_true v c ≡ true) → all_ground_true v (cond b [] (c ∷ [])) ≡ true
unless_from v true c h = refl
unless_from v false c h = and_from _ _ (h refl) refl

two_from : (v : GroundAtom → Bool) (a b : GroundAtom) → (v a ≡ true → v b ≡ true) → ground_true v (is_not a ∷ is b ∷ []) ≡ true
two_from v a b h = by_cases (v a) (λ p. or_right _ _ (or_left _ _ (h p))) (λ p. or_left _ _ (ap not p))

three_from : (v : GroundAtom → Bool) (a b c : GroundAtom) → (v a ≡ true → v b ≡ true → v c ≡ true) → ground_true v (is_not a ∷ is_not b ∷ is c ∷ []) ≡ true
three_from v a b c h = by_cases (v a) (λ p. or_right _ _ (two_from v b c (h p))) (λ p. or_left _ _ (ap not p))

are_set : (n : SortId → ℕ) (ss : List SortId) (ts : List TermId) (j : ℕ) (s0 : SortId) (t : TermId) → AreTerms n ss ts → IsTerm n (get_or ss j s0) t
    → AreTerms n ss (slice_set ts j t)
are_set n [] [] j s0 t h is = h
are_set n [] (x ∷ ts) j s0 t h is = absurd h
are_set n (s ∷ ss) [] j s0 t h is = absurd h
are_set n (s ∷ ss) (x ∷ ts) zero s0 t h is = (is, h.1)
are_set n (s ∷ ss) (x ∷ ts) (suc j) s0 t h is = (h.0, are_set n ss ts j s0 t h.1 is)

map_same : (I : TermId → ℕ) (ts : List TermId) (j : ℕ) (d t : TermId) → I (get_or ts j d) ≡ I t → map I (slice_set ts j t) ≡ map I ts
map_same I [] j d t h = refl
map_same I (x ∷ ts) zero d t h = ap (λ k. k ∷ map I ts) (sym h)
map_same I (x ∷ ts) (suc j) d t h = ap (λ l. I x ∷ l) (map_same I ts j d t h)

module _ (n : SortId → ℕ) (m : Meaning) (I : TermId → ℕ) where
  replacements_from : (ss : List SortId) (f : List TermId → TermId → TermId → List TermId → GroundClause)
      → ((ts us : List TermId) (a b : TermId) → AreTerms n ss ts → AreTerms n ss us → (I a ≡ I b → map I us ≡ map I ts) → ground_true (atom_value m I)
      (f ts a b us) ≡ true) → all_ground_true (atom_value m I) (replacements n ss f) ≡ true
  replacements_from ss f h =
      let v = atom_value m I in
      let s0 : SortId = record { 0 = 0 } in
      let d : TermId = term s0 0 in
      each_of_from v 0 (length ss) _ (λ j lo hi.
      each_in_from v (AreTerms n ss) (tuples n ss) _ (tuples_are n ss) (λ ts are.
      each_of_from v 0 (n (get_or ss j s0)) _ (λ i li hi2.
      let s = get_or ss j s0 in
      let ib : IsTerm n s (term s i) = record { sort_is = refl; within = omega arith } in
      unless_from v (eqb (get_or ts j d).place i) _ (λ e. h ts (slice_set ts j (term s i)) (get_or ts j d) (term s i) are
      (are_set n ss ts j s0 (term s i) are ib) (λ q. map_same I ts j d (term s i) q)))))

  relations_from : (rs : List RelShape) → all_ground_true (atom_value m I) (relation_clauses n rs) ≡ true
  relations_from [] = refl
  relations_from (r ∷ rs) =
      all_append (atom_value m I) (replacements n r.sorts (relation_change r.sym)) _
      (replacements_from r.sorts (relation_change r.sym) (λ ts us a b ht hu q. three_from (atom_value m I) (Equal a b) (Relation r.sym ts)
      (Relation r.sym us) (λ e t. ap (m.holds r.sym) (q (eqb-true (I a) (I b) e)) ∙ t)))
      (relations_from rs)

  sorts_from : (s : SortId) (k : ℕ) → all_ground_true (atom_value m I) (sort_clauses s k) ≡ true
  sorts_from s k =
      let v = atom_value m I in
      all_append v (reflexive_clauses s k) _
      (each_of_from v 0 k _ (λ a lo hi. and_from _ _ (or_left _ _ (eq-eqb (I (term s a)) (I (term s a)) refl)) refl))
      (all_append v (symmetric_clauses s k) _
      (each_of_from v 0 k _
      (λ a la ha. each_of_from v 0 k _
      (λ b lb hb. unless_from v (eqb a b) _ (λ e. two_from v (Equal (term s a) (term s b)) (Equal (term s b) (term s a))
      (λ q. eq-eqb _ _ (sym (eqb-true _ _ q)))))))
      (each_of_from v 0 k _
      (λ a la ha. each_of_from v 0 k _
      (λ b lb hb. each_of_from v 0 k _
      (λ c lc hc. unless_from v (eqb a b || (eqb b c || eqb a c)) _ (λ e. three_from v (Equal (term s a) (term s b)) (Equal (term s b) (term s c))
      (Equal (term s a) (term s c)) (λ q r. eq-eqb _ _ (eqb-true _ _ q ∙ eqb-true _ _ r))))))))

module _ (sk : Skolem) (n : SortId → ℕ) (table : List Site) (m : Meaning) (I : TermId → ℕ) (reads : Reads m (vocabulary_of sk) (naming_of sk n) table I)
  where
    places_from : (ps : List Site) (k : ℕ) → ((i : ℕ) (p : Site) → slice_get ps i ≡ Some p → slice_get table (k + i) ≡ Some p)
        → all_ground_true (atom_value m I) (place_clauses sk n k (map place_of ps)) ≡ true
    places_from [] k there = refl
    places_from (p ∷ ps) k there =
        let z0 : k + 0 ≡ k = omega arith in
        let g = subst (λ j. slice_get table j ≡ Some p) z0 (there 0 p refl) in
        let back = λ (ts : List TermId) (h : AreTerms n (argument_sorts (place_of p)) ts). subst (λ ss. AreTerms n ss ts) (argument_sorts_are p) h in
        all_append (atom_value m I) (replacements n (argument_sorts (place_of p)) (place_change sk n p.sort k)) _
        (replacements_from n m I (argument_sorts (place_of p)) (place_change sk n p.sort k)
        (λ ts us a b ht hu q. two_from (atom_value m I) (Equal a b) (Equal (place_id sk n p.sort k ts) (place_id sk n p.sort k us)) (λ e.
        eq-eqb _ _ (reads.place k p ts g (back ts ht) ∙ ap (skolem m p) (sym (q (eqb-true (I a) (I b) e))) ∙ sym (reads.place k p us g (back us hu))))))
        (places_from ps (suc k) (λ i q h. let z : k + suc i ≡ suc k + i = omega arith in subst (λ j. slice_get table j ≡ Some q) z (there (suc i) q h)))

    pub equalities_from : sk.places ≡ map place_of table → all_ground_true (atom_value m I) (equality_clauses sk n) ≡ true
    equalities_from places =
        let v = atom_value m I in
        all_append v (each_of 0 sk.sorts (λ i. sort_clauses (record { 0 = i }) (n (record { 0 = i })))) _
        (each_of_from v 0 sk.sorts _ (λ i lo hi. sorts_from n m I (record { 0 = i }) (n (record { 0 = i }))))
        (all_append v (relation_clauses n sk.relations) _ (relations_from n m I sk.relations)
        (subst (λ ps. all_ground_true v (place_clauses sk n 0 ps) ≡ true) (sym places)
        (places_from table 0 (λ i p h. let z : i ≡ 0 + i = omega arith in subst (λ j. slice_get table j ≡ Some p) z h))))
