-- The numbers of terms and the size, from the equation that they meet.
use Rattle.std.proofs.Common.{◌≡◌, ℕ, zero, suc, ◌+◌, ◌-◌, ◌*◌, ◌<◌, ◌≤◌, Bool, true, false, cond, List, [], ◌∷◌, ◌++◌, length, Some, refl, sym, ap, ◌∙◌, subst, arith, eqb, length-append}
use Rattle.std.specs.Prelude.{slice_get}
use Rattle.std.proofs.lemmas.Bool.{cases_lt, eqb-true}
use Rattle.std.proofs.Math.Nat.{mul-le-mul}
use Rattle.lv_formula.specs.declared.symbols.SortId.{SortId}
use Rattle.lv_formula.specs.declared.vocabulary.RelShape.{RelShape}
use Rattle.lv_places.specs.declared.skolem.Place.{Place}
use Rattle.lv_places.specs.declared.skolem.Skolem.{Skolem}
use Rattle.lv_places.specs.declared.terms.GroundTerm.{GroundTerm}
use Rattle.lv_places.specs.Forms.{forms_of}
use Rattle.lv_places.specs.GroundForms.{naming_of, ground_all, trees_nodes}
use Rattle.lv_places.specs.Universes.{argument_sorts, constant_terms, counts, IsUniverse, product, place_count}
use Rattle.lv_places.specs.Equality.{each_of, sort_clauses, reflexive_clauses, symmetric_clauses, transitive_clauses, replacements, relation_change, place_change, relation_clauses, place_clauses, equality_clauses}
use Rattle.lv_places.specs.Sizes.{sort_count, at_least_one, IsCount, sum_to, relations_count, places_count, size_of}
use Rattle.lv_places.specs.SortGraphs.{RanksBelow, IsRank, SortsBelow}
use Rattle.lv_places.proofs.Tests.{either}
use Rattle.lv_places.proofs.Universes.{same_sorts, length-terms_with}
use Rattle.lv_places.proofs.Sizes.{nodes_of_all, length-each_of, length-symmetric, length-transitive, length-replacements}

-- a universe's sorts have these numbers of terms
pub universe_counts : (sk : Skolem) (u : List (List GroundTerm)) → IsUniverse sk u → IsCount sk (counts u)
universe_counts sk u is s l = ap length (is.terms s l) ∙ length-terms_with sk (counts u) s

length-sorts : (n : SortId → ℕ) (k j : ℕ) → length (each_of k j (λ i. sort_clauses (record { 0 = i }) (n (record { 0 = i }))))
    ≡ sum_to k j (λ i. sort_count (n (record { 0 = i })))
length-sorts n k zero = refl
length-sorts n k (suc j) =
    let r = length-sorts n (suc k) j in
    let s : SortId = record { 0 = k } in
    let m = n s in
    let a : length (reflexive_clauses s m) ≡ m * 1 = length-each_of 1 0 m _ (λ i lo hi. refl) in
    let b = length-symmetric s m in
    let c = length-transitive s m in
    let e1 = length-append (symmetric_clauses s m) (transitive_clauses s m) in
    let e2 = length-append (reflexive_clauses s m) (symmetric_clauses s m ++ transitive_clauses s m) in
    let e3 = length-append (sort_clauses s m) (each_of (suc k) j (λ i. sort_clauses (record { 0 = i }) (n (record { 0 = i })))) in
    omega arith

length-relations : (n : SortId → ℕ) (rs : List RelShape) → length (relation_clauses n rs) ≡ relations_count n rs
length-relations n [] = refl
length-relations n (r ∷ rs) =
    let a = length-replacements n r.sorts (relation_change r.sym) in
    let b = length-relations n rs in
    omega (arith, a, b, length-append (replacements n r.sorts (relation_change r.sym)) (relation_clauses n rs))

length-places : (sk : Skolem) (n : SortId → ℕ) (k : ℕ) (ps : List Place) → length (place_clauses sk n k ps) ≡ places_count n ps
length-places sk n k [] = refl
length-places sk n k (p ∷ ps) =
    let a = length-replacements n (argument_sorts p) (place_change sk n p.sort k) in
    let b = length-places sk n (suc k) ps in
    omega (arith, a, b, length-append (replacements n (argument_sorts p) (place_change sk n p.sort k)) (place_clauses sk n (suc k) ps))

-- the size is the number of nodes of the ground forms and of equality clauses
pub size_is : (sk : Skolem) (n : SortId → ℕ) → trees_nodes (ground_all (naming_of sk n) 0 [] [] (forms_of sk.forms)) + length (equality_clauses sk n)
    ≡ size_of sk n
size_is sk n =
    let a = nodes_of_all (naming_of sk n) (forms_of sk.forms) 0 [] [] in
    let b = length-sorts n 0 sk.sorts in
    let c = length-relations n sk.relations in
    let d = length-places sk n 0 sk.places in
    let e1 = length-append (relation_clauses n sk.relations) (place_clauses sk n 0 sk.places) in
    let e2 = length-append (each_of 0 sk.sorts (λ i. sort_clauses (record { 0 = i }) (n (record { 0 = i })))) (relation_clauses n sk.relations
    ++ place_clauses sk n 0 sk.places) in
    omega arith

-- the equation has one solution
module _ (sk : Skolem) (rank : SortId → ℕ) (ranks : IsRank sk.places rank) (sorts : (k : ℕ) (p : Place) → slice_get sk.places k ≡ Some p
    → SortsBelow sk.sorts (argument_sorts p)) (n m : SortId → ℕ) (hn : IsCount sk n) (hm : IsCount sk m) where
  products_same : (b : ℕ) (ss : List SortId) → ((s : SortId) → s.0 < sk.sorts → rank s < b → n s ≡ m s) → RanksBelow rank b ss → SortsBelow sk.sorts ss
      → product n ss ≡ product m ss
  products_same b [] ih below range = refl
  products_same b (s ∷ ss) ih below range =
      let p = ih s range.0 below.0 in
      let q = products_same b ss ih below.1 range.1 in
      cc

  places_same : (b : ℕ) (s : SortId) (k : ℕ) (ps : List Place) → ((i : ℕ) (p : Place) → slice_get ps i ≡ Some p → slice_get sk.places (k + i) ≡ Some p)
      → rank s ≡ b → ((s : SortId) → s.0 < sk.sorts → rank s < b → n s ≡ m s) → place_count n s ps ≡ place_count m s ps
  places_same b s k [] there e ih = refl
  places_same b s k (p ∷ ps) there e ih =
      let r = places_same b s (suc k) ps (λ i q h. let z : k + suc i ≡ suc k + i =
      omega arith in subst (λ j. slice_get sk.places j ≡ Some q) z (there (suc i) q h)) e ih in
      let q = here (eqb p.sort.0 s.0) refl in
      cc
    where
      here : (t : Bool) → eqb p.sort.0 s.0 ≡ t → cond t (product n (argument_sorts p)) 0 ≡ cond t (product m (argument_sorts p)) 0
      here true q =
          let z : k + 0 ≡ k = omega arith in
          let g = subst (λ j. slice_get sk.places j ≡ Some p) z (there 0 p refl) in
          let r : rank p.sort ≡ b = ap rank (same_sorts p.sort s (eqb-true p.sort.0 s.0 q)) ∙ e in
          products_same b (argument_sorts p) ih (subst (λ c. RanksBelow rank c (argument_sorts p)) r (ranks k p g)) (sorts k p g)
      here false q = refl

  counts_below : (b : ℕ) (s : SortId) → s.0 < sk.sorts → rank s < b → n s ≡ m s
  counts_below zero s l r = absurd (omega arith)
  counts_below (suc b) s l r =
      let e = places_same (rank s) s 0 sk.places (λ i p h. let z : i ≡ 0 + i = omega arith in subst (λ j. slice_get sk.places j ≡ Some p) z h) refl
      (λ t lt rt. counts_below b t lt (omega arith)) in
      hn s l ∙ ap (λ k. at_least_one (length (constant_terms s sk.constants) + k)) e ∙ sym (hm s l)

  pub counts_same : (s : SortId) → s.0 < sk.sorts → n s ≡ m s
  counts_same s l = counts_below (suc (rank s)) s l (omega arith)

-- a size within the limit leaves at most 159 terms
pub few_terms : (n : ℕ) → sort_count n ≤ 4000000 → n < 160
few_terms n h =
    either (cases_lt n 160) (λ l. l)
    (λ l. let x : 159 ≤ n - 1 = omega arith in
    let y : 158 ≤ n - 2 = omega arith in
    let a : 159 * 158 ≤ (n - 1) * (n - 2) = mul-le-mul x y in
    let b : 160 * (159 * 158) ≤ n * ((n - 1) * (n - 2)) = mul-le-mul l a in
    absurd (omega arith))
