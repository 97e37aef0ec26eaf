-- The ground form has no more atoms and nodes than its size allows.
use Rattle.std.proofs.Common.{◌≡◌, ℕ, zero, suc, ◌+◌, ◌*◌, ◌≤◌, Bool, true, false, cond, List, [], ◌∷◌, ◌++◌, length, refl, ap, arith, eqb, length-append}
use Rattle.std.specs.Prelude.{◌||◌, get_or, slice_set}
use Rattle.std.specs.List.{list_any}
use Rattle.lv_formula.specs.declared.symbols.SortId.{SortId}
use Rattle.lv_formula.specs.declared.vocabulary.RelShape.{RelShape}
use Rattle.lv_cnf.specs.Nodes.{inner, inners}
use Rattle.lv_places.specs.declared.skolem.Place.{Place}
use Rattle.lv_places.specs.declared.skolem.Skolem.{Skolem}
use Rattle.lv_places.specs.declared.terms.TermId.{TermId}
use Rattle.lv_places.specs.declared.grounded.GroundAtom.{GroundAtom}
use Rattle.lv_places.specs.Universes.{argument_sorts, counts, term, tuples}
use Rattle.lv_places.specs.GroundForms.{Tree, Trees, TTrue, TFalse, TLit, TAnd, TOr, TNil, TCons, tree_nodes, trees_nodes}
use Rattle.lv_places.specs.Equality.{GroundClause, each_of, each_in, reflexive_clauses, symmetric_clauses, transitive_clauses, sort_clauses}
use Rattle.lv_places.specs.Equality.{replacements_at, replacements, relation_change, place_change, relation_clauses, place_clauses, equality_clauses}
use Rattle.lv_places.specs.Grounds.{same_atom, find_atom, tree_atoms, trees_atoms, clause_atoms, clauses_atoms, with_atom, with_atoms}
use Rattle.lv_places.specs.Grounds.{numbered, all_numbered, trees_of, atoms_of}
use Rattle.lv_places.proofs.Universes.{Every_in, every_append}
use Rattle.lv_skolem.proofs.Counts.{size_is}
use Rattle.lv_instances.specs.Laws.{GroundFormsAreSmall}

-- ---- atoms

one_more : (b : Bool) (xs : List GroundAtom) (a : GroundAtom) → length (cond b xs (xs ++ a ∷ [])) ≤ suc (length xs)
one_more true xs a = omega arith
one_more false xs a = omega (arith, length-append xs (a ∷ []))

few_atoms : (more xs : List GroundAtom) → length (with_atoms xs more) ≤ length xs + length more
few_atoms [] xs = omega arith
few_atoms (a ∷ more) xs =
    let p = one_more (list_any (same_atom a) xs) xs a in
    let q = few_atoms more (with_atom xs a) in
    omega arith

-- each node of a tree is a literal or not
module _ (f : GroundAtom → ℕ) where
  mutual
    nodes_of : (t : Tree) → length (tree_atoms t) + inner (numbered f t) ≡ tree_nodes t
    nodes_of TTrue = omega arith
    nodes_of TFalse = omega arith
    nodes_of (TLit b a) = omega arith
    nodes_of (TAnd ts) = let q = nodes_of_all ts in omega arith
    nodes_of (TOr ts) = let q = nodes_of_all ts in omega arith

    nodes_of_all : (ts : Trees) → length (trees_atoms ts) + inners (all_numbered f ts) ≡ trees_nodes ts
    nodes_of_all TNil = omega arith
    nodes_of_all (TCons t ts) =
        let p = nodes_of t in
        let q = nodes_of_all ts in
        omega (arith, length-append (tree_atoms t) (trees_atoms ts))

-- ---- clauses have three literals at most

abbrev IsShort : GroundClause → Type 0
IsShort c = length c ≤ 3

short_each : (k n : ℕ) (f : ℕ → List GroundClause) → ((i : ℕ) → Every_in IsShort (f i)) → Every_in IsShort (each_of k n f)
short_each k zero f h = tt
short_each k (suc n) f h = every_append IsShort (f k) (each_of (suc k) n f) (h k) (short_each (suc k) n f h)

short_in : {B : Type 0} (xs : List B) (f : B → List GroundClause) → ((x : B) → Every_in IsShort (f x)) → Every_in IsShort (each_in xs f)
short_in [] f h = tt
short_in (x ∷ xs) f h = every_append IsShort (f x) (each_in xs f) (h x) (short_in xs f h)

short_unless : (b : Bool) (c : GroundClause) → IsShort c → Every_in IsShort (cond b [] (c ∷ []))
short_unless true c h = tt
short_unless false c h = (h, tt)

short_sort : (s : SortId) (n : ℕ) → Every_in IsShort (sort_clauses s n)
short_sort s n =
    every_append IsShort (reflexive_clauses s n) _ (short_each 0 n _ (λ a. (omega arith, tt)))
    (every_append IsShort (symmetric_clauses s n) (transitive_clauses s n)
    (short_each 0 n _ (λ a. short_each 0 n _ (λ b. short_unless (eqb a b) _ (omega arith))))
    (short_each 0 n _ (λ a. short_each 0 n _ (λ b. short_each 0 n _ (λ c. short_unless (eqb a b || (eqb b c || eqb a c)) _ (omega arith))))))

abbrev AreShort : (List TermId → TermId → TermId → List TermId → GroundClause) → Type 0
AreShort f = (ts : List TermId) (a b : TermId) (us : List TermId) → IsShort (f ts a b us)

module _ (n : SortId → ℕ) (ss : List SortId) (f : List TermId → TermId → TermId → List TermId → GroundClause) (h : AreShort f) where
  abbrev here : ℕ → List TermId → TermId
  here j ts = get_or ts j (term (record { 0 = 0 }) 0)

  abbrev other : ℕ → ℕ → TermId
  other j i = term (get_or ss j (record { 0 = 0 })) i

  abbrev change : ℕ → List TermId → ℕ → GroundClause
  change j ts i = f ts (here j ts) (other j i) (slice_set ts j (other j i))

  abbrev changes : ℕ → List TermId → List GroundClause
  changes j ts = each_of 0 (n (get_or ss j (record { 0 = 0 }))) (λ i. cond (eqb (here j ts).place i) [] (change j ts i ∷ []))

  short_changes : (j : ℕ) (ts : List TermId) → Every_in IsShort (changes j ts)
  short_changes j ts =
      short_each 0 (n (get_or ss j (record { 0 = 0 }))) (λ i. cond (eqb (here j ts).place i) [] (change j ts i ∷ []))
      (λ i. short_unless (eqb (here j ts).place i) (change j ts i) (h ts (here j ts) (other j i) (slice_set ts j (other j i))))

  short_replacements : Every_in IsShort (replacements n ss f)
  short_replacements = short_each 0 (length ss) (replacements_at n ss f) (λ j. short_in (tuples n ss) (changes j) (short_changes j))

short_relations : (n : SortId → ℕ) (rs : List RelShape) → Every_in IsShort (relation_clauses n rs)
short_relations n [] = tt
short_relations n (r ∷ rs) =
    every_append IsShort (replacements n r.sorts (relation_change r.sym)) (relation_clauses n rs)
    (short_replacements n r.sorts (relation_change r.sym) (λ ts a b us. omega arith)) (short_relations n rs)

short_places : (sk : Skolem) (n : SortId → ℕ) (k : ℕ) (ps : List Place) → Every_in IsShort (place_clauses sk n k ps)
short_places sk n k [] = tt
short_places sk n k (p ∷ ps) =
    every_append IsShort (replacements n (argument_sorts p) (place_change sk n p.sort k)) (place_clauses sk n (suc k) ps)
    (short_replacements n (argument_sorts p) (place_change sk n p.sort k) (λ ts a b us. omega arith)) (short_places sk n (suc k) ps)

short_equalities : (sk : Skolem) (n : SortId → ℕ) → Every_in IsShort (equality_clauses sk n)
short_equalities sk n =
    every_append IsShort (each_of 0 sk.sorts (λ i. sort_clauses (record { 0 = i }) (n (record { 0 = i })))) _
    (short_each 0 sk.sorts _ (λ i. short_sort (record { 0 = i }) (n (record { 0 = i }))))
    (every_append IsShort (relation_clauses n sk.relations) (place_clauses sk n 0 sk.places) (short_relations n sk.relations) (short_places sk n 0 sk.places))

length-clause_atoms : (c : GroundClause) → length (clause_atoms c) ≡ length c
length-clause_atoms [] = refl
length-clause_atoms (l ∷ c) = ap suc (length-clause_atoms c)

few_in_clauses : (cs : List GroundClause) → Every_in IsShort cs → length (clauses_atoms cs) ≤ 3 * length cs
few_in_clauses [] h = omega arith
few_in_clauses (c ∷ cs) h =
    let p = h.0 in
    let q = few_in_clauses cs h.1 in
    let r = length-clause_atoms c in
    omega (arith, length-append (clause_atoms c) (clauses_atoms cs))

pub ground_forms_are_small : GroundFormsAreSmall
ground_forms_are_small sk u g grounded =
    let f = find_atom (atoms_of sk u) in
    let trees = trees_of sk u in
    let clauses = equality_clauses sk (counts u) in
    let atoms = few_atoms (trees_atoms trees ++ clauses_atoms clauses) [] in
    let nodes = nodes_of_all f trees in
    let literals = few_in_clauses clauses (short_equalities sk (counts u)) in
    let size = size_is sk (counts u) in
    let z = ap length grounded.atoms in
    let w = ap inners grounded.roots in
    omega (arith, length-append (trees_atoms trees) (clauses_atoms clauses))
