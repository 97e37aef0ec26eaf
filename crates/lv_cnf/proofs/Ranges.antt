-- The variables of the clauses of propositions.
use Rattle.std.proofs.Common.{ℕ, suc, ◌+◌, ◌<◌, ◌≤◌, List, [], ◌∷◌, map, arith}
use Rattle.std.specs.List.{All}
use Rattle.std.proofs.lemmas.List.Elements.{All-nil, All-cons, All-append, All-map, All-weaker}
use Rattle.lv_cnf.specs.declared.literal.Lit.{Lit}
use Rattle.lv_cnf.specs.Literals.{negative_literal, InRange}
use Rattle.lv_cnf.specs.Nodes.{PlainProp, PTrue, PFalse, PLit, PAnd, POr, PlainProps, PNil, PCons, inner, inners, name, names, pair_with, node_clauses, nodes_clauses, root_clauses, clauses_of, AtomBelow, AtomsBelow}

module _ (atoms vars : ℕ) where
  abbrev IsBelow : Lit → Type 0
  IsBelow l = l.var < vars

  name_below : (p : PlainProp) (k : ℕ) → AtomBelow atoms p → atoms ≤ k → k + inner p ≤ vars → (name k p).var < vars
  name_below PTrue k b le h = omega arith
  name_below PFalse k b le h = omega arith
  name_below (PLit l) k b le h = omega (arith, b)
  name_below (PAnd ps) k b le h = omega arith
  name_below (POr ps) k b le h = omega arith

  names_below : (ps : PlainProps) (k : ℕ) → AtomsBelow atoms ps → atoms ≤ k → k + inners ps ≤ vars → InRange vars (names k ps)
  names_below PNil k b le h = All-nil IsBelow
  names_below (PCons p ps) k b le h =
      All-cons IsBelow (name k p) (names (k + inner p) ps) (name_below p k b.0 le (omega arith)) (names_below ps (k + inner p) b.1 (omega arith) (omega arith))

  one_below : (l : Lit) → l.var < vars → InRange vars (l ∷ [])
  one_below l h = All-cons IsBelow l [] h (All-nil IsBelow)

  pairs_below : (k : ℕ) (ls : List Lit) → k < vars → InRange vars ls → All (InRange vars) (map (pair_with k) ls)
  pairs_below k ls lt h =
      All-map (InRange vars) (pair_with k) ls
      (All-weaker IsBelow (λ l. InRange vars (pair_with k l)) (λ l b. All-cons IsBelow (negative_literal k) (l ∷ []) lt (one_below l b)) ls h)

  mutual
    node_below : (p : PlainProp) (k : ℕ) → AtomBelow atoms p → atoms ≤ k → k + inner p ≤ vars → All (InRange vars) (node_clauses k p)
    node_below PTrue k b le h = All-nil (InRange vars)
    node_below PFalse k b le h = All-cons (InRange vars) (negative_literal k ∷ []) [] (one_below (negative_literal k) (omega arith)) (All-nil (InRange vars))
    node_below (PLit l) k b le h = All-nil (InRange vars)
    node_below (PAnd ps) k b le h =
        All-append (InRange vars) (map (pair_with k) (names (suc k) ps)) (nodes_clauses (suc k) ps)
        (pairs_below k (names (suc k) ps) (omega arith) (names_below ps (suc k) b (omega arith) (omega arith)))
        (nodes_below ps (suc k) b (omega arith) (omega arith))
    node_below (POr ps) k b le h =
        All-cons (InRange vars) (negative_literal k ∷ names (suc k) ps) (nodes_clauses (suc k) ps)
        (All-cons IsBelow (negative_literal k) (names (suc k) ps) (omega arith) (names_below ps (suc k) b (omega arith) (omega arith)))
        (nodes_below ps (suc k) b (omega arith) (omega arith))

    nodes_below : (ps : PlainProps) (k : ℕ) → AtomsBelow atoms ps → atoms ≤ k → k + inners ps ≤ vars → All (InRange vars) (nodes_clauses k ps)
    nodes_below PNil k b le h = All-nil (InRange vars)
    nodes_below (PCons p ps) k b le h =
        All-append (InRange vars) (node_clauses k p) (nodes_clauses (k + inner p) ps)
        (node_below p k b.0 le (omega arith)) (nodes_below ps (k + inner p) b.1 (omega arith) (omega arith))

  roots_below : (ps : PlainProps) (k : ℕ) → AtomsBelow atoms ps → atoms ≤ k → k + inners ps ≤ vars → All (InRange vars) (root_clauses k ps)
  roots_below PNil k b le h = All-nil (InRange vars)
  roots_below (PCons p ps) k b le h =
      All-append (InRange vars) (node_clauses k p) ((name k p ∷ []) ∷ root_clauses (k + inner p) ps)
      (node_below p k b.0 le (omega arith))
      (All-cons (InRange vars) (name k p ∷ []) (root_clauses (k + inner p) ps) (one_below (name k p) (name_below p k b.0 le (omega arith)))
      (roots_below ps (k + inner p) b.1 (omega arith) (omega arith)))

-- the variables are those of the atoms, and one for each node that is no literal
pub clauses_below : (atoms : ℕ) (roots : PlainProps) (equalities : List (List Lit)) → AtomsBelow atoms roots → All (InRange atoms) equalities →
    All (InRange (atoms + inners roots)) (clauses_of atoms roots equalities)
clauses_below atoms roots equalities b h =
    let vars = atoms + inners roots in
    All-append (InRange vars) (root_clauses atoms roots) equalities (roots_below atoms vars roots atoms b (omega arith) (omega arith))
    (All-weaker (InRange atoms) (InRange vars)
    (λ c r. All-weaker (λ (l : Lit). l.var < atoms) (λ (l : Lit). l.var < vars) (λ l lt. omega (arith, lt)) c r) equalities h)
