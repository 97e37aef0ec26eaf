-- Clauses that say that propositions are true.
use Rattle.std.specs.Prelude.{ℕ, suc, ◌+◌, ◌-◌, ◌<◌, Bool, true, false, IsTrue, ◌&&◌, ◌||◌, List, [], ◌∷◌, ◌++◌, map, nat_lt, if◌then◌else◌, slice_index_or}
use Rattle.lv_cnf.specs.declared.literal.Lit.{Lit}
use Rattle.lv_cnf.specs.declared.prop.Prop.{Prop, Prop-F, fold-Prop}
use Rattle.lv_cnf.specs.declared.prop.Prop.TheOpen.{True, False, Lit as LitAt, And, Or}
use Rattle.lv_cnf.specs.Literals.{positive_literal, negative_literal, literal_truth, Satisfies}

-- ---- propositions, for definitions by cases

mutual
  pub data PlainProp : Type 0 where
    PTrue PFalse : PlainProp
    PLit : Lit → PlainProp
    PAnd POr : PlainProps → PlainProp

  pub data PlainProps : Type 0 where
    PNil : PlainProps
    PCons : PlainProp → PlainProps → PlainProps

abbrev pub plain_list : List PlainProp → PlainProps
plain_list [] = PNil
plain_list (p ∷ ps) = PCons p (plain_list ps)

abbrev pub plain_step : Prop-F PlainProp → PlainProp
plain_step True = PTrue
plain_step False = PFalse
plain_step (LitAt l) = PLit l
plain_step (And ps) = PAnd (plain_list ps)
plain_step (Or ps) = POr (plain_list ps)

abbrev pub plain : Prop → PlainProp
plain = fold-Prop PlainProp plain_step

abbrev pub plains : List Prop → PlainProps
plains ps = plain_list (map plain ps)

-- ---- truth

abbrev mutual
  pub prop_truth : (ℕ → Bool) → PlainProp → Bool
  prop_truth a PTrue = true
  prop_truth a PFalse = false
  prop_truth a (PLit l) = literal_truth a l
  prop_truth a (PAnd ps) = all_truth a ps
  prop_truth a (POr ps) = some_truth a ps

  pub all_truth : (ℕ → Bool) → PlainProps → Bool
  all_truth a PNil = true
  all_truth a (PCons p ps) = prop_truth a p && all_truth a ps

  pub some_truth : (ℕ → Bool) → PlainProps → Bool
  some_truth a PNil = false
  some_truth a (PCons p ps) = prop_truth a p || some_truth a ps

-- each root is true, and the equalities are satisfied
abbrev pub SatisfiesAll : (ℕ → Bool) → PlainProps → List (List Lit) → Type 0
SatisfiesAll a roots equalities = IsTrue (all_truth a roots) × Satisfies a equalities

abbrev pub AreSatisfiable : PlainProps → List (List Lit) → Type 0
AreSatisfiable roots equalities = (a : ℕ → Bool) × SatisfiesAll a roots equalities

-- ---- nodes and their variables

-- how many nodes are no literals
abbrev mutual
  pub inner : PlainProp → ℕ
  inner PTrue = 1
  inner PFalse = 1
  inner (PLit l) = 0
  inner (PAnd ps) = suc (inners ps)
  inner (POr ps) = suc (inners ps)

  pub inners : PlainProps → ℕ
  inners PNil = 0
  inners (PCons p ps) = inner p + inners ps

-- the variables of the literals are below the bound
abbrev mutual
  pub AtomBelow : ℕ → PlainProp → Type 0
  AtomBelow atoms PTrue = Unit {0}
  AtomBelow atoms PFalse = Unit {0}
  AtomBelow atoms (PLit l) = l.var < atoms
  AtomBelow atoms (PAnd ps) = AtomsBelow atoms ps
  AtomBelow atoms (POr ps) = AtomsBelow atoms ps

  pub AtomsBelow : ℕ → PlainProps → Type 0
  AtomsBelow atoms PNil = Unit {0}
  AtomsBelow atoms (PCons p ps) = AtomBelow atoms p × AtomsBelow atoms ps

-- the literal that stands for a node, where k is the first free variable
abbrev pub name : ℕ → PlainProp → Lit
name k PTrue = positive_literal k
name k PFalse = positive_literal k
name k (PLit l) = l
name k (PAnd ps) = positive_literal k
name k (POr ps) = positive_literal k

abbrev pub names : ℕ → PlainProps → List Lit
names k PNil = []
names k (PCons p ps) = name k p ∷ names (k + inner p) ps

-- ---- clauses

-- where the node k is true, so is the literal
abbrev pub pair_with : ℕ → Lit → List Lit
pair_with k l = negative_literal k ∷ l ∷ []

-- the clauses of a node and of those below it, in preorder
abbrev mutual
  pub node_clauses : ℕ → PlainProp → List (List Lit)
  node_clauses k PTrue = []
  node_clauses k PFalse = (negative_literal k ∷ []) ∷ []
  node_clauses k (PLit l) = []
  node_clauses k (PAnd ps) = map (pair_with k) (names (suc k) ps) ++ nodes_clauses (suc k) ps
  node_clauses k (POr ps) = (negative_literal k ∷ names (suc k) ps) ∷ nodes_clauses (suc k) ps

  pub nodes_clauses : ℕ → PlainProps → List (List Lit)
  nodes_clauses k PNil = []
  nodes_clauses k (PCons p ps) = node_clauses k p ++ nodes_clauses (k + inner p) ps

-- root by root, the clauses of its nodes and the root alone
abbrev pub root_clauses : ℕ → PlainProps → List (List Lit)
root_clauses k PNil = []
root_clauses k (PCons p ps) = node_clauses k p ++ ((name k p ∷ []) ∷ root_clauses (k + inner p) ps)

abbrev pub clauses_of : ℕ → PlainProps → List (List Lit) → List (List Lit)
clauses_of atoms roots equalities = root_clauses atoms roots ++ equalities

-- ---- an assignment that satisfies the clauses

-- the truth of the nodes that are no literals, in preorder
abbrev mutual
  pub node_values : (ℕ → Bool) → PlainProp → List Bool
  node_values a PTrue = true ∷ []
  node_values a PFalse = false ∷ []
  node_values a (PLit l) = []
  node_values a (PAnd ps) = all_truth a ps ∷ nodes_values a ps
  node_values a (POr ps) = some_truth a ps ∷ nodes_values a ps

  pub nodes_values : (ℕ → Bool) → PlainProps → List Bool
  nodes_values a PNil = []
  nodes_values a (PCons p ps) = node_values a p ++ nodes_values a ps

-- an assignment of the atoms, and above them the truth of the nodes
abbrev pub with_nodes : ℕ → (ℕ → Bool) → PlainProps → ℕ → Bool
with_nodes atoms a roots x = (if nat_lt x atoms then a x else slice_index_or (nodes_values a roots) (x - atoms) false)
