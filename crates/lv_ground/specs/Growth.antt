-- What is said of ground forms and clauses while they are made, one after the other.
use Rattle.std.specs.Prelude.{◌≡◌, List, [], ◌∷◌, ◌++◌}
use Rattle.lv_cnf.specs.declared.literal.Lit.{Lit}
use Rattle.lv_cnf.specs.declared.prop.Prop.{Prop}
use Rattle.lv_cnf.specs.Nodes.{PlainProp, PlainProps, PCons, plain}
use Rattle.lv_places.specs.declared.grounded.GroundAtom.{GroundAtom}
use Rattle.lv_places.specs.GroundForms.{Tree, Trees}
use Rattle.lv_places.specs.Equality.{GroundClause}
use Rattle.lv_places.specs.Grounds.{find_atom, tree_atoms, trees_atoms, clauses_atoms, with_atoms, numbered, all_numbered, number_clauses}

-- the atoms of the ground form were added to xs, and the proposition has their numbers
pub record Grown (xs : List GroundAtom) (t : Tree) (next : List GroundAtom) (p : PlainProp) : Type 0 where
  pub atoms : next ≡ with_atoms xs (tree_atoms t)
  pub prop : p ≡ numbered (find_atom next) t

-- the same of ground forms one after the other
pub record AllGrown (xs : List GroundAtom) (ts : Trees) (next : List GroundAtom) (ps : PlainProps) : Type 0 where
  pub atoms : next ≡ with_atoms xs (trees_atoms ts)
  pub props : ps ≡ all_numbered (find_atom next) ts

-- propositions before others
abbrev pub with_props : List Prop → PlainProps → PlainProps
with_props [] rest = rest
with_props (p ∷ ps) rest = PCons (plain p) (with_props ps rest)

-- of the ground forms that were to be added to xs, these are left
pub record Awaits (xs : List GroundAtom) (whole : Trees) (now : List GroundAtom) (ps : List Prop) (rest : Trees) : Type 0 where
  pub atoms : with_atoms now (trees_atoms rest) ≡ with_atoms xs (trees_atoms whole)
  pub props : with_props ps (all_numbered (find_atom (with_atoms xs (trees_atoms whole))) rest) ≡ all_numbered
      (find_atom (with_atoms xs (trees_atoms whole))) whole

-- the atoms of the clauses were added to xs, and the clauses by their numbers to those that were there
pub record Made (xs : List GroundAtom) (out : List (List Lit)) (cs : List GroundClause) (next : List GroundAtom) (all : List (List Lit)) : Type 0 where
  pub atoms : next ≡ with_atoms xs (clauses_atoms cs)
  pub clauses : all ≡ out ++ number_clauses (find_atom next) cs
