-- The ground form over the numbers of its atoms.
use Rattle.std.specs.Prelude.{◌≡◌, ℕ, suc, Bool, true, false, cond, eqb, ◌&&◌, List, [], ◌∷◌, ◌++◌, map}
use Rattle.std.specs.List.{list_any}
use Rattle.lv_formula.specs.Symbols.{sym_eq}
use Rattle.lv_cnf.specs.declared.literal.Lit.{Lit}
use Rattle.lv_cnf.specs.Nodes.{PlainProp, PTrue, PFalse, PLit, PAnd, POr, PlainProps, PNil, PCons, plains}
use Rattle.lv_places.specs.declared.skolem.Skolem.{Skolem}
use Rattle.lv_places.specs.declared.terms.TermId.{TermId}
use Rattle.lv_places.specs.declared.terms.GroundTerm.{GroundTerm}
use Rattle.lv_places.specs.declared.grounded.GroundAtom.{GroundAtom}
use Rattle.lv_places.specs.declared.grounded.GroundAtom.TheVariants.{Relation, Equal}
use Rattle.lv_places.specs.declared.grounded.Grounded.{Grounded}
use Rattle.lv_places.specs.Forms.{forms_of}
use Rattle.lv_places.specs.Universes.{counts}
use Rattle.lv_places.specs.GroundForms.{Tree, Trees, TTrue, TFalse, TLit, TAnd, TOr, TNil, TCons, naming_of, ground_all}
use Rattle.lv_places.specs.Equality.{GroundLiteral, GroundClause, equality_clauses}

abbrev pub same_id : TermId → TermId → Bool
same_id a b = eqb a.sort.0 b.sort.0 && eqb a.place b.place

abbrev pub same_ids : List TermId → List TermId → Bool
same_ids [] [] = true
same_ids [] (b ∷ bs) = false
same_ids (a ∷ more) [] = false
same_ids (a ∷ more) (b ∷ bs) = same_id a b && same_ids more bs

abbrev pub same_atom : GroundAtom → GroundAtom → Bool
same_atom (Relation r ts) (Relation q us) = sym_eq r q && same_ids ts us
same_atom (Relation r ts) (Equal c d) = false
same_atom (Equal a b) (Relation q us) = false
same_atom (Equal a b) (Equal c d) = same_id a c && same_id b d

-- the number of the atom in the list
abbrev pub find_atom : List GroundAtom → GroundAtom → ℕ
find_atom [] a = 0
find_atom (x ∷ xs) a = cond (same_atom a x) 0 (suc (find_atom xs a))

-- the atoms of a tree and of clauses, in order
abbrev mutual
  pub tree_atoms : Tree → List GroundAtom
  tree_atoms TTrue = []
  tree_atoms TFalse = []
  tree_atoms (TLit b a) = a ∷ []
  tree_atoms (TAnd ts) = trees_atoms ts
  tree_atoms (TOr ts) = trees_atoms ts

  pub trees_atoms : Trees → List GroundAtom
  trees_atoms TNil = []
  trees_atoms (TCons t ts) = tree_atoms t ++ trees_atoms ts

abbrev pub clause_atoms : GroundClause → List GroundAtom
clause_atoms c = map (λ (l : GroundLiteral). l.atom) c

abbrev pub clauses_atoms : List GroundClause → List GroundAtom
clauses_atoms [] = []
clauses_atoms (c ∷ cs) = clause_atoms c ++ clauses_atoms cs

-- each atom once, in order of first occurrence, behind those that are there
abbrev pub with_atom : List GroundAtom → GroundAtom → List GroundAtom
with_atom xs a = cond (list_any (same_atom a) xs) xs (xs ++ a ∷ [])

abbrev pub with_atoms : List GroundAtom → List GroundAtom → List GroundAtom
with_atoms xs [] = xs
with_atoms xs (a ∷ more) = with_atoms (with_atom xs a) more

-- a tree with numbers in place of its atoms
abbrev mutual
  pub numbered : (GroundAtom → ℕ) → Tree → PlainProp
  numbered f TTrue = PTrue
  numbered f TFalse = PFalse
  numbered f (TLit b a) = PLit (record { var = f a; positive = b })
  numbered f (TAnd ts) = PAnd (all_numbered f ts)
  numbered f (TOr ts) = POr (all_numbered f ts)

  pub all_numbered : (GroundAtom → ℕ) → Trees → PlainProps
  all_numbered f TNil = PNil
  all_numbered f (TCons t ts) = PCons (numbered f t) (all_numbered f ts)

abbrev pub number_clause : (GroundAtom → ℕ) → GroundClause → List Lit
number_clause f c = map (λ (l : GroundLiteral). record { var = f l.atom; positive = l.positive }) c

abbrev pub number_clauses : (GroundAtom → ℕ) → List GroundClause → List (List Lit)
number_clauses f cs = map (number_clause f) cs

abbrev pub trees_of : Skolem → List (List GroundTerm) → Trees
trees_of sk u = ground_all (naming_of sk (counts u)) 0 [] [] (forms_of sk.forms)

-- the atoms by first occurrence in the ground forms, then in the equality clauses
abbrev pub atoms_of : Skolem → List (List GroundTerm) → List GroundAtom
atoms_of sk u = with_atoms [] (trees_atoms (trees_of sk u) ++ clauses_atoms (equality_clauses sk (counts u)))

pub record IsGrounded (sk : Skolem) (u : List (List GroundTerm)) (g : Grounded) : Type 0 where
  pub atoms : g.atoms ≡ atoms_of sk u
  pub roots : plains g.roots ≡ all_numbered (find_atom (atoms_of sk u)) (trees_of sk u)
  pub equalities : g.equalities ≡ number_clauses (find_atom (atoms_of sk u)) (equality_clauses sk (counts u))

-- an atom's truth by an assignment, and false for what is no atom
abbrev pub atom_truth : List GroundAtom → (ℕ → Bool) → GroundAtom → Bool
atom_truth atoms a x = list_any (same_atom x) atoms && a (find_atom atoms x)
