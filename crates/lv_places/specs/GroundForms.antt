-- The ground form of normal forms: "for all" is "and" over the terms, and a place is the term that stands for it.
use Rattle.std.specs.Prelude.{ℕ, zero, suc, ◌+◌, Bool, true, false, ◌&&◌, ◌||◌, List, ◌∷◌, map, length, get_or}
use Rattle.lv_formula.specs.declared.symbols.SortId.{SortId}
use Rattle.lv_formula.specs.declared.symbols.Sym.{Sym}
use Rattle.lv_formula.specs.declared.terms.Term.{Term}
use Rattle.lv_formula.specs.declared.terms.Term.TheVariants.{Var, Const}
use Rattle.lv_cnf.specs.Literals.{signed}
use Rattle.lv_places.specs.declared.skolem.Skolem.{Skolem}
use Rattle.lv_places.specs.declared.terms.TermId.{TermId}
use Rattle.lv_places.specs.declared.grounded.GroundAtom.{GroundAtom}
use Rattle.lv_places.specs.declared.grounded.GroundAtom.TheVariants as make
use Rattle.lv_places.specs.Forms.{Atom, Rel, Same, Form, Yes, No, Lit, And, Or, All, Any, Forms, Nil, Cons}
use Rattle.lv_places.specs.Places.{Binder, Every, Chosen, chosen_of, sites}
use Rattle.lv_places.specs.Universes.{term, constant_id, place_id}

mutual
  pub data Tree : Type 0 where
    TTrue TFalse : Tree
    TLit : Bool → GroundAtom → Tree
    TAnd TOr : Trees → Tree

  pub data Trees : Type 0 where
    TNil : Trees
    TCons : Tree → Trees → Trees

-- how many terms a sort has, and the term of a constant and of a place: sort, number of the place, arguments
pub record Naming : Type 0 where
  pub count : SortId → ℕ
  pub constant : Sym → TermId
  pub place : SortId → ℕ → List TermId → TermId

abbrev pub naming_of : Skolem → (SortId → ℕ) → Naming
naming_of sk n = record { count = n; constant = constant_id sk; place = place_id sk n }

abbrev pub term_id : Naming → List TermId → Term → TermId
term_id u env (Var x) = get_or env x (term (record { 0 = 0 }) 0)
term_id u env (Const c) = u.constant c

abbrev pub ground_atom : Naming → List TermId → Atom → GroundAtom
ground_atom u env (Rel r ts) = make.Relation r (map (term_id u env) ts)
ground_atom u env (Same a b) = make.Equal (term_id u env a) (term_id u env b)

-- what h gives at i to i + n - 1
abbrev pub each : ℕ → ℕ → (ℕ → Tree) → Trees
each i zero h = TNil
each i (suc n) h = TCons (h i) (each (suc i) n h)

-- the ground form of a form whose first place has the number k, with a term for each variable
abbrev mutual
  pub ground_form : Naming → ℕ → List Binder → List TermId → Form → Tree
  ground_form u k g env Yes = TTrue
  ground_form u k g env No = TFalse
  ground_form u k g env (Lit b a) = TLit b (ground_atom u env a)
  ground_form u k g env (And fs) = TAnd (ground_all u k g env fs)
  ground_form u k g env (Or fs) = TOr (ground_all u k g env fs)
  ground_form u k g env (All s f) = TAnd (each 0 (u.count s) (λ i. ground_form u k (Every s ∷ g) (term s i ∷ env) f))
  ground_form u k g env (Any s f) = ground_form u (suc k) (Chosen s f ∷ g) (u.place s k (chosen_of g f env) ∷ env) f

  pub ground_all : Naming → ℕ → List Binder → List TermId → Forms → Trees
  ground_all u k g env Nil = TNil
  ground_all u k g env (Cons f fs) = TCons (ground_form u k g env f) (ground_all u (k + length (sites g f)) g env fs)

-- the truth of a tree
abbrev mutual
  pub holds : (GroundAtom → Bool) → Tree → Bool
  holds v TTrue = true
  holds v TFalse = false
  holds v (TLit b a) = signed b (v a)
  holds v (TAnd ts) = holds_all v ts
  holds v (TOr ts) = holds_any v ts

  pub holds_all : (GroundAtom → Bool) → Trees → Bool
  holds_all v TNil = true
  holds_all v (TCons t ts) = holds v t && holds_all v ts

  pub holds_any : (GroundAtom → Bool) → Trees → Bool
  holds_any v TNil = false
  holds_any v (TCons t ts) = holds v t || holds_any v ts

-- the nodes of a tree, where a literal, "true" and "false" are one node each
abbrev mutual
  pub tree_nodes : Tree → ℕ
  tree_nodes TTrue = 1
  tree_nodes TFalse = 1
  tree_nodes (TLit b a) = 1
  tree_nodes (TAnd ts) = suc (trees_nodes ts)
  tree_nodes (TOr ts) = suc (trees_nodes ts)

  pub trees_nodes : Trees → ℕ
  trees_nodes TNil = 0
  trees_nodes (TCons t ts) = tree_nodes t + trees_nodes ts
