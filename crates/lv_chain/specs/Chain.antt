-- The system of a chain: a token goes from place to place, up to the last one, where it stays.
use Rattle.std.specs.Prelude.{◌≡◌, ◌≤◌, ℕ, true, suc, ◌-◌, false, List, [], ◌∷◌, ◌++◌, codes, decimal}
use Rattle.lv_formula.specs.declared.symbols.Sym.TheVariants.{Own, Label}
use Rattle.lv_formula.specs.declared.formula.Formula.{Formula}
use Rattle.lv_formula.specs.declared.formula.Formula.TheVariants.{True, False, Atom, And, Or, Implies}
use Rattle.lv_formula.specs.declared.temporal.Temporal.TheVariants as T
use Rattle.lv_system.specs.declared.parts.Parts.{Parts}
use Rattle.lv_system.specs.declared.parts.Symbol.{Symbol}
use Rattle.lv_system.specs.declared.parts.Shape.TheVariants as S
use Rattle.lv_system.specs.declared.parts.Action.{Action}
use Rattle.lv_system.specs.declared.parts.ActionUpdate.TheVariants.{Relation}
use Rattle.lv_system.specs.declared.parts.Fair.{Fair}
use Rattle.lv_system.specs.declared.parts.LabelDecl.{LabelDecl}
use Rattle.lv_system.specs.declared.parts.Invariant.{Invariant}
use Rattle.lv_system.specs.Fits.{fits_parts}
use Rattle.lv_chain.specs.declared.formulas.OfPlace.TheVariants.{Here, Away, SavedHere, Waits}
use Rattle.lv_chain.specs.declared.formulas.OfPair.TheVariants.{NotBoth, Ahead}
use Rattle.lv_chain.specs.Formulas.{at, each, of_pairs, of_place, saved}

-- a word, and the number of a place in decimal digits
abbrev pub numbered_name : List ℕ → ℕ → List ℕ
numbered_name word i = word ++ decimal i

abbrev pub place : ℕ → Symbol
place i = record { name = numbered_name (codes "at") i; shape = S.Relation []; fixed = false }

-- the token goes on to the next place
abbrev pub go : ℕ → Action
go i = record {
  name = numbered_name (codes "go") i;
  params = [];
  guard = at i;
  updates = Relation i False ∷ Relation (suc i) True ∷ [];
}

abbrev pub rest : Action
rest = record { name = codes "rest"; params = []; guard = True; updates = [] }

-- the token doesn't stay at the place for ever
abbrev pub moved : ℕ → Fair
moved i = record { name = numbered_name (codes "moved") i; params = []; condition = of_place Away i }

-- the token never comes to the last place
abbrev pub stuck : ℕ → LabelDecl
stuck last = record { name = codes "stuck"; params = []; formula = T.Always (T.Not (T.Atom (Own last) [])) }

abbrev pub invariant : List ℕ → Formula → Invariant
invariant name f = record { name = name; formula = f }

-- the token is somewhere, and at one place alone; it is stuck; the state was saved before the last place, and the token never
-- went back; where it stays at the place at which it was saved, the condition of this place has yet to hold
abbrev pub invariants_of : ℕ → List Invariant
invariants_of places =
    invariant (codes "any") (Or (each (of_place Here) 0 places))
    ∷ invariant (codes "one") (And (of_pairs NotBoth 0 places))
    ∷ invariant (codes "stays") (Atom (Label 0) [])
    ∷ invariant (codes "held") (Implies saved (Or (each (of_place SavedHere) 0 (places - 1))))
    ∷ invariant (codes "ahead") (And (of_pairs Ahead 0 places))
    ∷ invariant (codes "waits") (And (each (of_place Waits) 0 (places - 1)))
    ∷ []

-- the chain of so many places, at least two
abbrev pub chain_of : ℕ → Parts
chain_of places = record {
  name = codes "chain";
  sorts = [];
  symbols = each place 0 places;
  axioms = [];
  inits = And (at 0 ∷ each (of_place Away) 1 (places - 1)) ∷ [];
  actions = each go 0 (places - 1) ++ rest ∷ [];
  fairs = each moved 0 (places - 1);
  labels = stuck (places - 1) ∷ [];
  witnesses = [];
  property = T.Eventually (T.Atom (Own (places - 1)) []);
  invariants = invariants_of places;
}

-- the parts of each chain of 2 to 16 places fit together
abbrev pub ChainsFit : Type 0
ChainsFit = (places : ℕ) → 2 ≤ places → places ≤ 16 → fits_parts (chain_of places) ≡ true
