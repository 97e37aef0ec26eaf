-- The formulas of the chain of places. A place is a relation without arguments, which holds where the token is there.
use Rattle.std.specs.Prelude.{ℕ, zero, suc, List, [], ◌∷◌, ◌++◌, map}
use Rattle.std.specs.List.{range_with_len}
use Rattle.lv_formula.specs.declared.symbols.Sym.TheVariants.{Own, Saved, Due, Copy}
use Rattle.lv_formula.specs.declared.formula.Formula.{Formula}
use Rattle.lv_formula.specs.declared.formula.Formula.TheVariants.{Atom, Not, And, Implies}
use Rattle.lv_chain.specs.declared.formulas.OfPlace.{OfPlace}
use Rattle.lv_chain.specs.declared.formulas.OfPlace.TheVariants.{Here, Away, SavedHere, Waits}
use Rattle.lv_chain.specs.declared.formulas.OfPair.{OfPair}
use Rattle.lv_chain.specs.declared.formulas.OfPair.TheVariants.{NotBoth, Ahead}

-- what there is for each of so many numbers, the least of which is `first`
abbrev pub each : {A : Type 0} → (ℕ → A) → ℕ → ℕ → List A
each f first count = map f (range_with_len first count)

-- the token is at the place
abbrev pub at : ℕ → Formula
at i = Atom (Own i) []

-- it was there when the state was saved
abbrev pub was_at : ℕ → Formula
was_at i = Atom (Copy i) []

abbrev pub saved : Formula
saved = Atom Saved []

abbrev pub of_place : OfPlace → ℕ → Formula
of_place Here i = at i
of_place Away i = Not (at i)
of_place SavedHere i = was_at i
of_place Waits i = Implies (And (saved ∷ was_at i ∷ at i ∷ [])) (Atom (Due i) [])

-- of two places, the lesser first
abbrev pub of_pair : OfPair → ℕ → ℕ → Formula
of_pair NotBoth i j = Not (And (at i ∷ at j ∷ []))
of_pair Ahead i j = Implies (And (saved ∷ was_at j ∷ [])) (Not (at i))

-- of each two of so many places, the least of which is `first`, in lexicographic order
abbrev pub of_pairs : OfPair → ℕ → ℕ → List Formula
of_pairs kind first zero = []
of_pairs kind first (suc count) = each (of_pair kind first) (suc first) count ++ of_pairs kind (suc first) count
