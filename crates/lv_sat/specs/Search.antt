-- A search: the clauses under propagation and the clauses learned so far.
use Rattle.std.specs.Prelude.{◌≡◌, ℕ, ◌<◌, ◌≤◌, Bool, false, List, [], ◌∷◌, ◌++◌, length, Option, Some, None}
use Rattle.lv_cnf.specs.declared.literal.Lit.{Lit}
use Rattle.lv_cnf.specs.Literals.{InRange}
use Rattle.lv_cnf.specs.Propagation.{Follows}
use Rattle.lv_cnf.specs.Logs.{IsNew}
use Rattle.std.specs.List.Sorted.{IsPermutation}
use Rattle.lv_watch.specs.declared.trail.Assigned.{Assigned}
use Rattle.lv_watch.specs.Values.{value}
use Rattle.lv_propagate.specs.State.{IsState}
use Rattle.lv_sat.specs.declared.search.Search.{Search}

-- whether a value makes its variable true
abbrev pub sign : Option Assigned → Bool
sign None = false
sign (Some h) = h.positive

-- a variable with no value; none where each has one
abbrev pub FreeIs : List (Option Assigned) → Option ℕ → Type 0
FreeIs values None = (v : ℕ) → v < length values → value values v ≡ None → ⊥
FreeIs values (Some v) = (v < length values) × (value values v ≡ None)

-- a clause is learned that follows and is new, and the state has it too, with its literals in another order
pub record Learns (old new : Search) : Type 0 where
  pub clause : List Lit
  pub packed : List Lit
  pub state : IsState new.state
  pub size : length new.state.trail.values.items ≡ length old.state.trail.values.items
  pub log : new.log.items ≡ old.log.items ++ clause ∷ []
  pub clauses : new.state.packed ≡ old.state.packed ++ packed ∷ []
  pub permutes : IsPermutation clause packed
  pub range : InRange (length old.state.trail.values.items) clause
  pub short : length clause ≤ length old.state.trail.values.items
  pub follows : Follows old.state.packed clause
  pub new_is : IsNew old.state.packed clause
