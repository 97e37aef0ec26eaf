-- Clauses without repeated literals.
use Rattle.std.specs.Prelude.{◌≤◌, length, List, Option, Some, None}
use Rattle.std.specs.List.{Contains, IsDistinct}
use Rattle.std.proofs.Common.{Vec, Global}
use Rattle.lv_cnf.specs.declared.literal.Lit.{Lit}
use Rattle.lv_cnf.specs.Literals.{negated}
use Rattle.lv_watch.specs.Lists.{same_lit}

-- the same literals, in any order and number
pub record SameMembers (xs ys : List Lit) : Type 0 where
  pub there : (l : Lit) → Contains xs l → Contains ys l
  pub back : (l : Lit) → Contains ys l → Contains xs l

-- the literals, each once
pub record IsUnrepeated (out lits : List Lit) : Type 0 where
  pub distinct : IsDistinct same_lit out
  pub members : SameMembers out lits
  pub short : length out ≤ length lits

-- a literal stands beside its negation
abbrev pub IsTautology : List Lit → Type 0
IsTautology lits = (l : Lit) × Contains lits l × Contains lits (negated l)

-- the literals, each once; none where they are a tautology
abbrev pub UnrepeatedIs : List Lit → Option (Vec Lit Global) → Type 0
UnrepeatedIs lits None = IsTautology lits
UnrepeatedIs lits (Some v) = IsUnrepeated v.items lits
