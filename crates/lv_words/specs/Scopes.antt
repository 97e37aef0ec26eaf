-- The scope of variables that the code keeps, and what is found in it.
use Rattle.std.specs.Prelude.{ℕ, ◌+◌, List, [], ◌∷◌, ◌++◌, map, reverse, Option, Some, None, if◌then◌else◌}
use Rattle.lv_formula.specs.declared.symbols.SortId.{SortId}
use Rattle.lv_system.specs.Names.{same_text}
use Rattle.lv_grammar.specs.Words.{Variable}
use Rattle.lv_words.specs.declared.scope.Scope.{Scope, Empty, Listed', Inner'}
use Rattle.lv_words.specs.declared.scope.Parameter.{Parameter}

abbrev pub variable_seen : Parameter → Variable
variable_seen x = record { name = x.name.now; sort = x.sort }

abbrev pub variables_seen : List Parameter → List Variable
variables_seen xs = map variable_seen xs

-- the variables, the innermost first
abbrev pub scope_seen : Scope → List Variable
scope_seen Empty = []
scope_seen (Listed' xs outer scope) = reverse (variables_seen xs.now) ++ scope_seen scope
scope_seen (Inner' name sort outer scope) = record { name = name.now; sort = sort } ∷ scope_seen scope

abbrev pub one_deeper : Option (ℕ × SortId) → Option (ℕ × SortId)
one_deeper None = None
one_deeper (Some (number, sort)) = Some (number + 1, sort)

-- what is found inside the scope of one variable more
abbrev pub found_within : Variable → Option (ℕ × SortId) → List ℕ → Option (ℕ × SortId)
found_within v found name = if same_text v.name name then Some (0, v.sort) else one_deeper found

-- the number and the sort of the innermost variable with the name
abbrev pub found_in : List Variable → List ℕ → Option (ℕ × SortId)
found_in [] name = None
found_in (v ∷ vs) name = found_within v (found_in vs name) name
