-- The context that a scope stands for, the innermost variable's sort first.
use Rattle.std.specs.Prelude.{List, ◌∷◌, ◌++◌, reverse}
use Rattle.lv_formula.specs.declared.symbols.SortId.{SortId}
use Rattle.lv_formula.specs.declared.scope.Scope.{Scope, Outer, Further', Inner'}

abbrev pub context_of : Scope → List SortId
context_of (Outer sorts) = reverse sorts.now
context_of (Further' sorts outer scope) = reverse sorts.now ++ context_of scope
context_of (Inner' sort outer scope) = sort ∷ context_of scope
