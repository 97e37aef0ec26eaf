-- The names of symbols by their number, and which symbols pass.
use Rattle.std.specs.Prelude.{ℕ, Bool, List, [], ◌∷◌, ◌++◌}
use Rattle.lv_formula.specs.declared.symbols.SortId.{SortId}
use Rattle.lv_formula.specs.declared.symbols.Sym.{Sym}
use Rattle.lv_formula.specs.declared.symbols.Sym.TheVariants as S
use Rattle.lv_formula.specs.declared.terms.Term.{Term}
use Rattle.lv_formula.specs.declared.formula.Formula.{Formula}
use Rattle.lv_system.specs.declared.parts.Symbol.{Symbol}
use Rattle.lv_system.specs.InvariantWords.{is_changing}
use Rattle.lv_system.specs.Vocabularies.{any_symbol, names_from}
use Rattle.lv_labels.specs.Problem.{Problem, names_for}
use Rattle.lv_monitor.specs.declared.naming.Naming.{Naming}
use Rattle.lv_monitor.specs.declared.naming.Naming.TheVariants.{Own, Label, Touched, Kept, Due, Copy, CopyLabel, Next, Param}
use Rattle.lv_monitor.specs.declared.naming.ElementSet.{ElementSet}
use Rattle.lv_monitor.specs.declared.naming.ElementSet.TheVariants as E
use Rattle.lv_monitor.specs.declared.naming.Listed.{Listed}
use Rattle.lv_monitor.specs.declared.naming.Listed.TheVariants.{All, Changing}
use Rattle.lv_monitor.specs.Conditions.{kept_term}
use Rattle.lv_monitor.specs.Updates.{touched_term}

abbrev pub name_of : Naming → ℕ → Sym
name_of Own = S.Own
name_of Label = S.Label
name_of Touched = λ n. S.Touched (record { 0 = n })
name_of Kept = λ n. S.Kept (record { 0 = n })
name_of Due = S.Due
name_of Copy = S.Copy
name_of CopyLabel = S.CopyLabel
name_of Next = S.Next
name_of Param = S.Param

-- the word of the set for a sort
abbrev pub set_of : ElementSet → SortId → Sym
set_of E.Touched = S.Touched
set_of E.Kept = S.Kept

abbrev pub member_of : ElementSet → SortId → Term → Formula
member_of E.Touched = touched_term
member_of E.Kept = kept_term

abbrev pub test_of : Listed → Symbol → Bool
test_of All = any_symbol
test_of Changing = is_changing

-- the names of what the monitor adds to a structure, in order
abbrev pub added_order : Problem → List Sym
added_order q = (S.Frozen ∷ S.Saved ∷ [])
    ++ (names_for (λ n. S.Touched (record { 0 = n })) 0 q.parts.sorts
    ++ (names_for (λ n. S.Kept (record { 0 = n })) 0 q.parts.sorts
    ++ (names_for S.Due 0 q.justice
    ++ (names_from is_changing S.Copy 0 q.parts.symbols
    ++ names_for S.CopyLabel 0 q.labels))))
