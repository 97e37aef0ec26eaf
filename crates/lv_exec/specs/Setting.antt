-- A structure's tables with the updates of an action made in them. Each update reads the structure m.
use Rattle.std.specs.Prelude.{ℕ, Bool, List, [], ◌∷◌, ◌++◌, filter, reverse}
use Rattle.lv_formula.specs.declared.symbols.Sym.TheVariants.{Own}
use Rattle.lv_formula.specs.declared.formula.Formula.{Formula}
use Rattle.lv_formula.specs.Meaning.{Meaning}
use Rattle.lv_struct.specs.Tables.{Tables}
use Rattle.lv_formula.specs.Tuples.{tuples_over}
use Rattle.lv_struct.specs.Changes.{with_tuples, with_element}
use Rattle.lv_formula.specs.Truth.{truth_in, value_of}
use Rattle.lv_system.specs.declared.parts.Parts.{Parts}
use Rattle.lv_system.specs.declared.parts.ActionUpdate.{ActionUpdate}
use Rattle.lv_system.specs.declared.parts.ActionUpdate.TheVariants.{Relation, Constant}
use Rattle.lv_system.specs.Step.{sorts_at}

-- the body is true with the elements and the tuple
abbrev pub is_true_with : Meaning → List ℕ → Formula → List ℕ → Bool
is_true_with m elements body tuple = truth_in m body (reverse (elements ++ tuple))

abbrev pub set_one : Parts → List ℕ → Meaning → ActionUpdate → Tables → Tables
set_one p elements m (Relation symbol body) w = with_tuples w (Own symbol) (filter (is_true_with m elements body) (tuples_over m.size (sorts_at p symbol)))
set_one p elements m (Constant symbol term) w = with_element w (Own symbol) (value_of m (reverse elements) term)

-- one update after the other is made, but none reads what another made
abbrev pub set_all : Parts → List ℕ → Meaning → List ActionUpdate → Tables → Tables
set_all p elements m [] w = w
set_all p elements m (u ∷ us) w = set_all p elements m us (set_one p elements m u w)
