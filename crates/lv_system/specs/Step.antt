-- One step of a system: where an action is allowed, and what it makes of a structure.
use Rattle.std.specs.Prelude.{◌≡◌, ℕ, Bool, true, false, ◌&&◌, eqb, cond, List, [], ◌∷◌, ◌++◌, get_or, reverse, Option, Some, None}
use Rattle.lv_formula.specs.declared.symbols.SortId.{SortId}
use Rattle.lv_formula.specs.declared.symbols.Sym.{Sym}
use Rattle.lv_formula.specs.declared.symbols.Sym.TheVariants.{Own}
use Rattle.lv_formula.specs.declared.formula.Formula.TheVariants.{True}
use Rattle.lv_formula.specs.Meaning.{Meaning, in_range}
use Rattle.lv_formula.specs.Truth.{truth_in, value_of}
use Rattle.lv_system.specs.declared.parts.Parts.{Parts}
use Rattle.lv_system.specs.declared.parts.Symbol.{Symbol}
use Rattle.lv_system.specs.declared.parts.Shape.TheVariants as S
use Rattle.lv_system.specs.declared.parts.Action.{Action}
use Rattle.lv_system.specs.declared.parts.ActionUpdate.{ActionUpdate}
use Rattle.lv_system.specs.declared.parts.ActionUpdate.TheVariants.{Relation, Constant}
use Rattle.lv_system.specs.Vocabularies.{relation_sorts}

-- what stands for an action, a symbol that is not there
abbrev pub no_action : Action
no_action = record { name = []; params = []; guard = True; updates = [] }

abbrev pub no_symbol : Symbol
no_symbol = record { name = []; shape = S.Relation []; fixed = true }

abbrev pub action_at : Parts → ℕ → Action
action_at p n = get_or p.actions n no_action

abbrev pub symbol_at : Parts → ℕ → Symbol
symbol_at p n = get_or p.symbols n no_symbol

abbrev pub sorts_or_none : Option (List SortId) → List SortId
sorts_or_none None = []
sorts_or_none (Some sorts) = sorts

-- the sorts of a symbol's arguments; a constant has none
abbrev pub sorts_at : Parts → ℕ → List SortId
sorts_at p n = sorts_or_none (relation_sorts (symbol_at p n).shape)

-- whether the relation has the tuple after the updates, which read the structure m with the action's elements;
-- the body of an update stands in the action's parameters followed by the relation's arguments
abbrev pub set_holds : Parts → List ℕ → Meaning → List ActionUpdate → ℕ → List ℕ → Bool
set_holds p elements m [] r tuple = m.holds (Own r) tuple
set_holds p elements m (Relation symbol body ∷ us) r tuple = cond (eqb symbol r) (in_range m (sorts_at p r) tuple && truth_in m body (reverse (elements ++ tuple))) (set_holds p elements m us r tuple)
set_holds p elements m (Constant symbol term ∷ us) r tuple = set_holds p elements m us r tuple

-- the element that the constant is after the updates
abbrev pub set_value : List ℕ → Meaning → List ActionUpdate → ℕ → ℕ
set_value elements m [] c = m.value (Own c)
set_value elements m (Relation symbol body ∷ us) c = set_value elements m us c
set_value elements m (Constant symbol term ∷ us) c = cond (eqb symbol c) (value_of m (reverse elements) term) (set_value elements m us c)

abbrev pub performed_holds : Parts → Action → List ℕ → Meaning → Sym → List ℕ → Bool
performed_holds p a elements m (Own r) tuple = set_holds p elements m a.updates r tuple
performed_holds p a elements m sym tuple = m.holds sym tuple

abbrev pub performed_value : Action → List ℕ → Meaning → Sym → ℕ
performed_value a elements m (Own c) = set_value elements m a.updates c
performed_value a elements m sym = m.value sym

-- what the action makes of a structure: each updated relation has the tuples on which its update is true,
-- each updated constant is the element of its term, and everything else stays; all updates read the old structure
abbrev pub performed : Parts → Action → List ℕ → Meaning → Meaning
performed p a elements m = record { size = m.size; holds = performed_holds p a elements m; value = performed_value a elements m }

-- there is one element for each parameter, and the guard is true with them
pub record IsAllowed (a : Action) (elements : List ℕ) (m : Meaning) : Type 0 where
  pub in_sorts : in_range m a.params elements ≡ true
  pub guard : truth_in m a.guard (reverse elements) ≡ true

-- the second structure is, over the own symbols, what the action makes of the first
pub record IsPerformed (p : Parts) (a : Action) (elements : List ℕ) (m next : Meaning) : Type 0 where
  pub sizes : (s : SortId) → next.size s ≡ m.size s
  pub relations : (r : ℕ) (tuple : List ℕ) → next.holds (Own r) tuple ≡ set_holds p elements m a.updates r tuple
  pub constants : (c : ℕ) → next.value (Own c) ≡ set_value elements m a.updates c
