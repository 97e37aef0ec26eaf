-- The monitor's opening and its moves as updates.
use Rattle.std.specs.Prelude.{ℕ, suc, Bool, true, false, ◌||◌, cond, List, [], ◌∷◌, ◌++◌, length, reverse}
use Rattle.lv_formula.specs.declared.symbols.SortId.{SortId}
use Rattle.lv_formula.specs.declared.symbols.Sym.{Sym}
use Rattle.lv_formula.specs.declared.symbols.Sym.TheVariants.{Own, Witness, Label, Frozen, Saved, Touched, Kept, Due, Copy, CopyLabel, Next, Param}
use Rattle.lv_formula.specs.declared.terms.Term.{Term}
use Rattle.lv_formula.specs.declared.terms.Term.TheVariants.{Var, Const}
use Rattle.lv_formula.specs.declared.update.Update.{Update}
use Rattle.lv_formula.specs.declared.update.Update.TheVariants as update
use Rattle.lv_formula.specs.declared.vocabulary.RelShape.{RelShape}
use Rattle.lv_formula.specs.declared.vocabulary.ConShape.{ConShape}
use Rattle.lv_formula.specs.declared.formula.Formula.{Formula}
use Rattle.lv_formula.specs.declared.formula.Formula.TheVariants.{True, False, Atom, Not, And}
use Rattle.lv_rewrite.specs.Instantiate.{instantiate_of}
use Rattle.lv_system.specs.declared.parts.Parts.{Parts}
use Rattle.lv_system.specs.declared.parts.Action.{Action}
use Rattle.lv_system.specs.declared.parts.ActionUpdate.{ActionUpdate}
use Rattle.lv_system.specs.declared.parts.ActionUpdate.TheVariants.{Relation, Constant}
use Rattle.lv_system.specs.Step.{sorts_at}
use Rattle.lv_labels.specs.Problem.{Problem, justice_at, tuple_variables}
use Rattle.lv_footprint.specs.Footprint.{first_touched, param_term, touched_after_of}
use Rattle.lv_labels.specs.declared.moves.Move.{Move}
use Rattle.lv_labels.specs.Monitor.{is_freeze, is_save}
use Rattle.lv_labels.specs.Vocabularies.{catch_vocabulary}

-- what the function says of each place of a tuple of these sorts
abbrev pub at_places : (SortId → Term → Formula) → List SortId → List Formula
at_places f [] = []
at_places f (s ∷ ss) = f s (Var (length ss)) ∷ at_places f ss

-- an update for each relation that passes the test
abbrev pub updates_of : (Sym → Bool) → (Sym → List SortId → Formula) → List RelShape → List Update
updates_of keep body [] = []
updates_of keep body (r ∷ rs) = cond (keep r.sym) (update.Relation r.sym r.sorts (body r.sym r.sorts) ∷ updates_of keep body rs) (updates_of keep body rs)

abbrev pub with_copy : Sym → List Update → List Update
with_copy (Copy n) us = update.Constant (Copy n) (Const (Own n)) ∷ us
with_copy sym us = us

-- each copy of a constant becomes the constant
abbrev pub copies_of : List ConShape → List Update
copies_of [] = []
copies_of (c ∷ cs) = with_copy c.sym (copies_of cs)

-- the relation for the tuple itself
abbrev pub itself : Sym → List SortId → Formula
itself sym sorts = Atom sym (tuple_variables (length sorts))

abbrev pub touched_term : SortId → Term → Formula
touched_term sort t = Atom (Touched sort) (t ∷ [])

-- ---- opening

-- the words that the monitor adds to a structure
abbrev pub is_added : Sym → Bool
is_added (Own n) = false
is_added (Witness n) = false
is_added (Label n) = false
is_added Frozen = true
is_added Saved = true
is_added (Touched s) = true
is_added (Kept s) = true
is_added (Due n) = true
is_added (Copy n) = true
is_added (CopyLabel n) = true
is_added (Next n) = false
is_added (Param n) = false

abbrev pub start_body : Parts → Sym → List SortId → Formula
start_body p (Own n) sorts = False
start_body p (Witness n) sorts = False
start_body p (Label n) sorts = False
start_body p Frozen sorts = False
start_body p Saved sorts = False
start_body p (Touched s) sorts = first_touched p s (Var 0)
start_body p (Kept s) sorts = False
start_body p (Due n) sorts = And (at_places (first_touched p) sorts)
start_body p (Copy n) sorts = itself (Own n) sorts
start_body p (CopyLabel n) sorts = itself (Label n) sorts
start_body p (Next n) sorts = False
start_body p (Param n) sorts = False

abbrev pub start_updates_of : Problem → List Update
start_updates_of q = updates_of is_added (start_body q.parts) (catch_vocabulary q).relations ++ copies_of (catch_vocabulary q).constants

-- ---- moves

-- the words that change in a step with the move, the own symbols aside
abbrev pub is_changed : Move → Sym → Bool
is_changed mv (Own n) = false
is_changed mv (Witness n) = false
is_changed mv (Label n) = true
is_changed mv Frozen = is_freeze mv
is_changed mv Saved = is_save mv
is_changed mv (Touched s) = true
is_changed mv (Kept s) = is_freeze mv
is_changed mv (Due n) = true
is_changed mv (Copy n) = is_save mv
is_changed mv (CopyLabel n) = is_save mv
is_changed mv (Next n) = false
is_changed mv (Param n) = false

-- what is due after the move: what was, or all tuples over the touched elements
abbrev pub due_then : Move → ℕ → List SortId → List Formula
due_then mv n sorts = cond (is_freeze mv || is_save mv) (at_places touched_term sorts) (itself (Due n) sorts ∷ [])

abbrev pub move_body : Problem → Action → Move → Sym → List SortId → Formula
move_body q a mv (Own n) sorts = False
move_body q a mv (Witness n) sorts = False
move_body q a mv (Label n) sorts = itself (Next n) sorts
move_body q a mv Frozen sorts = True
move_body q a mv Saved sorts = True
move_body q a mv (Touched s) sorts = touched_after_of q.parts a s
move_body q a mv (Kept s) sorts = touched_term s (Var 0)
move_body q a mv (Due n) sorts = And (due_then mv n sorts ++ Not (justice_at q n).body ∷ [])
move_body q a mv (Copy n) sorts = itself (Own n) sorts
move_body q a mv (CopyLabel n) sorts = itself (Label n) sorts
move_body q a mv (Next n) sorts = False
move_body q a mv (Param n) sorts = False

abbrev pub move_updates_of : Problem → Action → Move → List Update
move_updates_of q a mv = updates_of (is_changed mv) (move_body q a mv) (catch_vocabulary q).relations ++ cond (is_save mv) (copies_of (catch_vocabulary q).constants) []

-- ---- the action

-- the words of the parameters
abbrev pub param_terms : ℕ → List SortId → List Term
param_terms n [] = []
param_terms n (s ∷ ss) = Const (Param n) ∷ param_terms (suc n) ss

-- a formula that stands in the parameters followed by a tuple's places, with the words of the parameters in place of them
abbrev pub with_params : Action → List SortId → Formula → Formula
with_params a sorts body = instantiate_of (reverse (param_terms 0 a.params ++ tuple_variables (length sorts))) body

abbrev pub own_update : Parts → Action → ActionUpdate → Update
own_update p a (Relation symbol body) = update.Relation (Own symbol) (sorts_at p symbol) (with_params a (sorts_at p symbol) body)
own_update p a (Constant symbol term) = update.Constant (Own symbol) (param_term (length a.params) term)

abbrev pub own_updates : Parts → Action → List ActionUpdate → List Update
own_updates p a [] = []
own_updates p a (u ∷ us) = own_update p a u ∷ own_updates p a us

-- the updates of a step: those of the action, and those of the move
abbrev pub step_updates_of : Problem → Action → Move → List Update
step_updates_of q a mv = own_updates q.parts a a.updates ++ move_updates_of q a mv
