-- The new constants of updates are constants.
use Rattle.std.proofs.Common.{◌≡◌, ℕ, Bool, true, false, cond, List, [], ◌∷◌, ◌++◌, length, refl}
use Rattle.lv_formula.specs.declared.symbols.SortId.{SortId}
use Rattle.lv_formula.specs.declared.symbols.Sym.{Sym}
use Rattle.lv_formula.specs.declared.symbols.Sym.TheVariants.{Own, Witness, Label, Frozen, Saved, Touched, Kept, Due, Copy, CopyLabel, Next, Param}
use Rattle.lv_formula.specs.declared.terms.Term.{Term}
use Rattle.lv_formula.specs.declared.terms.Term.TheVariants.{Var, Const}
use Rattle.lv_formula.specs.declared.update.Update.{Update}
use Rattle.lv_formula.specs.declared.update.Update.TheVariants as update
use Rattle.lv_formula.specs.declared.vocabulary.RelShape.{RelShape}
use Rattle.lv_formula.specs.declared.vocabulary.ConShape.{ConShape}
use Rattle.lv_formula.specs.declared.formula.Formula.{Formula}
use Rattle.lv_rewrite.specs.Tables.{are_constants}
use Rattle.lv_system.specs.declared.parts.Action.{Action}
use Rattle.lv_system.specs.declared.parts.ActionUpdate.{ActionUpdate}
use Rattle.lv_system.specs.declared.parts.ActionUpdate.TheVariants.{Relation, Constant}
use Rattle.lv_labels.specs.Problem.{Problem}
use Rattle.lv_labels.specs.declared.moves.Move.{Move}
use Rattle.lv_labels.specs.Monitor.{is_save}
use Rattle.lv_labels.specs.Vocabularies.{catch_vocabulary}
use Rattle.lv_footprint.specs.Footprint.{param_term}
use Rattle.lv_monitor.specs.Updates.{copies_of, is_added, is_changed, move_body, move_updates_of, own_updates, start_body, start_updates_of, step_updates_of, updates_of, with_copy}

constants_updates : (keep : Sym → Bool) (body : Sym → List SortId → Formula) (more : List Update) (rs : List RelShape) → are_constants more ≡ true → are_constants (updates_of keep body rs ++ more) ≡ true
constants_updates keep body more [] h = h
constants_updates keep body more (r ∷ rs) h = by (keep r.sym) (constants_updates keep body more rs h)
  where
    by : (b : Bool) → are_constants (updates_of keep body rs ++ more) ≡ true → are_constants (cond b (update.Relation r.sym r.sorts (body r.sym r.sorts) ∷ updates_of keep body rs) (updates_of keep body rs) ++ more) ≡ true
    by true rest = rest
    by false rest = rest

constants_copies : (cs : List ConShape) → are_constants (copies_of cs) ≡ true
constants_copies [] = refl
constants_copies (c ∷ cs) = by c.sym (constants_copies cs)
  where
    by : (s : Sym) → are_constants (copies_of cs) ≡ true → are_constants (with_copy s (copies_of cs)) ≡ true
    by (Copy n) rest = rest
    by (Own n) rest = rest
    by (Witness n) rest = rest
    by (Label n) rest = rest
    by Frozen rest = rest
    by Saved rest = rest
    by (Touched t) rest = rest
    by (Kept t) rest = rest
    by (Due n) rest = rest
    by (CopyLabel n) rest = rest
    by (Next n) rest = rest
    by (Param n) rest = rest

pub start_constants : (q : Problem) → are_constants (start_updates_of q) ≡ true
start_constants q = constants_updates is_added (start_body q.parts) (copies_of (catch_vocabulary q).constants) (catch_vocabulary q).relations (constants_copies (catch_vocabulary q).constants)

pub step_constants : (q : Problem) (a : Action) (mv : Move) → are_constants (step_updates_of q a mv) ≡ true
step_constants q a mv = own a.updates
  where
    moved : (b : Bool) → are_constants (cond b (copies_of (catch_vocabulary q).constants) []) ≡ true
    moved true = constants_copies (catch_vocabulary q).constants
    moved false = refl

    constant : (t : Term) (us : List ActionUpdate) → are_constants (own_updates q.parts a us ++ move_updates_of q a mv) ≡ true → (n : ℕ) → are_constants (update.Constant (Own n) (param_term (length a.params) t) ∷ (own_updates q.parts a us ++ move_updates_of q a mv)) ≡ true
    constant (Var i) us rest n = rest
    constant (Const s) us rest n = rest

    own : (us : List ActionUpdate) → are_constants (own_updates q.parts a us ++ move_updates_of q a mv) ≡ true
    own [] = constants_updates (is_changed mv) (move_body q a mv) (cond (is_save mv) (copies_of (catch_vocabulary q).constants) []) (catch_vocabulary q).relations (moved (is_save mv))
    own (Relation symbol body ∷ us) = own us
    own (Constant symbol term ∷ us) = constant term us (own us) symbol
