-- What a symbol becomes by the updates of a step: those of the action, and those of the move behind them.
use Rattle.std.proofs.Common.{◌≡◌, ℕ, Bool, true, false, eqb, cond, List, [], ◌∷◌, ◌++◌, length, Some, None, refl, ap, ◌∙◌}
use Rattle.lv_formula.specs.declared.symbols.SortId.{SortId}
use Rattle.lv_formula.specs.declared.symbols.Sym.{Sym}
use Rattle.lv_formula.specs.declared.symbols.Sym.TheVariants.{Own}
use Rattle.lv_formula.specs.declared.update.Update.{Update}
use Rattle.lv_formula.specs.Symbols.{sym_eq}
use Rattle.lv_formula.specs.Updated.{body_in, term_in}
use Rattle.lv_formula.specs.Vocabulary.{relation_in}
use Rattle.lv_system.specs.declared.parts.Parts.{Parts}
use Rattle.lv_system.specs.declared.parts.Action.{Action}
use Rattle.lv_system.specs.declared.parts.ActionUpdate.{ActionUpdate}
use Rattle.lv_system.specs.declared.parts.ActionUpdate.TheVariants.{Relation, Constant}
use Rattle.lv_system.specs.Step.{sorts_at}
use Rattle.lv_labels.specs.Problem.{Problem}
use Rattle.lv_labels.specs.declared.moves.Move.{Move}
use Rattle.lv_labels.specs.Monitor.{is_save}
use Rattle.lv_labels.specs.Vocabularies.{catch_vocabulary}
use Rattle.lv_footprint.specs.Footprint.{param_term}
use Rattle.lv_monitor.specs.Updates.{copies_of, is_changed, move_body, move_updates_of, own_updates, with_params}
use Rattle.lv_monitor.proofs.Lookups.{body_kept, body_left, copied, no_body, no_term, term_left}

pub own_naming : (i j : ℕ) → sym_eq (Own i) (Own j) ≡ eqb i j
unfolding sym_eq
own_naming i j = refl

-- no own symbol
abbrev pub NotOwn : Sym → Type 0
NotOwn s = (n : ℕ) → sym_eq (Own n) s ≡ false

module _ (p : Parts) (a : Action) (more : List Update) where
  -- what is no own symbol is left to the updates behind those of the action
  pub body_behind : (s : Sym) → NotOwn s → (us : List ActionUpdate) → body_in (own_updates p a us ++ more) s ≡ body_in more s
  body_behind s h [] = refl
  body_behind s h (Relation symbol body ∷ us) =
      ap (λ c. cond c (Some (with_params a (sorts_at p symbol) body)) (body_in (own_updates p a us ++ more) s)) (h symbol) ∙ body_behind s h us
  body_behind s h (Constant symbol term ∷ us) = body_behind s h us

  pub term_behind : (s : Sym) → NotOwn s → (us : List ActionUpdate) → term_in (own_updates p a us ++ more) s ≡ term_in more s
  term_behind s h [] = refl
  term_behind s h (Relation symbol body ∷ us) = term_behind s h us
  term_behind s h (Constant symbol term ∷ us) =
      ap (λ c. cond c (Some (param_term (length a.params) term)) (term_in (own_updates p a us ++ more) s)) (h symbol) ∙ term_behind s h us

module _ (q : Problem) (a : Action) (mv : Move) where
  -- what a save makes of constants
  abbrev pub copies : List Update
  copies = cond (is_save mv) (copies_of (catch_vocabulary q).constants) []

  no_body_there : (s : Sym) → body_in copies s ≡ None
  no_body_there s = by (is_save mv)
    where
      by : (b : Bool) → body_in (cond b (copies_of (catch_vocabulary q).constants) []) s ≡ None
      by true = no_body (catch_vocabulary q).constants s
      by false = refl

  pub no_term_there : (s : Sym) → copied s ≡ None → term_in copies s ≡ None
  no_term_there s h = by (is_save mv)
    where
      by : (b : Bool) → term_in (cond b (copies_of (catch_vocabulary q).constants) []) s ≡ None
      by true = no_term (catch_vocabulary q).constants s h
      by false = refl

  -- a relation that the move changes becomes its body, and another stays
  pub moved : (s : Sym) (sorts : List SortId) → is_changed mv s ≡ true → relation_in (catch_vocabulary q).relations s ≡ Some sorts → body_in (move_updates_of q a mv) s ≡ Some (move_body q a mv s sorts)
  moved s sorts k is = body_kept (is_changed mv) (move_body q a mv) copies s k (catch_vocabulary q).relations sorts is

  pub left : (s : Sym) → is_changed mv s ≡ false → body_in (move_updates_of q a mv) s ≡ None
  left s k = body_left (is_changed mv) (move_body q a mv) copies s k (catch_vocabulary q).relations ∙ no_body_there s

  -- of constants a move tells the copies alone
  pub term_moves : (s : Sym) → term_in (move_updates_of q a mv) s ≡ term_in copies s
  term_moves s = term_left (is_changed mv) (move_body q a mv) copies s (catch_vocabulary q).relations
