-- A system over a sort, with a parameter, a witness and a changing constant: its obligations are valid, and it has a labelled
-- run with a round after a freeze. With fewer invariants a structure is caught in which the constant has moved.
use Rattle.std.specs.Prelude.{ℕ, zero, suc, Bool, true, false, eqb, List, [], ◌∷◌, codes}
use Rattle.lv_formula.specs.declared.symbols.Sym.{Sym}
use Rattle.lv_formula.specs.declared.symbols.Sym.TheVariants.{Own, Witness, Label, Frozen, Saved, Kept, Due, Copy}
use Rattle.lv_formula.specs.declared.terms.Term.TheVariants.{Var, Const}
use Rattle.lv_formula.specs.declared.formula.Formula.{Formula}
use Rattle.lv_formula.specs.declared.formula.Formula.TheVariants as F
use Rattle.lv_formula.specs.declared.temporal.Temporal.{Temporal}
use Rattle.lv_formula.specs.declared.temporal.Temporal.TheVariants as T
use Rattle.lv_formula.specs.Meaning.{Meaning}
use Rattle.lv_system.specs.declared.parts.Parts.{Parts}
use Rattle.lv_system.specs.declared.parts.Shape.TheVariants as S
use Rattle.lv_system.specs.declared.parts.ActionUpdate.TheVariants as U
use Rattle.lv_system.specs.declared.parts.Invariant.{Invariant}
use Rattle.lv_system.specs.Step.{action_at, performed}
use Rattle.lv_labels.specs.Runs.{Run}
use Rattle.lv_temporal.specs.Samples.{node}

-- variable i was seen, the constant `at` is it, and it is done
abbrev pub seen : ℕ → Formula
seen i = F.Atom (Own 1) (Var i ∷ [])

abbrev pub is_at : ℕ → Formula
is_at i = F.Same (Const (Own 0)) (Var i)

abbrev pub done_then : Temporal
done_then = T.Atom (Own 2) (Var 0 ∷ [])

-- the witness w: it is never done; it is due to be visited; it was seen; it is done
abbrev pub w_missed : Formula
w_missed = F.Atom (Label 0) (Const (Witness 0) ∷ [])

abbrev pub w_due : Formula
w_due = F.Atom (Due 0) (Const (Witness 0) ∷ [])

abbrev pub w_seen : Formula
w_seen = F.Atom (Own 1) (Const (Witness 0) ∷ [])

abbrev pub w_done : Formula
w_done = F.Atom (Own 2) (Const (Witness 0) ∷ [])

-- (system visits
--   (sort node)
--   (constant at node)
--   (relation seen (node))
--   (relation done (node))
--   (action move (X node) (guard true) (set at X) (set seen (Y) (or (seen Y) (= at Y))) (set done (Y) (seen Y)))
--   (fair visited (K node) (= at K))
--   (label missed (K node) (always (not (done K))))
--   (witness w (K node) (always (not (done K))))
--   (property (all K node (eventually (done K))))
--   .. and these invariants)
-- A node is done one step after it was seen, and seen one step after `at` was there.
abbrev pub visits_with : List Invariant → Parts
visits_with invariants = record {
  name = codes "visits";
  sorts = record { name = codes "node"; finite = false } ∷ [];
  symbols = record { name = codes "at"; shape = S.Constant node; fixed = false }
      ∷ (record { name = codes "seen"; shape = S.Relation (node ∷ []); fixed = false }
      ∷ (record { name = codes "done"; shape = S.Relation (node ∷ []); fixed = false } ∷ []));
  axioms = [];
  inits = [];
  actions = record {
    name = codes "move";
    params = node ∷ [];
    guard = F.True;
    updates = U.Constant 0 (Var 0) ∷ (U.Relation 1 (F.Or (seen 0 ∷ (is_at 0 ∷ []))) ∷ (U.Relation 2 (seen 0) ∷ []));
  } ∷ [];
  fairs = record { name = codes "visited"; params = node ∷ []; condition = is_at 0 } ∷ [];
  labels = record { name = codes "missed"; params = node ∷ []; formula = T.Always (T.Not done_then) } ∷ [];
  witnesses = record { name = codes "w"; sort = node; formula = T.Always (T.Not done_then) } ∷ [];
  property = T.All node (T.Eventually done_then);
  invariants = invariants;
}

-- (invariant v1 (missed w))
abbrev pub missed_stays : Invariant
missed_stays = record { name = codes "v1"; formula = w_missed }

-- (invariant v2 (or (due.visited w) (seen w)))
abbrev pub due_or_seen : Invariant
due_or_seen = record { name = codes "v2"; formula = F.Or (w_due ∷ (w_seen ∷ [])) }

-- (invariant v3 (implies frozen (and (seen w) (done w))))
abbrev pub frozen_then_done : Invariant
frozen_then_done = record { name = codes "v3"; formula = F.Implies (F.Atom Frozen []) (F.And (w_seen ∷ (w_done ∷ []))) }

-- (invariant v4 (not saved))
abbrev pub never_saved : Invariant
never_saved = record { name = codes "v4"; formula = F.Not (F.Atom Saved []) }

-- its obligations are valid
abbrev pub visits : Parts
visits = visits_with (missed_stays ∷ (due_or_seen ∷ (frozen_then_done ∷ (never_saved ∷ []))))

-- ---- a labelled run of it

abbrev pub only_missed : Sym → List ℕ → Bool
only_missed (Label l) tuple = true
only_missed sym tuple = false

-- one node, at which the run is, which is not seen, and of which the label says that it is never done
abbrev pub unseen : Meaning
unseen = record { size = λ s. 1; holds = only_missed; value = λ c. 0 }

-- the structure after so many moves to the node
abbrev pub after_moves : ℕ → Meaning
after_moves zero = unseen
after_moves (suc i) = performed visits (action_at visits 0) (0 ∷ []) (after_moves i)

-- two moves: at the third position the node is done, and the run ends
abbrev pub two_moves : Run
two_moves = record { at = after_moves; action = λ i. 0; elements = λ i. 0 ∷ []; last = 2 }

-- ---- a caught structure of the system with two invariants alone

abbrev pub unguarded : Parts
unguarded = visits_with (missed_stays ∷ (due_or_seen ∷ []))

abbrev pub is_first : List ℕ → Bool
is_first [] = false
is_first (x ∷ []) = eqb x 0
is_first (x ∷ (y ∷ ys)) = false

-- node 0 alone is kept, nothing is due, and all else is true
abbrev pub caught_holds : Sym → List ℕ → Bool
caught_holds (Kept sort) tuple = is_first tuple
caught_holds (Due j) tuple = false
caught_holds sym tuple = true

abbrev pub caught_value : Sym → ℕ
caught_value (Own c) = 1
caught_value (Copy c) = 2
caught_value sym = 0

-- three nodes: `at` is node 1 and was saved as node 2, both outside the kept ones; w is node 0
abbrev pub moved_outside : Meaning
moved_outside = record { size = λ s. 3; holds = caught_holds; value = caught_value }
