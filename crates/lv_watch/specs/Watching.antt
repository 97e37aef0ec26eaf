-- Clauses that watch their first two literals, under a trail.
use Rattle.std.specs.Prelude.{◌≡◌, ℕ, ◌<◌, ◌≤◌, true, List, length}
use Rattle.std.specs.List.{All, Contains}
use Rattle.lv_cnf.specs.declared.literal.Lit.{Lit}
use Rattle.lv_cnf.specs.Literals.{InRange}
use Rattle.lv_cnf.specs.Packed.{at, clause_at}
use Rattle.lv_watch.specs.declared.trail.Trail.{Trail}
use Rattle.lv_watch.specs.Values.{held, before}
use Rattle.lv_watch.specs.Lists.{IsIndex, AllDistinct, AllPairs}
use Rattle.lv_watch.specs.Trail.{HasTrail}

-- l holds, and did before every decision
abbrev pub IsFixed : Trail → Lit → Type 0
IsFixed trail l = (held trail.values.items l ≡ true) × ((p : ℕ) → Contains trail.starts.items p → before trail.values.items p l ≡ true)

-- clauses of different literals, each in the lists of its two first literals; and at each decision the pairs of
-- watched literals as propagation left them, with the literals of units
pub record IsWatching (clauses : List (List Lit)) (lists : List (List ℕ)) (trail : Trail) : Type 0 where
  pub range : All (InRange (length trail.values.items)) clauses
  pub distinct : AllDistinct clauses
  pub some : (i : ℕ) → i < length clauses → 1 ≤ length (clause_at clauses i)
  pub index : IsIndex (length trail.values.items) clauses lists
  pub sound : HasTrail clauses trail
  pub units : (i : ℕ) → i < length clauses → length (clause_at clauses i) ≡ 1 → IsFixed trail (at (clause_at clauses i) 0)
  pub starts : (p : ℕ) → Contains trail.starts.items p → AllPairs (before trail.values.items p) (before trail.values.items p) clauses
