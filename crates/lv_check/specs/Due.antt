-- What is due of the justice conditions after a step of the monitor.
use Rattle.std.specs.Prelude.{ℕ, Bool, not, ◌&&◌, ◌||◌, cond, List, reverse, filter}
use Rattle.lv_formula.specs.declared.symbols.SortId.{SortId}
use Rattle.lv_formula.specs.declared.symbols.Sym.TheVariants.{Due}
use Rattle.lv_formula.specs.Meaning.{Meaning}
use Rattle.lv_formula.specs.Truth.{truth_in}
use Rattle.lv_formula.specs.Tuples.{over, tuples_over}
use Rattle.lv_labels.specs.declared.justice.Justice.{Justice}
use Rattle.lv_labels.specs.declared.moves.Move.{Move}
use Rattle.lv_labels.specs.Closing.{numbered}
use Rattle.lv_labels.specs.Monitor.{is_freeze, is_save, is_touched}
use Rattle.lv_labels.specs.Problem.{Condition}
use Rattle.lv_labels.specs.Rows.{condition_of}

-- the tuple of the condition with that number is due after the move
abbrev pub is_due_then : Move → Meaning → ℕ → List SortId → List ℕ → Bool
is_due_then mv m j sorts tuple = cond (is_freeze mv || is_save mv) (over (is_touched m) sorts tuple) (m.holds (Due j) tuple)

-- and the condition isn't true of it
abbrev pub is_due_after : Move → Meaning → ℕ → Condition → List ℕ → Bool
is_due_after mv m j c tuple = is_due_then mv m j c.sorts tuple && not (truth_in m c.body (reverse tuple))

abbrev pub due_after : Move → Meaning → ℕ → Condition → List (List ℕ)
due_after mv m j c = filter (is_due_after mv m j c) (tuples_over m.size c.sorts)

abbrev pub due_of : Move → Meaning → ℕ → Justice → List (List ℕ)
due_of mv m j c = due_after mv m j (condition_of c)

-- for each condition, in order
abbrev pub all_due_after : Move → Meaning → List Justice → List (List (List ℕ))
all_due_after mv m cs = numbered (due_of mv m) 0 cs
