use Rattle.std.proofs.Common.{◌≡◌, ◌++◌, drop, map, eqb}
use Rattle.lv_struct.specs.Tables.{meaning}
use Rattle.lv_formula.specs.Truth.{value_of}
use Rattle.lv_replay.specs.Rows.{plain}
use Rattle.lv_replay.proofs.rows.same_row.Given as goal

abbrev pub invariant-loop-m : goal.invariant-loop-m
invariant-loop-m l = l.row.items ++ map (λ m. eqb (value_of (plain m) l.values l.a) (value_of (plain m) l.values l.b)) (map meaning (drop l.m-index l.states)) ≡ map (λ m. eqb (value_of (plain m) l.values l.a) (value_of (plain m) l.values l.b)) (map meaning l.states)
