use Rattle.std.proofs.Common.{◌≡◌, ◌++◌, drop, map}
use Rattle.lv_struct.specs.Tables.{meaning}
use Rattle.lv_replay.specs.Rows.{has_terms}
use Rattle.lv_replay.proofs.rows.atom_row.Given as goal

abbrev pub invariant-loop-m : goal.invariant-loop-m
invariant-loop-m l = l.row.items ++ map (has_terms l.sym l.terms l.values) (map meaning (drop l.m-index l.states)) ≡ map (has_terms l.sym l.terms l.values) (map meaning l.states)
