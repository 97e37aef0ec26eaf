use Rattle.std.proofs.Common.{◌≡◌, drop}
use Rattle.lv_formula.specs.Tuples.{pairwise}
use Rattle.lv_struct.proofs.compare.pair_up.Given as goal

abbrev pub invariant-loop-i : goal.invariant-loop-i
invariant-loop-i g l = pairwise g.A.Matches.test (drop l.i l.a) (drop l.i l.b) ≡ pairwise g.A.Matches.test l.a l.b
