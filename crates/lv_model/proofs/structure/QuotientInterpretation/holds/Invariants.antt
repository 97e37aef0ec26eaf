use Rattle.std.proofs.Common.{◌≡◌, drop}
use Rattle.lv_model.specs.Quotients.{rows_hold}
use Rattle.lv_model.proofs.structure.QuotientInterpretation.holds.Given as goal

abbrev pub invariant-loop-row : goal.invariant-loop-row
invariant-loop-row l = rows_hold (drop l.row-index l.row-items) l.sym l.tuple ≡ rows_hold l.self.rows l.sym l.tuple
