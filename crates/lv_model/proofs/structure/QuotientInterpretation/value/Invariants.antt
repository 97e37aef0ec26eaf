use Rattle.std.proofs.Common.{◌≡◌, drop}
use Rattle.lv_model.specs.Quotients.{element_in}
use Rattle.lv_model.proofs.structure.QuotientInterpretation.value.Given as goal

abbrev pub invariant-loop-constant : goal.invariant-loop-constant
invariant-loop-constant l = element_in (drop l.constant-index l.constant-items) l.sym ≡ element_in l.self.elements l.sym
