use Rattle.std.proofs.Common.{sym, subst}
use Rattle.std.proofs.lemmas.Result.{IfOk-weaker}
use Rattle.lv_formula.specs.Pairs.{SentencesFit}
use Rattle.lv_decide.specs.Decisions.{IsDecision}
use Rattle.lv_prove.specs.Outcomes.{IsDecisionAt}
use Rattle.lv_prove.proofs.Decisions.{decision_at}
use Rattle.lv_prove.proofs.outcome.decide_at.Goals as goal

pub decide-requires-clause-fit : goal.decide-requires-clause-fit
decide-requires-clause-fit c = subst (λ voc. SentencesFit voc c.in_ok-s.s) (sym c.in_ok-voc.ensures.value) (c.in_ok-s.ensures.fit c.requires.invariants)

pub returns : goal.returns
returns c = IfOk-weaker c.decide.result (IsDecision c.in_ok-voc.voc c.in_ok-s.s c.args.budget) (IsDecisionAt c.args.system.now c.args.i c.args.budget)
    (λ d h. decision_at c.args.system.now c.args.i c.args.budget c.in_ok-voc.voc c.in_ok-s.s d c.in_ok-voc.ensures.value c.in_ok-s.ensures.list (c.in_ok-s.ensures.truth c.requires.invariants) h)
    c.decide.ensures
