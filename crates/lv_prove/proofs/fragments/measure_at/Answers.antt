use Rattle.std.proofs.Common.{IfOk, sym, subst}
use Rattle.lv_formula.specs.Pairs.{SentencesFit}
use Rattle.lv_decide.specs.Fragments.{IsFragment}
use Rattle.lv_prove.specs.Outcomes.{sentences_at}
use Rattle.lv_prove.proofs.fragments.measure_at.Goals as goal

pub measure-requires : goal.measure-requires
measure-requires c = subst (λ voc. SentencesFit voc c.in_ok-s.s) (sym c.in_ok-voc.ensures.value) (c.in_ok-s.ensures.fit c.requires.invariants)

pub returns : goal.returns
returns c = subst (λ voc. IfOk c.measure.result (IsFragment voc (sentences_at c.args.system.now c.args.i))) c.in_ok-voc.ensures.value
    (subst (λ s. IfOk c.measure.result (IsFragment c.in_ok-voc.voc s)) c.in_ok-s.ensures.list c.measure.ensures)
