use Rattle.lv_prove.specs.Surveying.{IsSeenBefore}
use Rattle.lv_prove.proofs.fragments.survey.Given as goal

abbrev pub invariant-loop-index : goal.invariant-loop-index
invariant-loop-index l = IsSeenBefore l.system l.index l.seen
