use Rattle.std.proofs.Common.{◌+◌, sym, subst, ◌∙◌, arith}
use Rattle.lv_decide.specs.Fragments.{IsFragment}
use Rattle.lv_prove.specs.Outcomes.{sentences_at, vocabulary_at}
use Rattle.lv_prove.specs.Surveying.{IsSeenBefore}
use Rattle.lv_prove.proofs.Surveys.{seen_large, seen_size, surveyed_large, surveyed_small}
use Rattle.lv_prove.proofs.fragments.survey.Goals.{in-TooLarge, in-Size}
use Rattle.lv_prove.proofs.fragments.survey.Goals as goal

pub loop-index-preserved : goal.loop-index-preserved
loop-index-preserved c = elim c.match-branch-2.branch [
  | in-TooLarge w ↦ subst (IsSeenBefore c.args.system.now (c.loop-index.index + 1)) (sym (w.seen-is ∙ w.and_large-seen.ensures))
      (seen_large c.args.system.now c.loop-index.index c.loop-index.seen c.loop-index.invariant
      (subst (IsFragment (vocabulary_at c.args.system.now c.loop-index.index) (sentences_at c.args.system.now c.loop-index.index)) w.in-TooLarge.is c.in_ok-sorts.ensures))
  | in-Size w ↦ subst (IsSeenBefore c.args.system.now (c.loop-index.index + 1)) (sym (w.seen-is ∙ w.and_size-seen.ensures))
      (seen_size c.args.system.now c.loop-index.index w.in-Size.size c.loop-index.seen c.loop-index.invariant
      (subst (IsFragment (vocabulary_at c.args.system.now c.loop-index.index) (sentences_at c.args.system.now c.loop-index.index)) w.in-Size.is c.in_ok-sorts.ensures))
]

pub returns-in-AllSmall : goal.returns-in-AllSmall
returns-in-AllSmall c = surveyed_small c.args.system.now c.loop-index.index c.in-AllSmall.largest
    (omega (arith, c.loop-index.auto.index-end, c.loop-index-test.false, c.count-index-end.ensures))
    (subst (IsSeenBefore c.args.system.now c.loop-index.index) c.in-AllSmall.is c.loop-index.invariant)

pub returns-in-Large : goal.returns-in-Large
returns-in-Large c = surveyed_large c.args.system.now c.loop-index.index c.in-Large.first
    (omega (arith, c.loop-index.auto.index-end, c.loop-index-test.false, c.count-index-end.ensures))
    (subst (IsSeenBefore c.args.system.now c.loop-index.index) c.in-Large.is c.loop-index.invariant)
