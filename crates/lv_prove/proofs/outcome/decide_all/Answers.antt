use Rattle.std.proofs.Common.{arith}
use Rattle.lv_prove.proofs.Decisions.{all_valid, holds}
use Rattle.lv_prove.proofs.outcome.decide_all.Goals as goal

pub decide_at-requires-clause-stratified : goal.decide_at-requires-clause-stratified
decide_at-requires-clause-stratified c = c.requires.fragment.stratified c.loop-index.index (omega (arith, c.loop-index-test.true, c.count-obligations.ensures))

pub decide_at-requires-clause-small : goal.decide_at-requires-clause-small
decide_at-requires-clause-small c = c.requires.fragment.small c.loop-index.index (omega (arith, c.loop-index-test.true, c.count-obligations.ensures))

pub returns : goal.returns
returns c =
    let valid = all_valid c.args.system.now c.loop-index.index (omega (arith, c.loop-index-test.false, c.count-obligations.ensures)) c.loop-index.invariant in
    record { outcome = (c.requires.fragment, valid, c.count-obligations.ensures); holds = holds c.args.system.now c.parts-parts.ensures.fitting c.requires.invariants valid }
