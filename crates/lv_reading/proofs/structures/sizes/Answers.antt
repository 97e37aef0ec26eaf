use Rattle.std.proofs.Common.{◌+◌, ◌-◌, ◌++◌, ◌∷◌, [], sym, ◌∙◌}
use Rattle.std.proofs.lemmas.Result.{err_from_is_err_and}
use Rattle.lv_fault.specs.Behind.{front_behind}
use Rattle.lv_reading.specs.Structures.{next_size, sizes_in}
use Rattle.lv_fault.proofs.BehindLaws.{goes_on, stops}
use Rattle.lv_reading.proofs.StructureSteps.{sizes_end, sizes_many, sizes_some, sizes_split}
use Rattle.lv_reading.proofs.structures.sizes.Goals as goal

pub returns-in_err-size-clause-given : goal.returns-in_err-size-clause-given
returns-in_err-size-clause-given c =
    let p = err_from_is_err_and c.from_residual.result c.from_residual.ensures.1 in
    let split = sizes_split c.args.parts.now c.args.end c.loop-k.sizes.items c.loop-k.k c.args.sorts c.loop-k.rest.now c.loop-k-test.true in
    rw (p.1, p.2) (stops c.in_err-size.field-0.0 (next_size c.args.parts.now c.args.end c.loop-k.k c.loop-k.rest.now) _ _ c.in_err-size.ensures (sym split ∙ c.loop-k.invariant))

pub loop-k-preserved : goal.loop-k-preserved
loop-k-preserved c =
    let split = sizes_split c.args.parts.now c.args.end c.loop-k.sizes.items c.loop-k.k c.args.sorts c.loop-k.rest.now c.loop-k-test.true in
    rw c.in_ok-push.ensures.items
    (goes_on (next_size c.args.parts.now c.args.end c.loop-k.k c.loop-k.rest.now)
    (λ a. front_behind (c.loop-k.sizes.items ++ a.0 ∷ []) (sizes_in c.args.parts.now c.args.end (c.loop-k.k + 1) (c.args.sorts - (c.loop-k.k + 1)) a.1))
    (c.in_ok-size.size, c.in_ok-size.others.now) _ c.in_ok-size.ensures (sym split ∙ c.loop-k.invariant))

pub returns-clause-given : goal.returns-clause-given
returns-clause-given c = sizes_end c.args.parts.now c.args.end c.loop-k.sizes.items c.loop-k.k c.args.sorts c.loop-k.rest.now _ c.loop-k-test.false c.loop-k.invariant

pub returns-clause-many : goal.returns-clause-many
returns-clause-many c = sizes_many c.args.parts.now c.args.end 0 c.args.sorts c.args.items.now _ (returns-clause-given c)

pub returns-clause-elements : goal.returns-clause-elements
returns-clause-elements c = sizes_some c.args.parts.now c.args.end 0 c.args.sorts c.args.items.now _ (returns-clause-given c)
