use Rattle.std.proofs.Common.{◌≡◌, ◌≤◌, ◌+◌, length, get_or, drop, sym, subst, ◌∙◌}
use Rattle.std.proofs.lemmas.Result.{err_from_is_err_and}
use Rattle.lv_formula.specs.declared.symbols.Sym.TheVariants.{Own}
use Rattle.lv_reading.specs.Structures.{entries_in, next_entry}
use Rattle.lv_fault.proofs.BehindLaws.{goes_on, stops}
use Rattle.lv_reading.proofs.StructureSteps.{entries_end, entries_split}
use Rattle.lv_reading.proofs.structures.entries.Goals as goal

pub returns-in_err-m-clause-given : goal.returns-in_err-m-clause-given
returns-in_err-m-clause-given c =
    let p = err_from_is_err_and c.from_residual.result c.from_residual.ensures.1 in
    let parts = c.args.words.now.parts.now in
    let voc = c.args.voc.now in
    let ss = c.as_slice-sym-items.result.now in
    let i = c.loop-sym.sym-index in
    let split = entries_split parts voc c.args.end c.loop-sym.m ss i c.loop-sym.rest.now c.loop-sym-test.true in
    let so_far = subst (λ xs. entries_in parts voc c.args.end c.loop-sym.m (drop i xs) c.loop-sym.rest.now ≡ entries_in parts voc c.args.end c.args.m voc.order c.args.items.now) (sym c.as_slice-sym-items.ensures) c.loop-sym.invariant.0 in
    rw (p.1, p.2) (stops c.in_err-m.field-0.0 (next_entry parts voc c.args.end c.loop-sym.m (get_or ss i (Own 0)) c.loop-sym.rest.now) _ _ c.in_err-m.ensures.given (sym split ∙ so_far))

pub loop-sym-preserved : goal.loop-sym-preserved
loop-sym-preserved c =
    let parts = c.args.words.now.parts.now in
    let voc = c.args.voc.now in
    let ss = c.as_slice-sym-items.result.now in
    let i = c.loop-sym.sym-index in
    let split = entries_split parts voc c.args.end c.loop-sym.m ss i c.loop-sym.rest.now c.loop-sym-test.true in
    let so_far = subst (λ xs. entries_in parts voc c.args.end c.loop-sym.m (drop i xs) c.loop-sym.rest.now ≡ entries_in parts voc c.args.end c.args.m voc.order c.args.items.now) (sym c.as_slice-sym-items.ensures) c.loop-sym.invariant.0 in
    let next = goes_on (next_entry parts voc c.args.end c.loop-sym.m (get_or ss i (Own 0)) c.loop-sym.rest.now)
    (λ a. entries_in parts voc c.args.end a.0 (drop (i + 1) ss) a.1)
    (c.in_ok-m.field-0-0, c.in_ok-m.field-0-1.now) _ c.in_ok-m.ensures.given (sym split ∙ so_far) in
    (subst (λ xs. entries_in parts voc c.args.end c.in_ok-m.field-0-0 (drop (i + 1) xs) c.in_ok-m.field-0-1.now ≡ entries_in parts voc c.args.end c.args.m voc.order c.args.items.now) c.as_slice-sym-items.ensures next, c.in_ok-m.ensures.vocabulary)

pub returns-clause-given : goal.returns-clause-given
returns-clause-given c =
    let few = subst (λ xs. length xs ≤ c.loop-sym.sym-index) c.as_slice-sym-items.ensures c.loop-sym-test.false in
    entries_end c.args.words.now.parts.now c.args.voc.now c.args.end c.loop-sym.m c.args.voc.now.order c.loop-sym.sym-index c.loop-sym.rest.now _ few c.loop-sym.invariant.0
