use Rattle.std.proofs.Common.{rules, ◌≡◌, ◌-◌, ◌<◌, ◌≤◌, ◌∙◌, false, refl, sym, ap, arith}
use Rattle.lv_cnf.specs.Literals.{negated}
use Rattle.lv_sat.specs.Analysis.{mark_at}
use Rattle.lv_sat.proofs.Collecting.{collects_none, collects_skip, collects_more, collects_end, start_inside}
use Rattle.lv_sat.proofs.analysis.Analysis.learned.Goals as goal

pub loop-place-init : goal.loop-place-init
loop-place-init c = rw c.new-others.ensures.items (collects_none c.args.trail.now c.args.self.now)

pub loop-place-preserved : goal.loop-place-preserved
loop-place-preserved c =
    let above : c.args.self.now.first < c.loop-place.place = c.loop-place-test.true in
    let off : mark_at c.args.self.now.marks.items (c.loop-place.place - 1) ≡ false = sym c.is_marked.ensures ∙ c.if-is_marked.false in
    collects_skip c.args.trail.now c.args.self.now c.loop-place.others.items c.loop-place.bound c.loop-place.place (c.loop-place.place - 1)
    (omega (arith, above))
    c.loop-place.invariant off

pub loop-place-preserved-then-is_marked : goal.loop-place-preserved-then-is_marked
loop-place-preserved-then-is_marked c =
    let above : c.args.self.now.first < c.loop-place.place = c.loop-place-test.true in
    let res = c.requires.1 in
    let inside = start_inside c.requires.0 c.args.trail.now c.args.self.now res in
    let le = c.loop-place.invariant.place_le in
    rw (c.in_ok-push.ensures.items, c.negated.ensures, c.lit_at.ensures, c.first_of-bound.ensures)
    (collects_more c.args.trail.now c.args.self.now c.loop-place.others.items c.loop-place.bound c.loop-place.place (c.loop-place.place - 1)
    (omega (arith, above))
    c.loop-place.invariant c.requires.0 res.of_trail.sound (omega (arith, inside, le, above)) (omega (arith, inside)))

pub returns : goal.returns
returns c clauses res =
    let done : c.loop-place.place ≤ c.args.self.now.first = search rules in
    collects_end clauses c.args.trail.now c.args.self.now c.loop-place.others.items c.loop-place.bound c.loop-place.place
    (record { others = c.loop-place.others; asserted = c.negated-2.result; bound = c.loop-place.bound }) res c.loop-place.invariant done refl refl
    (c.negated-2.ensures ∙ ap negated c.lit_at-2.ensures)
