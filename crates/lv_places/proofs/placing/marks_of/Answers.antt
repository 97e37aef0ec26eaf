use Rattle.std.proofs.Common.{◌≡◌, ◌+◌, length, ap, ◌∙◌, arith}
use Rattle.lv_places.specs.Forms.{form_of, free}
use Rattle.lv_places.specs.Places.{marks_to}
use Rattle.lv_places.specs.Arounds.{binders_of}
use Rattle.lv_places.proofs.Marks.{marks_step}
use Rattle.lv_places.proofs.placing.marks_of.Goals as goal

pub loop-y-preserved : goal.loop-y-preserved
loop-y-preserved c =
    let g = binders_of c.args.around.now in
    let f = form_of c.args.body.now in
    let n : c.loop-x.x ≡ length g = omega (arith, c.in_ok-n.ensures, c.loop-x-test.false, c.loop-x.auto.x-end) in
    let used : c.as_slice.result.now ≡ marks_to (length g) (λ x. free (x + 1) f) = c.as_slice.ensures.value ∙ c.loop-x.invariant
    ∙ ap (λ k. marks_to k (λ x. free (x + 1) f)) n in
    c.in_ok-push-2.ensures.items ∙ marks_step g f c.loop-y.y c.as_slice.result.now c.loop-y.marks.items c.some_depends.result used c.loop-y.invariant c.some_depends.ensures
