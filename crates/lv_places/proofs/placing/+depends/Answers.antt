use Rattle.std.proofs.Common.{◌-◌, false, get_or, sym, ap, subst, ◌∙◌}
use Rattle.lv_places.specs.Forms.{form_of}
use Rattle.lv_places.specs.Places.{needs}
use Rattle.lv_places.specs.Arounds.{binders_of, IsRight}
use Rattle.lv_places.proofs.Marks.{needs_marked}
use Rattle.lv_places.proofs.placing.+depends.Goals as goal

pub returns-then-x-eq0-2 : goal.returns-then-x-eq0-2
returns-then-x-eq0-2 t c =
    let right = subst IsRight c.in-Chosen.is c.requires in
    c.is_marked.ensures ∙ ap (λ l. get_or l (c.args.y - 1) false) right.0
    ∙ needs_marked (binders_of c.in-Chosen.outer.now) c.in-Chosen.field-0 (form_of c.in-Chosen.field-1.now) c.args.y c.if-y-eq0.false
    ∙ sym (ap (λ a. needs (binders_of a) 0 c.args.y) c.in-Chosen.is) ∙ sym (ap (λ x. needs (binders_of c.args.around.now) x c.args.y) c.if-x-eq0-2.true)
