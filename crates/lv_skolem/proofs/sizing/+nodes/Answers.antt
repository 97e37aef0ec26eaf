use Rattle.std.proofs.Common.{◌+◌, ◌*◌, sym, ap, ap₂, ◌∙◌}
use Rattle.lv_formula.proofs.Folds.{fold-All}
use Rattle.lv_places.specs.Forms.{Form, form_step, form_of}
use Rattle.lv_places.specs.Universes.{count_at}
use Rattle.lv_places.specs.Sizes.{form_nodes}
use Rattle.lv_skolem.specs.Counting.{capped}
use Rattle.lv_skolem.proofs.Capped.{capped_each}
use Rattle.lv_skolem.proofs.sizing.+nodes.Goals as goal

pub nodes_of-returns-in-All : goal.nodes_of-returns-in-All
nodes_of-returns-in-All t c =
    let n = count_at c.args.counts.now in
    let body = c.nodes_of.ensures ∙ ap (λ g. capped (form_nodes n (form_of g))) c.deref.ensures in
    let all = ap (λ g. capped (form_nodes n (form_of g))) c.in-All.is ∙ ap (λ x. capped (form_nodes n x)) (fold-All Form form_step c.in-All.sort c.in-All.f) in
    c.add.ensures ∙ ap (λ x. capped (1 + x)) (c.multiply.ensures ∙ ap₂ (λ a b. capped (a * b)) c.capped_count.ensures body)
    ∙ capped_each (n c.in-All.sort) (form_nodes n (form_of c.in-All.f)) ∙ sym all
