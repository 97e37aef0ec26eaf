use Rattle.std.proofs.Common.{◌≡◌, ◌++◌, map, ap, ◌∙◌}
use Rattle.lv_grammar.specs.ShownSystems.{shown_action, shown_fair, shown_label, shown_witness}
use Rattle.lv_grammar.proofs.LayoutLaw.{behind_four}
use Rattle.lv_show.proofs.items.push_moving.Goals as goal

pub returns : goal.returns
returns c =
    let p = c.args.words.now.parts.now in
    let t = c.args.trees.now.items in
    let t1 = c.push_each.new.trees.items in
    let t2 = c.push_each-2.new.trees.items in
    let t3 = c.push_each-3.new.trees.items in
    behind_four t (map (shown_action p) p.actions) (map (shown_fair p) p.fairs) (map (shown_label p) p.labels) (map (shown_witness p) p.witnesses) t1 t2 t3 c.push_each-4.new.trees.items
    (c.in_ok-push_each.ensures ∙ ap (λ l. t ++ map (shown_action p) l) c.as_slice.ensures)
    (c.in_ok-push_each-2.ensures ∙ ap (λ l. t1 ++ map (shown_fair p) l) c.as_slice-2.ensures)
    (c.in_ok-push_each-3.ensures ∙ ap (λ l. t2 ++ map (shown_label p) l) c.as_slice-3.ensures)
    (c.in_ok-push_each-4.ensures ∙ ap (λ l. t3 ++ map (shown_witness p) l) c.as_slice-4.ensures)
