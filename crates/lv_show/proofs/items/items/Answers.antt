use Rattle.std.proofs.Common.{◌≡◌, ◌++◌, map, ap, ◌∙◌, rules}
use Rattle.lv_grammar.specs.ShownSystems.{shown_invariant}
use Rattle.lv_grammar.proofs.LayoutLaw.{all_items}
use Rattle.lv_show.proofs.items.items.Goals as goal

pub returns : goal.returns
returns c =
    let p = c.args.words.now.parts.now in
    let t3 = c.push.new.self.items in
    all_items p c.new-trees.result.items c.push_declared.new.trees.items c.push_moving.new.trees.items t3 c.push_each.new.trees.items c.in_ok-property.field-0 c.new-trees.ensures.items c.in_ok-push_declared.ensures
    c.in_ok-push_moving.ensures c.in_ok-property.ensures (search rules) (c.in_ok-push_each.ensures ∙ ap (λ l. t3 ++ map (shown_invariant p) l) c.as_slice.ensures)
