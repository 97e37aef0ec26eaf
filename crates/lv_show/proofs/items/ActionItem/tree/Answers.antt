use Rattle.std.proofs.Common.{◌≡◌, ◌++◌, length, map, ap, ◌∙◌, rules}
use Rattle.lv_grammar.specs.ShownSystems.{shown_update}
use Rattle.lv_grammar.proofs.LayoutLaw.{action_made}
use Rattle.lv_show.proofs.items.ActionItem.tree.Goals as goal

pub returns : goal.returns
returns c =
    let p = c.args.words.now.parts.now in
    let depth = length c.as_slice-params.result.now in
    action_made p c.args.self.now depth c.list.result c.in_ok-lone.field-0 c.in_ok-items.items.items c.push.new.self.items c.push_updates.new.items.items (ap length c.as_slice-params.ensures) c.in_ok-lone.ensures
    (search rules) (search rules) (c.in_ok-push_updates.ensures ∙ ap (λ us. c.push.new.self.items ++ map (shown_update p depth) us) c.as_slice.ensures) c.list.ensures
