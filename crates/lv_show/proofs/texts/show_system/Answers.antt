use Rattle.std.proofs.Common.{◌≡◌, ◌∙◌, rules}
use Rattle.lv_grammar.proofs.TextLaw.{text_made}
use Rattle.lv_show.proofs.texts.show_system.Goals as goal

pub returns : goal.returns
returns c =
    text_made c.args.system.now c.parts-parts.result.now c.as_slice-3.result.now c.in_ok-text.text.items c.extend_from_slice.new.self.items c.push_lines.new.text.items c.extend_from_slice-2.new.self.items c.from_vec.result c.parts-parts.ensures.value (c.as_slice-3.ensures.value ∙ c.in_ok-trees.ensures) c.in_ok-text.ensures.items
    (search rules) (search rules) (search rules) c.from_vec.ensures
