use Rattle.std.proofs.Common.{◌∷◌, codes, ap, ◌∙◌}
use Rattle.std.proofs.lemmas.Result.{IfOk-weaker}
use Rattle.lv_grammar.specs.ShownFormulas.{list, word}
use Rattle.lv_show.proofs.structures.whole_structure.Goals as goal

pub returns : goal.returns
returns c = IfOk-weaker c.many.result _ _ (λ t e. e ∙ ap (λ parts. list (word (codes "structure") ∷ parts)) c.in_ok-parts.ensures) c.many.ensures
