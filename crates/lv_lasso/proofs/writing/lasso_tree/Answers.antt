use Rattle.std.proofs.Common.{◌≡◌, [], ◌∷◌, ◌++◌, ap, ap₂, ◌∙◌}
use Rattle.std.specs.Prelude.{codes}
use Rattle.std.proofs.lemmas.Result.{IfOk-weaker}
use Rattle.lv_system.specs.Vocabularies.{own_vocabulary}
use Rattle.lv_grammar.specs.ShownFormulas.{list, word}
use Rattle.lv_grammar.specs.ShownStructures.{structure_tree}
use Rattle.lv_lasso.specs.Shown.{shown_steps}
use Rattle.lv_lasso.proofs.writing.lasso_tree.Goals as goal

pub returns-clause-tree : goal.returns-clause-tree
returns-clause-tree c =
    let p = c.args.system.now in
    let l = c.args.lasso.now in
    let start : c.in_ok-structure_tree.field-0 ≡ structure_tree p (own_vocabulary p) l.start =
    c.in_ok-structure_tree.ensures.tree ∙ ap₂ (λ voc w. structure_tree p voc w) c.in_ok-voc.ensures.value c.start-first.ensures.value in
    let stem : c.in_ok-steps.field-0 ≡ shown_steps p (codes "stem") l.stem =
    c.in_ok-steps.ensures ∙ ap₂ (λ q ss. shown_steps q (codes "stem") ss) c.parts-parts.ensures.value c.as_slice.ensures in
    let turn : c.in_ok-steps-2.field-0 ≡ shown_steps p (codes "loop") l.turn =
    c.in_ok-steps-2.ensures ∙ ap₂ (λ q ss. shown_steps q (codes "loop") ss) c.parts-parts.ensures.value c.as_slice-2.ensures in
    let one = c.in_ok-push.ensures.items ∙ ap₂ (λ xs t. xs ++ t ∷ []) c.new-items.ensures.items start in
    let two = c.in_ok-push-2.ensures.items ∙ ap₂ (λ xs t. xs ++ t ∷ []) one stem in
    let three = c.in_ok-push-3.ensures.items ∙ ap₂ (λ xs t. xs ++ t ∷ []) two turn in
    IfOk-weaker c.many.result _ _ (λ t e. e ∙ ap (λ xs. list (word (codes "lasso") ∷ xs)) three) c.many.ensures
