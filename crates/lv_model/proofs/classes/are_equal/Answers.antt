use Rattle.std.proofs.Common.{◌≡◌, ◌∷◌, [], false, get_or, sym, ap, ◌∙◌}
use Rattle.lv_places.specs.Universes.{term}
use Rattle.lv_model.specs.Truths.{numbers}
use Rattle.lv_model.proofs.Tables.{pair_number, pair_of_terms}
use Rattle.lv_model.proofs.classes.are_equal.Goals as goal

pub returns : goal.returns
returns c =
    let n = numbers c.args.st.now in
    let s = c.args.sort in
    ap (λ i. get_or c.args.truths.now i false) (sym (pair_number n s c.args.left c.args.right c.count_of.result c.count_of.ensures))
    ∙ c.requires.truths.each (term s c.args.left ∷ term s c.args.right ∷ []) (pair_of_terms n s c.args.left c.args.right c.requires.left c.requires.right)
