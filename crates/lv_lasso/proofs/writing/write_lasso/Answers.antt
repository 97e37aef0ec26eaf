use Rattle.std.proofs.Common.{◌≡◌, true, sym, ap, subst, ◌∙◌}
use Rattle.lv_tree.specs.Spelling.{fits_in}
use Rattle.lv_tree.specs.Writing.{bare, placed}
use Rattle.lv_lasso.specs.Shown.{shown_lasso}
use Rattle.lv_lasso.proofs.LassoText.{lasso_shown, lasso_writes}
use Rattle.lv_lasso.proofs.writing.write_lasso.Goals as goal

pub write_tree-requires : goal.write_tree-requires
write_tree-requires c = subst (λ t. fits_in 64 t ≡ true) (sym c.in_ok-tree.ensures.tree)
    (lasso_writes c.args.system.now c.in_ok-tree.ensures.fitting c.args.lasso.now c.requires c.in_ok-tree.ensures.sound)

pub returns-in-Ok-clause-spells : goal.returns-in-Ok-clause-spells
returns-in-Ok-clause-spells c =
    let p = c.args.system.now in
    let l = c.args.lasso.now in
    let same : bare (placed 0 c.in_ok-tree.tree) ≡ bare (shown_lasso p l) = c.in-Ok.ensures.same ∙ ap bare c.in_ok-tree.ensures.tree in
    record {
      tree = placed 0 c.in_ok-tree.tree;
      spelled = c.in-Ok.ensures.spells;
      lasso = record {
        written = lasso_shown p c.in_ok-tree.ensures.fitting l c.requires c.in_ok-tree.ensures.sound (placed 0 c.in_ok-tree.tree) same;
        sound = c.in_ok-tree.ensures.sound;
        fits = c.requires.fits;
      };
    }
