use Rattle.std.proofs.Common.{◌≡◌, ℕ, zero, suc, false, [], ◌∷◌, ◌++◌, get_or, refl, subst, sym, length, length-append, arith}
use Rattle.lv_model.proofs.Tables.{still_false}
use Rattle.lv_model.proofs.truths.none_true.Goals as goal

pub loop-i-preserved : goal.loop-i-preserved
loop-i-preserved c = record {
  len = search (arith, length-append);
  none = subst (λ l. (i : ℕ) → get_or l i false ≡ false) (sym c.in_ok-push.ensures.items) (still_false c.loop-i.truths.items c.loop-i.invariant.none);
}
