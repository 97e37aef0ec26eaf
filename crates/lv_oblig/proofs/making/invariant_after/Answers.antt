use Rattle.std.proofs.Common.{◌≡◌, IfOk, subst}
use Rattle.lv_rewrite.specs.Replace.{replace_of}
use Rattle.lv_labels.specs.Obligations as obligations
use Rattle.lv_oblig.proofs.making.invariant_after.Goals as goal

pub returns : goal.returns
returns c = subst (λ p. IfOk c.invariant_of_parts_after.result (λ f. f ≡ replace_of c.args.updates.now (obligations.invariant_at p c.args.invariant))) c.parts-parts.ensures.value c.invariant_of_parts_after.ensures
