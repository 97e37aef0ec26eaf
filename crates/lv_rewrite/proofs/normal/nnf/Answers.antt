use Rattle.std.proofs.Common.{◌≡◌, ap, ◌∙◌}
use Rattle.std.proofs.lemmas.Result.{IfOk-weaker}
use Rattle.lv_formula.specs.Meaning.{Meaning}
use Rattle.lv_formula.specs.Truth.{Env, truth_in}
use Rattle.lv_rewrite.specs.Normal.{nnf_of, signed}
use Rattle.lv_rewrite.proofs.NormalLaw.{truth_nnf}
use Rattle.lv_rewrite.proofs.normal.nnf.Goals as goal

pub returns-clause-truth : goal.returns-clause-truth
returns-clause-truth c = IfOk-weaker c.normal_form.result (λ g. g ≡ nnf_of c.args.f.now c.args.positive)
    (λ g. (m : Meaning) (env : Env) → truth_in m g env ≡ signed c.args.positive (truth_in m c.args.f.now env))
    (λ g e m env. ap (λ h. truth_in m h env) e ∙ truth_nnf m c.args.f.now c.args.positive env) c.normal_form.ensures
