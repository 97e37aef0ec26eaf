use Rattle.std.proofs.Common.{refl}
use Rattle.lv_report.proofs.laws.only_proved_begins_with_p.Goals as goal

pub returns : goal.returns
returns c = record {
  proved = λ obligations. refl;
  countermodel = λ p index w. refl;
  not_stratified = λ p index sorts. refl;
  too_large = λ p index. refl;
  spent = λ p index learned. refl;
  hypothesis_fails = λ number. refl;
  axiom_fails = λ number. refl;
  guard_fails = λ step. refl;
  made = λ p obligations largest answer. refl;
  unfair = λ p fair. refl;
}
