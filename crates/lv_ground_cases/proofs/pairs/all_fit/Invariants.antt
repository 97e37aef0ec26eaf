use Rattle.std.proofs.Common.{◌≡◌, [], drop}
use Rattle.lv_formula.specs.Fits.{all_fit_in}
use Rattle.lv_ground_cases.proofs.pairs.all_fit.Given as goal

abbrev pub invariant-loop-f : goal.invariant-loop-f
invariant-loop-f l = all_fit_in l.voc [] (drop l.f-index l.formulas) ≡ all_fit_in l.voc [] l.formulas
