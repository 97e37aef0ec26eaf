use Rattle.std.proofs.Common.{arith, refl}
use Rattle.lv_examples.proofs.VisitsRun.{unguarded_broken, unguarded_caught}
use Rattle.lv_examples.proofs.laws.moved_outside_what_is_kept.Goals as goal

pub returns : goal.returns
returns c = record {
  broken = unguarded_broken;
  caught = unguarded_caught;
  moved = λ e. omega (arith, e);
  is_outside = refl;
  was_outside = refl;
}
