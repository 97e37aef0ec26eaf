use Rattle.std.proofs.Common.{◌≡◌, Ok, arith}
use Rattle.lv_lasso.proofs.StepsFound.{lasso_found}
use Rattle.lv_lasso.proofs.reading.read_lasso.Goals as goal

pub returns-clause-fits : goal.returns-clause-fits
returns-clause-fits c =
    let found = lasso_found c.args.system.now c.args.tree.now c.in_ok-lasso.lasso c.in_ok-lasso.ensures.given in
    let stem = found.stem.few in
    let turn = found.turn.few in
    record {
      vocabulary = c.in_ok-lasso.ensures.vocabulary;
      stem = found.stem_fits;
      turn = found.turn_fits;
      loops = found.loops;
      few = omega (arith, stem, turn);
    }
