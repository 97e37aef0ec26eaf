use Rattle.lv_ground.proofs.Standing.{pair_possible}
use Rattle.lv_ground.proofs.equalities.equal.Goals as goal

pub number-requires-clause-possible : goal.number-requires-clause-possible
number-requires-clause-possible c = pair_possible c.args.setting.now c.requires.ready c.args.sort c.args.a c.args.b c.requires.sort c.requires.a
    c.requires.b
