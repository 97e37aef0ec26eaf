use Rattle.std.proofs.Common.{◌≡◌, rules}
use Rattle.lv_cnf.specs.Packed.{at, clause_at}
use Rattle.lv_watch.proofs.Visiting.{turned}
use Rattle.lv_watch.proofs.visit.turn.Goals as goal

pub returns-then-eq-clause-turned : goal.returns-then-eq-clause-turned
returns-then-eq-clause-turned g c =
    let is : at (clause_at c.args.packed.now c.args.clause) 0 ≡ c.args.gone = search rules in
    rw c.swap.ensures (turned c.args.packed.now c.args.clause c.args.gone c.requires.clause c.requires.two is)
