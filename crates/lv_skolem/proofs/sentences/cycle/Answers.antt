use Rattle.std.proofs.Common.{sym, subst}
use Rattle.lv_places.specs.SortGraphs.{TellsCycle}
use Rattle.lv_skolem.proofs.NoCycle.{cycle_told}
use Rattle.lv_skolem.proofs.sentences.cycle.Goals as goal

pub returns-clause-exact : goal.returns-clause-exact
returns-clause-exact c voc s is =
    subst (TellsCycle c.args.sk.now.places) (sym c.as_ref.ensures.value) (cycle_told c.args.sk.now.places c.args.sk.now.cycle is.cycle)
