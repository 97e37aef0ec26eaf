use Rattle.lv_run.proofs.AnswerLemmas.{system_limits, system_read}
use Rattle.lv_run.proofs.requests.system.Goals as goal

pub returns-clause-given : goal.returns-clause-given
returns-clause-given c = system_read c.args.tree.now c.read_system.result c.read_system.ensures.found c.read_system.ensures.refused

pub returns-clause-limits : goal.returns-clause-limits
returns-clause-limits c = system_limits c.args.tree.now c.read_system.result c.read_system.ensures.found
