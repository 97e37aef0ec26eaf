use Rattle.lv_tree.proofs.Reading.{found, only}
use Rattle.lv_tree.proofs.reader.read_tree.Goals as goal

pub returns-clause-found : goal.returns-clause-found
returns-clause-found c = found c.args.bytes.now c.read.result c.read.ensures.ok

pub returns-clause-only : goal.returns-clause-only
returns-clause-only c t spelled = only c.args.bytes.now c.read.result t c.read.ensures.ok c.read.ensures.err spelled
