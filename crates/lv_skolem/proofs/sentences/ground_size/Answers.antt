use Rattle.std.proofs.Common.{subst}
use Rattle.lv_skolem.specs.Skolems.{SizeUnless}
use Rattle.lv_skolem.proofs.sentences.ground_size.Goals as goal

pub returns-clause-exact : goal.returns-clause-exact
returns-clause-exact c voc s is acyclic = subst (λ o. SizeUnless o c.args.sk.now) acyclic is.size
