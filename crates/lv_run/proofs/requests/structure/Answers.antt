use Rattle.lv_run.proofs.AnswerLemmas.{labels_are_narrow}
use Rattle.lv_run.proofs.requests.structure.Goals as goal

pub read_structure-requires-clause-sound : goal.read_structure-requires-clause-sound
read_structure-requires-clause-sound c = c.in_ok-voc.ensures.sound (labels_are_narrow c.args.system.now c.requires.limits)
