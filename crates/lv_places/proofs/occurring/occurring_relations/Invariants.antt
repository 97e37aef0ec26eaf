use Rattle.std.proofs.Common.{◌≡◌, ◌++◌, drop}
use Rattle.lv_places.specs.Forms.{forms_of}
use Rattle.lv_places.specs.Occurring.{relations_in}
use Rattle.lv_places.proofs.occurring.occurring_relations.Given as goal

abbrev pub invariant-loop-shape : goal.invariant-loop-shape
invariant-loop-shape l = l.all.items ++ relations_in (forms_of l.forms) (drop l.shape-index l.relations) ≡ relations_in (forms_of l.forms) l.relations
