use Rattle.std.proofs.Common.{◌≡◌, ◌++◌, drop}
use Rattle.lv_places.specs.Forms.{forms_of}
use Rattle.lv_places.specs.Occurring.{constants_in}
use Rattle.lv_places.proofs.occurring.occurring_constants.Given as goal

abbrev pub invariant-loop-shape : goal.invariant-loop-shape
invariant-loop-shape l = l.all.items ++ constants_in (forms_of l.forms) (drop l.shape-index l.constants) ≡ constants_in (forms_of l.forms) l.constants
