use Rattle.std.proofs.Common.{◌≡◌, ◌++◌, map, drop}
use Rattle.lv_struct.specs.Changes.{put_element}
use Rattle.lv_struct.proofs.changes.put_constant.Given as goal

abbrev pub invariant-loop-constant : goal.invariant-loop-constant
invariant-loop-constant l = l.all.items ++ map (put_element l.sym l.element) (drop l.constant-index l.constants) ≡ map (put_element l.sym l.element) l.constants
