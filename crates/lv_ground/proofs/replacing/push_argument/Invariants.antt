use Rattle.std.proofs.Common.{take, get_or}
use Rattle.lv_places.specs.Equality.{each_of, each_in}
use Rattle.lv_ground.specs.Positions.{sort}
use Rattle.lv_ground.specs.Settings.{numbers}
use Rattle.lv_ground.specs.Making.{Makes, other_at}
use Rattle.lv_ground.proofs.replacing.push_argument.Given as goal

abbrev pub invariant-loop-tuple : goal.invariant-loop-tuple
invariant-loop-tuple l = Makes l.setting l.initial.made
    (each_in (take l.tuple-index l.all) (λ ts. each_of 0 (numbers l.setting (get_or l.sorts l.at (sort 0))) (other_at l.setting l.head l.sorts l.at ts)))
    l.made
