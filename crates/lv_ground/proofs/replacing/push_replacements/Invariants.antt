use Rattle.lv_places.specs.Equality.{each_of, replacements_at}
use Rattle.lv_ground.specs.Settings.{numbers}
use Rattle.lv_ground.specs.Making.{Makes, change_of}
use Rattle.lv_ground.proofs.replacing.push_replacements.Given as goal

abbrev pub invariant-loop-at : goal.invariant-loop-at
invariant-loop-at l = Makes l.setting l.initial.made (each_of 0 l.at (replacements_at (numbers l.setting) l.sorts (change_of l.setting l.head))) l.made
