use Rattle.std.proofs.Common.{◌≡◌, ◌++◌, map, drop}
use Rattle.lv_ground.proofs.setting.sorts_of.Given as goal

abbrev pub invariant-loop-argument : goal.invariant-loop-argument
invariant-loop-argument l = l.sorts.items ++ map (λ a. a.sort) (drop l.argument-index l.arguments) ≡ map (λ a. a.sort) l.arguments
