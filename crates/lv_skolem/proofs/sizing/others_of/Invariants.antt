use Rattle.std.proofs.Common.{◌≡◌, drop}
use Rattle.lv_places.specs.Universes.{count_at}
use Rattle.lv_places.specs.Sizes.{others}
use Rattle.lv_skolem.specs.Counting.{capped}
use Rattle.lv_skolem.proofs.sizing.others_of.Given as goal

abbrev pub invariant-loop-i : goal.invariant-loop-i
invariant-loop-i l = l.all ≡ capped (others (count_at l.counts) (drop l.i l.sorts))
