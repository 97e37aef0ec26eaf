use Rattle.std.proofs.Common.{◌<◌}
use Rattle.lv_formula.specs.declared.symbols.SortId.{SortId}
use Rattle.lv_places.specs.Universes.{count_at}
use Rattle.lv_skolem.proofs.cycles.first_unranked.Given as goal

abbrev pub invariant-loop-s : goal.invariant-loop-s
invariant-loop-s l = (s : SortId) → s.0 < l.s → 0 < count_at l.ranks s
