use Rattle.lv_places.specs.Universes.{counts}
use Rattle.lv_skolem.proofs.Counts.{universe_counts, size_is}
use Rattle.lv_skolem.proofs.laws.sizes_are_lengths.Goals as goal

pub returns : goal.returns
returns c = λ sk u is. (universe_counts sk u is, size_is sk (counts u))
