-- The renaming that the code has in parts.
use Rattle.std.specs.Prelude.{ℕ}
use Rattle.lv_labels.specs.declared.renumber.Renaming.{Renaming, Listed, Under'}
use Rattle.lv_labels.specs.Renaming.{renumbered, under}

abbrev pub renaming_of : Renaming → ℕ → ℕ
renaming_of (Listed variables) = renumbered variables.now
renaming_of (Under' outer renaming) = under (renaming_of renaming)
