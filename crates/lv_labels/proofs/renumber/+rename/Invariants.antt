use Rattle.std.proofs.Common.{◌≡◌, ◌++◌, drop}
use Rattle.lv_labels.specs.Renaming.{renamed_all}
use Rattle.lv_labels.specs.Renamings.{renaming_of}
use Rattle.lv_labels.proofs.renumber.+rename.Given as goal

abbrev pub invariant-rename_all-loop-f : goal.invariant-rename_all-loop-f
invariant-rename_all-loop-f l = l.all.items ++ renamed_all (drop l.f-index l.fs) (renaming_of l.to) ≡ renamed_all l.fs (renaming_of l.to)
