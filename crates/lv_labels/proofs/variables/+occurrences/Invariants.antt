use Rattle.std.proofs.Common.{◌≡◌, ◌++◌, drop}
use Rattle.lv_labels.specs.Renaming.{occurrences_of_all}
use Rattle.lv_labels.proofs.variables.+occurrences.Given as goal

abbrev pub invariant-push_all_occurrences-loop-f : goal.invariant-push_all_occurrences-loop-f
invariant-push_all_occurrences-loop-f l = l.found.items ++ occurrences_of_all (drop l.f-index l.fs) ≡ l.initial.found.items ++ occurrences_of_all l.fs
