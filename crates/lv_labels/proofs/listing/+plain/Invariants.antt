use Rattle.std.proofs.Common.{◌≡◌, ◌++◌, drop}
use Rattle.lv_labels.specs.Labels.{plain_all}
use Rattle.lv_labels.proofs.listing.+plain.Given as goal

abbrev pub invariant-plain_all_of-loop-f : goal.invariant-plain_all_of-loop-f
invariant-plain_all_of-loop-f l = l.all.items ++ plain_all (drop l.f-index l.fs) ≡ plain_all l.fs
