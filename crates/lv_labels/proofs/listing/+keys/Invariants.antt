use Rattle.std.proofs.Common.{◌≡◌, ◌++◌, drop}
use Rattle.lv_formula.specs.Contexts.{context_of}
use Rattle.lv_labels.specs.Labels.{keys_of_all}
use Rattle.lv_labels.proofs.listing.+keys.Given as goal

abbrev pub invariant-push_all_keys-loop-f : goal.invariant-push_all_keys-loop-f
invariant-push_all_keys-loop-f l = l.found.items ++ keys_of_all (drop l.f-index l.fs) (context_of l.scope) ≡ l.initial.found.items ++ keys_of_all l.fs (context_of l.scope)
