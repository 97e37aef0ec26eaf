use Rattle.std.proofs.Common.{◌≡◌, ◌++◌, drop, get_or, map}
use Rattle.lv_formula.specs.Contexts.{context_of}
use Rattle.lv_labels.proofs.listing.sorts_of.Given as goal

abbrev pub invariant-loop-v : goal.invariant-loop-v
invariant-loop-v l = l.sorts.items ++ map (λ v. get_or (context_of l.scope) v (record { 0 = 0 })) (drop l.v-index l.variables) ≡ map (λ v. get_or (context_of l.scope) v (record { 0 = 0 })) l.variables
