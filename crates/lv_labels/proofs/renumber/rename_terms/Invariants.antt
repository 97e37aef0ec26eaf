use Rattle.std.proofs.Common.{◌≡◌, ◌++◌, drop, map}
use Rattle.lv_labels.specs.Renaming.{renamed_term}
use Rattle.lv_labels.specs.Renamings.{renaming_of}
use Rattle.lv_labels.proofs.renumber.rename_terms.Given as goal

abbrev pub invariant-loop-term : goal.invariant-loop-term
invariant-loop-term l = l.all.items ++ map (renamed_term (renaming_of l.to)) (drop l.term-index l.terms) ≡ map (renamed_term (renaming_of l.to)) l.terms
