-- When a temporal formula stands in a context over a vocabulary.
use Rattle.std.specs.Prelude.{◌&&◌, Bool, true, ltb, List, ◌∷◌, map}
use Rattle.lv_formula.specs.declared.symbols.SortId.{SortId}
use Rattle.lv_formula.specs.declared.vocabulary.Vocabulary.{Vocabulary}
use Rattle.lv_formula.specs.declared.temporal.Temporal.{Temporal}
use Rattle.lv_formula.specs.declared.temporal.Temporal.TheOpen.{Temporal-F, True, False, Atom, Same, Not, And, Or, Implies, Iff, All, Any, Always, Eventually}
use Rattle.lv_formula.specs.declared.temporal.Temporal.TheFolds.{fold-Temporal}
use Rattle.lv_formula.specs.Vocabulary.{relation_in}
use Rattle.lv_formula.specs.Fits.{sort_of, agree, are_arguments, each_fits}

abbrev pub temporal_fits_step : Vocabulary → Temporal-F (List SortId → Bool) → List SortId → Bool
temporal_fits_step voc True context = true
temporal_fits_step voc False context = true
temporal_fits_step voc (Atom sym terms) context = are_arguments voc context terms (relation_in voc.relations sym)
temporal_fits_step voc (Same a b) context = agree (sort_of voc context a) (sort_of voc context b)
temporal_fits_step voc (Not f) context = f context
temporal_fits_step voc (And fs) context = each_fits fs context
temporal_fits_step voc (Or fs) context = each_fits fs context
temporal_fits_step voc (Implies a b) context = a context && b context
temporal_fits_step voc (Iff a b) context = a context && b context
temporal_fits_step voc (All sort f) context = ltb sort.0 voc.sorts && f (sort ∷ context)
temporal_fits_step voc (Any sort f) context = ltb sort.0 voc.sorts && f (sort ∷ context)
temporal_fits_step voc (Always f) context = f context
temporal_fits_step voc (Eventually f) context = f context

-- each variable has a sort, each symbol is the vocabulary's, and each term has the sort of its place
abbrev pub temporal_fits_in : Vocabulary → List SortId → Temporal → Bool
temporal_fits_in voc context f = fold-Temporal (List SortId → Bool) (temporal_fits_step voc) f context

abbrev pub all_temporal_fit_in : Vocabulary → List SortId → List Temporal → Bool
all_temporal_fit_in voc context fs = each_fits (map (fold-Temporal (List SortId → Bool) (temporal_fits_step voc)) fs) context
