-- A formula stands in a context over a vocabulary. The context lists the innermost variable's sort first.
use Rattle.std.specs.Prelude.{Bool, true, false, ◌&&◌, cond, ltb, eqb, List, [], ◌∷◌, Option, Some, None, slice_get, map}
use Rattle.lv_formula.specs.declared.symbols.SortId.{SortId}
use Rattle.lv_formula.specs.declared.symbols.Sym.{Sym}
use Rattle.lv_formula.specs.declared.terms.Term.{Term}
use Rattle.lv_formula.specs.declared.terms.Term.TheVariants.{Var, Const}
use Rattle.lv_formula.specs.declared.vocabulary.Vocabulary.{Vocabulary}
use Rattle.lv_formula.specs.declared.formula.Formula.{Formula}
use Rattle.lv_formula.specs.declared.formula.Formula.TheOpen.{Formula-F, True, False, Atom, Same, Not, And, Or, Implies, Iff, All, Any}
use Rattle.lv_formula.specs.declared.formula.Formula.TheFolds.{fold-Formula}
use Rattle.lv_formula.specs.Vocabulary.{relation_in, constant_in}

-- the sort of a term, where it has one
abbrev pub sort_of : Vocabulary → List SortId → Term → Option SortId
sort_of voc context (Var i) = slice_get context i
sort_of voc context (Const sym) = constant_in voc.constants sym

abbrev pub is_sort : Option SortId → SortId → Bool
is_sort None sort = false
is_sort (Some s) sort = eqb s.0 sort.0

-- both are there, and they are one sort
abbrev pub agree : Option SortId → Option SortId → Bool
agree s None = false
agree s (Some sort) = is_sort s sort

-- there are as many terms as sorts, and each term has the sort of its place
abbrev pub have_sorts : Vocabulary → List SortId → List Term → List SortId → Bool
have_sorts voc context [] [] = true
have_sorts voc context [] (s ∷ ss) = false
have_sorts voc context (t ∷ ts) [] = false
have_sorts voc context (t ∷ ts) (s ∷ ss) = is_sort (sort_of voc context t) s && have_sorts voc context ts ss

-- the same of a relation's sorts, where the relation is there
abbrev pub are_arguments : Vocabulary → List SortId → List Term → Option (List SortId) → Bool
are_arguments voc context terms None = false
are_arguments voc context terms (Some sorts) = have_sorts voc context terms sorts

abbrev pub each_fits : List (List SortId → Bool) → List SortId → Bool
each_fits [] context = true
each_fits (f ∷ fs) context = f context && each_fits fs context

abbrev pub fits_step : Vocabulary → Formula-F (List SortId → Bool) → List SortId → Bool
fits_step voc True context = true
fits_step voc False context = true
fits_step voc (Atom sym terms) context = are_arguments voc context terms (relation_in voc.relations sym)
fits_step voc (Same a b) context = agree (sort_of voc context a) (sort_of voc context b)
fits_step voc (Not f) context = f context
fits_step voc (And fs) context = each_fits fs context
fits_step voc (Or fs) context = each_fits fs context
fits_step voc (Implies a b) context = a context && b context
fits_step voc (Iff a b) context = a context && b context
fits_step voc (All sort f) context = ltb sort.0 voc.sorts && f (sort ∷ context)
fits_step voc (Any sort f) context = ltb sort.0 voc.sorts && f (sort ∷ context)

-- each variable has a sort, each symbol is the vocabulary's, and each term has the sort of its place
abbrev pub fits_in : Vocabulary → List SortId → Formula → Bool
fits_in voc context f = fold-Formula (List SortId → Bool) (fits_step voc) f context

abbrev pub all_fit_in : Vocabulary → List SortId → List Formula → Bool
all_fit_in voc context fs = each_fits (map (fold-Formula (List SortId → Bool) (fits_step voc)) fs) context

abbrev pub has_sort : Option SortId → Bool
has_sort None = false
has_sort (Some sort) = true

-- each term has a sort
abbrev pub are_scoped : Vocabulary → List SortId → List Term → Bool
are_scoped voc context [] = true
are_scoped voc context (t ∷ ts) = has_sort (sort_of voc context t) && are_scoped voc context ts

abbrev pub fits_up_to_step : (Sym → Bool) → Vocabulary → Formula-F (List SortId → Bool) → List SortId → Bool
fits_up_to_step is_free voc True context = true
fits_up_to_step is_free voc False context = true
fits_up_to_step is_free voc (Atom sym terms) context = cond (is_free sym) (are_scoped voc context terms) (are_arguments voc context terms (relation_in voc.relations sym))
fits_up_to_step is_free voc (Same a b) context = agree (sort_of voc context a) (sort_of voc context b)
fits_up_to_step is_free voc (Not f) context = f context
fits_up_to_step is_free voc (And fs) context = each_fits fs context
fits_up_to_step is_free voc (Or fs) context = each_fits fs context
fits_up_to_step is_free voc (Implies a b) context = a context && b context
fits_up_to_step is_free voc (Iff a b) context = a context && b context
fits_up_to_step is_free voc (All sort f) context = ltb sort.0 voc.sorts && f (sort ∷ context)
fits_up_to_step is_free voc (Any sort f) context = ltb sort.0 voc.sorts && f (sort ∷ context)

abbrev pub none_free : Sym → Bool
none_free sym = false

-- the same, where the relations that pass the test may have any terms with a sort, and need not be the vocabulary's
abbrev pub fits_up_to : (Sym → Bool) → Vocabulary → List SortId → Formula → Bool
fits_up_to is_free voc context f = fold-Formula (List SortId → Bool) (fits_up_to_step is_free voc) f context

abbrev pub all_fit_up_to : (Sym → Bool) → Vocabulary → List SortId → List Formula → Bool
all_fit_up_to is_free voc context fs = each_fits (map (fold-Formula (List SortId → Bool) (fits_up_to_step is_free voc)) fs) context
