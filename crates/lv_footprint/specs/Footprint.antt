-- The formulas that say which elements are touched.
use Rattle.std.specs.Prelude.{ℕ, ◌-◌, Bool, false, not, ◌&&◌, eqb, cond, List, [], ◌∷◌, ◌++◌, length, get_or}
use Rattle.lv_formula.specs.declared.symbols.SortId.{SortId}
use Rattle.lv_formula.specs.declared.symbols.Sym.TheVariants.{Own, Witness, Touched, Param}
use Rattle.lv_formula.specs.declared.terms.Term.{Term}
use Rattle.lv_formula.specs.declared.terms.Term.TheVariants.{Var, Const}
use Rattle.lv_formula.specs.declared.formula.Formula.{Formula}
use Rattle.lv_formula.specs.declared.formula.Formula.TheVariants.{True, Atom, Same, Or}
use Rattle.lv_formula.specs.Fits.{is_sort}
use Rattle.lv_system.specs.declared.parts.Parts.{Parts}
use Rattle.lv_system.specs.declared.parts.Sort.{Sort}
use Rattle.lv_system.specs.declared.parts.Symbol.{Symbol}
use Rattle.lv_system.specs.declared.parts.WitnessDecl.{WitnessDecl}
use Rattle.lv_system.specs.declared.parts.Action.{Action}
use Rattle.lv_system.specs.declared.parts.ActionUpdate.{ActionUpdate}
use Rattle.lv_system.specs.declared.parts.ActionUpdate.TheVariants.{Relation, Constant}
use Rattle.lv_system.specs.Vocabularies.{constant_sort}
use Rattle.lv_footprint.specs.Gathered.{gathered}

-- the symbol is a constant of the sort
abbrev pub is_constant : Symbol → SortId → Bool
is_constant s sort = is_sort (constant_sort s.shape) sort

-- what stands for a sort that is not there
abbrev pub no_sort : Sort
no_sort = record { name = []; finite = false }

-- all elements of the sort are touched from the start on
abbrev pub is_finite : Parts → SortId → Bool
is_finite p sort = (get_or p.sorts sort.0 no_sort).finite

-- the one term is the other, where the test passes
abbrev pub same_if : Bool → Term → Term → List Formula
same_if test t u = cond test (Same t u ∷ []) []

abbrev pub same_constant : SortId → Term → ℕ → Symbol → List Formula
same_constant sort t n s = same_if (is_constant s sort) t (Const (Own n))

abbrev pub same_witness : SortId → Term → ℕ → WitnessDecl → List Formula
same_witness sort t k w = same_if (eqb w.sort.0 sort.0) t (Const (Witness k))

-- the term is touched at the start: it is of a finite sort, or one of the constants and witnesses
abbrev pub first_touched : Parts → SortId → Term → Formula
first_touched p sort t = cond (is_finite p sort) True (Or (gathered (same_constant sort t) 0 p.symbols ++ gathered (same_witness sort t) 0 p.witnesses))

-- a term over so many parameters as one over the words of parameters
abbrev pub param_term : ℕ → Term → Term
param_term n (Var i) = Const (Param (n - 1 - i))
param_term n (Const sym) = Const sym

-- what an action with so many parameters sets the constant to, or the constant itself
abbrev pub new_term : ℕ → List ActionUpdate → ℕ → Term
new_term n [] c = Const (Own c)
new_term n (Relation symbol body ∷ us) c = new_term n us c
new_term n (Constant symbol term ∷ us) c = cond (eqb symbol c) (param_term n term) (new_term n us c)

abbrev pub same_param : SortId → ℕ → SortId → List Formula
same_param sort k s = same_if (eqb s.0 sort.0) (Var 0) (Const (Param k))

abbrev pub same_new : Action → SortId → ℕ → Symbol → List Formula
same_new a sort n s = same_if (not s.fixed && is_constant s sort) (Var 0) (new_term (length a.params) a.updates n)

-- variable 0 is touched after the action: it was, or it is a parameter, or the new value of a changing constant
abbrev pub touched_after_of : Parts → Action → SortId → Formula
touched_after_of p a sort = Or (Atom (Touched sort) (Var 0 ∷ []) ∷ (gathered (same_param sort) 0 a.params ++ gathered (same_new a sort) 0 p.symbols))
