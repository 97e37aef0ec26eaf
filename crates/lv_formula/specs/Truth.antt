-- The truth of a formula in a structure. A list of values gives those of the free variables, the innermost first.
use Rattle.std.specs.Prelude.{ℕ, zero, suc, Bool, true, false, not, ◌&&◌, ◌||◌, eqb, List, [], ◌∷◌, get_or, map}
use Rattle.lv_formula.specs.declared.terms.Term.{Term}
use Rattle.lv_formula.specs.declared.terms.Term.TheVariants.{Var, Const}
use Rattle.lv_formula.specs.declared.formula.Formula.{Formula}
use Rattle.lv_formula.specs.declared.formula.Formula.TheOpen.{Formula-F, True, False, Atom, Same, Not, And, Or, Implies, Iff, All, Any}
use Rattle.lv_formula.specs.declared.formula.Formula.TheFolds.{fold-Formula}
use Rattle.lv_formula.specs.Meaning.{Meaning}

-- the values of the variables, that of variable 0 first
abbrev pub Env : Type 0
Env = List ℕ

-- the element that a term stands for; a variable without a value is element 0
abbrev pub value_of : Meaning → Env → Term → ℕ
value_of m env (Var i) = get_or env i 0
value_of m env (Const sym) = m.value sym

abbrev pub values_of : Meaning → Env → List Term → List ℕ
values_of m env terms = map (value_of m env) terms

-- the test passes at each number below n
abbrev pub all_below : ℕ → (ℕ → Bool) → Bool
all_below zero p = true
all_below (suc n) p = all_below n p && p n

-- the test passes at some number below n
abbrev pub any_below : ℕ → (ℕ → Bool) → Bool
any_below zero p = false
any_below (suc n) p = any_below n p || p n

abbrev pub all_true : List (Env → Bool) → Env → Bool
all_true [] env = true
all_true (p ∷ ps) env = p env && all_true ps env

abbrev pub any_true : List (Env → Bool) → Env → Bool
any_true [] env = false
any_true (p ∷ ps) env = p env || any_true ps env

abbrev pub iff : Bool → Bool → Bool
iff true b = b
iff false b = not b

-- what it says of a formula that it is true, by what it says of its parts
abbrev pub truth_step : Meaning → Formula-F (Env → Bool) → Env → Bool
truth_step m True env = true
truth_step m False env = false
truth_step m (Atom sym terms) env = m.holds sym (values_of m env terms)
truth_step m (Same a b) env = eqb (value_of m env a) (value_of m env b)
truth_step m (Not p) env = not (p env)
truth_step m (And ps) env = all_true ps env
truth_step m (Or ps) env = any_true ps env
truth_step m (Implies p q) env = not (p env) || q env
truth_step m (Iff p q) env = iff (p env) (q env)
truth_step m (All sort p) env = all_below (m.size sort) (λ x. p (x ∷ env))
truth_step m (Any sort p) env = any_below (m.size sort) (λ x. p (x ∷ env))

-- the formula is true in the structure, where the variables have those values
abbrev pub truth_in : Meaning → Formula → Env → Bool
truth_in m = fold-Formula (Env → Bool) (truth_step m)

abbrev pub all_true_in : Meaning → List Formula → Env → Bool
all_true_in m fs = all_true (map (truth_in m) fs)

abbrev pub any_true_in : Meaning → List Formula → Env → Bool
any_true_in m fs = any_true (map (truth_in m) fs)
