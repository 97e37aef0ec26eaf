-- The trees that are shown for terms and formulas. They have no places.
use Rattle.std.specs.Prelude.{ℕ, ◌+◌, ◌-◌, List, [], ◌∷◌, map, codes, decimal}
use Rattle.lv_tree.specs.declared.tree.Tree.{Tree}
use Rattle.lv_tree.specs.declared.tree.Tree.TheVariants as trees
use Rattle.lv_formula.specs.declared.symbols.SortId.{SortId}
use Rattle.lv_formula.specs.declared.terms.Term.{Term}
use Rattle.lv_formula.specs.declared.terms.Term.TheVariants.{Var, Const}
use Rattle.lv_formula.specs.declared.formula.Formula.{Formula}
use Rattle.lv_formula.specs.declared.formula.Formula.TheOpen as F
use Rattle.lv_formula.specs.declared.formula.Formula.TheFolds.{fold-Formula}
use Rattle.lv_formula.specs.declared.temporal.Temporal.{Temporal}
use Rattle.lv_formula.specs.declared.temporal.Temporal.TheOpen.{Temporal-F, True, False, Atom, Same, Not, And, Or, Implies, Iff, All, Any, Always, Eventually}
use Rattle.lv_formula.specs.declared.temporal.Temporal.TheFolds.{fold-Temporal}
use Rattle.lv_formula.specs.Measures.{at_most_u64}
use Rattle.lv_system.specs.declared.parts.Parts.{Parts}
use Rattle.lv_grammar.specs.Words.{sort_name, symbol_word}

abbrev pub word : List ℕ → Tree
word text = trees.Word 0 text

abbrev pub list : List Tree → Tree
list items = trees.Group 0 0 items

-- the name of a variable in the scope of so many others
abbrev pub variable_name : ℕ → List ℕ
variable_name n = 88 ∷ decimal n

-- so many variables and one more, as far as a number of 64 bits tells
abbrev pub deeper : ℕ → ℕ
deeper depth = at_most_u64 (depth + 1)

abbrev pub shown_term : Parts → ℕ → Term → Tree
shown_term p depth (Var i) = word (variable_name (depth - 1 - i))
shown_term p depth (Const sym) = word (symbol_word p sym)

-- a relation without terms is a bare word
abbrev pub shown_atom : List ℕ → List Tree → Tree
shown_atom text [] = word text
shown_atom text (t ∷ ts) = list (word text ∷ t ∷ ts)

abbrev pub each_at : List (ℕ → Tree) → ℕ → List Tree
each_at [] depth = []
each_at (f ∷ fs) depth = f depth ∷ each_at fs depth

abbrev pub shown_binder : Parts → List ℕ → SortId → (ℕ → Tree) → ℕ → Tree
shown_binder p text sort f depth = list (word text ∷ word (variable_name depth) ∷ word (sort_name p sort) ∷ f (deeper depth) ∷ [])

abbrev pub shown_step : Parts → Temporal-F (ℕ → Tree) → ℕ → Tree
shown_step p True depth = word (codes "true")
shown_step p False depth = word (codes "false")
shown_step p (Atom sym terms) depth = shown_atom (symbol_word p sym) (map (shown_term p depth) terms)
shown_step p (Same a b) depth = list (word (codes "=") ∷ shown_term p depth a ∷ shown_term p depth b ∷ [])
shown_step p (Not f) depth = list (word (codes "not") ∷ f depth ∷ [])
shown_step p (And fs) depth = list (word (codes "and") ∷ each_at fs depth)
shown_step p (Or fs) depth = list (word (codes "or") ∷ each_at fs depth)
shown_step p (Implies f g) depth = list (word (codes "implies") ∷ f depth ∷ g depth ∷ [])
shown_step p (Iff f g) depth = list (word (codes "iff") ∷ f depth ∷ g depth ∷ [])
shown_step p (All sort f) depth = shown_binder p (codes "all") sort f depth
shown_step p (Any sort f) depth = shown_binder p (codes "some") sort f depth
shown_step p (Always f) depth = list (word (codes "always") ∷ f depth ∷ [])
shown_step p (Eventually f) depth = list (word (codes "eventually") ∷ f depth ∷ [])

-- the tree of a temporal formula that stands in the scope of so many variables
abbrev pub shown_temporal : Parts → Temporal → ℕ → Tree
shown_temporal p = fold-Temporal (ℕ → Tree) (shown_step p)

abbrev pub shown_temporals : Parts → List Temporal → ℕ → List Tree
shown_temporals p fs depth = each_at (map (shown_temporal p) fs) depth

-- a layer of a formula as one of a temporal formula
abbrev pub over : {X : Type 0} → F.Formula-F X → Temporal-F X
over F.True = True
over F.False = False
over (F.Atom sym terms) = Atom sym terms
over (F.Same a b) = Same a b
over (F.Not f) = Not f
over (F.And fs) = And fs
over (F.Or fs) = Or fs
over (F.Implies f g) = Implies f g
over (F.Iff f g) = Iff f g
over (F.All sort f) = All sort f
over (F.Any sort f) = Any sort f

abbrev pub shown_formula_step : Parts → F.Formula-F (ℕ → Tree) → ℕ → Tree
shown_formula_step p x = shown_step p (over x)

-- a formula is shown as the temporal formula that it is
abbrev pub shown_formula : Parts → Formula → ℕ → Tree
shown_formula p = fold-Formula (ℕ → Tree) (shown_formula_step p)

abbrev pub shown_formulas : Parts → List Formula → ℕ → List Tree
shown_formulas p fs depth = each_at (map (shown_formula p) fs) depth
