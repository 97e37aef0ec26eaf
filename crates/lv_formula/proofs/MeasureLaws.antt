-- How the measures of a formula compare.
use Rattle.std.proofs.Common.{◌≡◌, ◌+◌, ◌≤◌, List, [], ◌∷◌, arith}
use Rattle.lv_formula.specs.declared.formula.Formula.{Formula}
use Rattle.lv_formula.specs.Measures.{depth_of, depth_of_all, nodes_of, nodes_of_all}
use Rattle.lv_formula.proofs.Folds.{folds}
use Rattle.lv_formula.proofs.Induction.{Cases, Each, by_cases}

abbrev Shallow : Formula → Type 0
Shallow f = depth_of f ≤ nodes_of f

all_shallow : (fs : List Formula) → Each Shallow fs → depth_of_all fs ≤ nodes_of_all fs
all_shallow [] each = omega arith
all_shallow (f ∷ fs) each = let first = each.0 in let rest = all_shallow fs each.1 in omega (arith, first, rest)

cases : Cases Shallow
cases = record {
  at_true = simp folds (omega arith);
  at_false = simp folds (omega arith);
  at_atom = λ r ts. simp folds (omega arith);
  at_same = λ a b. simp folds (omega arith);
  at_not = λ f ih. simp folds (omega (arith, ih));
  at_and = λ fs each. let all = all_shallow fs each in simp folds (omega (arith, all));
  at_or = λ fs each. let all = all_shallow fs each in simp folds (omega (arith, all));
  at_implies = λ f g ihf ihg. simp folds (omega (arith, ihf, ihg));
  at_iff = λ f g ihf ihg. simp folds (omega (arith, ihf, ihg));
  at_all = λ s f ih. simp folds (omega (arith, ih));
  at_any = λ s f ih. simp folds (omega (arith, ih));
}

-- binders stand inside one another at most as deep as there are nodes
pub depth-le-nodes : (f : Formula) → depth_of f ≤ nodes_of f
depth-le-nodes = by_cases Shallow cases
