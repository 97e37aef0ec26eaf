-- The lists of sentences that are made are those of the obligations.
use Rattle.std.proofs.Common.{◌≡◌, ℕ, zero, suc, ◌<◌, ◌≤◌, List, [], ◌∷◌, ◌++◌, length, get_or, map, refl, ap, ap₂, ◌∙◌, arith}
use Rattle.std.proofs.lemmas.List.{append_assoc}
use Rattle.lv_formula.specs.declared.symbols.Sym.TheVariants.{Saved}
use Rattle.lv_formula.specs.declared.formula.Formula.TheVariants.{True}
use Rattle.lv_system.specs.declared.parts.Parts.{Parts}
use Rattle.lv_system.specs.declared.parts.Action.{Action}
use Rattle.lv_system.specs.declared.parts.Invariant.{Invariant}
use Rattle.lv_labels.specs.declared.labelling.LabelTable.{LabelTable}
use Rattle.lv_labels.specs.Problem.{Condition, problem_of}
use Rattle.lv_labels.specs.Rows.{IsTableOf, row_condition}
use Rattle.lv_tableau.specs.Sentences.{equations_of}
use Rattle.lv_monitor.proofs.WordsMade.{rows_are_labels}
use Rattle.lv_labels.specs.declared.moves.Move.{Move}
use Rattle.lv_monitor.specs.Conditions.{all_none_due, compare_of, mark_set, move_condition_of}
use Rattle.lv_labels.specs.declared.which.Which.TheVariants.{Catch}
use Rattle.lv_labels.specs.Obligations.{formula_of}
use Rattle.lv_oblig.specs.Sentences.{guard_of, hypotheses_of, step_hypotheses}

nested : {X : Type 0} (a b c d e : List X) → (((a ++ b) ++ c) ++ d) ++ e ≡ a ++ (b ++ (c ++ (d ++ e)))
nested a b c d e = append_assoc ((a ++ b) ++ c) d e ∙ (append_assoc (a ++ b) c (d ++ e) ∙ append_assoc a b (c ++ (d ++ e)))

pub step_made : (p : Parts) (t : LabelTable) (js : List Condition) (a : Action) (mv : Move) → IsTableOf p t → js ≡ (problem_of p).justice
    → (((p.axioms ++ map formula_of p.invariants) ++ (guard_of a ∷ [])) ++ move_condition_of js mv) ++ equations_of (map row_condition t.labels) ≡ step_hypotheses (problem_of p) a mv
step_made p t js a mv is same = ap₂ (λ cs ls. (((p.axioms ++ map formula_of p.invariants) ++ (guard_of a ∷ [])) ++ move_condition_of cs mv) ++ equations_of ls) same (rows_are_labels p t is)
    ∙ nested p.axioms (map formula_of p.invariants) (guard_of a ∷ []) (move_condition_of (problem_of p).justice mv) (equations_of (problem_of p).labels)

pub catch_made : (p : Parts) (js : List Condition) → js ≡ (problem_of p).justice
    → (((p.axioms ++ map formula_of p.invariants) ++ (mark_set Saved ∷ [])) ++ all_none_due js) ++ compare_of (problem_of p) ≡ hypotheses_of (problem_of p) Catch
catch_made p js same = ap (λ cs. (((p.axioms ++ map formula_of p.invariants) ++ (mark_set Saved ∷ [])) ++ all_none_due cs) ++ compare_of (problem_of p)) same
    ∙ nested p.axioms (map formula_of p.invariants) (mark_set Saved ∷ []) (all_none_due (problem_of p).justice) (compare_of (problem_of p))

pub invariant_there : (is : List Invariant) (i : ℕ) → i < length is → (d : Invariant) → get_or (map formula_of is) i True ≡ (get_or is i d).formula
invariant_there [] i l d = absurd (omega (arith, l))
invariant_there (x ∷ xs) zero l d = refl
invariant_there (x ∷ xs) (suc i) l d = invariant_there xs i (omega (arith, l)) d

pub invariant_past : (is : List Invariant) (i : ℕ) → length is ≤ i → get_or (map formula_of is) i True ≡ True
invariant_past [] i l = refl
invariant_past (x ∷ xs) zero l = absurd (omega (arith, l))
invariant_past (x ∷ xs) (suc i) l = invariant_past xs i (omega (arith, l))
