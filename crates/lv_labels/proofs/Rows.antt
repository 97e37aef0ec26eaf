-- The label table that the code hands out has the labels and the justice conditions of the system's problem.
use Rattle.std.proofs.Common.{◌≡◌, ℕ, suc, List, [], ◌∷◌, ◌++◌, map, refl, ap}
use Rattle.lv_system.specs.declared.parts.Parts.{Parts}
use Rattle.lv_labels.specs.declared.key.Key.{Key}
use Rattle.lv_labels.specs.Labels.{labels_of}
use Rattle.lv_labels.specs.Problem.{fair_condition, label_condition, label_justice, label_justices}
use Rattle.lv_labels.specs.Table.{label_row, own_key}
use Rattle.lv_labels.specs.Closing.{numbered}
use Rattle.lv_labels.specs.Rows.{AreRowsOfProblem, row_condition, row_justice}

conditions : (table own keys : List Key) → map row_condition (map (label_row table own) keys) ≡ map (label_condition table) keys
conditions table own [] = refl
conditions table own (k ∷ ks) = ap (λ cs. label_condition table k ∷ cs) (conditions table own ks)

justices : (table own : List Key) (l : ℕ) (keys : List Key) → numbered row_justice l (map (label_row table own) keys) ≡ label_justices table l keys
justices table own l [] = refl
justices table own l (k ∷ ks) = ap (λ cs. label_justice table l k ∷ cs) (justices table own (suc l) ks)

pub rows_of_problem : (p : Parts) → AreRowsOfProblem p
rows_of_problem p = record {
  labels = conditions (labels_of p) (map own_key p.labels) (labels_of p);
  justice = ap (λ cs. map fair_condition p.fairs ++ cs) (justices (labels_of p) (map own_key p.labels) 0 (labels_of p));
}
