-- The lists of words that are made are those of the vocabularies.
use Rattle.std.proofs.Common.{◌≡◌, ℕ, zero, suc, ◌<◌, ◌≤◌, List, [], ◌∷◌, ◌++◌, length, get_or, map, refl, sym, ap, ap₂, ◌∙◌, arith}
use Rattle.std.proofs.lemmas.List.{append_assoc}
use Rattle.std.proofs.Math.Seq.{take-length}
use Rattle.lv_formula.specs.declared.symbols.Sym.TheVariants.{Own, Label, Frozen, Saved, Touched, Kept, Due, Copy, CopyLabel}
use Rattle.lv_formula.specs.declared.formula.Formula.TheVariants.{True}
use Rattle.lv_formula.specs.declared.vocabulary.RelShape.{RelShape}
use Rattle.lv_system.specs.declared.parts.Parts.{Parts}
use Rattle.lv_system.specs.InvariantWords.{is_changing, sets_from}
use Rattle.lv_system.specs.Vocabularies.{any_symbol, constants_from, relations_from, witnesses_from}
use Rattle.lv_labels.specs.declared.labelling.LabelTable.{LabelTable}
use Rattle.lv_labels.specs.Problem.{Condition, no_condition, problem_of, shapes_from, state_vocabulary}
use Rattle.lv_labels.specs.declared.justice.Justice.{Justice}
use Rattle.lv_labels.specs.Rows.{IsTableOf, condition_of, row_condition}
use Rattle.lv_labels.proofs.Rows.{rows_of_problem}
use Rattle.lv_labels.specs.Closing.{numbered}
use Rattle.lv_footprint.specs.Gathered.{gathered}
use Rattle.lv_monitor.specs.Conditions.{compare_of, label_alike, symbol_alike}
use Rattle.lv_labels.specs.Vocabularies.{catch_vocabulary, mark}

-- the rows of the system's label table are the labels of its problem
pub rows_are_labels : (p : Parts) (t : LabelTable) → IsTableOf p t → map row_condition t.labels ≡ (problem_of p).labels
rows_are_labels p t is = ap (map row_condition) is.labels ∙ (rows_of_problem p).labels

nested : {X : Type 0} (a b c d e f g : List X) → (((((a ++ b) ++ c) ++ d) ++ e) ++ f) ++ g ≡ a ++ (b ++ (c ++ (d ++ (e ++ (f ++ g)))))
nested a b c d e f g = append_assoc ((((a ++ b) ++ c) ++ d) ++ e) f g ∙ (append_assoc (((a ++ b) ++ c) ++ d) e (f ++ g) ∙ (append_assoc ((a ++ b) ++ c) d (e ++ (f ++ g))
    ∙ (append_assoc (a ++ b) c (d ++ (e ++ (f ++ g))) ∙ append_assoc a b (c ++ (d ++ (e ++ (f ++ g)))))))

pub relations_made : (p : Parts) (t : LabelTable) (justice : List Condition) → IsTableOf p t → justice ≡ (problem_of p).justice
    → ((((((relations_from any_symbol Own 0 p.symbols ++ shapes_from Label 0 (map row_condition t.labels)) ++ (mark Frozen ∷ mark Saved ∷ [])) ++ sets_from Touched 0 p.sorts) ++ sets_from Kept 0 p.sorts) ++ shapes_from Due 0 justice)
    ++ relations_from is_changing Copy 0 p.symbols) ++ shapes_from CopyLabel 0 (map row_condition t.labels) ≡ (catch_vocabulary (problem_of p)).relations
relations_made p t justice is same =
    let made : List Condition → List Condition → List RelShape = λ labels js. ((((((relations_from any_symbol Own 0 p.symbols ++ shapes_from Label 0 labels) ++ (mark Frozen ∷ mark Saved ∷ [])) ++ sets_from Touched 0 p.sorts) ++ sets_from Kept 0 p.sorts) ++ shapes_from Due 0 js) ++ relations_from is_changing Copy 0 p.symbols) ++ shapes_from CopyLabel 0 labels in
    ap₂ made (rows_are_labels p t is) same
    ∙ nested (state_vocabulary (problem_of p)).relations (mark Frozen ∷ mark Saved ∷ []) (sets_from Touched 0 p.sorts) (sets_from Kept 0 p.sorts) (shapes_from Due 0 (problem_of p).justice) (relations_from is_changing Copy 0 p.symbols) (shapes_from CopyLabel 0 (problem_of p).labels)

pub constants_made : (p : Parts) → (constants_from any_symbol Own 0 p.symbols ++ witnesses_from 0 p.witnesses) ++ constants_from is_changing Copy 0 p.symbols ≡ (catch_vocabulary (problem_of p)).constants
constants_made p = ap (λ ws. (constants_from any_symbol Own 0 p.symbols ++ witnesses_from 0 ws) ++ constants_from is_changing Copy 0 p.symbols) (sym (take-length p.witnesses))

pub condition_at : (js : List Justice) (j : ℕ) → j < length js → (d : Justice) → (get_or (map condition_of js) j no_condition).body ≡ (get_or js j d).condition
condition_at [] j l d = absurd (omega (arith, l))
condition_at (x ∷ xs) zero l d = refl
condition_at (x ∷ xs) (suc j) l d = condition_at xs j (omega (arith, l)) d

pub condition_past : (js : List Justice) (j : ℕ) → length js ≤ j → (get_or (map condition_of js) j no_condition).body ≡ True
condition_past [] j l = refl
condition_past (x ∷ xs) zero l = absurd (omega (arith, l))
condition_past (x ∷ xs) (suc j) l = condition_past xs j (omega (arith, l))

pub compare_made : (p : Parts) (t : LabelTable) → IsTableOf p t → gathered symbol_alike 0 p.symbols ++ numbered label_alike 0 (map row_condition t.labels) ≡ compare_of (problem_of p)
compare_made p t is = ap (λ cs. gathered symbol_alike 0 p.symbols ++ numbered label_alike 0 cs) (rows_are_labels p t is)
