-- The vocabularies that are made are those of the definitions.
use Rattle.std.proofs.Common.{◌≡◌, ℕ, suc, List, [], ◌∷◌, length, map, take, refl, sym, ap, ◌∙◌}
use Rattle.std.proofs.Math.Seq.{take-length}
use Rattle.lv_formula.specs.declared.symbols.Sym.{Sym}
use Rattle.lv_formula.specs.declared.symbols.Sym.TheVariants.{Due}
use Rattle.lv_system.specs.declared.parts.Parts.{Parts}
use Rattle.lv_system.specs.Vocabularies.{witness_names, witnesses_from}
use Rattle.lv_labels.specs.declared.labelling.LabelTable.{LabelTable}
use Rattle.lv_labels.specs.Problem.{names_for, problem_of}
use Rattle.lv_labels.specs.declared.justice.Justice.{Justice}
use Rattle.lv_labels.specs.Rows.{IsTableOf, condition_of, row_condition}
use Rattle.lv_monitor.proofs.WordsMade.{rows_are_labels}

names_mapped : {X Y : Type 0} (name : ℕ → Sym) (f : X → Y) (n : ℕ) (xs : List X) → names_for name n (map f xs) ≡ names_for name n xs
names_mapped name f n [] = refl
names_mapped name f n (x ∷ xs) = ap (λ ns. name n ∷ ns) (names_mapped name f (suc n) xs)

pub label_names : (name : ℕ → Sym) (p : Parts) (t : LabelTable) → IsTableOf p t → names_for name 0 t.labels ≡ names_for name 0 (problem_of p).labels
label_names name p t is = sym (names_mapped name row_condition 0 t.labels) ∙ ap (names_for name 0) (rows_are_labels p t is)

pub due_names : (p : Parts) (js : List Justice) → map condition_of js ≡ (problem_of p).justice → names_for Due 0 js ≡ names_for Due 0 (problem_of p).justice
due_names p js same = sym (names_mapped Due condition_of 0 js) ∙ ap (names_for Due 0) same

pub all_witnesses : (p : Parts) → witness_names 0 p.witnesses ≡ witness_names 0 (take (length p.witnesses) p.witnesses)
all_witnesses p = ap (witness_names 0) (sym (take-length p.witnesses))

pub all_declared : (p : Parts) → witnesses_from 0 p.witnesses ≡ witnesses_from 0 (take (length p.witnesses) p.witnesses)
all_declared p = ap (witnesses_from 0) (sym (take-length p.witnesses))
