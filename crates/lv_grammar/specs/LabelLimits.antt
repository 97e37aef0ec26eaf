-- The limits on labels, and what invariants may say of them.
use Rattle.std.specs.Prelude.{ℕ, zero, suc, Bool, true, false, ◌&&◌, not, leb, eqb, List, [], ◌∷◌, ◌++◌, length, reverse, take, map}
use Rattle.lv_formula.specs.declared.symbols.Sym.{Sym}
use Rattle.lv_formula.specs.declared.symbols.Sym.TheVariants.{Label, Due, CopyLabel}
use Rattle.lv_formula.specs.declared.vocabulary.RelShape.{RelShape}
use Rattle.lv_formula.specs.declared.vocabulary.Vocabulary.{Vocabulary}
use Rattle.lv_formula.specs.Fits.{fits_in}
use Rattle.lv_system.specs.declared.parts.Parts.{Parts}
use Rattle.lv_system.specs.declared.parts.LabelDecl.{LabelDecl}
use Rattle.lv_system.specs.declared.parts.Invariant.{Invariant}
use Rattle.lv_system.specs.InvariantWords.{invariant_vocabulary}
use Rattle.lv_labels.specs.declared.key.Key.{Key}
use Rattle.lv_labels.specs.Labels.{key_eq, keys_of, labels_of}
use Rattle.lv_labels.specs.Once.{is_among}
use Rattle.lv_labels.specs.Renaming.{free_variables}

-- at most four free variables each
abbrev pub are_narrow : List Key → Bool
are_narrow [] = true
are_narrow (k ∷ ks) = leb (length k.sorts) 4 && are_narrow ks

-- the labels of declarations: of each formula the outermost, which comes first
abbrev pub declared_keys : List LabelDecl → List Key
declared_keys [] = []
declared_keys (l ∷ ls) = take 1 (keys_of l.formula (reverse l.params)) ++ declared_keys ls

abbrev pub all_differ : List Key → Bool
all_differ [] = true
all_differ (k ∷ ks) = not (is_among key_eq k ks) && all_differ ks

abbrev pub numbers_eq : List ℕ → List ℕ → Bool
numbers_eq [] [] = true
numbers_eq [] (n ∷ ns) = false
numbers_eq (m ∷ ms) [] = false
numbers_eq (m ∷ ms) (n ∷ ns) = eqb m n && numbers_eq ms ns

-- the variables of so many parameters, the first of them outermost
abbrev pub parameter_numbers : ℕ → List ℕ
parameter_numbers zero = []
parameter_numbers (suc n) = n ∷ parameter_numbers n

-- the listed variables are the free ones in order of first occurrence
abbrev pub lists_free : LabelDecl → Bool
lists_free l = numbers_eq (free_variables l.formula) (parameter_numbers (length l.params))

abbrev pub list_free : List LabelDecl → Bool
list_free [] = true
list_free (l ∷ ls) = lists_free l && list_free ls

-- relations with the sorts of the labels, of which the first has the number n
abbrev pub label_shapes : (ℕ → Sym) → ℕ → List Key → List RelShape
label_shapes name n [] = []
label_shapes name n (k ∷ ks) = record { sym = name n; sorts = k.sorts } ∷ label_shapes name (suc n) ks

abbrev pub label_relations : Parts → List RelShape
label_relations p = label_shapes Label 0 (labels_of p) ++ (label_shapes Due (length p.fairs) (labels_of p) ++ label_shapes CopyLabel 0 (labels_of p))

-- the symbols of invariants with their sorts: also the labels, the due set of each label's condition, and the copy of each label.
-- Which of them texts may use is `is_spoken`.
abbrev pub spoken_vocabulary : Parts → Vocabulary
spoken_vocabulary p = record {
  sorts = (invariant_vocabulary p).sorts;
  relations = (invariant_vocabulary p).relations ++ label_relations p;
  constants = (invariant_vocabulary p).constants;
  order = (invariant_vocabulary p).order ++ map (λ r. r.sym) (label_relations p);
}

abbrev pub invariants_fit_in : Vocabulary → List Invariant → Bool
invariants_fit_in voc [] = true
invariants_fit_in voc (i ∷ is') = fits_in voc [] i.formula && invariants_fit_in voc is'

-- at most 32 labels, each with at most four free variables; no two declarations of one label; each lists its free variables
-- in order of first occurrence; the words of labels in invariants have terms of the labels' sorts
abbrev pub labels_keep_limits : Parts → Bool
labels_keep_limits p =
    leb (length (labels_of p)) 32 && (are_narrow (labels_of p) && (all_differ (declared_keys p.labels) && (list_free p.labels
    && invariants_fit_in (spoken_vocabulary p) p.invariants)))
