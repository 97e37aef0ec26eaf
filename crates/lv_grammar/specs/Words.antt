-- The words of symbols, and the names of variables.
use Rattle.std.specs.Prelude.{ℕ, suc, ◌-◌, Bool, true, false, ◌&&◌, ◌||◌, not, leb, ltb, eqb, cond, List, [], ◌∷◌, ◌++◌, length, get_or, map, reverse, codes, decimal, Option, Some, None, is_some}
use Rattle.lv_formula.specs.declared.symbols.SortId.{SortId}
use Rattle.lv_formula.specs.declared.symbols.Sym.{Sym}
use Rattle.lv_formula.specs.declared.symbols.Sym.TheVariants.{Own, Witness, Label, Frozen, Saved, Touched, Kept, Due, Copy, CopyLabel, Next, Param}
use Rattle.lv_system.specs.declared.parts.Parts.{Parts}
use Rattle.lv_system.specs.declared.parts.LabelDecl.{LabelDecl}
use Rattle.lv_system.specs.Names.{same_text, is_in, are_name_bytes}
use Rattle.lv_labels.specs.declared.key.Key.{Key}
use Rattle.lv_labels.specs.Labels.{keys_of, labels_of, number_of}

-- ---- variables

abbrev pub begins_capital : List ℕ → Bool
begins_capital [] = false
begins_capital (b ∷ bs) = is_in 65 90 b

-- a capital letter, then letters, digits, '_' and '-', at most 48 bytes in all
abbrev pub is_variable : List ℕ → Bool
is_variable text = begins_capital text && are_name_bytes text && leb (length text) 48

-- a variable in whose scope a formula stands
pub record Variable : Type 0 where
  pub name : List ℕ
  pub sort : SortId

abbrev pub further : Option ℕ → Option ℕ
further None = None
further (Some n) = Some (suc n)

-- the number of the innermost variable with the name, where the list has the innermost first
abbrev pub variable_number : List Variable → List ℕ → Option ℕ
variable_number [] name = None
variable_number (v ∷ vs) name = cond (same_text v.name name) (Some 0) (further (variable_number vs name))

-- a name of a variable in the scope of these others
abbrev pub is_new_variable : List Variable → List ℕ → Bool
is_new_variable vs name = is_variable name && not (is_some (variable_number vs name))

-- the variables that are declared one after the other, the first of them outermost, in the scope of these others
abbrev pub are_new_variables : List Variable → List Variable → Bool
are_new_variables vs [] = true
are_new_variables vs (x ∷ xs) = is_new_variable vs x.name && are_new_variables (x ∷ vs) xs

-- ---- labels that have a name

-- Among the labels of a declaration's formula its own is the first, as an outer `always` comes before those inside it.
abbrev pub has_number : List Key → ℕ → List Key → Bool
has_number table k [] = false
has_number table k (own ∷ inner) = eqb (number_of table own) k

-- the name of the first declaration whose label has the number in the table
abbrev pub declared_name : List Key → ℕ → List LabelDecl → Option (List ℕ)
declared_name table k [] = None
declared_name table k (l ∷ ls) = cond (has_number table k (keys_of l.formula (reverse l.params))) (Some l.name) (declared_name table k ls)

abbrev pub label_name : Parts → ℕ → Option (List ℕ)
label_name p k = declared_name (labels_of p) k p.labels

abbrev pub name_or_number : ℕ → Option (List ℕ) → List ℕ
name_or_number k None = codes "label." ++ decimal k
name_or_number k (Some name) = name

-- a label's declared name, or `label.` and its number
abbrev pub label_word : Parts → ℕ → List ℕ
label_word p k = name_or_number k (label_name p k)

-- ---- symbols

abbrev pub sort_name : Parts → SortId → List ℕ
sort_name p s = get_or (map (λ x. x.name) p.sorts) s.0 []

abbrev pub own_name : Parts → ℕ → List ℕ
own_name p n = get_or (map (λ x. x.name) p.symbols) n []

-- the justice conditions are those of fairness, and then one for each label
abbrev pub justice_name : Parts → ℕ → List ℕ
justice_name p j = cond (ltb j (length p.fairs)) (get_or (map (λ x. x.name) p.fairs) j []) (label_word p (j - length p.fairs))

-- the word of a symbol
abbrev pub symbol_word : Parts → Sym → List ℕ
symbol_word p (Own n) = own_name p n
symbol_word p (Witness n) = get_or (map (λ x. x.name) p.witnesses) n []
symbol_word p (Label k) = label_word p k
symbol_word p Frozen = codes "frozen"
symbol_word p Saved = codes "saved"
symbol_word p (Touched s) = codes "touched." ++ sort_name p s
symbol_word p (Kept s) = codes "kept." ++ sort_name p s
symbol_word p (Due j) = codes "due." ++ justice_name p j
symbol_word p (Copy n) = codes "saved." ++ own_name p n
symbol_word p (CopyLabel k) = codes "saved." ++ label_word p k
symbol_word p (Next k) = codes "next." ++ label_word p k
symbol_word p (Param n) = codes "param." ++ decimal n

-- Texts may use the symbol: labels without a declared name, next values of labels and parameters by number have words for
-- reports alone.
abbrev pub is_spoken : Parts → Sym → Bool
is_spoken p (Own n) = true
is_spoken p (Witness n) = true
is_spoken p (Label k) = is_some (label_name p k)
is_spoken p Frozen = true
is_spoken p Saved = true
is_spoken p (Touched s) = true
is_spoken p (Kept s) = true
is_spoken p (Due j) = ltb j (length p.fairs) || is_some (label_name p (j - length p.fairs))
is_spoken p (Copy n) = true
is_spoken p (CopyLabel k) = is_some (label_name p k)
is_spoken p (Next k) = false
is_spoken p (Param n) = false
