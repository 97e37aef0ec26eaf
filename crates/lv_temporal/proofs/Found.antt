-- Each symbol of the monitored structure stands in its vocabulary with its sorts, and no other symbol does.
use Rattle.std.proofs.Common.{◌≡◌, ℕ, ◌+◌, ◌<◌, Bool, true, false, not, List, [], ◌∷◌, ◌++◌, length, get_or, take, Some, refl, sym, ap, subst, ◌∙◌, arith}
use Rattle.std.specs.List.{All}
use Rattle.std.proofs.lemmas.Bool.{false≢true, not_from_false}
use Rattle.std.proofs.lemmas.List.Elements.{All-nil, All-cons, All-append}
use Rattle.lv_formula.specs.declared.symbols.SortId.{SortId}
use Rattle.lv_formula.specs.declared.symbols.Sym.{Sym}
use Rattle.lv_formula.specs.declared.symbols.Sym.TheVariants.{Own, Witness, Label, Frozen, Saved, Touched, Kept, Due, Copy, CopyLabel, Next, Param}
use Rattle.lv_formula.specs.declared.vocabulary.RelShape.{RelShape}
use Rattle.lv_formula.specs.declared.vocabulary.ConShape.{ConShape}
use Rattle.lv_formula.specs.Symbols.{sym_eq, sym_kind}
use Rattle.lv_formula.specs.Vocabulary.{constant_in, relation_in}
use Rattle.lv_formula.proofs.SymbolLaws.{sym_eq-refl}
use Rattle.lv_struct.proofs.Tabulate.{constant_found, relation_found}
use Rattle.lv_system.specs.declared.parts.Action.{Action}
use Rattle.lv_system.specs.Step.{symbol_at}
use Rattle.lv_system.specs.Vocabularies.{any_symbol, constant_sort, constants_from, relation_sorts, relations_from, witnesses_from}
use Rattle.lv_labels.specs.Problem.{Problem, justice_at, label_at, shapes_from, state_vocabulary}
use Rattle.lv_system.specs.InvariantWords.{is_changing, sets_from}
use Rattle.lv_labels.specs.Vocabularies.{catch_vocabulary, mark, params_from, step_vocabulary}
use Rattle.lv_temporal.proofs.Words.{IsNaming, NotConstantKind, NotKind, constant-from, constant-skip, constant-stop, constants_from-all, no_sort_id, no_witness_decl, param-from, params_from-all, relation-from, relation-skip, relation-stop, relations_from-all, set-from, sets_from-all, shape-from, shapes_from-all, witness-from, witnesses_from-all}

-- the symbol is a relation of the monitored structure, with these sorts
abbrev pub IsRelationWord : Problem → Sym → List SortId → Type 0
IsRelationWord q (Own n) sorts = (n < length q.parts.symbols) × (relation_sorts (symbol_at q.parts n).shape ≡ Some sorts)
IsRelationWord q (Witness k) sorts = ⊥
IsRelationWord q (Label l) sorts = (l < length q.labels) × ((label_at q l).sorts ≡ sorts)
IsRelationWord q Frozen sorts = ◌≡◌ {A = List SortId} [] sorts
IsRelationWord q Saved sorts = ◌≡◌ {A = List SortId} [] sorts
IsRelationWord q (Touched s) sorts = (s.0 < length q.parts.sorts) × ((s ∷ []) ≡ sorts)
IsRelationWord q (Kept s) sorts = (s.0 < length q.parts.sorts) × ((s ∷ []) ≡ sorts)
IsRelationWord q (Due j) sorts = (j < length q.justice) × ((justice_at q j).sorts ≡ sorts)
IsRelationWord q (Copy n) sorts = (n < length q.parts.symbols) × ((symbol_at q.parts n).fixed ≡ false) × (relation_sorts (symbol_at q.parts n).shape ≡ Some sorts)
IsRelationWord q (CopyLabel l) sorts = (l < length q.labels) × ((label_at q l).sorts ≡ sorts)
IsRelationWord q (Next l) sorts = (l < length q.labels) × ((label_at q l).sorts ≡ sorts)
IsRelationWord q (Param k) sorts = ⊥

-- the symbol is a constant of the monitored structure in a step with these parameters, of this sort
abbrev pub IsConstantWord : Problem → List SortId → Sym → SortId → Type 0
IsConstantWord q params (Own n) sort = (n < length q.parts.symbols) × (constant_sort (symbol_at q.parts n).shape ≡ Some sort)
IsConstantWord q params (Witness k) sort = (k < length q.parts.witnesses) × ((get_or q.parts.witnesses k no_witness_decl).sort ≡ sort)
IsConstantWord q params (Label l) sort = ⊥
IsConstantWord q params Frozen sort = ⊥
IsConstantWord q params Saved sort = ⊥
IsConstantWord q params (Touched s) sort = ⊥
IsConstantWord q params (Kept s) sort = ⊥
IsConstantWord q params (Due j) sort = ⊥
IsConstantWord q params (Copy n) sort = (n < length q.parts.symbols) × ((symbol_at q.parts n).fixed ≡ false) × (constant_sort (symbol_at q.parts n).shape ≡ Some sort)
IsConstantWord q params (CopyLabel l) sort = ⊥
IsConstantWord q params (Next l) sort = ⊥
IsConstantWord q params (Param k) sort = (k < length params) × (get_or params k no_sort_id ≡ sort)

take_all : {X : Type 0} (xs : List X) → take (length xs) xs ≡ xs
take_all [] = refl
take_all (x ∷ xs) = ap (λ ys. x ∷ ys) (take_all xs)

changing : (b : Bool) → not b ≡ true → b ≡ false
changing true h = absurd (false≢true h)
changing false h = refl

own_naming : IsNaming Own
unfolding sym_eq
own_naming a b = refl

label_naming : IsNaming Label
unfolding sym_eq
label_naming a b = refl

touched_naming : IsNaming (λ n. Touched (record { 0 = n }))
unfolding sym_eq
touched_naming a b = refl

kept_naming : IsNaming (λ n. Kept (record { 0 = n }))
unfolding sym_eq
kept_naming a b = refl

due_naming : IsNaming Due
unfolding sym_eq
due_naming a b = refl

copy_naming : IsNaming Copy
unfolding sym_eq
copy_naming a b = refl

copy_label_naming : IsNaming CopyLabel
unfolding sym_eq
copy_label_naming a b = refl

next_naming : IsNaming Next
unfolding sym_eq
next_naming a b = refl

module _ (q : Problem) where
  abbrev own : List RelShape
  own = relations_from any_symbol Own 0 q.parts.symbols

  abbrev labels : List RelShape
  labels = shapes_from Label 0 q.labels

  abbrev marks : List RelShape
  marks = mark Frozen ∷ mark Saved ∷ []

  abbrev touched : List RelShape
  touched = sets_from Touched 0 q.parts.sorts

  abbrev kept : List RelShape
  kept = sets_from Kept 0 q.parts.sorts

  abbrev due : List RelShape
  due = shapes_from Due 0 q.justice

  abbrev copies : List RelShape
  copies = relations_from is_changing Copy 0 q.parts.symbols

  abbrev copies_of_labels : List RelShape
  copies_of_labels = shapes_from CopyLabel 0 q.labels

  abbrev nexts : List RelShape
  nexts = shapes_from Next 0 q.labels

  abbrev Is : RelShape → Type 0
  Is r = IsRelationWord q r.sym r.sorts

  abbrev at_zero : ℕ → Type 0
  at_zero i = 0 + i ≡ i

  -- ---- all relations are words

  pub own-words : All Is own
  own-words = relations_from-all (IsRelationWord q) any_symbol Own 0 q.parts.symbols (λ i sorts l k is. let z : at_zero i = omega arith in subst (λ j. IsRelationWord q (Own j) sorts) (sym z) (l, is))

  labels-words : All Is labels
  labels-words = shapes_from-all (IsRelationWord q) Label 0 q.labels (λ i l. let z : at_zero i = omega arith in subst (λ j. IsRelationWord q (Label j) (label_at q i).sorts) (sym z) (l, refl))

  marks-words : All Is marks
  marks-words = All-cons Is (mark Frozen) (mark Saved ∷ []) refl (All-cons Is (mark Saved) [] refl (All-nil Is))

  touched-words : All Is touched
  touched-words = sets_from-all (IsRelationWord q) Touched 0 q.parts.sorts (λ i l. (omega (arith, l), refl))

  kept-words : All Is kept
  kept-words = sets_from-all (IsRelationWord q) Kept 0 q.parts.sorts (λ i l. (omega (arith, l), refl))

  due-words : All Is due
  due-words = shapes_from-all (IsRelationWord q) Due 0 q.justice (λ i l. let z : at_zero i = omega arith in subst (λ j. IsRelationWord q (Due j) (justice_at q i).sorts) (sym z) (l, refl))

  copies-words : All Is copies
  copies-words = relations_from-all (IsRelationWord q) is_changing Copy 0 q.parts.symbols (λ i sorts l k is. let z : at_zero i = omega arith in subst (λ j. IsRelationWord q (Copy j) sorts) (sym z) (l, changing (symbol_at q.parts i).fixed k, is))

  copies_of_labels-words : All Is copies_of_labels
  copies_of_labels-words = shapes_from-all (IsRelationWord q) CopyLabel 0 q.labels (λ i l. let z : at_zero i = omega arith in subst (λ j. IsRelationWord q (CopyLabel j) (label_at q i).sorts) (sym z) (l, refl))

  nexts-words : All Is nexts
  nexts-words = shapes_from-all (IsRelationWord q) Next 0 q.labels (λ i l. let z : at_zero i = omega arith in subst (λ j. IsRelationWord q (Next j) (label_at q i).sorts) (sym z) (l, refl))

  pub state-words : All Is (state_vocabulary q).relations
  state-words = All-append Is own labels own-words labels-words

  pub catch-words : All Is (catch_vocabulary q).relations
  catch-words = All-append Is (state_vocabulary q).relations _ state-words
      (All-append Is marks _ marks-words (All-append Is touched _ touched-words (All-append Is kept _ kept-words (All-append Is due _ due-words (All-append Is copies copies_of_labels copies-words copies_of_labels-words)))))

  pub step-words : (a : Action) → All Is (step_vocabulary q a).relations
  step-words a = All-append Is (catch_vocabulary q).relations nexts catch-words nexts-words

  -- what stands in a vocabulary is a word with its sorts
  pub catch-found : (r : Sym) (sorts : List SortId) → relation_in (catch_vocabulary q).relations r ≡ Some sorts → IsRelationWord q r sorts
  catch-found = relation_found (IsRelationWord q) (catch_vocabulary q).relations catch-words

  pub state-found : (r : Sym) (sorts : List SortId) → relation_in (state_vocabulary q).relations r ≡ Some sorts → IsRelationWord q r sorts
  state-found = relation_found (IsRelationWord q) (state_vocabulary q).relations state-words

  pub step-found : (a : Action) (r : Sym) (sorts : List SortId) → relation_in (step_vocabulary q a).relations r ≡ Some sorts → IsRelationWord q r sorts
  step-found a = relation_found (IsRelationWord q) (step_vocabulary q a).relations (step-words a)

  -- ---- no part has symbols of another kind

  own-not : (k : ℕ) → (0 ≡ k → ⊥) → All (NotKind k) own
  own-not k h = relations_from-all (λ s sorts. sym_kind s ≡ k → ⊥) any_symbol Own 0 q.parts.symbols (λ i sorts l t is. h)

  labels-not : (k : ℕ) → (2 ≡ k → ⊥) → All (NotKind k) labels
  labels-not k h = shapes_from-all (λ s sorts. sym_kind s ≡ k → ⊥) Label 0 q.labels (λ i l. h)

  marks-not : (k : ℕ) → (3 ≡ k → ⊥) → (4 ≡ k → ⊥) → All (NotKind k) marks
  marks-not k g h = All-cons (NotKind k) (mark Frozen) (mark Saved ∷ []) g (All-cons (NotKind k) (mark Saved) [] h (All-nil (NotKind k)))

  touched-not : (k : ℕ) → (5 ≡ k → ⊥) → All (NotKind k) touched
  touched-not k h = sets_from-all (λ s sorts. sym_kind s ≡ k → ⊥) Touched 0 q.parts.sorts (λ i l. h)

  kept-not : (k : ℕ) → (6 ≡ k → ⊥) → All (NotKind k) kept
  kept-not k h = sets_from-all (λ s sorts. sym_kind s ≡ k → ⊥) Kept 0 q.parts.sorts (λ i l. h)

  due-not : (k : ℕ) → (7 ≡ k → ⊥) → All (NotKind k) due
  due-not k h = shapes_from-all (λ s sorts. sym_kind s ≡ k → ⊥) Due 0 q.justice (λ i l. h)

  copies-not : (k : ℕ) → (8 ≡ k → ⊥) → All (NotKind k) copies
  copies-not k h = relations_from-all (λ s sorts. sym_kind s ≡ k → ⊥) is_changing Copy 0 q.parts.symbols (λ i sorts l t is. h)

  copies_of_labels-not : (k : ℕ) → (9 ≡ k → ⊥) → All (NotKind k) copies_of_labels
  copies_of_labels-not k h = shapes_from-all (λ s sorts. sym_kind s ≡ k → ⊥) CopyLabel 0 q.labels (λ i l. h)

  state-not : (k : ℕ) → (0 ≡ k → ⊥) → (2 ≡ k → ⊥) → All (NotKind k) (state_vocabulary q).relations
  state-not k g h = All-append (NotKind k) own labels (own-not k g) (labels-not k h)

  -- ---- each word stands in its vocabulary

  abbrev behind_marks : List RelShape
  behind_marks = touched ++ (kept ++ (due ++ (copies ++ copies_of_labels)))

  pub own-state : (n : ℕ) (sorts : List SortId) → n < length q.parts.symbols → relation_sorts (symbol_at q.parts n).shape ≡ Some sorts → relation_in (state_vocabulary q).relations (Own n) ≡ Some sorts
  own-state n sorts l is = relation-stop own labels (Own n) sorts
      (let z : at_zero n = omega arith in subst (λ j. relation_in own (Own j) ≡ Some sorts) z (relation-from any_symbol Own own_naming 0 q.parts.symbols n sorts l refl is))

  pub label-state : (n : ℕ) → n < length q.labels → relation_in (state_vocabulary q).relations (Label n) ≡ Some (label_at q n).sorts
  label-state n l = relation-skip own labels (Label n) (own-not 2 (λ e. omega (arith, e)))
      ∙ (let z : at_zero n = omega arith in subst (λ j. relation_in labels (Label j) ≡ Some (label_at q n).sorts) z (shape-from Label label_naming 0 q.labels n l))

  -- what stands for a start stands later too
  pub state-catch : (r : Sym) (sorts : List SortId) → relation_in (state_vocabulary q).relations r ≡ Some sorts → relation_in (catch_vocabulary q).relations r ≡ Some sorts
  state-catch r sorts is = relation-stop (state_vocabulary q).relations (marks ++ behind_marks) r sorts is

  pub catch-step : (a : Action) (r : Sym) (sorts : List SortId) → relation_in (catch_vocabulary q).relations r ≡ Some sorts → relation_in (step_vocabulary q a).relations r ≡ Some sorts
  catch-step a r sorts is = relation-stop (catch_vocabulary q).relations nexts r sorts is

  pub frozen-catch : relation_in (catch_vocabulary q).relations Frozen ≡ Some []
  frozen-catch = relation-skip (state_vocabulary q).relations (marks ++ behind_marks) Frozen (state-not 3 (λ e. omega (arith, e)) (λ e. omega (arith, e))) ∙ rw (sym_eq-refl Frozen) refl

  pub saved-catch : relation_in (catch_vocabulary q).relations Saved ≡ Some []
  unfolding sym_eq
  saved-catch = relation-skip (state_vocabulary q).relations (marks ++ behind_marks) Saved (state-not 4 (λ e. omega (arith, e)) (λ e. omega (arith, e))) ∙ refl

  behind-marks : (r : Sym) → (0 ≡ sym_kind r → ⊥) → (2 ≡ sym_kind r → ⊥) → (3 ≡ sym_kind r → ⊥) → (4 ≡ sym_kind r → ⊥) → relation_in (catch_vocabulary q).relations r ≡ relation_in behind_marks r
  behind-marks r a b c d = relation-skip (state_vocabulary q).relations (marks ++ behind_marks) r (state-not (sym_kind r) a b) ∙ relation-skip marks behind_marks r (marks-not (sym_kind r) c d)

  pub touched-catch : (s : SortId) → s.0 < length q.parts.sorts → relation_in (catch_vocabulary q).relations (Touched s) ≡ Some (s ∷ [])
  touched-catch s l = behind-marks (Touched s) (λ e. omega (arith, e)) (λ e. omega (arith, e)) (λ e. omega (arith, e)) (λ e. omega (arith, e))
      ∙ relation-stop touched (kept ++ (due ++ (copies ++ copies_of_labels))) (Touched s) (s ∷ [])
      (let z : at_zero s.0 = omega arith in subst (λ j. relation_in touched (Touched (record { 0 = j })) ≡ Some (record { 0 = j } ∷ [])) z (set-from Touched touched_naming 0 q.parts.sorts s.0 l))

  pub kept-catch : (s : SortId) → s.0 < length q.parts.sorts → relation_in (catch_vocabulary q).relations (Kept s) ≡ Some (s ∷ [])
  kept-catch s l = behind-marks (Kept s) (λ e. omega (arith, e)) (λ e. omega (arith, e)) (λ e. omega (arith, e)) (λ e. omega (arith, e))
      ∙ relation-skip touched (kept ++ (due ++ (copies ++ copies_of_labels))) (Kept s) (touched-not 6 (λ e. omega (arith, e)))
      ∙ relation-stop kept (due ++ (copies ++ copies_of_labels)) (Kept s) (s ∷ [])
      (let z : at_zero s.0 = omega arith in subst (λ j. relation_in kept (Kept (record { 0 = j })) ≡ Some (record { 0 = j } ∷ [])) z (set-from Kept kept_naming 0 q.parts.sorts s.0 l))

  pub due-catch : (j : ℕ) → j < length q.justice → relation_in (catch_vocabulary q).relations (Due j) ≡ Some (justice_at q j).sorts
  due-catch j l = behind-marks (Due j) (λ e. omega (arith, e)) (λ e. omega (arith, e)) (λ e. omega (arith, e)) (λ e. omega (arith, e))
      ∙ relation-skip touched (kept ++ (due ++ (copies ++ copies_of_labels))) (Due j) (touched-not 7 (λ e. omega (arith, e)))
      ∙ relation-skip kept (due ++ (copies ++ copies_of_labels)) (Due j) (kept-not 7 (λ e. omega (arith, e)))
      ∙ relation-stop due (copies ++ copies_of_labels) (Due j) (justice_at q j).sorts
      (let z : at_zero j = omega arith in subst (λ i. relation_in due (Due i) ≡ Some (justice_at q j).sorts) z (shape-from Due due_naming 0 q.justice j l))

  pub copy-catch : (n : ℕ) (sorts : List SortId) → n < length q.parts.symbols → (symbol_at q.parts n).fixed ≡ false → relation_sorts (symbol_at q.parts n).shape ≡ Some sorts → relation_in (catch_vocabulary q).relations (Copy n) ≡ Some sorts
  copy-catch n sorts l free is = behind-marks (Copy n) (λ e. omega (arith, e)) (λ e. omega (arith, e)) (λ e. omega (arith, e)) (λ e. omega (arith, e))
      ∙ relation-skip touched (kept ++ (due ++ (copies ++ copies_of_labels))) (Copy n) (touched-not 8 (λ e. omega (arith, e)))
      ∙ relation-skip kept (due ++ (copies ++ copies_of_labels)) (Copy n) (kept-not 8 (λ e. omega (arith, e)))
      ∙ relation-skip due (copies ++ copies_of_labels) (Copy n) (due-not 8 (λ e. omega (arith, e)))
      ∙ relation-stop copies copies_of_labels (Copy n) sorts
      (let z : at_zero n = omega arith in subst (λ j. relation_in copies (Copy j) ≡ Some sorts) z (relation-from is_changing Copy copy_naming 0 q.parts.symbols n sorts l (not_from_false (symbol_at q.parts n).fixed free) is))

  pub copy_label-catch : (n : ℕ) → n < length q.labels → relation_in (catch_vocabulary q).relations (CopyLabel n) ≡ Some (label_at q n).sorts
  copy_label-catch n l = behind-marks (CopyLabel n) (λ e. omega (arith, e)) (λ e. omega (arith, e)) (λ e. omega (arith, e)) (λ e. omega (arith, e))
      ∙ relation-skip touched (kept ++ (due ++ (copies ++ copies_of_labels))) (CopyLabel n) (touched-not 9 (λ e. omega (arith, e)))
      ∙ relation-skip kept (due ++ (copies ++ copies_of_labels)) (CopyLabel n) (kept-not 9 (λ e. omega (arith, e)))
      ∙ relation-skip due (copies ++ copies_of_labels) (CopyLabel n) (due-not 9 (λ e. omega (arith, e)))
      ∙ relation-skip copies copies_of_labels (CopyLabel n) (copies-not 9 (λ e. omega (arith, e)))
      ∙ (let z : at_zero n = omega arith in subst (λ j. relation_in copies_of_labels (CopyLabel j) ≡ Some (label_at q n).sorts) z (shape-from CopyLabel copy_label_naming 0 q.labels n l))

  pub catch-not_next : All (NotKind 10) (catch_vocabulary q).relations
  catch-not_next = All-append (NotKind 10) (state_vocabulary q).relations _ (state-not 10 (λ e. omega (arith, e)) (λ e. omega (arith, e)))
      (All-append (NotKind 10) marks _ (marks-not 10 (λ e. omega (arith, e)) (λ e. omega (arith, e))) (All-append (NotKind 10) touched _ (touched-not 10 (λ e. omega (arith, e))) (All-append (NotKind 10) kept _ (kept-not 10 (λ e. omega (arith, e)))
      (All-append (NotKind 10) due _ (due-not 10 (λ e. omega (arith, e))) (All-append (NotKind 10) copies copies_of_labels (copies-not 10 (λ e. omega (arith, e))) (copies_of_labels-not 10 (λ e. omega (arith, e))))))))

  pub next-step : (a : Action) (n : ℕ) → n < length q.labels → relation_in (step_vocabulary q a).relations (Next n) ≡ Some (label_at q n).sorts
  next-step a n l = relation-skip (catch_vocabulary q).relations nexts (Next n) catch-not_next
      ∙ (let z : at_zero n = omega arith in subst (λ j. relation_in nexts (Next j) ≡ Some (label_at q n).sorts) z (shape-from Next next_naming 0 q.labels n l))

-- ---- constants

module _ (q : Problem) where
  abbrev own_constants : List ConShape
  own_constants = constants_from any_symbol Own 0 q.parts.symbols

  abbrev witnesses : List ConShape
  witnesses = witnesses_from 0 (take (length q.parts.witnesses) q.parts.witnesses)

  abbrev copied_constants : List ConShape
  copied_constants = constants_from is_changing Copy 0 q.parts.symbols

  abbrev IsCon : List SortId → ConShape → Type 0
  IsCon params c = IsConstantWord q params c.sym c.sort

  abbrev from_zero : ℕ → Type 0
  from_zero i = 0 + i ≡ i

  own_constants-words : (params : List SortId) → All (IsCon params) own_constants
  own_constants-words params = constants_from-all (IsConstantWord q params) any_symbol Own 0 q.parts.symbols (λ i sort l k is. let z : from_zero i = omega arith in subst (λ j. IsConstantWord q params (Own j) sort) (sym z) (l, is))

  witnesses-words : (params : List SortId) → All (IsCon params) witnesses
  witnesses-words params = subst (λ ws. All (IsCon params) (witnesses_from 0 ws)) (sym (take_all q.parts.witnesses))
      (witnesses_from-all (IsConstantWord q params) 0 q.parts.witnesses (λ i l. let z : from_zero i = omega arith in subst (λ j. IsConstantWord q params (Witness j) (get_or q.parts.witnesses i no_witness_decl).sort) (sym z) (l, refl)))

  copied_constants-words : (params : List SortId) → All (IsCon params) copied_constants
  copied_constants-words params = constants_from-all (IsConstantWord q params) is_changing Copy 0 q.parts.symbols (λ i sort l k is. let z : from_zero i = omega arith in subst (λ j. IsConstantWord q params (Copy j) sort) (sym z) (l, changing (symbol_at q.parts i).fixed k, is))

  params-words : (params : List SortId) → All (IsCon params) (params_from 0 params)
  params-words params = params_from-all (IsConstantWord q params) 0 params (λ i l. let z : from_zero i = omega arith in subst (λ j. IsConstantWord q params (Param j) (get_or params i no_sort_id)) (sym z) (l, refl))

  pub state-constants : (params : List SortId) → All (IsCon params) (state_vocabulary q).constants
  state-constants params = All-append (IsCon params) own_constants witnesses (own_constants-words params) (witnesses-words params)

  pub catch-constants : (params : List SortId) → All (IsCon params) (catch_vocabulary q).constants
  catch-constants params = All-append (IsCon params) (state_vocabulary q).constants copied_constants (state-constants params) (copied_constants-words params)

  pub step-constants : (a : Action) → All (IsCon a.params) (step_vocabulary q a).constants
  step-constants a = All-append (IsCon a.params) (catch_vocabulary q).constants (params_from 0 a.params) (catch-constants a.params) (params-words a.params)

  -- what stands in a vocabulary as a constant is a word with its sort
  pub state-constant_found : (c : Sym) (sort : SortId) → constant_in (state_vocabulary q).constants c ≡ Some sort → IsConstantWord q [] c sort
  state-constant_found = constant_found (IsConstantWord q []) (state_vocabulary q).constants (state-constants [])

  pub catch-constant_found : (c : Sym) (sort : SortId) → constant_in (catch_vocabulary q).constants c ≡ Some sort → IsConstantWord q [] c sort
  catch-constant_found = constant_found (IsConstantWord q []) (catch_vocabulary q).constants (catch-constants [])

  pub step-constant_found : (a : Action) (c : Sym) (sort : SortId) → constant_in (step_vocabulary q a).constants c ≡ Some sort → IsConstantWord q a.params c sort
  step-constant_found a = constant_found (IsConstantWord q a.params) (step_vocabulary q a).constants (step-constants a)

  own_constants-not : (k : ℕ) → (0 ≡ k → ⊥) → All (NotConstantKind k) own_constants
  own_constants-not k h = constants_from-all (λ s sort. sym_kind s ≡ k → ⊥) any_symbol Own 0 q.parts.symbols (λ i sort l t is. h)

  witnesses-not : (k : ℕ) → (1 ≡ k → ⊥) → All (NotConstantKind k) witnesses
  witnesses-not k h = witnesses_from-all (λ s sort. sym_kind s ≡ k → ⊥) 0 (take (length q.parts.witnesses) q.parts.witnesses) (λ i l. h)

  copied_constants-not : (k : ℕ) → (8 ≡ k → ⊥) → All (NotConstantKind k) copied_constants
  copied_constants-not k h = constants_from-all (λ s sort. sym_kind s ≡ k → ⊥) is_changing Copy 0 q.parts.symbols (λ i sort l t is. h)

  state_constants-not : (k : ℕ) → (0 ≡ k → ⊥) → (1 ≡ k → ⊥) → All (NotConstantKind k) (state_vocabulary q).constants
  state_constants-not k g h = All-append (NotConstantKind k) own_constants witnesses (own_constants-not k g) (witnesses-not k h)

  pub own-constant_state : (n : ℕ) (sort : SortId) → n < length q.parts.symbols → constant_sort (symbol_at q.parts n).shape ≡ Some sort → constant_in (state_vocabulary q).constants (Own n) ≡ Some sort
  own-constant_state n sort l is = constant-stop own_constants witnesses (Own n) sort
      (let z : from_zero n = omega arith in subst (λ j. constant_in own_constants (Own j) ≡ Some sort) z (constant-from any_symbol Own own_naming 0 q.parts.symbols n sort l refl is))

  pub witness-state : (k : ℕ) → k < length q.parts.witnesses → constant_in (state_vocabulary q).constants (Witness k) ≡ Some (get_or q.parts.witnesses k no_witness_decl).sort
  witness-state k l = constant-skip own_constants witnesses (Witness k) (own_constants-not 1 (λ e. omega (arith, e)))
      ∙ (let z : from_zero k = omega arith in subst (λ ws. constant_in (witnesses_from 0 ws) (Witness k) ≡ Some (get_or q.parts.witnesses k no_witness_decl).sort) (sym (take_all q.parts.witnesses))
      (subst (λ j. constant_in (witnesses_from 0 q.parts.witnesses) (Witness j) ≡ Some (get_or q.parts.witnesses k no_witness_decl).sort) z (witness-from 0 q.parts.witnesses k l)))

  pub state-constant_catch : (c : Sym) (sort : SortId) → constant_in (state_vocabulary q).constants c ≡ Some sort → constant_in (catch_vocabulary q).constants c ≡ Some sort
  state-constant_catch c sort is = constant-stop (state_vocabulary q).constants copied_constants c sort is

  pub catch-constant_step : (a : Action) (c : Sym) (sort : SortId) → constant_in (catch_vocabulary q).constants c ≡ Some sort → constant_in (step_vocabulary q a).constants c ≡ Some sort
  catch-constant_step a c sort is = constant-stop (catch_vocabulary q).constants (params_from 0 a.params) c sort is

  pub copy-constant_catch : (n : ℕ) (sort : SortId) → n < length q.parts.symbols → (symbol_at q.parts n).fixed ≡ false → constant_sort (symbol_at q.parts n).shape ≡ Some sort → constant_in (catch_vocabulary q).constants (Copy n) ≡ Some sort
  copy-constant_catch n sort l free is = constant-skip (state_vocabulary q).constants copied_constants (Copy n) (state_constants-not 8 (λ e. omega (arith, e)) (λ e. omega (arith, e)))
      ∙ (let z : from_zero n = omega arith in subst (λ j. constant_in copied_constants (Copy j) ≡ Some sort) z (constant-from is_changing Copy copy_naming 0 q.parts.symbols n sort l (not_from_false (symbol_at q.parts n).fixed free) is))

  pub param-step : (a : Action) (k : ℕ) → k < length a.params → constant_in (step_vocabulary q a).constants (Param k) ≡ Some (get_or a.params k no_sort_id)
  param-step a k l = constant-skip (catch_vocabulary q).constants (params_from 0 a.params) (Param k)
      (All-append (NotConstantKind 11) (state_vocabulary q).constants copied_constants (state_constants-not 11 (λ e. omega (arith, e)) (λ e. omega (arith, e))) (copied_constants-not 11 (λ e. omega (arith, e))))
      ∙ (let z : from_zero k = omega arith in subst (λ j. constant_in (params_from 0 a.params) (Param j) ≡ Some (get_or a.params k no_sort_id)) z (param-from 0 a.params k l))
