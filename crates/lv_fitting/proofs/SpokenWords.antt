-- What the vocabulary of invariants says of each symbol.
use Rattle.std.proofs.Common.{◌≡◌, ℕ, suc, ◌+◌, ◌-◌, ◌<◌, Bool, true, false, cond, eqb, ltb, List, [], ◌∷◌, ◌++◌, length, slice_get, Option, Some, None, refl, sym, ap₂, ◌∙◌, arith}
use Rattle.std.proofs.lemmas.Bool.{ltb-true, ltb-false, ne_eqb}
use Rattle.lv_formula.specs.declared.symbols.SortId.{SortId}
use Rattle.lv_formula.specs.declared.symbols.Sym.{Sym}
use Rattle.lv_formula.specs.declared.symbols.Sym.TheVariants.{Own, Witness, Label, Frozen, Saved, Touched, Kept, Due, Copy, CopyLabel, Next, Param}
use Rattle.lv_formula.specs.declared.vocabulary.RelShape.{RelShape}
use Rattle.lv_formula.specs.Symbols.{sym_eq}
use Rattle.lv_formula.specs.Vocabulary.{relation_in, constant_in}
use Rattle.lv_system.specs.declared.parts.Parts.{Parts}
use Rattle.lv_system.specs.InvariantWords.{invariant_relations}
use Rattle.lv_system.specs.Lookups.{invariant_relation, invariant_constant}
use Rattle.lv_system.proofs.LookupLaws.{Numbered, value_at, named, other, invariant_relation_told, invariant_constant_told}
use Rattle.lv_labels.specs.declared.key.Key.{Key}
use Rattle.lv_labels.specs.Labels.{labels_of}
use Rattle.lv_grammar.specs.WordKinds.{or_else}
use Rattle.lv_grammar.specs.LabelLimits.{label_shapes, label_relations, spoken_vocabulary}

or_else_if : {A : Type 0} (b : Bool) (x : A) (o q : Option A) → or_else (cond b (Some x) o) q ≡ cond b (Some x) (or_else o q)
or_else_if true x o q = refl
or_else_if false x o q = refl

relation_in_both : (xs ys : List RelShape) (s : Sym) → relation_in (xs ++ ys) s ≡ or_else (relation_in xs s) (relation_in ys s)
relation_in_both [] ys s = refl
relation_in_both (x ∷ xs) ys s = rw (relation_in_both xs ys s) (sym (or_else_if (sym_eq x.sym s) x.sorts (relation_in xs s) (relation_in ys s)))

abbrev sorts_of_key : ℕ → Key → Option (List SortId)
sorts_of_key k key = Some key.sorts

-- the sorts of a label that is there
abbrev pub key_sorts : Option Key → Option (List SortId)
key_sorts None = None
key_sorts (Some key) = Some key.sorts

as_sorts : (k : ℕ) (o : Option Key) → value_at sorts_of_key k o ≡ key_sorts o
as_sorts k None = refl
as_sorts k (Some key) = refl

module _ (name : ℕ → Sym) (differ : (i j : ℕ) → sym_eq (name i) (name j) ≡ eqb i j) where
  shapes_numbered : Numbered name (λ k ks s. relation_in (label_shapes name k ks) s) sorts_of_key
  shapes_numbered = record {
    differ = differ;
    none = λ k s. refl;
    skip = λ k x xs s h. rw h refl;
    found = λ k x xs s h none. rw h refl;
  }

  shape_named : (k n m : ℕ) (ks : List Key) → m ≡ k + n → relation_in (label_shapes name k ks) (name m) ≡ key_sorts (slice_get ks n)
  shape_named k n m ks e = named name _ sorts_of_key shapes_numbered k n m ks e ∙ as_sorts m (slice_get ks n)

  shape_other : (s : Sym) → ((i : ℕ) → sym_eq (name i) s ≡ false) → (k : ℕ) (ks : List Key) → relation_in (label_shapes name k ks) s ≡ None
  shape_other s differs k ks = other name _ sorts_of_key shapes_numbered s differs k ks

  shape_earlier : (k n : ℕ) (ks : List Key) → n < k → relation_in (label_shapes name k ks) (name n) ≡ None
  shape_earlier k n [] lt = refl
  shape_earlier k n (x ∷ xs) lt = let apart : sym_eq (name k) (name n) ≡ false = differ k n ∙ ne_eqb k n (λ e. omega (arith, lt, e)) in rw apart (shape_earlier (suc k) n xs (omega (arith, lt)))

label_differ : (i j : ℕ) → sym_eq (Label i) (Label j) ≡ eqb i j
unfolding sym_eq
label_differ i j = refl

due_differ : (i j : ℕ) → sym_eq (Due i) (Due j) ≡ eqb i j
unfolding sym_eq
due_differ i j = refl

copy_differ : (i j : ℕ) → sym_eq (CopyLabel i) (CopyLabel j) ≡ eqb i j
unfolding sym_eq
copy_differ i j = refl

-- the sorts of the due set of a label's condition; those of fairness come before
abbrev pub label_due : Parts → ℕ → Option (List SortId)
label_due p j = cond (ltb j (length p.fairs)) None (key_sorts (slice_get (labels_of p) (j - length p.fairs)))

abbrev pub label_relation : Parts → Sym → Option (List SortId)
label_relation p (Label k) = key_sorts (slice_get (labels_of p) k)
label_relation p (Due j) = label_due p j
label_relation p (CopyLabel k) = key_sorts (slice_get (labels_of p) k)
label_relation p (Own n) = None
label_relation p (Witness n) = None
label_relation p Frozen = None
label_relation p Saved = None
label_relation p (Touched s) = None
label_relation p (Kept s) = None
label_relation p (Copy n) = None
label_relation p (Next n) = None
label_relation p (Param n) = None

none_behind : {A : Type 0} (o : Option A) → or_else o None ≡ o
none_behind None = refl
none_behind (Some x) = refl

module _ (p : Parts) where
  three : (s : Sym) (a b c : Option (List SortId)) → relation_in (label_shapes Label 0 (labels_of p)) s ≡ a → relation_in (label_shapes Due (length p.fairs) (labels_of p)) s ≡ b
      → relation_in (label_shapes CopyLabel 0 (labels_of p)) s ≡ c → relation_in (label_relations p) s ≡ or_else a (or_else b c)
  three s a b c x y z =
      relation_in_both (label_shapes Label 0 (labels_of p)) _ s ∙ ap₂ or_else x (relation_in_both (label_shapes Due (length p.fairs) (labels_of p)) _ s ∙ ap₂ or_else y z)

  no_label : (s : Sym) → ((i : ℕ) → sym_eq (Label i) s ≡ false) → relation_in (label_shapes Label 0 (labels_of p)) s ≡ None
  no_label s h = shape_other Label label_differ s h 0 (labels_of p)

  no_due : (s : Sym) → ((i : ℕ) → sym_eq (Due i) s ≡ false) → relation_in (label_shapes Due (length p.fairs) (labels_of p)) s ≡ None
  no_due s h = shape_other Due due_differ s h (length p.fairs) (labels_of p)

  no_copy : (s : Sym) → ((i : ℕ) → sym_eq (CopyLabel i) s ≡ false) → relation_in (label_shapes CopyLabel 0 (labels_of p)) s ≡ None
  no_copy s h = shape_other CopyLabel copy_differ s h 0 (labels_of p)

  due_told : (j : ℕ) → relation_in (label_shapes Due (length p.fairs) (labels_of p)) (Due j) ≡ label_due p j
  due_told j = go (ltb j (length p.fairs)) refl where
    go : (b : Bool) → ltb j (length p.fairs) ≡ b → relation_in (label_shapes Due (length p.fairs) (labels_of p)) (Due j) ≡ cond b None (key_sorts (slice_get (labels_of p) (j - length p.fairs)))
    go true h = shape_earlier Due due_differ (length p.fairs) j (labels_of p) (ltb-true j (length p.fairs) h)
    go false h = let le = ltb-false j (length p.fairs) h in shape_named Due due_differ (length p.fairs) (j - length p.fairs) j (labels_of p) (omega (arith, le))

  label_relation_told : (s : Sym) → relation_in (label_relations p) s ≡ label_relation p s
  unfolding sym_eq
  label_relation_told (Label k) = three (Label k) _ None None (shape_named Label label_differ 0 k k (labels_of p) (omega arith)) (no_due (Label k) (λ i. refl)) (no_copy (Label k) (λ i. refl)) ∙ none_behind (key_sorts (slice_get (labels_of p) k))
  label_relation_told (Due j) = three (Due j) None _ None (no_label (Due j) (λ i. refl)) (due_told j) (no_copy (Due j) (λ i. refl)) ∙ none_behind (label_due p j)
  label_relation_told (CopyLabel k) = three (CopyLabel k) None None _ (no_label (CopyLabel k) (λ i. refl)) (no_due (CopyLabel k) (λ i. refl)) (shape_named CopyLabel copy_differ 0 k k (labels_of p) (omega arith))
  label_relation_told (Own n) = three (Own n) None None None (no_label (Own n) (λ i. refl)) (no_due (Own n) (λ i. refl)) (no_copy (Own n) (λ i. refl))
  label_relation_told (Witness n) = three (Witness n) None None None (no_label (Witness n) (λ i. refl)) (no_due (Witness n) (λ i. refl)) (no_copy (Witness n) (λ i. refl))
  label_relation_told Frozen = three Frozen None None None (no_label Frozen (λ i. refl)) (no_due Frozen (λ i. refl)) (no_copy Frozen (λ i. refl))
  label_relation_told Saved = three Saved None None None (no_label Saved (λ i. refl)) (no_due Saved (λ i. refl)) (no_copy Saved (λ i. refl))
  label_relation_told (Touched x) = three (Touched x) None None None (no_label (Touched x) (λ i. refl)) (no_due (Touched x) (λ i. refl)) (no_copy (Touched x) (λ i. refl))
  label_relation_told (Kept x) = three (Kept x) None None None (no_label (Kept x) (λ i. refl)) (no_due (Kept x) (λ i. refl)) (no_copy (Kept x) (λ i. refl))
  label_relation_told (Copy n) = three (Copy n) None None None (no_label (Copy n) (λ i. refl)) (no_due (Copy n) (λ i. refl)) (no_copy (Copy n) (λ i. refl))
  label_relation_told (Next n) = three (Next n) None None None (no_label (Next n) (λ i. refl)) (no_due (Next n) (λ i. refl)) (no_copy (Next n) (λ i. refl))
  label_relation_told (Param n) = three (Param n) None None None (no_label (Param n) (λ i. refl)) (no_due (Param n) (λ i. refl)) (no_copy (Param n) (λ i. refl))

  -- an own symbol, a word of the monitor, or a word of a label
  pub spoken_relation_told : (s : Sym) → relation_in (spoken_vocabulary p).relations s ≡ or_else (invariant_relation p s) (label_relation p s)
  spoken_relation_told s = relation_in_both (invariant_relations p) (label_relations p) s ∙ ap₂ or_else (invariant_relation_told p s) (label_relation_told s)

  pub spoken_constant_told : (s : Sym) → constant_in (spoken_vocabulary p).constants s ≡ invariant_constant p s
  spoken_constant_told s = invariant_constant_told p s
