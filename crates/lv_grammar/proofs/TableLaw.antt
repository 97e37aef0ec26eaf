-- By the table of labels each label has its declared name.
use Rattle.std.proofs.Common.{◌≡◌, ℕ, zero, suc, ◌+◌, ◌<◌, ◌≤◌, Bool, true, false, cond, ◌&&◌, eqb, ltb, List, [], ◌∷◌, ◌++◌, map, length, get_or, reverse, slice_get, refl, sym, ap, subst, ◌∙◌, arith}
use Rattle.std.specs.declared.option.Option.TheVariants.{Some, None}
use Rattle.std.proofs.lemmas.Bool.{and_parts, eq-eqb, ne_eqb, lt-ltb, ltb-true, ltb-false, le-ltb, or_left, or_right, false≢true, cond_both}
use Rattle.std.specs.Option.{option_map}
use Rattle.std.proofs.lemmas.Option.{slice_get-map, slice_get-get_or, slice_get_past}
use Rattle.std.specs.Prelude.{◌||◌}
use Rattle.lv_formula.proofs.Induction.{Each}
use Rattle.lv_system.specs.declared.parts.Parts.{Parts}
use Rattle.lv_system.specs.declared.parts.LabelDecl.{LabelDecl}
use Rattle.lv_system.specs.Fits.{is_always, label_fits, labels_fit, fits_parts}
use Rattle.lv_system.proofs.FitsFacts.{tests, fit_label}
use Rattle.lv_labels.specs.declared.key.Key.{Key}
use Rattle.lv_labels.specs.declared.labelling.Label.{Label}
use Rattle.lv_labels.specs.Once.{is_among, once_behind, place_of}
use Rattle.lv_labels.specs.Labels.{key_eq, keys_of, keys_of_labels, keys_of_witnesses, labels_of, number_of, no_key}
use Rattle.lv_labels.specs.Table.{own_key, name_among, label_row, table_labels}
use Rattle.lv_labels.proofs.FirstLabels.{always_starts}
use Rattle.lv_labels.proofs.Once.{Decides}
use Rattle.lv_labels.proofs.Sameness.{key_decides}
use Rattle.lv_labels.proofs.Table.{IsIn, each_in}
use Rattle.lv_grammar.specs.Words.{declared_name, label_name, name_or_number, label_word}
use Rattle.lv_grammar.specs.Tables.{IsTable, named_by, row_declaration, declaration_in}

-- ---- each item of a list in which each counts once stands at its place

module _ {X : Type 0} (same : X → X → Bool) (decides : Decides same) where
  -- no item is among those behind it
  abbrev Distinct : List X → Type 0
  Distinct [] = Unit {0}
  Distinct (x ∷ xs) = (is_among same x xs ≡ false) × Distinct xs

  among_at : (d : X) (xs : List X) (i : ℕ) → i < length xs → is_among same (get_or xs i d) xs ≡ true
  among_at d [] i lt = absurd (omega (arith, lt))
  among_at d (x ∷ xs) zero lt = or_left (same x x) (is_among same x xs) (decides.reflexive x)
  among_at d (x ∷ xs) (suc i) lt = or_right (same (get_or xs i d) x) (is_among same (get_or xs i d) xs) (among_at d xs i (omega (arith, lt)))

  not_last : (y x : X) (xs : List X) → is_among same y xs ≡ false → same y x ≡ false → is_among same y (xs ++ x ∷ []) ≡ false
  not_last y x [] h k = rw k refl
  not_last y x (z ∷ xs) h k =
      let both = neither (same y z) (is_among same y xs) h in
      rw (both.0, not_last y x xs both.1 k) refl
    where
      neither : (a b : Bool) → (a || b) ≡ false → (a ≡ false) × (b ≡ false)
      neither true b h = cc
      neither false b h = (refl, h)

  different : (x y : X) (xs : List X) → is_among same x (y ∷ xs) ≡ false → same y x ≡ false
  different x y xs h = go (same y x) refl where
    go : (b : Bool) → same y x ≡ b → b ≡ false
    go false e = refl
    go true e = absurd (false≢true (sym h ∙ or_left (same x y) (is_among same x xs) (subst (λ z. same x z ≡ true) (sym (decides.sound y x e)) (decides.reflexive x))))

  among_rest : (x y : X) (xs : List X) → is_among same x (y ∷ xs) ≡ false → is_among same x xs ≡ false
  among_rest x y xs h = go (is_among same x xs) refl where
    go : (b : Bool) → is_among same x xs ≡ b → b ≡ false
    go false e = refl
    go true e = absurd (false≢true (sym h ∙ or_right (same x y) (is_among same x xs) e))

  distinct_last : (x : X) (xs : List X) → Distinct xs → is_among same x xs ≡ false → Distinct (xs ++ x ∷ [])
  distinct_last x [] d h = (refl, tt)
  distinct_last x (y ∷ xs) d h = (not_last y x xs d.0 (different x y xs h), distinct_last x xs d.1 (among_rest x y xs h))

  distinct_behind : (known xs : List X) → Distinct known → Distinct (once_behind same known xs)
  distinct_behind known [] d = d
  distinct_behind known (x ∷ xs) d = distinct_behind (cond (is_among same x known) known (known ++ x ∷ [])) xs
      (cond_both (is_among same x known) known (known ++ x ∷ []) Distinct (λ e. d) (λ e. distinct_last x known d e))

  place_at : (d : X) (xs : List X) → Distinct xs → (i : ℕ) → i < length xs → place_of same (get_or xs i d) xs ≡ i
  place_at d [] h i lt = absurd (omega (arith, lt))
  place_at d (x ∷ xs) h zero lt = rw (decides.reflexive x) refl
  place_at d (x ∷ xs) h (suc i) lt =
      let z = get_or xs i d in
      let below : i < length xs = omega (arith, lt) in
      rw (differs z (among_at d xs i below), place_at d xs h.1 i below) refl
    where
      differs : (z : X) → is_among same z xs ≡ true → same z x ≡ false
      differs z among = go (same z x) refl where
        go : (b : Bool) → same z x ≡ b → b ≡ false
        go false e = refl
        go true e = absurd (false≢true (sym h.0 ∙ subst (λ y. is_among same y xs ≡ true) (decides.sound z x e) among))

-- ---- the label of a declaration is the first in its formula

-- a declaration whose own label is in the table
record IsOwn (table : List Key) (l : LabelDecl) : Type 0 where
  pub inner : List Key
  pub is : keys_of l.formula (reverse l.params) ≡ own_key l ∷ inner
  pub there : IsIn table (own_key l)

is_own : (table : List Key) (l : LabelDecl) → is_always l.formula ≡ true → Each (IsIn table) (keys_of l.formula (reverse l.params)) → IsOwn table l
is_own table l h each =
    let s = always_starts l.formula h (reverse l.params) in
    let e : own_key l ≡ s.own = ap (λ keys. get_or keys 0 no_key) s.is in
    let there = subst (Each (IsIn table)) s.is each in
    record { inner = s.inner; is = s.is ∙ ap (λ key. key ∷ s.inner) (sym e); there = subst (IsIn table) (sym e) there.0 }

each_own : (p : Parts) (table : List Key) (ls : List LabelDecl) → labels_fit p ls ≡ true → Each (λ l. Each (IsIn table) (keys_of l.formula (reverse l.params))) ls → Each (IsOwn table) ls
each_own p table [] h each = tt
each_own p table (l ∷ ls) h each =
    let both = and_parts (label_fits p l) (labels_fit p ls) h in
    (is_own table l (fit_label p l both.0).always each.0, each_own p table ls both.1 each.1)

-- ---- names by the table and names by definition

less_suc : (m n : ℕ) → ltb (suc m) (suc n) ≡ ltb m n
less_suc m n = go (ltb m n) refl where
  go : (b : Bool) → ltb m n ≡ b → ltb (suc m) (suc n) ≡ b
  go true e = let lt = ltb-true m n e in lt-ltb (suc m) (suc n) (omega (arith, lt))
  go false e = let le = ltb-false m n e in le-ltb (suc m) (suc n) (omega (arith, le))

module _ (table : List Key) (distinct : Distinct key_eq key_decides table) where
  names_agree : (k : ℕ) → k < length table → (ls : List LabelDecl) → Each (IsOwn table) ls → declared_name table k ls ≡ named_by ls (name_among (map own_key ls) (get_or table k no_key))
  names_agree k lt [] each = refl
  names_agree k lt (l ∷ ls) each = rw (each.0.is) (go (key_eq key own) refl (names_agree k lt ls each.1)) where
    own : Key
    own = own_key l

    key : Key
    key = get_or table k no_key

    go : (b : Bool) → key_eq key own ≡ b → declared_name table k ls ≡ named_by ls (name_among (map own_key ls) key)
        → cond (eqb (number_of table own) k) (Some l.name) (declared_name table k ls)
        ≡ named_by (l ∷ ls) (cond (ltb (cond b 0 (suc (place_of key_eq key (map own_key ls)))) (suc (length (map own_key ls)))) (Some (cond b 0 (suc (place_of key_eq key (map own_key ls))))) None)
    go true e ih =
        let at : number_of table own ≡ k = ap (number_of table) (sym (key_decides.sound key own e)) ∙ place_at key_eq key_decides no_key table distinct k lt in
        rw (eq-eqb (number_of table own) k at, lt-ltb 0 (suc (length (map own_key ls))) (omega arith)) refl
    go false e ih =
        let other : eqb (number_of table own) k ≡ false = ne_eqb (number_of table own) k (λ q. false≢true (sym e ∙ ap (λ z. key_eq z own) (ap (λ i. get_or table i no_key) (sym q) ∙ each.0.there.1) ∙ key_decides.reflexive own)) in
        rw (other, less_suc (place_of key_eq key (map own_key ls)) (length (map own_key ls))) (ih ∙ later (ltb (place_of key_eq key (map own_key ls)) (length (map own_key ls))) (place_of key_eq key (map own_key ls)))
      where
        later : (b : Bool) (i : ℕ) → named_by ls (cond b (Some i) None) ≡ named_by (l ∷ ls) (cond b (Some (suc i)) None)
        later true i = refl
        later false i = refl

  names_past : (k : ℕ) → length table ≤ k → (ls : List LabelDecl) → Each (IsOwn table) ls → declared_name table k ls ≡ None
  names_past k le [] each = refl
  names_past k le (l ∷ ls) each =
      let lt = each.0.there.0 in
      let other : eqb (number_of table (own_key l)) k ≡ false = ne_eqb (number_of table (own_key l)) k (λ q. omega (arith, q, lt, le)) in
      rw (each.0.is, other) (names_past k le ls each.1)

label_by_table : (p : Parts) → fits_parts p ≡ true → (k : ℕ) → named_by p.labels (declaration_in (table_labels p) k) ≡ label_name p k
label_by_table p fits k = go (ltb k (length table)) refl where
  table : List Key
  table = labels_of p

  distinct : Distinct key_eq key_decides table
  distinct = distinct_behind key_eq key_decides [] (keys_of_labels p.labels ++ (keys_of_witnesses p.witnesses ++ keys_of p.property [])) tt

  own : Each (IsOwn table) p.labels
  own = each_own p table p.labels (tests p fits).labels (each_in p).labels

  row : Key → Label
  row = label_row table (map own_key p.labels)

  go : (b : Bool) → ltb k (length table) ≡ b → named_by p.labels (declaration_in (map row table) k) ≡ label_name p k
  go true e =
      let lt = ltb-true k (length table) e in
      let there : slice_get (map row table) k ≡ Some (row (get_or table k no_key)) = slice_get-map row table k ∙ ap (option_map row) (slice_get-get_or table k no_key lt) in
      ap (λ o. named_by p.labels (row_declaration o)) there ∙ sym (names_agree table distinct k lt p.labels own)
  go false e =
      let le = ltb-false k (length table) e in
      let past : slice_get (map row table) k ≡ None = slice_get-map row table k ∙ ap (option_map row) (slice_get_past table k le) in
      ap (λ o. named_by p.labels (row_declaration o)) past ∙ sym (names_past table distinct k le p.labels own)

-- the word of a label is that by its declaration in the table
pub table_gives : (p : Parts) (labels : List Label) (k : ℕ) → IsTable p labels → name_or_number k (named_by p.labels (declaration_in labels k)) ≡ label_word p k
table_gives p labels k t = ap (λ ls. name_or_number k (named_by p.labels (declaration_in ls k))) t.table ∙ ap (name_or_number k) (label_by_table p t.fits k)
