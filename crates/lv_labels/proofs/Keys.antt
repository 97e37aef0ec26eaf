-- A renamed formula has the labels of the formula.
use Rattle.std.proofs.Common.{◌≡◌, ℕ, zero, suc, true, eqb, List, [], ◌∷◌, ◌++◌, map, get_or, reverse, refl, sym, ap, ap₂, ◌∙◌, subst}
use Rattle.lv_formula.specs.declared.symbols.SortId.{SortId}
use Rattle.lv_formula.specs.declared.temporal.Temporal.{Temporal}
use Rattle.lv_formula.specs.declared.temporal.Temporal.TheVariants as T
use Rattle.lv_formula.proofs.Induction.{Each}
use Rattle.lv_formula.proofs.TemporalFolds.{folds, folds_at, fold_at-Eventually}
use Rattle.lv_formula.proofs.TemporalInduction.{by_cases}
use Rattle.lv_labels.specs.Once.{is_among}
use Rattle.lv_labels.specs.Renaming.{joined, outside, occurrences_of, free_variables, under, renamed, rename_each, rename_step, renumbered}
use Rattle.lv_labels.specs.declared.key.Key.{Key}
use Rattle.lv_labels.specs.Labels.{key_of, labelled, plain, plain_each, keys_of, keys_each}
use Rattle.lv_labels.proofs.Once.{each_first, each_second, each_both, each_weaker}
use Rattle.lv_labels.proofs.Occurrences.{Injective, under_injective, free_renamed, free_has, free_each, renamed_after, renumbered_reads, renumbered_injective, renumbered_mapped}
use Rattle.lv_labels.proofs.LabelsAt.{plains, keys, keys-Eventually}
use Rattle.lv_labels.proofs.Plain.{occurrences_plain, plain_plain, plain_renamed}

-- the sort of a variable in a context
abbrev pub sort_at : List SortId → ℕ → SortId
sort_at context v = get_or context v (record { 0 = 0 })

-- the new name of each of these variables has in the first context the sort that the old has in the second
abbrev pub Sorts : List SortId → (ℕ → ℕ) → List SortId → List ℕ → Type 0
Sorts new to old vs = Each (λ v. sort_at new (to v) ≡ sort_at old v) vs

sorts_under : (new : List SortId) (to : ℕ → ℕ) (old : List SortId) (s : SortId) (vs : List ℕ) → Sorts new to old (outside vs) → Sorts (s ∷ new) (under to) (s ∷ old) vs
sorts_under new to old s [] h = tt
sorts_under new to old s (zero ∷ vs) h = (refl, sorts_under new to old s vs h)
sorts_under new to old s (suc v ∷ vs) h = (h.0, sorts_under new to old s vs h.1)

make_key : List SortId → Temporal → Key
make_key sorts inner = record { sorts = sorts; inner = inner }

mapped_twice : {X : Type 0} (g h : ℕ → X) (to : ℕ → ℕ) (vs : List ℕ) → Each (λ v. g (to v) ≡ h v) vs → map g (map to vs) ≡ map h vs
mapped_twice g h to [] a = refl
mapped_twice g h to (v ∷ vs) a = ap₂ (λ x xs. x ∷ xs) a.0 (mapped_twice g h to vs a.1)

-- a label is the same however the variables are named
pub key_renamed : (f : Temporal) (to : ℕ → ℕ) → Injective to → (new old : List SortId) → Sorts new to old (occurrences_of f) → key_of new (renamed f to) ≡ key_of old f
unfolding make_key
key_renamed f to inj new old sorts = ap₂ make_key
    (ap (map (sort_at new)) (free_renamed f to inj) ∙ mapped_twice (sort_at new) (sort_at old) to (free_variables f) (free_each (λ v. sort_at new (to v) ≡ sort_at old v) f sorts))
    (ap (λ vs. renamed (renamed f to) (renumbered vs)) (free_renamed f to inj)
    ∙ renamed_after f (renumbered (map to (free_variables f))) to (renumbered (free_variables f))
    (each_weaker (λ v. is_among eqb v (free_variables f) ≡ true) (λ v. renumbered (map to (free_variables f)) (to v) ≡ renumbered (free_variables f) v) (λ v h. renumbered_mapped to inj (free_variables f) v h) (occurrences_of f) (free_has f)))

-- ---- the labels of the parts

abbrev Renames : Temporal → Type 0
Renames f = (to : ℕ → ℕ) → Injective to → (new old : List SortId) → Sorts new to old (occurrences_of f) → keys_of (renamed f to) new ≡ keys_of f old

all_rename : (fs : List Temporal) → Each Renames fs → (to : ℕ → ℕ) → Injective to → (new old : List SortId) → Sorts new to old (joined (map occurrences_of fs)) → keys_each (map labelled (rename_each (map renamed fs) to)) new ≡ keys_each (map labelled fs) old
all_rename [] each to inj new old h = refl
all_rename (f ∷ fs) each to inj new old h = ap₂ (λ x y. x ++ y) (each.0 to inj new old (each_first _ (occurrences_of f) (joined (map occurrences_of fs)) h)) (all_rename fs each.1 to inj new old (each_second _ (occurrences_of f) (joined (map occurrences_of fs)) h))

both_rename : (f g : Temporal) → Renames f → Renames g → (to : ℕ → ℕ) → Injective to → (new old : List SortId) → Sorts new to old (occurrences_of f ++ occurrences_of g) → keys_of (renamed f to) new ++ keys_of (renamed g to) new ≡ keys_of f old ++ keys_of g old
both_rename f g ihf ihg to inj new old h = ap₂ (λ x y. x ++ y) (ihf to inj new old (each_first _ (occurrences_of f) (occurrences_of g) h)) (ihg to inj new old (each_second _ (occurrences_of f) (occurrences_of g) h))

plain_key : (f : Temporal) (to : ℕ → ℕ) → Injective to → (new old : List SortId) → Sorts new to old (occurrences_of f) → key_of new (plain (renamed f to)) ≡ key_of old (plain f)
plain_key f to inj new old h = ap (key_of new) (plain_renamed f to) ∙ key_renamed (plain f) to inj new old (rw (occurrences_plain f) h)

not_key : (f : Temporal) (to : ℕ → ℕ) → Injective to → (new old : List SortId) → Sorts new to old (occurrences_of f) → key_of new (T.Not (plain (renamed f to))) ≡ key_of old (T.Not (plain f))
not_key f to inj new old h = ap (key_of new) (ap T.Not (plain_renamed f to) ∙ sym is) ∙ key_renamed (T.Not (plain f)) to inj new old (simp (folds, occurrences_plain) h)
  where
    is : renamed (T.Not (plain f)) to ≡ T.Not (renamed (plain f) to)
    is = simp folds_at refl

-- the labels in a renamed formula are those in the formula
pub keys_renamed : (f : Temporal) → Renames f
keys_renamed = by_cases Renames record {
  at_true = λ to inj new old h. simp (keys, folds_at) refl;
  at_false = λ to inj new old h. simp (keys, folds_at) refl;
  at_atom = λ s ts to inj new old h. simp (keys, folds_at) refl;
  at_same = λ a b to inj new old h. simp (keys, folds_at) refl;
  at_not = λ f ih to inj new old h. simp (keys, folds_at) (ih to inj new old (simp folds at h));
  at_and = λ fs each to inj new old h. simp (keys, folds_at) (all_rename fs each to inj new old (simp folds at h));
  at_or = λ fs each to inj new old h. simp (keys, folds_at) (all_rename fs each to inj new old (simp folds at h));
  at_implies = λ f g ihf ihg to inj new old h. simp (keys, folds_at) (both_rename f g ihf ihg to inj new old (simp folds at h));
  at_iff = λ f g ihf ihg to inj new old h. simp (keys, folds_at) (both_rename f g ihf ihg to inj new old (simp folds at h));
  at_all = λ s f ih to inj new old h. simp (keys, folds_at) (ih (under to) (under_injective to inj) (s ∷ new) (s ∷ old) (sorts_under new to old s (occurrences_of f) (simp folds at h)));
  at_any = λ s f ih to inj new old h. simp (keys, folds_at) (ih (under to) (under_injective to inj) (s ∷ new) (s ∷ old) (sorts_under new to old s (occurrences_of f) (simp folds at h)));
  at_always = λ f ih to inj new old h. simp (keys, folds_at) (ap₂ (λ x xs. x ∷ xs) (plain_key f to inj new old (simp folds at h)) (ih to inj new old (simp folds at h)));
  at_eventually = λ f ih to inj new old h. ap (λ g. keys_of g new) (fold_at-Eventually Temporal (ℕ → ℕ) rename_step f to)
      ∙ (keys-Eventually (renamed f to) new
      ∙ (ap₂ (λ x xs. x ∷ xs) (not_key f to inj new old (simp folds at h)) (ih to inj new old (simp folds at h))
      ∙ sym (keys-Eventually f old)));
}

-- ---- the labels of the formula without `eventually`

abbrev Stays : Temporal → Type 0
Stays f = (context : List SortId) → keys_of (plain f) context ≡ keys_of f context

all_stay : (fs : List Temporal) → Each Stays fs → (context : List SortId) → keys_each (map labelled (plain_each (map labelled fs))) context ≡ keys_each (map labelled fs) context
all_stay [] each context = refl
all_stay (f ∷ fs) each context = ap₂ (λ x y. x ++ y) (each.0 context) (all_stay fs each.1 context)

-- the labels of the formula without `eventually` are those of the formula
pub keys_plain : (f : Temporal) → Stays f
keys_plain = by_cases Stays record {
  at_true = λ c. simp (plains, keys) refl;
  at_false = λ c. simp (plains, keys) refl;
  at_atom = λ s ts c. simp (plains, keys) refl;
  at_same = λ a b c. simp (plains, keys) refl;
  at_not = λ f ih c. simp (plains, keys) (ih c);
  at_and = λ fs each c. simp (plains, keys) (all_stay fs each c);
  at_or = λ fs each c. simp (plains, keys) (all_stay fs each c);
  at_implies = λ f g ihf ihg c. simp (plains, keys) (ap₂ (λ x y. x ++ y) (ihf c) (ihg c));
  at_iff = λ f g ihf ihg c. simp (plains, keys) (ap₂ (λ x y. x ++ y) (ihf c) (ihg c));
  at_all = λ s f ih c. simp (plains, keys) (ih (s ∷ c));
  at_any = λ s f ih c. simp (plains, keys) (ih (s ∷ c));
  at_always = λ f ih c. simp (plains, keys) (ap₂ (λ x xs. x ∷ xs) (ap (key_of c) (plain_plain f)) (ih c));
  at_eventually = λ f ih c. simp (plains, keys) (ap₂ (λ x xs. x ∷ xs) (ap (λ x. key_of c (T.Not x)) (plain_plain f)) (ih c));
}

-- ---- the labels inside a label's own formula

-- what holds of each label inside the formula of a label
abbrev pub EachInside : (Key → Type 0) → Key → Type 0
EachInside P key = Each P (keys_of key.inner (reverse key.sorts))

-- the formula of a label has the labels of the formula that the label was made of
pub keys_inside : (f : Temporal) (context : List SortId) → keys_of (key_of context f).inner (reverse (key_of context f).sorts) ≡ keys_of f context
keys_inside f context = keys_renamed f (renumbered (free_variables f)) (renumbered_injective (free_variables f)) (reverse (map (sort_at context) (free_variables f))) context
    (each_weaker (λ v. is_among eqb v (free_variables f) ≡ true) (λ v. sort_at (reverse (map (sort_at context) (free_variables f))) (renumbered (free_variables f) v) ≡ sort_at context v)
    (λ v h. renumbered_reads (sort_at context) (record { 0 = 0 }) (free_variables f) v h) (occurrences_of f) (free_has f))

module _ (P : Key → Type 0) where
  abbrev Inside : Temporal → Type 0
  Inside f = (context : List SortId) → Each P (keys_of f context) → Each (EachInside P) (keys_of f context)

  all_inside : (fs : List Temporal) → Each Inside fs → (context : List SortId) → Each P (keys_each (map labelled fs) context) → Each (EachInside P) (keys_each (map labelled fs) context)
  all_inside [] each c h = tt
  all_inside (f ∷ fs) each c h = each_both (EachInside P) (keys_of f c) (keys_each (map labelled fs) c) (each.0 c (each_first P (keys_of f c) (keys_each (map labelled fs) c) h)) (all_inside fs each.1 c (each_second P (keys_of f c) (keys_each (map labelled fs) c) h))

  both_inside : (f g : Temporal) → Inside f → Inside g → (context : List SortId) → Each P (keys_of f context ++ keys_of g context) → Each (EachInside P) (keys_of f context ++ keys_of g context)
  both_inside f g ihf ihg c h = each_both (EachInside P) (keys_of f c) (keys_of g c) (ihf c (each_first P (keys_of f c) (keys_of g c) h)) (ihg c (each_second P (keys_of f c) (keys_of g c) h))

  inside_plain : (f : Temporal) (c : List SortId) → Each P (keys_of f c) → EachInside P (key_of c (plain f))
  inside_plain f c h = subst (λ ks. Each P ks) (sym (keys_inside (plain f) c ∙ keys_plain f c)) h

  inside_not : (f : Temporal) (c : List SortId) → Each P (keys_of f c) → EachInside P (key_of c (T.Not (plain f)))
  inside_not f c h = subst (λ ks. Each P ks) (sym (keys_inside (T.Not (plain f)) c ∙ (is ∙ keys_plain f c))) h
    where
      is : keys_of (T.Not (plain f)) c ≡ keys_of (plain f) c
      is = simp keys refl

  -- what holds of each label in a formula holds of each label inside those labels' own formulas
  pub each_inside : (f : Temporal) → Inside f
  each_inside = by_cases Inside record {
    at_true = λ c h. simp keys tt;
    at_false = λ c h. simp keys tt;
    at_atom = λ s ts c h. simp keys tt;
    at_same = λ a b c h. simp keys tt;
    at_not = λ f ih c h. simp keys (ih c (simp keys at h));
    at_and = λ fs each c h. simp keys (all_inside fs each c (simp keys at h));
    at_or = λ fs each c h. simp keys (all_inside fs each c (simp keys at h));
    at_implies = λ f g ihf ihg c h. simp keys (both_inside f g ihf ihg c (simp keys at h));
    at_iff = λ f g ihf ihg c h. simp keys (both_inside f g ihf ihg c (simp keys at h));
    at_all = λ s f ih c h. simp keys (ih (s ∷ c) (simp keys at h));
    at_any = λ s f ih c h. simp keys (ih (s ∷ c) (simp keys at h));
    at_always = λ f ih c h. let k : P (key_of c (plain f)) × Each P (keys_of f c) = simp keys at h in
        simp keys (inside_plain f c k.1, ih c k.1);
    at_eventually = λ f ih c h. let k : P (key_of c (T.Not (plain f))) × Each P (keys_of f c) = simp keys at h in
        simp keys (inside_not f c k.1, ih c k.1);
  }
