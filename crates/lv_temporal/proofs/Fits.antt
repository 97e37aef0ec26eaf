-- Where renamed formulas, formulas without `eventually` and the formulas of labels stand.
use Rattle.std.proofs.Common.{◌≡◌, ℕ, zero, suc, ◌<◌, Bool, true, ◌&&◌, ltb, eqb, List, [], ◌∷◌, ◌++◌, map, length, get_or, slice_get, reverse, Option, Some, None, refl, sym, ap, ap₂, ◌∙◌, arith}
use Rattle.std.proofs.lemmas.Bool.{and_from, and_parts, false≢true}
use Rattle.std.proofs.lemmas.List.{length-map, length-reverse}
use Rattle.std.proofs.lemmas.Option.{slice_get-get_or}
use Rattle.lv_formula.specs.declared.symbols.SortId.{SortId}
use Rattle.lv_formula.specs.declared.symbols.Sym.{Sym}
use Rattle.lv_formula.specs.declared.terms.Term.{Term}
use Rattle.lv_formula.specs.declared.terms.Term.TheVariants.{Var, Const}
use Rattle.lv_formula.specs.declared.vocabulary.Vocabulary.{Vocabulary}
use Rattle.lv_formula.specs.declared.temporal.Temporal.{Temporal}
use Rattle.lv_formula.specs.declared.temporal.Temporal.TheVariants as T
use Rattle.lv_formula.specs.Vocabulary.{relation_in, constant_in}
use Rattle.lv_formula.specs.Fits.{sort_of, is_sort, agree, have_sorts, are_arguments}
use Rattle.lv_formula.specs.TemporalFits.{temporal_fits_in, all_temporal_fit_in}
use Rattle.lv_formula.proofs.Induction.{Each}
use Rattle.lv_formula.proofs.TemporalFolds.{folds, folds_at}
use Rattle.lv_formula.proofs.TemporalInduction.{by_cases}
use Rattle.lv_labels.specs.Once.{is_among, place_of}
use Rattle.lv_labels.specs.Renaming.{term_variables, terms_variables, joined, outside, occurrences_of, free_variables, under, renamed_term, renamed, rename_each, renumbered}
use Rattle.lv_labels.specs.declared.key.Key.{Key}
use Rattle.lv_labels.specs.Labels.{key_of, labelled, plain, plain_each, keys_of, keys_each}
use Rattle.lv_labels.proofs.Once.{each_first, each_second, each_both, placed}
use Rattle.lv_labels.proofs.Keys.{sort_at}
use Rattle.lv_labels.proofs.InContext.{fits_below}
use Rattle.lv_labels.proofs.LabelsAt.{plains, keys}
use Rattle.lv_labels.proofs.Occurrences.{numbers, free_has, renumbered_reads}

-- ---- renamed formulas

-- the first context has for the new name of each of these variables what the second has for the old
abbrev pub Finds : List SortId → (ℕ → ℕ) → List SortId → List ℕ → Type 0
Finds new to old vs = Each (λ v. slice_get new (to v) ≡ slice_get old v) vs

finds_under : (new : List SortId) (to : ℕ → ℕ) (old : List SortId) (s : SortId) (vs : List ℕ) → Finds new to old (outside vs) → Finds (s ∷ new) (under to) (s ∷ old) vs
finds_under new to old s [] h = tt
finds_under new to old s (zero ∷ vs) h = (refl, finds_under new to old s vs h)
finds_under new to old s (suc v ∷ vs) h = (h.0, finds_under new to old s vs h.1)

module _ (voc : Vocabulary) where
  sort_renamed : (new : List SortId) (to : ℕ → ℕ) (old : List SortId) (t : Term) → Finds new to old (term_variables t) → sort_of voc new (renamed_term to t) ≡ sort_of voc old t
  sort_renamed new to old (Var v) h = h.0
  sort_renamed new to old (Const c) h = refl

  sorts_renamed : (new : List SortId) (to : ℕ → ℕ) (old : List SortId) (ts : List Term) (ss : List SortId) → Finds new to old (terms_variables ts) → have_sorts voc new (map (renamed_term to) ts) ss ≡ have_sorts voc old ts ss
  sorts_renamed new to old [] [] h = refl
  sorts_renamed new to old [] (s ∷ ss) h = refl
  sorts_renamed new to old (t ∷ ts) [] h = refl
  sorts_renamed new to old (t ∷ ts) (s ∷ ss) h = ap₂ (λ o b. is_sort o s && b) (sort_renamed new to old t (each_first _ (term_variables t) (terms_variables ts) h)) (sorts_renamed new to old ts ss (each_second _ (term_variables t) (terms_variables ts) h))

  arguments_renamed : (new : List SortId) (to : ℕ → ℕ) (old : List SortId) (ts : List Term) (o : Option (List SortId)) → Finds new to old (terms_variables ts) → are_arguments voc new (map (renamed_term to) ts) o ≡ are_arguments voc old ts o
  arguments_renamed new to old ts None h = refl
  arguments_renamed new to old ts (Some ss) h = sorts_renamed new to old ts ss h

  abbrev Moves : Temporal → Type 0
  Moves f = (new : List SortId) (to : ℕ → ℕ) (old : List SortId) → Finds new to old (occurrences_of f) → temporal_fits_in voc new (renamed f to) ≡ temporal_fits_in voc old f

  all_move : (fs : List Temporal) → Each Moves fs → (new : List SortId) (to : ℕ → ℕ) (old : List SortId) → Finds new to old (joined (map occurrences_of fs)) → all_temporal_fit_in voc new (rename_each (map renamed fs) to) ≡ all_temporal_fit_in voc old fs
  all_move [] each new to old h = refl
  all_move (f ∷ fs) each new to old h = ap₂ (λ a b. a && b) (each.0 new to old (each_first _ (occurrences_of f) (joined (map occurrences_of fs)) h)) (all_move fs each.1 new to old (each_second _ (occurrences_of f) (joined (map occurrences_of fs)) h))

  both_move : (f g : Temporal) → Moves f → Moves g → (new : List SortId) (to : ℕ → ℕ) (old : List SortId) → Finds new to old (occurrences_of f ++ occurrences_of g) → (temporal_fits_in voc new (renamed f to) && temporal_fits_in voc new (renamed g to)) ≡ (temporal_fits_in voc old f && temporal_fits_in voc old g)
  both_move f g ihf ihg new to old h = ap₂ (λ a b. a && b) (ihf new to old (each_first _ (occurrences_of f) (occurrences_of g) h)) (ihg new to old (each_second _ (occurrences_of f) (occurrences_of g) h))

  -- a renamed formula fits where the formula does, if the contexts agree on what occurs in it
  pub fits_renamed : (f : Temporal) → Moves f
  fits_renamed = by_cases Moves record {
    at_true = λ new to old h. simp folds_at refl;
    at_false = λ new to old h. simp folds_at refl;
    at_atom = λ s ts new to old h. simp folds_at (arguments_renamed new to old ts (relation_in voc.relations s) (simp folds at h));
    at_same = λ a b new to old h. let k : Finds new to old (term_variables a ++ term_variables b) = simp folds at h in
        simp folds_at (ap₂ agree (sort_renamed new to old a (each_first _ (term_variables a) (term_variables b) k)) (sort_renamed new to old b (each_second _ (term_variables a) (term_variables b) k)));
    at_not = λ f ih new to old h. simp folds_at (ih new to old (simp folds at h));
    at_and = λ fs each new to old h. simp folds_at (all_move fs each new to old (simp folds at h));
    at_or = λ fs each new to old h. simp folds_at (all_move fs each new to old (simp folds at h));
    at_implies = λ f g ihf ihg new to old h. simp folds_at (both_move f g ihf ihg new to old (simp folds at h));
    at_iff = λ f g ihf ihg new to old h. simp folds_at (both_move f g ihf ihg new to old (simp folds at h));
    at_all = λ s f ih new to old h. simp folds_at (ap (λ b. ltb s.0 voc.sorts && b) (ih (s ∷ new) (under to) (s ∷ old) (finds_under new to old s (occurrences_of f) (simp folds at h))));
    at_any = λ s f ih new to old h. simp folds_at (ap (λ b. ltb s.0 voc.sorts && b) (ih (s ∷ new) (under to) (s ∷ old) (finds_under new to old s (occurrences_of f) (simp folds at h))));
    at_always = λ f ih new to old h. simp folds_at (ih new to old (simp folds at h));
    at_eventually = λ f ih new to old h. simp folds_at (ih new to old (simp folds at h));
  }

  -- ---- formulas without `eventually`

  abbrev Stays : Temporal → Type 0
  Stays f = (context : List SortId) → temporal_fits_in voc context (plain f) ≡ temporal_fits_in voc context f

  all_stay : (fs : List Temporal) → Each Stays fs → (context : List SortId) → all_temporal_fit_in voc context (plain_each (map labelled fs)) ≡ all_temporal_fit_in voc context fs
  all_stay [] each c = refl
  all_stay (f ∷ fs) each c = ap₂ (λ a b. a && b) (each.0 c) (all_stay fs each.1 c)

  -- the formula without `eventually` fits where the formula does
  pub fits_plain : (f : Temporal) → Stays f
  fits_plain = by_cases Stays record {
    at_true = λ c. simp (plains, folds_at) refl;
    at_false = λ c. simp (plains, folds_at) refl;
    at_atom = λ s ts c. simp (plains, folds_at) refl;
    at_same = λ a b c. simp (plains, folds_at) refl;
    at_not = λ f ih c. simp (plains, folds_at) (ih c);
    at_and = λ fs each c. simp (plains, folds_at) (all_stay fs each c);
    at_or = λ fs each c. simp (plains, folds_at) (all_stay fs each c);
    at_implies = λ f g ihf ihg c. simp (plains, folds_at) (ap₂ (λ a b. a && b) (ihf c) (ihg c));
    at_iff = λ f g ihf ihg c. simp (plains, folds_at) (ap₂ (λ a b. a && b) (ihf c) (ihg c));
    at_all = λ s f ih c. simp (plains, folds_at) (ap (λ b. ltb s.0 voc.sorts && b) (ih (s ∷ c)));
    at_any = λ s f ih c. simp (plains, folds_at) (ap (λ b. ltb s.0 voc.sorts && b) (ih (s ∷ c)));
    at_always = λ f ih c. simp (plains, folds_at) (ih c);
    at_eventually = λ f ih c. simp (plains, folds_at) (ih c);
  }

  -- ---- the formula of a label stands in its sorts

  -- the formula of the label stands in the label's sorts
  abbrev pub KeyFits : Key → Type 0
  KeyFits key = temporal_fits_in voc (reverse key.sorts) key.inner ≡ true

  finds_renumbered : (context : List SortId) (vs : List ℕ) (v : ℕ) → is_among eqb v vs ≡ true → v < length context → slice_get (reverse (map (sort_at context) vs)) (renumbered vs v) ≡ slice_get context v
  finds_renumbered c vs v h b =
      let w : (place_of eqb v vs < length vs) × (get_or vs (place_of eqb v vs) 0 ≡ v) = placed eqb numbers 0 v vs h in
      let inside : renumbered vs v < length (reverse (map (sort_at c) vs)) = rw h (omega (arith, w.0, length-reverse (map (sort_at c) vs), length-map vs (sort_at c))) in
      slice_get-get_or (reverse (map (sort_at c) vs)) (renumbered vs v) (record { 0 = 0 }) inside
      ∙ (ap Some (renumbered_reads (sort_at c) (record { 0 = 0 }) vs v h)
      ∙ sym (slice_get-get_or c v (record { 0 = 0 }) b))

  pair_each : {X : Type 0} (P Q R : X → Type 0) → ((x : X) → P x → Q x → R x) → (xs : List X) → Each P xs → Each Q xs → Each R xs
  pair_each P Q R h [] a b = tt
  pair_each P Q R h (x ∷ xs) a b = (h x a.0 b.0, pair_each P Q R h xs a.1 b.1)

  key_fits : (f : Temporal) (context : List SortId) → temporal_fits_in voc context f ≡ true → KeyFits (key_of context f)
  key_fits f c h = fits_renamed f (reverse (map (sort_at c) (free_variables f))) (renumbered (free_variables f)) c
      (pair_each (λ v. is_among eqb v (free_variables f) ≡ true) (λ v. v < length c) (λ v. slice_get (reverse (map (sort_at c) (free_variables f))) (renumbered (free_variables f) v) ≡ slice_get c v)
      (λ v a b. finds_renumbered c (free_variables f) v a b) (occurrences_of f) (free_has f) (fits_below voc f c h)) ∙ h

  abbrev Keep : Temporal → Type 0
  Keep f = (context : List SortId) → temporal_fits_in voc context f ≡ true → Each KeyFits (keys_of f context)

  all_keep : (fs : List Temporal) → Each Keep fs → (context : List SortId) → all_temporal_fit_in voc context fs ≡ true → Each KeyFits (keys_each (map labelled fs) context)
  all_keep [] each c h = tt
  all_keep (f ∷ fs) each c h = let both = and_parts (temporal_fits_in voc c f) (all_temporal_fit_in voc c fs) h in
      each_both KeyFits (keys_of f c) (keys_each (map labelled fs) c) (each.0 c both.0) (all_keep fs each.1 c both.1)

  both_keep : (f g : Temporal) → Keep f → Keep g → (context : List SortId) → (temporal_fits_in voc context f && temporal_fits_in voc context g) ≡ true → Each KeyFits (keys_of f context ++ keys_of g context)
  both_keep f g ihf ihg c h = let both = and_parts (temporal_fits_in voc c f) (temporal_fits_in voc c g) h in
      each_both KeyFits (keys_of f c) (keys_of g c) (ihf c both.0) (ihg c both.1)

  -- the formula of each label in a formula that fits stands in the label's sorts
  pub keys_fit : (f : Temporal) → Keep f
  keys_fit = by_cases Keep record {
    at_true = λ c h. simp keys tt;
    at_false = λ c h. simp keys tt;
    at_atom = λ s ts c h. simp keys tt;
    at_same = λ a b c h. simp keys tt;
    at_not = λ f ih c h. simp keys (ih c (simp folds_at at h));
    at_and = λ fs each c h. simp keys (all_keep fs each c (simp folds_at at h));
    at_or = λ fs each c h. simp keys (all_keep fs each c (simp folds_at at h));
    at_implies = λ f g ihf ihg c h. simp keys (both_keep f g ihf ihg c (simp folds_at at h));
    at_iff = λ f g ihf ihg c h. simp keys (both_keep f g ihf ihg c (simp folds_at at h));
    at_all = λ s f ih c h. let both = and_parts (ltb s.0 voc.sorts) (temporal_fits_in voc (s ∷ c) f) (simp folds_at at h) in
        simp keys (ih (s ∷ c) both.1);
    at_any = λ s f ih c h. let both = and_parts (ltb s.0 voc.sorts) (temporal_fits_in voc (s ∷ c) f) (simp folds_at at h) in
        simp keys (ih (s ∷ c) both.1);
    at_always = λ f ih c h. let k : temporal_fits_in voc c f ≡ true = simp folds_at at h in
        simp keys (key_fits (plain f) c (fits_plain f c ∙ k), ih c k);
    at_eventually = λ f ih c h. let k : temporal_fits_in voc c f ≡ true = simp folds_at at h in
        simp keys (key_fits (T.Not (plain f)) c (simp folds_at (fits_plain f c ∙ k)), ih c k);
  }

-- ---- more symbols

-- the second vocabulary has each symbol of the first as the first has it
pub record Extends (voc more : Vocabulary) : Type 0 where
  pub sorts : voc.sorts ≡ more.sorts
  pub relations : (r : Sym) (ss : List SortId) → relation_in voc.relations r ≡ Some ss → relation_in more.relations r ≡ Some ss
  pub constants : (c : Sym) (s : SortId) → constant_in voc.constants c ≡ Some s → constant_in more.constants c ≡ Some s

module _ (voc more : Vocabulary) (extends : Extends voc more) where
  abbrev At : Option SortId → Option SortId → Type 0
  At o p = (s : SortId) → o ≡ Some s → p ≡ Some s

  sort_more : (context : List SortId) (t : Term) → At (sort_of voc context t) (sort_of more context t)
  sort_more c (Var v) s h = h
  sort_more c (Const k) s h = extends.constants k s h

  is_sort_more : (o p : Option SortId) (s : SortId) → At o p → is_sort o s ≡ true → is_sort p s ≡ true
  is_sort_more None p s h e = absurd (false≢true e)
  is_sort_more (Some t) p s h e = ap (λ x. is_sort x s) (h t refl) ∙ e

  agree_more : (o p o' p' : Option SortId) → At o o' → At p p' → agree o p ≡ true → agree o' p' ≡ true
  agree_more o None o' p' h k e = absurd (false≢true e)
  agree_more o (Some s) o' p' h k e = ap (agree o') (k s refl) ∙ is_sort_more o o' s h e

  -- terms of these sorts have them in the larger vocabulary too
  pub sorts_more : (context : List SortId) (ts : List Term) (ss : List SortId) → have_sorts voc context ts ss ≡ true → have_sorts more context ts ss ≡ true
  sorts_more c [] [] h = refl
  sorts_more c [] (s ∷ ss) h = absurd (false≢true h)
  sorts_more c (t ∷ ts) [] h = absurd (false≢true h)
  sorts_more c (t ∷ ts) (s ∷ ss) h = let both = and_parts (is_sort (sort_of voc c t) s) (have_sorts voc c ts ss) h in
      and_from (is_sort (sort_of more c t) s) (have_sorts more c ts ss) (is_sort_more (sort_of voc c t) (sort_of more c t) s (sort_more c t) both.0) (sorts_more c ts ss both.1)

  arguments_more : (context : List SortId) (ts : List Term) (o p : Option (List SortId)) → ((ss : List SortId) → o ≡ Some ss → p ≡ Some ss) → are_arguments voc context ts o ≡ true → are_arguments more context ts p ≡ true
  arguments_more c ts None p h e = absurd (false≢true e)
  arguments_more c ts (Some ss) p h e = ap (are_arguments more c ts) (h ss refl) ∙ sorts_more c ts ss e

  -- and so have the arguments of a relation
  pub atom_more : (context : List SortId) (r : Sym) (ts : List Term) → are_arguments voc context ts (relation_in voc.relations r) ≡ true → are_arguments more context ts (relation_in more.relations r) ≡ true
  atom_more c r ts h = arguments_more c ts (relation_in voc.relations r) (relation_in more.relations r) (extends.relations r) h

  -- and two terms of one sort
  pub same_more : (context : List SortId) (a b : Term) → agree (sort_of voc context a) (sort_of voc context b) ≡ true → agree (sort_of more context a) (sort_of more context b) ≡ true
  same_more c a b h = agree_more (sort_of voc c a) (sort_of voc c b) (sort_of more c a) (sort_of more c b) (sort_more c a) (sort_more c b) h

  -- and what stands under a binder
  pub binder_more : (s : SortId) (a b : Bool) → (a ≡ true → b ≡ true) → (ltb s.0 voc.sorts && a) ≡ true → (ltb s.0 more.sorts && b) ≡ true
  binder_more s a b h e = let both = and_parts (ltb s.0 voc.sorts) a e in and_from (ltb s.0 more.sorts) b (ap (ltb s.0) (sym extends.sorts) ∙ both.0) (h both.1)

  both_more : (a b c d : Bool) → (a ≡ true → c ≡ true) → (b ≡ true → d ≡ true) → (a && b) ≡ true → (c && d) ≡ true
  both_more a b c d h k e = let both = and_parts a b e in and_from c d (h both.0) (k both.1)

  abbrev More : Temporal → Type 0
  More f = (context : List SortId) → temporal_fits_in voc context f ≡ true → temporal_fits_in more context f ≡ true

  all_more : (fs : List Temporal) → Each More fs → (context : List SortId) → all_temporal_fit_in voc context fs ≡ true → all_temporal_fit_in more context fs ≡ true
  all_more [] each c h = refl
  all_more (f ∷ fs) each c h = both_more _ _ (temporal_fits_in more c f) (all_temporal_fit_in more c fs) (each.0 c) (all_more fs each.1 c) h

  -- a temporal formula that fits a vocabulary fits one with more symbols
  pub temporal_fits_more : (f : Temporal) → More f
  temporal_fits_more = by_cases More record {
    at_true = λ c h. simp folds_at refl;
    at_false = λ c h. simp folds_at refl;
    at_atom = λ s ts c h. simp folds_at (atom_more c s ts (simp folds_at at h));
    at_same = λ a b c h. simp folds_at (same_more c a b (simp folds_at at h));
    at_not = λ f ih c h. simp folds_at (ih c (simp folds_at at h));
    at_and = λ fs each c h. simp folds_at (all_more fs each c (simp folds_at at h));
    at_or = λ fs each c h. simp folds_at (all_more fs each c (simp folds_at at h));
    at_implies = λ f g ihf ihg c h. simp folds_at (both_more _ _ (temporal_fits_in more c f) (temporal_fits_in more c g) (ihf c) (ihg c) (simp folds_at at h));
    at_iff = λ f g ihf ihg c h. simp folds_at (both_more _ _ (temporal_fits_in more c f) (temporal_fits_in more c g) (ihf c) (ihg c) (simp folds_at at h));
    at_all = λ s f ih c h. simp folds_at (binder_more s (temporal_fits_in voc (s ∷ c) f) (temporal_fits_in more (s ∷ c) f) (ih (s ∷ c)) (simp folds_at at h));
    at_any = λ s f ih c h. simp folds_at (binder_more s (temporal_fits_in voc (s ∷ c) f) (temporal_fits_in more (s ∷ c) f) (ih (s ∷ c)) (simp folds_at at h));
    at_always = λ f ih c h. simp folds_at (ih c (simp folds_at at h));
    at_eventually = λ f ih c h. simp folds_at (ih c (simp folds_at at h));
  }
