-- The sorts of a system that fits are there, those of its labels and justice conditions too.
use Rattle.std.proofs.Common.{◌≡◌, ℕ, ◌<◌, true, ◌&&◌, leb, ltb, List, [], ◌∷◌, ◌++◌, length, map, get_or, reverse, Some, sym, subst, ◌∙◌}
use Rattle.std.specs.List.{All}
use Rattle.std.proofs.lemmas.Bool.{and_parts, ltb-true}
use Rattle.std.proofs.lemmas.List.{length-map, reverse-append}
use Rattle.std.proofs.lemmas.List.Elements.{All-cons, All-nil}
use Rattle.lv_formula.specs.declared.symbols.SortId.{SortId}
use Rattle.lv_formula.specs.declared.vocabulary.Vocabulary.{Vocabulary}
use Rattle.lv_formula.specs.declared.temporal.Temporal.{Temporal}
use Rattle.lv_formula.specs.declared.temporal.Temporal.TheVariants as T
use Rattle.lv_formula.specs.TemporalFits.{all_temporal_fit_in, temporal_fits_in}
use Rattle.lv_formula.proofs.Induction.{Each}
use Rattle.lv_formula.proofs.TemporalFolds.{folds_at}
use Rattle.lv_formula.proofs.TemporalInduction.{by_cases}
use Rattle.lv_system.specs.declared.parts.Parts.{Parts}
use Rattle.lv_system.specs.declared.parts.Shape.{Shape}
use Rattle.lv_system.specs.declared.parts.Shape.TheVariants as S
use Rattle.lv_system.specs.Fits.{are_sorts_below, is_sort_below, shape_fits}
use Rattle.lv_system.specs.Lasso.{fair_at}
use Rattle.lv_system.specs.Step.{action_at, symbol_at}
use Rattle.lv_system.specs.Vocabularies.{constant_sort, own_vocabulary, relation_sorts, witness_vocabulary}
use Rattle.lv_system.proofs.FitsFacts.{Fitting, no_label, no_witness}
use Rattle.lv_labels.specs.declared.key.Key.{Key}
use Rattle.lv_labels.specs.Labels.{key_of, keys_each, keys_of, labelled, labels_of, plain}
use Rattle.lv_labels.specs.Problem.{label_condition, problem_of}
use Rattle.lv_labels.specs.Renaming.{free_variables}
use Rattle.lv_temporal.specs.TrueLabels.{key_at, no_key}
use Rattle.lv_labels.proofs.InContext.{fits_below}
use Rattle.lv_temporal.proofs.Fits.{fits_plain}
use Rattle.lv_labels.proofs.LabelsAt.{keys}
use Rattle.lv_labels.proofs.Occurrences.{free_each}
use Rattle.lv_labels.proofs.Once.{each_at, each_both, each_from, each_weaker}
use Rattle.lv_labels.proofs.Table.{each_label}
use Rattle.lv_temporal.proofs.Turns.{justice_conditions}
use Rattle.lv_temporal.proofs.Unrolled.{label_at_is}
use Rattle.lv_temporal.proofs.Differ.{AreSortsThere}

as_all : {X : Type 0} (P : X → Type 0) (xs : List X) → Each P xs → All P xs
as_all P [] h = All-nil P
as_all P (x ∷ xs) h = All-cons P x xs h.0 (as_all P xs h.1)

each_reverse : {X : Type 0} (P : X → Type 0) (xs : List X) → Each P xs → Each P (reverse xs)
each_reverse P [] h = tt
each_reverse P (x ∷ xs) h = subst (Each P) (sym (reverse-append (x ∷ []) xs)) (each_both P (reverse xs) (x ∷ []) (each_reverse P xs h.1) (h.0, tt))

each_map : {X Y : Type 0} (P : Y → Type 0) (g : X → Y) (xs : List X) → Each (λ x. P (g x)) xs → Each P (map g xs)
each_map P g [] h = tt
each_map P g (x ∷ xs) h = (h.0, each_map P g xs h.1)

params_there : (n : ℕ) (params : List SortId) → are_sorts_below n params ≡ true → Each (λ s. s.0 < n) params
params_there n [] h = tt
params_there n (s ∷ ss) h = let both = and_parts (is_sort_below n s) (are_sorts_below n ss) h in (ltb-true s.0 n both.0, params_there n ss both.1)

relation_there : (n : ℕ) (shape : Shape) (sorts : List SortId) → shape_fits n shape ≡ true → relation_sorts shape ≡ Some sorts → Each (λ s. s.0 < n) sorts
relation_there n (S.Relation ss) sorts h is = let same : ss ≡ sorts = cc in subst (Each (λ s. s.0 < n)) same (params_there n ss (and_parts (leb (length ss) 4) (are_sorts_below n ss) h).1)
relation_there n (S.Constant s) sorts h is = cc

constant_there : (n : ℕ) (shape : Shape) (sort : SortId) → shape_fits n shape ≡ true → constant_sort shape ≡ Some sort → sort.0 < n
constant_there n (S.Relation ss) sort h is = cc
constant_there n (S.Constant s) sort h is = let same : s ≡ sort = cc in subst (λ t. t.0 < n) same (ltb-true s.0 n h)

-- ---- the sorts of labels

module _ (voc : Vocabulary) where
  abbrev There : SortId → Type 0
  There s = s.0 < voc.sorts

  abbrev KeyThere : Key → Type 0
  KeyThere key = Each (λ s. s.0 < voc.sorts) key.sorts

  key_there : (f : Temporal) (context : List SortId) → Each There context → temporal_fits_in voc context f ≡ true → KeyThere (key_of context f)
  key_there f c there h = each_map There (λ v. get_or c v (record { 0 = 0 })) (free_variables f)
      (each_weaker (λ v. v < length c) (λ v. There (get_or c v (record { 0 = 0 }))) (each_at There (record { 0 = 0 }) c there) (free_variables f)
      (free_each (λ v. v < length c) f (fits_below voc f c h)))

  abbrev Keep : Temporal → Type 0
  Keep f = (context : List SortId) → Each There context → temporal_fits_in voc context f ≡ true → Each KeyThere (keys_of f context)

  all_keep : (fs : List Temporal) → Each Keep fs → (context : List SortId) → Each There context → all_temporal_fit_in voc context fs ≡ true → Each KeyThere (keys_each (map labelled fs) context)
  all_keep [] each c there h = tt
  all_keep (f ∷ fs) each c there h = let both = and_parts (temporal_fits_in voc c f) (all_temporal_fit_in voc c fs) h in
      each_both KeyThere (keys_of f c) (keys_each (map labelled fs) c) (each.0 c there both.0) (all_keep fs each.1 c there both.1)

  both_keep : (f g : Temporal) → Keep f → Keep g → (context : List SortId) → Each There context → (temporal_fits_in voc context f && temporal_fits_in voc context g) ≡ true → Each KeyThere (keys_of f context ++ keys_of g context)
  both_keep f g ihf ihg c there h = let both = and_parts (temporal_fits_in voc c f) (temporal_fits_in voc c g) h in
      each_both KeyThere (keys_of f c) (keys_of g c) (ihf c there both.0) (ihg c there both.1)

  -- the sorts of each label in a formula that fits are there
  pub keys_there : (f : Temporal) → Keep f
  keys_there = by_cases Keep record {
    at_true = λ c t h. simp keys tt;
    at_false = λ c t h. simp keys tt;
    at_atom = λ s ts c t h. simp keys tt;
    at_same = λ a b c t h. simp keys tt;
    at_not = λ f ih c t h. simp keys (ih c t (simp folds_at at h));
    at_and = λ fs each c t h. simp keys (all_keep fs each c t (simp folds_at at h));
    at_or = λ fs each c t h. simp keys (all_keep fs each c t (simp folds_at at h));
    at_implies = λ f g ihf ihg c t h. simp keys (both_keep f g ihf ihg c t (simp folds_at at h));
    at_iff = λ f g ihf ihg c t h. simp keys (both_keep f g ihf ihg c t (simp folds_at at h));
    at_all = λ s f ih c t h. let both = and_parts (ltb s.0 voc.sorts) (temporal_fits_in voc (s ∷ c) f) (simp folds_at at h) in
        simp keys (ih (s ∷ c) (ltb-true s.0 voc.sorts both.0, t) both.1);
    at_any = λ s f ih c t h. let both = and_parts (ltb s.0 voc.sorts) (temporal_fits_in voc (s ∷ c) f) (simp folds_at at h) in
        simp keys (ih (s ∷ c) (ltb-true s.0 voc.sorts both.0, t) both.1);
    at_always = λ f ih c t h. let k : temporal_fits_in voc c f ≡ true = simp folds_at at h in
        simp keys (key_there (plain f) c t (fits_plain voc f c ∙ k), ih c t k);
    at_eventually = λ f ih c t h. let k : temporal_fits_in voc c f ≡ true = simp folds_at at h in
        simp keys (key_there (T.Not (plain f)) c t (simp folds_at (fits_plain voc f c ∙ k)), ih c t k);
  }

module _ (p : Parts) (fit : Fitting p) where
  abbrev IsThere : SortId → Type 0
  IsThere s = s.0 < length p.sorts

  abbrev LabelThere : Key → Type 0
  LabelThere key = Each (λ s. s.0 < length p.sorts) key.sorts

  table_there : Each LabelThere (labels_of p)
  table_there = each_label LabelThere p record {
    labels = each_from (λ l. Each LabelThere (keys_of l.formula (reverse l.params))) no_label p.labels
        (λ n l. keys_there (own_vocabulary p) (get_or p.labels n no_label).formula (reverse (get_or p.labels n no_label).params)
        (each_reverse IsThere (get_or p.labels n no_label).params (params_there (length p.sorts) (get_or p.labels n no_label).params (fit.labels n l).params.there)) (fit.labels n l).formula);
    witnesses = each_from (λ w. Each LabelThere (keys_of w.formula (w.sort ∷ []))) no_witness p.witnesses
        (λ n l. keys_there (witness_vocabulary p n) (get_or p.witnesses n no_witness).formula ((get_or p.witnesses n no_witness).sort ∷ []) ((fit.witnesses n l).sort, tt) (fit.witnesses n l).formula);
    property = keys_there (own_vocabulary p) p.property [] tt fit.property;
  }

  label_there : (n : ℕ) → n < length (labels_of p) → All IsThere (key_at p n).sorts
  label_there n l = as_all IsThere (key_at p n).sorts (each_at LabelThere no_key (labels_of p) table_there n l)

  -- the sorts of a system that fits are there
  pub sorts_there : AreSortsThere (problem_of p)
  sorts_there = record {
    params = λ n l. as_all IsThere (action_at p n).params (params_there (length p.sorts) (action_at p n).params (fit.actions n l).params.there);
    relations = λ n sorts l is. as_all IsThere sorts (relation_there (length p.sorts) (symbol_at p n).shape sorts (fit.shapes n l) is);
    constants = λ n sort l is. constant_there (length p.sorts) (symbol_at p n).shape sort (fit.shapes n l) is;
    witnesses = λ k l. (fit.witnesses k l).sort;
    labels = λ n b. let l : n < length (labels_of p) = subst (λ k. n < k) (length-map (labels_of p) (label_condition (labels_of p))) b in
        subst (λ c. All IsThere c.sorts) (sym (label_at_is p n l)) (label_there n l);
    justice = justice_conditions (λ c. All IsThere c.sorts) p (λ j l. as_all IsThere (fair_at p j).params (params_there (length p.sorts) (fair_at p j).params (fit.fairs j l).params.there)) label_there;
  }
