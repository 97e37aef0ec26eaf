-- The chains keep the limits on labels.
use Rattle.std.proofs.Common.{◌≡◌, ℕ, ◌-◌, ◌≤◌, true, ◌&&◌, leb, List, [], ◌∷◌, ◌++◌, length, Option, Some, None, refl, sym, ap, ◌∙◌}
use Rattle.std.proofs.lemmas.Bool.{and_from, and_parts}
use Rattle.lv_formula.specs.declared.symbols.SortId.{SortId}
use Rattle.lv_formula.specs.declared.symbols.Sym.{Sym}
use Rattle.lv_formula.specs.declared.symbols.Sym.TheVariants.{Own, Label, Saved, Due, Copy, CopyLabel}
use Rattle.lv_formula.specs.declared.formula.Formula.{Formula}
use Rattle.lv_formula.specs.declared.temporal.Temporal.{Temporal}
use Rattle.lv_formula.specs.declared.temporal.Temporal.TheVariants as T
use Rattle.lv_formula.specs.declared.vocabulary.RelShape.{RelShape}
use Rattle.lv_formula.specs.declared.vocabulary.Vocabulary.{Vocabulary}
use Rattle.lv_formula.specs.Fits.{are_arguments, fits_in, fits_up_to, none_free}
use Rattle.lv_formula.specs.Symbols.{sym_eq}
use Rattle.lv_formula.specs.Vocabulary.{relation_in}
use Rattle.lv_formula.proofs.FitsLemmas.{fits_where_none_is_free}
use Rattle.lv_formula.proofs.TemporalFolds as TF
use Rattle.lv_system.specs.declared.parts.Parts.{Parts}
use Rattle.lv_system.specs.InvariantWords.{invariant_vocabulary}
use Rattle.lv_system.proofs.LookupLaws.{invariant_relation_told, relation_in_both}
use Rattle.lv_labels.specs.declared.key.Key.{Key}
use Rattle.lv_labels.specs.Labels.{key_eq, key_of, keys_of, labels_of}
use Rattle.lv_labels.specs.Once.{each_once}
use Rattle.lv_labels.specs.Renaming.{free_variables}
use Rattle.lv_labels.proofs.LabelsAt.{keys-Always, keys-Atom, keys-Eventually, keys-Not, plain-Atom, plain-Not}
use Rattle.lv_labels.proofs.Sameness.{key_decides}
use Rattle.lv_grammar.specs.LabelLimits.{all_differ, are_narrow, declared_keys, invariants_fit_in, label_relations, label_shapes, labels_keep_limits, list_free, spoken_vocabulary}
use Rattle.lv_chain.specs.Chain.{chain_of, invariants_of}
use Rattle.lv_chain.proofs.FitsLaw.{AllStand, all_stand, copy_word, due_word, own_word, saved_word}
use Rattle.lv_chain.proofs.PlainLaws.{Known}

-- a relation is the first list's where that has it, and else the second's
found_first : (xs ys : List RelShape) (s : Sym) (sorts : List SortId) → relation_in xs s ≡ Some sorts → relation_in (xs ++ ys) s ≡ Some sorts
found_first xs ys s sorts is = let it = relation_in_both xs ys s in rw is at it

found_second : (xs ys : List RelShape) (s : Sym) → relation_in xs s ≡ None → relation_in (xs ++ ys) s ≡ relation_in ys s
found_second xs ys s is = let it = relation_in_both xs ys s in rw is at it

-- ---- the label

module _ (last : ℕ) where
  abbrev arrived : Temporal
  arrived = T.Atom (Own last) []

  abbrev stuck_key : Key
  stuck_key = record { sorts = []; inner = T.Not arrived }

  key-stuck : key_of [] (T.Not arrived) ≡ stuck_key
  key-stuck = simp (TF.folds, TF.folds_at) refl

  pub keys-always : keys_of (T.Always (T.Not arrived)) [] ≡ stuck_key ∷ []
  keys-always = keys-Always (T.Not arrived) []
      ∙ ap (λ f. key_of [] f ∷ keys_of (T.Not arrived) []) (plain-Not arrived ∙ ap T.Not (plain-Atom (Own last) []))
      ∙ ap (λ ks. key_of [] (T.Not arrived) ∷ ks) (keys-Not arrived [] ∙ keys-Atom (Own last) [] [])
      ∙ ap (λ k. k ∷ []) key-stuck

  pub keys-eventually : keys_of (T.Eventually arrived) [] ≡ stuck_key ∷ []
  keys-eventually = keys-Eventually arrived []
      ∙ ap (λ f. key_of [] (T.Not f) ∷ keys_of arrived []) (plain-Atom (Own last) [])
      ∙ ap (λ ks. key_of [] (T.Not arrived) ∷ ks) (keys-Atom (Own last) [] [])
      ∙ ap (λ k. k ∷ []) key-stuck

  pub once : each_once key_eq (stuck_key ∷ (stuck_key ∷ [])) ≡ stuck_key ∷ []
  once = rw (key_decides.reflexive stuck_key) refl

  pub closed : free_variables (T.Always (T.Not arrived)) ≡ []
  closed = simp (TF.folds) refl

module _ (places : ℕ) (least : 2 ≤ places) (most : places ≤ 16) where
  abbrev p : Parts
  p = chain_of places

  abbrev last : ℕ
  last = places - 1

  labels-chain : labels_of p ≡ stuck_key last ∷ []
  labels-chain = ap (λ ks. each_once key_eq ((ks ++ []) ++ keys_of (T.Eventually (arrived last)) [])) (keys-always last)
      ∙ ap (λ ks. each_once key_eq (stuck_key last ∷ ks)) (keys-eventually last) ∙ once last

  -- ---- words

  abbrev voc : Vocabulary
  voc = spoken_vocabulary p

  known : (s : Sym) → relation_in (invariant_vocabulary p).relations s ≡ Some [] → Known none_free voc s
  known s is = ap (are_arguments voc [] []) (found_first (invariant_vocabulary p).relations (label_relations p) s [] is)

  -- the relations of the labels that a table has
  abbrev shapes : List Key → Option (List SortId)
  shapes ks = relation_in (label_shapes Label 0 ks ++ (label_shapes Due (length p.fairs) ks ++ label_shapes CopyLabel 0 ks)) (Label 0)

  shape_there : shapes (stuck_key last ∷ []) ≡ Some []
  unfolding sym_eq
  shape_there = refl

  label_known : Known none_free voc (Label 0)
  label_known = ap (are_arguments voc [] [])
      (found_second (invariant_vocabulary p).relations (label_relations p) (Label 0) (invariant_relation_told p (Label 0)) ∙ (ap shapes labels-chain ∙ shape_there))

  stand : AllStand places least most none_free voc
  stand = all_stand places least most none_free voc (λ i lt. known (Own i) (own_word places least most i lt)) (λ i lt. known (Copy i) (copy_word places least most i lt))
      (known Saved (saved_word places least most)) (λ i lt. known (Due i) (due_word places least most i lt)) label_known

  in_words : (f : Formula) → fits_up_to none_free voc [] f ≡ true → fits_in voc [] f ≡ true
  in_words f it = sym (fits_where_none_is_free voc f []) ∙ it

  said : invariants_fit_in voc (invariants_of places) ≡ true
  said =
      let it = stand in
      and_from _ _ (in_words _ it.0.1) (and_from _ _ (in_words _ it.1.1) (and_from _ _ (in_words _ it.2.1) (and_from _ _ (in_words _ it.3.1)
      (and_from _ _ (in_words _ it.4.1) (and_from _ true (in_words _ it.5.1) refl)))))

  -- ---- limits

  few : (leb (length (labels_of p)) 32 && are_narrow (labels_of p)) ≡ true
  few = ap (λ ks. leb (length ks) 32 && are_narrow ks) labels-chain

  differ : all_differ (declared_keys p.labels) ≡ true
  differ = rw (keys-always last) refl

  listed : list_free p.labels ≡ true
  listed = rw (closed last) refl

  pub chain_keeps_limits : labels_keep_limits (chain_of places) ≡ true
  chain_keeps_limits =
      let sizes = and_parts (leb (length (labels_of p)) 32) (are_narrow (labels_of p)) few in
      and_from (leb (length (labels_of p)) 32) _ sizes.0
      (and_from (are_narrow (labels_of p)) _ sizes.1
      (and_from (all_differ (declared_keys p.labels)) _ differ
      (and_from (list_free p.labels) _ listed said)))
