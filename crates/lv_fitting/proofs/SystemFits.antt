-- A system that a tree spells fits, and keeps the limits on labels.
use Rattle.std.proofs.Common.{◌≡◌, ℕ, ◌≤◌, true, false, ◌&&◌, leb, List, [], ◌∷◌, ◌++◌, length, map, refl, sym, ap, subst, ◌∙◌, arith}
use Rattle.std.proofs.lemmas.Bool.{and_from, le-leb}
use Rattle.std.proofs.lemmas.List.{map-append}
use Rattle.lv_tree.specs.declared.tree.Tree.{Tree}
use Rattle.lv_system.specs.declared.parts.Parts.{Parts}
use Rattle.lv_system.specs.declared.parts.Sort.{Sort}
use Rattle.lv_system.specs.declared.parts.Symbol.{Symbol}
use Rattle.lv_system.specs.declared.parts.Action.{Action}
use Rattle.lv_system.specs.declared.parts.Fair.{Fair}
use Rattle.lv_system.specs.declared.parts.LabelDecl.{LabelDecl}
use Rattle.lv_system.specs.declared.parts.WitnessDecl.{WitnessDecl}
use Rattle.lv_system.specs.declared.parts.Invariant.{Invariant}
use Rattle.lv_system.specs.Fits.{shape_fits, shapes_fit, axioms_fit, inits_fit, action_fits, actions_fit, fair_fits, fairs_fit, labels_fit, witnesses_fit, property_fits, invariants_fit, fits_parts}
use Rattle.lv_system.specs.Limits.{counts_fit}
use Rattle.lv_system.specs.Names.{is_name, names_of, names_fit}
use Rattle.lv_system.specs.Vocabularies.{own_vocabulary, fixed_vocabulary}
use Rattle.lv_labels.specs.declared.key.Key.{Key}
use Rattle.lv_labels.specs.Labels.{labels_of}
use Rattle.lv_grammar.specs.declared.reading.Named.{Named}
use Rattle.lv_grammar.specs.declared.reading.Named.TheVariants as N
use Rattle.lv_grammar.specs.declared.reading.Role.TheVariants as R
use Rattle.lv_grammar.specs.LabelLimits.{are_narrow, all_differ, declared_keys, list_free, invariants_fit_in, spoken_vocabulary, labels_keep_limits}
use Rattle.lv_grammar.specs.Known.{Entry, Known}
use Rattle.lv_grammar.specs.KnownNames.{texts, AreNew}
use Rattle.lv_grammar.specs.Rules.{IsNew, IsSort, add_sort, IsDeclared, add_symbol, IsAction, add_action, IsFair, add_fair, IsLabel, add_label, IsWitness, add_witness, add_property, IsInvariant, add_invariant, known_first, IsSystem, number_in, own_sorts}
use Rattle.lv_fitting.proofs.Entries.{Along, along}
use Rattle.lv_fitting.proofs.LabelStages.{Limited, LabelFacts, label_step, all_labels, WitnessFits, witness_step, all_witnesses, property_right, AtLabel, AtWitness, AtInvariant, InvariantFacts, invariant_step, all_invariants}
use Rattle.lv_fitting.proofs.OwnLabels.{IsFresh, labels_differ, number_under}
use Rattle.lv_fitting.proofs.SaidWords.{own_agrees, axiom_agrees}
use Rattle.lv_fitting.proofs.SpellFacts.{few, names_spelled, new_spelled, new_both, new_fit}
use Rattle.lv_fitting.proofs.Stages.{Stage, sort_step, symbol_step, all_shapes, lones_fit, action_step, all_actions, fair_step, all_fairs}

-- the names behind one more
name_behind : (es : List Entry) (name : List ℕ) (what : Named) → texts (es ++ (name, what) ∷ []) ≡ texts es ++ name ∷ []
name_behind es name what = map-append (λ (e : Entry). e.0) es ((name, what) ∷ [])

module _ (p : Parts) (t : Tree) (is : IsSystem p t) where
  -- ---- names

  new_names : AreNew [] (names_of p)
  unfolding names_of
  new_names =
      let s = names_spelled (λ (x : Sort). x.name) (λ k x. name_behind k.names x.name (N.Sort k.sorts)) (λ k x u i. i.name.new) is.sorts in
      let y = names_spelled (λ (x : Symbol). x.name) (λ k x. name_behind k.names x.name (N.Symbol k.symbols x.shape x.fixed)) (λ k x u i. i.name.new) is.symbols in
      let a = names_spelled (λ (x : Action). x.name) (λ k x. name_behind k.names x.name N.Action) (λ k x u i. i.name.new) is.actions in
      let f = names_spelled (λ (x : Fair). x.name) (λ k x. name_behind k.names x.name (N.Fair k.fairs x.params)) (λ k x u i. i.name.new) is.fairs in
      let l = names_spelled (λ (x : LabelDecl). x.name) (λ k x. label_behind k x) (λ k x u i. i.name.new) is.labels in
      let w = names_spelled (λ (x : WitnessDecl). x.name) (λ k x. name_behind k.names x.name (N.Witness k.witnesses x.sort)) (λ k x u i. i.name.new) is.witnesses in
      let ns = new_spelled (λ (x : Sort). x.name) (λ k x. name_behind k.names x.name (N.Sort k.sorts)) (λ k x u i. i.name.new) is.sorts in
      let ny = new_spelled (λ (x : Symbol). x.name) (λ k x. name_behind k.names x.name (N.Symbol k.symbols x.shape x.fixed)) (λ k x u i. i.name.new) is.symbols in
      let na = new_spelled (λ (x : Action). x.name) (λ k x. name_behind k.names x.name N.Action) (λ k x u i. i.name.new) is.actions in
      let nf = new_spelled (λ (x : Fair). x.name) (λ k x. name_behind k.names x.name (N.Fair k.fairs x.params)) (λ k x u i. i.name.new) is.fairs in
      let nl = new_spelled (λ (x : LabelDecl). x.name) (λ k x. label_behind k x) (λ k x u i. i.name.new) is.labels in
      let nw = new_spelled (λ (x : WitnessDecl). x.name) (λ k x. name_behind k.names x.name (N.Witness k.witnesses x.sort)) (λ k x u i. i.name.new) is.witnesses in
      let ni = new_spelled (λ (x : Invariant). x.name) (λ k x. name_behind k.names x.name N.Invariant) (λ k x u i. i.name.new) is.invariants in (
        is.named,
        refl,
        behind (texts (known_first p.name).names) _ _ _ s ns (behind (texts is.with_sorts.names) _ _ _ y ny (behind (texts is.with_symbols.names) _ _ _ a na
            (behind (texts is.with_actions.names) _ _ _ f nf (behind (texts is.with_fairs.names) _ _ _ l nl (behind (texts is.with_labels.names) _ _ _ w nw ni))))),
      ) where
        label_behind : (k : Known) (x : LabelDecl) → texts (add_label k x).names ≡ texts k.names ++ x.name ∷ []
        label_behind k x = name_behind k.names x.name _

        behind : (before after xs ys : List (List ℕ)) → after ≡ before ++ xs → AreNew before xs → AreNew after ys → AreNew before (xs ++ ys)
        behind before after xs ys e n m = new_both before xs ys n (subst (λ z. AreNew z ys) e m)

  names : names_fit p ≡ true
  names = new_fit (names_of p) new_names

  counts : counts_fit p ≡ true
  counts =
      and_from (leb (length p.sorts) 16) _ (le-leb (length p.sorts) 16 (few is.sorts))
      (and_from (leb (length p.symbols) 256) _ (le-leb (length p.symbols) 256 (few is.symbols))
      (and_from (leb (length p.axioms) 64) _ (le-leb (length p.axioms) 64 (few is.axioms))
      (and_from (leb (length p.inits) 64) _ (le-leb (length p.inits) 64 (few is.inits))
      (and_from (leb (length p.actions) 32) _ (le-leb (length p.actions) 32 (few is.actions))
      (and_from (leb (length p.fairs) 16) _ (le-leb (length p.fairs) 16 (few is.fairs))
      (and_from (leb (length p.labels) 32) _ (le-leb (length p.labels) 32 (few is.labels))
      (and_from (leb (length p.witnesses) 16) _ (le-leb (length p.witnesses) 16 (few is.witnesses))
      (le-leb (length p.invariants) 256 (few is.invariants)))))))))

  -- ---- what is known behind each kind

  pub first : Stage p 0 0 0 0 [] [] (known_first p.name)
  first = record { right = (tt, tt); early = (tt, tt); sorts = refl; symbols = refl; fairs = refl; witnesses = refl; keys = refl; numbers = refl }

  pub sorts : Stage p (length p.sorts) 0 0 0 [] [] is.with_sorts
  sorts = (along p.sorts (λ front k. Stage p (length front) 0 0 0 [] [] k) (λ front x. Unit {0}) (sort_step p) is.sorts [] refl first).1

  symbols_along : Along (λ front x. shape_fits (length p.sorts) x.shape ≡ true) [] p.symbols × Stage p (length p.sorts) (length p.symbols) 0 0 [] [] is.with_symbols
  symbols_along = along p.symbols (λ front k. Stage p (length p.sorts) (length front) 0 0 [] [] k) (λ front x. shape_fits (length p.sorts) x.shape ≡ true) (symbol_step p (length p.sorts)) is.symbols [] refl sorts

  pub symbols : Stage p (length p.sorts) (length p.symbols) 0 0 [] [] is.with_symbols
  symbols = symbols_along.1

  pub shapes : shapes_fit (length p.sorts) p.symbols ≡ true
  shapes = all_shapes p [] p.symbols symbols_along.0

  axioms : axioms_fit p ≡ true
  axioms = lones_fit (fixed_vocabulary p) _ R.Axiom (axiom_agrees is.with_symbols p symbols.right) is.axioms

  inits : inits_fit p ≡ true
  inits = lones_fit (own_vocabulary p) _ R.State (own_agrees is.with_symbols p symbols.right R.State refl refl) is.inits

  pub actions_along : Along (λ front x. action_fits p x ≡ true) [] p.actions × Stage p (length p.sorts) (length p.symbols) 0 0 [] [] is.with_actions
  actions_along = along p.actions (λ front k. Stage p (length p.sorts) (length p.symbols) 0 0 [] [] k) (λ front x. action_fits p x ≡ true) (action_step p (length p.sorts) (length p.symbols)) is.actions [] refl symbols

  fairs_along : Along (λ front x. fair_fits p x ≡ true) [] p.fairs × Stage p (length p.sorts) (length p.symbols) (length p.fairs) 0 [] [] is.with_fairs
  fairs_along = along p.fairs (λ front k. Stage p (length p.sorts) (length p.symbols) (length front) 0 [] [] k) (λ front x. fair_fits p x ≡ true) (fair_step p (length p.sorts) (length p.symbols)) is.fairs [] refl actions_along.1

  none_few : (ks : List Key) → ks ≡ [] → length ks ≤ 32
  none_few ks e = let c = ap length e in omega (arith, c)

  pub before_labels : AtLabel p (length p.sorts) (length p.symbols) (length p.fairs) [] is.with_fairs
  before_labels = record { stage = fairs_along.1; limits = record { few = none_few is.with_fairs.keys fairs_along.1.keys; narrow = ap are_narrow fairs_along.1.keys } }

  pub labels_along : Along (LabelFacts p (length p.sorts) (length p.symbols) (length p.fairs)) [] p.labels × AtLabel p (length p.sorts) (length p.symbols) (length p.fairs) p.labels is.with_labels
  labels_along =
      along p.labels (AtLabel p (length p.sorts) (length p.symbols) (length p.fairs)) (LabelFacts p (length p.sorts) (length p.symbols) (length p.fairs)) (label_step p (length p.sorts) (length p.symbols) (length p.fairs)) is.labels [] refl
      before_labels

  labels : (labels_fit p p.labels ≡ true) × (list_free p.labels ≡ true) × Along (IsFresh (labels_of p)) [] p.labels
  labels = all_labels p (length p.sorts) (length p.symbols) (length p.fairs) [] p.labels labels_along.0

  abbrev pub numbers : List ℕ
  numbers = map (number_under (labels_of p)) p.labels

  pub witnesses_along : Along (WitnessFits p (length p.sorts) (length p.symbols) (length p.fairs) numbers) [] p.witnesses × AtWitness p (length p.sorts) (length p.symbols) (length p.fairs) numbers p.witnesses is.with_witnesses
  witnesses_along =
      along p.witnesses (AtWitness p (length p.sorts) (length p.symbols) (length p.fairs) numbers) (WitnessFits p (length p.sorts) (length p.symbols) (length p.fairs) numbers)
      (witness_step p (length p.sorts) (length p.symbols) (length p.fairs) numbers) is.witnesses [] refl labels_along.1

  property : (property_fits p ≡ true) × Limited p (length p.sorts) (length p.symbols) (length p.fairs) (length p.witnesses) (labels_of p) numbers (add_property is.with_witnesses p.property)
  property = property_right p (length p.sorts) (length p.symbols) (length p.fairs) numbers is.with_witnesses is.property_tree witnesses_along.1 is.property

  pub all_known : Stage p (length p.sorts) (length p.symbols) (length p.fairs) (length p.witnesses) (labels_of p) numbers (add_property is.with_witnesses p.property)
  all_known = property.1.stage

  invariants_along : Along (InvariantFacts p (length p.sorts) (length p.symbols) (length p.fairs) numbers) [] p.invariants × AtInvariant p (length p.sorts) (length p.symbols) (length p.fairs) numbers p.invariants is.with_all
  invariants_along =
      along p.invariants (AtInvariant p (length p.sorts) (length p.symbols) (length p.fairs) numbers) (InvariantFacts p (length p.sorts) (length p.symbols) (length p.fairs) numbers)
      (invariant_step p (length p.sorts) (length p.symbols) (length p.fairs) numbers refl) is.invariants [] refl all_known

  invariants : (invariants_fit p p.invariants ≡ true) × (invariants_fit_in (spoken_vocabulary p) p.invariants ≡ true)
  invariants = all_invariants p (length p.sorts) (length p.symbols) (length p.fairs) numbers [] p.invariants invariants_along.0

  -- ---- the system

  pub system_fits : fits_parts p ≡ true
  system_fits =
      and_from (counts_fit p) _ counts (and_from (names_fit p) _ names (and_from (shapes_fit (length p.sorts) p.symbols) _ shapes (and_from (axioms_fit p) _ axioms (and_from (inits_fit p) _ inits
      (and_from (actions_fit p p.actions) _ (all_actions p (length p.sorts) (length p.symbols) [] p.actions actions_along.0)
      (and_from (fairs_fit p p.fairs) _ (all_fairs p (length p.sorts) (length p.symbols) [] p.fairs fairs_along.0)
      (and_from (labels_fit p p.labels) _ labels.0
      (and_from (witnesses_fit p 0 p.witnesses) _ (all_witnesses p (length p.sorts) (length p.symbols) (length p.fairs) numbers [] p.witnesses witnesses_along.0)
      (and_from (property_fits p) _ property.0 invariants.0)))))))))

  pub system_limited : labels_keep_limits p ≡ true
  system_limited =
      let w = property.1.limits in
      let few : leb (length (labels_of p)) 32 ≡ true = subst (λ ks. leb (length ks) 32 ≡ true) all_known.keys (le-leb _ 32 w.few) in
      let narrow : are_narrow (labels_of p) ≡ true = subst (λ ks. are_narrow ks ≡ true) all_known.keys w.narrow in
      and_from (leb (length (labels_of p)) 32) _ few (and_from (are_narrow (labels_of p)) _ narrow
      (and_from (all_differ (declared_keys p.labels)) _ (labels_differ (labels_of p) [] p.labels labels.2) (and_from (list_free p.labels) _ labels.1 invariants.1)))
