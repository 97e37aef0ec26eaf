-- What is known behind labels, witnesses, the property and invariants, and that these fit and keep the limits on labels.
use Rattle.std.proofs.Common.{◌≡◌, ℕ, suc, ◌<◌, ◌≤◌, true, false, ◌&&◌, eqb, leb, List, [], ◌∷◌, ◌++◌, length, map, reverse, slice_get, Some, refl, sym, ap, ap₂, subst, ◌∙◌, arith}
use Rattle.std.proofs.lemmas.Bool.{and_from}
use Rattle.std.proofs.lemmas.List.{map-append}
use Rattle.lv_tree.specs.declared.tree.Tree.{Tree}
use Rattle.lv_formula.specs.declared.symbols.SortId.{SortId}
use Rattle.lv_formula.specs.declared.temporal.Temporal.{Temporal}
use Rattle.lv_formula.specs.declared.temporal.Temporal.TheVariants as T
use Rattle.lv_formula.specs.Fits.{fits_in}
use Rattle.lv_formula.proofs.TemporalFolds as Folds
use Rattle.lv_system.specs.declared.parts.Parts.{Parts}
use Rattle.lv_system.specs.declared.parts.LabelDecl.{LabelDecl}
use Rattle.lv_system.specs.declared.parts.WitnessDecl.{WitnessDecl}
use Rattle.lv_system.specs.declared.parts.Invariant.{Invariant}
use Rattle.lv_system.specs.Fits.{is_sort_below, params_fit, temporal_fits, is_always, label_fits, labels_fit, witness_fits, witnesses_fit, property_fits, invariant_fits, invariants_fit}
use Rattle.lv_system.specs.Limits.{is_small}
use Rattle.lv_system.specs.Vocabularies.{own_vocabulary, witness_vocabulary}
use Rattle.lv_labels.specs.declared.key.Key.{Key}
use Rattle.lv_labels.specs.Labels.{key_eq, keys_of, labels_of}
use Rattle.lv_labels.specs.Once.{is_among, once_behind}
use Rattle.lv_labels.proofs.FirstLabels.{always_starts}
use Rattle.lv_grammar.specs.declared.reading.Named.TheVariants as N
use Rattle.lv_grammar.specs.declared.reading.Role.TheVariants as R
use Rattle.lv_grammar.specs.LabelLimits.{lists_free, list_free, spoken_vocabulary, invariants_fit_in}
use Rattle.lv_grammar.specs.Words.{Variable, declared_name, label_name}
use Rattle.lv_grammar.specs.Known.{Known}
use Rattle.lv_grammar.specs.Agrees.{Agrees}
use Rattle.lv_grammar.specs.KnownOf.{Right}
use Rattle.lv_grammar.specs.Rules.{sorts_of, own_sorts, number_in, IsLabel, add_label, IsWitness, add_witness, IsProperty, add_property, IsInvariant, add_invariant, label_numbers}
use Rattle.lv_grammar.specs.Rules as Rules
use Rattle.lv_fitting.proofs.Entries.{right_behind, AreEarly, early_behind, all_later, Along}
use Rattle.lv_fitting.proofs.InvariantFits.{loose}
use Rattle.lv_fitting.proofs.OwnLabels.{WithinLimits, limits_kept, keys_in, number_under, Owned, number_so_far, owned, owned_there, declared_next, IsFresh, witness_keys, behind_labels, behind_witnesses, next_label, next_witness, whole_table, label_grown}
use Rattle.lv_fitting.proofs.SaidWords.{sort_below, own_agrees, witness_agrees, invariant_agrees}
use Rattle.lv_fitting.proofs.StateFacts.{whole_fits, state_small, state_in}
use Rattle.lv_fitting.proofs.Stages.{Stage, numbers_behind, no_number, counted, next_there, parameters_fit, scope_sorts}

-- what is known at a place, with a table within the limits
pub record Limited (p : Parts) (s y f w : ℕ) (ks : List Key) (ns : List ℕ) (k : Known) : Type 0 where
  pub stage : Stage p s y f w ks ns k
  pub limits : WithinLimits k.keys

module _ (p : Parts) (s y f : ℕ) where
  -- ---- labels

  abbrev pub AtLabel : List LabelDecl → Known → Type 0
  AtLabel front k = Limited p s y f 0 (behind_labels front) (map (number_under (labels_of p)) front) k

  pub record LabelFacts (front : List LabelDecl) (x : LabelDecl) : Type 0 where
    pub fits : label_fits p x ≡ true
    pub free : lists_free x ≡ true
    pub fresh : IsFresh (labels_of p) front x

  pub label_step : (front rest : List LabelDecl) (k : Known) (x : LabelDecl) (t : Tree) → p.labels ≡ front ++ x ∷ rest → AtLabel front k → IsLabel k x t → LabelFacts front x × AtLabel (front ++ x ∷ []) (add_label k x)
  label_step front rest k x t e at is =
      let st = at.stage in
      let table = labels_of p in
      let scope = scope_sorts is.variables x.params is.parameters.ranges in
      let always : is_always x.formula ≡ true = ap is_always is.always ∙ outer is.inner in
      let first = always_starts x.formula always (reverse x.params) in
      let known : once_behind key_eq k.keys (keys_in x) ≡ once_behind key_eq (behind_labels front) (keys_in x) = ap (λ z. once_behind key_eq z (keys_in x)) st.keys in
      let grown = label_grown p front x rest e in
      let o = owned (behind_labels front) table x first.own first.inner first.is grown in
      let number : number_in k (reverse x.params) x.formula ≡ number_under table x = ap (λ z. Rules.own_number z (keys_in x)) known ∙ number_so_far (behind_labels front) table x o grown in
      let fresh : is_among eqb (number_under table x) (map (number_under table) front) ≡ false = ap₂ (is_among eqb) (sym number) (sym st.numbers) ∙ is.once in
      let fits : temporal_fits (own_vocabulary p) (reverse x.params) x.formula ≡ true =
      subst (λ z. temporal_fits (own_vocabulary p) z x.formula ≡ true) scope (whole_fits k R.Path (own_vocabulary p) (own_agrees k p st.right R.Path refl refl) (reverse is.variables) x.formula is.a is.path.whole) in
      let fit : label_fits p x ≡ true = and_from (params_fit (length p.sorts) x.params) _ (parameters_fit p k st.right x.params is.variables is.params is.parameters) (and_from (is_always x.formula) _ always fits) in
      let named : label_name p (number_in k (reverse x.params) x.formula) ≡ Some x.name =
      ap₂ (λ n ls. declared_name table n ls) number e ∙ declared_next table (number_under table x) front x rest o refl fresh in
      let there : slice_get table (number_in k (reverse x.params) x.formula) ≡ Some o.own = ap (slice_get table) number ∙ owned_there table x o in
      let right : Right p x.name (N.Label (number_in k (reverse x.params) x.formula) (own_sorts (keys_in x))) = (named, o.own, there, sym (ap own_sorts o.keys)) in
      let within : Rules.labels_fit k.keys (keys_in x) ≡ true = subst (λ z. Rules.labels_fit k.keys (keys_of x.formula z) ≡ true) scope is.path.labels in (
        record { fits = fit; free = is.free; fresh = (o, fresh) },
        record {
          stage = record {
            right = right_behind p k.names x.name (N.Label (number_in k (reverse x.params) x.formula) (own_sorts (keys_in x))) st.right right;
            early = early_behind 0 k.names x.name (N.Label (number_in k (reverse x.params) x.formula) (own_sorts (keys_in x))) st.early tt;
            sorts = st.sorts;
            symbols = st.symbols;
            fairs = st.fairs;
            witnesses = st.witnesses;
            keys = known ∙ sym (next_label front x);
            numbers = numbers_behind k.names x.name (N.Label (number_in k (reverse x.params) x.formula) (own_sorts (keys_in x))) ∙ ap₂ (λ a b. a ++ b ∷ []) st.numbers number ∙ sym (map-append (number_under table) front (x ∷ []));
          };
          limits = limits_kept k.keys (keys_in x) at.limits within;
        },
      ) where
        outer : (g : Temporal) → is_always (T.Always g) ≡ true
        outer g = simp Folds.folds refl

  pub all_labels : (front xs : List LabelDecl) → Along LabelFacts front xs → (labels_fit p xs ≡ true) × (list_free xs ≡ true) × Along (IsFresh (labels_of p)) front xs
  all_labels front [] a = (refl, refl, tt)
  all_labels front (x ∷ xs) a =
      let rest = all_labels (front ++ x ∷ []) xs a.1 in
      (and_from (label_fits p x) _ a.0.fits rest.0, and_from (lists_free x) _ a.0.free rest.1, (a.0.fresh, rest.2))

  -- ---- witnesses

  module _ (ns : List ℕ) where
    abbrev pub AtWitness : List WitnessDecl → Known → Type 0
    AtWitness front k = Limited p s y f (length front) (behind_witnesses p.labels front) ns k

    abbrev pub WitnessFits : List WitnessDecl → WitnessDecl → Type 0
    WitnessFits front x = witness_fits p (length front) x ≡ true

    pub witness_step : (front rest : List WitnessDecl) (k : Known) (x : WitnessDecl) (t : Tree) → p.witnesses ≡ front ++ x ∷ rest → AtWitness front k → IsWitness k x t → WitnessFits front x × AtWitness (front ++ x ∷ []) (add_witness k x)
    witness_step front rest k x t e at is =
        let st = at.stage in
        let scope : List Variable = record { name = is.variable; sort = x.sort } ∷ [] in
        let agrees = witness_agrees k p st.right R.Witness refl (length front) st.early in
        let count : suc (length front) ≡ length (front ++ x ∷ []) = counted (length front) front x refl in
        let known : k.witnesses < suc (length front) = let c = st.witnesses in omega (arith, c) in (
          and_from (is_sort_below (length p.sorts) x.sort) _ (sort_below k p st.right x.sort is.s is.binds.sort) (whole_fits k R.Witness (witness_vocabulary p (length front)) agrees scope x.formula is.a is.path.whole),
          record {
            stage = record {
              right = right_behind p k.names x.name (N.Witness k.witnesses x.sort) st.right (x, next_there p.witnesses front rest x k.witnesses e st.witnesses, refl, refl);
              early = early_behind (length (front ++ x ∷ [])) k.names x.name (N.Witness k.witnesses x.sort) (subst (λ n. AreEarly n k.names) count (all_later (length front) k.names st.early)) (subst (λ n. k.witnesses < n) count known);
              sorts = st.sorts;
              symbols = st.symbols;
              fairs = st.fairs;
              witnesses = counted k.witnesses front x st.witnesses;
              keys = ap (λ z. once_behind key_eq z (witness_keys x)) st.keys ∙ sym (next_witness p.labels front x);
              numbers = no_number k.names x.name (N.Witness k.witnesses x.sort) ns refl st.numbers;
            };
            limits = limits_kept k.keys (witness_keys x) at.limits is.path.labels;
          },
        )

    pub all_witnesses : (front xs : List WitnessDecl) → Along WitnessFits front xs → witnesses_fit p (length front) xs ≡ true
    all_witnesses front [] a = refl
    all_witnesses front (x ∷ xs) a = and_from (witness_fits p (length front) x) _ a.0 (subst (λ n. witnesses_fit p n xs ≡ true) (sym (counted (length front) front x refl)) (all_witnesses (front ++ x ∷ []) xs a.1))

    -- ---- the property

    pub property_right : (k : Known) (t : Tree) → AtWitness p.witnesses k → IsProperty k p.property t → (property_fits p ≡ true) × Limited p s y f (length p.witnesses) (labels_of p) ns (add_property k p.property)
    property_right k t at is =
        let st = at.stage in (
          whole_fits k R.Path (own_vocabulary p) (own_agrees k p st.right R.Path refl refl) [] p.property is.a is.path.whole,
          record {
            stage = record {
              right = st.right;
              early = st.early;
              sorts = st.sorts;
              symbols = st.symbols;
              fairs = st.fairs;
              witnesses = st.witnesses;
              keys = ap (λ z. once_behind key_eq z (keys_of p.property [])) st.keys ∙ whole_table p;
              numbers = st.numbers;
            };
            limits = limits_kept k.keys (keys_of p.property []) at.limits is.path.labels;
          },
        )

    -- ---- invariants

    abbrev pub AtInvariant : List Invariant → Known → Type 0
    AtInvariant front k = Stage p s y f (length p.witnesses) (labels_of p) ns k

    pub record InvariantFacts (front : List Invariant) (x : Invariant) : Type 0 where
      pub fits : invariant_fits p x ≡ true
      pub spoken : fits_in (spoken_vocabulary p) [] x.formula ≡ true

    pub invariant_step : f ≡ length p.fairs → (front rest : List Invariant) (k : Known) (x : Invariant) (t : Tree) → p.invariants ≡ front ++ x ∷ rest → AtInvariant front k → IsInvariant k x t
        → InvariantFacts front x × AtInvariant (front ++ x ∷ []) (add_invariant k x)
    invariant_step fairs front rest k x t e st is =
        let agrees = invariant_agrees k p st.right (st.fairs ∙ fairs) in
        let spoken = state_in k R.Invariant (spoken_vocabulary p) agrees 58 [] x.formula is.a is.formula in (
          record { fits = and_from (is_small 58 x.formula) _ (state_small k R.Invariant 58 [] x.formula is.a is.formula) (loose p x.formula [] spoken); spoken = spoken },
          record {
            right = right_behind p k.names x.name N.Invariant st.right tt;
            early = early_behind (length p.witnesses) k.names x.name N.Invariant st.early tt;
            sorts = st.sorts;
            symbols = st.symbols;
            fairs = st.fairs;
            witnesses = st.witnesses;
            keys = st.keys;
            numbers = no_number k.names x.name N.Invariant ns refl st.numbers;
          },
        )

    pub all_invariants : (front xs : List Invariant) → Along InvariantFacts front xs → (invariants_fit p xs ≡ true) × (invariants_fit_in (spoken_vocabulary p) xs ≡ true)
    all_invariants front [] a = (refl, refl)
    all_invariants front (x ∷ xs) a =
        let rest = all_invariants (front ++ x ∷ []) xs a.1 in
        (and_from (invariant_fits p x) _ a.0.fits rest.0, and_from (fits_in (spoken_vocabulary p) [] x.formula) _ a.0.spoken rest.1)
