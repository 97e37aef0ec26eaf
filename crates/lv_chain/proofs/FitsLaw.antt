-- The parts of the chain fit, for 2 to 16 places.
use Rattle.std.proofs.Common.{◌≡◌, ℕ, zero, suc, ◌+◌, ◌-◌, ◌<◌, ◌≤◌, Bool, true, false, ◌&&◌, leb, cond, List, [], ◌∷◌, ◌++◌, length, Some, refl, sym, ap, subst, ◌∙◌, arith}
use Rattle.std.specs.Prelude.{slice_get}
use Rattle.std.specs.Fmt.{digits}
use Rattle.std.specs.List.{All, list_all, range_with_len}
use Rattle.std.proofs.lemmas.Bool.{and_from, and_parts, leb-true, ne_eqb}
use Rattle.std.proofs.lemmas.List.Elements.{All-cons}
use Rattle.std.proofs.lemmas.List.FromFn.{get_or-map-range_with_len, length-map-range_with_len}
use Rattle.lv_formula.specs.declared.symbols.Sym.{Sym}
use Rattle.lv_formula.specs.declared.symbols.Sym.TheVariants.{Own, Label, Saved, Due, Copy}
use Rattle.lv_formula.specs.declared.formula.Formula.{Formula}
use Rattle.lv_formula.specs.declared.formula.Formula.TheVariants.{True, False, Atom, And, Or, Implies}
use Rattle.lv_formula.specs.declared.vocabulary.Vocabulary.{Vocabulary}
use Rattle.lv_formula.specs.Vocabulary.{relation_in}
use Rattle.lv_formula.specs.Fits.{are_arguments, fits_up_to, none_free}
use Rattle.lv_formula.proofs.FitsLemmas.{fits_where_none_is_free}
use Rattle.lv_formula.proofs.Folds as FF
use Rattle.lv_formula.proofs.TemporalFolds as TF
use Rattle.lv_system.specs.declared.parts.Parts.{Parts}
use Rattle.lv_system.specs.declared.parts.ActionUpdate.TheVariants.{Relation}
use Rattle.lv_system.specs.Step.{no_symbol, symbol_at}
use Rattle.lv_system.specs.Vocabularies.{any_symbol, own_vocabulary}
use Rattle.lv_system.specs.InvariantWords.{invariant_vocabulary, is_changing, is_label_word}
use Rattle.lv_system.specs.Lookups.{invariant_relation, params_of, relation_where}
use Rattle.lv_system.specs.Limits.{counts_fit, in_item, in_part, is_small}
use Rattle.lv_system.specs.Names.{names_item, names_part, names_connective, names_operator, names_run, names_fit, names_of}
use Rattle.lv_system.specs.Fits.{action_fits, actions_fit, axioms_fit, body_fits, changing_shape, fairs_fit, fits_parts, formula_fits, inits_fit, invariants_fit, labels_fit, property_fits, shapes_fit, targets_differ, update_fits, witnesses_fit}
use Rattle.lv_system.proofs.LookupLaws.{invariant_relation_told, own_relation_told}
use Rattle.lv_chain.specs.declared.formulas.OfPlace.{OfPlace}
use Rattle.lv_chain.specs.declared.formulas.OfPlace.TheVariants.{Here, Away, SavedHere, Waits}
use Rattle.lv_chain.specs.declared.formulas.OfPair.{OfPair}
use Rattle.lv_chain.specs.declared.formulas.OfPair.TheVariants.{NotBoth, Ahead}
use Rattle.lv_chain.specs.Chain.{chain_of, go, invariants_of, moved, place, rest, stuck}
use Rattle.lv_chain.specs.Formulas.{at, each, of_pairs, of_place, saved}
use Rattle.lv_chain.proofs.PlainLaws.{Joined, Known, Plain, all_each, all_pairs, and_joined, behind_saved, length-of_pairs, or_joined, pair_count, plain_ahead, plain_away, plain_not_both, plain_waits, plain_word, small_joined, small_plain}

-- ---- numbers

-- what a test says of each of so many numbers
pub all_from : (test : ℕ → Bool) (first count k : ℕ) → list_all test (range_with_len first count) ≡ true → k < count → test (first + k) ≡ true
all_from test first zero k h lt = absurd (omega (arith, lt))
all_from test first (suc count) zero h lt = let at : first ≡ first + 0 = omega arith in subst (λ i. test i ≡ true) at (and_parts (test first) _ h).0
all_from test first (suc count) (suc k) h lt =
    let at : first + 1 + k ≡ first + suc k = omega arith in
    subst (λ i. test i ≡ true) at (all_from test (first + 1) count k (and_parts (test first) _ h).1 (omega (arith, lt)))

-- what is so of each number of places
pub at_places : (test : ℕ → Bool) → list_all test (range_with_len 2 15) ≡ true → (places : ℕ) → 2 ≤ places → places ≤ 16 → test places ≡ true
at_places test all places least most =
    let at : 2 + (places - 2) ≡ places = omega (arith, least) in
    subst (λ n. test n ≡ true) at (all_from test 2 15 (places - 2) all (omega (arith, least, most)))

slice-each : {A : Type 0} (f : ℕ → A) (first count i : ℕ) → i < count → slice_get (each f first count) i ≡ Some (f (first + i))
slice-each f first zero i lt = absurd (omega (arith, lt))
slice-each f first (suc count) zero lt = ap (λ j. Some (f j)) (omega arith)
slice-each f first (suc count) (suc i) lt = slice-each f (first + 1) count i (omega (arith, lt)) ∙ ap (λ j. Some (f j)) (omega arith)

-- how many items there are, their names and their shapes
counted : list_all (λ n. counts_fit (chain_of n) && shapes_fit 0 (each place 0 n)) (range_with_len 2 15) ≡ true
counted = refl

named : list_all (λ n. names_fit (chain_of n)) (range_with_len 2 15) ≡ true
unfolding names_of names_item names_part names_connective names_operator names_run digits
named = refl

few_pairs : list_all (λ n. leb (pair_count n) 120) (range_with_len 2 15) ≡ true
few_pairs = refl

anyway : (b there : Bool) → there ≡ true → cond b true there ≡ true
anyway true there is = refl
anyway false there is = is

-- ---- the parts

abbrev pub length-each : {A : Type 0} (f : ℕ → A) (first count : ℕ) → length (each f first count) ≡ count
length-each f first count = length-map-range_with_len f first count

module _ (places : ℕ) (least : 2 ≤ places) (most : places ≤ 16) where
  abbrev p : Parts
  p = chain_of places

  abbrev own : Vocabulary
  own = own_vocabulary p

  -- ---- words

  pub slice_place : (i : ℕ) → i < places → slice_get p.symbols i ≡ Some (place (0 + i))
  slice_place i lt = slice-each place 0 places i lt

  known : (i : ℕ) → i < places → Known none_free own (Own i)
  known i lt = ap (are_arguments own [] []) (own_relation_told any_symbol p (Own i) ∙ ap (relation_where any_symbol) (slice_place i lt))

  -- the words of invariants: of which the arguments are looked at
  pub is_word : (s : Sym) → invariant_relation p s ≡ Some [] → relation_in (invariant_vocabulary p).relations s ≡ Some []
  is_word s is = invariant_relation_told p s ∙ is

  pub own_word : (i : ℕ) → i < places → relation_in (invariant_vocabulary p).relations (Own i) ≡ Some []
  own_word i lt = is_word (Own i) (ap (relation_where any_symbol) (slice_place i lt))

  pub copy_word : (i : ℕ) → i < places → relation_in (invariant_vocabulary p).relations (Copy i) ≡ Some []
  copy_word i lt = is_word (Copy i) (ap (relation_where is_changing) (slice_place i lt))

  pub saved_word : relation_in (invariant_vocabulary p).relations Saved ≡ Some []
  saved_word = is_word Saved refl

  pub due_word : (i : ℕ) → i < places - 1 → relation_in (invariant_vocabulary p).relations (Due i) ≡ Some []
  due_word i lt = is_word (Due i) (ap params_of (slice-each moved 0 (places - 1) i lt))

  -- ---- formulas of own words

  fitting : (f : Formula) → Plain none_free own f → (depth : ℕ) → 5 ≤ depth → formula_fits depth own [] f ≡ true
  fitting f it depth deep = and_from _ _ (small_plain none_free own f it depth deep) (sym (fits_where_none_is_free own f []) ∙ it.fits)

  here : (i : ℕ) → i < places → Plain none_free own (at i)
  here i lt = plain_word none_free own (Own i) (known i lt)

  away : (i : ℕ) → i < places → Plain none_free own (of_place Away i)
  away i lt = plain_away none_free own i (known i lt)

  starts : inits_fit p ≡ true
  starts =
      let fs = at 0 ∷ each (of_place Away) 1 (places - 1) in
      let all : All (Plain none_free own) fs = All-cons (Plain none_free own) (at 0) (each (of_place Away) 1 (places - 1)) (here 0 (omega (arith, least))) (all_each (Plain none_free own) (of_place Away) 1 (places - 1) (λ i le lt. away i (omega (arith, lt, least)))) in
      let size : length (each (of_place Away) 1 (places - 1)) ≡ places - 1 = length-each (of_place Away) 1 (places - 1) in
      let few : length fs ≤ 120 = omega (arith, size, most) in
      let it = and_joined none_free own fs all few in
      and_from _ true (and_from _ _ (small_joined none_free own fs all few (And fs) it in_item (omega arith)) (sym (fits_where_none_is_free own (And fs) []) ∙ it.fits)) refl

  place_at : (i : ℕ) → i < places → symbol_at p i ≡ place i
  place_at i lt = get_or-map-range_with_len place 0 places i i no_symbol lt (omega arith)

  sets : (i : ℕ) (body : Formula) → i < places → formula_fits in_part own [] body ≡ true → update_fits p [] (Relation i body) ≡ true
  sets i body lt fits = ap (λ s. body_fits p [] body (changing_shape s)) (place_at i lt) ∙ fits

  set_false : formula_fits in_part own [] False ≡ true
  set_false = simp (FF.folds, FF.folds_at) refl

  set_true : formula_fits in_part own [] True ≡ true
  set_true = simp (FF.folds, FF.folds_at) refl

  apart : (i : ℕ) → targets_differ (Relation i False ∷ Relation (suc i) True ∷ []) ≡ true
  apart i = rw (ne_eqb (suc i) i (λ e. omega (arith, e))) refl

  goes : (i : ℕ) → i < places - 1 → action_fits p (go i) ≡ true
  goes i lt =
      let one = sets i False (omega (arith, lt)) set_false in
      let other = sets (suc i) True (omega (arith, lt)) set_true in
      and_from _ _ (fitting (at i) (here i (omega (arith, lt))) in_part (omega arith)) (and_from _ _ (and_from _ _ one (and_from _ true other refl)) (apart i))

  rests : action_fits p rest ≡ true
  rests = simp (FF.folds, FF.folds_at) refl

  going : (first count : ℕ) → first + count ≤ places - 1 → actions_fit p (each go first count ++ rest ∷ []) ≡ true
  going first zero le = and_from _ true rests refl
  going first (suc count) le = and_from _ _ (goes first (omega (arith, le))) (going (first + 1) count (omega (arith, le)))

  moving : (first count : ℕ) → first + count ≤ places - 1 → fairs_fit p (each moved first count) ≡ true
  moving first zero le = refl
  moving first (suc count) le = and_from _ _ (fitting (of_place Away first) (away first (omega (arith, le))) in_item (omega arith)) (moving (first + 1) count (omega (arith, le)))

  sticks : labels_fit p (stuck (places - 1) ∷ []) ≡ true
  sticks = simp (TF.folds, TF.folds_at) (and_from _ true (known (places - 1) (omega (arith, least))) refl)

  comes : property_fits p ≡ true
  comes = simp (TF.folds, TF.folds_at) (known (places - 1) (omega (arith, least)))

  -- ---- invariants

  -- the formula is small, and stands where its words may
  abbrev pub Stands : (Sym → Bool) → Vocabulary → Formula → Type 0
  Stands free voc f = (is_small in_item f ≡ true) × (fits_up_to free voc [] f ≡ true)

  -- so do all invariants
  abbrev pub AllStand : (Sym → Bool) → Vocabulary → Type 0
  AllStand free voc =
      Stands free voc (Or (each (of_place Here) 0 places)) × Stands free voc (And (of_pairs NotBoth 0 places)) × Stands free voc (Atom (Label 0) [])
      × Stands free voc (Implies saved (Or (each (of_place SavedHere) 0 (places - 1)))) × Stands free voc (And (of_pairs Ahead 0 places))
      × Stands free voc (And (each (of_place Waits) 0 (places - 1)))

  pairs : pair_count places ≤ 120
  pairs = leb-true (pair_count places) 120 (at_places (λ n. leb (pair_count n) 120) few_pairs places least most)

  -- where their words are known
  module _ (free : Sym → Bool) (voc : Vocabulary) (own_known : (i : ℕ) → i < places → Known free voc (Own i)) (copy_known : (i : ℕ) → i < places → Known free voc (Copy i))
      (saved_known : Known free voc Saved) (due_known : (i : ℕ) → i < places - 1 → Known free voc (Due i)) (label_known : Known free voc (Label 0)) where
    joined : (fs : List Formula) (all : All (Plain free voc) fs) (few : length fs ≤ 120) (f : Formula) → Joined free voc fs all few f → Stands free voc f
    joined fs all few f it = (small_joined free voc fs all few f it in_item (omega arith), it.fits)

    few_each : (kind : OfPlace) (count : ℕ) → count ≤ 16 → length (each (of_place kind) 0 count) ≤ 120
    few_each kind count le = let size = length-each (of_place kind) 0 count in omega (arith, size, le)

    few_of_pairs : (kind : OfPair) → length (of_pairs kind 0 places) ≤ 120
    few_of_pairs kind = let size = length-of_pairs kind 0 places in let few = pairs in omega (arith, size, few)

    any_stands : Stands free voc (Or (each (of_place Here) 0 places))
    any_stands =
        let fs = each (of_place Here) 0 places in
        let all = all_each (Plain free voc) (of_place Here) 0 places (λ i le lt. plain_word free voc (Own i) (own_known i (omega (arith, lt)))) in
        let few = few_each Here places most in
        joined fs all few (Or fs) (or_joined free voc fs all few)

    one_stands : Stands free voc (And (of_pairs NotBoth 0 places))
    one_stands =
        let fs = of_pairs NotBoth 0 places in
        let all = all_pairs (Plain free voc) NotBoth 0 places (λ i j le less lt. plain_not_both free voc i j (own_known i (omega (arith, less, lt))) (own_known j (omega (arith, lt)))) in
        joined fs all (few_of_pairs NotBoth) (And fs) (and_joined free voc fs all (few_of_pairs NotBoth))

    held_stands : Stands free voc (Implies saved (Or (each (of_place SavedHere) 0 (places - 1))))
    held_stands =
        let fs = each (of_place SavedHere) 0 (places - 1) in
        let all = all_each (Plain free voc) (of_place SavedHere) 0 (places - 1) (λ i le lt. plain_word free voc (Copy i) (copy_known i (omega (arith, lt)))) in
        let few = few_each SavedHere (places - 1) (omega (arith, most)) in
        behind_saved free voc fs all few saved_known (Or fs) (or_joined free voc fs all few) in_item (omega arith)

    ahead_stands : Stands free voc (And (of_pairs Ahead 0 places))
    ahead_stands =
        let fs = of_pairs Ahead 0 places in
        let all = all_pairs (Plain free voc) Ahead 0 places (λ i j le less lt. plain_ahead free voc i j (own_known i (omega (arith, less, lt))) (copy_known j (omega (arith, lt))) saved_known) in
        joined fs all (few_of_pairs Ahead) (And fs) (and_joined free voc fs all (few_of_pairs Ahead))

    waits_stands : Stands free voc (And (each (of_place Waits) 0 (places - 1)))
    waits_stands =
        let fs = each (of_place Waits) 0 (places - 1) in
        let all = all_each (Plain free voc) (of_place Waits) 0 (places - 1)
        (λ i le lt. plain_waits free voc i (own_known i (omega (arith, lt))) (copy_known i (omega (arith, lt))) saved_known (due_known i (omega (arith, lt)))) in
        let few = few_each Waits (places - 1) (omega (arith, most)) in
        joined fs all few (And fs) (and_joined free voc fs all few)

    stays_stands : Stands free voc (Atom (Label 0) [])
    stays_stands = let it = plain_word free voc (Label 0) label_known in (small_plain free voc (Atom (Label 0) []) it in_item (omega arith), it.fits)

    pub all_stand : AllStand free voc
    all_stand = (any_stands, one_stands, stays_stands, held_stands, ahead_stands, waits_stands)

  abbrev free : Sym → Bool
  free = is_label_word p

  abbrev words : Vocabulary
  words = invariant_vocabulary p

  may_stand : (s : Sym) → relation_in words.relations s ≡ Some [] → Known free words s
  may_stand s is = anyway (free s) (are_arguments words [] [] (relation_in words.relations s)) (ap (are_arguments words [] []) is)

  said : invariants_fit p (invariants_of places) ≡ true
  said =
      let it = all_stand free words (λ i lt. may_stand (Own i) (own_word i lt)) (λ i lt. may_stand (Copy i) (copy_word i lt)) (may_stand Saved saved_word)
      (λ i lt. may_stand (Due i) (due_word i lt)) refl in
      and_from _ _ (and_from _ _ it.0.0 it.0.1) (and_from _ _ (and_from _ _ it.1.0 it.1.1) (and_from _ _ (and_from _ _ it.2.0 it.2.1)
      (and_from _ _ (and_from _ _ it.3.0 it.3.1) (and_from _ _ (and_from _ _ it.4.0 it.4.1) (and_from _ true (and_from _ _ it.5.0 it.5.1) refl)))))

  -- the chain is a system
  pub chain_fits : fits_parts (chain_of places) ≡ true
  chain_fits =
      let sizes = and_parts (counts_fit p) _ (at_places (λ n. counts_fit (chain_of n) && shapes_fit 0 (each place 0 n)) counted places least most) in
      let names = at_places (λ n. names_fit (chain_of n)) named places least most in
      and_from (counts_fit p) _ sizes.0
      (and_from (names_fit p) _ names
      (and_from (shapes_fit 0 p.symbols) _ sizes.1
      (and_from (axioms_fit p) _ refl
      (and_from (inits_fit p) _ starts
      (and_from (actions_fit p p.actions) _ (going 0 (places - 1) (omega arith))
      (and_from (fairs_fit p p.fairs) _ (moving 0 (places - 1) (omega arith))
      (and_from (labels_fit p p.labels) _ sticks
      (and_from (witnesses_fit p 0 p.witnesses) _ refl
      (and_from (property_fits p) _ comes said)))))))))
