-- The formulas of parts that fit can be written.
use Rattle.std.proofs.Common.{◌≡◌, ℕ, suc, ◌+◌, ◌<◌, ◌≤◌, Bool, true, false, leb, List, [], ◌∷◌, ◌++◌, length, take, Option, None, Some, refl, sym, ◌∙◌, arith}
use Rattle.std.specs.List.{list_all}
use Rattle.std.proofs.lemmas.List.{length-take}
use Rattle.std.proofs.lemmas.List.Folds.{list_all-append}
use Rattle.std.proofs.lemmas.Bool.{and_parts, and_from, leb-true}
use Rattle.lv_formula.specs.declared.symbols.SortId.{SortId}
use Rattle.lv_formula.specs.declared.symbols.Sym.{Sym}
use Rattle.lv_formula.specs.declared.symbols.Sym.TheVariants.{Own, Witness, Label, Touched, Kept, Due, Copy, CopyLabel}
use Rattle.lv_formula.specs.declared.formula.Formula.{Formula}
use Rattle.lv_formula.specs.declared.vocabulary.RelShape.{RelShape}
use Rattle.lv_formula.specs.declared.vocabulary.ConShape.{ConShape}
use Rattle.lv_formula.specs.declared.vocabulary.Vocabulary.{Vocabulary}
use Rattle.lv_formula.specs.Fits.{fits_in}
use Rattle.lv_system.specs.declared.parts.Parts.{Parts}
use Rattle.lv_system.specs.declared.parts.Sort.{Sort}
use Rattle.lv_system.specs.declared.parts.Symbol.{Symbol}
use Rattle.lv_system.specs.declared.parts.Fair.{Fair}
use Rattle.lv_system.specs.declared.parts.WitnessDecl.{WitnessDecl}
use Rattle.lv_system.specs.declared.parts.Invariant.{Invariant}
use Rattle.lv_system.specs.Vocabularies.{relation_sorts, constant_sort, relation_if, constant_if, relations_from, constants_from, witnesses_from, any_symbol, is_fixed, fixed_vocabulary, own_vocabulary, witness_vocabulary}
use Rattle.lv_system.specs.InvariantWords.{is_changing, sets_from, dues_from, marks, invariant_relations, invariant_constants, invariant_vocabulary}
use Rattle.lv_system.specs.Fits.{fits_parts}
use Rattle.lv_system.proofs.FitsFacts.{tests, fitting}
use Rattle.lv_labels.specs.declared.key.Key.{Key}
use Rattle.lv_labels.specs.Labels.{labels_of}
use Rattle.lv_grammar.specs.Lifted.{lifted}
use Rattle.lv_grammar.specs.LabelLimits.{label_shapes, label_relations, spoken_vocabulary, invariants_fit_in, labels_keep_limits, are_narrow}
use Rattle.lv_grammar.specs.HaveWords.{has_word, has_words, invariants_have_words}
use Rattle.lv_grammar.proofs.Lifting.{fits_lifted}
use Rattle.lv_grammar.proofs.SymbolWords.{HaveNames, have_names, short_sort, short_text, own_has_word, copy_has_word, witness_has_word, touched_has_word, kept_has_word, due_has_word, label_has_word, label_copy_has_word}
use Rattle.lv_grammar.proofs.VocabularyWords.{AreSpoken, fitting_has_words}

module _ (p : Parts) where
  abbrev relations_spoken : List RelShape → Bool
  relations_spoken rs = list_all (λ r. has_word p r.sym) rs

  abbrev constants_spoken : List ConShape → Bool
  constants_spoken cs = list_all (λ c. has_word p c.sym) cs

  -- the symbols with the numbers from k on, as many as the list has items, have words
  abbrev Spoken : {X : Type 0} → (ℕ → Sym) → ℕ → List X → Type 0
  Spoken name k xs = (n : ℕ) → n < k + length xs → has_word p (name n) ≡ true

  later : {X : Type 0} (name : ℕ → Sym) (k : ℕ) (x : X) (xs : List X) → Spoken name k (x ∷ xs) → Spoken name (suc k) xs
  later name k x xs h n lt = h n (omega (arith, lt))

  first : {X : Type 0} (name : ℕ → Sym) (k : ℕ) (x : X) (xs : List X) → Spoken name k (x ∷ xs) → has_word p (name k) ≡ true
  first name k x xs h = h k (omega arith)

  own_relations_spoken : (test : Symbol → Bool) (name : ℕ → Sym) (k : ℕ) (ss : List Symbol) → Spoken name k ss → relations_spoken (relations_from test name k ss) ≡ true
  own_relations_spoken test name k [] h = refl
  own_relations_spoken test name k (s ∷ ss) h =
      go (test s) (relation_sorts s.shape) (name k) (relations_from test name (suc k) ss) (first name k s ss h) (own_relations_spoken test name (suc k) ss (later name k s ss h))
    where
      go : (b : Bool) (o : Option (List SortId)) (n : Sym) (rest : List RelShape) → has_word p n ≡ true → relations_spoken rest ≡ true → relations_spoken (relation_if b n o rest) ≡ true
      go b None n rest w h = h
      go true (Some sorts) n rest w h = and_from (has_word p n) (relations_spoken rest) w h
      go false (Some sorts) n rest w h = h

  own_constants_spoken : (test : Symbol → Bool) (name : ℕ → Sym) (k : ℕ) (ss : List Symbol) → Spoken name k ss → constants_spoken (constants_from test name k ss) ≡ true
  own_constants_spoken test name k [] h = refl
  own_constants_spoken test name k (s ∷ ss) h =
      go (test s) (constant_sort s.shape) (name k) (constants_from test name (suc k) ss) (first name k s ss h) (own_constants_spoken test name (suc k) ss (later name k s ss h))
    where
      go : (b : Bool) (o : Option SortId) (n : Sym) (rest : List ConShape) → has_word p n ≡ true → constants_spoken rest ≡ true → constants_spoken (constant_if b n o rest) ≡ true
      go b None n rest w h = h
      go true (Some sort) n rest w h = and_from (has_word p n) (constants_spoken rest) w h
      go false (Some sort) n rest w h = h

  witnesses_spoken : (k : ℕ) (ws : List WitnessDecl) → Spoken Witness k ws → constants_spoken (witnesses_from k ws) ≡ true
  witnesses_spoken k [] h = refl
  witnesses_spoken k (w ∷ ws) h = and_from (has_word p (Witness k)) (constants_spoken (witnesses_from (suc k) ws)) (first Witness k w ws h) (witnesses_spoken (suc k) ws (later Witness k w ws h))

  sets_spoken : (name : SortId → Sym) (k : ℕ) (ss : List Sort) → Spoken (λ n. name (record { 0 = n })) k ss → relations_spoken (sets_from name k ss) ≡ true
  sets_spoken name k [] h = refl
  sets_spoken name k (s ∷ ss) h =
      and_from (has_word p (name (record { 0 = k }))) (relations_spoken (sets_from name (suc k) ss)) (first (λ n. name (record { 0 = n })) k s ss h) (sets_spoken name (suc k) ss (later (λ n. name (record { 0 = n })) k s ss h))

  dues_spoken : (k : ℕ) (cs : List Fair) → Spoken Due k cs → relations_spoken (dues_from k cs) ≡ true
  dues_spoken k [] h = refl
  dues_spoken k (c ∷ cs) h = and_from (has_word p (Due k)) (relations_spoken (dues_from (suc k) cs)) (first Due k c cs h) (dues_spoken (suc k) cs (later Due k c cs h))

  labels_spoken : (name : ℕ → Sym) (k : ℕ) (ks : List Key) → Spoken name k ks → relations_spoken (label_shapes name k ks) ≡ true
  labels_spoken name k [] h = refl
  labels_spoken name k (x ∷ ks) h = and_from (has_word p (name k)) (relations_spoken (label_shapes name (suc k) ks)) (first name k x ks h) (labels_spoken name (suc k) ks (later name k x ks h))

  relations_both : (xs ys : List RelShape) → relations_spoken xs ≡ true → relations_spoken ys ≡ true → relations_spoken (xs ++ ys) ≡ true
  relations_both xs ys h k = list_all-append (λ r. has_word p r.sym) xs ys ∙ and_from (relations_spoken xs) (relations_spoken ys) h k

  constants_both : (xs ys : List ConShape) → constants_spoken xs ≡ true → constants_spoken ys ≡ true → constants_spoken (xs ++ ys) ≡ true
  constants_both xs ys h k = list_all-append (λ c. has_word p c.sym) xs ys ∙ and_from (constants_spoken xs) (constants_spoken ys) h k

  module _ (n : HaveNames p) where
    owns : Spoken Own 0 p.symbols
    owns i lt = own_has_word p n i (omega (arith, lt))

    copies : Spoken Copy 0 p.symbols
    copies i lt = copy_has_word p n i (omega (arith, lt))

    pub fixed_spoken : AreSpoken p (fixed_vocabulary p)
    fixed_spoken = record {
      relations = own_relations_spoken is_fixed Own 0 p.symbols owns;
      constants = own_constants_spoken is_fixed Own 0 p.symbols owns;
      sorts = λ s lt. short_text (short_sort p n s lt);
    }

    pub own_spoken : AreSpoken p (own_vocabulary p)
    own_spoken = record {
      relations = own_relations_spoken any_symbol Own 0 p.symbols owns;
      constants = own_constants_spoken any_symbol Own 0 p.symbols owns;
      sorts = λ s lt. short_text (short_sort p n s lt);
    }

    pub witness_spoken : (k : ℕ) → AreSpoken p (witness_vocabulary p k)
    witness_spoken k =
        let le = length-take k p.witnesses in
        record {
          relations = own_relations_spoken any_symbol Own 0 p.symbols owns;
          constants = constants_both (constants_from any_symbol Own 0 p.symbols) (witnesses_from 0 (take k p.witnesses)) (own_constants_spoken any_symbol Own 0 p.symbols owns)
              (witnesses_spoken 0 (take k p.witnesses) (λ i lt. witness_has_word p n i (omega (arith, lt, le))));
          sorts = λ s lt. short_text (short_sort p n s lt);
        }

    invariant_relations_spoken : length p.fairs ≤ 16 → relations_spoken (invariant_relations p) ≡ true
    invariant_relations_spoken few =
        let copied = relations_from is_changing Copy 0 p.symbols in
        let due = dues_from 0 p.fairs ++ copied in
        let kept = sets_from Kept 0 p.sorts ++ due in
        let touched = sets_from Touched 0 p.sorts ++ kept in
        let due_spoken = relations_both (dues_from 0 p.fairs) copied (dues_spoken 0 p.fairs (λ i lt. due_has_word p n i (omega (arith, lt, few)))) (own_relations_spoken is_changing Copy 0 p.symbols copies) in
        let kept_spoken = relations_both (sets_from Kept 0 p.sorts) due (sets_spoken Kept 0 p.sorts (λ i lt. kept_has_word p n (record { 0 = i }) (omega (arith, lt)))) due_spoken in
        let touched_spoken = relations_both (sets_from Touched 0 p.sorts) kept (sets_spoken Touched 0 p.sorts (λ i lt. touched_has_word p n (record { 0 = i }) (omega (arith, lt)))) kept_spoken in
        relations_both (relations_from any_symbol Own 0 p.symbols) (marks ++ touched) (own_relations_spoken any_symbol Own 0 p.symbols owns) (relations_both marks touched refl touched_spoken)

    invariant_constants_spoken : constants_spoken (invariant_constants p) ≡ true
    invariant_constants_spoken =
        constants_both (constants_from any_symbol Own 0 p.symbols) _ (own_constants_spoken any_symbol Own 0 p.symbols owns)
        (constants_both (witnesses_from 0 p.witnesses) (constants_from is_changing Copy 0 p.symbols) (witnesses_spoken 0 p.witnesses (λ i lt. witness_has_word p n i (omega (arith, lt))))
        (own_constants_spoken is_changing Copy 0 p.symbols copies))

    -- what invariants may use beside the words of labels
    pub invariant_spoken : length p.fairs ≤ 16 → AreSpoken p (invariant_vocabulary p)
    invariant_spoken few = record { relations = invariant_relations_spoken few; constants = invariant_constants_spoken; sorts = λ s lt. short_text (short_sort p n s lt) }

    label_relations_spoken : length p.fairs ≤ 16 → length (labels_of p) ≤ 32 → relations_spoken (label_relations p) ≡ true
    label_relations_spoken few narrow =
        relations_both (label_shapes Label 0 (labels_of p)) _ (labels_spoken Label 0 (labels_of p) (λ i lt. label_has_word p n i (omega (arith, lt, narrow))))
        (relations_both (label_shapes Due (length p.fairs) (labels_of p)) (label_shapes CopyLabel 0 (labels_of p)) (labels_spoken Due (length p.fairs) (labels_of p) (λ i lt. due_has_word p n i (omega (arith, lt, few, narrow))))
        (labels_spoken CopyLabel 0 (labels_of p) (λ i lt. label_copy_has_word p n i (omega (arith, lt, narrow)))))

    all_spoken : length p.fairs ≤ 16 → length (labels_of p) ≤ 32 → AreSpoken p (spoken_vocabulary p)
    all_spoken few narrow = record {
      relations = relations_both (invariant_relations p) (label_relations p) (invariant_relations_spoken few) (label_relations_spoken few narrow);
      constants = invariant_constants_spoken;
      sorts = λ s lt. short_text (short_sort p n s lt);
    }

-- a formula over symbols with words has words
pub formula_has_words : (p : Parts) (voc : Vocabulary) → AreSpoken p voc → (context : List SortId) (f : Formula) → fits_in voc context f ≡ true → has_words p (lifted f) ≡ true
formula_has_words p voc spoken context f h = fitting_has_words p voc spoken (lifted f) context (sym (fits_lifted voc context f) ∙ h)

invariants_spoken : (p : Parts) (voc : Vocabulary) → AreSpoken p voc → (is' : List Invariant) → invariants_fit_in voc is' ≡ true → invariants_have_words p is' ≡ true
invariants_spoken p voc spoken [] h = refl
invariants_spoken p voc spoken (i ∷ is') h =
    let both = and_parts (fits_in voc [] i.formula) (invariants_fit_in voc is') h in
    and_from (has_words p (lifted i.formula)) (invariants_have_words p is') (formula_has_words p voc spoken [] i.formula both.0) (invariants_spoken p voc spoken is' both.1)

-- where the labels keep their limits, the symbols of invariants have words
pub limits_have_words : (p : Parts) → fits_parts p ≡ true → labels_keep_limits p ≡ true → invariants_have_words p p.invariants ≡ true
limits_have_words p fits h =
    let a = and_parts (leb (length (labels_of p)) 32) _ h in
    let b = and_parts (are_narrow (labels_of p)) _ a.1 in
    let c = and_parts _ _ b.1 in
    let d = and_parts _ (invariants_fit_in (spoken_vocabulary p) p.invariants) c.1 in
    invariants_spoken p (spoken_vocabulary p) (all_spoken p (have_names p (tests p fits).names) (fitting p fits).few.fairs (leb-true (length (labels_of p)) 32 a.0)) p.invariants d.1
