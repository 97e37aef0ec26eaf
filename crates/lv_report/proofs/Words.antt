-- The symbols of each obligation's vocabulary have words.
use Rattle.std.proofs.Common.{◌≡◌, ℕ, zero, suc, ◌+◌, ◌<◌, ◌≤◌, Bool, true, false, cond, List, [], ◌∷◌, length, map, take, get_or, refl, ap, ◌∙◌, arith}
use Rattle.std.specs.List.{All}
use Rattle.std.proofs.lemmas.List.{length-append, length-map, length-take}
use Rattle.std.proofs.lemmas.List.Elements.{All-append, All-cons, All-nil}
use Rattle.lv_formula.specs.declared.symbols.Sym.{Sym}
use Rattle.lv_formula.specs.declared.symbols.Sym.TheVariants.{Own, Witness, Label, Frozen, Saved, Touched, Kept, Due, Copy, CopyLabel, Next, Param}
use Rattle.lv_formula.proofs.Induction.{Each as Holds}
use Rattle.lv_system.specs.declared.parts.Parts.{Parts}
use Rattle.lv_system.specs.declared.parts.Action.{Action}
use Rattle.lv_system.specs.declared.parts.Symbol.{Symbol}
use Rattle.lv_system.specs.declared.parts.WitnessDecl.{WitnessDecl}
use Rattle.lv_system.specs.Fits.{fits_parts}
use Rattle.lv_system.specs.InvariantWords.{is_changing}
use Rattle.lv_system.specs.Step.{action_at, no_action}
use Rattle.lv_system.specs.Vocabularies.{any_symbol, names_from, witness_names, witness_vocabulary}
use Rattle.lv_system.proofs.FitsFacts.{fitting}
use Rattle.lv_labels.specs.declared.key.Key.{Key}
use Rattle.lv_labels.specs.declared.which.Which.{Which}
use Rattle.lv_labels.specs.declared.which.Which.TheVariants.{Start, Step, Catch}
use Rattle.lv_labels.specs.Labels.{labels_of}
use Rattle.lv_labels.specs.Obligations.{vocabulary_of}
use Rattle.lv_labels.specs.Problem.{Problem, fair_condition, label_condition, label_justices, names_for, problem_of, state_vocabulary}
use Rattle.lv_labels.specs.Vocabularies.{catch_vocabulary, step_vocabulary}
use Rattle.lv_oblig.specs.Numbers.{obligation_at}
use Rattle.lv_grammar.specs.HaveWords.{has_word}
use Rattle.lv_grammar.specs.StructureLaws.{VocabularyHasWords}
use Rattle.lv_grammar.proofs.FittingParts.{IsSmallAction, small}
use Rattle.lv_grammar.proofs.StructureText.{shown_spells}
use Rattle.lv_grammar.proofs.SymbolWords.{HaveNames, copy_has_word, due_has_word, have_names, kept_has_word, label_copy_has_word, label_has_word, next_has_word, own_has_word, param_has_word, touched_has_word, witness_has_word}
use Rattle.lv_report.specs.Spelling.{CountermodelsAreSpelled, ObligationsHaveWords}

-- ---- what holds of all names of a list

names_from-all : (P : Sym → Type 0) (test : Symbol → Bool) (name : ℕ → Sym) (n : ℕ) (ss : List Symbol) → ((i : ℕ) → n ≤ i → i < n + length ss → P (name i)) → All P (names_from test name n ss)
names_from-all P test name n [] h = All-nil P
names_from-all P test name n (s ∷ ss) h = go (test s) (names_from-all P test name (suc n) ss (λ i le lt. h i (omega (arith, le)) (omega (arith, lt))))
  where
    go : (b : Bool) → All P (names_from test name (suc n) ss) → All P (cond b (name n ∷ names_from test name (suc n) ss) (names_from test name (suc n) ss))
    go true rest = All-cons P (name n) (names_from test name (suc n) ss) (h n (omega arith) (omega arith)) rest
    go false rest = rest

names_for-all : {X : Type 0} (P : Sym → Type 0) (name : ℕ → Sym) (n : ℕ) (xs : List X) → ((i : ℕ) → i < n + length xs → P (name i)) → All P (names_for name n xs)
names_for-all P name n [] h = All-nil P
names_for-all P name n (x ∷ xs) h = All-cons P (name n) (names_for name (suc n) xs) (h n (omega arith)) (names_for-all P name (suc n) xs (λ i lt. h i (omega (arith, lt))))

witness_names-all : (P : Sym → Type 0) (n : ℕ) (ws : List WitnessDecl) → ((i : ℕ) → i < n + length ws → P (Witness i)) → All P (witness_names n ws)
witness_names-all P n [] h = All-nil P
witness_names-all P n (w ∷ ws) h = All-cons P (Witness n) (witness_names (suc n) ws) (h n (omega arith)) (witness_names-all P (suc n) ws (λ i lt. h i (omega (arith, lt))))

length-justices : (table : List Key) (l : ℕ) (keys : List Key) → length (label_justices table l keys) ≡ length keys
length-justices table l [] = refl
length-justices table l (k ∷ ks) = ap suc (length-justices table (suc l) ks)

few_params : (p : Parts) (as' : List Action) → Holds (IsSmallAction p) as' → (n : ℕ) → length (get_or as' n no_action).params ≤ 4
few_params p [] h n = omega arith
few_params p (a ∷ as') h zero = h.0.few
few_params p (a ∷ as') h (suc n) = few_params p as' h.1 n

-- ---- the vocabularies

module _ (p : Parts) (fits : fits_parts p ≡ true) (few : length (labels_of p) ≤ 32) where
  abbrev q : Problem
  q = problem_of p

  abbrev HasWord : Sym → Type 0
  HasWord s = has_word p s ≡ true

  n : HaveNames p
  n = have_names p (fitting p fits).names

  long_labels : length q.labels ≡ length (labels_of p)
  long_labels = length-map (labels_of p) (label_condition (labels_of p))

  long_justice : length q.justice ≡ length p.fairs + length (labels_of p)
  long_justice = length-append (map fair_condition p.fairs) (label_justices (labels_of p) 0 (labels_of p))
      ∙ (let a = length-map p.fairs fair_condition in let b = length-justices (labels_of p) 0 (labels_of p) in omega (arith, a, b))

  state_words : All HasWord (state_vocabulary q).order
  state_words = All-append HasWord (witness_vocabulary p (length p.witnesses)).order (names_for Label 0 q.labels)
      (All-append HasWord (names_from any_symbol Own 0 p.symbols) (witness_names 0 (take (length p.witnesses) p.witnesses))
      (names_from-all HasWord any_symbol Own 0 p.symbols (λ i le lt. own_has_word p n i (omega (arith, lt))))
      (witness_names-all HasWord 0 (take (length p.witnesses) p.witnesses) (λ i lt. let long = length-take (length p.witnesses) p.witnesses in witness_has_word p n i (omega (arith, lt, long)))))
      (names_for-all HasWord Label 0 q.labels (λ i lt. label_has_word p n i (omega (arith, lt, long_labels, few))))

  catch_words : All HasWord (catch_vocabulary q).order
  catch_words = All-append HasWord (state_vocabulary q).order _ state_words
      (All-append HasWord (Frozen ∷ Saved ∷ []) _ (All-cons HasWord Frozen (Saved ∷ []) refl (All-cons HasWord Saved [] refl (All-nil HasWord)))
      (All-append HasWord (names_for (λ i. Touched (record { 0 = i })) 0 p.sorts) _ (names_for-all HasWord (λ i. Touched (record { 0 = i })) 0 p.sorts (λ i lt. touched_has_word p n (record { 0 = i }) (omega (arith, lt))))
      (All-append HasWord (names_for (λ i. Kept (record { 0 = i })) 0 p.sorts) _ (names_for-all HasWord (λ i. Kept (record { 0 = i })) 0 p.sorts (λ i lt. kept_has_word p n (record { 0 = i }) (omega (arith, lt))))
      (All-append HasWord (names_for Due 0 q.justice) _ (names_for-all HasWord Due 0 q.justice (λ i lt. let f = (fitting p fits).few.fairs in due_has_word p n i (omega (arith, lt, long_justice, few, f))))
      (All-append HasWord (names_from is_changing Copy 0 p.symbols) _ (names_from-all HasWord is_changing Copy 0 p.symbols (λ i le lt. copy_has_word p n i (omega (arith, lt))))
      (names_for-all HasWord CopyLabel 0 q.labels (λ i lt. label_copy_has_word p n i (omega (arith, lt, long_labels, few)))))))))

  step_words : (k : ℕ) → All HasWord (step_vocabulary q (action_at p k)).order
  step_words k = All-append HasWord (catch_vocabulary q).order _ catch_words
      (All-append HasWord (names_for Param 0 (action_at p k).params) _
      (names_for-all HasWord Param 0 (action_at p k).params (λ i lt. let four = few_params p p.actions (small p fits).actions k in param_has_word p n i (omega (arith, lt, four))))
      (names_for-all HasWord Next 0 q.labels (λ i lt. next_has_word p n i (omega (arith, lt, long_labels, few)))))

  words_of : (which : Which) → VocabularyHasWords p (vocabulary_of q which)
  words_of (Start invariant) = record { symbols = state_words; sorts = refl }
  words_of (Step action mv invariant) = record { symbols = step_words action; sorts = refl }
  words_of Catch = record { symbols = catch_words; sorts = refl }

pub have_words : ObligationsHaveWords
have_words p fits few = words_of p fits few

pub are_spelled : CountermodelsAreSpelled
are_spelled p fits few index w sound vocabulary small_sizes =
    shown_spells p _ w (record { fits = fits; sound = sound; vocabulary = vocabulary; few = small_sizes; words = have_words p fits few (obligation_at p index) })
