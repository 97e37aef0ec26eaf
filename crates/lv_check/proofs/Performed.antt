-- The structure that a step makes: what is known of its parts, and of its tables.
use Rattle.std.proofs.Common.{◌≡◌, ℕ, suc, ◌+◌, ◌<◌, Bool, true, false, cond, List, [], ◌∷◌, length, get_or, Some, refl, sym, ap, ap₂, subst, ◌∙◌, arith}
use Rattle.std.proofs.lemmas.Bool.{and_from, lt-ltb}
use Rattle.lv_formula.specs.declared.symbols.SortId.{SortId}
use Rattle.lv_formula.specs.declared.symbols.Sym.{Sym}
use Rattle.lv_formula.specs.declared.symbols.Sym.TheVariants.{Own, Witness, Label, Frozen, Saved, Touched, Kept, Due, Copy, CopyLabel, Next, Param}
use Rattle.lv_formula.specs.Meaning.{IsStructureOf, Meaning, in_range, is_element}
use Rattle.lv_formula.specs.Vocabulary.{constant_in}
use Rattle.lv_struct.specs.Tables.{HasVocabulary, IsSound, Tables, meaning}
use Rattle.lv_struct.specs.Tabulation.{sizes_from, tables_of}
use Rattle.lv_struct.proofs.MeaningLaws.{sort-in_vocabulary, sorts-in_vocabulary, structure_of}
use Rattle.lv_struct.proofs.Tabulate.{agrees-tables_of, vocabulary-tables_of}
use Rattle.lv_system.specs.declared.parts.Action.{Action}
use Rattle.lv_system.specs.declared.parts.Parts.{Parts}
use Rattle.lv_system.specs.Step.{IsPerformed, action_at, performed, set_value}
use Rattle.lv_system.specs.Vocabularies.{own_vocabulary}
use Rattle.lv_exec.specs.Symbols.{HasSymbols, SameSymbols}
use Rattle.lv_labels.specs.declared.moves.Move.{Move}
use Rattle.lv_labels.specs.Monitor.{elements_in, is_save, params_in, stepped, stepped_value}
use Rattle.lv_labels.specs.Problem.{Problem, problem_of, state_vocabulary}
use Rattle.lv_labels.specs.Vocabularies.{catch_vocabulary, step_vocabulary}
use Rattle.lv_temporal.proofs.Extends.{extends_both, state_extends_own, step_extends_state}
use Rattle.lv_temporal.proofs.Fits.{Extends}
use Rattle.lv_temporal.proofs.Found.{IsConstantWord, catch-constant_found, catch-constant_step, own-constant_state, param-step}
use Rattle.lv_temporal.proofs.Words.{no_sort_id}
use Rattle.lv_check.specs.Performing.{IsMonitored}

-- what an action makes is performed
pub performed_so : (p : Parts) (a : Action) (elements : List ℕ) (m next : Meaning) → next ≡ performed p a elements m → IsPerformed p a elements m next
performed_so p a elements m next is = record {
  sizes = λ s. ap (λ n. n.size s) is;
  relations = λ r tuple. ap (λ n. n.holds (Own r) tuple) is;
  constants = λ c. ap (λ n. n.value (Own c)) is;
}

module _ (p : Parts) (k : ℕ) (w : Tables) (has : HasVocabulary (step_vocabulary (problem_of p) (action_at p k)) w) where
  abbrev q : Problem
  q = problem_of p

  abbrev a : Action
  a = action_at p k

  abbrev m : Meaning
  m = meaning w

  extends : Extends (own_vocabulary p) (step_vocabulary q a)
  extends = extends_both (own_vocabulary p) (state_vocabulary q) (step_vocabulary q a) (state_extends_own q) (step_extends_state q a)

  -- the own symbols are there
  pub has_own : HasSymbols (own_vocabulary p) w
  has_own = record {
    count = has.sorts;
    relations = λ r sorts is. sorts-in_vocabulary (step_vocabulary q a) w has r ∙ extends.relations r sorts is;
    constants = λ c sort is. sort-in_vocabulary (step_vocabulary q a) w has c ∙ extends.constants c sort is;
  }

  module _ (sound : IsSound w) where
    is_structure : IsStructureOf (step_vocabulary q a) m
    is_structure = structure_of (step_vocabulary q a) w sound has

    params_inside : (n : ℕ) (ss : List SortId) → ((i : ℕ) → i < length ss → m.value (Param (n + i)) < m.size (get_or ss i no_sort_id)) → in_range m ss (params_in m n ss) ≡ true
    params_inside n [] h = refl
    params_inside n (s ∷ ss) h = and_from (is_element m s (m.value (Param n))) (in_range m ss (params_in m (suc n) ss))
        (let here : n + 0 ≡ n = omega arith in lt-ltb _ _ (subst (λ j. m.value (Param j) < m.size s) here (h 0 (omega arith))))
        (params_inside (suc n) ss (λ i lt. let on : n + suc i ≡ suc n + i = omega arith in subst (λ j. m.value (Param j) < m.size (get_or ss i no_sort_id)) on (h (suc i) (omega (arith, lt)))))

    -- the elements of the step are in their sorts
    pub elements_inside : in_range m a.params (elements_in m a) ≡ true
    elements_inside = params_inside 0 a.params (λ i lt. let z : i ≡ 0 + i = omega arith in subst (λ j. m.value (Param j) < m.size (get_or a.params i no_sort_id)) z (is_structure.constants (Param i) (get_or a.params i no_sort_id) (param-step q a i lt)))

    module _ (acted : Tables) (acted_sound : IsSound acted) (same : SameSymbols w acted) (is_acted : IsPerformed p a (elements_in m a) m (meaning acted)) (mv : Move) where
      acted_has : HasVocabulary (step_vocabulary q a) acted
      acted_has = record { sorts = ap length same.sizes ∙ has.sorts; relations = same.relations ∙ has.relations; constants = same.constants ∙ has.constants }

      before : (c : Sym) (s : SortId) → constant_in (catch_vocabulary q).constants c ≡ Some s → m.value c < m.size s
      before c s is = is_structure.constants c s (catch-constant_step q a c s is)

      own_after : (c : ℕ) (s : SortId) → constant_in (catch_vocabulary q).constants (Own c) ≡ Some s → set_value (elements_in m a) m a.updates c < m.size s
      own_after c s is = subst (λ x. x < m.size s) (is_acted.constants c) (subst (λ n. (meaning acted).value (Own c) < n) (is_acted.sizes s)
          ((structure_of (step_vocabulary q a) acted acted_sound acted_has).constants (Own c) s (catch-constant_step q a (Own c) s is)))

      copy_after : (c : ℕ) (s : SortId) → IsConstantWord q [] (Copy c) s → constant_in (catch_vocabulary q).constants (Copy c) ≡ Some s → cond (is_save mv) (m.value (Own c)) (m.value (Copy c)) < m.size s
      copy_after c s word is = by (is_save mv)
        where
          by : (b : Bool) → cond b (m.value (Own c)) (m.value (Copy c)) < m.size s
          by true = is_structure.constants (Own c) s ((step_extends_state q a).constants (Own c) s (own-constant_state q c s word.0 word.2))
          by false = before (Copy c) s is

      inside : (c : Sym) (s : SortId) → IsConstantWord q [] c s → constant_in (catch_vocabulary q).constants c ≡ Some s → stepped_value mv a m c < m.size s
      inside (Own c) s word is = own_after c s is
      inside (Witness j) s word is = before (Witness j) s is
      inside (Copy c) s word is = copy_after c s word is
      inside (Label l) s word is = absurd word
      inside Frozen s word is = absurd word
      inside Saved s word is = absurd word
      inside (Touched t) s word is = absurd word
      inside (Kept t) s word is = absurd word
      inside (Due j) s word is = absurd word
      inside (CopyLabel l) s word is = absurd word
      inside (Next l) s word is = absurd word
      inside (Param j) s word is = absurd (omega (arith, word.0))

      -- the structure after the step has an element of each sort, and its constants are in range
      pub after_is_structure : IsStructureOf (catch_vocabulary q) (stepped q mv a m)
      after_is_structure = record { sizes = is_structure.sizes; constants = λ c s is. inside c s (catch-constant_found q c s is) is }

  sizes_told : (n : ℕ) (xs : List ℕ) → ((i : ℕ) → i < length xs → m.size (record { 0 = n + i }) ≡ get_or xs i 1) → sizes_from m n (length xs) ≡ xs
  sizes_told n [] h = refl
  sizes_told n (x ∷ xs) h = ap₂ (λ y ys. y ∷ ys)
      (let here : n + 0 ≡ n = omega arith in subst (λ j. m.size (record { 0 = j }) ≡ x) here (h 0 (omega arith)))
      (sizes_told (n + 1) xs (λ i lt. let on : n + suc i ≡ n + 1 + i = omega arith in subst (λ j. m.size (record { 0 = j }) ≡ get_or xs i 1) on (h (suc i) (omega (arith, lt)))))

  same_sizes : (mv : Move) → sizes_from (stepped q mv a m) 0 (length p.sorts) ≡ w.sizes
  same_sizes mv = subst (λ n. sizes_from m 0 n ≡ w.sizes) has.sorts (sizes_told 0 w.sizes (λ i lt. let z : 0 + i ≡ i = omega arith in ap (λ j. get_or w.sizes j 1) z))

  -- the tables of that structure are what the step makes
  pub monitored_is : (mv : Move) (next : Tables) → next ≡ tables_of (catch_vocabulary q) (stepped q mv a m) → IsMonitored p k mv w next
  monitored_is mv next is = subst (IsMonitored p k mv w) (sym is) (record {
    vocabulary = vocabulary-tables_of (catch_vocabulary q) (stepped q mv a m);
    sizes = same_sizes mv;
    agrees = agrees-tables_of (catch_vocabulary q) (stepped q mv a m);
  })
