-- The formulas of the chain are small, and fit wherever their words are known.
use Rattle.std.proofs.Common.{◌≡◌, ℕ, zero, suc, ◌+◌, ◌*◌, ◌<◌, ◌≤◌, max, Bool, true, cond, List, [], ◌∷◌, length, map, refl, ap₂, ◌∙◌, arith}
use Rattle.std.specs.List.{All}
use Rattle.std.proofs.lemmas.Bool.{and_from, le-leb}
use Rattle.std.proofs.lemmas.List.{length-append}
use Rattle.std.proofs.lemmas.List.Elements.{All-append, All-cons, All-nil, All-tail}
use Rattle.std.proofs.lemmas.List.FromFn.{length-map-range_with_len}
use Rattle.lv_formula.specs.declared.symbols.Sym.{Sym}
use Rattle.lv_formula.specs.declared.symbols.Sym.TheVariants.{Own, Saved, Due, Copy}
use Rattle.lv_formula.specs.declared.formula.Formula.{Formula}
use Rattle.lv_formula.specs.declared.formula.Formula.TheVariants.{Atom, And, Or, Implies}
use Rattle.lv_formula.specs.declared.vocabulary.Vocabulary.{Vocabulary}
use Rattle.lv_formula.specs.Measures.{largest, nodes_of, nodes_step, total}
use Rattle.lv_formula.specs.Vocabulary.{relation_in}
use Rattle.lv_formula.specs.Fits.{all_fit_up_to, are_arguments, fits_up_to}
use Rattle.lv_formula.proofs.Folds.{fold-And, fold-Or, fold-Implies, folds, folds_at}
use Rattle.lv_system.specs.Limits.{iffs_of, iffs_step, is_small, lists_of, lists_step}
use Rattle.lv_chain.specs.declared.formulas.OfPlace.TheVariants.{Away, Waits}
use Rattle.lv_chain.specs.declared.formulas.OfPair.{OfPair}
use Rattle.lv_chain.specs.declared.formulas.OfPair.TheVariants.{NotBoth, Ahead}
use Rattle.lv_chain.specs.Formulas.{each, of_pair, of_pairs, of_place, saved}

-- ---- lists

-- what holds for each number holds of each in the list
pub all_each : {A : Type 0} (P : A → Type 0) (f : ℕ → A) (first count : ℕ) → ((i : ℕ) → first ≤ i → i < first + count → P (f i)) → All P (each f first count)
all_each P f first zero h = All-nil P
all_each P f first (suc count) h = All-cons P (f first) (each f (first + 1) count) (h first (omega arith) (omega arith)) (all_each P f (first + 1) count (λ i le lt. h i (omega (arith, le)) (omega (arith, lt))))

pub all_pairs : (P : Formula → Type 0) (kind : OfPair) (first count : ℕ) → ((i j : ℕ) → first ≤ i → i < j → j < first + count → P (of_pair kind i j)) → All P (of_pairs kind first count)
all_pairs P kind first zero h = All-nil P
all_pairs P kind first (suc count) h = let next : suc first ≡ first + 1 = omega arith in
    All-append P (each (of_pair kind first) (suc first) count) (of_pairs kind (suc first) count)
    (all_each P (of_pair kind first) (suc first) count (λ j le lt. h first j (omega arith) (omega (arith, le)) (omega (arith, lt))))
    (all_pairs P kind (suc first) count (λ i j le less lt. h i j (omega (arith, le)) less (omega (arith, lt))))

-- how many pairs there are of so many places
abbrev pub pair_count : ℕ → ℕ
pair_count zero = 0
pair_count (suc count) = count + pair_count count

pub length-of_pairs : (kind : OfPair) (first count : ℕ) → length (of_pairs kind first count) ≡ pair_count count
length-of_pairs kind first zero = refl
length-of_pairs kind first (suc count) = length-append (each (of_pair kind first) (suc first) count) (of_pairs kind (suc first) count)
    ∙ ap₂ (λ a b. a + b) (length-map-range_with_len (of_pair kind first) (suc first) count) (length-of_pairs kind (suc first) count)

-- ---- limits

pub record Plain (free : Sym → Bool) (voc : Vocabulary) (f : Formula) : Type 0 where
  pub nodes : nodes_of f ≤ 6
  pub iffs : iffs_of f ≡ 0
  pub lists : lists_of f ≤ 3
  pub fits : fits_up_to free voc [] f ≡ true

module _ (free : Sym → Bool) (voc : Vocabulary) where
  -- the relation may be used without arguments
  abbrev pub Known : Sym → Type 0
  Known s = cond (free s) true (are_arguments voc [] [] (relation_in voc.relations s)) ≡ true

  first_so : (f : Formula) (fs : List Formula) → All (Plain free voc) (f ∷ fs) → Plain free voc f
  first_so f fs all = all 0 f (omega arith)

  few_nodes : (fs : List Formula) → All (Plain free voc) fs → total (map nodes_of fs) ≤ 6 * length fs
  few_nodes [] all = omega arith
  few_nodes (f ∷ fs) all = let one = (first_so f fs all).nodes in let rest = few_nodes fs (All-tail (Plain free voc) f fs all) in omega (arith, one, rest)

  no_iffs : (fs : List Formula) → All (Plain free voc) fs → largest (map iffs_of fs) ≡ 0
  no_iffs [] all = refl
  no_iffs (f ∷ fs) all = let one = (first_so f fs all).iffs in let rest = no_iffs fs (All-tail (Plain free voc) f fs all) in omega (arith, one, rest)

  shallow : (fs : List Formula) → All (Plain free voc) fs → largest (map lists_of fs) ≤ 3
  shallow [] all = omega arith
  shallow (f ∷ fs) all = let one = (first_so f fs all).lists in let rest = shallow fs (All-tail (Plain free voc) f fs all) in omega (arith, one, rest)

  all_fit : (fs : List Formula) → All (Plain free voc) fs → all_fit_up_to free voc [] fs ≡ true
  all_fit [] all = refl
  all_fit (f ∷ fs) all = and_from _ _ (first_so f fs all).fits (all_fit fs (All-tail (Plain free voc) f fs all))

  -- what the definitions say of `and` and `or` of at most 120 such formulas
  module _ (fs : List Formula) (all : All (Plain free voc) fs) (few : length fs ≤ 120) where
    sum : total (map nodes_of fs) ≤ 720
    sum = let bound = few_nodes fs all in omega (arith, bound, few)

    pub record Joined (f : Formula) : Type 0 where
      pub nodes : nodes_of f ≤ 721
      pub iffs : iffs_of f ≡ 0
      pub lists : lists_of f ≤ 4
      pub fits : fits_up_to free voc [] f ≡ true

    pub and_joined : Joined (And fs)
    and_joined = record {
      nodes = let is : nodes_of (And fs) ≡ total (map nodes_of fs) + 1 = fold-And ℕ nodes_step fs in let s = sum in omega (arith, is, s);
      iffs = fold-And ℕ iffs_step fs ∙ no_iffs fs all;
      lists = let is : lists_of (And fs) ≡ largest (map lists_of fs) + 1 = fold-And ℕ lists_step fs in let s = shallow fs all in omega (arith, is, s);
      fits = simp folds_at (all_fit fs all);
    }

    pub or_joined : Joined (Or fs)
    or_joined = record {
      nodes = let is : nodes_of (Or fs) ≡ total (map nodes_of fs) + 1 = fold-Or ℕ nodes_step fs in let s = sum in omega (arith, is, s);
      iffs = fold-Or ℕ iffs_step fs ∙ no_iffs fs all;
      lists = let is : lists_of (Or fs) ≡ largest (map lists_of fs) + 1 = fold-Or ℕ lists_step fs in let s = shallow fs all in omega (arith, is, s);
      fits = simp folds_at (all_fit fs all);
    }

    -- behind `saved`
    pub behind_saved : Known Saved → (f : Formula) → Joined f → (depth : ℕ) → 5 ≤ depth → (is_small depth (Implies saved f) ≡ true) × (fits_up_to free voc [] (Implies saved f) ≡ true)
    behind_saved known f it depth deep =
        let one : nodes_of saved ≡ 1 = simp folds refl in
        let nodes : nodes_of (Implies saved f) ≡ nodes_of saved + nodes_of f + 1 = fold-Implies ℕ nodes_step saved f in
        let no : iffs_of saved ≡ 0 = simp folds refl in
        let iffs : iffs_of (Implies saved f) ≡ max (iffs_of saved) (iffs_of f) = fold-Implies ℕ iffs_step saved f in
        let flat : lists_of saved ≡ 0 = simp folds refl in
        let lists : lists_of (Implies saved f) ≡ max (lists_of saved) (lists_of f) + 1 = fold-Implies ℕ lists_step saved f in
        let n = it.nodes in let i = it.iffs in let l = it.lists in (
          and_from _ _ (le-leb (nodes_of (Implies saved f)) 1024 (omega (arith, one, nodes, n)))
              (and_from _ _ (le-leb (iffs_of (Implies saved f)) 2 (omega (arith, no, iffs, i))) (le-leb (lists_of (Implies saved f)) depth (omega (arith, flat, lists, l, deep)))),
          simp folds_at (and_from _ _ known it.fits),
        )

    pub small_joined : (f : Formula) → Joined f → (depth : ℕ) → 5 ≤ depth → is_small depth f ≡ true
    small_joined f it depth deep =
        let n = it.nodes in let i = it.iffs in let l = it.lists in
        and_from _ _ (le-leb (nodes_of f) 1024 (omega (arith, n))) (and_from _ _ (le-leb (iffs_of f) 2 (omega (arith, i))) (le-leb (lists_of f) depth (omega (arith, l, deep))))

  pub small_plain : (f : Formula) → Plain free voc f → (depth : ℕ) → 5 ≤ depth → is_small depth f ≡ true
  small_plain f it depth deep =
      let n = it.nodes in let i = it.iffs in let l = it.lists in
      and_from _ _ (le-leb (nodes_of f) 1024 (omega (arith, n))) (and_from _ _ (le-leb (iffs_of f) 2 (omega (arith, i))) (le-leb (lists_of f) depth (omega (arith, l, deep))))

  -- ---- of places

  pub plain_word : (s : Sym) → Known s → Plain free voc (Atom s [])
  plain_word s known = record { nodes = simp folds (omega arith); iffs = simp folds refl; lists = simp folds (omega arith); fits = simp folds_at known }

  pub plain_away : (i : ℕ) → Known (Own i) → Plain free voc (of_place Away i)
  plain_away i known = record { nodes = simp folds (omega arith); iffs = simp folds refl; lists = simp folds (omega arith); fits = simp folds_at known }

  pub plain_waits : (i : ℕ) → Known (Own i) → Known (Copy i) → Known Saved → Known (Due i) → Plain free voc (of_place Waits i)
  plain_waits i here there marked due = record {
    nodes = simp folds (omega arith);
    iffs = simp folds refl;
    lists = simp folds (omega arith);
    fits = simp folds_at (and_from _ _ (and_from _ _ marked (and_from _ _ there (and_from _ true here refl))) due);
  }

  pub plain_not_both : (i j : ℕ) → Known (Own i) → Known (Own j) → Plain free voc (of_pair NotBoth i j)
  plain_not_both i j one other = record {
    nodes = simp folds (omega arith);
    iffs = simp folds refl;
    lists = simp folds (omega arith);
    fits = simp folds_at (and_from _ _ one (and_from _ true other refl));
  }

  pub plain_ahead : (i j : ℕ) → Known (Own i) → Known (Copy j) → Known Saved → Plain free voc (of_pair Ahead i j)
  plain_ahead i j here there marked = record {
    nodes = simp folds (omega arith);
    iffs = simp folds refl;
    lists = simp folds (omega arith);
    fits = simp folds_at (and_from _ _ (and_from _ _ marked (and_from _ true there refl)) here);
  }
