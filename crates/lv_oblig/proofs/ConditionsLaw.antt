-- The conditions of moves and the comparison are true exactly where the definitions say.
use Rattle.std.proofs.Common.{◌≡◌, ℕ, zero, suc, ◌+◌, ◌<◌, Bool, true, false, not, ◌||◌, eqb, cond, List, [], ◌∷◌, length, get_or, reverse, Some, None, refl, sym, ap, ap₂, subst, ◌∙◌, arith}
use Rattle.std.specs.List.{All}
use Rattle.std.proofs.Math.Bool.{and-true, or-false}
use Rattle.std.proofs.lemmas.Bool.{and_from, and_parts, eq-eqb, eqb-true, false_from_ne_true, false≢true, true≢false}
use Rattle.std.proofs.lemmas.List.Elements.{All-head, All-tail}
use Rattle.lv_formula.specs.declared.symbols.SortId.{SortId}
use Rattle.lv_formula.specs.declared.symbols.Sym.{Sym}
use Rattle.lv_formula.specs.declared.symbols.Sym.TheVariants.{Own, Label, Frozen, Saved, Kept, Due, Copy, CopyLabel}
use Rattle.lv_formula.specs.declared.terms.Term.{Term}
use Rattle.lv_formula.specs.declared.terms.Term.TheVariants as term
use Rattle.lv_formula.specs.declared.formula.Formula.{Formula}
use Rattle.lv_formula.specs.declared.formula.Formula.TheVariants.{Same, Not, And, Or, Implies, Iff}
use Rattle.lv_formula.specs.Vocabulary.{relation_in}
use Rattle.lv_formula.proofs.Folds.{fold_at-And, fold_at-Atom, fold_at-Iff, fold_at-Implies, fold_at-Not, fold_at-Or, fold_at-Same}
use Rattle.lv_formula.specs.Meaning.{Meaning, in_range, is_element}
use Rattle.lv_formula.specs.Tuples.{over}
use Rattle.lv_formula.specs.Truth.{all_true_in, iff, truth_in, truth_step, value_of}
use Rattle.lv_system.specs.declared.parts.Shape.{Shape}
use Rattle.lv_system.specs.declared.parts.Shape.TheVariants.{Relation, Constant}
use Rattle.lv_system.specs.declared.parts.Symbol.{Symbol}
use Rattle.lv_system.specs.Step.{no_symbol, symbol_at}
use Rattle.lv_system.specs.Vocabularies.{constant_sort, relation_sorts}
use Rattle.lv_labels.specs.Problem.{Problem, justice_at, label_at, no_condition}
use Rattle.lv_labels.specs.Closing.{numbered}
use Rattle.lv_labels.proofs.OverTuples.{all_numbered-each, all_numbered-from, all_true-append, closed-each, closed-from}
use Rattle.lv_tableau.proofs.SentencesLaw.{iff-from, iff-same}
use Rattle.lv_footprint.specs.Gathered.{gathered}
use Rattle.lv_labels.specs.declared.moves.Move.{Move}
use Rattle.lv_labels.specs.declared.moves.Move.TheVariants.{Stay, Freeze, Save}
use Rattle.lv_monitor.specs.Conditions.{all_none_due, compare_of, kept_term, label_alike, looks_alike, mark_set, move_condition_of, none_due_of, shape_alike, stays_alike, symbol_alike}
use Rattle.lv_labels.specs.Monitor.{LooksSaved, MayMove, NoneDue, is_kept, shown}
use Rattle.lv_monitor.specs.Updates.{at_places, itself}
use Rattle.lv_labels.specs.Vocabularies.{catch_vocabulary}
use Rattle.lv_temporal.proofs.Differ.{AreSortsThere}
use Rattle.lv_temporal.proofs.Found.{due-catch, kept-catch}
use Rattle.lv_monitor.proofs.TupleLaw.{itself_true, places_true}

-- ---- tests

not_holds : (b : Bool) → not b ≡ true → b ≡ false
not_holds true h = absurd (false≢true h)
not_holds false h = refl

not_true : (b : Bool) → b ≡ false → not b ≡ true
not_true true h = absurd (true≢false h)
not_true false h = refl

implied : (a b : Bool) → (not a || b) ≡ true → a ≡ true → b ≡ true
implied true b h k = h
implied false b h k = absurd (false≢true k)

implies : (a b : Bool) → (a ≡ true → b ≡ true) → (not a || b) ≡ true
implies true b h = h refl
implies false b h = refl

-- ---- gathered lists

module _ {X : Type 0} (d : X) (f : ℕ → X → List Formula) (m : Meaning) (env : List ℕ) where
  each_gathered : (n : ℕ) (xs : List X) → all_true_in m (gathered f n xs) env ≡ true → (i : ℕ) → i < length xs → all_true_in m (f (n + i) (get_or xs i d)) env ≡ true
  each_gathered n [] h i l = absurd (omega (arith, l))
  each_gathered n (x ∷ xs) h i l = go (and_parts (all_true_in m (f n x) env) (all_true_in m (gathered f (suc n) xs) env) (sym (all_true-append m (f n x) (gathered f (suc n) xs) env) ∙ h)) i l (each_gathered (suc n) xs)
    where
      go : ((all_true_in m (f n x) env ≡ true) × (all_true_in m (gathered f (suc n) xs) env ≡ true)) → (i : ℕ) → i < length (x ∷ xs)
          → (all_true_in m (gathered f (suc n) xs) env ≡ true → (i : ℕ) → i < length xs → all_true_in m (f (suc n + i) (get_or xs i d)) env ≡ true)
          → all_true_in m (f (n + i) (get_or (x ∷ xs) i d)) env ≡ true
      go both zero l rest = let here : n ≡ n + 0 = omega arith in subst (λ k. all_true_in m (f k x) env ≡ true) here both.0
      go both (suc i) l rest = let there : suc n + i ≡ n + suc i = omega arith in subst (λ k. all_true_in m (f k (get_or xs i d)) env ≡ true) there (rest both.1 i (omega (arith, l)))

  from_gathered : (n : ℕ) (xs : List X) → ((i : ℕ) → i < length xs → all_true_in m (f (n + i) (get_or xs i d)) env ≡ true) → all_true_in m (gathered f n xs) env ≡ true
  from_gathered n [] h = refl
  from_gathered n (x ∷ xs) h = all_true-append m (f n x) (gathered f (suc n) xs) env ∙ and_from (all_true_in m (f n x) env) (all_true_in m (gathered f (suc n) xs) env)
      (let here : n + 0 ≡ n = omega arith in subst (λ k. all_true_in m (f k x) env ≡ true) here (h 0 (omega arith)))
      (from_gathered (suc n) xs (λ i l. let there : n + suc i ≡ suc n + i = omega arith in subst (λ k. all_true_in m (f k (get_or xs i d)) env ≡ true) there (h (suc i) (omega (arith, l)))))

  pub all_gathered-each : (xs : List X) → all_true_in m (gathered f 0 xs) env ≡ true → (i : ℕ) → i < length xs → all_true_in m (f i (get_or xs i d)) env ≡ true
  all_gathered-each xs h i l = let z : 0 + i ≡ i = omega arith in subst (λ k. all_true_in m (f k (get_or xs i d)) env ≡ true) z (each_gathered 0 xs h i l)

  pub all_gathered-from : (xs : List X) → ((i : ℕ) → i < length xs → all_true_in m (f i (get_or xs i d)) env ≡ true) → all_true_in m (gathered f 0 xs) env ≡ true
  all_gathered-from xs h = from_gathered 0 xs (λ i l. let z : i ≡ 0 + i = omega arith in subst (λ k. all_true_in m (f k (get_or xs i d)) env ≡ true) z (h i l))

-- ---- a constant and its copy

shown_each : (set : ℕ → Bool) (x y : ℕ) → ((set x || set y) ≡ true → x ≡ y) → shown set x ≡ shown set y
shown_each set x y h = by (set x) refl (set y) refl
  where
    by : (a : Bool) → set x ≡ a → (b : Bool) → set y ≡ b → cond (set x) (Some x) None ≡ cond (set y) (Some y) None
    by true e b f = ap (λ v. cond (set v) (Some v) None) (h (ap (λ c. c || set y) e))
    by false e true f = ap (λ v. cond (set v) (Some v) None) (h (ap₂ (λ c d. c || d) e f))
    by false e false f = ap (λ c. cond c (Some x) None) e ∙ ap (λ c. cond c (Some y) None) (sym f)

shown_from : (set : ℕ → Bool) (x y : ℕ) → shown set x ≡ shown set y → (set x || set y) ≡ true → x ≡ y
shown_from set x y h = by (set x) (set y) h
  where
    by : (a b : Bool) → cond a (Some x) None ≡ cond b (Some y) None → (a || b) ≡ true → x ≡ y
    by true true e k = cc
    by true false e k = cc
    by false true e k = cc
    by false false e k = absurd (false≢true k)

module _ (q : Problem) (m : Meaning)
    (tight : (r : Sym) (sorts : List SortId) → relation_in (catch_vocabulary q).relations r ≡ Some sorts → (tuple : List ℕ) → m.holds r tuple ≡ true → in_range m sorts tuple ≡ true) where
  -- ---- what is due

  none_says : (j : ℕ) (sorts : List SortId) (tuple : List ℕ) → in_range m sorts tuple ≡ true → truth_in m (Not (itself (Due j) sorts)) (reverse tuple) ≡ not (m.holds (Due j) tuple)
  none_says j sorts tuple inside = fold_at-Not Bool (List ℕ) (truth_step m) (itself (Due j) sorts) (reverse tuple) ∙ ap not (itself_true m (Due j) sorts tuple inside)

  pub none_due-each : all_true_in m (all_none_due q.justice) [] ≡ true → NoneDue q m
  none_due-each h j l tuple = false_from_ne_true (m.holds (Due j) tuple) (λ due.
      let inside : in_range m (justice_at q j).sorts tuple ≡ true = tight (Due j) (justice_at q j).sorts (due-catch q j l) tuple due in
      let no : not (m.holds (Due j) tuple) ≡ true = sym (none_says j (justice_at q j).sorts tuple inside)
      ∙ closed-each m (Not (itself (Due j) (justice_at q j).sorts)) (justice_at q j).sorts (all_numbered-each no_condition none_due_of m [] q.justice h j l) tuple inside in
      true≢false (sym due ∙ not_holds (m.holds (Due j) tuple) no))

  pub none_due-from : NoneDue q m → all_true_in m (all_none_due q.justice) [] ≡ true
  none_due-from h = all_numbered-from no_condition none_due_of m [] q.justice (λ j l. closed-from m (Not (itself (Due j) (justice_at q j).sorts)) (justice_at q j).sorts (λ tuple inside.
      none_says j (justice_at q j).sorts tuple inside ∙ not_true (m.holds (Due j) tuple) (h j l tuple)))

  -- ---- the move

  pub mark_true : (s : Sym) → truth_in m (mark_set s) [] ≡ m.holds s []
  mark_true s = fold_at-Atom Bool (List ℕ) (truth_step m) s [] []

  mark_false : (s : Sym) → truth_in m (Not (mark_set s)) [] ≡ not (m.holds s [])
  mark_false s = fold_at-Not Bool (List ℕ) (truth_step m) (mark_set s) [] ∙ ap not (mark_true s)

  -- the condition is true exactly where the move is allowed
  pub may_move-each : (mv : Move) → all_true_in m (move_condition_of q.justice mv) [] ≡ true → MayMove q mv m
  may_move-each Stay h = tt
  may_move-each Freeze h =
      let b = and_parts (truth_in m (Not (mark_set Frozen)) []) _ h in
      let c = and_parts (truth_in m (Not (mark_set Saved)) []) (all_true_in m (all_none_due q.justice) []) b.1 in
      (not_holds _ (sym (mark_false Frozen) ∙ b.0), not_holds _ (sym (mark_false Saved) ∙ c.0), none_due-each c.1)
  may_move-each Save h =
      let b = and_parts (truth_in m (mark_set Frozen) []) _ h in
      let c = and_parts (truth_in m (Not (mark_set Saved)) []) (all_true_in m (all_none_due q.justice) []) b.1 in
      (sym (mark_true Frozen) ∙ b.0, not_holds _ (sym (mark_false Saved) ∙ c.0), none_due-each c.1)

  pub may_move-from : (mv : Move) → MayMove q mv m → all_true_in m (move_condition_of q.justice mv) [] ≡ true
  may_move-from Stay h = refl
  may_move-from Freeze h = and_from (truth_in m (Not (mark_set Frozen)) []) _ (mark_false Frozen ∙ not_true _ h.0)
      (and_from (truth_in m (Not (mark_set Saved)) []) (all_true_in m (all_none_due q.justice) []) (mark_false Saved ∙ not_true _ h.1) (none_due-from h.2))
  may_move-from Save h = and_from (truth_in m (mark_set Frozen) []) _ (mark_true Frozen ∙ h.0)
      (and_from (truth_in m (Not (mark_set Saved)) []) (all_true_in m (all_none_due q.justice) []) (mark_false Saved ∙ not_true _ h.1) (none_due-from h.2))

  -- ---- the comparison

  kept_true : (s : SortId) (t : Term) (env : List ℕ) → truth_in m (kept_term s t) env ≡ is_kept m s (value_of m env t)
  kept_true s t env = fold_at-Atom Bool (List ℕ) (truth_step m) (Kept s) (t ∷ []) env

  alike_says : (s copy : Sym) (sorts : List SortId) (tuple : List ℕ) → in_range m sorts tuple ≡ true
      → truth_in m (Implies (And (at_places kept_term sorts)) (Iff (itself s sorts) (itself copy sorts))) (reverse tuple) ≡ (not (over (is_kept m) sorts tuple) || iff (m.holds s tuple) (m.holds copy tuple))
  alike_says s copy sorts tuple inside = fold_at-Implies Bool (List ℕ) (truth_step m) (And (at_places kept_term sorts)) (Iff (itself s sorts) (itself copy sorts)) (reverse tuple)
      ∙ ap₂ (λ a b. not a || b)
      (fold_at-And Bool (List ℕ) (truth_step m) (at_places kept_term sorts) (reverse tuple) ∙ places_true m kept_term (is_kept m) (λ t u env h. kept_true t u env) sorts tuple inside)
      (fold_at-Iff Bool (List ℕ) (truth_step m) (itself s sorts) (itself copy sorts) (reverse tuple) ∙ ap₂ iff (itself_true m s sorts tuple inside) (itself_true m copy sorts tuple inside))

  abbrev IsThere : SortId → Type 0
  IsThere s = s.0 < length q.parts.sorts

  kept_inside : (sorts : List SortId) → All IsThere sorts → (tuple : List ℕ) → over (is_kept m) sorts tuple ≡ true → in_range m sorts tuple ≡ true
  kept_inside [] there [] h = refl
  kept_inside [] there (x ∷ xs) h = absurd (false≢true h)
  kept_inside (s ∷ ss) there [] h = absurd (false≢true h)
  kept_inside (s ∷ ss) there (x ∷ xs) h =
      let both = and_parts (is_kept m s x) (over (is_kept m) ss xs) h in
      and_from (is_element m s x) (in_range m ss xs)
      (and_parts (is_element m s x) true (tight (Kept s) (s ∷ []) (kept-catch q s (All-head IsThere s ss there)) (x ∷ []) both.0)).0
      (kept_inside ss (All-tail IsThere s ss there) xs both.1)

  alike-each : (s copy : Sym) (sorts : List SortId) → All IsThere sorts → truth_in m (looks_alike s copy sorts) [] ≡ true → (tuple : List ℕ) → over (is_kept m) sorts tuple ≡ true → m.holds s tuple ≡ m.holds copy tuple
  alike-each s copy sorts there h tuple kept =
      let inside : in_range m sorts tuple ≡ true = kept_inside sorts there tuple kept in
      iff-same _ _ (implied _ _ (sym (alike_says s copy sorts tuple inside)
      ∙ closed-each m (Implies (And (at_places kept_term sorts)) (Iff (itself s sorts) (itself copy sorts))) sorts h tuple inside) kept)

  alike-from : (s copy : Sym) (sorts : List SortId) → ((tuple : List ℕ) → over (is_kept m) sorts tuple ≡ true → m.holds s tuple ≡ m.holds copy tuple) → truth_in m (looks_alike s copy sorts) [] ≡ true
  alike-from s copy sorts h = closed-from m (Implies (And (at_places kept_term sorts)) (Iff (itself s sorts) (itself copy sorts))) sorts (λ tuple inside.
      alike_says s copy sorts tuple inside ∙ implies (over (is_kept m) sorts tuple) _ (λ kept. iff-from _ _ (h tuple kept)))

  stays_says : (s copy : Sym) (sort : SortId) → truth_in m (stays_alike s copy sort) [] ≡ (not (is_kept m sort (m.value s) || is_kept m sort (m.value copy)) || eqb (m.value s) (m.value copy))
  stays_says s copy sort = fold_at-Implies Bool (List ℕ) (truth_step m) (Or (kept_term sort (term.Const s) ∷ kept_term sort (term.Const copy) ∷ [])) (Same (term.Const s) (term.Const copy)) []
      ∙ ap₂ (λ a b. not a || b)
      (fold_at-Or Bool (List ℕ) (truth_step m) (kept_term sort (term.Const s) ∷ kept_term sort (term.Const copy) ∷ []) []
      ∙ ap₂ (λ a b. a || b) (kept_true sort (term.Const s) []) (or-false _ ∙ kept_true sort (term.Const copy) []))
      (fold_at-Same Bool (List ℕ) (truth_step m) (term.Const s) (term.Const copy) [])

  stays-each : (s copy : Sym) (sort : SortId) → truth_in m (stays_alike s copy sort) [] ≡ true → shown (is_kept m sort) (m.value s) ≡ shown (is_kept m sort) (m.value copy)
  stays-each s copy sort h = shown_each (is_kept m sort) (m.value s) (m.value copy) (λ k. eqb-true _ _ (implied _ _ (sym (stays_says s copy sort) ∙ h) k))

  stays-from : (s copy : Sym) (sort : SortId) → shown (is_kept m sort) (m.value s) ≡ shown (is_kept m sort) (m.value copy) → truth_in m (stays_alike s copy sort) [] ≡ true
  stays-from s copy sort h = stays_says s copy sort ∙ implies _ _ (λ k. eq-eqb _ _ (shown_from (is_kept m sort) (m.value s) (m.value copy) h k))

  -- of a symbol that changes, its one sentence
  symbol-each : (n : ℕ) (s : Symbol) → s.fixed ≡ false → all_true_in m (symbol_alike n s) [] ≡ true → truth_in m (shape_alike n s.shape) [] ≡ true
  symbol-each n s free h = (and_parts (truth_in m (shape_alike n s.shape) []) true (sym (ap (λ b. all_true_in m (cond b [] (shape_alike n s.shape ∷ [])) []) free) ∙ h)).0

  symbol-from : (n : ℕ) (s : Symbol) → (s.fixed ≡ false → truth_in m (shape_alike n s.shape) [] ≡ true) → all_true_in m (symbol_alike n s) [] ≡ true
  symbol-from n s h = by s.fixed h
    where
      by : (b : Bool) → (b ≡ false → truth_in m (shape_alike n s.shape) [] ≡ true) → all_true_in m (cond b [] (shape_alike n s.shape ∷ [])) [] ≡ true
      by true h = refl
      by false h = and-true _ ∙ h refl

  relation_shape : (n : ℕ) (shape : Shape) (sorts : List SortId) → relation_sorts shape ≡ Some sorts → shape_alike n shape ≡ looks_alike (Own n) (Copy n) sorts
  relation_shape n (Relation ss) sorts is = let same : ss ≡ sorts = cc in ap (looks_alike (Own n) (Copy n)) same
  relation_shape n (Constant s) sorts is = cc

  constant_shape : (n : ℕ) (shape : Shape) (sort : SortId) → constant_sort shape ≡ Some sort → shape_alike n shape ≡ stays_alike (Own n) (Copy n) sort
  constant_shape n (Relation ss) sort is = cc
  constant_shape n (Constant s) sort is = let same : s ≡ sort = cc in ap (stays_alike (Own n) (Copy n)) same

  shape-from : LooksSaved q m → (n : ℕ) → n < length q.parts.symbols → (symbol_at q.parts n).fixed ≡ false → (shape : Shape) → (symbol_at q.parts n).shape ≡ shape → truth_in m (shape_alike n shape) [] ≡ true
  shape-from h n l free (Relation sorts) is = alike-from (Own n) (Copy n) sorts (h.relations n sorts l free (ap relation_sorts is))
  shape-from h n l free (Constant sort) is = stays-from (Own n) (Copy n) sort (h.constants n sort l free (ap constant_sort is))

  module _ (there : AreSortsThere q) where
    -- the comparison is true exactly where the projections to the kept elements are the same
    pub compare-each : all_true_in m (compare_of q) [] ≡ true → LooksSaved q m
    compare-each h =
        let both = and_parts (all_true_in m (gathered symbol_alike 0 q.parts.symbols) []) (all_true_in m (numbered label_alike 0 q.labels) []) (sym (all_true-append m (gathered symbol_alike 0 q.parts.symbols) (numbered label_alike 0 q.labels) []) ∙ h) in
        record {
          relations = λ r sorts l free is tuple kept. alike-each (Own r) (Copy r) sorts (there.relations r sorts l is)
              (subst (λ f. truth_in m f [] ≡ true) (relation_shape r (symbol_at q.parts r).shape sorts is) (symbol-each r (symbol_at q.parts r) free (all_gathered-each no_symbol symbol_alike m [] q.parts.symbols both.0 r l))) tuple kept;
          labels = λ l b tuple kept. alike-each (Label l) (CopyLabel l) (label_at q l).sorts (there.labels l b) (all_numbered-each no_condition label_alike m [] q.labels both.1 l b) tuple kept;
          constants = λ c sort l free is. stays-each (Own c) (Copy c) sort
              (subst (λ f. truth_in m f [] ≡ true) (constant_shape c (symbol_at q.parts c).shape sort is) (symbol-each c (symbol_at q.parts c) free (all_gathered-each no_symbol symbol_alike m [] q.parts.symbols both.0 c l)));
        }

  pub compare-from : LooksSaved q m → all_true_in m (compare_of q) [] ≡ true
  compare-from h = all_true-append m (gathered symbol_alike 0 q.parts.symbols) (numbered label_alike 0 q.labels) [] ∙ and_from _ _
      (all_gathered-from no_symbol symbol_alike m [] q.parts.symbols (λ n l. symbol-from n (symbol_at q.parts n) (λ free. shape-from h n l free (symbol_at q.parts n).shape refl)))
      (all_numbered-from no_condition label_alike m [] q.labels (λ l b. alike-from (Label l) (CopyLabel l) (label_at q l).sorts (h.labels l b)))
