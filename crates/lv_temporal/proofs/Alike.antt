-- Structures that agree on a vocabulary agree after the opening and after a step.
use Rattle.std.proofs.Common.{◌≡◌, ℕ, ◌<◌, Bool, true, false, ◌&&◌, ◌||◌, eqb, ltb, cond, List, [], ◌∷◌, length, Option, Some, None, refl, sym, ap, ap₂, subst, ◌∙◌, arith}
use Rattle.std.specs.List.{All}
use Rattle.std.proofs.lemmas.Bool.{and_from, and_parts}
use Rattle.std.proofs.lemmas.List.Elements.{All-head, All-tail}
use Rattle.lv_formula.specs.declared.symbols.SortId.{SortId}
use Rattle.lv_formula.specs.declared.symbols.Sym.{Sym}
use Rattle.lv_formula.specs.declared.symbols.Sym.TheVariants.{Own, Witness, Label, Frozen, Saved, Touched, Kept, Due, Copy, CopyLabel, Next, Param}
use Rattle.lv_formula.specs.declared.formula.Formula.{Formula}
use Rattle.lv_formula.specs.declared.vocabulary.Vocabulary.{Vocabulary}
use Rattle.lv_formula.specs.Fits.{fits_in}
use Rattle.lv_formula.specs.Meaning.{AgreeOn, IsStructureOf, Meaning, in_range, is_element}
use Rattle.lv_formula.specs.Tuples.{over}
use Rattle.lv_struct.proofs.Tabulate.{over_same}
use Rattle.lv_formula.specs.Truth.{truth_in}
use Rattle.lv_formula.proofs.AgreeLaw.{same_sort, truth_agrees}
use Rattle.lv_system.specs.Step.{symbol_at}
use Rattle.lv_system.specs.Vocabularies.{constant_sort, relation_sorts}
use Rattle.lv_labels.specs.Runs.{is_constant, is_denoted, is_finite}
use Rattle.lv_labels.specs.Monitor.{is_touched_first, opening, opening_holds, opening_value, single}
use Rattle.lv_labels.specs.Vocabularies.{catch_vocabulary}
use Rattle.lv_temporal.proofs.Differ.{AreSortsThere}
use Rattle.lv_temporal.proofs.Found.{IsConstantWord, IsRelationWord, catch-constant_found, catch-found, label-state, own-constant_state, own-state, witness-state}
use Rattle.lv_labels.specs.Problem.{Problem, choice_at, justice_at, label_at, state_vocabulary}
use Rattle.lv_formula.proofs.Below.{any_below_same}
use Rattle.lv_temporal.proofs.Fits.{Extends}

-- ---- tuples in range

-- sets that are the same on the elements of the sorts have the same tuples in range
pub over_agrees : (m : Meaning) (n : ℕ) (f g : SortId → ℕ → Bool) → ((s : SortId) (x : ℕ) → s.0 < n → is_element m s x ≡ true → f s x ≡ g s x)
    → (sorts : List SortId) → All (λ s. s.0 < n) sorts → (tuple : List ℕ) → in_range m sorts tuple ≡ true → over f sorts tuple ≡ over g sorts tuple
over_agrees m n f g h [] there [] inside = refl
over_agrees m n f g h [] there (x ∷ xs) inside = refl
over_agrees m n f g h (s ∷ ss) there [] inside = refl
over_agrees m n f g h (s ∷ ss) there (x ∷ xs) inside =
    let both = and_parts (is_element m s x) (in_range m ss xs) inside in
    ap₂ (λ a b. a && b) (h s x (All-head (λ s. s.0 < n) s ss there) both.0) (over_agrees m n f g h ss (All-tail (λ s. s.0 < n) s ss there) xs both.1)

-- ---- tests

pub cond_same : {X : Type 0} (b : Bool) (x y u v : X) → (b ≡ true → x ≡ y) → u ≡ v → cond b x u ≡ cond b y v
cond_same true x y u v h k = h refl
cond_same false x y u v h k = k

pub cond_also : {X : Type 0} (b : Bool) (x y u v : X) → x ≡ y → u ≡ v → cond b x u ≡ cond b y v
cond_also b x y u v h k = ap₂ (λ s t. cond b s t) h k

pub and_same : (b c d : Bool) → (b ≡ true → c ≡ d) → (b && c) ≡ (b && d)
and_same true c d h = h refl
and_same false c d h = refl

pub some_same : {X : Type 0} (o : Option X) (x y : X) → o ≡ Some x → o ≡ Some y → x ≡ y
some_same None x y h k = cc
some_same (Some z) x y h k = let a : z ≡ x = cc in let b : z ≡ y = cc in sym a ∙ b

pub single_agrees : (m : Meaning) (s : SortId) (f g : ℕ → Bool) (tuple : List ℕ) → in_range m (s ∷ []) tuple ≡ true → ((x : ℕ) → is_element m s x ≡ true → f x ≡ g x) → single f tuple ≡ single g tuple
single_agrees m s f g [] inside h = refl
single_agrees m s f g (x ∷ []) inside h = h x (and_parts (is_element m s x) true inside).0
single_agrees m s f g (x ∷ (y ∷ ys)) inside h = refl

pub single_range : (m : Meaning) (s : SortId) (x : ℕ) → is_element m s x ≡ true → in_range m (s ∷ []) (x ∷ []) ≡ true
single_range m s x h = and_from (is_element m s x) true h refl

-- ---- what two structures say that agree on a vocabulary which has the states' symbols

module _ (q : Problem) (there : AreSortsThere q) (choices : length q.choices ≡ length q.parts.witnesses)
    (m n : Meaning) (voc : Vocabulary) (extends : Extends (state_vocabulary q) voc) (sound : IsStructureOf voc m) (agrees : AgreeOn voc m n) where
  abbrev IsThere : SortId → Type 0
  IsThere s = s.0 < length q.parts.sorts

  state_sound : IsStructureOf (state_vocabulary q) m
  state_sound = record { sizes = sound.sizes; constants = λ c s h. sound.constants c s (extends.constants c s h) }

  state_agrees : AgreeOn (state_vocabulary q) m n
  state_agrees = record {
    sizes = λ s l. agrees.sizes s (subst (λ k. s.0 < k) extends.sorts l);
    relations = λ r ss h. agrees.relations r ss (extends.relations r ss h);
    constants = λ c s h. agrees.constants c s (extends.constants c s h);
  }

  pub size_same : (s : SortId) → IsThere s → m.size s ≡ n.size s
  size_same s l = state_agrees.sizes s l

  pub range_same : (sorts : List SortId) → All IsThere sorts → (tuple : List ℕ) → in_range m sorts tuple ≡ in_range n sorts tuple
  range_same sorts inside tuple = over_same m.size n.size (length q.parts.sorts) size_same sorts inside tuple

  pub state_truth : (f : Formula) (context : List SortId) (env : List ℕ) → fits_in (state_vocabulary q) context f ≡ true → in_range m context env ≡ true → truth_in m f env ≡ truth_in n f env
  state_truth = truth_agrees (state_vocabulary q) m n state_sound state_agrees

  own_relation : (r : ℕ) (sorts : List SortId) → r < length q.parts.symbols → relation_sorts (symbol_at q.parts r).shape ≡ Some sorts → (tuple : List ℕ) → in_range m sorts tuple ≡ true → m.holds (Own r) tuple ≡ n.holds (Own r) tuple
  own_relation r sorts l is tuple inside = state_agrees.relations (Own r) sorts (own-state q r sorts l is) tuple inside

  pub own_constant : (c : ℕ) (s : SortId) → c < length q.parts.symbols → constant_sort (symbol_at q.parts c).shape ≡ Some s → m.value (Own c) ≡ n.value (Own c)
  own_constant c s l is = state_agrees.constants (Own c) s (own-constant_state q c s l is)

  own_constant_inside : (c : ℕ) (s : SortId) → c < length q.parts.symbols → constant_sort (symbol_at q.parts c).shape ≡ Some s → m.value (Own c) < m.size s
  own_constant_inside c s l is = state_sound.constants (Own c) s (own-constant_state q c s l is)

  pub witness_value : (k : ℕ) → k < length q.parts.witnesses → m.value (Witness k) ≡ n.value (Witness k)
  witness_value k l = state_agrees.constants (Witness k) _ (witness-state q k l)

  label_agrees : (l : ℕ) → l < length q.labels → (tuple : List ℕ) → in_range m (label_at q l).sorts tuple ≡ true → m.holds (Label l) tuple ≡ n.holds (Label l) tuple
  label_agrees l b tuple inside = state_agrees.relations (Label l) (label_at q l).sorts (label-state q l b) tuple inside

  -- ---- which elements are denoted

  denoted_constant : (c : ℕ) → c < length q.parts.symbols → (s : SortId) (x : ℕ) → (is_constant (symbol_at q.parts c) s && eqb (m.value (Own c)) x) ≡ (is_constant (symbol_at q.parts c) s && eqb (n.value (Own c)) x)
  denoted_constant c l s x = and_same (is_constant (symbol_at q.parts c) s) _ _ (λ h. ap (λ v. eqb v x) (own_constant c s l (same_sort (constant_sort (symbol_at q.parts c).shape) s h)))

  denoted_witness : (k : ℕ) → k < length q.choices → (s : SortId) (x : ℕ) → (eqb (choice_at q k).sort.0 s.0 && eqb (m.value (Witness k)) x) ≡ (eqb (choice_at q k).sort.0 s.0 && eqb (n.value (Witness k)) x)
  denoted_witness k l s x = ap (λ v. eqb (choice_at q k).sort.0 s.0 && eqb v x) (witness_value k (subst (λ j. k < j) choices l))

  denoted_same : (s : SortId) (x : ℕ) → is_denoted q m s x ≡ is_denoted q n s x
  denoted_same s x = ap₂ (λ a b. a || b)
      (any_below_same (length q.parts.symbols) _ _ (λ c l. denoted_constant c l s x))
      (any_below_same (length q.choices) _ _ (λ k l. denoted_witness k l s x))

  touched_first_same : (s : SortId) → IsThere s → (x : ℕ) → is_touched_first q m s x ≡ is_touched_first q n s x
  touched_first_same s l x = cond_also (is_finite q.parts s) _ _ _ _ (ap (λ k. ltb x k) (size_same s l)) (denoted_same s x)

  -- ---- after the opening

  opening_relation : (r : Sym) (sorts : List SortId) → IsRelationWord q r sorts → (tuple : List ℕ) → in_range m sorts tuple ≡ true → opening_holds q m r tuple ≡ opening_holds q n r tuple
  opening_relation (Own r) sorts w tuple inside = own_relation r sorts w.0 w.1 tuple inside
  opening_relation (Label l) sorts w tuple inside = label_agrees l w.0 tuple (subst (λ ss. in_range m ss tuple ≡ true) (sym w.1) inside)
  opening_relation (Touched s) sorts w tuple inside = single_agrees m s _ _ tuple (subst (λ ss. in_range m ss tuple ≡ true) (sym w.1) inside) (λ x e. touched_first_same s w.0 x)
  opening_relation (Due j) sorts w tuple inside = over_agrees m (length q.parts.sorts) (is_touched_first q m) (is_touched_first q n) (λ s x l e. touched_first_same s l x) (justice_at q j).sorts (there.justice j w.0) tuple
      (subst (λ ss. in_range m ss tuple ≡ true) (sym w.1) inside)
  opening_relation (Copy r) sorts w tuple inside = own_relation r sorts w.0 w.2 tuple inside
  opening_relation (CopyLabel l) sorts w tuple inside = label_agrees l w.0 tuple (subst (λ ss. in_range m ss tuple ≡ true) (sym w.1) inside)
  opening_relation (Witness k) sorts w tuple inside = refl
  opening_relation Frozen sorts w tuple inside = refl
  opening_relation Saved sorts w tuple inside = refl
  opening_relation (Kept s) sorts w tuple inside = refl
  opening_relation (Next l) sorts w tuple inside = refl
  opening_relation (Param k) sorts w tuple inside = refl

  opening_constant : (c : Sym) (s : SortId) → IsConstantWord q [] c s → opening_value m c ≡ opening_value n c
  opening_constant (Own c) s w = own_constant c s w.0 w.1
  opening_constant (Witness k) s w = witness_value k w.0
  opening_constant (Copy c) s w = own_constant c s w.0 w.2
  opening_constant (Label l) s w = refl
  opening_constant Frozen s w = refl
  opening_constant Saved s w = refl
  opening_constant (Touched t) s w = refl
  opening_constant (Kept t) s w = refl
  opening_constant (Due j) s w = refl
  opening_constant (CopyLabel l) s w = refl
  opening_constant (Next l) s w = refl
  opening_constant (Param k) s w = refl

  opening_inside : (c : Sym) (s : SortId) → IsConstantWord q [] c s → opening_value m c < m.size s
  opening_inside (Own c) s w = own_constant_inside c s w.0 w.1
  opening_inside (Witness k) s w = state_sound.constants (Witness k) s (witness-state q k w.0 ∙ ap Some w.1)
  opening_inside (Copy c) s w = own_constant_inside c s w.0 w.2
  opening_inside (Param k) s w = absurd (omega (arith, w.0))
  opening_inside _ s w = absurd w

  pub opening_agrees : AgreeOn (catch_vocabulary q) (opening q m) (opening q n)
  opening_agrees = record {
    sizes = size_same;
    relations = λ r ss h. opening_relation r ss (catch-found q r ss h);
    constants = λ c s h. opening_constant c s (catch-constant_found q c s h);
  }

  pub opening_sound : IsStructureOf (catch_vocabulary q) (opening q m)
  opening_sound = record { sizes = sound.sizes; constants = λ c s h. opening_inside c s (catch-constant_found q c s h) }
