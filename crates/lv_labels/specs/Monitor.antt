-- The monitored structure: what it is at first, its moves, a step of it, and when it is caught.
use Rattle.std.specs.Prelude.{◌≡◌, ℕ, suc, ◌<◌, Bool, true, false, not, ◌&&◌, ◌||◌, eqb, cond, List, [], ◌∷◌, length, reverse, Option, Some, None}
use Rattle.lv_formula.specs.declared.symbols.SortId.{SortId}
use Rattle.lv_formula.specs.declared.symbols.Sym.{Sym}
use Rattle.lv_formula.specs.declared.symbols.Sym.TheVariants.{Own, Witness, Label, Frozen, Saved, Touched, Kept, Due, Copy, CopyLabel, Next, Param}
use Rattle.lv_formula.specs.Meaning.{Meaning, is_element}
use Rattle.lv_formula.specs.Tuples.{over}
use Rattle.lv_formula.specs.Truth.{truth_in, any_below}
use Rattle.lv_system.specs.declared.parts.Action.{Action}
use Rattle.lv_system.specs.Step.{set_holds, set_value, symbol_at}
use Rattle.lv_system.specs.Vocabularies.{constant_sort, relation_sorts}
use Rattle.lv_labels.specs.Problem.{Problem, justice_at, label_at}
use Rattle.lv_labels.specs.Runs.{is_constant, is_denoted, is_finite, is_passed}
use Rattle.lv_labels.specs.declared.moves.Move.{Move}
use Rattle.lv_labels.specs.declared.moves.Move.TheVariants.{Stay, Freeze, Save}

-- a set of elements as a relation with one argument
abbrev pub single : (ℕ → Bool) → List ℕ → Bool
single test [] = false
single test (x ∷ []) = test x
single test (x ∷ (y ∷ ys)) = false

abbrev pub is_touched : Meaning → SortId → ℕ → Bool
is_touched m sort x = m.holds (Touched sort) (x ∷ [])

abbrev pub is_kept : Meaning → SortId → ℕ → Bool
is_kept m sort x = m.holds (Kept sort) (x ∷ [])

-- ---- opening

-- of a finite sort all elements are touched at first, of another those that constants and witnesses are
abbrev pub is_touched_first : Problem → Meaning → SortId → ℕ → Bool
is_touched_first q m sort x = cond (is_finite q.parts sort) (is_element m sort x) (is_denoted q m sort x)

abbrev pub opening_holds : Problem → Meaning → Sym → List ℕ → Bool
opening_holds q m (Own r) tuple = m.holds (Own r) tuple
opening_holds q m (Label l) tuple = m.holds (Label l) tuple
opening_holds q m (Touched sort) tuple = single (is_touched_first q m sort) tuple
opening_holds q m (Due j) tuple = over (is_touched_first q m) (justice_at q j).sorts tuple
opening_holds q m (Copy r) tuple = m.holds (Own r) tuple
opening_holds q m (CopyLabel l) tuple = m.holds (Label l) tuple
opening_holds q m sym tuple = false

abbrev pub opening_value : Meaning → Sym → ℕ
opening_value m (Own c) = m.value (Own c)
opening_value m (Witness k) = m.value (Witness k)
opening_value m (Copy c) = m.value (Own c)
opening_value m sym = 0

-- neither mark is set, nothing is kept, all tuples over the touched elements are due, and each copy is its original
abbrev pub opening : Problem → Meaning → Meaning
opening q m = record { size = m.size; holds = opening_holds q m; value = opening_value m }

-- ---- moves

abbrev pub is_freeze : Move → Bool
is_freeze Stay = false
is_freeze Freeze = true
is_freeze Save = false

abbrev pub is_save : Move → Bool
is_save Stay = false
is_save Freeze = false
is_save Save = true

-- nothing is due of any justice condition
abbrev pub NoneDue : Problem → Meaning → Type 0
NoneDue q m = (j : ℕ) → j < length q.justice → (tuple : List ℕ) → m.holds (Due j) tuple ≡ false

-- the monitor may always stay; it may freeze where neither mark is set and nothing is due, and save where it has
-- frozen, hasn't saved, and nothing is due
abbrev pub MayMove : Problem → Move → Meaning → Type 0
MayMove q Stay m = Unit {0}
MayMove q Freeze m = (m.holds Frozen [] ≡ false) × (m.holds Saved [] ≡ false) × NoneDue q m
MayMove q Save m = (m.holds Frozen [] ≡ true) × (m.holds Saved [] ≡ false) × NoneDue q m

-- ---- a step: the move, then the due sets lose what is met, then the action and the labels, then touched grows

abbrev pub params_in : Meaning → ℕ → List SortId → List ℕ
params_in m k [] = []
params_in m k (s ∷ ss) = m.value (Param k) ∷ params_in m (suc k) ss

-- the elements with which the action is taken
abbrev pub elements_in : Meaning → Action → List ℕ
elements_in m a = params_in m 0 a.params

-- what is due after the move: a freeze or save makes all tuples over the touched elements due
abbrev pub is_due_then : Problem → Move → Meaning → ℕ → List ℕ → Bool
is_due_then q mv m j tuple = cond (is_freeze mv || is_save mv) (over (is_touched m) (justice_at q j).sorts tuple) (m.holds (Due j) tuple)

-- some changing constant of the sort is the element after the action
abbrev pub is_new_value : Problem → Action → Meaning → SortId → ℕ → Bool
is_new_value q a m sort x = any_below (length q.parts.symbols) (λ c. (not (symbol_at q.parts c).fixed && is_constant (symbol_at q.parts c) sort) && eqb (set_value (elements_in m a) m a.updates c) x)

-- the element becomes touched: it is a parameter, or the new value of a changing constant
abbrev pub is_gained : Problem → Action → Meaning → SortId → ℕ → Bool
is_gained q a m sort x = is_passed a.params (elements_in m a) sort x || is_new_value q a m sort x

abbrev pub stepped_holds : Problem → Move → Action → Meaning → Sym → List ℕ → Bool
stepped_holds q mv a m (Own r) tuple = set_holds q.parts (elements_in m a) m a.updates r tuple
stepped_holds q mv a m (Label l) tuple = m.holds (Next l) tuple
stepped_holds q mv a m Frozen tuple = is_freeze mv || m.holds Frozen tuple
stepped_holds q mv a m Saved tuple = is_save mv || m.holds Saved tuple
stepped_holds q mv a m (Touched sort) tuple = single (λ x. is_gained q a m sort x || is_touched m sort x) tuple
stepped_holds q mv a m (Kept sort) tuple = cond (is_freeze mv) (m.holds (Touched sort) tuple) (m.holds (Kept sort) tuple)
stepped_holds q mv a m (Due j) tuple = is_due_then q mv m j tuple && not (truth_in m (justice_at q j).body (reverse tuple))
stepped_holds q mv a m (Copy r) tuple = cond (is_save mv) (m.holds (Own r) tuple) (m.holds (Copy r) tuple)
stepped_holds q mv a m (CopyLabel l) tuple = cond (is_save mv) (m.holds (Label l) tuple) (m.holds (CopyLabel l) tuple)
stepped_holds q mv a m sym tuple = false

abbrev pub stepped_value : Move → Action → Meaning → Sym → ℕ
stepped_value mv a m (Own c) = set_value (elements_in m a) m a.updates c
stepped_value mv a m (Witness k) = m.value (Witness k)
stepped_value mv a m (Copy c) = cond (is_save mv) (m.value (Own c)) (m.value (Copy c))
stepped_value mv a m sym = 0

abbrev pub stepped : Problem → Move → Action → Meaning → Meaning
stepped q mv a m = record { size = m.size; holds = stepped_holds q mv a m; value = stepped_value mv a m }

-- ---- caught

-- what a projection to the set shows of a constant: its element if that is in the set, else that it is outside
abbrev pub shown : (ℕ → Bool) → ℕ → Option ℕ
shown set x = cond (set x) (Some x) None

-- on the kept elements each changing symbol and each label is as its copy
pub record LooksSaved (q : Problem) (m : Meaning) : Type 0 where
  pub relations : (r : ℕ) (sorts : List SortId) → r < length q.parts.symbols → (symbol_at q.parts r).fixed ≡ false → relation_sorts (symbol_at q.parts r).shape ≡ Some sorts
      → (tuple : List ℕ) → over (is_kept m) sorts tuple ≡ true → m.holds (Own r) tuple ≡ m.holds (Copy r) tuple
  pub labels : (l : ℕ) → l < length q.labels → (tuple : List ℕ) → over (is_kept m) (label_at q l).sorts tuple ≡ true → m.holds (Label l) tuple ≡ m.holds (CopyLabel l) tuple
  pub constants : (c : ℕ) (sort : SortId) → c < length q.parts.symbols → (symbol_at q.parts c).fixed ≡ false → constant_sort (symbol_at q.parts c).shape ≡ Some sort
      → shown (is_kept m sort) (m.value (Own c)) ≡ shown (is_kept m sort) (m.value (Copy c))

-- the state was saved, nothing is due, and on the kept elements the state is the saved one
pub record IsCaught (q : Problem) (m : Meaning) : Type 0 where
  pub saved : m.holds Saved [] ≡ true
  pub none_due : NoneDue q m
  pub returned : LooksSaved q m
