-- How code keeps the structure of classes.
use Rattle.std.specs.Prelude.{◌≡◌, ℕ, zero, suc, ◌+◌, ◌*◌, Bool, false, cond, List, [], ◌∷◌, ◌++◌, length, map, get_or, slice_get, Option, Some, None}
use Rattle.lv_formula.specs.declared.symbols.SortId.{SortId}
use Rattle.lv_formula.specs.declared.symbols.Sym.{Sym}
use Rattle.lv_formula.specs.declared.vocabulary.ConShape.{ConShape}
use Rattle.lv_formula.specs.declared.vocabulary.RelShape.{RelShape}
use Rattle.lv_formula.specs.Meaning.{Meaning}
use Rattle.lv_formula.specs.Symbols.{sym_eq}
use Rattle.lv_places.specs.Universes.{product, constant_number}
use Rattle.lv_model.specs.declared.assigned.Assigned.{Assigned}
use Rattle.lv_model.specs.declared.classes.Classes.{Classes}
use Rattle.lv_model.specs.declared.structure.Element.{Element}
use Rattle.lv_model.specs.declared.structure.Quotient.{Quotient}
use Rattle.lv_model.specs.declared.rows.Row.{Row}
use Rattle.lv_model.specs.declared.truths.Head.TheVariants.{Relation}
use Rattle.lv_model.specs.Classes.{class_of, classes, count_below, equal_in, is_first}
use Rattle.lv_model.specs.Truths.{sort, numbers, truth, AreTruths}

-- what f gives at the first n numbers
abbrev pub list_to : {A : Type 0} → ℕ → (ℕ → A) → List A
list_to zero f = []
list_to (suc n) f = list_to n f ++ f n ∷ []

-- the first terms of the classes, among the first n terms
abbrev pub firsts_to : ℕ → (ℕ → ℕ → Bool) → List ℕ
firsts_to zero eq = []
firsts_to (suc n) eq = firsts_to n eq ++ cond (is_first eq n) (n ∷ []) []

-- for each of the first n terms, how many classes have a first term before it
abbrev pub befores_to : ℕ → (ℕ → ℕ → Bool) → List ℕ
befores_to n eq = list_to n (λ i. count_below i (is_first eq))

abbrev pub numbers_to : ℕ → (ℕ → ℕ → Bool) → List ℕ
numbers_to n eq = list_to n (class_of eq)

-- ---- the classes of a sort

abbrev pub classes_of : Assigned → SortId → Classes
classes_of st s = record {
  numbers = numbers_to (numbers st s) (equal_in (truth st) s);
  firsts = firsts_to (numbers st s) (equal_in (truth st) s);
}

abbrev pub classes_to : Assigned → ℕ → List Classes
classes_to st k = list_to k (λ i. classes_of st (sort i))

abbrev pub no_classes : Classes
no_classes = record { numbers = []; firsts = [] }

abbrev pub classes_in : List Classes → SortId → Classes
classes_in all s = get_or all s.0 no_classes

-- ---- relations

-- where the tuples with an element begin, for each argument and element
abbrev pub offsets_of : (SortId → ℕ) → List Classes → List SortId → List (List ℕ)
offsets_of n all [] = []
offsets_of n all (s ∷ ss) = map (λ place. place * product n ss) (classes_in all s).firsts ∷ offsets_of n all ss

abbrev pub offset : List (List ℕ) → List ℕ → ℕ
offset [] es = 0
offset (o ∷ os) [] = 0
offset (o ∷ os) (e ∷ es) = get_or o e 0 + offset os es

abbrev pub row_holds : Row → List ℕ → Bool
row_holds r es = get_or r.truths (offset r.offsets es) false

abbrev pub rows_hold : List Row → Sym → List ℕ → Bool
rows_hold [] sym es = false
rows_hold (r ∷ rs) sym es = cond (sym_eq r.sym sym) (row_holds r es) (rows_hold rs sym es)

pub record IsRow (st : Assigned) (all : List Classes) (x : RelShape) (r : Row) : Type 0 where
  pub sym : r.sym ≡ x.sym
  pub offsets : r.offsets ≡ offsets_of (numbers st) all x.sorts
  pub truths : AreTruths (numbers st) (truth st) (Relation x.sym) x.sorts r.truths

-- there are rows for the first k relations
pub record AreRows (st : Assigned) (all : List Classes) (k : ℕ) (xs : List RelShape) (rs : List Row) : Type 0 where
  pub len : length rs ≡ k
  pub each : (i : ℕ) (x : RelShape) (r : Row) → slice_get xs i ≡ Some x → slice_get rs i ≡ Some r → IsRow st all x r

-- ---- constants

abbrev pub element_of : Assigned → List Classes → ConShape → Element
element_of st all c = record { sym = c.sym; element = get_or (classes_in all c.sort).numbers (constant_number c.sort st.sk.now.constants c.sym) 0 }

abbrev pub element_in : List Element → Sym → ℕ
element_in [] sym = 0
element_in (e ∷ es) sym = cond (sym_eq e.sym sym) e.element (element_in es sym)

-- ---- the structure

-- as functions
abbrev pub told : Quotient → Meaning
told q = record { size = λ s. get_or q.sizes s.0 1; holds = rows_hold q.rows; value = element_in q.elements }

pub record IsQuotientOf (st : Assigned) (q : Quotient) : Type 0 where
  pub sizes : q.sizes ≡ map (λ (c : Classes). length c.firsts) (classes_to st st.sk.now.sorts)
  pub rows : AreRows st (classes_to st st.sk.now.sorts) (length st.sk.now.relations) st.sk.now.relations q.rows
  pub elements : q.elements ≡ map (element_of st (classes_to st st.sk.now.sorts)) st.sk.now.constants
