-- Classes of equal terms, numbered by their first terms, and the structure of classes.
use Rattle.std.specs.Prelude.{ℕ, zero, suc, Bool, false, cond, eqb, ◌&&◌, List, [], ◌∷◌, Option, Some, None}
use Rattle.lv_formula.specs.declared.symbols.SortId.{SortId}
use Rattle.lv_formula.specs.declared.symbols.Sym.{Sym}
use Rattle.lv_formula.specs.Vocabulary.{relation_in, constant_in}
use Rattle.lv_formula.specs.Meaning.{Meaning}
use Rattle.lv_places.specs.declared.skolem.Skolem.{Skolem}
use Rattle.lv_places.specs.declared.terms.TermId.{TermId}
use Rattle.lv_places.specs.declared.grounded.GroundAtom.{GroundAtom}
use Rattle.lv_places.specs.declared.grounded.GroundAtom.TheVariants.{Relation, Equal}
use Rattle.lv_places.specs.Least.{least_below}
use Rattle.lv_places.specs.Universes.{term, constant_id}
use Rattle.lv_places.specs.Sizes.{at_least_one}

-- how many numbers below n pass
abbrev pub count_below : ℕ → (ℕ → Bool) → ℕ
count_below zero p = 0
count_below (suc n) p = cond (p n) (suc (count_below n p)) (count_below n p)

-- the first number that is equal to i
abbrev pub first_like : (ℕ → ℕ → Bool) → ℕ → ℕ
first_like eq i = least_below (suc i) (λ j. eq j i)

abbrev pub is_first : (ℕ → ℕ → Bool) → ℕ → Bool
is_first eq j = eqb (first_like eq j) j

-- the number of the class of i
abbrev pub class_of : (ℕ → ℕ → Bool) → ℕ → ℕ
class_of eq i = count_below (first_like eq i) (is_first eq)

abbrev pub classes : (ℕ → ℕ → Bool) → ℕ → ℕ
classes eq n = count_below n (is_first eq)

-- the first member of a class
abbrev pub member_of : (ℕ → ℕ → Bool) → ℕ → ℕ → ℕ
member_of eq n e = least_below n (λ i. is_first eq i && eqb (count_below i (is_first eq)) e)

-- equality of a sort's terms, by their places
abbrev pub equal_in : (GroundAtom → Bool) → SortId → ℕ → ℕ → Bool
equal_in v s i j = v (Equal (term s i) (term s j))

abbrev pub first_terms : (SortId → ℕ) → (GroundAtom → Bool) → List SortId → List ℕ → List TermId
first_terms n v [] es = []
first_terms n v (s ∷ ss) [] = []
first_terms n v (s ∷ ss) (e ∷ es) = term s (member_of (equal_in v s) (n s) e) ∷ first_terms n v ss es

abbrev pub term_class : (GroundAtom → Bool) → TermId → ℕ
term_class v t = class_of (equal_in v t.sort) t.place

-- a relation that does not occur is empty
abbrev pub class_holds : (SortId → ℕ) → (GroundAtom → Bool) → Sym → Option (List SortId) → List ℕ → Bool
class_holds n v r None es = false
class_holds n v r (Some ss) es = v (Relation r (first_terms n v ss es))

-- a constant that does not occur is element 0
abbrev pub class_value : (GroundAtom → Bool) → TermId → Option SortId → ℕ
class_value v t None = 0
class_value v t (Some s) = term_class v t

-- the structure of classes, where v says which ground atoms are true
abbrev pub class_structure : Skolem → (SortId → ℕ) → (GroundAtom → Bool) → Meaning
class_structure sk n v = record {
  size = λ s. at_least_one (classes (equal_in v s) (n s));
  holds = λ r es. class_holds n v r (relation_in sk.relations r) es;
  value = λ c. class_value v (constant_id sk c) (constant_in sk.constants c);
}
