-- The terms of each sort, from how many terms each sort has.
use Rattle.std.specs.Prelude.{◌≡◌, ℕ, zero, suc, ◌+◌, ◌*◌, ◌<◌, cond, eqb, List, [], ◌∷◌, ◌++◌, map, length, take, get_or}
use Rattle.lv_formula.specs.declared.symbols.SortId.{SortId}
use Rattle.lv_formula.specs.declared.symbols.Sym.{Sym}
use Rattle.lv_formula.specs.declared.vocabulary.ConShape.{ConShape}
use Rattle.lv_formula.specs.declared.vocabulary.RelShape.{RelShape}
use Rattle.lv_formula.specs.Symbols.{sym_eq}
use Rattle.lv_places.specs.declared.skolem.Place.{Place}
use Rattle.lv_places.specs.declared.skolem.Skolem.{Skolem}
use Rattle.lv_places.specs.declared.terms.TermId.{TermId}
use Rattle.lv_places.specs.declared.terms.GroundTerm.{GroundTerm}
use Rattle.lv_places.specs.declared.terms.GroundTerm.TheVariants as make

abbrev pub argument_sorts : Place → List SortId
argument_sorts p = map (λ a. a.sort) p.arguments

abbrev pub term : SortId → ℕ → TermId
term s i = record { sort = s; place = i }

-- the tuples that begin with one of the first n terms of a sort, in order
abbrev pub heads : SortId → ℕ → List (List TermId) → List (List TermId)
heads s zero rest = []
heads s (suc n) rest = heads s n rest ++ map (λ ts. term s n ∷ ts) rest

-- all tuples of terms of these sorts, in lexicographic order, where n s is the number of terms of s
abbrev pub tuples : (SortId → ℕ) → List SortId → List (List TermId)
tuples n [] = [] ∷ []
tuples n (s ∷ ss) = heads s (n s) (tuples n ss)

abbrev pub constant_terms : SortId → List ConShape → List GroundTerm
constant_terms s [] = []
constant_terms s (c ∷ cs) = cond (eqb c.sort.0 s.0) (make.Constant c.sym ∷ constant_terms s cs) (constant_terms s cs)

-- those of the places of the sort, the first of which has the number k
abbrev pub place_terms : (SortId → ℕ) → SortId → ℕ → List Place → List GroundTerm
place_terms n s k [] = []
place_terms n s k (p ∷ ps) = cond (eqb p.sort.0 s.0) (map (make.Place k) (tuples n (argument_sorts p))) [] ++ place_terms n s (suc k) ps

abbrev pub or_extra : List GroundTerm → List GroundTerm
or_extra [] = make.Extra ∷ []
or_extra (t ∷ ts) = t ∷ ts

abbrev pub terms_of : List (List GroundTerm) → SortId → List GroundTerm
terms_of u s = get_or u s.0 []

abbrev pub counts : List (List GroundTerm) → SortId → ℕ
counts u s = length (terms_of u s)

-- the terms of a sort, where n counts the terms of the others
abbrev pub terms_with : Skolem → (SortId → ℕ) → SortId → List GroundTerm
terms_with sk n s = or_extra (constant_terms s sk.constants ++ place_terms n s 0 sk.places)

-- the terms of each sort are those of its constants and places
pub record IsUniverse (sk : Skolem) (u : List (List GroundTerm)) : Type 0 where
  pub sorts : length u ≡ sk.sorts
  pub terms : (s : SortId) → s.0 < sk.sorts → terms_of u s ≡ terms_with sk (counts u) s

-- ---- where a term stands in its sort's list

abbrev pub product : (SortId → ℕ) → List SortId → ℕ
product n [] = 1
product n (s ∷ ss) = n s * product n ss

abbrev pub place_count : (SortId → ℕ) → SortId → List Place → ℕ
place_count n s [] = 0
place_count n s (p ∷ ps) = cond (eqb p.sort.0 s.0) (product n (argument_sorts p)) 0 + place_count n s ps

-- the number of a tuple in lexicographic order
abbrev pub tuple_number : (SortId → ℕ) → List TermId → ℕ
tuple_number n [] = 0
tuple_number n (t ∷ ts) = t.place * product n (map (λ t. t.sort) ts) + tuple_number n ts

abbrev pub constant_number : SortId → List ConShape → Sym → ℕ
constant_number s [] c = 0
constant_number s (x ∷ cs) c = cond (sym_eq x.sym c) 0 (cond (eqb x.sort.0 s.0) 1 0 + constant_number s cs c)

-- the sort of a constant; one that is not there has sort 0
abbrev pub constant_sort : List ConShape → Sym → SortId
constant_sort [] c = record { 0 = 0 }
constant_sort (x ∷ cs) c = cond (sym_eq x.sym c) x.sort (constant_sort cs c)

-- the sorts of a relation; one that is not there has none
abbrev pub relation_sorts : List RelShape → Sym → List SortId
relation_sorts [] r = []
relation_sorts (x ∷ xs) r = cond (sym_eq x.sym r) x.sorts (relation_sorts xs r)

-- the term of a constant
abbrev pub constant_id : Skolem → Sym → TermId
constant_id sk c = term (constant_sort sk.constants c) (constant_number (constant_sort sk.constants c) sk.constants c)

-- the term of the place k of this sort at the tuple: it comes after the constants and the terms of the places before
abbrev pub place_id : Skolem → (SortId → ℕ) → SortId → ℕ → List TermId → TermId
place_id sk n s k ts = term s (length (constant_terms s sk.constants) + (place_count n s (take k sk.places) + tuple_number n ts))

-- ---- how code keeps it

-- the number of terms by a list of the sorts' numbers
abbrev pub count_at : List ℕ → SortId → ℕ
count_at ns s = get_or ns s.0 0

-- the terms of the first k sorts
abbrev pub terms_to : Skolem → (SortId → ℕ) → ℕ → List (List GroundTerm)
terms_to sk n zero = []
terms_to sk n (suc k) = terms_to sk n k ++ terms_with sk n (record { 0 = k }) ∷ []
