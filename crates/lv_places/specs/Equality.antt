-- The equality clauses, in order.
use Rattle.std.specs.Prelude.{ℕ, zero, suc, Bool, true, false, cond, eqb, ◌&&◌, ◌||◌, List, [], ◌∷◌, ◌++◌, length, get_or, slice_set}
use Rattle.std.specs.List.{list_any}
use Rattle.lv_formula.specs.declared.symbols.SortId.{SortId}
use Rattle.lv_formula.specs.declared.symbols.Sym.{Sym}
use Rattle.lv_formula.specs.declared.vocabulary.RelShape.{RelShape}
use Rattle.lv_cnf.specs.Literals.{signed}
use Rattle.lv_places.specs.declared.skolem.Place.{Place}
use Rattle.lv_places.specs.declared.skolem.Skolem.{Skolem}
use Rattle.lv_places.specs.declared.terms.TermId.{TermId}
use Rattle.lv_places.specs.declared.grounded.GroundAtom.{GroundAtom}
use Rattle.lv_places.specs.declared.grounded.GroundAtom.TheVariants.{Relation, Equal}
use Rattle.lv_places.specs.Universes.{argument_sorts, term, tuples, place_id}

pub record GroundLiteral : Type 0 where
  pub positive : Bool
  pub atom : GroundAtom

abbrev pub GroundClause : Type 0
GroundClause = List GroundLiteral

abbrev pub is : GroundAtom → GroundLiteral
is a = record { positive = true; atom = a }

abbrev pub is_not : GroundAtom → GroundLiteral
is_not a = record { positive = false; atom = a }

abbrev pub ground_true : (GroundAtom → Bool) → GroundClause → Bool
ground_true v c = list_any (λ (l : GroundLiteral). signed l.positive (v l.atom)) c

abbrev pub all_ground_true : (GroundAtom → Bool) → List GroundClause → Bool
all_ground_true v [] = true
all_ground_true v (c ∷ cs) = ground_true v c && all_ground_true v cs

-- what f gives at k to k + n - 1, one after the other
abbrev pub each_of : {A : Type 0} → ℕ → ℕ → (ℕ → List A) → List A
each_of k zero f = []
each_of k (suc n) f = f k ++ each_of (suc k) n f

abbrev pub each_in : {A B : Type 0} → List B → (B → List A) → List A
each_in [] f = []
each_in (x ∷ xs) f = f x ++ each_in xs f

abbrev pub reflexive_clauses : SortId → ℕ → List GroundClause
reflexive_clauses s n = each_of 0 n (λ a. (is (Equal (term s a) (term s a)) ∷ []) ∷ [])

abbrev pub symmetric_clauses : SortId → ℕ → List GroundClause
symmetric_clauses s n = each_of 0 n
    (λ a. each_of 0 n (λ b. cond (eqb a b) [] ((is_not (Equal (term s a) (term s b)) ∷ is (Equal (term s b) (term s a)) ∷ []) ∷ [])))

abbrev pub transitive_clauses : SortId → ℕ → List GroundClause
transitive_clauses s n = each_of 0 n
    (λ a. each_of 0 n (λ b. each_of 0 n
    (λ c. cond (eqb a b || (eqb b c || eqb a c)) []
    ((is_not (Equal (term s a) (term s b)) ∷ is_not (Equal (term s b) (term s c)) ∷ is (Equal (term s a) (term s c)) ∷ []) ∷ []))))

abbrev pub sort_clauses : SortId → ℕ → List GroundClause
sort_clauses s n = reflexive_clauses s n ++ (symmetric_clauses s n ++ transitive_clauses s n)

-- For the argument j, each tuple and each other term there: what f gives for the tuple, its term, the other term
-- and the tuple with it.
abbrev pub replacements_at : (SortId → ℕ) → List SortId → (List TermId → TermId → TermId → List TermId → GroundClause) → ℕ → List GroundClause
replacements_at n ss f j =
    each_in (tuples n ss) (λ ts.
    let s = get_or ss j (record { 0 = 0 }) in
    let a = get_or ts j (term (record { 0 = 0 }) 0) in
    each_of 0 (n s) (λ i. cond (eqb a.place i) [] (f ts a (term s i) (slice_set ts j (term s i)) ∷ [])))

abbrev pub replacements : (SortId → ℕ) → List SortId → (List TermId → TermId → TermId → List TermId → GroundClause) → List GroundClause
replacements n ss f = each_of 0 (length ss) (replacements_at n ss f)

abbrev pub relation_change : Sym → List TermId → TermId → TermId → List TermId → GroundClause
relation_change r ts a b us = is_not (Equal a b) ∷ is_not (Relation r ts) ∷ is (Relation r us) ∷ []

abbrev pub place_change : Skolem → (SortId → ℕ) → SortId → ℕ → List TermId → TermId → TermId → List TermId → GroundClause
place_change sk n s k ts a b us = is_not (Equal a b) ∷ is (Equal (place_id sk n s k ts) (place_id sk n s k us)) ∷ []

abbrev pub relation_clauses : (SortId → ℕ) → List RelShape → List GroundClause
relation_clauses n [] = []
relation_clauses n (r ∷ rs) = replacements n r.sorts (relation_change r.sym) ++ relation_clauses n rs

abbrev pub place_clauses : Skolem → (SortId → ℕ) → ℕ → List Place → List GroundClause
place_clauses sk n k [] = []
place_clauses sk n k (p ∷ ps) = replacements n (argument_sorts p) (place_change sk n p.sort k) ++ place_clauses sk n (suc k) ps

abbrev pub equality_clauses : Skolem → (SortId → ℕ) → List GroundClause
equality_clauses sk n =
    each_of 0 sk.sorts (λ i. sort_clauses (record { 0 = i }) (n (record { 0 = i }))) ++ (relation_clauses n sk.relations ++ place_clauses sk n 0 sk.places)
