-- Clauses one after the other.
use Rattle.std.specs.Result.{OnOk}
use Rattle.std.proofs.lemmas.Bool.{cond-true, cond-false}
use Rattle.std.proofs.Common.{◌≡◌, ℕ, ◌+◌, ◌<◌, Result, Ok, Err, Bool, true, false, cond, List, [], ◌∷◌, ◌++◌, length, take, get_or, sym, ap, ◌∙◌, subst}
use Rattle.lv_cnf.specs.declared.literal.Lit.{Lit}
use Rattle.lv_formula.specs.declared.symbols.SortId.{SortId}
use Rattle.lv_formula.specs.declared.vocabulary.RelShape.{RelShape}
use Rattle.lv_places.specs.declared.skolem.Place.{Place}
use Rattle.lv_places.specs.declared.skolem.Skolem.{Skolem}
use Rattle.lv_places.specs.Universes.{argument_sorts}
use Rattle.lv_places.specs.declared.grounded.GroundAtom.{GroundAtom}
use Rattle.lv_places.specs.Equality.{GroundLiteral, GroundClause, each_of, each_in, replacements, relation_change, place_change, relation_clauses, place_clauses}
use Rattle.lv_places.specs.Grounds.{find_atom, with_atom}
use Rattle.lv_places.proofs.Numbered.{In}
use Rattle.lv_ground.proofs.Listed.{with_atom_has, with_atom_keeps}
use Rattle.lv_ground.specs.declared.setting.Setting.{Setting}
use Rattle.lv_ground.specs.declared.equalities.Equalities.{Equalities}
use Rattle.lv_ground.specs.Growth.{Made}
use Rattle.lv_ground.specs.Marked.{AreMarked}
use Rattle.lv_ground.specs.Making.{Makes}
use Rattle.lv_ground.proofs.Loops.{each_of_last, each_in_last, relation_clauses_last, place_clauses_last}
use Rattle.lv_ground.proofs.Growing.{find_kept, made_none, made_both}

pub makes_none : (st : Setting) (m : Equalities) → AreMarked st m.atoms → Makes st m [] m
makes_none st m h = record { made = made_none m.atoms.list.items m.clauses.items; marked = h }

pub makes_next : (st : Setting) (a b c : Equalities) (cs ds all : List GroundClause) → all ≡ cs ++ ds → Makes st a cs b → Makes st b ds c → Makes st a all c
makes_next st a b c cs ds all e p q = subst (λ l. Makes st a l c) (sym e) (record { made = made_both _ _ cs _ _ ds _ _ p.made q.made; marked = q.marked })

pub makes_same : (st : Setting) (a b : Equalities) (cs all : List GroundClause) → all ≡ cs → Makes st a cs b → Makes st a all b
makes_same st a b cs all e p = subst (λ l. Makes st a l b) (sym e) p

-- clauses that are left out where a test passes
pub makes_skip : (st : Setting) (a : Equalities) (b : Bool) (cs : List GroundClause) → b ≡ true → AreMarked st a.atoms → Makes st a (cond b [] cs) a
makes_skip st a b cs e h = makes_same st a a [] (cond b [] cs) (cond-true b [] cs e) (makes_none st a h)

pub makes_unless : (st : Setting) (a c : Equalities) (b : Bool) (cs : List GroundClause) → b ≡ false → Makes st a cs c → Makes st a (cond b [] cs) c
makes_unless st a c b cs e p = makes_same st a c cs (cond b [] cs) (cond-false b [] cs e) p

-- what a success says
pub on_ok : {A E P Q : Type 0} (r : Result A E) → OnOk r P → (P → Q) → OnOk r Q
on_ok (Ok x) h f = f h
on_ok (Err e) h f = tt

-- a loop that makes what f gives at each number
pub loop_next : (st : Setting) (a b c : Equalities) (i : ℕ) (f : ℕ → List GroundClause) → Makes st a (each_of 0 i f) b → Makes st b (f i) c
    → Makes st a (each_of 0 (i + 1) f) c
loop_next st a b c i f p q = makes_next st a b c (each_of 0 i f) (f i) (each_of 0 (i + 1) f) (each_of_last i f) p q

pub loop_ends : (st : Setting) (a b : Equalities) (i n : ℕ) (f : ℕ → List GroundClause) → Makes st a (each_of 0 i f) b → i ≡ n
    → Makes st a (each_of 0 n f) b
loop_ends st a b i n f p e = subst (λ k. Makes st a (each_of 0 k f) b) e p

-- the same over a list
pub list_next : {B : Type 0} (st : Setting) (a b c : Equalities) (xs : List B) (i : ℕ) (x : B) (f : B → List GroundClause) → i < length xs
    → get_or xs i x ≡ x
    → Makes st a (each_in (take i xs) f) b → Makes st b (f x) c → Makes st a (each_in (take (i + 1) xs) f) c
list_next st a b c xs i x f l e p q =
    makes_next st a b c (each_in (take i xs) f) (f x) (each_in (take (i + 1) xs) f) (each_in_last xs i x f l ∙ ap (λ y. each_in (take i xs) f ++ f y) e) p q

pub relations_next : (st : Setting) (a b c : Equalities) (n : SortId → ℕ) (rs : List RelShape) (i : ℕ) (r : RelShape) → i < length rs → get_or rs i r ≡ r
    → Makes st a (relation_clauses n (take i rs)) b → Makes st b (replacements n r.sorts (relation_change r.sym)) c
    → Makes st a (relation_clauses n (take (i + 1) rs)) c
relations_next st a b c n rs i r l e p q = makes_next st a b c _ _ (relation_clauses n (take (i + 1) rs)) (relation_clauses_last n rs i r l e) p q

pub places_next : (st : Setting) (a b c : Equalities) (sk : Skolem) (n : SortId → ℕ) (ps : List Place) (i : ℕ) (p : Place) → i < length ps
    → get_or ps i p ≡ p
    → Makes st a (place_clauses sk n 0 (take i ps)) b → Makes st b (replacements n (argument_sorts p) (place_change sk n p.sort i)) c
    → Makes st a (place_clauses sk n 0 (take (i + 1) ps)) c
places_next st a b c sk n ps i x l e p q = makes_next st a b c _ _ (place_clauses sk n 0 (take (i + 1) ps)) (place_clauses_last sk n ps i x l e) p q

-- the literal at the number of its atom
abbrev pub at_number : GroundLiteral → ℕ → Lit
at_number l k = record { var = k; positive = l.positive }

pub made_one : (xs : List GroundAtom) (out all : List (List Lit)) (a : GroundLiteral) (x1 : List GroundAtom) (k1 : ℕ)
    → x1 ≡ with_atom xs a.atom → k1 ≡ find_atom x1 a.atom → all ≡ out ++ (at_number a k1 ∷ []) ∷ [] → Made xs out ((a ∷ []) ∷ []) x1 all
made_one xs out all a x1 k1 e1 f1 g = record { atoms = e1; clauses = g ∙ ap (λ k. out ++ (at_number a k ∷ []) ∷ []) f1 }

-- an atom of a list has the same number in a longer one
kept_one : (x0 x1 x2 : List GroundAtom) (a b : GroundAtom) → x1 ≡ with_atom x0 a → x2 ≡ with_atom x1 b → find_atom x1 a ≡ find_atom x2 a
kept_one x0 x1 x2 a b e1 e2 = sym (ap (λ l. find_atom l a) e2 ∙ find_kept (b ∷ []) x1 a (subst (In a) (sym e1) (with_atom_has x0 a)))

kept_two : (x0 x1 x2 x3 : List GroundAtom) (a b c : GroundAtom) → x1 ≡ with_atom x0 a → x2 ≡ with_atom x1 b → x3 ≡ with_atom x2 c
    → find_atom x1 a ≡ find_atom x3 a
kept_two x0 x1 x2 x3 a b c e1 e2 e3 =
    let has : In a x2 = subst (In a) (sym e2) (with_atom_keeps x1 b a (subst (In a) (sym e1) (with_atom_has x0 a))) in
    kept_one x0 x1 x2 a b e1 e2 ∙ sym (ap (λ l. find_atom l a) e3 ∙ find_kept (c ∷ []) x2 a has)

pub made_two : (xs : List GroundAtom) (out all : List (List Lit)) (a b : GroundLiteral) (x1 x2 : List GroundAtom) (k1 k2 : ℕ)
    → x1 ≡ with_atom xs a.atom → x2 ≡ with_atom x1 b.atom → k1 ≡ find_atom x1 a.atom → k2 ≡ find_atom x2 b.atom
    → all ≡ out ++ (at_number a k1 ∷ at_number b k2 ∷ []) ∷ [] → Made xs out ((a ∷ b ∷ []) ∷ []) x2 all
made_two xs out all a b x1 x2 k1 k2 e1 e2 f1 f2 g = record { atoms = e2 ∙ ap (λ l. with_atom l b.atom) e1; clauses = clauses }
  where
    first : k1 ≡ find_atom x2 a.atom
    first = f1 ∙ kept_one xs x1 x2 a.atom b.atom e1 e2

    clauses : all ≡ out ++ (at_number a (find_atom x2 a.atom) ∷ at_number b (find_atom x2 b.atom) ∷ []) ∷ []
    clauses = g ∙ ap (λ k. out ++ (at_number a k ∷ at_number b k2 ∷ []) ∷ []) first
        ∙ ap (λ k. out ++ (at_number a (find_atom x2 a.atom) ∷ at_number b k ∷ []) ∷ []) f2

pub made_three : (xs : List GroundAtom) (out all : List (List Lit)) (a b c : GroundLiteral) (x1 x2 x3 : List GroundAtom) (k1 k2 k3 : ℕ)
    → x1 ≡ with_atom xs a.atom → x2 ≡ with_atom x1 b.atom → x3 ≡ with_atom x2 c.atom
    → k1 ≡ find_atom x1 a.atom → k2 ≡ find_atom x2 b.atom → k3 ≡ find_atom x3 c.atom
    → all ≡ out ++ (at_number a k1 ∷ at_number b k2 ∷ at_number c k3 ∷ []) ∷ [] → Made xs out ((a ∷ b ∷ c ∷ []) ∷ []) x3 all
made_three xs out all a b c x1 x2 x3 k1 k2 k3 e1 e2 e3 f1 f2 f3 g = record {
  atoms = e3 ∙ ap (λ l. with_atom l c.atom)
      (e2 ∙ ap (λ l. with_atom l b.atom) e1);
  clauses = clauses;
}
  where
    first : k1 ≡ find_atom x3 a.atom
    first = f1 ∙ kept_two xs x1 x2 x3 a.atom b.atom c.atom e1 e2 e3

    second : k2 ≡ find_atom x3 b.atom
    second = f2 ∙ kept_one x1 x2 x3 b.atom c.atom e2 e3

    clauses : all ≡ out ++ (at_number a (find_atom x3 a.atom) ∷ at_number b (find_atom x3 b.atom) ∷ at_number c (find_atom x3 c.atom) ∷ []) ∷ []
    clauses =
        g ∙ ap (λ k. out ++ (at_number a k ∷ at_number b k2 ∷ at_number c k3 ∷ []) ∷ []) first
        ∙ ap (λ k. out ++ (at_number a (find_atom x3 a.atom) ∷ at_number b k ∷ at_number c k3 ∷ []) ∷ []) second
        ∙ ap (λ k. out ++ (at_number a (find_atom x3 a.atom) ∷ at_number b (find_atom x3 b.atom) ∷ at_number c k ∷ []) ∷ []) f3
