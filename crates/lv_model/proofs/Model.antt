-- The structure of classes is a quotient.
use Rattle.std.proofs.Common.{◌≡◌, ℕ, zero, suc, ◌<◌, ◌≤◌, Bool, true, false, List, [], ◌∷◌, ◌++◌, map, Some, refl, sym, ap, ◌∙◌, subst, eqb, append_assoc, arith}
use Rattle.std.proofs.lemmas.Bool.{eq-eqb}
use Rattle.lv_formula.specs.declared.symbols.SortId.{SortId}
use Rattle.lv_formula.specs.declared.symbols.Sym.{Sym}
use Rattle.lv_formula.specs.Vocabulary.{relation_in}
use Rattle.lv_places.specs.declared.skolem.Skolem.{Skolem}
use Rattle.lv_places.specs.declared.terms.TermId.{TermId}
use Rattle.lv_places.specs.declared.grounded.GroundAtom.{GroundAtom}
use Rattle.lv_places.specs.declared.grounded.GroundAtom.TheVariants.{Relation, Equal}
use Rattle.lv_places.specs.Universes.{term, constant_id}
use Rattle.lv_places.specs.Sizes.{at_least_one}
use Rattle.lv_places.specs.GroundForms.{naming_of}
use Rattle.lv_skolem.proofs.Sorted.{vocabulary_of}
use Rattle.lv_places.proofs.Universes.{IsTerm, AreTerms}
use Rattle.lv_model.specs.Classes.{class_of, classes, member_of, equal_in, first_terms, term_class, class_holds, class_value, class_structure}
use Rattle.lv_model.proofs.Quotient.{IsEquivalence, class_below, class_tells, member_is}
use Rattle.lv_model.proofs.Fall.{IsQuotient}

-- relations hold at equal terms alike
abbrev pub Respects : (SortId → ℕ) → (GroundAtom → Bool) → List SortId → Sym → Type 0
Respects n v ss r = (pre post : List TermId) (a b : TermId) → AreTerms n ss (pre ++ a ∷ post) → AreTerms n ss (pre ++ b ∷ post) → v (Equal a b) ≡ true
    → v (Relation r (pre ++ a ∷ post)) ≡ true → v (Relation r (pre ++ b ∷ post)) ≡ true

abbrev pub AllEqual : (GroundAtom → Bool) → List TermId → List TermId → Type 0
AllEqual v [] [] = Unit {0}
AllEqual v [] (b ∷ bs) = ⊥
AllEqual v (a ∷ as') [] = ⊥
AllEqual v (a ∷ as') (b ∷ bs) = (v (Equal a b) ≡ true) × AllEqual v as' bs

are_mixed : (n : SortId → ℕ) (ss : List SortId) (pre : List TermId) (a b : TermId) (xs ys : List TermId) → AreTerms n ss (pre ++ a ∷ xs)
    → AreTerms n ss (pre ++ b ∷ ys) → AreTerms n ss (pre ++ b ∷ xs)
are_mixed n [] [] a b xs ys h k = h
are_mixed n [] (p ∷ pre) a b xs ys h k = h
are_mixed n (s ∷ ss) [] a b xs ys h k = (k.0, h.1)
are_mixed n (s ∷ ss) (p ∷ pre) a b xs ys h k = (h.0, are_mixed n ss pre a b xs ys h.1 k.1)

changed : (n : SortId → ℕ) (v : GroundAtom → Bool) (ss : List SortId) (r : Sym) → Respects n v ss r → (xs ys pre : List TermId) → AllEqual v xs ys
    → AreTerms n ss (pre ++ xs) → AreTerms n ss (pre ++ ys) → v (Relation r (pre ++ xs)) ≡ true → v (Relation r (pre ++ ys)) ≡ true
changed n v ss r resp [] [] pre eqs hx hy t = t
changed n v ss r resp [] (y ∷ ys) pre eqs hx hy t = absurd eqs
changed n v ss r resp (x ∷ xs) [] pre eqs hx hy t = absurd eqs
changed n v ss r resp (x ∷ xs) (y ∷ ys) pre eqs hx hy t =
    let mid = are_mixed n ss pre x y xs ys hx hy in
    let one = resp pre xs x y hx mid eqs.0 t in
    let e1 : pre ++ y ∷ xs ≡ (pre ++ (y ∷ [])) ++ xs = sym (append_assoc pre (y ∷ []) xs) in
    let e2 : pre ++ y ∷ ys ≡ (pre ++ (y ∷ [])) ++ ys = sym (append_assoc pre (y ∷ []) ys) in
    let all = changed n v ss r resp xs ys (pre ++ (y ∷ [])) eqs.1 (subst (AreTerms n ss) e1 mid) (subst (AreTerms n ss) e2 hy)
    (subst (λ l. v (Relation r l) ≡ true) e1 one) in
    subst (λ l. v (Relation r l) ≡ true) (sym e2) all

same_bool : (a b : Bool) → (a ≡ true → b ≡ true) → (b ≡ true → a ≡ true) → a ≡ b
same_bool true b f g = sym (f refl)
same_bool false true f g = g refl
same_bool false false f g = refl

-- a term of a sort, by its number
as_numbered : (n : SortId → ℕ) (P : TermId → Type 0) (s : SortId) (t : TermId) → IsTerm n s t → ((i : ℕ) → i < n s → P (term s (i))) → P t
as_numbered n P s t is h = subst P (ap (λ z. term z t.place) (sym is.sort_is)) (h t.place is.within)

module _ (sk : Skolem) (n : SortId → ℕ) (v : GroundAtom → Bool) (eqv : (s : SortId) → IsEquivalence (equal_in v s) (n s)) where
  pub first_term_is : (s : SortId) (e : ℕ) → e < classes (equal_in v s) (n s) → IsTerm n s (term s (member_of (equal_in v s) (n s) e))
  first_term_is s e l = record { sort_is = refl; within = (member_is (equal_in v s) (n s) (eqv s) e l).0 }

  class_within : (s : SortId) (t : TermId) → IsTerm n s t → term_class v t < classes (equal_in v s) (n s)
  class_within s t is = as_numbered n (λ t. term_class v t < classes (equal_in v s) (n s)) s t is (λ i l. class_below (equal_in v s) (n s) (eqv s) i l)

  equal_to_first : (s : SortId) (t : TermId) → IsTerm n s t → v (Equal t (term s (member_of (equal_in v s) (n s) (term_class v t)))) ≡ true
  equal_to_first s t is = as_numbered n (λ t. v (Equal t (term s (member_of (equal_in v s) (n s) (term_class v t)))) ≡ true) s t is (λ i l.
      let eq = equal_in v s in
      let c = class_below eq (n s) (eqv s) i l in
      let f = member_is eq (n s) (eqv s) (class_of eq i) c in
      sym (class_tells eq (n s) (eqv s) i _ l f.0) ∙ eq-eqb _ _ (sym f.1))

  first_equal_to : (s : SortId) (t : TermId) → IsTerm n s t → v (Equal (term s (member_of (equal_in v s) (n s) (term_class v t))) t) ≡ true
  first_equal_to s t is = as_numbered n (λ t. v (Equal (term s (member_of (equal_in v s) (n s) (term_class v t))) t) ≡ true) s t is (λ i l.
      let eq = equal_in v s in
      let c = class_below eq (n s) (eqv s) i l in
      let f = member_is eq (n s) (eqv s) (class_of eq i) c in
      (eqv s).symmetric i _ l f.0 (sym (class_tells eq (n s) (eqv s) i _ l f.0) ∙ eq-eqb _ _ (sym f.1)))

  firsts_are : (ss : List SortId) (ts : List TermId) → AreTerms n ss ts → AreTerms n ss (first_terms n v ss (map (term_class v) ts))
  firsts_are [] [] h = tt
  firsts_are [] (t ∷ ts) h = absurd h
  firsts_are (s ∷ ss) [] h = absurd h
  firsts_are (s ∷ ss) (t ∷ ts) h = (first_term_is s _ (class_within s t h.0), firsts_are ss ts h.1)

  to_firsts : (ss : List SortId) (ts : List TermId) → AreTerms n ss ts → AllEqual v ts (first_terms n v ss (map (term_class v) ts))
  to_firsts [] [] h = tt
  to_firsts [] (t ∷ ts) h = absurd h
  to_firsts (s ∷ ss) [] h = absurd h
  to_firsts (s ∷ ss) (t ∷ ts) h = (equal_to_first s t h.0, to_firsts ss ts h.1)

  from_firsts : (ss : List SortId) (ts : List TermId) → AreTerms n ss ts → AllEqual v (first_terms n v ss (map (term_class v) ts)) ts
  from_firsts [] [] h = tt
  from_firsts [] (t ∷ ts) h = absurd h
  from_firsts (s ∷ ss) [] h = absurd h
  from_firsts (s ∷ ss) (t ∷ ts) h = (first_equal_to s t h.0, from_firsts ss ts h.1)

  equal_alike : (s : SortId) (a b : TermId) → IsTerm n s a → IsTerm n s b → eqb (term_class v a) (term_class v b) ≡ v (Equal a b)
  equal_alike s a b ia ib =
      as_numbered n (λ a. eqb (term_class v a) (term_class v b) ≡ v (Equal a b)) s a ia (λ i li.
      as_numbered n (λ b. eqb (class_of (equal_in v s) i) (term_class v b) ≡ v (Equal (term s (i)) b)) s b ib (λ j lj.
      class_tells (equal_in v s) (n s) (eqv s) i j li lj))

  relation_alike : (r : Sym) (ss : List SortId) → relation_in sk.relations r ≡ Some ss → Respects n v ss r → (ts : List TermId) → AreTerms n ss ts
      → (class_structure sk n v).holds r (map (term_class v) ts) ≡ v (Relation r ts)
  relation_alike r ss here resp ts are =
      let fs = first_terms n v ss (map (term_class v) ts) in
      let fare = firsts_are ss ts are in
      ap (λ o. class_holds n v r o (map (term_class v) ts)) here ∙ same_bool _ _
      (λ h. changed n v ss r resp fs ts [] (from_firsts ss ts are) fare are h)
      (λ h. changed n v ss r resp ts fs [] (to_firsts ss ts are) are fare h)

  at_least : (k : ℕ) → k ≤ at_least_one k
  at_least zero = omega arith
  at_least (suc k) = omega arith

  pub no_more : (k : ℕ) → 0 < k → at_least_one k ≡ k
  no_more zero l = absurd (omega arith)
  no_more (suc k) l = refl

  pub class_structure_is : ((s : SortId) → s.0 < sk.sorts → 0 < n s) → ((r : Sym) (ss : List SortId) → relation_in sk.relations r ≡ Some ss
      → Respects n v ss r) → IsQuotient (class_structure sk n v) (vocabulary_of sk) (naming_of sk n) v (term_class v)
  class_structure_is some resp = record {
    onto = λ s r e l.
        let p = class_below (equal_in v s) (n s) (eqv s) 0 (some s r) in
        let l' : e < classes (equal_in v s) (n s) = omega (arith, l, no_more (classes (equal_in v s) (n s)) (omega (arith, p))) in
        let f = member_is (equal_in v s) (n s) (eqv s) e l' in (member_of (equal_in v s) (n s) e, f.0, f.1);
    within = λ s t is. let p = class_within s t is in omega (arith, p, at_least (classes (equal_in v s) (n s)));
    constant = λ c s q. ap (class_value v (constant_id sk c)) q;
    equal = equal_alike;
    relation = λ r ss ts here are. relation_alike r ss here (resp r ss here) ts are;
  }
