-- An assignment that satisfies the ground clauses of a pair gives a structure that breaks it.
use Rattle.std.proofs.Common.{◌≡◌, ℕ, zero, suc, ◌<◌, ◌≤◌, Bool, true, false, cond, List, [], ◌∷◌, ◌++◌, length, Some, None, Option, refl, sym, ap, ◌∙◌, subst, arith}
use Rattle.std.proofs.lemmas.Bool.{cases_lt}
use Rattle.std.proofs.lemmas.List.{get_or_past}
use Rattle.lv_formula.specs.declared.symbols.SortId.{SortId}
use Rattle.lv_formula.specs.declared.symbols.Sym.{Sym}
use Rattle.lv_formula.specs.declared.vocabulary.Vocabulary.{Vocabulary}
use Rattle.lv_formula.specs.Vocabulary.{constant_in}
use Rattle.lv_formula.specs.Meaning.{IsStructureOf}
use Rattle.lv_cnf.specs.declared.literal.Lit.{Lit}
use Rattle.lv_cnf.specs.Literals.{Satisfies}
use Rattle.lv_cnf.specs.Nodes.{PlainProps, plains, clauses_of}
use Rattle.lv_places.specs.declared.skolem.Skolem.{Skolem}
use Rattle.lv_places.specs.declared.terms.GroundTerm.{GroundTerm}
use Rattle.lv_places.specs.declared.grounded.Grounded.{Grounded}
use Rattle.lv_places.specs.declared.grounded.GroundAtom.{GroundAtom}
use Rattle.lv_places.specs.Forms.{forms_of}
use Rattle.lv_places.specs.GroundForms.{naming_of, holds_all}
use Rattle.lv_places.specs.Sizes.{at_least_one}
use Rattle.lv_places.specs.Universes.{counts, constant_terms, place_terms, or_extra, constant_id, IsUniverse}
use Rattle.lv_places.specs.Grounds.{find_atom, trees_of, atoms_of, atom_truth, all_numbered, IsGrounded}
use Rattle.lv_places.specs.Equality.{all_ground_true, each_of, sort_clauses, relation_clauses, equality_clauses}
use Rattle.lv_places.proofs.Tests.{either}
use Rattle.lv_skolem.proofs.Sorted.{vocabulary_of}
use Rattle.lv_places.proofs.Universes.{ConstantsAreTerms, constants_are_terms}
use Rattle.lv_places.proofs.Sites.{sites_are_terms}
use Rattle.lv_skolem.proofs.Ranged.{table, is_ranged, sentences_fit, sentences_meet, table_has, places_are, constant_was}
use Rattle.lv_places.proofs.Numbered.{from_assignment}
use Rattle.lv_model.specs.Classes.{count_below, classes, equal_in, term_class, class_value, class_structure}
use Rattle.lv_model.specs.Laws.{AssignmentsGiveStructures}
use Rattle.lv_model.proofs.Quotient.{IsEquivalence}
use Rattle.lv_model.proofs.Model.{class_structure_is}
use Rattle.lv_model.proofs.Fall.{IsQuotient, falls_all}
use Rattle.lv_model.proofs.EqualitiesSay.{is_equivalence, relations_respect, all_both, each_of_at}

equivalences : (sk : Skolem) (u : List (List GroundTerm)) (v : GroundAtom → Bool) → IsUniverse sk u
    → all_ground_true v (equality_clauses sk (counts u)) ≡ true → (s : SortId) → IsEquivalence (equal_in v s) (counts u s)
equivalences sk u v is h s =
    either (cases_lt s.0 sk.sorts)
    (λ l. is_equivalence v s (counts u s) (each_of_at v 0 sk.sorts s.0 (λ i. sort_clauses (record { 0 = i }) (counts u (record { 0 = i })))
    (all_both v (each_of 0 sk.sorts (λ i. sort_clauses (record { 0 = i }) (counts u (record { 0 = i })))) _ h).0 (omega arith) (omega arith)))
    (λ l. let e = get_or_past u s.0 [] (omega (arith, is.sorts)) in
    let z = ap length e in
    record {
      reflexive = λ i li. absurd (omega arith);
      symmetric = λ i j li lj q. absurd (omega arith);
      transitive = λ i j k li lj lk q r. absurd
          (omega arith);
    })

extra_some : (ts : List GroundTerm) → 0 < length (or_extra ts)
extra_some [] = omega arith
extra_some (t ∷ ts) = omega arith

some_element : (k : ℕ) → 0 < at_least_one k
some_element zero = omega arith
some_element (suc k) = omega arith

-- each sort of a universe has a term
pub some_term : (sk : Skolem) (u : List (List GroundTerm)) → IsUniverse sk u → (s : SortId) → s.0 < sk.sorts → 0 < counts u s
some_term sk u is s l =
    let e = ap length (is.terms s l) in
    omega (arith, e, extra_some (constant_terms s sk.constants ++ place_terms (counts u) s 0 sk.places))

structure : (voc : Vocabulary) (sk : Skolem) (n : SortId → ℕ) (v : GroundAtom → Bool)
    → ((c : Sym) (t : SortId) → constant_in sk.constants c ≡ Some t → constant_in voc.constants c ≡ Some t)
    → IsQuotient (class_structure sk n v) (vocabulary_of sk) (naming_of sk n) v (term_class v) → ConstantsAreTerms (naming_of sk n) sk.constants
    → IsStructureOf voc (class_structure sk n v)
structure voc sk n v was quotient terms = record { sizes = λ s. some_element (classes (equal_in v s) (n s)); constants = constants }
  where
    constants : (c : Sym) (t : SortId) → constant_in voc.constants c ≡ Some t → (class_structure sk n v).value c < (class_structure sk n v).size t
    constants c t h = step (constant_in sk.constants c) refl
      where
        step : (o : Option SortId) → constant_in sk.constants c ≡ o → class_value v (constant_id sk c) (constant_in sk.constants c) <
            (class_structure sk n v).size t
        step None e = subst (λ o. class_value v (constant_id sk c) o < (class_structure sk n v).size t) (sym e)
            (some_element (classes (equal_in v t) (n t)))
        step (Some r) e =
            let w : Some r ≡ Some t = sym (was c r e) ∙ h in
            let is : r ≡ t = cc in
            subst (λ o. class_value v (constant_id sk c) o < (class_structure sk n v).size t) (sym e)
            (subst (λ (z : SortId). term_class v (constant_id sk c) < (class_structure sk n v).size z) is
            (quotient.within r (constant_id sk c) (terms c r e)))

-- no more classes than terms
few_classes : (n : ℕ) (p : ℕ → Bool) → count_below n p ≤ n
few_classes zero p = omega arith
few_classes (suc n) p = step (p n) (few_classes n p)
  where
    step : (b : Bool) → count_below n p ≤ n → cond b (suc (count_below n p)) (count_below n p) ≤ suc n
    step true h = omega arith
    step false h = omega arith

at_most : (k n : ℕ) → k ≤ n → 0 < n → at_least_one k ≤ n
at_most zero n h l = omega arith
at_most (suc k) n h l = h

-- the ground forms and the equality clauses are true
satisfied : (sk : Skolem) (u : List (List GroundTerm)) (g : Grounded) → IsGrounded sk u g
    → (a : ℕ → Bool) → Satisfies a (clauses_of (length g.atoms) (plains g.roots) g.equalities)
    → (holds_all (atom_truth g.atoms a) (trees_of sk u) ≡ true) × (all_ground_true (atom_truth g.atoms a) (equality_clauses sk (counts u)) ≡ true)
satisfied sk u g grounded a h =
    let h1 = subst (λ k. Satisfies a (clauses_of k (plains g.roots) g.equalities)) (ap length grounded.atoms) h in
    let h2 = subst (λ (r : PlainProps). Satisfies a (clauses_of (length (atoms_of sk u)) r g.equalities)) grounded.roots h1 in
    let h3 = subst (λ (e : List (List Lit)). Satisfies a
    (clauses_of (length (atoms_of sk u)) (all_numbered (find_atom (atoms_of sk u)) (trees_of sk u)) e)) grounded.equalities h2 in
    let r = from_assignment sk u a h3 in (
      subst (λ (l : List GroundAtom). holds_all (atom_truth l a) (trees_of sk u) ≡ true) (sym grounded.atoms) r.0,
      subst (λ (l : List GroundAtom). all_ground_true (atom_truth l a) (equality_clauses sk (counts u)) ≡ true) (sym grounded.atoms) r.1,
    )

-- equality is an equivalence on the terms of each sort
pub equality_is_equivalence : (sk : Skolem) (u : List (List GroundTerm)) (g : Grounded) → IsUniverse sk u → IsGrounded sk u g
    → (a : ℕ → Bool) → Satisfies a (clauses_of (length g.atoms) (plains g.roots) g.equalities)
    → (s : SortId) → IsEquivalence (equal_in (atom_truth g.atoms a) s) (counts u s)
equality_is_equivalence sk u g universe grounded a h =
    equivalences sk u (atom_truth g.atoms a) universe (satisfied sk u g grounded a h).1

pub assignments_give_structures : AssignmentsGiveStructures
assignments_give_structures voc s sk u g sound fit is universe grounded a h =
    let n = counts u in
    let N = naming_of sk n in
    let v = atom_truth g.atoms a in
    let low = vocabulary_of sk in
    let range = is_ranged voc s sk sound fit is in
    let sites = table voc s sk sound fit is in
    let r = satisfied sk u g grounded a h in
    let r0 = r.0 in
    let r1 = r.1 in
    let eqv = equivalences sk u v universe r1 in
    let c = all_both v (each_of 0 sk.sorts (λ i. sort_clauses (record { 0 = i }) (n (record { 0 = i })))) _ r1 in
    let c2 = all_both v (relation_clauses n sk.relations) _ c.1 in
    let quotient = class_structure_is sk n v eqv (some_term sk u universe) (λ r ss here. relations_respect n v sk.relations r ss c2.0 here) in
    let closed = sites_are_terms sk u universe range sites (places_are voc s sk sound fit is) in
    let constants = constants_are_terms sk u universe range in
    let t = falls_all (class_structure sk n v) low N sites v (term_class v) quotient closed constants (forms_of sk.forms) 0 [] []
    (table_has voc s sk sound fit is) tt (sentences_fit voc s sk sound fit is) r0 in (
      structure voc sk n v (constant_was voc s sk sound fit is) quotient constants,
      sym (sentences_meet voc s sk sound fit is (class_structure sk n v)) ∙ t,
      λ x l. at_most (classes (equal_in v x) (n x)) (n x) (few_classes (n x) _) (some_term sk u universe x l),
    )
