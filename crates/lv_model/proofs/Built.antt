-- What is built of an assignment that satisfies the ground clauses.
use Rattle.std.proofs.Common.{◌≡◌, ◌<◌, ◌≤◌, true, length, Result, Ok, Err, sym, ◌∙◌, subst, arith}
use Rattle.std.specs.Prelude.{IfOk}
use Rattle.lv_formula.specs.declared.symbols.SortId.{SortId}
use Rattle.lv_formula.specs.declared.vocabulary.Sentences.{Sentences}
use Rattle.lv_formula.specs.declared.vocabulary.Vocabulary.{Vocabulary}
use Rattle.lv_formula.specs.Meaning.{IsStructureOf, Meaning}
use Rattle.lv_formula.specs.Pairs.{SentencesFit, breaks}
use Rattle.lv_formula.specs.Vocabulary as vocabularies
use Rattle.lv_cnf.specs.Literals.{Satisfies, assignment_of}
use Rattle.lv_cnf.specs.Nodes.{plains, clauses_of}
use Rattle.lv_places.specs.Grounds.{IsGrounded}
use Rattle.lv_places.specs.Universes.{IsUniverse}
use Rattle.lv_places.proofs.Universes.{constants_are_terms}
use Rattle.lv_skolem.specs.Skolems.{IsSkolem}
use Rattle.lv_skolem.proofs.Ranged.{constant_was, is_ranged}
use Rattle.lv_struct.specs.Tables.{HasVocabulary, IsSound, Tables, meaning, size_in}
use Rattle.lv_struct.specs.Tabulation.{tables_of}
use Rattle.lv_struct.proofs.Tabulate.{size-tables_of, vocabulary-tables_of}
use Rattle.lv_model.specs.declared.assigned.Assigned.{Assigned}
use Rattle.lv_model.specs.declared.structure.Quotient.{Quotient}
use Rattle.lv_model.specs.Building.{IsSkolemOf}
use Rattle.lv_model.specs.Classes.{class_structure}
use Rattle.lv_model.specs.Quotients.{told, IsQuotientOf}
use Rattle.lv_model.specs.Truths.{numbers, truth}
use Rattle.lv_model.proofs.Law.{assignments_give_structures, equality_is_equivalence, some_term}
use Rattle.lv_model.proofs.Tabulated.{tables_alike, tables_are_sound, tables_break}
use Rattle.lv_model.proofs.Told.{told_agrees, told_is_structure}

if_ok : {X E : Type 0} (P Q : X → Type 0) (r : Result X E) → ((x : X) → P x → Q x) → IfOk r P → IfOk r Q
if_ok P Q (Ok x) f h = f x h
if_ok P Q (Err e) f h = tt

module _ (voc : Vocabulary) (st : Assigned) (sound : vocabularies.IsSound voc) (skolem : IsSkolemOf voc st.sk.now)
    (universe : IsUniverse st.sk.now st.u.now.terms) (grounded : IsGrounded st.sk.now st.u.now.terms st.g.now)
    (satisfied : Satisfies (assignment_of st.a.now) (clauses_of (length st.g.now.atoms) (plains st.g.now.roots) st.g.now.equalities)) where
  abbrev m : Meaning
  m = class_structure st.sk.now (numbers st) (truth st)

  class_structure_is : IsStructureOf voc m
  class_structure_is =
      (assignments_give_structures voc skolem.sentences st.sk.now st.u.now.terms st.g.now sound skolem.fit skolem.skolem universe grounded
      (assignment_of st.a.now) satisfied).0

  module _ (q : Quotient) (is : IsQuotientOf st q) where
    pub quotient_is_structure : IsStructureOf voc (told q)
    quotient_is_structure =
        told_is_structure voc skolem.sentences st q sound skolem.skolem
        (equality_is_equivalence st.sk.now st.u.now.terms st.g.now universe grounded (assignment_of st.a.now) satisfied)
        (some_term st.sk.now st.u.now.terms universe)
        (constants_are_terms st.sk.now st.u.now.terms universe (is_ranged voc skolem.sentences st.sk.now sound skolem.fit skolem.skolem))
        (constant_was voc skolem.sentences st.sk.now sound skolem.fit skolem.skolem) is class_structure_is

    tables_are : tables_of voc (told q) ≡ tables_of voc m
    tables_are =
        tables_alike voc (told q) m sound
        (told_agrees voc skolem.sentences st q sound skolem.skolem
        (equality_is_equivalence st.sk.now st.u.now.terms st.g.now universe grounded (assignment_of st.a.now) satisfied)
        (some_term st.sk.now st.u.now.terms universe)
        (constants_are_terms st.sk.now st.u.now.terms universe (is_ranged voc skolem.sentences st.sk.now sound skolem.fit skolem.skolem))
        (constant_was voc skolem.sentences st.sk.now sound skolem.fit skolem.skolem) is)

    pub value_built : {E : Type 0} (r : Result Tables E) → IfOk r (λ w. w ≡ tables_of voc (told q)) → IfOk r (λ w. w ≡ tables_of voc m)
    value_built r h = if_ok (λ w. w ≡ tables_of voc (told q)) (λ w. w ≡ tables_of voc m) r (λ w e. e ∙ tables_are) h

  tables_are_small : (s : SortId) → s.0 < voc.sorts → size_in (tables_of voc m) s ≤ numbers st s
  tables_are_small s l =
      let law = assignments_give_structures voc skolem.sentences st.sk.now st.u.now.terms st.g.now sound skolem.fit skolem.skolem universe grounded
      (assignment_of st.a.now) satisfied in
      let e = skolem.skolem.sorts in
      let few = law.2 s (omega (arith, e, l)) in
      subst (λ k. k ≤ numbers st s) (sym (size-tables_of voc m s l)) few

  module _ {E : Type 0} (r : Result Tables E) (is : IfOk r (λ w. w ≡ tables_of voc m)) where
    pub sound_built : IfOk r (λ w. IsSound w)
    sound_built = if_ok (λ w. w ≡ tables_of voc m) IsSound r (λ w e. subst IsSound (sym e) (tables_are_sound voc m sound class_structure_is)) is

    pub vocabulary_built : IfOk r (HasVocabulary voc)
    vocabulary_built =
        if_ok (λ w. w ≡ tables_of voc m) (HasVocabulary voc) r (λ w e. subst (HasVocabulary voc) (sym e) (vocabulary-tables_of voc m)) is

    pub broken_built : IfOk r (λ w. (s : Sentences) → SentencesFit voc s → IsSkolem voc s st.sk.now → breaks (meaning w) s ≡ true)
    broken_built =
        if_ok (λ w. w ≡ tables_of voc m) (λ w. (s : Sentences) → SentencesFit voc s → IsSkolem voc s st.sk.now → breaks (meaning w) s ≡ true) r
        (λ w e s fit form. subst (λ w. breaks (meaning w) s ≡ true) (sym e)
        (sym (tables_break voc m class_structure_is s fit)
        ∙ (assignments_give_structures voc s st.sk.now st.u.now.terms st.g.now sound fit form universe grounded (assignment_of st.a.now) satisfied).1)) is

    pub few_built : IfOk r (λ w. (s : SortId) → s.0 < voc.sorts → size_in w s ≤ numbers st s)
    few_built =
        if_ok (λ w. w ≡ tables_of voc m) (λ w. (s : SortId) → s.0 < voc.sorts → size_in w s ≤ numbers st s) r
        (λ w e s l. subst (λ w. size_in w s ≤ numbers st s) (sym e) (tables_are_small s l)) is
