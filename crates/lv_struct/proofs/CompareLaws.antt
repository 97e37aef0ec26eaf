-- The tests of `Compare` tell that two structures, or a structure's symbols and a vocabulary's, are the same.
use Rattle.std.proofs.Common.{◌≡◌, ◌↔◌, ℕ, Bool, true, false, ◌&&◌, eqb, List, [], ◌∷◌, length, refl, sym, ap, subst, ◌∙◌, ⊎_elim}
use Rattle.std.proofs.lemmas.Bool.{and_parts, and_from, or_cases, or_left, or_right, eqb-true, eq-eqb}
use Rattle.lv_formula.specs.declared.symbols.SortId.{SortId}
use Rattle.lv_formula.specs.declared.symbols.Sym.{Sym}
use Rattle.lv_formula.specs.declared.vocabulary.RelShape.{RelShape}
use Rattle.lv_formula.specs.declared.vocabulary.ConShape.{ConShape}
use Rattle.lv_formula.specs.declared.vocabulary.Vocabulary.{Vocabulary}
use Rattle.lv_formula.specs.Symbols.{sym_eq}
use Rattle.lv_formula.proofs.SymbolLaws.{sym_eq-true, sym_eq-refl}
use Rattle.lv_struct.specs.declared.tables.Relation.{Relation}
use Rattle.lv_struct.specs.declared.tables.Constant.{Constant}
use Rattle.lv_struct.specs.Compare.{IsSame, IsSameRelation, constant_eq, has_constant_shape, has_relation_shape, has_vocabulary, relation_eq, sort_eq, tables_eq}
use Rattle.lv_struct.specs.Tables.{Tables, HasVocabulary, relation_shape, constant_shape}
use Rattle.lv_formula.specs.Tuples.{all_among, has_tuple, pairwise, tuple_eq}
use Rattle.lv_struct.proofs.PairLaws.{pairs_from_test, test_from_pairs, test_tells_mapped, test_tells_equal}

number_tells : (a b : ℕ) → (eqb a b ≡ true) ↔ (a ≡ b)
number_tells a b = (eqb-true a b, eq-eqb a b)

sym_tells : (a b : Sym) → (sym_eq a b ≡ true) ↔ (a ≡ b)
sym_tells a b = (sym_eq-true a b, λ e. subst (λ c. sym_eq a c ≡ true) e (sym_eq-refl a))

sort_tells : (s t : SortId) → (sort_eq s t ≡ true) ↔ (s ≡ t)
sort_tells s t = (
  (λ h. let e : s.0 ≡ t.0 = eqb-true s.0 t.0 h in λ i. record { 0 = e i }),
  (λ e. eq-eqb s.0 t.0 (ap (λ r. r.0) e)),
)

sorts_tell : (ss ts : List SortId) → (pairwise sort_eq ss ts ≡ true) ↔ (ss ≡ ts)
sorts_tell = test_tells_equal sort_eq sort_tells

pub tuple_tells : (xs ys : List ℕ) → (tuple_eq xs ys ≡ true) ↔ (xs ≡ ys)
tuple_tells = test_tells_equal eqb number_tells

relation_shape_tells : (r : Relation) (shape : RelShape) → (has_relation_shape r shape ≡ true) ↔ (relation_shape r ≡ shape)
relation_shape_tells r shape = (
  (λ h. let both = and_parts (sym_eq r.sym shape.sym) (pairwise sort_eq r.sorts shape.sorts) h in
      let name : r.sym ≡ shape.sym = (sym_tells r.sym shape.sym).0 both.0 in
      let sorts : r.sorts ≡ shape.sorts = (sorts_tell r.sorts shape.sorts).0 both.1 in
      λ i. record { sym = name i; sorts = sorts i }),
  (λ e. and_from (sym_eq r.sym shape.sym) (pairwise sort_eq r.sorts shape.sorts)
      ((sym_tells r.sym shape.sym).1 (ap (λ s. s.sym) e))
      ((sorts_tell r.sorts shape.sorts).1 (ap (λ s. s.sorts) e))),
)

constant_shape_tells : (c : Constant) (shape : ConShape) → (has_constant_shape c shape ≡ true) ↔ (constant_shape c ≡ shape)
constant_shape_tells c shape = (
  (λ h. let both = and_parts (sym_eq c.sym shape.sym) (sort_eq c.sort shape.sort) h in
      let name : c.sym ≡ shape.sym = (sym_tells c.sym shape.sym).0 both.0 in
      let sort : c.sort ≡ shape.sort = (sort_tells c.sort shape.sort).0 both.1 in
      λ i. record { sym = name i; sort = sort i }),
  (λ e. and_from (sym_eq c.sym shape.sym) (sort_eq c.sort shape.sort)
      ((sym_tells c.sym shape.sym).1 (ap (λ s. s.sym) e))
      ((sort_tells c.sort shape.sort).1 (ap (λ s. s.sort) e))),
)

pub has_vocabulary_tells : (voc : Vocabulary) (w : Tables) → (has_vocabulary voc w ≡ true) ↔ HasVocabulary voc w
has_vocabulary_tells voc w =
    let relations = test_tells_mapped has_relation_shape relation_shape relation_shape_tells w.relations voc.relations in
    let constants = test_tells_mapped has_constant_shape constant_shape constant_shape_tells w.constants voc.constants in (
      (λ h. let first = and_parts (eqb (length w.sizes) voc.sorts) (pairwise has_relation_shape w.relations voc.relations && pairwise has_constant_shape w.constants voc.constants) h in
          let rest = and_parts (pairwise has_relation_shape w.relations voc.relations) (pairwise has_constant_shape w.constants voc.constants) first.1 in
          record { sorts = eqb-true (length w.sizes) voc.sorts first.0; relations = relations.0 rest.0; constants = constants.0 rest.1 }),
      (λ v. and_from (eqb (length w.sizes) voc.sorts) (pairwise has_relation_shape w.relations voc.relations && pairwise has_constant_shape w.constants voc.constants) (eq-eqb (length w.sizes) voc.sorts v.sorts)
          (and_from (pairwise has_relation_shape w.relations voc.relations) (pairwise has_constant_shape w.constants voc.constants) (relations.1 v.relations) (constants.1 v.constants))),
    )

among_from_test : (ts us : List (List ℕ)) → all_among ts us ≡ true → (tuple : List ℕ) → has_tuple ts tuple ≡ true → has_tuple us tuple ≡ true
among_from_test [] us h tuple e = cc
among_from_test (t ∷ ts) us h tuple e = let both = and_parts (has_tuple us t) (all_among ts us) h in ⊎_elim
    (λ same. subst (λ x. has_tuple us x ≡ true) ((tuple_tells t tuple).0 same) both.0)
    (λ later. among_from_test ts us both.1 tuple later)
    (or_cases (tuple_eq t tuple) (has_tuple ts tuple) e)

test_from_among : (ts us : List (List ℕ)) → ((tuple : List ℕ) → has_tuple ts tuple ≡ true → has_tuple us tuple ≡ true) → all_among ts us ≡ true
test_from_among [] us h = refl
test_from_among (t ∷ ts) us h = and_from (has_tuple us t) (all_among ts us)
    (h t (or_left (tuple_eq t t) (has_tuple ts t) ((tuple_tells t t).1 refl)))
    (test_from_among ts us (λ tuple e. h tuple (or_right (tuple_eq t tuple) (has_tuple ts tuple) e)))

same_answer : (a b : Bool) → (a ≡ true → b ≡ true) → (b ≡ true → a ≡ true) → a ≡ b
same_answer true b h g = sym (h refl)
same_answer false true h g = g refl
same_answer false false h g = refl

relation_tells : (r q : Relation) → (relation_eq r q ≡ true) ↔ IsSameRelation r q
relation_tells r q = (
  (λ h. let first = and_parts (sym_eq r.sym q.sym) (pairwise sort_eq r.sorts q.sorts && (all_among r.tuples q.tuples && all_among q.tuples r.tuples)) h in
      let second = and_parts (pairwise sort_eq r.sorts q.sorts) (all_among r.tuples q.tuples && all_among q.tuples r.tuples) first.1 in
      let third = and_parts (all_among r.tuples q.tuples) (all_among q.tuples r.tuples) second.1 in
      record {
        sym = (sym_tells r.sym q.sym).0 first.0;
        sorts = (sorts_tell r.sorts q.sorts).0 second.0;
        tuples = λ tuple. same_answer (has_tuple r.tuples tuple) (has_tuple q.tuples tuple) (among_from_test r.tuples q.tuples third.0 tuple) (among_from_test q.tuples r.tuples third.1 tuple);
      }),
  (λ v. and_from (sym_eq r.sym q.sym) (pairwise sort_eq r.sorts q.sorts && (all_among r.tuples q.tuples && all_among q.tuples r.tuples)) ((sym_tells r.sym q.sym).1 v.sym)
      (and_from (pairwise sort_eq r.sorts q.sorts) (all_among r.tuples q.tuples && all_among q.tuples r.tuples) ((sorts_tell r.sorts q.sorts).1 v.sorts)
      (and_from (all_among r.tuples q.tuples) (all_among q.tuples r.tuples)
      (test_from_among r.tuples q.tuples (λ tuple e. sym (v.tuples tuple) ∙ e))
      (test_from_among q.tuples r.tuples (λ tuple e. v.tuples tuple ∙ e))))),
)

constant_tells : (c d : Constant) → (constant_eq c d ≡ true) ↔ (c ≡ d)
constant_tells c d = (
  (λ h. let first = and_parts (sym_eq c.sym d.sym) (sort_eq c.sort d.sort && eqb c.element d.element) h in
      let second = and_parts (sort_eq c.sort d.sort) (eqb c.element d.element) first.1 in
      let name : c.sym ≡ d.sym = (sym_tells c.sym d.sym).0 first.0 in
      let sort : c.sort ≡ d.sort = (sort_tells c.sort d.sort).0 second.0 in
      let element : c.element ≡ d.element = eqb-true c.element d.element second.1 in
      λ i. record { sym = name i; sort = sort i; element = element i }),
  (λ e. and_from (sym_eq c.sym d.sym) (sort_eq c.sort d.sort && eqb c.element d.element) ((sym_tells c.sym d.sym).1 (ap (λ r. r.sym) e))
      (and_from (sort_eq c.sort d.sort) (eqb c.element d.element) ((sort_tells c.sort d.sort).1 (ap (λ r. r.sort) e)) (eq-eqb c.element d.element (ap (λ r. r.element) e)))),
)

pub tables_tell : (a b : Tables) → (tables_eq a b ≡ true) ↔ IsSame a b
tables_tell a b =
    let constants = test_tells_equal constant_eq constant_tells a.constants b.constants in (
      (λ h. let first = and_parts (tuple_eq a.sizes b.sizes) (pairwise relation_eq a.relations b.relations && pairwise constant_eq a.constants b.constants) h in
          let rest = and_parts (pairwise relation_eq a.relations b.relations) (pairwise constant_eq a.constants b.constants) first.1 in
          record {
            sizes = (tuple_tells a.sizes b.sizes).0 first.0;
            relations = pairs_from_test relation_eq IsSameRelation relation_tells a.relations b.relations rest.0;
            constants = constants.0 rest.1;
          }),
      (λ v. and_from (tuple_eq a.sizes b.sizes) (pairwise relation_eq a.relations b.relations && pairwise constant_eq a.constants b.constants) ((tuple_tells a.sizes b.sizes).1 v.sizes)
          (and_from (pairwise relation_eq a.relations b.relations) (pairwise constant_eq a.constants b.constants)
          (test_from_pairs relation_eq IsSameRelation relation_tells a.relations b.relations v.relations)
          (constants.1 v.constants))),
    )
