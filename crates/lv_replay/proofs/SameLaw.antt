-- Structures with the same symbols that say the same are the same, up to the order of tuples.
use Rattle.std.proofs.Common.{◌≡◌, ◌≢◌, ℕ, zero, suc, ◌<◌, length, get_or, arith, true, false, List, [], ◌∷◌, ◌++◌, map, refl, sym, ap, ap₂, subst, ◌∙◌, ⊎_elim}
use Rattle.std.specs.List.{AllPairs, AllZip}
use Rattle.std.proofs.lemmas.Bool.{cases_Bool, cond-true, cond-false}
use Rattle.lv_formula.specs.declared.symbols.Sym.{Sym}
use Rattle.lv_formula.specs.declared.vocabulary.RelShape.{RelShape}
use Rattle.lv_formula.specs.declared.vocabulary.ConShape.{ConShape}
use Rattle.lv_formula.specs.Symbols.{sym_eq}
use Rattle.lv_formula.proofs.SymbolLaws.{sym_eq-true, sym_eq-refl}
use Rattle.lv_struct.specs.declared.tables.Relation.{Relation}
use Rattle.lv_struct.specs.declared.tables.Constant.{Constant}
use Rattle.lv_struct.specs.Compare.{IsSame, IsSameRelation}
use Rattle.lv_struct.specs.Tables.{IsSound, Tables, constant_shape, element_in, meaning, relation_shape, tuples_in}
use Rattle.lv_formula.specs.Tuples.{has_tuple}
use Rattle.lv_struct.proofs.Tabulate.{later_differ}
use Rattle.lv_exec.specs.Symbols.{SameSymbols}

abbrev relation_name : Relation → Sym
relation_name r = r.sym

abbrev constant_name : Constant → Sym
constant_name c = c.sym

abbrev Differ : List Sym → Type 0
Differ = AllPairs (λ a b. a ≢ b)

abbrev IsMissing : Sym → List Sym → Type 0
IsMissing name names = (j : ℕ) (d : Sym) → j < length names → name ≢ get_or names j d

first_missing : (a : Sym) (names : List Sym) → Differ (a ∷ names) → IsMissing a names
first_missing a names h j d lt = h zero (suc j) d (omega arith) (omega (arith, lt))

rest_differ : (a : Sym) (names : List Sym) → Differ (a ∷ names) → Differ names
rest_differ a names h i j d before lt = h (suc i) (suc j) d (omega (arith, before)) (omega (arith, lt))

not_first : (a name : Sym) (names : List Sym) → IsMissing name (a ∷ names) → sym_eq a name ≡ false
not_first a name names h = ⊎_elim (λ e. absurd (h zero a (omega arith) (sym (sym_eq-true a name e)))) (λ e. e) (cases_Bool (sym_eq a name))

no_tuples : (rs : List Relation) (more : List Sym) (name : Sym) → IsMissing name (map relation_name rs ++ more) → tuples_in rs name ≡ []
no_tuples [] more name h = refl
no_tuples (r ∷ rs) more name h = cond-false (sym_eq r.sym name) _ _ (not_first r.sym name (map relation_name rs ++ more) h)
    ∙ no_tuples rs more name (λ j d lt. h (suc j) d (omega (arith, lt)))

no_element : (cs : List Constant) (name : Sym) → IsMissing name (map constant_name cs) → element_in cs name ≡ 0
no_element [] name h = refl
no_element (c ∷ cs) name h = cond-false (sym_eq c.sym name) _ _ (not_first c.sym name (map constant_name cs) h)
    ∙ no_element cs name (λ j d lt. h (suc j) d (omega (arith, lt)))

abbrev first_shape : RelShape → List RelShape → RelShape
first_shape d [] = d
first_shape d (r ∷ rs) = r

abbrev rest_shapes : List RelShape → List RelShape
rest_shapes [] = []
rest_shapes (r ∷ rs) = rs

same_relations : (rs qs : List Relation) (more other : List Sym) → map relation_shape rs ≡ map relation_shape qs → Differ (map relation_name rs ++ more) → Differ (map relation_name qs ++ other)
    → ((name : Sym) (tuple : List ℕ) → has_tuple (tuples_in rs name) tuple ≡ has_tuple (tuples_in qs name) tuple) → AllZip IsSameRelation rs qs
same_relations [] [] more other shapes a b h = tt
same_relations [] (q ∷ qs) more other shapes a b h = cc
same_relations (r ∷ rs) [] more other shapes a b h = cc
same_relations (r ∷ rs) (q ∷ qs) more other shapes a b h = (
  record { sym = name; sorts = ap (λ s. s.sorts) shape; tuples = tuples },
  same_relations rs qs more other (ap rest_shapes shapes) (rest_differ r.sym (map relation_name rs ++ more) a) (rest_differ q.sym (map relation_name qs ++ other) b) behind,
)
  where
    shape : relation_shape r ≡ relation_shape q
    shape = ap (first_shape (relation_shape r)) shapes

    name : r.sym ≡ q.sym
    name = ap (λ s. s.sym) shape

    found : sym_eq q.sym r.sym ≡ true
    found = subst (λ s. sym_eq q.sym s ≡ true) (sym name) (sym_eq-refl q.sym)

    tuples : (tuple : List ℕ) → has_tuple r.tuples tuple ≡ has_tuple q.tuples tuple
    tuples tuple = ap (λ ts. has_tuple ts tuple) (sym (cond-true (sym_eq r.sym r.sym) r.tuples (tuples_in rs r.sym) (sym_eq-refl r.sym)))
        ∙ (h r.sym tuple ∙ ap (λ ts. has_tuple ts tuple) (cond-true (sym_eq q.sym r.sym) q.tuples (tuples_in qs r.sym) found))

    behind : (s : Sym) (tuple : List ℕ) → has_tuple (tuples_in rs s) tuple ≡ has_tuple (tuples_in qs s) tuple
    behind s tuple = ⊎_elim
        (λ e. let is : r.sym ≡ s = sym_eq-true r.sym s e in
        let here : IsMissing s (map relation_name rs ++ more) = subst (λ x. IsMissing x (map relation_name rs ++ more)) is (first_missing r.sym (map relation_name rs ++ more) a) in
        let there : IsMissing s (map relation_name qs ++ other) = subst (λ x. IsMissing x (map relation_name qs ++ other)) (sym name ∙ is) (first_missing q.sym (map relation_name qs ++ other) b) in
        ap (λ ts. has_tuple ts tuple) (no_tuples rs more s here ∙ sym (no_tuples qs other s there)))
        (λ e. ap (λ ts. has_tuple ts tuple) (sym (cond-false (sym_eq r.sym s) r.tuples (tuples_in rs s) e))
        ∙ (h s tuple ∙ ap (λ ts. has_tuple ts tuple) (cond-false (sym_eq q.sym s) q.tuples (tuples_in qs s) (ap (λ x. sym_eq x s) (sym name) ∙ e))))
        (cases_Bool (sym_eq r.sym s))

abbrev first_constant : ConShape → List ConShape → ConShape
first_constant d [] = d
first_constant d (c ∷ cs) = c

abbrev rest_constants : List ConShape → List ConShape
rest_constants [] = []
rest_constants (c ∷ cs) = cs

same_constant : (c d : Constant) → constant_shape c ≡ constant_shape d → c.element ≡ d.element → c ≡ d
same_constant c d shape element = λ i. record { sym = (shape i).sym; sort = (shape i).sort; element = element i }

same_constants : (cs ds : List Constant) → map constant_shape cs ≡ map constant_shape ds → Differ (map constant_name cs) → Differ (map constant_name ds)
    → ((name : Sym) → element_in cs name ≡ element_in ds name) → cs ≡ ds
same_constants [] [] shapes a b h = refl
same_constants [] (d ∷ ds) shapes a b h = cc
same_constants (c ∷ cs) [] shapes a b h = cc
same_constants (c ∷ cs) (d ∷ ds) shapes a b h =
    ap₂ (λ x xs. x ∷ xs) (same_constant c d shape element)
    (same_constants cs ds (ap rest_constants shapes) (rest_differ c.sym (map constant_name cs) a) (rest_differ d.sym (map constant_name ds) b) behind)
  where
    shape : constant_shape c ≡ constant_shape d
    shape = ap (first_constant (constant_shape c)) shapes

    name : c.sym ≡ d.sym
    name = ap (λ s. s.sym) shape

    found : sym_eq d.sym c.sym ≡ true
    found = subst (λ s. sym_eq d.sym s ≡ true) (sym name) (sym_eq-refl d.sym)

    element : c.element ≡ d.element
    element = sym (cond-true (sym_eq c.sym c.sym) c.element (element_in cs c.sym) (sym_eq-refl c.sym)) ∙ (h c.sym ∙ cond-true (sym_eq d.sym c.sym) d.element (element_in ds c.sym) found)

    behind : (s : Sym) → element_in cs s ≡ element_in ds s
    behind s = ⊎_elim
        (λ e. let is : c.sym ≡ s = sym_eq-true c.sym s e in
        let here : IsMissing s (map constant_name cs) = subst (λ x. IsMissing x (map constant_name cs)) is (first_missing c.sym (map constant_name cs) a) in
        let there : IsMissing s (map constant_name ds) = subst (λ x. IsMissing x (map constant_name ds)) (sym name ∙ is) (first_missing d.sym (map constant_name ds) b) in
        no_element cs s here ∙ sym (no_element ds s there))
        (λ e. sym (cond-false (sym_eq c.sym s) c.element (element_in cs s) e)
        ∙ (h s ∙ cond-false (sym_eq d.sym s) d.element (element_in ds s) (ap (λ x. sym_eq x s) (sym name) ∙ e)))
        (cases_Bool (sym_eq c.sym s))

pub same_tables : (v w : Tables) → SameSymbols v w → IsSound v → IsSound w → meaning v ≡ meaning w → IsSame v w
same_tables v w same a b e = record {
  sizes = sym same.sizes;
  relations = same_relations v.relations w.relations (map constant_name v.constants) (map constant_name w.constants) (sym same.relations) a.differ b.differ (λ name tuple. ap (λ m. m.holds name tuple) e);
  constants = same_constants v.constants w.constants (sym same.constants)
      (later_differ (map relation_name v.relations) (map constant_name v.constants) a.differ)
      (later_differ (map relation_name w.relations) (map constant_name w.constants) b.differ)
      (λ name. ap (λ m. m.value name) e);
}
