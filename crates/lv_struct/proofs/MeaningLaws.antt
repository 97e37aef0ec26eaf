-- Structures as data: when their functions are equal, and what the functions of a structure's tables meet.
use Rattle.std.proofs.Common.{◌≡◌, ℕ, ◌<◌, false, cond, List, [], ◌∷◌, length, map, Some, refl, sym, ap, ap₂, subst, ◌∙◌, ⊎_elim}
use Rattle.std.specs.List.{All, AllZip}
use Rattle.std.proofs.lemmas.Bool.{cases_Bool, cond_both, cond-true, cond-false}
use Rattle.std.proofs.lemmas.List.Elements.{All-head, All-tail}
use Rattle.lv_formula.specs.declared.symbols.SortId.{SortId}
use Rattle.lv_formula.specs.declared.symbols.Sym.{Sym}
use Rattle.lv_formula.specs.declared.vocabulary.RelShape.{RelShape}
use Rattle.lv_formula.specs.declared.vocabulary.Vocabulary.{Vocabulary}
use Rattle.lv_formula.specs.Symbols.{sym_eq}
use Rattle.lv_formula.specs.Vocabulary.{constant_in, relation_in}
use Rattle.lv_formula.proofs.SymbolLaws.{sym_eq-true}
use Rattle.lv_struct.specs.declared.tables.Relation.{Relation}
use Rattle.lv_struct.specs.declared.tables.Constant.{Constant}
use Rattle.lv_struct.specs.Changes.{empty_relation, empty_structure, first_element, put_element, put_tuples, with_element, with_tuples}
use Rattle.lv_struct.specs.Compare.{IsSame, IsSameRelation}
use Rattle.lv_formula.specs.Meaning.{IsStructureOf}
use Rattle.lv_struct.specs.Tables.{HasVocabulary, IsConstantSound, IsSound, Tables, constant_shape, element_in, holds_in, meaning, relation_shape, size_of, sort_in, sorts_in, tuples_in, value_in}
use Rattle.lv_formula.specs.Tuples.{has_tuple}
use Rattle.lv_formula.proofs.MeaningLaws.{same_meaning}
use Rattle.lv_struct.proofs.ChangeLaws.{map-after, size_positive}

-- Structures that are the same as data, up to the order of tuples, are the same as functions.
same_tuples : (rs qs : List Relation) → AllZip IsSameRelation rs qs → (r : Sym) (tuple : List ℕ) → has_tuple (tuples_in rs r) tuple ≡ has_tuple (tuples_in qs r) tuple
same_tuples [] [] h name tuple = refl
same_tuples [] (q ∷ qs) h name tuple = absurd h
same_tuples (r ∷ rs) [] h name tuple = absurd h
same_tuples (r ∷ rs) (q ∷ qs) h name tuple =
    subst (λ s. has_tuple (cond (sym_eq r.sym name) r.tuples (tuples_in rs name)) tuple ≡ has_tuple (cond (sym_eq s name) q.tuples (tuples_in qs name)) tuple) h.0.sym
    (⊎_elim
    (λ e. rw (e) (h.0.tuples tuple))
    (λ e. rw (e) (same_tuples rs qs h.1 name tuple))
    (cases_Bool (sym_eq r.sym name)))

pub same_meaning-tables : (a b : Tables) → IsSame a b → meaning a ≡ meaning b
same_meaning-tables a b same = same_meaning (meaning a) (meaning b)
    (λ s. ap (λ sizes. size_of sizes s) same.sizes)
    (same_tuples a.relations b.relations same.relations)
    (λ c. ap (λ cs. element_in cs c) same.constants)

-- A structure of a vocabulary is one as functions.
in_sort : (sizes : List ℕ) (cs : List Constant) → All (IsConstantSound sizes) cs → (name : Sym) (s : SortId) → constant_in (map constant_shape cs) name ≡ Some s → element_in cs name < size_of sizes s
in_sort sizes [] h name s is = cc
in_sort sizes (c ∷ cs) h name s is = ⊎_elim
    (λ e. let found : Some c.sort ≡ Some s = sym (cond-true (sym_eq c.sym name) (Some c.sort) (constant_in (map constant_shape cs) name) e) ∙ is in
    let same : c.sort ≡ s = cc in
    rw (e) (subst (λ t. c.element < size_of sizes t) same (All-head (IsConstantSound sizes) c cs h)))
    (λ e. rw (e) (in_sort sizes cs (All-tail (IsConstantSound sizes) c cs h) name s (sym (cond-false (sym_eq c.sym name) (Some c.sort) (constant_in (map constant_shape cs) name) e) ∙ is)))
    (cases_Bool (sym_eq c.sym name))

pub structure_of : (voc : Vocabulary) (w : Tables) → IsSound w → HasVocabulary voc w → IsStructureOf voc (meaning w)
structure_of voc w sound has = record {
  sizes = size_positive w.sizes sound.sizes;
  constants = λ c s is. in_sort w.sizes w.constants sound.constants c s (ap (λ shapes. constant_in shapes c) has.constants ∙ is);
}

-- A change to one symbol keeps the vocabulary.
same_shape-put_tuples : (name : Sym) (tuples : List (List ℕ)) (r : Relation) → relation_shape (put_tuples name tuples r) ≡ relation_shape r
same_shape-put_tuples name tuples r = cond_both (sym_eq r.sym name) (record r { tuples = tuples }) r (λ q. relation_shape q ≡ relation_shape r) (λ e. refl) (λ e. refl)

same_shape-put_element : (name : Sym) (element : ℕ) (c : Constant) → constant_shape (put_element name element c) ≡ constant_shape c
same_shape-put_element name element c = cond_both (sym_eq c.sym name) (record c { element = element }) c (λ d. constant_shape d ≡ constant_shape c) (λ e. refl) (λ e. refl)

pub vocabulary-with_tuples : (voc : Vocabulary) (w : Tables) (name : Sym) (tuples : List (List ℕ)) → HasVocabulary voc w → HasVocabulary voc (with_tuples w name tuples)
vocabulary-with_tuples voc w name tuples has = record {
  sorts = has.sorts;
  relations = map-after (put_tuples name tuples) relation_shape relation_shape (same_shape-put_tuples name tuples) w.relations ∙ has.relations;
  constants = has.constants;
}

pub vocabulary-with_element : (voc : Vocabulary) (w : Tables) (name : Sym) (element : ℕ) → HasVocabulary voc w → HasVocabulary voc (with_element w name element)
vocabulary-with_element voc w name element has = record {
  sorts = has.sorts;
  relations = has.relations;
  constants = map-after (put_element name element) constant_shape constant_shape (same_shape-put_element name element) w.constants ∙ has.constants;
}

-- What a change to one symbol does to the functions.
tuples_in-named : (name : Sym) (tuples : List (List ℕ)) (rs : List Relation) (sorts : List SortId) → relation_in (map relation_shape rs) name ≡ Some sorts → tuples_in (map (put_tuples name tuples) rs) name ≡ tuples
tuples_in-named name tuples [] sorts is = cc
tuples_in-named name tuples (r ∷ rs) sorts is = ⊎_elim
    (λ e. rw (e) (rw (e) refl))
    (λ e. rw (e) (rw (e) (tuples_in-named name tuples rs sorts (sym (cond-false (sym_eq r.sym name) (Some r.sorts) (relation_in (map relation_shape rs) name) e) ∙ is))))
    (cases_Bool (sym_eq r.sym name))

tuples_in-other : (name : Sym) (tuples : List (List ℕ)) (other : Sym) → sym_eq name other ≡ false → (rs : List Relation) → tuples_in (map (put_tuples name tuples) rs) other ≡ tuples_in rs other
tuples_in-other name tuples other differ [] = refl
tuples_in-other name tuples other differ (r ∷ rs) = ⊎_elim
    (λ e. let same : r.sym ≡ name = sym_eq-true r.sym name e in
    let not_it : sym_eq r.sym other ≡ false = ap (λ a. sym_eq a other) same ∙ differ in
    rw (e) (rw (not_it) (tuples_in-other name tuples other differ rs)))
    (λ e. rw (e) (ap (λ ts. cond (sym_eq r.sym other) r.tuples ts) (tuples_in-other name tuples other differ rs)))
    (cases_Bool (sym_eq r.sym name))

-- the relation that was put has exactly the tuples that were put
pub holds-with_tuples : (w : Tables) (name : Sym) (tuples : List (List ℕ)) (sorts : List SortId) → sorts_in w name ≡ Some sorts → (tuple : List ℕ) → holds_in (with_tuples w name tuples) name tuple ≡ has_tuple tuples tuple
holds-with_tuples w name tuples sorts is tuple = ap (λ ts. has_tuple ts tuple) (tuples_in-named name tuples w.relations sorts is)

-- each other relation has the tuples that it had
pub holds-with_tuples_other : (w : Tables) (name : Sym) (tuples : List (List ℕ)) (other : Sym) → sym_eq name other ≡ false → (tuple : List ℕ) → holds_in (with_tuples w name tuples) other tuple ≡ holds_in w other tuple
holds-with_tuples_other w name tuples other differ tuple = ap (λ ts. has_tuple ts tuple) (tuples_in-other name tuples other differ w.relations)

element_in-named : (name : Sym) (element : ℕ) (cs : List Constant) (s : SortId) → constant_in (map constant_shape cs) name ≡ Some s → element_in (map (put_element name element) cs) name ≡ element
element_in-named name element [] s is = cc
element_in-named name element (c ∷ cs) s is = ⊎_elim
    (λ e. rw (e) (rw (e) refl))
    (λ e. rw (e) (rw (e) (element_in-named name element cs s (sym (cond-false (sym_eq c.sym name) (Some c.sort) (constant_in (map constant_shape cs) name) e) ∙ is))))
    (cases_Bool (sym_eq c.sym name))

element_in-other : (name : Sym) (element : ℕ) (other : Sym) → sym_eq name other ≡ false → (cs : List Constant) → element_in (map (put_element name element) cs) other ≡ element_in cs other
element_in-other name element other differ [] = refl
element_in-other name element other differ (c ∷ cs) = ⊎_elim
    (λ e. let same : c.sym ≡ name = sym_eq-true c.sym name e in
    let not_it : sym_eq c.sym other ≡ false = ap (λ a. sym_eq a other) same ∙ differ in
    rw (e) (rw (not_it) (element_in-other name element other differ cs)))
    (λ e. rw (e) (ap (λ x. cond (sym_eq c.sym other) c.element x) (element_in-other name element other differ cs)))
    (cases_Bool (sym_eq c.sym name))

-- the constant that was put is the element that was put
pub value-with_element : (w : Tables) (name : Sym) (element : ℕ) (s : SortId) → sort_in w name ≡ Some s → value_in (with_element w name element) name ≡ element
value-with_element w name element s is = element_in-named name element w.constants s is

-- each other constant is the element that it was
pub value-with_element_other : (w : Tables) (name : Sym) (element : ℕ) (other : Sym) → sym_eq name other ≡ false → value_in (with_element w name element) other ≡ value_in w other
value-with_element_other w name element other differ = element_in-other name element other differ w.constants

-- A structure with empty relations.
same_after : {X Y : Type 0} (f : X → Y) (g : Y → X) → ((x : X) → g (f x) ≡ x) → (xs : List X) → map g (map f xs) ≡ xs
same_after f g e [] = refl
same_after f g e (x ∷ xs) = ap₂ (λ z zs. z ∷ zs) (e x) (same_after f g e xs)

pub vocabulary-empty_structure : (voc : Vocabulary) (sizes : List ℕ) → length sizes ≡ voc.sorts → HasVocabulary voc (empty_structure voc sizes)
vocabulary-empty_structure voc sizes sorts = record {
  sorts = sorts;
  relations = same_after empty_relation relation_shape (λ r. refl) voc.relations;
  constants = same_after first_element constant_shape (λ c. refl) voc.constants;
}

no_tuples : (rs : List RelShape) (r : Sym) → tuples_in (map empty_relation rs) r ≡ []
no_tuples [] name = refl
no_tuples (r ∷ rs) name = ⊎_elim (λ e. rw (e) refl) (λ e. rw (e) (no_tuples rs name)) (cases_Bool (sym_eq r.sym name))

pub holds-empty_structure : (voc : Vocabulary) (sizes : List ℕ) (r : Sym) (tuple : List ℕ) → holds_in (empty_structure voc sizes) r tuple ≡ false
holds-empty_structure voc sizes r tuple = ap (λ ts. has_tuple ts tuple) (no_tuples voc.relations r)

-- The sorts of what a structure's vocabulary names.
pub sorts-in_vocabulary : (voc : Vocabulary) (w : Tables) → HasVocabulary voc w → (r : Sym) → sorts_in w r ≡ relation_in voc.relations r
sorts-in_vocabulary voc w has r = ap (λ shapes. relation_in shapes r) has.relations

pub sort-in_vocabulary : (voc : Vocabulary) (w : Tables) → HasVocabulary voc w → (c : Sym) → sort_in w c ≡ constant_in voc.constants c
sort-in_vocabulary voc w has c = ap (λ shapes. constant_in shapes c) has.constants
