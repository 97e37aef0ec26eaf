-- New structures are sound.
use Rattle.std.proofs.Common.{◌≡◌, ◌≢◌, ℕ, zero, suc, ◌<◌, true, List, [], ◌∷◌, ◌++◌, map, get_or, slice_index_or, Some, refl, sym, ap₂, ◌∙◌, arith, ⊎_elim}
use Rattle.std.specs.List.{All, AllPairs}
use Rattle.std.specs.Option.{ForSome}
use Rattle.std.proofs.lemmas.Bool.{cases_Bool, cond_both, cond-true, cond-false}
use Rattle.std.proofs.lemmas.List.Elements.{All-nil, All-cons, All-head, All-tail, All-map}
use Rattle.lv_formula.specs.declared.symbols.SortId.{SortId}
use Rattle.lv_formula.specs.declared.symbols.Sym.{Sym}
use Rattle.lv_formula.specs.declared.vocabulary.Vocabulary.{Vocabulary}
use Rattle.lv_formula.specs.Symbols.{sym_eq}
use Rattle.lv_formula.specs.Vocabulary as vocabularies
use Rattle.lv_formula.specs.Vocabulary.{relation_in, constant_in}
use Rattle.lv_formula.proofs.SymbolLaws.{sym_eq-true}
use Rattle.lv_struct.specs.declared.tables.Relation.{Relation}
use Rattle.lv_struct.specs.declared.tables.Constant.{Constant}
use Rattle.lv_struct.specs.Changes.{empty_relation, first_element, put_tuples, put_element}
use Rattle.lv_struct.specs.Tables.{Tables, IsSound, IsInRange, IsRelationSound, IsConstantSound, relation_shape, constant_shape, size_of, sorts_in, sort_in}

-- Lists of names in which no two are the same.

pairs_head : (a : Sym) (names : List Sym) → AllPairs (λ a b. a ≢ b) (a ∷ names) → All (λ b. a ≢ b) names
pairs_head a names h k d lt = h 0 (suc k) d (omega arith) (omega arith)

pairs_tail : (a : Sym) (names : List Sym) → AllPairs (λ a b. a ≢ b) (a ∷ names) → AllPairs (λ a b. a ≢ b) names
pairs_tail a names h i j d before lt = h (suc i) (suc j) d (omega arith) (omega arith)

pub map-after : {X Y Z : Type 0} (f : X → Y) (g : Y → Z) (h : X → Z) → ((x : X) → g (f x) ≡ h x) → (xs : List X) → map g (map f xs) ≡ map h xs
map-after f g h e [] = refl
map-after f g h e (x ∷ xs) = ap₂ (λ z zs. z ∷ zs) (e x) (map-after f g h e xs)

-- What the entry named so meets is met by each entry that is named so.

other_relations : (a : Sym) (P : List SortId → Type 0) (rs : List Relation) (rest : List Sym) → All (λ b. a ≢ b) (map (λ r. r.sym) rs ++ rest)
    → (b : Sym) → a ≡ b → All (λ r. sym_eq r.sym b ≡ true → P r.sorts) rs
other_relations a P [] rest h b same = All-nil (λ r. sym_eq r.sym b ≡ true → P r.sorts)
other_relations a P (r ∷ rs) rest h b same = All-cons (λ r. sym_eq r.sym b ≡ true → P r.sorts) r rs
    (λ e. absurd (All-head (λ b. a ≢ b) r.sym (map (λ r. r.sym) rs ++ rest) h (same ∙ sym (sym_eq-true r.sym b e))))
    (other_relations a P rs rest (All-tail (λ b. a ≢ b) r.sym (map (λ r. r.sym) rs ++ rest) h) b same)

pub named_relations : (sym : Sym) (P : List SortId → Type 0) (rs : List Relation) (rest : List Sym) → AllPairs (λ a b. a ≢ b) (map (λ r. r.sym) rs ++ rest)
    → ForSome (relation_in (map relation_shape rs) sym) P → All (λ r. sym_eq r.sym sym ≡ true → P r.sorts) rs
named_relations name P [] rest differ h = All-nil (λ r. sym_eq r.sym name ≡ true → P r.sorts)
named_relations name P (r ∷ rs) rest differ h =
    let names = map (λ r. r.sym) rs ++ rest in
    All-cons (λ r. sym_eq r.sym name ≡ true → P r.sorts) r rs
    (λ e. h r.sorts (cond-true (sym_eq r.sym name) (Some r.sorts) (relation_in (map relation_shape rs) name) e))
    (⊎_elim
    (λ e. other_relations r.sym P rs rest (pairs_head r.sym names differ) name (sym_eq-true r.sym name e))
    (λ e. named_relations name P rs rest (pairs_tail r.sym names differ)
    (λ sorts is. h sorts (cond-false (sym_eq r.sym name) (Some r.sorts) (relation_in (map relation_shape rs) name) e ∙ is)))
    (cases_Bool (sym_eq r.sym name)))

other_constants : (a : Sym) (P : SortId → Type 0) (cs : List Constant) → All (λ b. a ≢ b) (map (λ c. c.sym) cs)
    → (b : Sym) → a ≡ b → All (λ c. sym_eq c.sym b ≡ true → P c.sort) cs
other_constants a P [] h b same = All-nil (λ c. sym_eq c.sym b ≡ true → P c.sort)
other_constants a P (c ∷ cs) h b same = All-cons (λ c. sym_eq c.sym b ≡ true → P c.sort) c cs
    (λ e. absurd (All-head (λ b. a ≢ b) c.sym (map (λ c. c.sym) cs) h (same ∙ sym (sym_eq-true c.sym b e))))
    (other_constants a P cs (All-tail (λ b. a ≢ b) c.sym (map (λ c. c.sym) cs) h) b same)

pub named_constants : (sym : Sym) (P : SortId → Type 0) (cs : List Constant) → AllPairs (λ a b. a ≢ b) (map (λ c. c.sym) cs)
    → ForSome (constant_in (map constant_shape cs) sym) P → All (λ c. sym_eq c.sym sym ≡ true → P c.sort) cs
named_constants name P [] differ h = All-nil (λ c. sym_eq c.sym name ≡ true → P c.sort)
named_constants name P (c ∷ cs) differ h =
    let names = map (λ c. c.sym) cs in
    All-cons (λ c. sym_eq c.sym name ≡ true → P c.sort) c cs
    (λ e. h c.sort (cond-true (sym_eq c.sym name) (Some c.sort) (constant_in (map constant_shape cs) name) e))
    (⊎_elim
    (λ e. other_constants c.sym P cs (pairs_head c.sym names differ) name (sym_eq-true c.sym name e))
    (λ e. named_constants name P cs (pairs_tail c.sym names differ)
    (λ sort is. h sort (cond-false (sym_eq c.sym name) (Some c.sort) (constant_in (map constant_shape cs) name) e ∙ is)))
    (cases_Bool (sym_eq c.sym name)))

constants_differ : (rs : List Relation) (names : List Sym) → AllPairs (λ a b. a ≢ b) (map (λ r. r.sym) rs ++ names) → AllPairs (λ a b. a ≢ b) names
constants_differ [] names h = h
constants_differ (r ∷ rs) names h = constants_differ rs names (pairs_tail r.sym (map (λ r. r.sym) rs ++ names) h)

-- Sizes.

pub size_positive : (sizes : List ℕ) → All (λ n. 0 < n) sizes → (s : SortId) → 0 < size_of sizes s
size_positive sizes h s = positive sizes h s.0
  where
    positive : (sizes : List ℕ) → All (λ n. 0 < n) sizes → (i : ℕ) → 0 < get_or sizes i 1
    positive [] h i = omega arith
    positive (n ∷ ns) h zero = All-head (λ n. 0 < n) n ns h
    positive (n ∷ ns) h (suc i) = positive ns (All-tail (λ n. 0 < n) n ns h) i

-- The new structures.

pub empty_is_sound : (voc : Vocabulary) (given : List ℕ) (sizes : List ℕ) (relations : List Relation) (constants : List Constant)
    → vocabularies.IsSound voc → All (λ n. 0 < n) given
    → sizes ≡ given → relations ≡ map empty_relation voc.relations → constants ≡ map first_element voc.constants
    → IsSound (record { sizes = sizes; relations = relations; constants = constants })
empty_is_sound voc given sizes relations constants sound positive same empty first =
    rw (same, empty, first) (record {
      sizes = positive;
      relations = All-map (IsRelationSound given) empty_relation voc.relations (λ k d lt. All-nil (IsInRange given (slice_index_or voc.relations k d).sorts));
      constants = All-map (IsConstantSound given) first_element voc.constants (λ k d lt. size_positive given positive (slice_index_or voc.constants k d).sort);
      differ = rw (map-after empty_relation (λ r. r.sym) (λ r. r.sym) (λ r. refl) voc.relations, map-after first_element (λ c. c.sym) (λ c. c.sym) (λ c. refl) voc.constants) sound.differ;
    })

pub same_name-put_tuples : (sym : Sym) (tuples : List (List ℕ)) (r : Relation) → (put_tuples sym tuples r).sym ≡ r.sym
same_name-put_tuples sym tuples r = cond_both (sym_eq r.sym sym) (record r { tuples = tuples }) r (λ q. q.sym ≡ r.sym) (λ e. refl) (λ e. refl)

pub same_name-put_element : (sym : Sym) (element : ℕ) (c : Constant) → (put_element sym element c).sym ≡ c.sym
same_name-put_element sym element c = cond_both (sym_eq c.sym sym) (record c { element = element }) c (λ d. d.sym ≡ c.sym) (λ e. refl) (λ e. refl)

pub with_tuples_is_sound : (w : Tables) (sym : Sym) (tuples : List (List ℕ)) (sizes : List ℕ) (relations : List Relation) (constants : List Constant)
    → IsSound w → ForSome (sorts_in w sym) (λ sorts. All (IsInRange w.sizes sorts) tuples)
    → sizes ≡ w.sizes → relations ≡ map (put_tuples sym tuples) w.relations → constants ≡ w.constants
    → IsSound (record { sizes = sizes; relations = relations; constants = constants })
with_tuples_is_sound w name tuples sizes relations constants sound fit same_sizes put same_constants =
    let new = named_relations name (λ sorts. All (IsInRange w.sizes sorts) tuples) w.relations (map (λ c. c.sym) w.constants) sound.differ fit in
    rw (same_sizes, put, same_constants) (record {
      sizes = sound.sizes;
      relations = All-map (IsRelationSound w.sizes) (put_tuples name tuples) w.relations
          (λ k d lt. let r = slice_index_or w.relations k d in
          cond_both (sym_eq r.sym name) (record r { tuples = tuples }) r (IsRelationSound w.sizes) (new k d lt) (λ e. sound.relations k d lt));
      constants = sound.constants;
      differ = rw (map-after (put_tuples name tuples) (λ r. r.sym) (λ r. r.sym) (same_name-put_tuples name tuples) w.relations) sound.differ;
    })

pub with_element_is_sound : (w : Tables) (sym : Sym) (element : ℕ) (sizes : List ℕ) (relations : List Relation) (constants : List Constant)
    → IsSound w → ForSome (sort_in w sym) (λ sort. element < size_of w.sizes sort)
    → sizes ≡ w.sizes → relations ≡ w.relations → constants ≡ map (put_element sym element) w.constants
    → IsSound (record { sizes = sizes; relations = relations; constants = constants })
with_element_is_sound w name element sizes relations constants sound fit same_sizes same_relations put =
    let differ = constants_differ w.relations (map (λ c. c.sym) w.constants) sound.differ in
    let new = named_constants name (λ sort. element < size_of w.sizes sort) w.constants differ fit in
    rw (same_sizes, same_relations, put) (record {
      sizes = sound.sizes;
      relations = sound.relations;
      constants = All-map (IsConstantSound w.sizes) (put_element name element) w.constants
          (λ k d lt. let c = slice_index_or w.constants k d in
          cond_both (sym_eq c.sym name) (record c { element = element }) c (IsConstantSound w.sizes) (new k d lt) (λ e. sound.constants k d lt));
      differ = rw (map-after (put_element name element) (λ c. c.sym) (λ c. c.sym) (same_name-put_element name element) w.constants) sound.differ;
    })
