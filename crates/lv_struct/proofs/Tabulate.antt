-- A structure that is given as functions has tables over a vocabulary, which agree with it there.
use Rattle.std.proofs.Common.{◌≡◌, ◌≢◌, ℕ, zero, suc, ◌+◌, ◌-◌, ◌<◌, false, ◌&&◌, ltb, List, [], ◌∷◌, ◌++◌, length, map, get_or, Some, refl, sym, ap, ap₂, subst, ◌∙◌, append_assoc, arith, ⊎_elim}
use Rattle.std.specs.List.{All, AllPairs, filter}
use Rattle.std.proofs.lemmas.Bool.{and_parts, cases_Bool, cond-true, cond-false}
use Rattle.std.proofs.lemmas.List.Elements.{All-nil, All-cons, All-head, All-tail}
use Rattle.lv_formula.specs.declared.symbols.SortId.{SortId}
use Rattle.lv_formula.specs.declared.symbols.Sym.{Sym}
use Rattle.lv_formula.specs.declared.vocabulary.RelShape.{RelShape}
use Rattle.lv_formula.specs.declared.vocabulary.ConShape.{ConShape}
use Rattle.lv_formula.specs.declared.vocabulary.Vocabulary.{Vocabulary}
use Rattle.lv_formula.specs.Symbols.{sym_eq}
use Rattle.lv_formula.specs.Vocabulary as vocabularies
use Rattle.lv_formula.specs.Vocabulary.{constant_in, relation_in, symbols_of}
use Rattle.lv_formula.proofs.SymbolLaws.{sym_eq-refl, sym_eq-true}
use Rattle.lv_struct.specs.declared.tables.Relation.{Relation}
use Rattle.lv_struct.specs.declared.tables.Constant.{Constant}
use Rattle.lv_formula.specs.Meaning.{AgreeOn, IsStructureOf, Meaning, in_range}
use Rattle.lv_struct.specs.Tables.{HasVocabulary, IsConstantSound, IsRelationSound, IsSound, constant_shape, element_in, holds_in, meaning, relation_shape, size_of, tuples_in, value_in}
use Rattle.lv_formula.specs.Tuples.{has_tuple, over, tuples_over}
use Rattle.lv_struct.specs.Tabulation.{constant_entry, relation_table, sizes_from, tables_of}
use Rattle.lv_struct.proofs.TupleLaws.{All-from_has_tuple, has_tuple-filter, has_tuple-tuples_over}

-- the sizes from a sort of the vocabulary on begin with its own
pub size_pushed : (m : Meaning) (k n : ℕ) (all more : List ℕ) (x : ℕ) → k < n → more ≡ all ++ x ∷ [] → x ≡ m.size (record { 0 = k }) → all ++ sizes_from m k (n - k) ≡ sizes_from m 0 n
    → more ++ sizes_from m (k + 1) (n - (k + 1)) ≡ sizes_from m 0 n
size_pushed m k n all more x l pushed is before =
    let longer : n - k ≡ suc (n - (k + 1)) = omega (arith, l) in
    ap (λ xs. xs ++ sizes_from m (k + 1) (n - (k + 1))) pushed ∙ append_assoc all (x ∷ []) (sizes_from m (k + 1) (n - (k + 1)))
    ∙ ap (λ y. all ++ y ∷ sizes_from m (k + 1) (n - (k + 1))) is ∙ sym (ap (λ i. all ++ sizes_from m k i) longer) ∙ before

-- what a vocabulary must be for its tables to be sound: no two symbols are the same, and sorts are in range
pub record IsProper (voc : Vocabulary) : Type 0 where
  pub differ : AllPairs (λ a b. a ≢ b) (symbols_of voc)
  pub relations : All (λ r. All (λ s. s.0 < voc.sorts) r.sorts) voc.relations
  pub constants : All (λ c. c.sort.0 < voc.sorts) voc.constants

size_at : (m : Meaning) (n k i : ℕ) → i < k → get_or (sizes_from m n k) i 1 ≡ m.size (record { 0 = n + i })
size_at m n zero i l = absurd (omega arith)
size_at m n (suc k) zero l = ap (λ j. m.size (record { 0 = j })) (omega arith)
size_at m n (suc k) (suc i) l = size_at m (n + 1) k i (omega arith) ∙ ap (λ j. m.size (record { 0 = j })) (omega arith)

-- a sort of the vocabulary has as many elements in the tables
pub size-tables_of : (voc : Vocabulary) (m : Meaning) (s : SortId) → s.0 < voc.sorts → size_of (tables_of voc m).sizes s ≡ m.size s
size-tables_of voc m s l = let same : 0 + s.0 ≡ s.0 = omega arith in size_at m 0 voc.sorts s.0 l ∙ ap (λ j. m.size (record { 0 = j })) same

length-sizes : (m : Meaning) (n k : ℕ) → length (sizes_from m n k) ≡ k
length-sizes m n zero = refl
length-sizes m n (suc k) = ap suc (length-sizes m (n + 1) k)

sizes_positive : (m : Meaning) → ((s : SortId) → 0 < m.size s) → (n k : ℕ) → All (λ x. 0 < x) (sizes_from m n k)
sizes_positive m full n zero = All-nil (λ x. 0 < x)
sizes_positive m full n (suc k) = All-cons (λ x. 0 < x) _ _ (full _) (sizes_positive m full (n + 1) k)

-- tuples over sorts of the vocabulary are in range by the one size function where they are by the other
pub over_same : (f g : SortId → ℕ) (n : ℕ) → ((s : SortId) → s.0 < n → f s ≡ g s) → (sorts : List SortId) → All (λ s. s.0 < n) sorts → (tuple : List ℕ)
    → over (λ s x. ltb x (f s)) sorts tuple ≡ over (λ s x. ltb x (g s)) sorts tuple
over_same f g n h [] inside [] = refl
over_same f g n h [] inside (x ∷ xs) = refl
over_same f g n h (s ∷ ss) inside [] = refl
over_same f g n h (s ∷ ss) inside (x ∷ xs) = ap₂ (λ a b. a && b) (ap (λ k. ltb x k) (h s (All-head (λ s. s.0 < n) s ss inside))) (over_same f g n h ss (All-tail (λ s. s.0 < n) s ss inside) xs)

-- what a lookup finds
pub relation_found : (P : Sym → List SortId → Type 0) (rs : List RelShape) → All (λ r. P r.sym r.sorts) rs → (r : Sym) (sorts : List SortId) → relation_in rs r ≡ Some sorts → P r sorts
relation_found P [] h r sorts is = cc
relation_found P (x ∷ xs) h r sorts is = ⊎_elim
    (λ e. let found : Some x.sorts ≡ Some sorts = sym (cond-true (sym_eq x.sym r) (Some x.sorts) (relation_in xs r) e) ∙ is in
    let same : x.sorts ≡ sorts = cc in
    subst (λ ss. P r ss) same (subst (λ y. P y x.sorts) (sym_eq-true x.sym r e) (All-head (λ r. P r.sym r.sorts) x xs h)))
    (λ e. relation_found P xs (All-tail (λ r. P r.sym r.sorts) x xs h) r sorts (sym (cond-false (sym_eq x.sym r) (Some x.sorts) (relation_in xs r) e) ∙ is))
    (cases_Bool (sym_eq x.sym r))

pub constant_found : (P : Sym → SortId → Type 0) (cs : List ConShape) → All (λ c. P c.sym c.sort) cs → (c : Sym) (s : SortId) → constant_in cs c ≡ Some s → P c s
constant_found P [] h c s is = cc
constant_found P (x ∷ xs) h c s is = ⊎_elim
    (λ e. let found : Some x.sort ≡ Some s = sym (cond-true (sym_eq x.sym c) (Some x.sort) (constant_in xs c) e) ∙ is in
    let same : x.sort ≡ s = cc in
    subst (λ t. P c t) same (subst (λ y. P y x.sort) (sym_eq-true x.sym c e) (All-head (λ c. P c.sym c.sort) x xs h)))
    (λ e. constant_found P xs (All-tail (λ c. P c.sym c.sort) x xs h) c s (sym (cond-false (sym_eq x.sym c) (Some x.sort) (constant_in xs c) e) ∙ is))
    (cases_Bool (sym_eq x.sym c))

tuples_at : (m : Meaning) (rs : List RelShape) (r : Sym) (sorts : List SortId) → relation_in rs r ≡ Some sorts → tuples_in (map (relation_table m) rs) r ≡ filter (m.holds r) (tuples_over m.size sorts)
tuples_at m [] r sorts is = cc
tuples_at m (x ∷ xs) r sorts is = ⊎_elim
    (λ e. let found : Some x.sorts ≡ Some sorts = sym (cond-true (sym_eq x.sym r) (Some x.sorts) (relation_in xs r) e) ∙ is in
    let same : x.sorts ≡ sorts = cc in
    rw (e) (ap₂ (λ y ss. filter (m.holds y) (tuples_over m.size ss)) (sym_eq-true x.sym r e) same))
    (λ e. rw (e) (tuples_at m xs r sorts (sym (cond-false (sym_eq x.sym r) (Some x.sorts) (relation_in xs r) e) ∙ is)))
    (cases_Bool (sym_eq x.sym r))

element_at : (m : Meaning) (cs : List ConShape) (c : Sym) (s : SortId) → constant_in cs c ≡ Some s → element_in (map (constant_entry m) cs) c ≡ m.value c
element_at m [] c s is = cc
element_at m (x ∷ xs) c s is = ⊎_elim
    (λ e. rw (e) (ap m.value (sym_eq-true x.sym c e)))
    (λ e. rw (e) (element_at m xs c s (sym (cond-false (sym_eq x.sym c) (Some x.sort) (constant_in xs c) e) ∙ is)))
    (cases_Bool (sym_eq x.sym c))

-- a relation of the vocabulary has, in the tables, those of its tuples that are in range
pub holds-tables_of : (voc : Vocabulary) (m : Meaning) (r : Sym) (sorts : List SortId) → relation_in voc.relations r ≡ Some sorts → (tuple : List ℕ)
    → holds_in (tables_of voc m) r tuple ≡ (in_range m sorts tuple && m.holds r tuple)
holds-tables_of voc m r sorts is tuple =
    ap (λ ts. has_tuple ts tuple) (tuples_at m voc.relations r sorts is)
    ∙ has_tuple-filter (m.holds r) (tuples_over m.size sorts) tuple
    ∙ ap (λ b. b && m.holds r tuple) (has_tuple-tuples_over m.size sorts tuple)

-- a constant of the vocabulary is the same element in the tables
pub value-tables_of : (voc : Vocabulary) (m : Meaning) (c : Sym) (s : SortId) → constant_in voc.constants c ≡ Some s → value_in (tables_of voc m) c ≡ m.value c
value-tables_of voc m c s is = element_at m voc.constants c s is

pub agrees-tables_of : (voc : Vocabulary) (m : Meaning) → AgreeOn voc m (meaning (tables_of voc m))
agrees-tables_of voc m = record {
  sizes = λ s l. sym (size-tables_of voc m s l);
  relations = λ r sorts is tuple inside. sym (holds-tables_of voc m r sorts is tuple ∙ ap (λ b. b && m.holds r tuple) inside);
  constants = λ c s is. sym (value-tables_of voc m c s is);
}

shapes_after : (m : Meaning) (rs : List RelShape) → map relation_shape (map (relation_table m) rs) ≡ rs
shapes_after m [] = refl
shapes_after m (r ∷ rs) = ap (λ xs. r ∷ xs) (shapes_after m rs)

constants_after : (m : Meaning) (cs : List ConShape) → map constant_shape (map (constant_entry m) cs) ≡ cs
constants_after m [] = refl
constants_after m (c ∷ cs) = ap (λ xs. c ∷ xs) (constants_after m cs)

names_after : (m : Meaning) (rs : List RelShape) → map (λ r. r.sym) (map (relation_table m) rs) ≡ map (λ r. r.sym) rs
names_after m [] = refl
names_after m (r ∷ rs) = ap (λ xs. r.sym ∷ xs) (names_after m rs)

constant_names_after : (m : Meaning) (cs : List ConShape) → map (λ c. c.sym) (map (constant_entry m) cs) ≡ map (λ c. c.sym) cs
constant_names_after m [] = refl
constant_names_after m (c ∷ cs) = ap (λ xs. c.sym ∷ xs) (constant_names_after m cs)

pub vocabulary-tables_of : (voc : Vocabulary) (m : Meaning) → HasVocabulary voc (tables_of voc m)
vocabulary-tables_of voc m = record {
  sorts = length-sizes m 0 voc.sorts;
  relations = shapes_after m voc.relations;
  constants = constants_after m voc.constants;
}

relations_sound : (voc : Vocabulary) (m : Meaning) (rs : List RelShape) → All (λ r. All (λ s. s.0 < voc.sorts) r.sorts) rs → All (IsRelationSound (tables_of voc m).sizes) (map (relation_table m) rs)
relations_sound voc m [] h = All-nil _
relations_sound voc m (r ∷ rs) h = All-cons (IsRelationSound (tables_of voc m).sizes) _ _
    (All-from_has_tuple _ (relation_table m r).tuples (λ tuple e.
    over_same (size_of (tables_of voc m).sizes) m.size voc.sorts (size-tables_of voc m) r.sorts (All-head (λ r. All (λ s. s.0 < voc.sorts) r.sorts) r rs h) tuple
    ∙ sym (has_tuple-tuples_over m.size r.sorts tuple)
    ∙ (and_parts (has_tuple (tuples_over m.size r.sorts) tuple) (m.holds r.sym tuple) (sym (has_tuple-filter (m.holds r.sym) (tuples_over m.size r.sorts) tuple) ∙ e)).0))
    (relations_sound voc m rs (All-tail (λ r. All (λ s. s.0 < voc.sorts) r.sorts) r rs h))

constants_sound : (voc : Vocabulary) (m : Meaning) (cs : List ConShape) → All (λ c. c.sort.0 < voc.sorts) cs → All (λ c. m.value c.sym < m.size c.sort) cs → All (IsConstantSound (tables_of voc m).sizes) (map (constant_entry m) cs)
constants_sound voc m [] h inside = All-nil _
constants_sound voc m (c ∷ cs) h inside = All-cons (IsConstantSound (tables_of voc m).sizes) _ _
    (rw (size-tables_of voc m c.sort (All-head (λ c. c.sort.0 < voc.sorts) c cs h)) (All-head (λ c. m.value c.sym < m.size c.sort) c cs inside))
    (constants_sound voc m cs (All-tail (λ c. c.sort.0 < voc.sorts) c cs h) (All-tail (λ c. m.value c.sym < m.size c.sort) c cs inside))

pub later_differ : {X : Type 0} (xs ys : List X) → AllPairs (λ a b. a ≢ b) (xs ++ ys) → AllPairs (λ a b. a ≢ b) ys
later_differ [] ys h = h
later_differ (x ∷ xs) ys h = later_differ xs ys (λ i j d before lt. h (suc i) (suc j) d (omega arith) (omega arith))

pub not_same : (a b : Sym) → a ≢ b → sym_eq a b ≡ false
not_same a b h = ⊎_elim (λ e. absurd (h (sym_eq-true a b e))) (λ e. e) (cases_Bool (sym_eq a b))

name_at : (cs : List ConShape) (k : ℕ) (d : ConShape) → k < length cs → get_or (map (λ c. c.sym) cs) k d.sym ≡ (get_or cs k d).sym
name_at [] k d l = absurd (omega arith)
name_at (c ∷ cs) zero d l = refl
name_at (c ∷ cs) (suc k) d l = name_at cs k d (omega arith)

length_names : (cs : List ConShape) → length (map (λ c. c.sym) cs) ≡ length cs
length_names [] = refl
length_names (c ∷ cs) = ap suc (length_names cs)

-- where no two constants have one name, each is found under its name
pub each_found : (cs : List ConShape) → AllPairs (λ a b. a ≢ b) (map (λ c. c.sym) cs) → All (λ c. constant_in cs c.sym ≡ Some c.sort) cs
each_found [] h = All-nil (λ c. constant_in [] c.sym ≡ Some c.sort)
each_found (c ∷ cs) h = All-cons (λ x. constant_in (c ∷ cs) x.sym ≡ Some x.sort) c cs
    (rw (sym_eq-refl c.sym) refl)
    (λ k d lt. rw (not_same c.sym (get_or cs k d).sym (λ e. h 0 (suc k) d.sym (omega arith) (omega (arith, lt, length_names cs)) (e ∙ sym (name_at cs k d lt)))) (each_found cs (λ i j x before l. h (suc i) (suc j) x (omega arith) (omega arith)) k d lt))

-- the tables of a structure of a proper vocabulary are sound
pub sound-tables_of : (voc : Vocabulary) (m : Meaning) → IsProper voc → IsStructureOf voc m → IsSound (tables_of voc m)
sound-tables_of voc m proper is = record {
  sizes = sizes_positive m is.sizes 0 voc.sorts;
  relations = relations_sound voc m voc.relations proper.relations;
  constants = constants_sound voc m voc.constants proper.constants (λ k d lt. is.constants (get_or voc.constants k d).sym (get_or voc.constants k d).sort
      (each_found voc.constants (later_differ (map (λ r. r.sym) voc.relations) (map (λ c. c.sym) voc.constants) proper.differ) k d lt));
  differ = subst (λ names. AllPairs (λ a b. a ≢ b) names) (sym (ap₂ (λ xs ys. xs ++ ys) (names_after m voc.relations) (constant_names_after m voc.constants))) proper.differ;
}

-- what code makes of a structure over a sound vocabulary is sound
pub told_is_sound : (voc : Vocabulary) (m : Meaning) (sizes : List ℕ) (relations : List Relation) (constants : List Constant)
    → vocabularies.IsSound voc → IsStructureOf voc m
    → sizes ≡ sizes_from m 0 voc.sorts → relations ≡ map (relation_table m) voc.relations → constants ≡ map (constant_entry m) voc.constants
    → IsSound (record { sizes = sizes; relations = relations; constants = constants })
told_is_sound voc m sizes relations constants sound is a b c = rw (a, b, c) (sound-tables_of voc m proper is)
  where
    proper : IsProper voc
    proper = record { differ = sound.differ; relations = λ k d l. (sound.relations k d l).1; constants = sound.constants }
