-- Structures that agree on a vocabulary have the same tables over it, and the tables break the same pairs.
use Rattle.std.proofs.Common.{◌≡◌, ◌≢◌, ℕ, zero, suc, ◌+◌, ◌<◌, ◌≤◌, Bool, true, false, not, ◌&&◌, cond, ltb, List, [], ◌∷◌, ◌++◌, map, length, get_or, Some, refl, sym, ap, ap₂, ◌∙◌, arith}
use Rattle.std.specs.List.{All, AllPairs, filter}
use Rattle.std.proofs.lemmas.Bool.{and_parts, and_from, lt-ltb}
use Rattle.std.proofs.lemmas.List.Elements.{All-nil, All-cons, All-head, All-tail}
use Rattle.lv_formula.specs.declared.symbols.SortId.{SortId}
use Rattle.lv_formula.specs.declared.symbols.Sym.{Sym}
use Rattle.lv_formula.specs.declared.formula.Formula.{Formula}
use Rattle.lv_formula.specs.declared.vocabulary.ConShape.{ConShape}
use Rattle.lv_formula.specs.declared.vocabulary.RelShape.{RelShape}
use Rattle.lv_formula.specs.declared.vocabulary.Sentences.{Sentences}
use Rattle.lv_formula.specs.declared.vocabulary.Vocabulary.{Vocabulary}
use Rattle.lv_formula.specs.Fits.{all_fit_in, fits_in}
use Rattle.lv_formula.specs.Meaning.{AgreeOn, IsStructureOf, Meaning, in_range}
use Rattle.lv_formula.specs.Pairs.{SentencesFit, breaks}
use Rattle.lv_formula.specs.Truth.{all_true_in}
use Rattle.lv_formula.specs.Tuples.{each_before, tuples_over}
use Rattle.lv_formula.specs.Vocabulary as vocabularies
use Rattle.lv_formula.specs.Vocabulary.{relation_in, constant_in}
use Rattle.lv_formula.proofs.AgreeLaw.{truth_agrees}
use Rattle.lv_formula.proofs.SymbolLaws.{sym_eq-refl}
use Rattle.lv_places.proofs.Universes.{Every_in, every_append}
use Rattle.lv_struct.specs.Tables.{IsSound, meaning}
use Rattle.lv_struct.specs.Tabulation.{constant_entry, relation_table, sizes_from, tables_of}
use Rattle.lv_struct.proofs.Tabulate.{IsProper, agrees-tables_of, each_found, later_differ, not_same, sound-tables_of}

every_map : {A B : Type 0} (P : A → Type 0) (Q : B → Type 0) (f : A → B) (xs : List A) → ((x : A) → P x → Q (f x)) → Every_in P xs → Every_in Q (map f xs)
every_map P Q f [] h k = tt
every_map P Q f (x ∷ xs) h k = (h x k.0, every_map P Q f xs h k.1)

filter_alike : {A : Type 0} (p q : A → Bool) (xs : List A) → Every_in (λ x. p x ≡ q x) xs → filter p xs ≡ filter q xs
filter_alike p q [] h = refl
filter_alike p q (x ∷ xs) h = ap₂ (λ b l. cond b (x ∷ l) l) h.0 (filter_alike p q xs h.1)

sizes_alike : (m n : Meaning) (k j : ℕ) → ((s : SortId) → s.0 < k + j → m.size s ≡ n.size s) → sizes_from m k j ≡ sizes_from n k j
sizes_alike m n k zero h = refl
sizes_alike m n k (suc j) h =
    ap₂ (λ x l. x ∷ l) (h (record { 0 = k }) (omega arith)) (sizes_alike m n (k + 1) j (λ s l. h s (omega arith)))

-- each tuple over the sorts is in range
before_are_in : (m : Meaning) (s : SortId) (ss : List SortId) (k : ℕ) (rest : List (List ℕ)) → k ≤ m.size s → Every_in (λ t. in_range m ss t ≡ true) rest
    → Every_in (λ t. in_range m (s ∷ ss) t ≡ true) (each_before k rest)
before_are_in m s ss zero rest l h = tt
before_are_in m s ss (suc k) rest l h =
    every_append (λ t. in_range m (s ∷ ss) t ≡ true) (each_before k rest) (map (λ t. k ∷ t) rest) (before_are_in m s ss k rest (omega arith) h)
    (every_map (λ t. in_range m ss t ≡ true) (λ t. in_range m (s ∷ ss) t ≡ true) (λ t. k ∷ t) rest
    (λ t e. and_from (ltb k (m.size s)) (in_range m ss t) (lt-ltb k (m.size s) (omega arith)) e) h)

tuples_are_in : (m : Meaning) (ss : List SortId) → Every_in (λ t. in_range m ss t ≡ true) (tuples_over m.size ss)
tuples_are_in m [] = (refl, tt)
tuples_are_in m (s ∷ ss) = before_are_in m s ss (m.size s) (tuples_over m.size ss) (omega arith) (tuples_are_in m ss)

tuples_alike : (voc : Vocabulary) (m n : Meaning) → AgreeOn voc m n → (ss : List SortId) → All (λ s. s.0 < voc.sorts) ss
    → tuples_over m.size ss ≡ tuples_over n.size ss
tuples_alike voc m n agrees [] inside = refl
tuples_alike voc m n agrees (s ∷ ss) inside =
    ap₂ each_before (agrees.sizes s (All-head (λ s. s.0 < voc.sorts) s ss inside))
    (tuples_alike voc m n agrees ss (All-tail (λ s. s.0 < voc.sorts) s ss inside))

every_weaker : {A : Type 0} (P Q : A → Type 0) (xs : List A) → ((x : A) → P x → Q x) → Every_in P xs → Every_in Q xs
every_weaker P Q [] f h = tt
every_weaker P Q (x ∷ xs) f h = (f x h.0, every_weaker P Q xs f h.1)

module _ (voc : Vocabulary) (m n : Meaning) (agrees : AgreeOn voc m n) where
  relation_alike : (r : RelShape) → relation_in voc.relations r.sym ≡ Some r.sorts → All (λ s. s.0 < voc.sorts) r.sorts
      → relation_table m r ≡ relation_table n r
  relation_alike r here inside =
      let e : filter (m.holds r.sym) (tuples_over m.size r.sorts) ≡ filter (n.holds r.sym) (tuples_over n.size r.sorts) =
      filter_alike (m.holds r.sym) (n.holds r.sym) (tuples_over m.size r.sorts)
      (every_weaker (λ t. in_range m r.sorts t ≡ true) (λ t. m.holds r.sym t ≡ n.holds r.sym t) (tuples_over m.size r.sorts)
      (λ t q. agrees.relations r.sym r.sorts here t q) (tuples_are_in m r.sorts))
      ∙ ap (filter (n.holds r.sym)) (tuples_alike voc m n agrees r.sorts inside) in
      ap (λ ts. record { sym = r.sym; sorts = r.sorts; tuples = ts }) e

  relations_alike : (rs : List RelShape) → All (λ r. relation_in voc.relations r.sym ≡ Some r.sorts) rs
      → All (λ r. All (λ s. s.0 < voc.sorts) r.sorts) rs → map (relation_table m) rs ≡ map (relation_table n) rs
  relations_alike [] here inside = refl
  relations_alike (r ∷ rs) here inside =
      ap₂ (λ x l. x ∷ l) (relation_alike r (All-head (λ r. relation_in voc.relations r.sym ≡ Some r.sorts) r rs here) (All-head (λ r. All (λ s. s.0 < voc.sorts) r.sorts) r rs inside))
      (relations_alike rs (All-tail (λ r. relation_in voc.relations r.sym ≡ Some r.sorts) r rs here) (All-tail (λ r. All (λ s. s.0 < voc.sorts) r.sorts) r rs inside))

  constants_alike : (cs : List ConShape) → All (λ c. constant_in voc.constants c.sym ≡ Some c.sort) cs
      → map (constant_entry m) cs ≡ map (constant_entry n) cs
  constants_alike [] here = refl
  constants_alike (c ∷ cs) here =
      ap₂ (λ x l. x ∷ l) (ap (λ e. record { sym = c.sym; sort = c.sort; element = e }) (agrees.constants c.sym c.sort (All-head (λ c. constant_in voc.constants c.sym ≡ Some c.sort) c cs here)))
      (constants_alike cs (All-tail (λ c. constant_in voc.constants c.sym ≡ Some c.sort) c cs here))

-- ---- a sound vocabulary

name_at : (rs : List RelShape) (more : List Sym) (k : ℕ) (d : RelShape) → k < length rs
    → get_or (map (λ (r : RelShape). r.sym) rs ++ more) k d.sym ≡ (get_or rs k d).sym
name_at [] more k d l = absurd (omega arith)
name_at (r ∷ rs) more zero d l = refl
name_at (r ∷ rs) more (suc k) d l = name_at rs more k d (omega arith)

length_names : (rs : List RelShape) (more : List Sym) → length rs ≤ length (map (λ (r : RelShape). r.sym) rs ++ more)
length_names [] more = omega arith
length_names (r ∷ rs) more = let h = length_names rs more in omega (arith, h)

-- where no two symbols have one name, each relation is found under its name
relations_found : (rs : List RelShape) (more : List Sym) → AllPairs (λ a b. a ≢ b) (map (λ (r : RelShape). r.sym) rs ++ more)
    → All (λ r. relation_in rs r.sym ≡ Some r.sorts) rs
relations_found [] more h = All-nil (λ r. relation_in [] r.sym ≡ Some r.sorts)
relations_found (r ∷ rs) more h = All-cons (λ x. relation_in (r ∷ rs) x.sym ≡ Some x.sorts) r rs
    (rw (sym_eq-refl r.sym) refl)
    (λ k d lt. rw (not_same r.sym (get_or rs k d).sym
    (λ e. h 0 (suc k) d.sym (omega arith) (omega (arith, lt, length_names rs more)) (e ∙ sym (name_at rs more k d lt))))
    (relations_found rs more (λ i j x before l. h (suc i) (suc j) x (omega arith) (omega arith)) k d lt))

proper : (voc : Vocabulary) → vocabularies.IsSound voc → IsProper voc
proper voc sound = record { differ = sound.differ; relations = λ k d l. (sound.relations k d l).1; constants = sound.constants }

pub tables_alike : (voc : Vocabulary) (m n : Meaning) → vocabularies.IsSound voc → AgreeOn voc m n → tables_of voc m ≡ tables_of voc n
tables_alike voc m n sound agrees =
    let s = sizes_alike m n 0 voc.sorts (λ s l. agrees.sizes s (omega (arith, l))) in
    let r = relations_alike voc m n agrees voc.relations
    (relations_found voc.relations (map (λ (c : ConShape). c.sym) voc.constants) sound.differ) (proper voc sound).relations in
    let c = constants_alike voc m n agrees voc.constants
    (each_found voc.constants (later_differ (map (λ (r : RelShape). r.sym) voc.relations) (map (λ (c : ConShape). c.sym) voc.constants) sound.differ)) in
    cc

all_true_alike : (voc : Vocabulary) (m n : Meaning) → IsStructureOf voc m → AgreeOn voc m n → (fs : List Formula) → all_fit_in voc [] fs ≡ true
    → all_true_in m fs [] ≡ all_true_in n fs []
all_true_alike voc m n is agrees [] h = refl
all_true_alike voc m n is agrees (f ∷ fs) h =
    let both = and_parts (fits_in voc [] f) (all_fit_in voc [] fs) h in
    ap₂ (λ a b. a && b) (truth_agrees voc m n is agrees f [] [] both.0 refl) (all_true_alike voc m n is agrees fs both.1)

-- what a structure breaks, its tables break
pub tables_break : (voc : Vocabulary) (m : Meaning) → IsStructureOf voc m → (s : Sentences) → SentencesFit voc s
    → breaks m s ≡ breaks (meaning (tables_of voc m)) s
tables_break voc m is s fit =
    ap₂ (λ a b. a && not b) (all_true_alike voc m (meaning (tables_of voc m)) is (agrees-tables_of voc m) s.hypotheses fit.hypotheses)
    (truth_agrees voc m (meaning (tables_of voc m)) is (agrees-tables_of voc m) s.conclusion [] [] fit.conclusion refl)

pub tables_are_sound : (voc : Vocabulary) (m : Meaning) → vocabularies.IsSound voc → IsStructureOf voc m → IsSound (tables_of voc m)
tables_are_sound voc m sound is = sound-tables_of voc m (proper voc sound) is
