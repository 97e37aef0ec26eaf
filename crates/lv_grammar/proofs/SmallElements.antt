-- The elements of a structure with few in each sort are small, and tuples of a relation are in range.
use Rattle.std.proofs.Common.{◌≡◌, ℕ, zero, suc, ◌≤◌, Bool, true, false, ◌&&◌, ◌||◌, cond, ltb, List, [], ◌∷◌, get_or, Some, refl, sym, ap, ◌∙◌, arith}
use Rattle.std.specs.List.{All}
use Rattle.std.proofs.lemmas.Bool.{and_parts, ltb-true}
use Rattle.std.proofs.lemmas.List.Elements.{All-head, All-tail}
use Rattle.lv_formula.specs.declared.symbols.SortId.{SortId}
use Rattle.lv_formula.specs.declared.symbols.Sym.{Sym}
use Rattle.lv_formula.specs.declared.vocabulary.Vocabulary.{Vocabulary}
use Rattle.lv_formula.specs.Symbols.{sym_eq}
use Rattle.lv_formula.specs.Vocabulary.{relation_in}
use Rattle.lv_struct.specs.declared.tables.Constant.{Constant}
use Rattle.lv_struct.specs.Tables.{HasVocabulary, IsConstantSound, IsInRange, IsSound, Tables, element_in, holds_in, size_in, size_of}
use Rattle.lv_formula.specs.Tuples.{has_tuple, over, tuples_over}
use Rattle.lv_struct.proofs.RangeLaws.{tuples_in_range}
use Rattle.lv_struct.proofs.TupleLaws.{All-from_has_tuple, has_tuple-filter, has_tuple-tuples_over}
use Rattle.lv_grammar.specs.ShownStructures.{tuples_shown}

module _ (voc : Vocabulary) (w : Tables) (sound : IsSound w) (has : HasVocabulary voc w) where
  -- the tuples that are shown are those of the relation
  pub shown_same : (name : Sym) (sorts : List SortId) → relation_in voc.relations name ≡ Some sorts → (tuple : List ℕ) → has_tuple (tuples_shown w sorts name) tuple ≡ holds_in w name tuple
  shown_same name sorts is tuple =
      has_tuple-filter (holds_in w name) (tuples_over (size_in w) sorts) tuple
      ∙ ap (λ b. b && holds_in w name tuple) (has_tuple-tuples_over (size_in w) sorts tuple)
      ∙ go (holds_in w name tuple) (tuples_in_range voc w sound has name sorts is tuple)
    where
      go : (b : Bool) → (b ≡ true → IsInRange w.sizes sorts tuple) → (over (λ s x. ltb x (size_in w s)) sorts tuple && b) ≡ b
      go true h = rw (h refl) refl
      go false h = and_false (over (λ s x. ltb x (size_in w s)) sorts tuple)
        where
          and_false : (b : Bool) → (b && false) ≡ false
          and_false true = refl
          and_false false = refl

  pub shown_in_range : (name : Sym) (sorts : List SortId) → relation_in voc.relations name ≡ Some sorts → All (IsInRange w.sizes sorts) (tuples_shown w sorts name)
  shown_in_range name sorts is = All-from_has_tuple (IsInRange w.sizes sorts) (tuples_shown w sorts name) (λ tuple h. tuples_in_range voc w sound has name sorts is tuple (sym (shown_same name sorts is tuple) ∙ h))

-- ---- few elements

pub size_few : (sizes : List ℕ) → All (λ n. n ≤ 256) sizes → (s : SortId) → size_of sizes s ≤ 256
size_few sizes few s = at sizes few s.0
  where
    at : (ns : List ℕ) → All (λ n. n ≤ 256) ns → (i : ℕ) → get_or ns i 1 ≤ 256
    at [] few i = omega arith
    at (n ∷ ns) few zero = All-head (λ n. n ≤ 256) n ns few
    at (n ∷ ns) few (suc i) = at ns (All-tail (λ n. n ≤ 256) n ns few) i

pub value_few : (sizes : List ℕ) → All (λ n. n ≤ 256) sizes → (cs : List Constant) → All (IsConstantSound sizes) cs → (name : Sym) → element_in cs name ≤ 256
value_few sizes few [] sound name = omega arith
value_few sizes few (c ∷ cs) sound name = go (sym_eq c.sym name) (value_few sizes few cs (All-tail (IsConstantSound sizes) c cs sound) name)
  where
    go : (b : Bool) → element_in cs name ≤ 256 → cond b c.element (element_in cs name) ≤ 256
    go true ih = let below = All-head (IsConstantSound sizes) c cs sound in let small = size_few sizes few c.sort in omega (arith, below, small)
    go false ih = ih

-- each number of a tuple in range
pub tuple_few : (sizes : List ℕ) → All (λ n. n ≤ 256) sizes → (sorts : List SortId) (tuple : List ℕ) → IsInRange sizes sorts tuple → All (λ n. n ≤ 256) tuple
tuple_few sizes few sorts [] h = λ k d l. absurd (omega (arith, l))
tuple_few sizes few [] (x ∷ xs) h = absurd cc
tuple_few sizes few (s ∷ ss) (x ∷ xs) h =
    let both = and_parts (ltb x (size_of sizes s)) (over (λ s x. ltb x (size_of sizes s)) ss xs) h in
    let below = ltb-true x (size_of sizes s) both.0 in
    let small = size_few sizes few s in
    cons (omega (arith, below, small)) (tuple_few sizes few ss xs both.1)
  where
    cons : x ≤ 256 → All (λ n. n ≤ 256) xs → All (λ n. n ≤ 256) (x ∷ xs)
    cons a b zero d l = a
    cons a b (suc k) d l = b k d (omega (arith, l))
