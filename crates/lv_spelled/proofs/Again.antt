-- What is read of numbers, sizes, tuples and entries that are written as they should be.
use Rattle.std.proofs.Common.{◌≡◌, ℕ, zero, suc, ◌<◌, ◌≤◌, ◌^◌, Bool, true, false, eqb, ltb, List, [], ◌∷◌, ◌++◌, length, get_or, Ok, refl, ap, arith}
use Rattle.std.specs.Prelude.{not, ◌||◌, codes, decimal}
use Rattle.std.specs.List.{All}
use Rattle.std.specs.Str.{all_ascii_digits}
use Rattle.std.proofs.lemmas.Bool.{and_parts, eq-eqb, eqb-true, le-leb, lt-ltb, ne_eqb, le-ltb}
use Rattle.std.proofs.lemmas.Fmt.{decimal_digit, decimal_nonempty, digits_decimal, digits_value-decimal, first_decimal, length-decimal-le}
use Rattle.std.proofs.lemmas.List.Elements.{All-head, All-tail}
use Rattle.lv_tree.specs.declared.tree.Tree.{Tree}
use Rattle.lv_formula.specs.declared.symbols.SortId.{SortId}
use Rattle.lv_formula.specs.declared.symbols.Sym.{Sym}
use Rattle.lv_formula.specs.Tuples.{over}
use Rattle.lv_struct.specs.Tables.{IsInRange, Tables, size_of, value_in}
use Rattle.lv_system.specs.declared.parts.Parts.{Parts}
use Rattle.lv_grammar.specs.Grammar.{Each, IsWord, first_and_rest}
use Rattle.lv_grammar.specs.Structures.{AreSizes, IsConstant, IsRelation, IsSize, IsTuple, no_sizes, sizes}
use Rattle.lv_grammar.specs.Words.{sort_name, symbol_word}
use Rattle.lv_grammar.proofs.SmallElements.{tuple_few}
use Rattle.lv_reading.specs.Numbers.{element_in, exactly_in, is_number, number_in, value_from}
use Rattle.lv_reading.specs.Structures.{constant_entry, each_element, elements_in, next_size, relation_entry, size_in, sizes_in, tuple_in, tuples_in}
use Rattle.lv_reading.proofs.NumberLaws.{own}
use Rattle.lv_grammar.proofs.SameTexts.{same_self}
use Rattle.lv_grammar.proofs.TreesAgain.{headed_by, list_again, word_again}

-- ---- words and numbers

exactly_again : (text : List ℕ) (t : Tree) → IsWord text t → exactly_in text t ≡ Ok tt
exactly_again text t is = let w = word_again t text is in rw (w.1, same_self text) refl

digits_are_number : (ds : List ℕ) → all_ascii_digits ds ≡ true → 0 < length ds → length ds ≤ 9 → (get_or ds 0 0 ≡ 48 → length ds ≡ 1) → is_number ds ≡ true
digits_are_number [] digits some few alone = absurd (omega (arith, some))
digits_are_number (c ∷ cs) digits some few alone = rw (digits, le-leb (length (c ∷ cs)) 9 few) (go (eqb c 48) refl)
  where
    go : (b : Bool) → eqb c 48 ≡ b → (not b || eqb (length (c ∷ cs)) 1) ≡ true
    go true e = eq-eqb (length (c ∷ cs)) 1 (alone (eqb-true c 48 e))
    go false e = refl

abbrev small_bound : ℕ
small_bound = 1000000000

decimal_number : (n : ℕ) → n < small_bound → is_number (decimal n) ≡ true
decimal_number n small =
    let fits : n < 2 ^ 64 = omega (arith, small) in
    digits_are_number (decimal n) (digits_decimal own n fits) (decimal_nonempty n fits) (length-decimal-le 9 n (omega arith) small fits) (alone n fits)
  where
    alone : (n : ℕ) → n < 2 ^ 64 → get_or (decimal n) 0 0 ≡ 48 → length (decimal n) ≡ 1
    alone zero fits e = ap length (decimal_digit 0 (omega arith))
    alone (suc n) fits e = let above = first_decimal (suc n) (omega arith) fits in absurd (omega (arith, above, e))

-- the number, at some place
pub number_again : (t : Tree) (n : ℕ) → n ≤ 256 → IsWord (decimal n) t → (at : ℕ) × (number_in t ≡ Ok (record { at = at; value = n }))
number_again t n few is =
    let w = word_again t (decimal n) is in
    let value : value_from 0 (decimal n) ≡ n = digits_value-decimal own n (omega (arith, few)) in
    (w.0, rw (w.1, decimal_number n (omega (arith, few)), value) refl)

pub element_again : (size : ℕ) (t : Tree) (n : ℕ) → n ≤ 256 → ltb n size ≡ true → IsWord (decimal n) t → element_in size t ≡ Ok n
element_again size t n few below is = let m = number_again t n few is in rw (m.1, below) refl

-- ---- sizes

size_again : (p : Parts) (s : SortId) (n : ℕ) (t : Tree) → 0 < n → IsSize p s n t → size_in (sort_name p s) t ≡ Ok n
unfolding size_in
size_again p s n t some i =
    let l = headed_by t i.h (i.sort ∷ i.number ∷ []) (codes "size") i.list i.head in
    let m = number_again i.number n i.few i.size in
    rw (l.is, exactly_again (sort_name p s) i.sort i.name, m.1, ne_eqb n 0 (λ e. absurd (omega (arith, some, e))), le-ltb 256 n i.few) refl

pub sizes_again : (p : Parts) (end k : ℕ) (ns : List ℕ) (us more : List Tree) → All (λ n. 0 < n) ns → AreSizes p k ns us → sizes_in p end k (length ns) (us ++ more) ≡ Ok (ns, more)
unfolding sizes_in next_size
sizes_again p end k [] us more some no_sizes = refl
sizes_again p end k (n ∷ ns) [] more some h = elim h [ ]
sizes_again p end k (n ∷ ns) (u ∷ us) more some (sizes h hs) =
    rw (size_again p (record { 0 = k }) n u (All-head (λ n. 0 < n) n ns some) h, sizes_again p end (suc k) ns us more (All-tail (λ n. 0 < n) n ns some) hs) refl

-- ---- tuples

module _ (ranges : List ℕ) (few : All (λ n. n ≤ 256) ranges) (sorts : List SortId) where
  pub elements_again : (ss : List SortId) (es : List ℕ) (ts : List Tree) → All (λ n. n ≤ 256) es → IsInRange ranges ss es → Each (λ n a. IsWord (decimal n) a) es ts → (length ts ≡ length ss) × (each_element ranges ss ts ≡ Ok es)
  unfolding each_element
  elements_again [] [] [] small inside is = (refl, refl)
  elements_again [] [] (t ∷ ts) small inside is = elim is [ ]
  elements_again [] (e ∷ es) ts small inside is = absurd cc
  elements_again (s ∷ ss) [] ts small inside is = absurd cc
  elements_again (s ∷ ss) (e ∷ es) [] small inside is = elim is [ ]
  elements_again (s ∷ ss) (e ∷ es) (t ∷ ts) small inside (first_and_rest is rest) =
      let both = and_parts (ltb e (size_of ranges s)) (over (λ s x. ltb x (size_of ranges s)) ss es) inside in
      let more = elements_again ss es ts (All-tail (λ n. n ≤ 256) e es small) both.1 rest in
      (ap suc more.0, rw (element_again (size_of ranges s) t e (All-head (λ n. n ≤ 256) e es small) both.0 is, more.1) refl)

  tuple_again : (tuple : List ℕ) (t : Tree) → IsInRange ranges sorts tuple → IsTuple tuple t → tuple_in ranges sorts t ≡ Ok tuple
  unfolding tuple_in elements_in
  tuple_again tuple t inside is =
      let l = list_again t is.0 is.1 in
      let es = elements_again sorts tuple is.0 (tuple_few ranges few sorts tuple inside) inside is.2 in
      rw (l.1, eq-eqb (length is.0) (length sorts) es.0, es.1) refl

  pub tuples_again : (tuples : List (List ℕ)) (ts : List Tree) → All (IsInRange ranges sorts) tuples → Each IsTuple tuples ts → tuples_in ranges sorts ts ≡ Ok tuples
  unfolding tuples_in
  tuples_again [] [] inside is = refl
  tuples_again [] (t ∷ ts) inside is = elim is [ ]
  tuples_again (x ∷ xs) [] inside is = elim is [ ]
  tuples_again (x ∷ xs) (t ∷ ts) inside (first_and_rest is rest) =
      rw (tuple_again x t (All-head (IsInRange ranges sorts) x xs inside) is, tuples_again xs ts (All-tail (IsInRange ranges sorts) x xs inside) rest) refl

-- ---- entries

pub relation_again : (p : Parts) (w : Tables) → All (λ n. n ≤ 256) w.sizes → (sorts : List SortId) (s : Sym) (t : Tree) (i : IsRelation p w sorts s t) → relation_entry w.sizes sorts (symbol_word p s) t ≡ Ok i.tuples
unfolding relation_entry
relation_again p w few sorts s t i =
    let l = headed_by t i.h (i.word ∷ i.items) (codes "relation") i.list i.head in
    rw (l.is, exactly_again (symbol_word p s) i.word i.name) (tuples_again w.sizes few sorts i.tuples i.items i.in_range i.listed)

pub constant_again : (p : Parts) (w : Tables) (size : ℕ) (s : Sym) (t : Tree) → value_in w s ≤ 256 → value_in w s < size → IsConstant p w s t → constant_entry size (symbol_word p s) t ≡ Ok (value_in w s)
unfolding constant_entry
constant_again p w size s t few below i =
    let l = headed_by t i.h (i.word ∷ i.element ∷ []) (codes "constant") i.list i.head in
    rw (l.is, exactly_again (symbol_word p s) i.word i.name, element_again size i.element (value_in w s) few (lt-ltb (value_in w s) size below) i.value) refl
