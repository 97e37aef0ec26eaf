-- What is shown for a structure can be written.
use Rattle.std.proofs.Common.{◌≡◌, ℕ, suc, ◌+◌, ◌-◌, ◌<◌, ◌≤◌, ◌^◌, Bool, true, false, cond, List, [], ◌∷◌, ◌++◌, map, length, Option, Some, None, refl, arith}
use Rattle.std.specs.Prelude.{codes, decimal}
use Rattle.std.specs.List.{All, filter}
use Rattle.std.proofs.lemmas.Bool.{lt-ltb, le-leb}
use Rattle.std.proofs.lemmas.Fmt.{decimal_nonempty}
use Rattle.std.proofs.lemmas.List.Elements.{All-head, All-tail}
use Rattle.lv_tree.specs.declared.tree.Tree.{Tree}
use Rattle.lv_tree.specs.Spelling.{all_fit_in, fits_in, is_text}
use Rattle.lv_formula.specs.declared.symbols.SortId.{SortId}
use Rattle.lv_formula.specs.declared.symbols.Sym.{Sym}
use Rattle.lv_formula.specs.declared.vocabulary.Vocabulary.{Vocabulary}
use Rattle.lv_formula.specs.Vocabulary.{relation_in}
use Rattle.lv_struct.specs.Tables.{IsInRange, Tables, holds_in, size_in}
use Rattle.lv_formula.specs.Tuples.{tuples_over}
use Rattle.lv_struct.proofs.TupleLaws.{in_range-tuples_over}
use Rattle.lv_system.specs.declared.parts.Parts.{Parts}
use Rattle.lv_grammar.specs.Words.{sort_name, symbol_word}
use Rattle.lv_grammar.specs.ShownFormulas.{word}
use Rattle.lv_grammar.specs.HaveWords.{has_word}
use Rattle.lv_grammar.proofs.FormulaFits.{decimal_bytes, decimal_short, items_fit, list_fits, many_parts, two_parts, word_fits}
use Rattle.lv_system.proofs.FitsFacts.{tests}
use Rattle.lv_grammar.proofs.SymbolWords.{have_names, short_sort, short_text}
use Rattle.lv_grammar.specs.StructureLaws.{StructureCanBeShown}
use Rattle.lv_grammar.specs.ShownStructures.{number, shown_entry, shown_entry_of, shown_parts, shown_size, shown_sizes, shown_tuple}
use Rattle.lv_grammar.proofs.SmallElements.{tuple_few, value_few}

number_text : (n : ℕ) → n ≤ 256 → is_text (decimal n) ≡ true
number_text n few =
    let small : n < 2 ^ 64 = omega (arith, few) in
    let short = decimal_short n small in
    rw (lt-ltb 0 (length (decimal n)) (decimal_nonempty n small), le-leb (length (decimal n)) 64 (omega (arith, short)), decimal_bytes n small) refl

number_fits : (room n : ℕ) → n ≤ 256 → fits_in room (number n) ≡ true
number_fits room n few = word_fits room (decimal n) (number_text n few)

pub numbers_fit : (room : ℕ) (ns : List ℕ) → All (λ n. n ≤ 256) ns → all_fit_in room (map number ns) ≡ true
numbers_fit room [] few = refl
numbers_fit room (n ∷ ns) few = items_fit room (number n) (map number ns) (number_fits room n (All-head (λ n. n ≤ 256) n ns few)) (numbers_fit room ns (All-tail (λ n. n ≤ 256) n ns few))

-- tuples over sorts, and those of them that pass a test
tuples_fit : (sizes : List ℕ) → All (λ n. n ≤ 256) sizes → (sorts : List SortId) (p : List ℕ → Bool) (ts : List (List ℕ)) → All (IsInRange sizes sorts) ts → (room : ℕ) → 0 < room → all_fit_in room (map shown_tuple (filter p ts)) ≡ true
tuples_fit sizes few sorts p [] inside room lt = refl
tuples_fit sizes few sorts p (t ∷ ts) inside room lt = go (p t) (tuples_fit sizes few sorts p ts (All-tail (IsInRange sizes sorts) t ts inside) room lt)
  where
    go : (b : Bool) → all_fit_in room (map shown_tuple (filter p ts)) ≡ true → all_fit_in room (map shown_tuple (cond b (t ∷ filter p ts) (filter p ts))) ≡ true
    go true ih = items_fit room (shown_tuple t) (map shown_tuple (filter p ts))
        (list_fits room (map number t) lt (numbers_fit (room - 1) t (tuple_few sizes few sorts t (All-head (IsInRange sizes sorts) t ts inside)))) ih
    go false ih = ih

module _ (p : Parts) (voc : Vocabulary) (w : Tables) (can : StructureCanBeShown p voc w) (room : ℕ) (lt : 2 < room) where
  entry_fits : (name : Sym) → has_word p name ≡ true → fits_in room (shown_entry p voc w name) ≡ true
  entry_fits name h = go (relation_in voc.relations name)
    where
      go : (o : Option (List SortId)) → fits_in room (shown_entry_of p w o name) ≡ true
      go None = two_parts (codes "constant") (word (symbol_word p name)) (number _) room refl (omega (arith, lt)) (word_fits (room - 1) (symbol_word p name) h)
          (number_fits (room - 1) _ (value_few w.sizes can.few w.constants can.sound.constants name))
      go (Some sorts) = many_parts (codes "relation") _ room refl (omega (arith, lt))
          (items_fit (room - 1) (word (symbol_word p name)) _ (word_fits (room - 1) (symbol_word p name) h) (tuples_fit w.sizes can.few sorts (holds_in w name) (tuples_over (size_in w) sorts) (in_range-tuples_over (size_in w) sorts) (room - 1) (omega (arith, lt))))

  entries_fit : (names : List Sym) → All (λ name. has_word p name ≡ true) names → all_fit_in room (map (shown_entry p voc w) names) ≡ true
  entries_fit [] h = refl
  entries_fit (n ∷ ns) h = items_fit room (shown_entry p voc w n) (map (shown_entry p voc w) ns) (entry_fits n (All-head (λ name. has_word p name ≡ true) n ns h)) (entries_fit ns (All-tail (λ name. has_word p name ≡ true) n ns h))

  sizes_fit : (k : ℕ) (ns : List ℕ) → k + length ns ≤ voc.sorts → All (λ n. n ≤ 256) ns → (more : List Tree) → all_fit_in room more ≡ true → all_fit_in room (shown_sizes p k ns ++ more) ≡ true
  sizes_fit k [] inside few more h = h
  sizes_fit k (n ∷ ns) inside few more h = items_fit room (shown_size p (record { 0 = k }) n) (shown_sizes p (suc k) ns ++ more)
      (two_parts (codes "size") (word (sort_name p (record { 0 = k }))) (number n) room refl (omega (arith, lt)) (word_fits (room - 1) (sort_name p (record { 0 = k })) (short_text (short_sort p (have_names p (tests p can.fits).names) (record { 0 = k }) (omega (arith, inside, can.words.sorts))))) (number_fits (room - 1) n (All-head (λ n. n ≤ 256) n ns few)))
      (sizes_fit (suc k) ns (omega (arith, inside)) (All-tail (λ n. n ≤ 256) n ns few) more h)

  pub parts_fit : all_fit_in room (shown_parts p voc w) ≡ true
  parts_fit = sizes_fit 0 w.sizes (omega (arith, can.vocabulary.sorts)) can.few (map (shown_entry p voc w) voc.order) (entries_fit voc.order can.words.symbols)
