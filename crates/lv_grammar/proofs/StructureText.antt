-- The text that is shown for a structure spells it.
use Rattle.std.proofs.Common.{◌≡◌, ℕ, suc, ◌+◌, ◌≤◌, true, List, [], ◌∷◌, ◌++◌, map, length, Option, Some, None, refl, sym, ap, ◌∙◌, arith}
use Rattle.std.specs.Prelude.{codes, decimal, not}
use Rattle.std.specs.List.{All}
use Rattle.std.proofs.lemmas.List.Elements.{All-head, All-tail}
use Rattle.lv_tree.specs.declared.tree.Tree.{Tree, fold-roll-Tree, roll-Tree}
use Rattle.lv_tree.specs.declared.tree.Tree.TheOpen.{Word, Group}
use Rattle.lv_tree.specs.declared.tree.Tree.TheVariants.{rolls-Group, rolls-Word}
use Rattle.lv_tree.specs.Bytes.{goes_on_with, is_word_byte}
use Rattle.lv_tree.specs.Spelling.{Closes, Lexes, SpellsTree, all_fit_in, closes, end, opens, white, word as lexes_word}
use Rattle.lv_tree.specs.Writing.{bare, bare_step}
use Rattle.lv_tree.proofs.Trees.{fits_roll, tokens_roll}
use Rattle.lv_formula.specs.declared.symbols.SortId.{SortId}
use Rattle.lv_formula.specs.declared.symbols.Sym.{Sym}
use Rattle.lv_formula.specs.declared.vocabulary.Vocabulary.{Vocabulary}
use Rattle.lv_formula.specs.Vocabulary.{relation_in}
use Rattle.lv_struct.specs.Tables.{Tables}
use Rattle.lv_system.specs.declared.parts.Parts.{Parts}
use Rattle.lv_grammar.specs.Words.{sort_name, symbol_word}
use Rattle.lv_grammar.specs.Grammar.{Each, IsWord, first_and_rest, nothing}
use Rattle.lv_grammar.specs.ShownFormulas.{list, word}
use Rattle.lv_grammar.specs.Layout.{in_lines}
use Rattle.lv_grammar.proofs.LayoutLaw.{lines}
use Rattle.lv_grammar.proofs.Likeness.{front, like_list, like_word, none_like, parted, three, two_first}
use Rattle.lv_grammar.specs.StructureLaws.{StructureCanBeShown}
use Rattle.lv_grammar.specs.ShownStructures.{number, shown_entry, shown_entry_of, shown_parts, shown_size, shown_sizes, shown_structure, shown_tuple, structure_tree, tuples_shown}
use Rattle.lv_grammar.specs.Structures.{AreSizes, IsEntry, IsEntryOf, IsSize, IsStructure, IsTuple, SpellsStructure, no_sizes, sizes}
use Rattle.lv_grammar.proofs.StructureFits.{parts_fit}
use Rattle.lv_grammar.proofs.SmallElements.{shown_in_range, shown_same}

-- ---- trees that are the shown ones but for places

pub numbers_shown : (ns : List ℕ) (us : List Tree) → map bare us ≡ map bare (map number ns) → Each (λ n t. IsWord (decimal n) t) ns us
numbers_shown [] us e = rw (none_like us e) nothing
numbers_shown (n ∷ ns) [] e = absurd cc
numbers_shown (n ∷ ns) (u ∷ us) e = first_and_rest (like_word u (decimal n) (cc)) (numbers_shown ns us (cc))

tuple_shown : (tuple : List ℕ) (u : Tree) → bare u ≡ bare (shown_tuple tuple) → IsTuple tuple u
tuple_shown tuple u e = let l = like_list u (map number tuple) e in (l.own, l.is, numbers_shown tuple l.own l.same)

tuples_spelled : (ts : List (List ℕ)) (us : List Tree) → map bare us ≡ map bare (map shown_tuple ts) → Each IsTuple ts us
tuples_spelled [] us e = rw (none_like us e) nothing
tuples_spelled (t ∷ ts) [] e = absurd cc
tuples_spelled (t ∷ ts) (u ∷ us) e = first_and_rest (tuple_shown t u (cc)) (tuples_spelled ts us (cc))

module _ (p : Parts) where
  size_shown : (s : SortId) (n : ℕ) (u : Tree) → n ≤ 256 → bare u ≡ bare (shown_size p s n) → IsSize p s n u
  size_shown s n u few e =
      let k = three u _ _ _ e in
      record { h = k.a; sort = k.b; number = k.c; list = k.is; head = like_word k.a (codes "size") k.first; name = like_word k.b (sort_name p s) k.second; size = like_word k.c (decimal n) k.third; few = few }

  sizes_shown : (k : ℕ) (ns : List ℕ) (us : List Tree) → All (λ n. n ≤ 256) ns → map bare us ≡ map bare (shown_sizes p k ns) → AreSizes p k ns us
  sizes_shown k [] us few e = rw (none_like us e) no_sizes
  sizes_shown k (n ∷ ns) [] few e = absurd cc
  sizes_shown k (n ∷ ns) (u ∷ us) few e = sizes (size_shown (record { 0 = k }) n u (All-head (λ n. n ≤ 256) n ns few) (cc)) (sizes_shown (suc k) ns us (All-tail (λ n. n ≤ 256) n ns few) (cc))

  module _ (voc : Vocabulary) (w : Tables) (can : StructureCanBeShown p voc w) where
    entry_shown : (name : Sym) (u : Tree) → bare u ≡ bare (shown_entry p voc w name) → IsEntry p voc w name u
    entry_shown name u e = go (relation_in voc.relations name) refl e
      where
        go : (o : Option (List SortId)) → relation_in voc.relations name ≡ o → bare u ≡ bare (shown_entry_of p w o name) → IsEntryOf p w o name u
        go None is e =
            let k = three u _ _ _ e in
            record { h = k.a; word = k.b; element = k.c; list = k.is; head = like_word k.a (codes "constant") k.first; name = like_word k.b (symbol_word p name) k.second; value = like_word k.c _ k.third }
        go (Some sorts) is e =
            let k = two_first u _ _ _ e in
            record {
              h = k.a;
              word = k.b;
              items = k.rest;
              list = k.is;
              head = like_word k.a (codes "relation") k.first;
              name = like_word k.b (symbol_word p name) k.second;
              tuples = tuples_shown w sorts name;
              listed = tuples_spelled (tuples_shown w sorts name) k.rest k.others;
              in_range = shown_in_range voc w can.sound can.vocabulary name sorts is;
              same = shown_same voc w can.sound can.vocabulary name sorts is;
            }

    entries_shown : (names : List Sym) (us : List Tree) → map bare us ≡ map bare (map (shown_entry p voc w) names) → Each (IsEntry p voc w) names us
    entries_shown [] us e = rw (none_like us e) nothing
    entries_shown (n ∷ ns) [] e = absurd cc
    entries_shown (n ∷ ns) (u ∷ us) e = first_and_rest (entry_shown n u (cc)) (entries_shown ns us (cc))

    pub structure_shown : (u : Tree) → bare u ≡ bare (structure_tree p voc w) → IsStructure p voc w u
    structure_shown u e =
        let k = front u (word (codes "structure")) (shown_parts p voc w) e in
        let q = parted k.rest (shown_sizes p 0 w.sizes) (map (shown_entry p voc w) voc.order) k.others in
        record {
          h = k.a;
          sizes = q.left;
          entries = q.right;
          list = rw (sym q.whole) k.is;
          head = like_word k.a (codes "structure") k.first;
          sized = sizes_shown 0 w.sizes q.left can.few q.left_same;
          entered = entries_shown voc.order q.right q.right_same;
        }

-- ---- the text in lines

-- a tree that is that of the items but for places, and that their text spells
pub record Laid (items : List Tree) : Type 0 where
  pub tree : Tree
  pub spelled : SpellsTree (codes "(structure" ++ (in_lines items ++ 41 ∷ 10 ∷ [])) tree
  pub same : bare tree ≡ bare (list (word (codes "structure") ∷ items))

bare_word : (at : ℕ) (text : List ℕ) → bare (roll-Tree (Word at text)) ≡ bare (word text)
bare_word at text = fold-roll-Tree Tree bare_step (Word at text) ∙ sym (fold-roll-Tree Tree bare_step (Word 0 text)) ∙ ap bare (rolls-Word 0 text)

bare_list : (at last : ℕ) (us ts : List Tree) → map bare us ≡ map bare ts → bare (roll-Tree (Group at last us)) ≡ bare (list ts)
bare_list at last us ts e =
    fold-roll-Tree Tree bare_step (Group at last us) ∙ ap (λ l. roll-Tree (Group 0 0 l)) e ∙ sym (fold-roll-Tree Tree bare_step (Group 0 0 ts)) ∙ ap bare (rolls-Group 0 0 ts)

-- a line begins with white bytes, so it ends a word before it
ends_word : (ts : List Tree) → goes_on_with (λ c. not (is_word_byte c)) (in_lines ts ++ 41 ∷ 10 ∷ []) ≡ true
ends_word [] = refl
ends_word (t ∷ ts) = refl

abbrev structure_word : List ℕ
structure_word = codes "structure"

pub laid : (items : List Tree) → all_fit_in 63 items ≡ true → Laid items
laid items fits =
    let l = lines items 10 63 in
    let last = 10 + length (in_lines items) in
    let parts = roll-Tree (Word 1 structure_word) ∷ l.trees in
    let tail : Lexes last (41 ∷ 10 ∷ []) (Closes last ∷ []) = closes (white refl end) in
    let behind = l.spells (41 ∷ 10 ∷ []) (Closes last ∷ []) fits refl tail in
    let whole = opens (lexes_word 115 (codes "tructure") (in_lines items ++ 41 ∷ 10 ∷ []) refl (ends_word items) behind) in
    let e = l.fits ∙ fits in
    record {
      tree = roll-Tree (Group 0 last parts);
      spelled = (
        rw (fits_roll 64 (Group 0 last parts), fits_roll 63 (Word 1 structure_word), e) refl,
        rw (tokens_roll (Group 0 last parts), tokens_roll (Word 1 structure_word)) whole,
      );
      same = bare_list 0 last parts (word (codes "structure") ∷ items) (rw (bare_word 1 structure_word, l.same) refl);
    }

-- the text that is shown spells the structure
pub shown_spells : (p : Parts) (voc : Vocabulary) (w : Tables) → StructureCanBeShown p voc w → SpellsStructure p voc (shown_structure p voc w) w
shown_spells p voc w can =
    let l = laid (shown_parts p voc w) (parts_fit p voc w can 63 (omega arith)) in
    record { tree = l.tree; spelled = l.spelled; written = structure_shown p voc w can l.tree l.same; sound = can.sound; vocabulary = can.vocabulary }
