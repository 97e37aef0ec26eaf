-- What is read of trees that are written as they should be.
use Rattle.std.proofs.Common.{◌≡◌, ℕ, List, ◌∷◌, Some, refl, ap, ◌∙◌}
use Rattle.lv_tree.specs.declared.tree.Tree.{Tree, Tree-F, out-Tree}
use Rattle.lv_tree.specs.declared.tree.Tree.TheOpen.{Word, Group}
use Rattle.lv_grammar.specs.Trees as Trees
use Rattle.lv_grammar.specs.Grammar.{IsWord, IsList}
use Rattle.lv_fault.specs.Given.{word_layer, word_in, list_layer, list_in, headed_items, headed_layer, headed}
use Rattle.lv_grammar.proofs.Steps.{done}

pub worded_again : (l : Tree-F Tree) (text : List ℕ) → Trees.word_layer l ≡ Some text → (at : ℕ) × (l ≡ Word at text)
worded_again (Word at t) text e = let q : t ≡ text = cc in (at, ap (Word at) q)
worded_again (Group at end items) text e = absurd cc

pub listed_again : (l : Tree-F Tree) (items : List Tree) → Trees.items_layer l ≡ Some items → (at : ℕ) × (end : ℕ) × (l ≡ Group at end items)
listed_again (Word at t) items e = absurd cc
listed_again (Group at end ts) items e = let q : ts ≡ items = cc in (at, end, ap (Group at end) q)

pub word_again : (t : Tree) (text : List ℕ) → IsWord text t → (at : ℕ) × (word_in t ≡ done (record { at = at; text = text }))
word_again t text e = let w = worded_again (out-Tree t) text e in (w.0, ap word_layer w.1)

-- the list begins with the word, at some places
pub record HeadedBy (t : Tree) (items : List Tree) (text : List ℕ) : Type 0 where
  pub at : ℕ
  pub end : ℕ
  pub word_at : ℕ
  pub is : headed t ≡ done (record { at = at; end = end; word = record { at = word_at; text = text }; rest = items })

pub headed_by : (t h : Tree) (items : List Tree) (text : List ℕ) → IsList (h ∷ items) t → IsWord text h → HeadedBy t items text
unfolding headed_items
headed_by t h items text list word =
    let l = listed_again (out-Tree t) (h ∷ items) list in
    let w = word_again h text word in
    let first : headed_items l.0 l.1 (h ∷ items) ≡ done (record { at = l.0; end = l.1; word = record { at = w.0; text = text }; rest = items }) = rw w.1 refl in
    record { at = l.0; end = l.1; word_at = w.0; is = ap headed_layer l.2 ∙ first }

pub list_again : (t : Tree) (items : List Tree) → IsList items t → (end : ℕ) × (list_in t ≡ done (record { end = end; items = items }))
list_again t items list = let l = listed_again (out-Tree t) items list in (l.1, ap list_layer l.2)
