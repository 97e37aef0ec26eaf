-- Of a tree that spells a structure the same structure is read.
use Rattle.std.proofs.Common.{◌≡◌, ℕ, ◌<◌, ◌≤◌, List, [], ◌∷◌, ◌++◌, Option, Some, None, Ok, refl, sym, subst, ◌∙◌}
use Rattle.std.specs.Prelude.{codes}
use Rattle.std.specs.List.{All, IsDistinct}
use Rattle.std.proofs.lemmas.List.{append-nil}
use Rattle.std.proofs.lemmas.List.Elements.{All-cons, All-head, All-nil, All-tail}
use Rattle.std.proofs.lemmas.Map.Keys.{IsDistinct-head, IsDistinct-tail}
use Rattle.lv_tree.specs.declared.tree.Tree.{Tree}
use Rattle.lv_formula.specs.declared.symbols.SortId.{SortId}
use Rattle.lv_formula.specs.declared.symbols.Sym.{Sym}
use Rattle.lv_formula.specs.declared.vocabulary.Vocabulary.{Vocabulary}
use Rattle.lv_formula.specs.Symbols.{sym_eq}
use Rattle.lv_formula.specs.Vocabulary as vocabularies
use Rattle.lv_formula.specs.Vocabulary.{constant_in, relation_in}
use Rattle.lv_struct.specs.Changes.{empty_structure, with_element, with_tuples}
use Rattle.lv_struct.specs.Tables.{IsInRange, Tables, holds_in, size_of, value_in}
use Rattle.lv_struct.proofs.MeaningLaws.{structure_of}
use Rattle.lv_system.specs.declared.parts.Parts.{Parts}
use Rattle.lv_grammar.specs.Grammar.{Each, first_and_rest}
use Rattle.lv_grammar.specs.StructureLaws.{IsAlike, IsAlikeOf}
use Rattle.lv_grammar.specs.Structures.{AreSizes, IsEntry, IsEntryOf, sizes}
use Rattle.lv_grammar.specs.Words.{symbol_word}
use Rattle.lv_grammar.proofs.SmallElements.{value_few}
use Rattle.lv_reading.specs.Structures.{entries_in, next_entry, sizes_in, structure_in, with_entry}
use Rattle.lv_grammar.proofs.TreesAgain.{headed_by}
use Rattle.lv_spelled.specs.Laws.{IsSpelledBy}
use Rattle.lv_spelled.proofs.Again.{constant_again, relation_again, sizes_again}
use Rattle.lv_spelled.proofs.Entries.{IsOf, element_is_value, element_of_it, tuples_are_held, tuples_of_it}
use Rattle.lv_spelled.proofs.Read.{empty_of, entries_read}
use Rattle.lv_spelled.proofs.Symbols.{IsNamed, order_distinct, order_named}

pub few_sizes : (p : Parts) (k : ℕ) (ns : List ℕ) (us : List Tree) → AreSizes p k ns us → All (λ n. n ≤ 256) ns
few_sizes p k [] us h = All-nil (λ n. n ≤ 256)
few_sizes p k (n ∷ ns) [] h = elim h [ ]
few_sizes p k (n ∷ ns) (u ∷ us) (sizes h hs) = All-cons (λ n. n ≤ 256) n ns h.few (few_sizes p _ ns us hs)

module _ (p : Parts) (voc : Vocabulary) (w : Tables) (spelled : IsOf voc w) (few : All (λ n. n ≤ 256) w.sizes) where
  -- what is read of an entry
  pub record EntryAgain (u : Tables) (s : Sym) (t : Tree) : Type 0 where
    pub made : Tables
    pub reads : with_entry u (symbol_word p s) (relation_in voc.relations s) (constant_in voc.constants s) s t ≡ Ok made
    pub of : IsOf voc made
    pub sizes : made.sizes ≡ u.sizes
    pub alike : IsAlikeOf w made (relation_in voc.relations s) s

  entry_again : (u : Tables) → IsOf voc u → u.sizes ≡ w.sizes → (s : Sym) (t : Tree) → IsNamed voc s → IsEntry p voc w s t → EntryAgain u s t
  entry_again u of same s t named is = go (relation_in voc.relations s) refl is
    where
      go : (o : Option (List SortId)) → relation_in voc.relations s ≡ o → IsEntryOf p w o s t → EntryAgain u s t
      go (Some sorts) known i =
          let read = relation_again p w few sorts s t i in
          record {
            made = with_tuples u s i.tuples;
            reads = rw (known, same, read) refl;
            of = tuples_of_it voc u of s sorts known i.tuples (subst (λ z. All (IsInRange z sorts) i.tuples) (sym same) i.in_range);
            sizes = refl;
            alike = subst (λ o. IsAlikeOf w (with_tuples u s i.tuples) o s) (sym known) (λ tuple. sym (i.same tuple) ∙ tuples_are_held voc u of s sorts known i.tuples tuple);
          }
      go None known i =
          let c = named known in
          let below : value_in w s < size_of w.sizes c.0 = (structure_of voc w spelled.sound spelled.vocabulary).constants s c.0 c.1 in
          let read = constant_again p w (size_of w.sizes c.0) s t (value_few w.sizes few w.constants spelled.sound.constants s) below i in
          record {
            made = with_element u s (value_in w s);
            reads = rw (known, c.1, same, read) refl;
            of = element_of_it voc u of s c.0 c.1 (value_in w s) (subst (λ z. value_in w s < size_of z c.0) (sym same) below);
            sizes = refl;
            alike = subst (λ o. IsAlikeOf w (with_element u s (value_in w s)) o s) (sym known) (sym (element_is_value voc u of s c.0 c.1 (value_in w s)));
          }

  -- what is read of the entries of these symbols
  pub record EntriesAgain (end : ℕ) (u : Tables) (ss : List Sym) (ts more : List Tree) : Type 0 where
    pub made : Tables
    pub reads : entries_in p voc end u ss (ts ++ more) ≡ Ok (made, more)
    pub alike : All (λ s. IsAlikeOf w made (relation_in voc.relations s) s) ss

  -- what is alike stays so where the sizes and the symbol stay
  alike_stays : (v x : Tables) (o : Option (List SortId)) (s : Sym) → ((tuple : List ℕ) → holds_in x s tuple ≡ holds_in v s tuple) → value_in x s ≡ value_in v s → IsAlikeOf w v o s → IsAlikeOf w x o s
  alike_stays v x None s tuples element e = e ∙ sym element
  alike_stays v x (Some sorts) s tuples element e = λ tuple. e tuple ∙ sym (tuples tuple)

  entries_again : (end : ℕ) (u : Tables) → IsOf voc u → u.sizes ≡ w.sizes → (ss : List Sym) → IsDistinct sym_eq ss → All (IsNamed voc) ss → (ts more : List Tree) → Each (IsEntry p voc w) ss ts → EntriesAgain end u ss ts more
  unfolding entries_in next_entry
  entries_again end u of same [] distinct named [] more is = record { made = u; reads = refl; alike = All-nil (λ s. IsAlikeOf w u (relation_in voc.relations s) s) }
  entries_again end u of same [] distinct named (t ∷ ts) more is = elim is [ ]
  entries_again end u of same (s ∷ ss) distinct named [] more is = elim is [ ]
  entries_again end u of same (s ∷ ss) distinct named (t ∷ ts) more (first_and_rest is others) =
      let one = entry_again u of same s t (All-head (IsNamed voc) s ss named) is in
      let apart = IsDistinct-head sym_eq s ss distinct in
      let tail = IsDistinct-tail sym_eq s ss distinct in
      let rest = entries_again end one.made one.of (one.sizes ∙ same) ss tail (All-tail (IsNamed voc) s ss named) ts more others in
      let left = entries_read p voc end one.made one.of ss tail (ts ++ more) (rest.made, more) rest.reads in
      record {
        made = rest.made;
        reads = rw (one.reads) rest.reads;
        alike = All-cons (λ x. IsAlikeOf w rest.made (relation_in voc.relations x) x) s ss
            (alike_stays one.made rest.made (relation_in voc.relations s) s (left.tuples s apart) (left.elements s apart) one.alike) rest.alike;
      }

pub spelled_is_read : (p : Parts) (voc : Vocabulary) (t : Tree) (w : Tables) → vocabularies.IsSound voc → IsSpelledBy p voc w t → (v : Tables) × (structure_in p voc t ≡ Ok v) × IsAlike voc w v
unfolding structure_in
spelled_is_read p voc t w sound is =
    let i = is.written in
    let l = headed_by t i.h (i.sizes ++ i.entries) (codes "structure") i.list i.head in
    let few = few_sizes p 0 w.sizes i.sizes i.sized in
    let ns = sizes_again p l.end 0 w.sizes i.sizes i.entries is.sound.sizes i.sized in
    let counted = subst (λ n. sizes_in p l.end 0 n (i.sizes ++ i.entries) ≡ Ok (w.sizes, i.entries)) is.vocabulary.sorts ns in
    let of = empty_of voc w.sizes sound is.vocabulary.sorts is.sound.sizes in
    let es = entries_again p voc w (record { sound = is.sound; vocabulary = is.vocabulary }) few l.end (empty_structure voc w.sizes) of refl voc.order (order_distinct voc sound) (order_named voc sound) i.entries [] i.entered in
    let reads = subst (λ z. entries_in p voc l.end (empty_structure voc w.sizes) voc.order z ≡ Ok (es.made, [])) (append-nil i.entries) es.reads in
    let left = entries_read p voc l.end (empty_structure voc w.sizes) of voc.order (order_distinct voc sound) i.entries (es.made, []) reads in
    (es.made, rw (l.is, counted, reads) refl, record { sizes = sym left.sizes; symbols = es.alike })
