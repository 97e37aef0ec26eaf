-- What is read of a tree, the tree spells.
use Rattle.std.proofs.Common.{◌≡◌, ℕ, zero, suc, ◌<◌, false, List, [], ◌∷◌, ◌++◌, length, Option, Some, None, Ok, refl, sym, ap, subst, ◌∙◌}
use Rattle.std.specs.Prelude.{codes, decimal}
use Rattle.std.specs.List.{All, AllByRecursion, IsDistinct}
use Rattle.std.proofs.lemmas.List.{append-nil}
use Rattle.std.proofs.lemmas.Map.Keys.{IsDistinct-head, IsDistinct-tail}
use Rattle.lv_tree.specs.declared.tree.Tree.{Tree}
use Rattle.lv_formula.specs.declared.symbols.SortId.{SortId}
use Rattle.lv_formula.specs.declared.symbols.Sym.{Sym}
use Rattle.lv_formula.specs.declared.vocabulary.Vocabulary.{Vocabulary}
use Rattle.lv_formula.specs.Symbols.{sym_eq}
use Rattle.lv_formula.specs.Vocabulary as vocabularies
use Rattle.lv_formula.specs.Vocabulary.{constant_in, relation_in}
use Rattle.lv_struct.specs.Changes.{empty_structure}
use Rattle.lv_struct.specs.Tables.{IsInRange, Tables, holds_in, size_of, value_in}
use Rattle.lv_struct.proofs.ChangeLaws.{empty_is_sound}
use Rattle.lv_struct.proofs.MeaningLaws.{vocabulary-empty_structure}
use Rattle.lv_system.specs.declared.parts.Parts.{Parts}
use Rattle.lv_grammar.specs.Grammar.{Each, IsList, IsWord, first_and_rest, nothing}
use Rattle.lv_grammar.specs.Structures.{AreSizes, IsConstant, IsEntry, IsEntryOf, IsRelation, IsSize, no_sizes, sizes}
use Rattle.lv_grammar.specs.Words.{sort_name, symbol_word}
use Rattle.lv_fault.specs.Given.{headed}
use Rattle.lv_reading.specs.Structures.{constant_entry, entries_in, next_entry, next_size, relation_entry, size_in, sizes_in, structure_in, with_entry}
use Rattle.lv_reading.proofs.Found.{constant_found, exact, relation_found, size_found}
use Rattle.lv_grammar.proofs.Steps.{bound, head_found, nothing_left, ok_is, one_more}
use Rattle.lv_reading.proofs.StructureSteps.{sizes_many, sizes_some}
use Rattle.lv_spelled.specs.Laws.{IsSpelledBy}
use Rattle.lv_spelled.proofs.Entries.{IsChangedAt, IsOf, element_changed, element_is_value, element_of_it, tuples_are_held, tuples_changed, tuples_of_it}
use Rattle.lv_spelled.proofs.Symbols.{flips, order_distinct}

-- ---- sizes

-- what was read from the first trees spells the sizes
pub record SizesRead (p : Parts) (k : ℕ) (ts : List Tree) (r : List ℕ × List Tree) : Type 0 where
  pub first : List Tree
  pub whole : ts ≡ first ++ r.1
  pub spelled : AreSizes p k r.0 first

sizes_read : (p : Parts) (end k n : ℕ) (ts : List Tree) (r : List ℕ × List Tree) → sizes_in p end k n ts ≡ Ok r → SizesRead p k ts r
unfolding sizes_in next_size
sizes_read p end k zero ts r e = subst (SizesRead p k ts) (ok_is ([], ts) r e) (record { first = []; whole = refl; spelled = no_sizes })
sizes_read p end k (suc n) ts r e =
    let a = bound (next_size p end k ts) _ r e in
    let b = bound (sizes_in p end (suc k) n a.0.1) _ r a.2 in
    let t = one_more end ts _ a.0 a.1 in
    let s = bound (size_in (sort_name p (record { 0 = k })) t.0) _ a.0 t.3 in
    let here = ok_is (s.0, t.1) a.0 s.2 in
    let f = size_found (sort_name p (record { 0 = k })) t.0 s.0 s.1 in
    let rest = sizes_read p end (suc k) n a.0.1 b.0 b.1 in
    let is : IsSize p (record { 0 = k }) a.0.0 t.0 = subst (λ z. IsSize p (record { 0 = k }) z t.0) (ap (λ q. q.0) here) (record { h = f.triple.a; sort = f.triple.b; number = f.triple.c; list = f.triple.list; head = f.triple.first; name = f.triple.second; size = f.triple.third; few = f.few }) in
    subst (SizesRead p k ts) (ok_is (a.0.0 ∷ b.0.0, b.0.1) r b.2) (record {
      first = t.0 ∷ rest.first;
      whole = t.2 ∙ ap (λ z. t.0 ∷ z) (ap (λ q. q.1) here ∙ rest.whole);
      spelled = sizes is rest.spelled;
    })

-- ---- entries

-- what an entry is, of which the structure v was made from u
pub record EntryRead (p : Parts) (voc : Vocabulary) (u : Tables) (s : Sym) (t : Tree) (v : Tables) : Type 0 where
  pub is : IsEntry p voc v s t
  pub changed : IsChangedAt s u v
  pub of : IsOf voc v

module _ (p : Parts) (voc : Vocabulary) where
  entry_read : (u : Tables) → IsOf voc u → (s : Sym) (t : Tree) (v : Tables) → with_entry u (symbol_word p s) (relation_in voc.relations s) (constant_in voc.constants s) s t ≡ Ok v → EntryRead p voc u s t v
  entry_read u of s t v e = go (relation_in voc.relations s) (constant_in voc.constants s) refl refl e
    where
      packed : (o : Option (List SortId)) → relation_in voc.relations s ≡ o → IsEntryOf p v o s t → IsEntry p voc v s t
      packed o is entry = subst (λ z. IsEntryOf p v z s t) (sym is) entry

      go : (o : Option (List SortId)) (c : Option SortId) → relation_in voc.relations s ≡ o → constant_in voc.constants s ≡ c → with_entry u (symbol_word p s) o c s t ≡ Ok v → EntryRead p voc u s t v
      go (Some sorts) c is con h =
          let a = bound (relation_entry u.sizes sorts (symbol_word p s) t) _ v h in
          let made = ok_is _ v a.2 in
          let f = relation_found u.sizes sorts (symbol_word p s) t a.0 a.1 in
          record {
            is = packed (Some sorts) is (subst (λ z. IsRelation p z sorts s t) made (record {
              h = f.h;
              word = f.word;
              items = f.items;
              list = f.list;
              head = f.head;
              name = f.name;
              tuples = a.0;
              listed = f.listed;
              in_range = f.in_range;
              same = tuples_are_held voc u of s sorts is a.0;
            }));
            changed = subst (IsChangedAt s u) made (tuples_changed u s a.0);
            of = subst (IsOf voc) made (tuples_of_it voc u of s sorts is a.0 f.in_range);
          }
      go None (Some sort) is con h =
          let a = bound (constant_entry (size_of u.sizes sort) (symbol_word p s) t) _ v h in
          let made = ok_is _ v a.2 in
          let f = constant_found (size_of u.sizes sort) (symbol_word p s) t a.0 a.1 in
          record {
            is = packed None is (subst (λ z. IsConstant p z s t) made (record {
              h = f.triple.a;
              word = f.triple.b;
              element = f.triple.c;
              list = f.triple.list;
              head = f.triple.first;
              name = f.triple.second;
              value = subst (λ z. IsWord (decimal z) f.triple.c) (sym (element_is_value voc u of s sort con a.0)) f.triple.third;
            }));
            changed = subst (IsChangedAt s u) made (element_changed u s a.0);
            of = subst (IsOf voc) made (element_of_it voc u of s sort con a.0 f.below);
          }
      go None None is con h = absurd cc

  -- an entry of a structure is one of each that has the same sizes and the same of the symbol
  entry_stays : (w v : Tables) (o : Option (List SortId)) (s : Sym) (t : Tree) → v.sizes ≡ w.sizes → ((tuple : List ℕ) → holds_in v s tuple ≡ holds_in w s tuple) → value_in v s ≡ value_in w s → IsEntryOf p w o s t → IsEntryOf p v o s t
  entry_stays w v None s t same tuples element i =
      record { h = i.h; word = i.word; element = i.element; list = i.list; head = i.head; name = i.name; value = subst (λ z. IsWord (decimal z) i.element) (sym element) i.value }
  entry_stays w v (Some sorts) s t same tuples element i =
      record {
        h = i.h;
        word = i.word;
        items = i.items;
        list = i.list;
        head = i.head;
        name = i.name;
        tuples = i.tuples;
        listed = i.listed;
        in_range = subst (λ z. All (IsInRange z sorts) i.tuples) (sym same) i.in_range;
        same = λ tuple. i.same tuple ∙ sym (tuples tuple);
      }

  -- what the entries are that were read from the first trees, and what they leave
  pub record EntriesRead (u : Tables) (ss : List Sym) (ts : List Tree) (r : Tables × List Tree) : Type 0 where
    pub first : List Tree
    pub whole : ts ≡ first ++ r.1
    pub spelled : Each (IsEntry p voc r.0) ss first
    pub of : IsOf voc r.0
    pub sizes : r.0.sizes ≡ u.sizes
    pub tuples : (x : Sym) → AllByRecursion (λ s. sym_eq x s ≡ false) ss → (tuple : List ℕ) → holds_in r.0 x tuple ≡ holds_in u x tuple
    pub elements : (x : Sym) → AllByRecursion (λ s. sym_eq x s ≡ false) ss → value_in r.0 x ≡ value_in u x

  pub entries_read : (end : ℕ) (u : Tables) → IsOf voc u → (ss : List Sym) → IsDistinct sym_eq ss → (ts : List Tree) (r : Tables × List Tree) → entries_in p voc end u ss ts ≡ Ok r → EntriesRead u ss ts r
  unfolding entries_in next_entry
  entries_read end u of [] distinct ts r e = subst (EntriesRead u [] ts) (ok_is (u, ts) r e)
      (record { first = []; whole = refl; spelled = nothing; of = of; sizes = refl; tuples = λ x differ tuple. refl; elements = λ x differ. refl })
  entries_read end u of (s ∷ ss) distinct ts r e =
      let a = bound (next_entry p voc end u s ts) _ r e in
      let t = one_more end ts _ a.0 a.1 in
      let v = bound (with_entry u (symbol_word p s) (relation_in voc.relations s) (constant_in voc.constants s) s t.0) _ a.0 t.3 in
      let here = ok_is (v.0, t.1) a.0 v.2 in
      let one = subst (EntryRead p voc u s t.0) (ap (λ q. q.0) here) (entry_read u of s t.0 v.0 v.1) in
      let apart = IsDistinct-head sym_eq s ss distinct in
      let rest = entries_read end a.0.0 one.of ss (IsDistinct-tail sym_eq s ss distinct) a.0.1 r a.2 in
      record {
        first = t.0 ∷ rest.first;
        whole = t.2 ∙ ap (λ z. t.0 ∷ z) (ap (λ q. q.1) here ∙ rest.whole);
        spelled = first_and_rest (entry_stays a.0.0 r.0 (relation_in voc.relations s) s t.0 rest.sizes (rest.tuples s apart) (rest.elements s apart) one.is) rest.spelled;
        of = rest.of;
        sizes = rest.sizes ∙ one.changed.sizes;
        tuples = λ x differ tuple. rest.tuples x differ.1 tuple ∙ one.changed.tuples x (turned x differ.0) tuple;
        elements = λ x differ. rest.elements x differ.1 ∙ one.changed.elements x (turned x differ.0);
      }
    where
      turned : (x : Sym) → sym_eq x s ≡ false → sym_eq s x ≡ false
      turned x differ = flips s x ∙ differ

pub empty_of : (voc : Vocabulary) (ns : List ℕ) → vocabularies.IsSound voc → length ns ≡ voc.sorts → All (λ n. 0 < n) ns → IsOf voc (empty_structure voc ns)
empty_of voc ns sound many some = record { sound = empty_is_sound voc ns ns _ _ sound some refl refl refl; vocabulary = vocabulary-empty_structure voc ns many }

pub read_is_spelled : (p : Parts) (voc : Vocabulary) (t : Tree) (w : Tables) → vocabularies.IsSound voc → structure_in p voc t ≡ Ok w → IsSpelledBy p voc w t
unfolding structure_in
read_is_spelled p voc t w sound e =
    let l = bound (headed t) _ w e in
    let h = exact (codes "structure") l.0.word _ w l.2 in
    let s = bound (sizes_in p l.0.end 0 voc.sorts l.0.rest) _ w h.1 in
    let n = bound (entries_in p voc l.0.end (empty_structure voc s.0.0) voc.order s.0.1) _ w s.2 in
    let u = nothing_left n.0.1 _ w n.2 in
    let begins = head_found t l.0 l.1 in
    let ns = sizes_read p l.0.end 0 voc.sorts l.0.rest s.0 s.1 in
    let of = empty_of voc s.0.0 sound (sizes_many p l.0.end 0 voc.sorts l.0.rest s.0 s.1) (sizes_some p l.0.end 0 voc.sorts l.0.rest s.0 s.1) in
    let es = entries_read p voc l.0.end (empty_structure voc s.0.0) of voc.order (order_distinct voc sound) s.0.1 n.0 n.1 in
    let whole : l.0.rest ≡ ns.first ++ es.first = ns.whole ∙ ap (λ z. ns.first ++ z) (es.whole ∙ (ap (λ z. es.first ++ z) u.0 ∙ append-nil es.first)) in
    subst (λ z. IsSpelledBy p voc z t) (ok_is n.0.0 w u.1) (record {
      written = record {
        h = begins.heads.first;
        sizes = ns.first;
        entries = es.first;
        list = subst (λ z. IsList z t) (begins.heads.whole ∙ ap (λ z. begins.heads.first ∷ z) whole) begins.list;
        head = subst (λ z. IsWord z begins.heads.first) (sym h.0) begins.heads.word;
        sized = subst (λ z. AreSizes p 0 z ns.first) (sym es.sizes) ns.spelled;
        entered = es.spelled;
      };
      sound = es.of.sound;
      vocabulary = es.of.vocabulary;
    })
