-- A text spells one structure alone.
use Rattle.std.proofs.Common.{◌≡◌, ℕ, suc, ◌≤◌, List, [], ◌∷◌, ◌++◌, length, Option, Some, None, refl, sym, ap, ap₂, subst, ◌∙◌, arith}
use Rattle.std.specs.Prelude.{decimal}
use Rattle.std.specs.List.{All}
use Rattle.std.proofs.lemmas.Fmt.{decimal_injective}
use Rattle.std.proofs.lemmas.List.Elements.{All-cons, All-head, All-nil, All-tail}
use Rattle.lv_tree.specs.declared.tree.Tree.{Tree}
use Rattle.lv_tree.proofs.Reading.{at_most_one}
use Rattle.lv_formula.specs.declared.symbols.SortId.{SortId}
use Rattle.lv_formula.specs.declared.symbols.Sym.{Sym}
use Rattle.lv_formula.specs.declared.vocabulary.Vocabulary.{Vocabulary}
use Rattle.lv_formula.specs.Vocabulary.{relation_in}
use Rattle.lv_struct.specs.Tables.{IsInRange, IsSound, Tables}
use Rattle.lv_formula.specs.Tuples.{has_tuple}
use Rattle.lv_system.specs.declared.parts.Parts.{Parts}
use Rattle.lv_grammar.specs.Grammar.{Each, IsList, IsWord, first_and_rest, nothing}
use Rattle.lv_grammar.specs.StructureLaws.{IsAlike, IsAlikeOf}
use Rattle.lv_grammar.specs.Structures.{AreSizes, IsEntry, IsEntryOf, IsSize, IsStructure, IsTuple, SpellsStructure, no_sizes, sizes}
use Rattle.lv_grammar.proofs.SmallElements.{tuple_few, value_few}

-- one word is one number
same_number : (t : Tree) (m n : ℕ) → m ≤ 256 → n ≤ 256 → IsWord (decimal m) t → IsWord (decimal n) t → m ≡ n
same_number t m n few more h k = let e : Some (decimal m) ≡ Some (decimal n) = sym h ∙ k in decimal_injective m n (omega (arith, few)) (omega (arith, more)) (cc)

same_items : (t : Tree) (us vs : List Tree) → IsList us t → IsList vs t → us ≡ vs
same_items t us vs h k = let e : Some us ≡ Some vs = sym h ∙ k in cc

abbrev Few : List ℕ → Type 0
Few ns = All (λ n. n ≤ 256) ns

same_numbers : (ms ns : List ℕ) (us : List Tree) → Few ms → Few ns → Each (λ n t. IsWord (decimal n) t) ms us → Each (λ n t. IsWord (decimal n) t) ns us → ms ≡ ns
same_numbers [] [] us few more nothing nothing = refl
same_numbers [] (n ∷ ns) us few more nothing k = elim k [ ]
same_numbers (m ∷ ms) [] us few more h nothing = elim h [ ]
same_numbers (m ∷ ms) (n ∷ ns) [] few more h k = elim h [ ]
same_numbers (m ∷ ms) (n ∷ ns) (u ∷ us) few more (first_and_rest h hs) (first_and_rest k ks) =
    ap₂ (λ x xs. x ∷ xs) (same_number u m n (All-head (λ n. n ≤ 256) m ms few) (All-head (λ n. n ≤ 256) n ns more) h k)
    (same_numbers ms ns us (All-tail (λ n. n ≤ 256) m ms few) (All-tail (λ n. n ≤ 256) n ns more) hs ks)

same_tuples : (ss ts : List (List ℕ)) (us : List Tree) → All Few ss → All Few ts → Each IsTuple ss us → Each IsTuple ts us → ss ≡ ts
same_tuples [] [] us few more nothing nothing = refl
same_tuples [] (t ∷ ts) us few more nothing k = elim k [ ]
same_tuples (s ∷ ss) [] us few more h nothing = elim h [ ]
same_tuples (s ∷ ss) (t ∷ ts) [] few more h k = elim h [ ]
same_tuples (s ∷ ss) (t ∷ ts) (u ∷ us) few more (first_and_rest h hs) (first_and_rest k ks) =
    ap₂ (λ x xs. x ∷ xs) (same_numbers s t k.0 (All-head Few s ss few) (All-head Few t ts more) (subst (Each (λ n a. IsWord (decimal n) a) s) (same_items u h.0 k.0 h.1 k.1) h.2) k.2)
    (same_tuples ss ts us (All-tail Few s ss few) (All-tail Few t ts more) hs ks)

-- what holds of each element of a list for one reason holds for another that follows
all_weaker : {X : Type 0} (P Q : X → Type 0) (xs : List X) → ((x : X) → P x → Q x) → All P xs → All Q xs
all_weaker P Q xs h all k d l = h _ (all k d l)

module _ (p : Parts) where
  same_sizes : (k : ℕ) (ms ns : List ℕ) (us as' bs cs : List Tree) → AreSizes p k ms us → AreSizes p k ns as' → length ms ≡ length ns → us ++ bs ≡ as' ++ cs → (ms ≡ ns) × (bs ≡ cs)
  same_sizes k [] [] _ _ bs cs no_sizes no_sizes l e = (refl, e)
  same_sizes k [] (n ∷ ns) us as' bs cs h g l e = absurd (omega (arith, l))
  same_sizes k (m ∷ ms) [] us as' bs cs h g l e = absurd (omega (arith, l))
  same_sizes k (m ∷ ms) (n ∷ ns) [] as' bs cs h g l e = elim h [ ]
  same_sizes k (m ∷ ms) (n ∷ ns) (u ∷ us) [] bs cs h g l e = elim g [ ]
  same_sizes k (m ∷ ms) (n ∷ ns) (u ∷ us) (a ∷ as') bs cs (sizes h hs) (sizes g gs) l e =
      let first : u ≡ a = cc in
      let rest : us ++ bs ≡ as' ++ cs = cc in
      let i = subst (IsSize p (record { 0 = k }) m) first h in
      let items = same_items a _ _ i.list g.list in
      let number : i.number ≡ g.number = cc in
      let same = same_number g.number m n i.few g.few (subst (IsWord (decimal m)) number i.size) g.size in
      let others = same_sizes (suc k) ms ns us as' bs cs hs gs (omega (arith, l)) rest in
      (ap₂ (λ x xs. x ∷ xs) same others.0, others.1)

  module _ (voc : Vocabulary) (w v : Tables) (w_sound : IsSound w) (v_sound : IsSound v) (w_few : Few w.sizes) (v_few : Few v.sizes) where
    same_entry : (o : Option (List SortId)) (name : Sym) (t : Tree) → IsEntryOf p w o name t → IsEntryOf p v o name t → IsAlikeOf w v o name
    same_entry None name t h k =
        let items = same_items t _ _ h.list k.list in
        let element : h.element ≡ k.element = cc in
        same_number k.element _ _ (value_few w.sizes w_few w.constants w_sound.constants name) (value_few v.sizes v_few v.constants v_sound.constants name) (subst (IsWord (decimal _)) element h.value) k.value
    same_entry (Some sorts) name t h k =
        let items = same_items t _ _ h.list k.list in
        let rest : h.items ≡ k.items = cc in
        let same = same_tuples h.tuples k.tuples k.items (all_weaker (IsInRange w.sizes sorts) Few h.tuples (tuple_few w.sizes w_few sorts) h.in_range) (all_weaker (IsInRange v.sizes sorts) Few k.tuples (tuple_few v.sizes v_few sorts) k.in_range)
        (subst (Each IsTuple h.tuples) rest h.listed) k.listed in
        λ tuple. sym (h.same tuple) ∙ ap (λ ts. has_tuple ts tuple) same ∙ k.same tuple

    same_entries : (names : List Sym) (us : List Tree) → Each (IsEntry p voc w) names us → Each (IsEntry p voc v) names us → All (λ name. IsAlikeOf w v (relation_in voc.relations name) name) names
    same_entries [] us nothing nothing = All-nil (λ name. IsAlikeOf w v (relation_in voc.relations name) name)
    same_entries (n ∷ ns) [] h k = elim h [ ]
    same_entries (n ∷ ns) (u ∷ us) (first_and_rest h hs) (first_and_rest k ks) =
        All-cons (λ name. IsAlikeOf w v (relation_in voc.relations name) name) n ns (same_entry (relation_in voc.relations n) n u h k) (same_entries ns us hs ks)

  few_sizes : (k : ℕ) (ns : List ℕ) (us : List Tree) → AreSizes p k ns us → Few ns
  few_sizes k [] us no_sizes = All-nil (λ n. n ≤ 256)
  few_sizes k (n ∷ ns) [] h = elim h [ ]
  few_sizes k (n ∷ ns) (u ∷ us) (sizes h hs) = All-cons (λ n. n ≤ 256) n ns h.few (few_sizes (suc k) ns us hs)

-- the structures that a text spells are alike
pub one_structure : (p : Parts) (voc : Vocabulary) (bytes : List ℕ) (w v : Tables) → SpellsStructure p voc bytes w → SpellsStructure p voc bytes v → IsAlike voc w v
one_structure p voc bytes w v h k =
    let tree = at_most_one bytes h.tree k.tree h.spelled k.spelled in
    let i = subst (IsStructure p voc w) tree h.written in
    let j = k.written in
    let items = same_items k.tree _ _ i.list j.list in
    let all : i.sizes ++ i.entries ≡ j.sizes ++ j.entries = cc in
    let both = same_sizes p 0 w.sizes v.sizes i.sizes j.sizes i.entries j.entries i.sized j.sized (h.vocabulary.sorts ∙ sym k.vocabulary.sorts) all in
    record {
      sizes = both.0;
      symbols = same_entries p voc w v h.sound k.sound (few_sizes p 0 w.sizes i.sizes i.sized) (few_sizes p 0 v.sizes j.sizes j.sized) voc.order j.entries
          (subst (Each (IsEntry p voc w) voc.order) both.1 i.entered) j.entered;
    }
