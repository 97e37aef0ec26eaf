-- Sizes and entries that are read one after the other, as loops do, and what holds of what is read.
use Rattle.std.proofs.Common.{◌≡◌, ℕ, zero, suc, ◌+◌, ◌-◌, ◌<◌, ◌≤◌, List, [], ◌∷◌, ◌++◌, length, codes, get_or, drop, Option, Some, None, Result, Ok, Err, refl, sym, ap, subst, ◌∙◌, add-one, append_assoc, arith}
use Rattle.std.specs.List.{All}
use Rattle.std.proofs.Math.Seq.{drop-cons}
use Rattle.std.proofs.lemmas.Bool.{ltb-true}
use Rattle.std.proofs.lemmas.List.{append-nil, drop_all}
use Rattle.std.proofs.lemmas.List.Elements.{All-cons, All-nil}
use Rattle.lv_tree.specs.declared.tree.Tree.{Tree}
use Rattle.lv_formula.specs.declared.symbols.SortId.{SortId}
use Rattle.lv_formula.specs.declared.symbols.Sym.{Sym}
use Rattle.lv_formula.specs.declared.symbols.Sym.TheVariants.{Own}
use Rattle.lv_formula.specs.declared.vocabulary.Vocabulary.{Vocabulary}
use Rattle.lv_formula.specs.Vocabulary.{constant_in, relation_in}
use Rattle.lv_struct.specs.Tables.{HasVocabulary, Tables}
use Rattle.lv_struct.proofs.MeaningLaws.{vocabulary-with_element, vocabulary-with_tuples}
use Rattle.lv_system.specs.declared.parts.Parts.{Parts}
use Rattle.lv_grammar.specs.Words.{symbol_word}
use Rattle.lv_fault.specs.declared.fault.SyntaxFault.{SyntaxFault}
use Rattle.lv_fault.specs.Given.{◌>>=◌, headed}
use Rattle.lv_reading.specs.Numbers.{element_in}
use Rattle.lv_fault.specs.Behind.{front_behind}
use Rattle.lv_reading.specs.Structures.{constant_entry, entries_in, next_entry, next_size, relation_entry, size_in, sizes_in, with_entry}
use Rattle.lv_grammar.proofs.Steps.{bound, nothing_left, one_more, ok_is}
use Rattle.lv_reading.proofs.Found.{exact, exact_in, size_found}
use Rattle.lv_reading.proofs.TupleLaws.{element_below}

-- ---- sizes

more_front : (done : List ℕ) (x : ℕ) (r : Result (List ℕ × List Tree) SyntaxFault) → front_behind (done ++ x ∷ []) r ≡ front_behind done (r >>= λ q. Ok (x ∷ q.0, q.1))
more_front done x (Ok q) = ap (λ xs. Ok (xs, q.1)) (append_assoc done (x ∷ []) q.0)
more_front done x (Err e) = refl

module _ (p : Parts) (end : ℕ) where
  sizes_step : (done : List ℕ) (k n : ℕ) (r : Result (ℕ × List Tree) SyntaxFault)
      → front_behind done (r >>= λ a. sizes_in p end (suc k) n a.1 >>= λ q. Ok (a.0 ∷ q.0, q.1)) ≡ (r >>= λ a. front_behind (done ++ a.0 ∷ []) (sizes_in p end (suc k) n a.1))
  sizes_step done k n (Ok a) = sym (more_front done a.0 (sizes_in p end (suc k) n a.1))
  sizes_step done k n (Err e) = refl

  pub sizes_split : (done : List ℕ) (k n : ℕ) (ts : List Tree) → k < n
      → front_behind done (sizes_in p end k (n - k) ts) ≡ (next_size p end k ts >>= λ a. front_behind (done ++ a.0 ∷ []) (sizes_in p end (k + 1) (n - (k + 1)) a.1))
  unfolding sizes_in
  sizes_split done k n ts lt =
      let e : n - k ≡ suc (n - suc k) = omega (arith, lt) in
      rw (add-one, e) (sizes_step done k (n - suc k) (next_size p end k ts))

  pub sizes_end : (done : List ℕ) (k n : ℕ) (ts : List Tree) (total : Result (List ℕ × List Tree) SyntaxFault) → n ≤ k → front_behind done (sizes_in p end k (n - k) ts) ≡ total → total ≡ Ok (done, ts)
  unfolding sizes_in
  sizes_end done k n ts total le so_far =
      let e : n - k ≡ 0 = omega (arith, le) in
      let x : front_behind done (sizes_in p end k (n - k) ts) ≡ Ok (done, ts) = rw e (ap (λ xs. Ok (xs, ts)) (append-nil done)) in
      sym so_far ∙ x

  pub sizes_many : (k n : ℕ) (ts : List Tree) (r : List ℕ × List Tree) → sizes_in p end k n ts ≡ Ok r → length r.0 ≡ n
  unfolding sizes_in
  sizes_many k zero ts r e = ap (λ q. length q.0) (sym (ok_is ([], ts) r e))
  sizes_many k (suc n) ts r e =
      let a = bound (next_size p end k ts) _ r e in
      let b = bound (sizes_in p end (suc k) n a.0.1) _ r a.2 in
      let rest = sizes_many (suc k) n a.0.1 b.0 b.1 in
      ap (λ q. length q.0) (sym (ok_is (a.0.0 ∷ b.0.0, b.0.1) r b.2)) ∙ ap suc rest

  next_some : (k : ℕ) (ts : List Tree) (r : ℕ × List Tree) → next_size p end k ts ≡ Ok r → 0 < r.0
  unfolding next_size
  next_some k ts r e =
      let a = one_more end ts _ r e in
      let s = bound (size_in _ a.0) _ r a.3 in
      subst (λ z. 0 < z.0) (ok_is (s.0, a.1) r s.2) (size_found _ a.0 s.0 s.1).some

  pub sizes_some : (k n : ℕ) (ts : List Tree) (r : List ℕ × List Tree) → sizes_in p end k n ts ≡ Ok r → All (λ n. 0 < n) r.0
  unfolding sizes_in
  sizes_some k zero ts r e = subst (λ q. All (λ n. 0 < n) q.0) (ok_is ([], ts) r e) (All-nil (λ n. 0 < n))
  sizes_some k (suc n) ts r e =
      let a = bound (next_size p end k ts) _ r e in
      let b = bound (sizes_in p end (suc k) n a.0.1) _ r a.2 in
      let rest = sizes_some (suc k) n a.0.1 b.0 b.1 in
      subst (λ q. All (λ n. 0 < n) q.0) (ok_is (a.0.0 ∷ b.0.0, b.0.1) r b.2) (All-cons (λ n. 0 < n) a.0.0 b.0.0 (next_some k ts a.0 a.1) rest)

-- ---- entries

-- the element of a constant is below the size of its sort
pub constant_below : (size : ℕ) (name : List ℕ) (t : Tree) (e : ℕ) → constant_entry size name t ≡ Ok e → e < size
unfolding constant_entry
constant_below size name t e h =
    let l = bound (headed t) _ e h in
    let w = exact (codes "constant") l.0.word _ e l.2 in
    let a = one_more l.0.end l.0.rest _ e w.1 in
    let x = exact_in name a.0 _ e a.3 in
    let b = one_more l.0.end a.1 _ e x.1 in
    let n = bound (element_in size b.0) _ e b.3 in
    let u = nothing_left b.1 _ e n.2 in
    subst (λ z. z < size) (ok_is n.0 e u.1) (ltb-true n.0 size (element_below size b.0 n.0 n.1))

module _ (p : Parts) (voc : Vocabulary) (end : ℕ) where
  entry_keeps : (w v : Tables) (name : List ℕ) (o : Option (List SortId)) (c : Option SortId) (s : Sym) (t : Tree) → with_entry w name o c s t ≡ Ok v → HasVocabulary voc w → HasVocabulary voc v
  entry_keeps w v name (Some sorts) c s t e has =
      let a = bound (relation_entry w.sizes sorts name t) _ v e in
      subst (HasVocabulary voc) (ok_is _ v a.2) (vocabulary-with_tuples voc w s a.0 has)
  entry_keeps w v name None (Some sort) s t e has =
      let a = bound (constant_entry _ name t) _ v e in
      subst (HasVocabulary voc) (ok_is _ v a.2) (vocabulary-with_element voc w s a.0 has)
  entry_keeps w v name None None s t e has = absurd cc

  -- an entry keeps the vocabulary
  pub next_keeps : (w : Tables) (s : Sym) (ts : List Tree) (r : Tables × List Tree) → next_entry p voc end w s ts ≡ Ok r → HasVocabulary voc w → HasVocabulary voc r.0
  unfolding next_entry
  next_keeps w s ts r e has =
      let a = one_more end ts _ r e in
      let v = bound (with_entry w (symbol_word p s) (relation_in voc.relations s) (constant_in voc.constants s) s a.0) _ r a.3 in
      subst (λ z. HasVocabulary voc z.0) (ok_is (v.0, a.1) r v.2) (entry_keeps w v.0 (symbol_word p s) (relation_in voc.relations s) (constant_in voc.constants s) s a.0 v.1 has)

  pub entries_split : (w : Tables) (ss : List Sym) (i : ℕ) (ts : List Tree) → i < length ss
      → entries_in p voc end w (drop i ss) ts ≡ (next_entry p voc end w (get_or ss i (Own 0)) ts >>= λ a. entries_in p voc end a.0 (drop (i + 1) ss) a.1)
  unfolding entries_in
  entries_split w ss i ts lt = rw (add-one, drop-cons ss i (Own 0) lt) refl

  pub entries_end : (w : Tables) (ss : List Sym) (i : ℕ) (ts : List Tree) (total : Result (Tables × List Tree) SyntaxFault) → length ss ≤ i → entries_in p voc end w (drop i ss) ts ≡ total → total ≡ Ok (w, ts)
  unfolding entries_in
  entries_end w ss i ts total le so_far =
      let x : entries_in p voc end w (drop i ss) ts ≡ Ok (w, ts) = rw (drop_all i ss le) refl in
      sym so_far ∙ x
