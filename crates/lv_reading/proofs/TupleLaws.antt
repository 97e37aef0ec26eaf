-- Tuples that are read one after the other, as a loop does, and the range of what is read.
use Rattle.std.proofs.Common.{◌≡◌, ℕ, suc, ◌+◌, ◌<◌, ◌≤◌, Bool, true, false, eqb, ltb, cond, List, [], ◌∷◌, ◌++◌, length, get_or, drop, Result, Ok, Err, refl, sym, subst, ◌∙◌, add-one, arith}
use Rattle.std.specs.Prelude.{not}
use Rattle.std.specs.List.{All}
use Rattle.std.proofs.Math.Seq.{drop-cons}
use Rattle.std.proofs.lemmas.Bool.{eqb-true}
use Rattle.std.proofs.lemmas.List.{drop_all}
use Rattle.std.proofs.lemmas.List.Elements.{All-append, All-cons, All-nil}
use Rattle.lv_tree.specs.declared.tree.Tree.{Tree}
use Rattle.lv_formula.specs.declared.symbols.SortId.{SortId}
use Rattle.lv_struct.specs.Tables.{IsInRange, size_of}
use Rattle.lv_fault.specs.declared.fault.Kind.TheVariants.{WrongArity, WrongSort}
use Rattle.lv_fault.specs.declared.fault.SyntaxFault.{SyntaxFault}
use Rattle.lv_reading.specs.declared.numbers.Numbered.{Numbered}
use Rattle.lv_fault.specs.Given.{◌>>=◌, fail}
use Rattle.lv_fault.specs.Behind.{behind}
use Rattle.lv_reading.specs.Numbers.{element_in, element_in_sort, number_in}
use Rattle.lv_reading.specs.Structures.{each_element, elements_in, tuple_in, tuples_in}
use Rattle.lv_fault.proofs.BehindLaws.{goes_on, nothing_more, one_more}
use Rattle.lv_grammar.proofs.Steps.{bound, ok_is, passed}

below_size : (size : ℕ) (n : Numbered) (e : ℕ) → element_in_sort size n ≡ Ok e → ltb e size ≡ true
below_size size n e h = go (ltb n.value size) refl h where
  go : (b : Bool) → ltb n.value size ≡ b → cond b (Ok n.value) (fail WrongSort n.at) ≡ Ok e → ltb e size ≡ true
  go true is h = subst (λ x. ltb x size ≡ true) (ok_is n.value e h) is
  go false is h = absurd cc

-- an element that was read is below the size
pub element_below : (size : ℕ) (t : Tree) (e : ℕ) → element_in size t ≡ Ok e → ltb e size ≡ true
element_below size t e h = let n = bound (number_in t) (element_in_sort size) e h in below_size size n.0 e n.2

module _ (sizes : List ℕ) (sorts : List SortId) where
  more_tuples : (done : List (List ℕ)) (r : Result (List ℕ) SyntaxFault) (ts : List Tree)
      → behind done (r >>= λ tuple. tuples_in sizes sorts ts >>= λ tuples. Ok (tuple ∷ tuples)) ≡ (r >>= λ tuple. behind (done ++ tuple ∷ []) (tuples_in sizes sorts ts))
  more_tuples done (Ok tuple) ts = sym (one_more done tuple (tuples_in sizes sorts ts))
  more_tuples done (Err e) ts = refl

  pub tuples_split : (done : List (List ℕ)) (ts : List Tree) (i : ℕ) (t : Tree) → t ≡ get_or ts i t → i < length ts
      → behind done (tuples_in sizes sorts (drop i ts)) ≡ (tuple_in sizes sorts t >>= λ tuple. behind (done ++ tuple ∷ []) (tuples_in sizes sorts (drop (i + 1) ts)))
  unfolding tuples_in
  tuples_split done ts i t is lt = rw (add-one, drop-cons ts i t lt, ← is) (more_tuples done (tuple_in sizes sorts t) (drop (suc i) ts))

  pub tuples_go_on : (done : List (List ℕ)) (ts : List Tree) (i : ℕ) (t : Tree) (tuple : List ℕ) (total : Result (List (List ℕ)) SyntaxFault) → t ≡ get_or ts i t → i < length ts
      → tuple_in sizes sorts t ≡ Ok tuple → IsInRange sizes sorts tuple → (behind done (tuples_in sizes sorts (drop i ts)) ≡ total) × All (IsInRange sizes sorts) done
      → (behind (done ++ tuple ∷ []) (tuples_in sizes sorts (drop (i + 1) ts)) ≡ total) × All (IsInRange sizes sorts) (done ++ tuple ∷ [])
  tuples_go_on done ts i t tuple total is lt e inside so_far = (
    goes_on (tuple_in sizes sorts t) (λ x. behind (done ++ x ∷ []) (tuples_in sizes sorts (drop (i + 1) ts))) tuple total e (sym (tuples_split done ts i t is lt) ∙ so_far.0),
    All-append (IsInRange sizes sorts) done (tuple ∷ []) so_far.1 (All-cons (IsInRange sizes sorts) tuple [] inside (All-nil (IsInRange sizes sorts))),
  )

  pub tuples_end : (done : List (List ℕ)) (ts : List Tree) (i : ℕ) (total : Result (List (List ℕ)) SyntaxFault) → length ts ≤ i → behind done (tuples_in sizes sorts (drop i ts)) ≡ total → total ≡ Ok done
  unfolding tuples_in
  tuples_end done ts i total le so_far =
      let x : behind done (tuples_in sizes sorts (drop i ts)) ≡ Ok done = rw (drop_all i ts le) (nothing_more done) in
      sym so_far ∙ x

  -- ---- what is read is in range

  elements_range : (ss : List SortId) (ts : List Tree) (es : List ℕ) → length ts ≡ length ss → each_element sizes ss ts ≡ Ok es → IsInRange sizes ss es
  unfolding each_element
  elements_range [] [] es l e = subst (IsInRange sizes []) (ok_is [] es e) refl
  elements_range [] (t ∷ ts) es l e = absurd (omega (arith, l))
  elements_range (s ∷ ss) [] es l e = absurd (omega (arith, l))
  elements_range (s ∷ ss) (t ∷ ts) es l e =
      let a = bound (element_in (size_of sizes s) t) _ es e in
      let b = bound (each_element sizes ss ts) _ es a.2 in
      let rest = elements_range ss ts b.0 (omega (arith, l)) b.1 in
      subst (IsInRange sizes (s ∷ ss)) (ok_is (a.0 ∷ b.0) es b.2) (rw (element_below (size_of sizes s) t a.0 a.1) rest)

  pub in_range : (at : ℕ) (ts : List Tree) (es : List ℕ) → elements_in sizes sorts at ts ≡ Ok es → IsInRange sizes sorts es
  unfolding elements_in
  in_range at ts es e =
      let p = passed (not (eqb (length ts) (length sorts))) WrongArity at _ es e in
      elements_range sorts ts es (eqb-true (length ts) (length sorts) (no_not (eqb (length ts) (length sorts)) p.0)) p.1
    where
      no_not : (b : Bool) → not b ≡ false → b ≡ true
      no_not true e = refl
      no_not false e = absurd cc
