-- The table of an atom's truth, as the atoms are gone through.
use mathlib.Core.Path.{fun_ext}
use Rattle.std.proofs.Common.{◌≡◌, ◌≢◌, ℕ, zero, suc, ◌+◌, ◌-◌, ◌*◌, ◌<◌, Bool, true, false, cond, List, [], ◌∷◌, ◌++◌, length, drop, get_or, set, Option, Some, None, Result, Ok, Err, refl, sym, ap, ap₂, ◌∙◌, subst, eqb, ltb, arith}
use Rattle.std.specs.Prelude.{◌&&◌, ◌||◌, slice_get, IfOk}
use Rattle.std.specs.List.{list_any}
use Rattle.std.proofs.lemmas.Bool.{and_parts, and_from, eqb-true, eq-eqb, lt-ltb, ltb-true, cond-true, cond-false, false≢true}
use Rattle.std.proofs.Math.Nat.{mul-one}
use Rattle.std.proofs.lemmas.List.{drop_more, get_or-set_same, get_or-set_other, length-set}
use Rattle.lv_formula.specs.declared.symbols.SortId.{SortId}
use Rattle.lv_formula.specs.declared.symbols.Sym.{Sym}
use Rattle.lv_formula.specs.Symbols.{sym_eq}
use Rattle.lv_formula.proofs.SymbolLaws.{sym_eq-true, sym_eq-refl}
use Rattle.lv_places.specs.declared.terms.TermId.{TermId}
use Rattle.lv_places.specs.declared.grounded.GroundAtom.{GroundAtom}
use Rattle.lv_places.specs.declared.grounded.GroundAtom.TheVariants as make
use Rattle.lv_places.specs.Universes.{term, product, tuples, tuple_number}
use Rattle.lv_places.specs.Grounds.{same_id, same_ids, same_atom, find_atom, atom_truth}
use Rattle.lv_places.proofs.Tests.{by_cases}
use Rattle.lv_places.proofs.Universes.{IsTerm, AreTerms, same_sorts, tuple_at, length-tuples, get_below}
use Rattle.lv_model.specs.declared.truths.Head.{Head}
use Rattle.lv_model.specs.declared.truths.Head.TheVariants.{Relation, Equal}
use Rattle.lv_model.specs.Truths.{sort, is_term, are_terms, atom_of, is_head_of, is_named, is_equality, TupleNumberIs, NumberIs, AreTruths}

-- ---- tuples and their numbers

pub same_number : (n : SortId → ℕ) (ss : List SortId) (ts us : List TermId) → AreTerms n ss ts → AreTerms n ss us → tuple_number n ts ≡ tuple_number n us
    → ts ≡ us
same_number n ss ts us h k e =
    let w : Some ts ≡ Some us = sym (tuple_at n ss ts h) ∙ ap (slice_get (tuples n ss)) e ∙ tuple_at n ss us k in
    cc

pub number_below : (n : SortId → ℕ) (ss : List SortId) (ts : List TermId) → AreTerms n ss ts → tuple_number n ts < product n ss
number_below n ss ts h =
    let b = get_below (tuples n ss) (tuple_number n ts) ts (tuple_at n ss ts h) in
    subst (λ k. tuple_number n ts < k) (length-tuples n ss) b

is_term-true : (n : SortId → ℕ) (s : SortId) (t : TermId) → is_term n s t ≡ true → IsTerm n s t
is_term-true n s t h =
    let p = and_parts (eqb t.sort.0 s.0) (ltb t.place (n s)) h in
    record { sort_is = same_sorts t.sort s (eqb-true t.sort.0 s.0 p.0); within = ltb-true t.place (n s) p.1 }

is_term-from : (n : SortId → ℕ) (s : SortId) (t : TermId) → IsTerm n s t → is_term n s t ≡ true
is_term-from n s t h =
    and_from (eqb t.sort.0 s.0) (ltb t.place (n s)) (eq-eqb t.sort.0 s.0 (ap (λ (z : SortId). z.0) h.sort_is)) (lt-ltb t.place (n s) h.within)

pub are_terms-true : (n : SortId → ℕ) (ss : List SortId) (ts : List TermId) → are_terms n ss ts ≡ true → AreTerms n ss ts
are_terms-true n [] [] h = tt
are_terms-true n [] (t ∷ ts) h = absurd (false≢true h)
are_terms-true n (s ∷ ss) [] h = absurd (false≢true h)
are_terms-true n (s ∷ ss) (t ∷ ts) h =
    let p = and_parts (is_term n s t) (are_terms n ss ts) h in
    (is_term-true n s t p.0, are_terms-true n ss ts p.1)

pub are_terms-from : (n : SortId → ℕ) (ss : List SortId) (ts : List TermId) → AreTerms n ss ts → are_terms n ss ts ≡ true
are_terms-from n [] [] h = refl
are_terms-from n [] (t ∷ ts) h = absurd h
are_terms-from n (s ∷ ss) [] h = absurd h
are_terms-from n (s ∷ ss) (t ∷ ts) h = and_from (is_term n s t) (are_terms n ss ts) (is_term-from n s t h.0) (are_terms-from n ss ts h.1)

-- ---- atoms

same_id-true : (a b : TermId) → same_id a b ≡ true → a ≡ b
same_id-true a b h =
    let q = and_parts (eqb a.sort.0 b.sort.0) (eqb a.place b.place) h in
    let e1 = eqb-true a.sort.0 b.sort.0 q.0 in
    let e2 = eqb-true a.place b.place q.1 in
    λ i. record { sort = record { 0 = e1 i }; place = e2 i }

same_id_refl : (a : TermId) → same_id a a ≡ true
same_id_refl a = and_from (eqb a.sort.0 a.sort.0) (eqb a.place a.place) (eq-eqb a.sort.0 a.sort.0 refl) (eq-eqb a.place a.place refl)

same_ids-true : (ts us : List TermId) → same_ids ts us ≡ true → ts ≡ us
same_ids-true [] [] h = refl
same_ids-true [] (b ∷ bs) h = absurd (false≢true h)
same_ids-true (a ∷ more) [] h = absurd (false≢true h)
same_ids-true (a ∷ more) (b ∷ bs) h =
    let p = and_parts (same_id a b) (same_ids more bs) h in
    let e = same_id-true a b p.0 in
    let r = same_ids-true more bs p.1 in
    cc

same_ids_refl : (ts : List TermId) → same_ids ts ts ≡ true
same_ids_refl [] = refl
same_ids_refl (a ∷ more) = and_from (same_id a a) (same_ids more more) (same_id_refl a) (same_ids_refl more)

same_atom_refl : (a : GroundAtom) → same_atom a a ≡ true
same_atom_refl (make.Relation r ts) = and_from (sym_eq r r) (same_ids ts ts) (sym_eq-refl r) (same_ids_refl ts)
same_atom_refl (make.Equal a b) = and_from (same_id a a) (same_id b b) (same_id_refl a) (same_id_refl b)

-- atoms with one head over the same sorts are the same only at the same tuple
pub same_tuple : (n : SortId → ℕ) (head : Head) (ss : List SortId) (ts us : List TermId) → is_head_of head ss ≡ true → AreTerms n ss ts → AreTerms n ss us
    → same_atom (atom_of head ts) (atom_of head us) ≡ true → ts ≡ us
same_tuple n (Relation r) ss ts us two h k e = same_ids-true ts us (and_parts (sym_eq r r) (same_ids ts us) e).1
same_tuple n Equal [] ts us two h k e = absurd (false≢true two)
same_tuple n Equal (s ∷ []) ts us two h k e = absurd (false≢true two)
same_tuple n Equal (s ∷ t ∷ r ∷ ss) ts us two h k e = absurd (let l = eqb-true (length (s ∷ t ∷ r ∷ ss)) 2 two in omega arith)
same_tuple n Equal (s ∷ t ∷ []) [] us two h k e = absurd h
same_tuple n Equal (s ∷ t ∷ []) (a ∷ []) us two h k e = absurd h.1
same_tuple n Equal (s ∷ t ∷ []) (a ∷ b ∷ c ∷ ts) us two h k e = absurd h.1.1
same_tuple n Equal (s ∷ t ∷ []) (a ∷ b ∷ []) [] two h k e = absurd k
same_tuple n Equal (s ∷ t ∷ []) (a ∷ b ∷ []) (c ∷ []) two h k e = absurd k.1
same_tuple n Equal (s ∷ t ∷ []) (a ∷ b ∷ []) (c ∷ d ∷ x ∷ us) two h k e = absurd k.1.1
same_tuple n Equal (s ∷ t ∷ []) (a ∷ b ∷ []) (c ∷ d ∷ []) two h k e =
    let p = and_parts (same_id a c) (same_id b d) e in
    let first = same_id-true a c p.0 in
    let second = same_id-true b d p.1 in
    cc

-- ---- the atoms from the number k on

abbrev pub after : List GroundAtom → (ℕ → Bool) → ℕ → GroundAtom → Bool
after atoms a k = atom_truth (drop k atoms) (λ i. a (k + i))

atom_truth_more : (x : GroundAtom) (xs : List GroundAtom) (a : ℕ → Bool) (y : GroundAtom)
    → atom_truth (x ∷ xs) a y ≡ cond (same_atom y x) (a 0) (atom_truth xs (λ i. a (suc i)) y)
atom_truth_more x xs a y = step (same_atom y x)
  where
    step : (b : Bool) → ((b || list_any (same_atom y) xs) && a (cond b 0 (suc (find_atom xs y)))) ≡ cond b (a 0)
        (list_any (same_atom y) xs && a (suc (find_atom xs y)))
    step true = refl
    step false = refl

after_more : (atoms : List GroundAtom) (a : ℕ → Bool) (k : ℕ) (x y : GroundAtom) → k < length atoms → get_or atoms k x ≡ x
    → after atoms a k y ≡ cond (same_atom y x) (a k) (after atoms a (k + 1) y)
after_more atoms a k x y l e =
    let here : k + 0 ≡ k = omega arith in
    let later : (i : ℕ) → a (k + suc i) ≡ a ((k + 1) + i) = λ i. let z : k + suc i ≡ (k + 1) + i = omega arith in ap a z in
    ap (λ l. atom_truth l (λ i. a (k + i)) y) (drop_more atoms k x l ∙ ap (λ z. z ∷ drop (k + 1) atoms) e)
    ∙ atom_truth_more x (drop (k + 1) atoms) (λ i. a (k + i)) y
    ∙ ap₂ (λ b f. cond (same_atom y x) b (atom_truth (drop (k + 1) atoms) f y)) (ap a here) (fun_ext later)

module _ (n : SortId → ℕ) (atoms : List GroundAtom) (a : ℕ → Bool) (head : Head) (ss : List SortId) (truths : List Bool) where
  -- the table before any atom
  pub none_yet : (k : ℕ) → length atoms ≡ k → length truths ≡ product n ss → ((i : ℕ) → get_or truths i false ≡ false)
      → AreTruths n (after atoms a k) head ss truths
  none_yet k e len none = record {
    len = len;
    each = λ ts are. none (tuple_number n ts) ∙ sym (ap (λ l. atom_truth l (λ i. a (k + i)) (atom_of head ts)) (past atoms k e));
  }
    where
      past : (xs : List GroundAtom) (k : ℕ) → length xs ≡ k → drop k xs ≡ []
      past [] zero e = refl
      past [] (suc k) e = refl
      past (x ∷ xs) zero e = absurd (omega arith)
      past (x ∷ xs) (suc k) e = past xs k (omega arith)

  -- the atom has another head, or terms of other sorts
  pub other_step : (k : ℕ) (x : GroundAtom) → k < length atoms → get_or atoms k x ≡ x
      → ((ts : List TermId) → AreTerms n ss ts → same_atom (atom_of head ts) x ≡ false)
      → AreTruths n (after atoms a (k + 1)) head ss truths → AreTruths n (after atoms a k) head ss truths
  other_step k x l e none h = record {
    len = h.len;
    each = λ ts are. h.each ts are ∙ sym (after_more atoms a k x (atom_of head ts) l e ∙ cond-false (same_atom (atom_of head ts) x) _ _ (none ts are));
  }

  -- the atom is written at its tuple's number
  pub same_step : (k : ℕ) (x : GroundAtom) (number : ℕ) (us : List TermId) → k < length atoms → get_or atoms k x ≡ x → is_head_of head ss ≡ true
      → AreTerms n ss us → x ≡ atom_of head us → number ≡ tuple_number n us
      → AreTruths n (after atoms a (k + 1)) head ss truths → AreTruths n (after atoms a k) head ss (set truths number (a k))
  same_step k x number us l e two us_are is at h = record { len = length-set truths number (a k) ∙ h.len; each = each }
    where
      within : number < length truths
      within = let b = number_below n ss us us_are in omega (arith, h.len)

      each : (ts : List TermId) → AreTerms n ss ts → get_or (set truths number (a k)) (tuple_number n ts) false ≡ after atoms a k (atom_of head ts)
      each ts are = by_cases (same_atom (atom_of head ts) x)
          (λ q. let q' : same_atom (atom_of head ts) (atom_of head us) ≡ true = subst (λ z. same_atom (atom_of head ts) z ≡ true) is q in
          let same = same_tuple n head ss ts us two are us_are q' in
          let there : tuple_number n ts ≡ number = ap (tuple_number n) same ∙ sym at in
          ap (λ i. get_or (set truths number (a k)) i false) there ∙ get_or-set_same truths number (a k) false within
          ∙ sym (after_more atoms a k x (atom_of head ts) l e ∙ cond-true (same_atom (atom_of head ts) x) _ _ q))
          (λ q. let elsewhere : tuple_number n ts ≢ number = λ z.
          let same : ts ≡ us = same_number n ss ts us are us_are (z ∙ at) in
          false≢true (sym q ∙ ap (λ r. same_atom (atom_of head r) x) same ∙ ap (same_atom (atom_of head us)) is ∙ same_atom_refl (atom_of head us)) in
          get_or-set_other truths number (tuple_number n ts) (a k) false elsewhere ∙ h.each ts are
          ∙ sym (after_more atoms a k x (atom_of head ts) l e ∙ cond-false (same_atom (atom_of head ts) x) _ _ q))

  -- all atoms were gone through
  pub all_done : (k : ℕ) → k ≡ 0 → AreTruths n (after atoms a k) head ss truths → AreTruths n (atom_truth atoms a) head ss truths
  all_done k z h =
      let at : (λ (i : ℕ). a (0 + i)) ≡ a = fun_ext (λ i. let q : 0 + i ≡ i = omega arith in ap a q) in
      subst (λ f. AreTruths n (atom_truth atoms f) head ss truths) at (subst (λ j. AreTruths n (after atoms a j) head ss truths) z h)

-- ---- the number of an atom's tuple

pub another_relation : (n : SortId → ℕ) (head : Head) (ss : List SortId) (r : Sym) (us ts : List TermId) → is_named head r ≡ false
    → same_atom (atom_of head ts) (make.Relation r us) ≡ false
another_relation n (Relation q) ss r us ts h = ap (λ b. b && same_ids ts us) h
another_relation n Equal ss r us ts h = refl

pub no_equality : (n : SortId → ℕ) (head : Head) (ss : List SortId) (a b : TermId) (ts : List TermId) → is_equality head ≡ false
    → same_atom (atom_of head ts) (make.Equal a b) ≡ false
no_equality n (Relation q) ss a b ts h = refl
no_equality n Equal ss a b ts h = absurd (false≢true (sym h))

same_false : (b : Bool) → (b ≡ true → ⊥) → b ≡ false
same_false true h = absurd (h refl)
same_false false h = refl

-- a relation's atom, as the test of its terms tells
pub relation_number : (n : SortId → ℕ) (head : Head) (ss : List SortId) (r : Sym) (us : List TermId) → is_named head r ≡ true
    → (o : Option ℕ) → TupleNumberIs n ss us o → NumberIs n head ss (make.Relation r us) o
relation_number n Equal ss r us h o is = absurd (false≢true h)
relation_number n (Relation q) ss r us h None is = λ ts are. same_false _ (λ e.
    let same = same_ids-true ts us (and_parts (sym_eq q r) (same_ids ts us) e).1 in
    false≢true (sym is ∙ are_terms-from n ss us (subst (AreTerms n ss) same are)))
relation_number n (Relation q) ss r us h (Some k) is =
    (us, are_terms-true n ss us is.0, ap (λ z. make.Relation z us) (sym (sym_eq-true q r h)), is.1)

pub equality_number : (n : SortId → ℕ) (head : Head) (ss : List SortId) (a b : TermId) → is_head_of head ss ≡ true → is_equality head ≡ true
    → (o : Option ℕ) → TupleNumberIs n ss (a ∷ b ∷ []) o → NumberIs n head ss (make.Equal a b) o
equality_number n (Relation q) ss a b two h o is = absurd (false≢true h)
equality_number n Equal ss a b two h None is = λ ts are. same_false _ (λ e.
    let same = pair_is ss ts two are e in
    false≢true (sym is ∙ are_terms-from n ss (a ∷ b ∷ []) (subst (AreTerms n ss) same are)))
  where
    pair_is : (ss : List SortId) (ts : List TermId) → is_head_of Equal ss ≡ true → AreTerms n ss ts → same_atom (atom_of Equal ts) (make.Equal a b) ≡ true
        → ts ≡ a ∷ b ∷ []
    pair_is [] ts two h e = absurd (false≢true two)
    pair_is (s ∷ []) ts two h e = absurd (false≢true two)
    pair_is (s ∷ t ∷ r ∷ ss) ts two h e = absurd (let l = eqb-true (length (s ∷ t ∷ r ∷ ss)) 2 two in omega arith)
    pair_is (s ∷ t ∷ []) [] two h e = absurd h
    pair_is (s ∷ t ∷ []) (c ∷ []) two h e = absurd h.1
    pair_is (s ∷ t ∷ []) (c ∷ d ∷ x ∷ ts) two h e = absurd h.1.1
    pair_is (s ∷ t ∷ []) (c ∷ d ∷ []) two h e =
        let p = and_parts (same_id c a) (same_id d b) e in
        let first = same_id-true c a p.0 in
        let second = same_id-true d b p.1 in
        cc
equality_number n Equal ss a b two h (Some k) is = (a ∷ b ∷ [], are_terms-true n ss (a ∷ b ∷ []) is.0, refl, is.1)

-- one more that is false
pub still_false : (xs : List Bool) → ((i : ℕ) → get_or xs i false ≡ false) → (i : ℕ) → get_or (xs ++ false ∷ []) i false ≡ false
still_false [] h zero = refl
still_false [] h (suc i) = refl
still_false (x ∷ xs) h zero = h 0
still_false (x ∷ xs) h (suc i) = still_false xs (λ j. h (suc j)) i

-- the number of a pair of terms of one sort
pub pair_number : (n : SortId → ℕ) (s : SortId) (left right count : ℕ) → count ≡ n s
    → tuple_number n (term s left ∷ term s right ∷ []) ≡ left * count + right
pair_number n s left right count e =
    let one : n s * 1 ≡ count = mul-one (n s) ∙ sym e in
    let w = ap (λ k. left * k) one in
    omega arith

pub pair_of_terms : (n : SortId → ℕ) (s : SortId) (left right : ℕ) → left < n s → right < n s → AreTerms n (s ∷ s ∷ []) (term s left ∷ term s right ∷ [])
pair_of_terms n s left right l r = (record { sort_is = refl; within = l }, (record { sort_is = refl; within = r }, tt))

-- ---- as code has them

pub told_number : (n : SortId → ℕ) (head : Head) (ss : List SortId) (x : GroundAtom) (o : Option ℕ) (k : ℕ) → o ≡ Some k → NumberIs n head ss x o
    → NumberIs n head ss x (Some k)
told_number n head ss x o k e h = subst (NumberIs n head ss x) e h

pub number_within : (n : SortId → ℕ) (head : Head) (ss : List SortId) (x : GroundAtom) (k : ℕ) → NumberIs n head ss x (Some k) → k < product n ss
number_within n head ss x k h = let b = number_below n ss h.0 h.1 in let e = h.3 in omega (arith, b, e)

pub written : (n : SortId → ℕ) (atoms : List GroundAtom) (a : ℕ → Bool) (head : Head) (ss : List SortId) (truths : List Bool) (next : ℕ) (x : GroundAtom)
    (number : ℕ) (value : Bool) → 0 < next → next - 1 < length atoms → get_or atoms (next - 1) x ≡ x → is_head_of head ss ≡ true
    → NumberIs n head ss x (Some number) → value ≡ a (next - 1)
    → AreTruths n (after atoms a next) head ss truths → AreTruths n (after atoms a (next - 1)) head ss (set truths number value)
written n atoms a head ss truths next x number value some l e two is v h =
    let z : next ≡ (next - 1) + 1 = omega arith in
    subst (λ b. AreTruths n (after atoms a (next - 1)) head ss (set truths number b)) (sym v)
    (same_step n atoms a head ss truths (next - 1) x number is.0 l e two is.1 is.2 is.3 (subst (λ j. AreTruths n (after atoms a j) head ss truths) z h))

pub left_out : (n : SortId → ℕ) (atoms : List GroundAtom) (a : ℕ → Bool) (head : Head) (ss : List SortId) (truths : List Bool) (next : ℕ) (x : GroundAtom)
    → 0 < next → next - 1 < length atoms → get_or atoms (next - 1) x ≡ x → NumberIs n head ss x None
    → AreTruths n (after atoms a next) head ss truths → AreTruths n (after atoms a (next - 1)) head ss truths
left_out n atoms a head ss truths next x some l e is h =
    let z : next ≡ (next - 1) + 1 = omega arith in
    other_step n atoms a head ss truths (next - 1) x l e is (subst (λ j. AreTruths n (after atoms a j) head ss truths) z h)

pub relation_told : (n : SortId → ℕ) (head : Head) (ss : List SortId) (x : GroundAtom) (r : Sym) (us ts : List TermId)
    {E : Type 0} (o : Result (Option ℕ) E) → x ≡ make.Relation r us → ts ≡ us → is_named head r ≡ true
    → IfOk o (TupleNumberIs n ss ts) → IfOk o (NumberIs n head ss x)
relation_told n head ss x r us ts (Err e) is same named h = tt
relation_told n head ss x r us ts (Ok o) is same named h =
    subst (λ x. NumberIs n head ss x o) (sym is)
    (relation_number n head ss r us named o (subst (λ l. TupleNumberIs n ss l o) same h))

pub equality_told : (n : SortId → ℕ) (head : Head) (ss : List SortId) (x : GroundAtom) (a b : TermId)
    {E : Type 0} (o : Result (Option ℕ) E) → x ≡ make.Equal a b → is_head_of head ss ≡ true → is_equality head ≡ true
    → IfOk o (TupleNumberIs n ss (a ∷ b ∷ [])) → IfOk o (NumberIs n head ss x)
equality_told n head ss x a b (Err e) is two equal h = tt
equality_told n head ss x a b (Ok o) is two equal h = subst (λ x. NumberIs n head ss x o) (sym is) (equality_number n head ss a b two equal o h)
