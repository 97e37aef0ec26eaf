-- What a tree is of which a size, a tuple or an entry was read.
use Rattle.std.proofs.Common.{◌≡◌, ℕ, zero, suc, ◌<◌, ◌≤◌, ◌^◌, Bool, true, false, eqb, leb, ltb, cond, List, [], ◌∷◌, length, Result, Ok, refl, sym, ap, subst, ◌∙◌, arith}
use Rattle.std.specs.Prelude.{not, ◌&&◌, ◌||◌, codes, decimal}
use Rattle.std.specs.List.{All}
use Rattle.std.specs.Str.{all_ascii_digits}
use Rattle.std.proofs.lemmas.Bool.{and_parts, eq-eqb, eqb-true, leb-true, ltb-true, ltb-false}
use Rattle.std.proofs.lemmas.Fmt.{decimal-digits_value}
use Rattle.std.proofs.lemmas.List.Elements.{All-cons, All-nil}
use Rattle.std.proofs.lemmas.Str.Parse.{digits_value_short}
use Rattle.lv_tree.specs.declared.tree.Tree.{Tree}
use Rattle.lv_formula.specs.declared.symbols.SortId.{SortId}
use Rattle.lv_struct.specs.Tables.{IsInRange, size_of}
use Rattle.lv_grammar.specs.Grammar.{Each, IsList, IsWord, first_and_rest, nothing}
use Rattle.lv_grammar.specs.Structures.{IsTuple}
use Rattle.lv_system.specs.Names.{same_text}
use Rattle.lv_fault.specs.declared.fault.Kind.TheVariants.{Unexpected, TooMany, WrongArity, WrongSort}
use Rattle.lv_fault.specs.declared.fault.SyntaxFault.{SyntaxFault}
use Rattle.lv_reading.specs.declared.numbers.Numbered.{Numbered}
use Rattle.lv_fault.specs.Given.{◌>>=◌, Headed, Worded, fail, headed, list_in, place_of, word_in}
use Rattle.lv_reading.specs.Numbers.{element_in, element_in_sort, exactly, exactly_in, is_number, number_in, number_of_word, value_from}
use Rattle.lv_reading.specs.Structures.{constant_entry, each_element, elements_in, relation_entry, size_from, size_in, tuple_in, tuples_in}
use Rattle.lv_reading.proofs.NumberLaws.{own}
use Rattle.lv_grammar.proofs.SameTexts.{same_is}
use Rattle.lv_grammar.proofs.Steps.{Begins, bound, head_found, list_found, nothing_left, ok_is, one_more, passed, word_found}
use Rattle.lv_reading.proofs.TupleLaws.{element_below, in_range}

-- ---- words

no_not : (b : Bool) → not b ≡ false → b ≡ true
no_not true e = refl
no_not false e = absurd cc

-- the word is the one that is asked for
pub exact : {B : Type 0} (text : List ℕ) (w : Worded) (f : Unit {0} → Result B SyntaxFault) (y : B) → (exactly text w >>= f) ≡ Ok y → (text ≡ w.text) × (f tt ≡ Ok y)
exact text w f y e =
    let p = passed (not (same_text text w.text)) Unexpected w.at f y e in
    (same_is text w.text (no_not (same_text text w.text) p.0), p.1)

pub exact_in : {B : Type 0} (text : List ℕ) (t : Tree) (f : Unit {0} → Result B SyntaxFault) (y : B) → (exactly_in text t >>= f) ≡ Ok y → IsWord text t × (f tt ≡ Ok y)
exact_in text t f y e =
    let u = bound (exactly_in text t) f y e in
    let w = bound (word_in t) (exactly text) u.0 u.1 in
    let p = passed (not (same_text text w.0.text)) Unexpected w.0.at (λ x. Ok x) u.0 (again (exactly text w.0) u.0 w.2) in
    let same = same_is text w.0.text (no_not (same_text text w.0.text) p.0) in
    (subst (λ z. IsWord z t) (sym same) (word_found t w.0 w.1), u.2)
  where
    again : {A : Type 0} (r : Result A SyntaxFault) (x : A) → r ≡ Ok x → (r >>= λ y. Ok y) ≡ Ok x
    again r x e = ap (λ s. s >>= λ y. Ok y) e

-- ---- numbers

digits_spell : (text : List ℕ) → is_number text ≡ true → decimal (value_from 0 text) ≡ text
digits_spell [] e = absurd cc
digits_spell (c ∷ cs) e =
    let a = and_parts (all_ascii_digits (c ∷ cs)) (leb (length (c ∷ cs)) 9 && (not (eqb c 48) || eqb (length (c ∷ cs)) 1)) e in
    let b = and_parts (leb (length (c ∷ cs)) 9) (not (eqb c 48) || eqb (length (c ∷ cs)) 1) a.1 in
    let small : value_from 0 (c ∷ cs) < 10 ^ 9 = digits_value_short own (c ∷ cs) 9 a.0 (leb-true (length (c ∷ cs)) 9 b.0) in
    decimal-digits_value own (c ∷ cs) a.0 (omega arith) (λ is. alone (eqb c 48) (eq-eqb c 48 is) b.1) (omega (arith, small))
  where
    alone : (zeroed : Bool) → zeroed ≡ true → (not zeroed || eqb (length (c ∷ cs)) 1) ≡ true → length (c ∷ cs) ≡ 1
    alone true is h = eqb-true (length (c ∷ cs)) 1 h
    alone false is h = absurd cc

pub number_found : (t : Tree) (n : Numbered) → number_in t ≡ Ok n → IsWord (decimal n.value) t
number_found t n e =
    let w = bound (word_in t) number_of_word n e in
    let text = word_found t w.0 w.1 in
    go (is_number w.0.text) w.0 refl text w.2
  where
    go : (b : Bool) (w : Worded) → is_number w.text ≡ b → IsWord w.text t → cond b (Ok (record { at = w.at; value = value_from 0 w.text })) (fail Unexpected w.at) ≡ Ok n → IsWord (decimal n.value) t
    go true w is text h =
        let value = ap (λ z. z.value) (ok_is (record { at = w.at; value = value_from 0 w.text }) n h) in
        subst (λ z. IsWord z t) (sym (digits_spell w.text is) ∙ ap decimal value) text
    go false w is text h = absurd cc

pub element_found : (size : ℕ) (t : Tree) (e : ℕ) → element_in size t ≡ Ok e → IsWord (decimal e) t
element_found size t e h =
    let n = bound (number_in t) (element_in_sort size) e h in
    subst (λ x. IsWord (decimal x) t) (same n.0 (ltb n.0.value size) n.2) (number_found t n.0 n.1)
  where
    same : (n : Numbered) (b : Bool) → cond b (Ok n.value) (fail WrongSort n.at) ≡ Ok e → n.value ≡ e
    same n true h = ok_is n.value e h
    same n false h = absurd cc

-- ---- sizes

-- a tree that is a list of three words
pub record IsTriple (head name last : List ℕ) (t : Tree) : Type 0 where
  pub a : Tree
  pub b : Tree
  pub c : Tree
  pub list : IsList (a ∷ b ∷ c ∷ []) t
  pub first : IsWord head a
  pub second : IsWord name b
  pub third : IsWord last c

triple : (head name last : List ℕ) (t : Tree) (h : Headed) → Begins h t → head ≡ h.word.text → (b c : Tree) (bs cs : List Tree) → h.rest ≡ b ∷ bs → bs ≡ c ∷ cs → cs ≡ [] → IsWord name b → IsWord last c → IsTriple head name last t
triple head name last t h begins same b c bs cs more further end second third =
    record {
      a = begins.heads.first;
      b = b;
      c = c;
      list = subst (λ z. IsList z t) (begins.heads.whole ∙ ap (λ z. begins.heads.first ∷ z) (more ∙ ap (λ z. b ∷ z) (further ∙ ap (λ z. c ∷ z) end))) begins.list;
      first = subst (λ z. IsWord z begins.heads.first) (sym same) begins.heads.word;
      second = second;
      third = third;
    }

pub record SizeFound (name : List ℕ) (n : ℕ) (t : Tree) : Type 0 where
  pub triple : IsTriple (codes "size") name (decimal n) t
  pub some : 0 < n
  pub few : n ≤ 256

size_value : (n : Numbered) (size : ℕ) → size_from n ≡ Ok size → (n.value ≡ size) × (0 < size) × (size ≤ 256)
size_value n size e =
    let a = passed (eqb n.value 0) Unexpected n.at _ size e in
    let b = passed (ltb 256 n.value) TooMany n.at _ size a.1 in
    let v = ok_is n.value size b.1 in
    (v, subst (λ x. 0 < x) v (positive n.value a.0), subst (λ x. x ≤ 256) v (ltb-false 256 n.value b.0))
  where
    positive : (x : ℕ) → eqb x 0 ≡ false → 0 < x
    positive zero e = absurd cc
    positive (suc x) e = omega arith

pub size_found : (name : List ℕ) (t : Tree) (n : ℕ) → size_in name t ≡ Ok n → SizeFound name n t
unfolding size_in
size_found name t n e =
    let l = bound (headed t) _ n e in
    let w = exact (codes "size") l.0.word _ n l.2 in
    let a = one_more l.0.end l.0.rest _ n w.1 in
    let x = exact_in name a.0 _ n a.3 in
    let b = one_more l.0.end a.1 _ n x.1 in
    let m = bound (number_in b.0) _ n b.3 in
    let s = bound (size_from m.0) _ n m.2 in
    let u = nothing_left b.1 _ n s.2 in
    let v = size_value m.0 s.0 s.1 in
    let same = ok_is s.0 n u.1 in
    record {
      triple = triple (codes "size") name (decimal n) t l.0 (head_found t l.0 l.1) w.0 a.0 b.0 a.1 b.1 a.2 b.2 u.0 x.0 (subst (λ z. IsWord (decimal z) b.0) (v.0 ∙ same) (number_found b.0 m.0 m.1));
      some = subst (λ z. 0 < z) same v.1;
      few = subst (λ z. z ≤ 256) same v.2;
    }

-- ---- constants

pub record ConstantFound (size : ℕ) (name : List ℕ) (e : ℕ) (t : Tree) : Type 0 where
  pub triple : IsTriple (codes "constant") name (decimal e) t
  pub below : e < size

pub constant_found : (size : ℕ) (name : List ℕ) (t : Tree) (e : ℕ) → constant_entry size name t ≡ Ok e → ConstantFound size name e t
unfolding constant_entry
constant_found size name t e h =
    let l = bound (headed t) _ e h in
    let w = exact (codes "constant") l.0.word _ e l.2 in
    let a = one_more l.0.end l.0.rest _ e w.1 in
    let x = exact_in name a.0 _ e a.3 in
    let b = one_more l.0.end a.1 _ e x.1 in
    let s = bound (element_in size b.0) _ e b.3 in
    let u = nothing_left b.1 _ e s.2 in
    let same = ok_is s.0 e u.1 in
    record {
      triple = triple (codes "constant") name (decimal e) t l.0 (head_found t l.0 l.1) w.0 a.0 b.0 a.1 b.1 a.2 b.2 u.0 x.0 (subst (λ z. IsWord (decimal z) b.0) same (element_found size b.0 s.0 s.1));
      below = subst (λ z. z < size) same (ltb-true s.0 size (element_below size b.0 s.0 s.1));
    }

-- ---- relations

module _ (sizes : List ℕ) (sorts : List SortId) where
  elements_found : (ss : List SortId) (ts : List Tree) (es : List ℕ) → length ts ≡ length ss → each_element sizes ss ts ≡ Ok es → Each (λ n a. IsWord (decimal n) a) es ts
  unfolding each_element
  elements_found [] [] es l e = subst (λ z. Each (λ n a. IsWord (decimal n) a) z []) (ok_is [] es e) nothing
  elements_found [] (t ∷ ts) es l e = absurd (omega (arith, l))
  elements_found (s ∷ ss) [] es l e = absurd (omega (arith, l))
  elements_found (s ∷ ss) (t ∷ ts) es l e =
      let a = bound (element_in (size_of sizes s) t) _ es e in
      let b = bound (each_element sizes ss ts) _ es a.2 in
      subst (λ z. Each (λ n a. IsWord (decimal n) a) z (t ∷ ts)) (ok_is (a.0 ∷ b.0) es b.2)
      (first_and_rest (element_found (size_of sizes s) t a.0 a.1) (elements_found ss ts b.0 (omega (arith, l)) b.1))

  tuple_found : (t : Tree) (tuple : List ℕ) → tuple_in sizes sorts t ≡ Ok tuple → IsTuple tuple t × IsInRange sizes sorts tuple
  unfolding tuple_in elements_in
  tuple_found t tuple e =
      let l = bound (list_in t) _ tuple e in
      let p = passed (not (eqb (length l.0.items) (length sorts))) WrongArity (place_of t) _ tuple l.2 in
      let many = eqb-true (length l.0.items) (length sorts) (no_not (eqb (length l.0.items) (length sorts)) p.0) in
      ((l.0.items, list_found t l.0 l.1, elements_found sorts l.0.items tuple many p.1), in_range sizes sorts (place_of t) l.0.items tuple l.2)

  tuples_found : (ts : List Tree) (tuples : List (List ℕ)) → tuples_in sizes sorts ts ≡ Ok tuples → Each IsTuple tuples ts × All (IsInRange sizes sorts) tuples
  unfolding tuples_in
  tuples_found [] tuples e = subst (λ z. Each IsTuple z [] × All (IsInRange sizes sorts) z) (ok_is [] tuples e) (nothing, All-nil (IsInRange sizes sorts))
  tuples_found (t ∷ ts) tuples e =
      let a = bound (tuple_in sizes sorts t) _ tuples e in
      let b = bound (tuples_in sizes sorts ts) _ tuples a.2 in
      let one = tuple_found t a.0 a.1 in
      let rest = tuples_found ts b.0 b.1 in
      subst (λ z. Each IsTuple z (t ∷ ts) × All (IsInRange sizes sorts) z) (ok_is (a.0 ∷ b.0) tuples b.2)
      (first_and_rest one.0 rest.0, All-cons (IsInRange sizes sorts) a.0 b.0 one.1 rest.1)

  pub record RelationFound (spelled : List ℕ) (tuples : List (List ℕ)) (t : Tree) : Type 0 where
    pub h : Tree
    pub word : Tree
    pub items : List Tree
    pub list : IsList (h ∷ word ∷ items) t
    pub head : IsWord (codes "relation") h
    pub name : IsWord spelled word
    pub listed : Each IsTuple tuples items
    pub in_range : All (IsInRange sizes sorts) tuples

  pub relation_found : (name : List ℕ) (t : Tree) (tuples : List (List ℕ)) → relation_entry sizes sorts name t ≡ Ok tuples → RelationFound name tuples t
  unfolding relation_entry
  relation_found name t tuples e =
      let l = bound (headed t) _ tuples e in
      let w = exact (codes "relation") l.0.word _ tuples l.2 in
      let a = one_more l.0.end l.0.rest _ tuples w.1 in
      let x = exact_in name a.0 _ tuples a.3 in
      let begins = head_found t l.0 l.1 in
      let read = tuples_found a.1 tuples x.1 in
      record {
        h = begins.heads.first;
        word = a.0;
        items = a.1;
        list = subst (λ z. IsList z t) (begins.heads.whole ∙ ap (λ z. begins.heads.first ∷ z) a.2) begins.list;
        head = subst (λ z. IsWord z begins.heads.first) (sym w.0) begins.heads.word;
        name = x.0;
        listed = read.0;
        in_range = read.1;
      }
