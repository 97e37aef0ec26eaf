-- What the steps of a reading found, where they all found something.
use Rattle.std.proofs.Common.{◌≡◌, ℕ, Bool, true, false, List, [], ◌∷◌, Some, Result, Ok, Err, refl, ap, subst}
use Rattle.lv_tree.specs.declared.tree.Tree.{Tree, Tree-F, out-Tree}
use Rattle.lv_tree.specs.declared.tree.Tree.TheOpen.{Word, Group}
use Rattle.lv_grammar.specs.Trees as Trees
use Rattle.lv_grammar.specs.Grammar.{IsWord, IsList}
use Rattle.lv_fault.specs.declared.fault.Kind.{Kind}
use Rattle.lv_fault.specs.declared.fault.SyntaxFault.{SyntaxFault}
use Rattle.lv_fault.specs.Given.{◌>>=◌, fail_if, next_of, ended, Worded, word_layer, word_in, Listed, list_layer, list_in, Headed, headed_items, headed_layer, headed}

abbrev pub done : {A : Type 0} → A → Result A SyntaxFault
done x = Ok x

pub ok_is : {A : Type 0} (x y : A) → done x ≡ done y → x ≡ y
ok_is x y e = cc

-- what a step found, and what came of it
pub bound : {A B : Type 0} (r : Result A SyntaxFault) (f : A → Result B SyntaxFault) (y : B) → (r >>= f) ≡ done y → (x : A) × (r ≡ done x) × (f x ≡ done y)
bound (Ok x) f y e = (x, refl, e)
bound (Err z) f y e = absurd cc

pub passes : (wrong : Bool) (kind : Kind) (at : ℕ) (u : Unit {0}) → fail_if wrong kind at ≡ done u → wrong ≡ false
passes false kind at u e = refl
passes true kind at u e = absurd cc

-- after a test that found no fault
pub passed : {B : Type 0} (wrong : Bool) (kind : Kind) (at : ℕ) (f : Unit {0} → Result B SyntaxFault) (y : B) → (fail_if wrong kind at >>= f) ≡ done y → (wrong ≡ false) × (f tt ≡ done y)
passed false kind at f y e = (refl, e)
passed true kind at f y e = absurd cc

pub nothing_left : {B : Type 0} (ts : List Tree) (f : Unit {0} → Result B SyntaxFault) (y : B) → (ended ts >>= f) ≡ done y → (ts ≡ []) × (f tt ≡ done y)
nothing_left [] f y e = (refl, e)
nothing_left (t ∷ ts) f y e = absurd cc

pub one_more : {B : Type 0} (end : ℕ) (items : List Tree) (f : Tree × List Tree → Result B SyntaxFault) (y : B) → (next_of end items >>= f) ≡ done y
    → (t : Tree) × (ts : List Tree) × (items ≡ t ∷ ts) × (f (t, ts) ≡ done y)
one_more end [] f y e = absurd cc
one_more end (t ∷ ts) f y e = (t, ts, refl, e)

worded : (l : Tree-F Tree) (w : Worded) → word_layer l ≡ done w → Trees.word_layer l ≡ Some w.text
worded (Word at text) w e = ap (λ z. Some z.text) (ok_is (record { at = at; text = text }) w e)
worded (Group at end items) w e = absurd cc

pub word_found : (t : Tree) (w : Worded) → word_in t ≡ done w → IsWord w.text t
word_found t w e = worded (out-Tree t) w e

listed : (l : Tree-F Tree) (x : Listed) → list_layer l ≡ done x → Trees.items_layer l ≡ Some x.items
listed (Word at text) x e = absurd cc
listed (Group at end items) x e = ap (λ z. Some z.items) (ok_is (record { end = end; items = items }) x e)

pub list_found : (t : Tree) (x : Listed) → list_in t ≡ done x → IsList x.items t
list_found t x e = listed (out-Tree t) x e

-- a list that begins with a word
pub record Heads (h : Headed) (items : List Tree) : Type 0 where
  pub first : Tree
  pub whole : items ≡ first ∷ h.rest
  pub word : IsWord h.word.text first

pub heads : (at end : ℕ) (items : List Tree) (h : Headed) → headed_items at end items ≡ done h → Heads h items
unfolding headed_items
heads at end items h e =
    let a = one_more end items _ h e in
    let w = bound (word_in a.0) _ h a.3 in
    subst (λ z. Heads z items) (ok_is _ h w.2) (record { first = a.0; whole = a.2; word = word_found a.0 w.0 w.1 })

pub record Begins (h : Headed) (t : Tree) : Type 0 where
  pub items : List Tree
  pub list : IsList items t
  pub heads : Heads h items

begins : (l : Tree-F Tree) (h : Headed) → headed_layer l ≡ done h → (items : List Tree) × (Trees.items_layer l ≡ Some items) × Heads h items
begins (Word at text) h e = absurd cc
begins (Group at end items) h e = (items, refl, heads at end items h e)

pub head_found : (t : Tree) (h : Headed) → headed t ≡ done h → Begins h t
head_found t h e = let p = begins (out-Tree t) h e in record { items = p.0; list = p.1; heads = p.2 }
