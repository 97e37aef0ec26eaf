-- The word that an item begins with, and its new name, are read exactly where they stand.
use Rattle.std.proofs.Common.{◌≡◌, ℕ, Bool, true, false, not, ◌&&◌, leb, ltb, List, [], ◌∷◌, length, is_some, Some, Ok, refl, sym, ap, subst, ◌∙◌}
use Rattle.std.proofs.lemmas.Bool.{and_from}
use Rattle.lv_tree.specs.declared.tree.Tree.{Tree, Tree-F, out-Tree}
use Rattle.lv_tree.specs.declared.tree.Tree.TheOpen.{Word, Group}
use Rattle.lv_system.specs.Names.{same_text, is_name, are_name_bytes, begins_small}
use Rattle.lv_fault.specs.Given.{◌>>=◌, Worded, word_in, Headed, headed_layer, headed}
use Rattle.lv_fault.specs.declared.fault.SyntaxFault.{SyntaxFault}
use Rattle.lv_grammar.specs.declared.reading.Family.{Family}
use Rattle.lv_grammar.specs.declared.reading.Family.TheVariants as Fam
use Rattle.lv_grammar.specs.Grammar.{IsWord, IsList}
use Rattle.lv_grammar.specs.WordKinds.{family_of}
use Rattle.lv_grammar.specs.Known.{Known, named}
use Rattle.lv_grammar.specs.ReadWords.{new_name_by, new_name}
use Rattle.lv_grammar.specs.ReadItems.{name_in}
use Rattle.lv_grammar.specs.Rules.{Begins, IsNew}
use Rattle.lv_grammar.specs.Reading.{first_word, head_layer, head_word, is_word, begins_with}
use Rattle.lv_grammar.proofs.Steps.{done, ok_is, bound, passed, one_more, word_found, heads, head_found}
use Rattle.lv_grammar.proofs.SameTexts.{same_is, same_self}
use Rattle.lv_grammar.proofs.TreesAgain.{listed_again, word_again, HeadedBy, headed_by}
use Rattle.lv_spelling.proofs.Families.{family_says, short, Says as FamilySays}
use Rattle.lv_spelling.proofs.Tests.{not_long, not_not, not_false}
use Rattle.lv_spelling.proofs.WordKinds.{and_first, and_second, name_family}

-- ---- heads

-- the list begins with its word
pub head_is : (l : Tree-F Tree) (h : Headed) → headed_layer l ≡ done h → head_layer l ≡ Some h.word.text
head_is (Word at text) h e = absurd cc
head_is (Group at end items) h e = let x = heads at end items h e in ap first_word x.whole ∙ x.word

pub head_same : (word : List ℕ) (t : Tree) (h : Headed) → headed t ≡ done h → begins_with word t ≡ same_text h.word.text word
head_same word t h e = ap (is_word word) (head_is (out-Tree t) h e)

pub kind_found : (word : List ℕ) (t : Tree) (h : Headed) → headed t ≡ done h → begins_with word t ≡ true → Begins word h.rest t
kind_found word t h e b =
    let x = head_found t h e in
    let text : h.word.text ≡ word = same_is h.word.text word (sym (head_same word t h e) ∙ b) in
    record { head = x.heads.first; list = subst (λ z. IsList z t) x.heads.whole x.list; first = x.heads.word ∙ ap Some text }

pub begins_again : (word : List ℕ) (items : List Tree) (t : Tree) → Begins word items t → head_word t ≡ Some word
begins_again word items t b = let l = listed_again (out-Tree t) (b.head ∷ items) b.list in ap head_layer l.2 ∙ b.first

pub kind_again : (word : List ℕ) (items : List Tree) (t : Tree) → Begins word items t → begins_with word t ≡ true
kind_again word items t b = ap (is_word word) (begins_again word items t b) ∙ same_self word

pub head_again : (word : List ℕ) (items : List Tree) (t : Tree) → Begins word items t → HeadedBy t items word
head_again word items t b = headed_by t b.head items word b.list b.first

-- ---- new names

name_by : (k : Known) (t : Tree) (w : Worded) (f : Family) (name : List ℕ) → IsWord w.text t → FamilySays w.text f → new_name_by k w.at w.text f ≡ done name → IsNew k name t
name_by k t w Fam.Name name is says e =
    let a = passed (is_some (named k w.text)) _ _ _ name e in
    let b = passed (ltb 48 (length w.text)) _ _ _ name a.1 in
    let form : is_name w.text ≡ true = and_from (begins_small w.text && are_name_bytes w.text && leb (length w.text) 48) _
    (and_from (begins_small w.text && are_name_bytes w.text) _ says.1 (short (length w.text) b.0)) (ap not says.0) in
    subst (λ z. IsNew k z t) (ok_is w.text name b.1) (record { word = is; new = and_from (is_name w.text) _ form (ap not a.0) })
name_by k t w Fam.Frozen name is says e = absurd cc
name_by k t w Fam.Saved name is says e = absurd cc
name_by k t w Fam.Dotted name is says e = absurd cc
name_by k t w Fam.Variable name is says e = absurd cc
name_by k t w Fam.Other name is says e = absurd cc

pub name_is : (k : Known) (end : ℕ) (items : List Tree) (x : List ℕ × List Tree) → name_in k end items ≡ done x → (n : Tree) × (items ≡ n ∷ x.1) × IsNew k x.0 n
unfolding name_in new_name
name_is k end items x e =
    let a = one_more end items _ x e in
    let n = bound (new_name k a.0) _ x a.3 in
    let w = bound (word_in a.0) _ n.0 n.1 in
    let new = name_by k a.0 w.0 (family_of w.0.text) n.0 (word_found a.0 w.0 w.1) (family_says w.0.text) w.2 in
    subst (λ (z : List ℕ × List Tree). (n : Tree) × (items ≡ n ∷ z.1) × IsNew k z.0 n) (ok_is (n.0, a.1) x n.2) (a.0, a.2, new)

pub name_again : (k : Known) (end : ℕ) (name : List ℕ) (n : Tree) (rest : List Tree) → IsNew k name n → name_in k end (n ∷ rest) ≡ done (name, rest)
unfolding name_in new_name
name_again k end name n rest is =
    let w = word_again n name is.word in
    let form = and_first (is_name name) _ is.new in
    let free = not_not _ (and_second (is_name name) _ is.new) in
    let size : leb (length name) 48 ≡ true = and_second (begins_small name && are_name_bytes name) _ (and_first (begins_small name && are_name_bytes name && leb (length name) 48) _ form) in
    rw (w.1, name_family name form, free, not_long (length name) size) refl

-- the list begins with the word that was tested for
pub word_begins : (word : List ℕ) (t : Tree) (h : Headed) → headed t ≡ done h → not (same_text h.word.text word) ≡ false → Begins word h.rest t
word_begins word t h e b = kind_found word t h e (head_same word t h e ∙ not_false (same_text h.word.text word) b)
