-- The mark at the end of an item is read exactly where it stands.
use Rattle.std.proofs.Common.{◌≡◌, ℕ, Bool, true, false, not, List, [], ◌∷◌, Some, refl, sym, ap, subst, ◌∙◌}
use Rattle.lv_tree.specs.declared.tree.Tree.{Tree}
use Rattle.lv_system.specs.Names.{same_text}
use Rattle.lv_fault.specs.Given.{word_in}
use Rattle.lv_grammar.specs.Grammar.{IsWord, IsMark, without, with_word}
use Rattle.lv_grammar.specs.ReadItems.{marked_by, mark_in}
use Rattle.lv_grammar.proofs.Steps.{done, ok_is, bound, passed, nothing_left, word_found}
use Rattle.lv_grammar.proofs.SameTexts.{same_is, same_self}
use Rattle.lv_grammar.proofs.TreesAgain.{word_again}
use Rattle.lv_spelling.proofs.Tests.{not_false}

-- the word of a test that was passed
pub word_is : (text word : List ℕ) → not (same_text text word) ≡ false → text ≡ word
word_is text word e = same_is text word (not_false (same_text text word) e)

mark_by : (text : List ℕ) (t : Tree) (ts : List Tree) (b : Bool) → marked_by text t ts ≡ done b → IsMark text b (t ∷ ts)
mark_by text t ts b e =
    let w = bound (word_in t) _ b e in
    let q = passed (not (same_text w.0.text text)) _ _ _ b w.2 in
    let z = nothing_left ts _ b q.1 in
    let is : IsWord text t = word_found t w.0 w.1 ∙ ap Some (word_is w.0.text text q.0) in
    subst (λ us. IsMark text b (t ∷ us)) (sym z.0) (subst (λ c. IsMark text c (t ∷ [])) (ok_is true b z.1) (with_word is))

pub mark_right : (text : List ℕ) (ts : List Tree) (b : Bool) → mark_in text ts ≡ done b → IsMark text b ts
unfolding mark_in
mark_right text [] b e = subst (λ c. IsMark text c []) (ok_is false b e) without
mark_right text (t ∷ ts) b e = mark_by text t ts b e

pub mark_again : (text : List ℕ) (mark : Bool) (ts : List Tree) → IsMark text mark ts → mark_in text ts ≡ done mark
unfolding mark_in
mark_again text mark ts without = refl
mark_again text mark ts (with_word {t = t} is) = let w = word_again t text is in rw (w.1, same_self text) refl
