-- The equations of the reading of formulas, at the values that a loop or a recursion has.
use Rattle.std.proofs.Common.{◌≡◌, ℕ, zero, suc, ◌+◌, ◌-◌, ◌<◌, ◌≤◌, List, [], ◌∷◌, length, get_or, drop, Result, Ok, Err, refl, ap, ◌∙◌, add-one, arith}
use Rattle.std.proofs.lemmas.List.{drop_all}
use Rattle.std.proofs.Math.Seq.{drop-cons}
use Rattle.lv_tree.specs.declared.tree.Tree.{Tree}
use Rattle.lv_tree.specs.declared.tree.Tree.TheVariants as trees
use Rattle.lv_tree.specs.declared.tree.Tree.TheVariants.{outs-Word, outs-Group}
use Rattle.lv_formula.specs.declared.temporal.Temporal.{Temporal}
use Rattle.lv_grammar.specs.Words.{Variable}
use Rattle.lv_grammar.specs.Known.{Known}
use Rattle.lv_grammar.specs.declared.reading.Role.{Role}
use Rattle.lv_fault.specs.declared.fault.SyntaxFault.{SyntaxFault}
use Rattle.lv_fault.specs.declared.fault.Kind.TheVariants.{TooMany}
use Rattle.lv_fault.specs.declared.fault.ReadText.{ReadText}
use Rattle.lv_fault.specs.declared.fault.ReadText.TheVariants.{Refused, Memory}
use Rattle.lv_fault.specs.Given.{◌>>=◌, fail, Fails, Headed, headed_items}
use Rattle.lv_grammar.specs.WordKinds.{keyword_of}
use Rattle.lv_grammar.specs.ReadFormulas.{each, word_formula, list_formula, list_by, formula_of}
use Rattle.lv_words.proofs.Fronts.{then_all}

pub each_split : (part : Tree → Result Temporal SyntaxFault) (ts : List Tree) (i : ℕ) (t : Tree) → t ≡ get_or ts i t → i < length ts
    → each part (drop i ts) ≡ then_all (part t) (each part (drop (i + 1) ts))
unfolding each
each_split part ts i t is h = rw (add-one, drop-cons ts i t h, ← is) (unfold_then (part t) (each part (drop (suc i) ts))) where
  unfold_then : (one : Result Temporal SyntaxFault) (others : Result (List Temporal) SyntaxFault) → (one >>= λ f. others >>= λ fs. Ok (f ∷ fs)) ≡ then_all one others
  unfold_then (Err e) others = refl
  unfold_then (Ok x) (Err e) = refl
  unfold_then (Ok x) (Ok xs) = refl

pub each_end : (part : Tree → Result Temporal SyntaxFault) (ts : List Tree) (i : ℕ) → length ts ≤ i → each part (drop i ts) ≡ Ok []
unfolding each
each_end part ts i h = rw (drop_all i ts h) refl

pub room_past : (d : Known) (role : Role) (room iffs : ℕ) (vs : List Variable) (t : Tree) (at end : ℕ) (items : List Tree) → room ≡ 0 → t ≡ trees.Group at end items
    → formula_of d role room iffs vs t ≡ fail TooMany at
unfolding formula_of
room_past d role room iffs vs t at end items z is = rw (z, is, outs-Group at end items) refl

pub room_word : (d : Known) (role : Role) (room iffs : ℕ) (vs : List Variable) (t : Tree) (at : ℕ) (text : List ℕ) → t ≡ trees.Word at text
    → formula_of d role room iffs vs t ≡ word_formula d role at text
unfolding formula_of
room_word d role zero iffs vs t at text is = rw (is, outs-Word at text) refl
room_word d role (suc room) iffs vs t at text is = rw (is, outs-Word at text) refl

pub room_list : (d : Known) (role : Role) (room iffs : ℕ) (vs : List Variable) (t : Tree) (at end : ℕ) (items : List Tree) → 0 < room → t ≡ trees.Group at end items
    → formula_of d role room iffs vs t ≡ (headed_items at end items >>= λ h. list_by d role (formula_of d role (room - 1)) iffs vs h (keyword_of h.word.text))
unfolding formula_of list_formula
room_list d role room iffs vs t at end items h is =
    let e : room ≡ suc (room - 1) = omega arith in
    ap (λ (n : ℕ). formula_of d role n iffs vs t) e ∙ rw (is, outs-Group at end items) refl

pub room_headed : (d : Known) (role : Role) (room iffs : ℕ) (vs : List Variable) (t : Tree) (at end : ℕ) (items : List Tree) (h : Headed) → 0 < room → t ≡ trees.Group at end items
    → headed_items at end items ≡ Ok h → formula_of d role room iffs vs t ≡ list_by d role (formula_of d role (room - 1)) iffs vs h (keyword_of h.word.text)
room_headed d role room iffs vs t at end items h lt is e = room_list d role room iffs vs t at end items lt is ∙ rw e refl

pub room_headless : (e : ReadText) (d : Known) (role : Role) (room iffs : ℕ) (vs : List Variable) (t : Tree) (at end : ℕ) (items : List Tree) → 0 < room → t ≡ trees.Group at end items
    → Fails e (headed_items at end items) → Fails e (formula_of d role room iffs vs t)
room_headless Memory d role room iffs vs t at end items lt is e = tt
room_headless (Refused f) d role room iffs vs t at end items lt is e = room_list d role room iffs vs t at end items lt is ∙ rw e refl
