-- What is read is spelled, and what is spelled is read.
use Rattle.std.proofs.Common.{◌≡◌, ℕ, ◌-◌, false, List, [], None, Result, Ok, Err, refl, sym, subst, ◌∙◌, arith}
use Rattle.std.specs.Prelude.{IfOk, IfErr}
use Rattle.std.proofs.lemmas.List.{append-nil}
use Rattle.lv_tree.specs.declared.tree.Tree.{Tree}
use Rattle.lv_tree.specs.declared.fault.TreeFault.{TreeFault}
use Rattle.lv_tree.specs.declared.fault.TreeFault.TheVariants as faults
use Rattle.lv_tree.specs.Spelling.{Token, Lexes, tokens_of, SpellsTree}
use Rattle.lv_tree.specs.Faults.{start, fault_of}
use Rattle.lv_tree.specs.Reader.{Reads, tokens_from}
use Rattle.lv_tree.specs.Reading.{IsFault, IsTreeOrMemory}
use Rattle.lv_tree.proofs.Lexing.{sound, complete}
use Rattle.lv_tree.proofs.Trees.{keeps_balance, one_tree}
use Rattle.lv_tree.proofs.NoFault.{IsConsistent, balanced}
use Rattle.lv_tree.proofs.Building.{tree_of}

-- what the reader reads is spelled
pub spelled : (bytes : List ℕ) (t : Tree) → Reads bytes t → SpellsTree bytes t
spelled bytes t r =
    let a : Lexes (0 - 0) bytes (tokens_from start 0 bytes) = sound bytes [] false [] false 0 (refl, omega arith, λ _. refl) r.clean in
    (r.fits, rw r.tokens at a)

-- what is spelled has no fault, and its tokens are the tree's
pub read_of : (bytes : List ℕ) (t : Tree) → SpellsTree bytes t → (fault_of bytes ≡ None) × (tokens_from start 0 bytes ≡ tokens_of t)
read_of bytes t s =
    let g = keeps_balance t 64 [] false [] s.0 (omega arith) refl in
    complete s.1 [] false (rw append-nil at g)

-- a text spells at most one tree
pub at_most_one : (bytes : List ℕ) (t u : Tree) → SpellsTree bytes t → SpellsTree bytes u → t ≡ u
at_most_one bytes t u s r = one_tree t u (sym (read_of bytes t s).1 ∙ (read_of bytes u r).1)

-- bytes that spell a tree have no fault
pub no_fault_of : (bytes : List ℕ) (t : Tree) → SpellsTree bytes t → fault_of bytes ≡ None
no_fault_of bytes t s = (read_of bytes t s).0

-- bytes that have no fault spell a tree
pub tree_without_fault : (bytes : List ℕ) → fault_of bytes ≡ None → (t : Tree) × SpellsTree bytes t
tree_without_fault bytes e =
    let kept : IsConsistent [] false [] = record { word = refl; short = omega arith; begun = λ h. absurd cc; inside = λ h. absurd cc } in
    let lexes : Lexes (0 - 0) bytes (tokens_from start 0 bytes) = sound bytes [] false [] false 0 (refl, omega arith, λ _. refl) e in
    let t = tree_of (tokens_from start 0 bytes) (balanced bytes [] false [] false 0 kept e) in
    (t.tree, (t.fits, subst (λ (ts : List Token). Lexes 0 bytes ts) t.tokens lexes))

pub found : (bytes : List ℕ) (r : Result Tree TreeFault) → IfOk r (Reads bytes) → IfOk r (SpellsTree bytes)
found bytes (Ok t) h = spelled bytes t h
found bytes (Err e) h = tt

no_fault : (bytes : List ℕ) (e : TreeFault) → fault_of bytes ≡ None → IsFault e (fault_of bytes) → e ≡ faults.Memory
no_fault bytes faults.Memory n h = refl
no_fault bytes (faults.BadByte at) n h = absurd cc
no_fault bytes (faults.Unclosed at) n h = absurd cc
no_fault bytes (faults.Extra at) n h = absurd cc
no_fault bytes (faults.TooDeep at) n h = absurd cc
no_fault bytes (faults.LongWord at) n h = absurd cc
no_fault bytes faults.Empty n h = absurd cc

pub only : (bytes : List ℕ) (r : Result Tree TreeFault) (t : Tree) → IfOk r (Reads bytes) → IfErr r (λ e. IsFault e (fault_of bytes)) → SpellsTree bytes t → IsTreeOrMemory t r
only bytes (Ok u) t ok err s = one_tree u t (sym ok.tokens ∙ (read_of bytes t s).1)
only bytes (Err e) t ok err s = no_fault bytes e (read_of bytes t s).0 err
