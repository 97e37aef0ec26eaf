-- What follows from the answer to a chain.
use Rattle.std.proofs.Common.{◌≡◌, ◌≤◌, ℕ, List, Option, true, Result, Ok, Err, refl, sym, subst}
use Rattle.std.specs.Prelude.{IfOk}
use Rattle.std.specs.declared.string.String.{String}
use Rattle.std.specs.declared.alloc.Global.{Global}
use Rattle.lv_system.specs.declared.parts.Parts.{Parts}
use Rattle.lv_grammar.specs.LabelLimits.{labels_keep_limits}
use Rattle.lv_chain.specs.Chain.{chain_of}
use Rattle.lv_headline.proofs.ChainLimits as limits
use Rattle.lv_command.specs.declared.mode.Mode.TheVariants.{Make}
use Rattle.lv_formula.specs.declared.memory.Memory.{Memory}
use Rattle.lv_run.specs.declared.answer.Composed.{Composed}
use Rattle.lv_run.specs.declared.detail.Detail.{Detail}
use Rattle.lv_run.specs.declared.detail.Detail.TheVariants as D
use Rattle.lv_run.specs.Chains.{IsChainAnswered, IsMadeAnswered}
use Rattle.lv_run.specs.Calls.{AskFor, IsComposed, IsLeft}

-- a system that is a chain keeps the limits on labels
pub keeps_limits : (p : Parts) (places : ℕ) → p ≡ chain_of places → 2 ≤ places → places ≤ 16 → labels_keep_limits p ≡ true
keeps_limits p places is least most = subst (λ (q : Parts). labels_keep_limits q ≡ true) (sym is) (limits.chain_keeps_limits places least most)

-- the answer to such a system is one to the chain
pub chain_answered : (p : Parts) (places : ℕ) (r : Result Composed Memory) → p ≡ chain_of places → IfOk r (λ c. IsMadeAnswered p c.detail c.out) → IfOk r (λ c. IsChainAnswered places c.detail c.out)
chain_answered p places (Ok c) is a = subst (λ (q : Parts). IsMadeAnswered q c.detail c.out) is a
chain_answered p places (Err e) is a = tt

pub composed : (words : List (String Global)) (left : Option (List ℕ)) (places : ℕ) (d : Detail) (out : List ℕ) → AskFor (Make places) words → IsChainAnswered places d out → IsComposed words left d out
composed words left places (D.Made obligations largest answer) out asked a = record { places = places; asked = asked; answered = a }
composed words left places (D.Proved n) out asked a = absurd a.0
composed words left places (D.Counter i w) out asked a = absurd a.0
composed words left places (D.NotStratified i ss) out asked a = absurd a.0
composed words left places (D.TooLarge i) out asked a = absurd a.0
composed words left places (D.Spent i log) out asked a = absurd a.0
composed words left places D.Shown out asked a = absurd a.0
composed words left places (D.Checked checked) out asked a = absurd a.0
composed words left places (D.Replayed answer) out asked a = absurd a.0
composed words left places (D.TreeRefused f) out asked a = absurd a.0
composed words left places (D.SyntaxRefused f) out asked a = absurd a.0
composed words left places D.Usage out asked a = absurd a.0
composed words left places D.TooLong out asked a = absurd a.0
composed words left places D.ReadFault out asked a = absurd a.0
composed words left places D.WriteFault out asked a = absurd a.0
composed words left places D.MemoryWanting out asked a = absurd a.0

pub no_read_fault : (places : ℕ) (d : Detail) (out : List ℕ) → IsChainAnswered places d out → d ≡ D.ReadFault → ⊥
no_read_fault places D.ReadFault out a is = a.0
no_read_fault places (D.Made obligations largest answer) out a is = cc
no_read_fault places (D.Proved n) out a is = absurd a.0
no_read_fault places (D.Counter i w) out a is = absurd a.0
no_read_fault places (D.NotStratified i ss) out a is = absurd a.0
no_read_fault places (D.TooLarge i) out a is = absurd a.0
no_read_fault places (D.Spent i log) out a is = absurd a.0
no_read_fault places D.Shown out a is = absurd a.0
no_read_fault places (D.Checked checked) out a is = absurd a.0
no_read_fault places (D.Replayed answer) out a is = absurd a.0
no_read_fault places (D.TreeRefused f) out a is = absurd a.0
no_read_fault places (D.SyntaxRefused f) out a is = absurd a.0
no_read_fault places D.Usage out a is = absurd a.0
no_read_fault places D.TooLong out a is = absurd a.0
no_read_fault places D.WriteFault out a is = absurd a.0
no_read_fault places D.MemoryWanting out a is = absurd a.0

-- nothing is read for it
pub unread : (places : ℕ) (d : Detail) (out : List ℕ) (left : Option (List ℕ)) → IsChainAnswered places d out → IsLeft d left left
unread places (D.Made obligations largest answer) out left a = refl
unread places (D.Proved n) out left a = absurd a.0
unread places (D.Counter i w) out left a = absurd a.0
unread places (D.NotStratified i ss) out left a = absurd a.0
unread places (D.TooLarge i) out left a = absurd a.0
unread places (D.Spent i log) out left a = absurd a.0
unread places D.Shown out left a = absurd a.0
unread places (D.Checked checked) out left a = absurd a.0
unread places (D.Replayed answer) out left a = absurd a.0
unread places (D.TreeRefused f) out left a = absurd a.0
unread places (D.SyntaxRefused f) out left a = absurd a.0
unread places D.Usage out left a = absurd a.0
unread places D.TooLong out left a = absurd a.0
unread places D.ReadFault out left a = absurd a.0
unread places D.WriteFault out left a = absurd a.0
unread places D.MemoryWanting out left a = absurd a.0
