-- From the answer to a system, or to a refusal, to the answer to the bytes.
use Rattle.std.proofs.Common.{◌≡◌, ◌≤◌, ℕ, leb, List, [], ◌∷◌, length, Option, Some, true, Result, Ok, Err, refl, sym, subst}
use Rattle.std.specs.List.{All}
use Rattle.std.proofs.lemmas.Bool.{and_parts, leb-true}
use Rattle.std.proofs.lemmas.List.Elements.{All-cons, All-nil}
use Rattle.std.specs.Prelude.{IfErr, IfOk}
use Rattle.lv_fault.specs.declared.fault.ReadText.{ReadText}
use Rattle.lv_fault.specs.Given.{Fails, Gives}
use Rattle.lv_tree.specs.declared.fault.TreeFault.{TreeFault}
use Rattle.lv_tree.specs.declared.fault.TreeFault.TheVariants as T
use Rattle.lv_tree.specs.Reading.{IsFault}
use Rattle.lv_formula.specs.declared.memory.Memory.{Memory}
use Rattle.lv_system.specs.declared.parts.Parts.{Parts}
use Rattle.lv_grammar.specs.LabelLimits.{are_narrow, labels_keep_limits}
use Rattle.lv_grammar.specs.Spelling.{Spells, SpellsSystem}
use Rattle.lv_tree.specs.declared.tree.Tree.{Tree}
use Rattle.lv_grammar.specs.Reading.{system_of}
use Rattle.lv_spelling.proofs.SystemAgain.{system_again}
use Rattle.lv_fitting.proofs.SystemFits.{system_limited}
use Rattle.lv_labels.specs.declared.key.Key.{Key}
use Rattle.lv_labels.specs.Labels.{labels_of}
use Rattle.lv_labels.specs.Obligations.{InvariantsFit}
use Rattle.lv_headline.proofs.Spoken.{invariants_stand}
use Rattle.lv_oblig.specs.Numbers.{AreNarrow}
use Rattle.lv_prove.specs.declared.outcome.Outcome.{Outcome}
use Rattle.lv_prove.specs.declared.outcome.Outcome.TheVariants as O
use Rattle.lv_prove.specs.Outcomes.{IsOutcome}
use Rattle.lv_run.specs.declared.answer.Composed.{Composed}
use Rattle.lv_command.specs.declared.mode.TextMode.{TextMode}
use Rattle.lv_command.specs.declared.mode.TextMode.TheVariants.{Check, Prove, Replay, Show}
use Rattle.lv_run.specs.declared.detail.Detail.{Detail}
use Rattle.lv_run.specs.declared.reader.Refusal.{Refusal}
use Rattle.lv_run.specs.declared.reader.Refusal.TheVariants as R
use Rattle.lv_run.specs.Answers.{NoTree, NoText, OneSystem, OneCheck, OneReplay, CanBeReported, IsRefused, IsSystemAnswer, IsCheckAnswered, IsReplayAnswered, IsRefusal, IsAnswered, SpellsCheck, SpellsReplay, detail_of, language_of, system_report}
use Rattle.lv_run.specs.Requests.{CheckText, ReplayText}

-- a fault that isn't want of memory is the bytes' own
pub own_fault : (e : TreeFault) (fault : Option TreeFault) → (e ≡ T.Memory → ⊥) → IsFault e fault → fault ≡ Some e
own_fault (T.BadByte at) fault other is = is
own_fault (T.Extra at) fault other is = is
own_fault (T.TooDeep at) fault other is = is
own_fault (T.LongWord at) fault other is = is
own_fault (T.Unclosed at) fault other is = is
own_fault T.Empty fault other is = is
own_fault T.Memory fault other is = absurd (other refl)

-- the labels of a system that bytes spell keep their limits
pub keeps_limits : (bytes : List ℕ) (p : Parts) → Spells bytes p → labels_keep_limits p ≡ true
keeps_limits bytes p s = system_limited p s.tree s.system

pub system_limits : (t : Tree) (r : Result Parts ReadText) → IfOk r (λ p. SpellsSystem p t) → IfOk r (λ p. labels_keep_limits p ≡ true)
system_limits t (Ok p) s = system_limited p t s
system_limits t (Err e) s = tt

-- what reading gives of a tree is what the definition by steps gives
pub system_read : (t : Tree) (r : Result Parts ReadText) → IfOk r (λ p. SpellsSystem p t) → IfErr r (λ e. Fails e (system_of t)) → Gives (λ p. p) r (system_of t)
system_read t (Ok p) s e = system_again p t s
system_read t (Err f) s e = e

-- so they have at most four arguments each
abbrev IsNarrow : Key → Type 0
IsNarrow key = length key.sorts ≤ 4

narrow_keys : (keys : List Key) → are_narrow keys ≡ true → All IsNarrow keys
narrow_keys [] h = All-nil IsNarrow
narrow_keys (k ∷ ks) h =
    let both = and_parts (leb (length k.sorts) 4) (are_narrow ks) h in
    All-cons IsNarrow k ks (leb-true (length k.sorts) 4 both.0) (narrow_keys ks both.1)

pub labels_are_narrow : (p : Parts) → labels_keep_limits p ≡ true → AreNarrow p
labels_are_narrow p h = narrow_keys (labels_of p) (and_parts (are_narrow (labels_of p)) _ (and_parts (leb (length (labels_of p)) 32) _ h).1).0

-- and its invariants stand over the words of the monitored structure
pub invariants_fit : (p : Parts) → labels_keep_limits p ≡ true → InvariantsFit p
invariants_fit = invariants_stand

-- what becomes of the obligations can be reported
pub can_be_reported : (p : Parts) (budget : ℕ) (outcome : Outcome) → IsOutcome p budget outcome → CanBeReported p outcome
can_be_reported p budget (O.Proved obligations) h = tt
can_be_reported p budget (O.Counter index w) h = (h.1.in_range, h.1.breaking.vocabulary)
can_be_reported p budget (O.NotStratified index sorts) h = h.in_range
can_be_reported p budget (O.TooLarge index) h = h.in_range
can_be_reported p budget (O.Spent index log) h = h.1.in_range

-- an outcome with its report is an answer
pub outcome_answered : (p : Parts) (budget : ℕ) (outcome : Outcome) (d : Detail) (out : List ℕ) → IsOutcome p budget outcome → d ≡ detail_of outcome → out ≡ system_report p (detail_of outcome)
    → IsSystemAnswer (Prove budget) p d out
outcome_answered p budget outcome d out h is text = subst (λ x. IsSystemAnswer (Prove budget) p x out) (sym is) (by outcome h text)
  where
    by : (outcome : Outcome) → IsOutcome p budget outcome → out ≡ system_report p (detail_of outcome) → IsSystemAnswer (Prove budget) p (detail_of outcome) out
    by (O.Proved n) h text = (h, text)
    by (O.Counter index w) h text = (h, text)
    by (O.NotStratified index sorts) h text = (h, text)
    by (O.TooLarge index) h text = (h, text)
    by (O.Spent index log) h text = (h, text)

pub proof_answered : (budget : ℕ) (bytes : List ℕ) (p : Parts) (r : Result Composed Memory) → Spells bytes p
    → IfOk r (λ c. IsSystemAnswer (Prove budget) p c.detail c.out) → IfOk r (λ c. IsAnswered (Prove budget) bytes c.detail c.out)
proof_answered budget bytes p (Ok c) s a = record { reading = OneSystem p; reads = s; is = a.0; report = a.1 }
proof_answered budget bytes p (Err e) s a = tt

pub layout_answered : (bytes : List ℕ) (p : Parts) (r : Result Composed Memory) → Spells bytes p
    → IfOk r (λ c. IsSystemAnswer Show p c.detail c.out) → IfOk r (λ c. IsAnswered Show bytes c.detail c.out)
layout_answered bytes p (Ok c) s a = record { reading = OneSystem p; reads = s; is = a.0; report = a.1 }
layout_answered bytes p (Err e) s a = tt

pub check_answered : (bytes : List ℕ) (t : CheckText) (r : Result Composed Memory) → SpellsCheck bytes t
    → IfOk r (λ c. IsCheckAnswered t c.detail c.out) → IfOk r (λ c. IsAnswered Check bytes c.detail c.out)
check_answered bytes t (Ok c) s a = record { reading = OneCheck t; reads = s; is = a.0; report = a.1 }
check_answered bytes t (Err e) s a = tt

pub replay_answered : (bytes : List ℕ) (t : ReplayText) (r : Result Composed Memory) → SpellsReplay bytes t
    → IfOk r (λ c. IsReplayAnswered t c.detail c.out) → IfOk r (λ c. IsAnswered Replay bytes c.detail c.out)
replay_answered bytes t (Ok c) s a = record { reading = OneReplay t; reads = s; is = a.0; report = a.1 }
replay_answered bytes t (Err e) s a = tt

refused : (mode : TextMode) (bytes : List ℕ) (refusal : Refusal) (d : Detail) (out : List ℕ) → IsRefused (language_of mode) bytes refusal → IsRefusal refusal d out → IsAnswered mode bytes d out
refused mode bytes (R.Tree fault) d out is a = record { reading = NoTree fault; reads = is; is = a.0; report = a.1 }
refused mode bytes (R.Syntax fault) d out is a = record { reading = NoText fault; reads = is; is = a.0; report = a.1 }
refused mode bytes R.Memory d out is a = absurd a

pub refusal_answered : (mode : TextMode) (bytes : List ℕ) (refusal : Refusal) (r : Result Composed Memory) → IsRefused (language_of mode) bytes refusal
    → IfOk r (λ c. IsRefusal refusal c.detail c.out) → IfOk r (λ c. IsAnswered mode bytes c.detail c.out)
refusal_answered mode bytes refusal (Ok c) is a = refused mode bytes refusal c.detail c.out is a
refusal_answered mode bytes refusal (Err e) is a = tt
