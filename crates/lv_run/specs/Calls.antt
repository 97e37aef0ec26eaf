-- What a call of the program is answered: the cause of each answer, and what is written.
use Rattle.std.specs.Prelude.{◌≡◌, ◌⊎◌, ℕ, ◌<◌, ◌≤◌, ◌^◌, List, [], ◌∷◌, ◌++◌, length, drop, map, codes, string_bytes, Option, Some, None, IfSome}
use Rattle.std.specs.declared.string.String.{String}
use Rattle.std.specs.declared.alloc.Global.{Global}
use Rattle.std.specs.Io.KnownBytes.{IsAtEnd}
use Rattle.lv_edge.specs.Causes.{Rose}
use Rattle.lv_edge.specs.Streams.{Grows, GrowsByPart, LosesAtMost}
use Rattle.lv_system.specs.declared.parts.Parts.{Parts}
use Rattle.lv_cnf.specs.declared.clause.Clauses.{Clauses}
use Rattle.lv_decide.specs.Decisions.{AreGroundClauses}
use Rattle.lv_prove.specs.Outcomes.{IsFirstSpent, count, sentences_at, vocabulary_at}
use Rattle.lv_prove.specs.declared.outcome.Outcome.TheVariants as O
use Rattle.lv_command.specs.declared.mode.Mode.{Mode}
use Rattle.lv_command.specs.declared.mode.Mode.TheVariants.{Make, OnText}
use Rattle.lv_command.specs.declared.mode.TextMode.{TextMode}
use Rattle.lv_command.specs.Commands.{mode_of}
use Rattle.lv_run.specs.declared.detail.Detail.{Detail}
use Rattle.lv_run.specs.declared.detail.Detail.TheVariants as D
use Rattle.lv_check.specs.declared.checking.Checked.TheVariants as C
use Rattle.lv_replay.specs.declared.answer.ReplayAnswer.TheVariants as L
use Rattle.lv_run.specs.Answers.{Reading, Reads, IsAnswer, IsAnswered, language_of}
use Rattle.lv_run.specs.Chains.{IsChainAnswer, IsChainAnswered}
use Rattle.lv_run.specs.Refusals.{tree_refusal_text, syntax_refusal_text}

-- ---- words

-- what the command makes of the words
abbrev pub mode_in : List (String Global) → Option Mode
mode_in words = mode_of (map (λ word. string_bytes word) words)

-- the words ask for this mode
abbrev pub AskFor : Mode → List (String Global) → Type 0
AskFor mode words = mode_in words ≡ Some mode

-- the words ask something of a text
pub record AskOfText (words : List (String Global)) : Type 0 where
  pub mode : TextMode
  pub asked : AskFor (OnText mode) words

-- the words ask for a chain
pub record AskForChain (words : List (String Global)) : Type 0 where
  pub places : ℕ
  pub asked : AskFor (Make places) words

-- the command doesn't take the words
abbrev pub AreNoCommand : List (String Global) → Type 0
AreNoCommand words = mode_in words ≡ None

-- the words need no text
abbrev pub NeedNoText : List (String Global) → Type 0
NeedNoText words = AreNoCommand words ⊎ AskForChain words

-- ---- what is composed for an answer

-- the number with which the program ends
abbrev pub status_of : Detail → ℕ
status_of (D.Proved obligations) = 0
status_of D.Shown = 0
status_of (D.Checked C.Breaks) = 0
status_of (D.Checked _) = 1
status_of (D.Replayed L.Satisfies) = 0
status_of (D.Replayed _) = 1
status_of (D.Made obligations largest (O.Proved n)) = 0
status_of (D.Made obligations largest _) = 1
status_of (D.Counter index w) = 1
status_of D.Usage = 2
status_of D.TooLong = 3
status_of (D.TreeRefused fault) = 3
status_of (D.SyntaxRefused fault) = 3
status_of (D.NotStratified index sorts) = 4
status_of (D.TooLarge index) = 5
status_of (D.Spent index log) = 6
status_of D.ReadFault = 7
status_of D.WriteFault = 8
status_of D.MemoryWanting = 9

-- what is told on standard error
abbrev pub told_of : Detail → List ℕ
told_of (D.Proved obligations) = []
told_of D.Shown = []
told_of (D.Checked checked) = []
told_of (D.Replayed answer) = []
told_of (D.Made obligations largest answer) = []
told_of (D.Counter index w) = []
told_of (D.NotStratified index sorts) = []
told_of (D.TooLarge index) = []
told_of (D.Spent index log) = []
told_of D.Usage = codes "usage: leadsto prove [--budget N] | show | check | replay | make N\n"
told_of D.TooLong = codes "text too long\n"
told_of (D.TreeRefused fault) = tree_refusal_text fault
told_of (D.SyntaxRefused fault) = syntax_refusal_text fault
told_of D.ReadFault = codes "read fault\n"
told_of D.WriteFault = []
told_of D.MemoryWanting = codes "memory\n"

-- these bytes were read: all that were left, and not too many
pub record AreRead (left : Option (List ℕ)) (bytes : List ℕ) : Type 0 where
  pub all : IfSome left (λ told. told ≡ bytes)
  pub few : length bytes ≤ 1048576

-- the words ask something of a text, and the bytes that were read have this answer to it
pub record IsReadAnswer (words : List (String Global)) (left : Option (List ℕ)) (answer : Detail) (out : List ℕ) : Type 0 where
  pub mode : TextMode
  pub asked : AskFor (OnText mode) words
  pub bytes : List ℕ
  pub read : AreRead left bytes
  pub answered : IsAnswered mode bytes answer out

-- the words ask for a chain that has this answer
pub record IsMadeAnswer (words : List (String Global)) (answer : Detail) (out : List ℕ) : Type 0 where
  pub places : ℕ
  pub asked : AskFor (Make places) words
  pub answered : IsChainAnswered places answer out

-- what is composed for an answer on standard output, and why it is this answer. A write fault isn't
-- composed, and want of memory has no cause here.
abbrev pub IsComposed : List (String Global) → Option (List ℕ) → Detail → List ℕ → Type 0
IsComposed words left (D.Proved obligations) out = IsReadAnswer words left (D.Proved obligations) out
IsComposed words left (D.Counter index w) out = IsReadAnswer words left (D.Counter index w) out
IsComposed words left (D.NotStratified index sorts) out = IsReadAnswer words left (D.NotStratified index sorts) out
IsComposed words left (D.TooLarge index) out = IsReadAnswer words left (D.TooLarge index) out
IsComposed words left (D.Spent index log) out = IsReadAnswer words left (D.Spent index log) out
IsComposed words left D.Shown out = IsReadAnswer words left D.Shown out
IsComposed words left (D.Checked checked) out = IsReadAnswer words left (D.Checked checked) out
IsComposed words left (D.Replayed answer) out = IsReadAnswer words left (D.Replayed answer) out
IsComposed words left (D.Made obligations largest answer) out = IsMadeAnswer words (D.Made obligations largest answer) out
IsComposed words left (D.TreeRefused fault) out = IsReadAnswer words left (D.TreeRefused fault) out
IsComposed words left (D.SyntaxRefused fault) out = IsReadAnswer words left (D.SyntaxRefused fault) out
IsComposed words left D.Usage out = AreNoCommand words × (out ≡ [])
IsComposed words left D.TooLong out = AskOfText words × IfSome left (λ told. 1048576 < length told) × (out ≡ [])
IsComposed words left D.ReadFault out = AskOfText words × (out ≡ [])
IsComposed words left D.MemoryWanting out = out ≡ []
IsComposed words left D.WriteFault out = ⊥

-- the composed texts were written whole, or one sink failed: it holds a part of its text, and nothing
-- was written after that
abbrev pub IsDelivered : Detail → Detail → List ℕ → List ℕ → Option (List ℕ) → Option (List ℕ) → Option (List ℕ) → Option (List ℕ) → Type 0
IsDelivered composed answered on-out on-err out out' err err' =
    ((answered ≡ composed) × Grows out out' on-out × Grows err err' on-err)
    ⊎ ((answered ≡ D.WriteFault) × ((GrowsByPart out out' on-out × (err' ≡ err)) ⊎ (Grows out out' on-out × GrowsByPart err err' on-err)))

-- An answer was composed, and its texts were written as far as the sinks took them. A read fault is composed only where
-- the source's count of faults rose.
pub record Concludes (words : List (String Global)) (left : Option (List ℕ)) (before now : ℕ) (answered : Detail) (out out' err err' : Option (List ℕ)) : Type 0 where
  pub composed : Detail
  pub on-out : List ℕ
  pub texts : IsComposed words left composed on-out
  pub rose : composed ≡ D.ReadFault → Rose before now
  pub delivered : IsDelivered composed answered on-out (told_of composed) out out' err err'

-- ---- why an answer comes

-- the text is within the limit, and this is so of it
pub record IsRead (Is : List ℕ → Type 0) (bytes : List ℕ) : Type 0 where
  pub few : length bytes ≤ 1048576
  pub is : Is bytes

-- the bytes come to something that has this answer in this mode
pub record HasAnswer (mode : TextMode) (answer : Detail) (bytes : List ℕ) : Type 0 where
  pub reading : Reading
  pub reads : Reads (language_of mode) bytes reading
  pub is : IsAnswer mode reading answer

-- the words ask something of a text, and the text has this answer to it
pub record IsCaused (words : List (String Global)) (left : Option (List ℕ)) (answer : Detail) : Type 0 where
  pub mode : TextMode
  pub asked : AskFor (OnText mode) words
  pub text : IfSome left (IsRead (HasAnswer mode answer))

-- the words ask for a chain, and this is the answer to it
pub record IsMade (words : List (String Global)) (answer : Detail) : Type 0 where
  pub places : ℕ
  pub asked : AskFor (Make places) words
  pub is : IsChainAnswer places answer

abbrev pub HasReason : List (String Global) → Option (List ℕ) → Detail → Type 0
HasReason words left (D.Proved obligations) = IsCaused words left (D.Proved obligations)
HasReason words left (D.Counter index w) = IsCaused words left (D.Counter index w)
HasReason words left (D.NotStratified index sorts) = IsCaused words left (D.NotStratified index sorts)
HasReason words left (D.TooLarge index) = IsCaused words left (D.TooLarge index)
HasReason words left (D.Spent index log) = IsCaused words left (D.Spent index log)
HasReason words left D.Shown = IsCaused words left D.Shown
HasReason words left (D.Checked checked) = IsCaused words left (D.Checked checked)
HasReason words left (D.Replayed answer) = IsCaused words left (D.Replayed answer)
HasReason words left (D.Made obligations largest answer) = IsMade words (D.Made obligations largest answer)
HasReason words left (D.TreeRefused fault) = IsCaused words left (D.TreeRefused fault)
HasReason words left (D.SyntaxRefused fault) = IsCaused words left (D.SyntaxRefused fault)
HasReason words left D.Usage = AreNoCommand words
HasReason words left D.TooLong = AskOfText words × IfSome left (λ told. 1048576 < length told)
HasReason words left D.ReadFault = AskOfText words
HasReason words left D.WriteFault = Unit {0}
HasReason words left D.MemoryWanting = Unit {0}

-- ---- what a source has left

-- A text that was answered was read to its end, and one that is too long up to one byte past the limit.
-- Where the answer is the usage line or a chain nothing was read, and else no more than that.
abbrev pub IsLeft : Detail → Option (List ℕ) → Option (List ℕ) → Type 0
IsLeft (D.Proved obligations) before now = IsAtEnd now
IsLeft (D.Counter index w) before now = IsAtEnd now
IsLeft (D.NotStratified index sorts) before now = IsAtEnd now
IsLeft (D.TooLarge index) before now = IsAtEnd now
IsLeft (D.Spent index log) before now = IsAtEnd now
IsLeft D.Shown before now = IsAtEnd now
IsLeft (D.Checked checked) before now = IsAtEnd now
IsLeft (D.Replayed answer) before now = IsAtEnd now
IsLeft (D.Made obligations largest answer) before now = now ≡ before
IsLeft (D.TreeRefused fault) before now = IsAtEnd now
IsLeft (D.SyntaxRefused fault) before now = IsAtEnd now
IsLeft D.Usage before now = now ≡ before
IsLeft D.TooLong before now = IfSome before (λ told. now ≡ Some (drop 1048577 told))
IsLeft D.ReadFault before now = LosesAtMost 1048577 before now
IsLeft D.WriteFault before now = LosesAtMost 1048577 before now
IsLeft D.MemoryWanting before now = LosesAtMost 1048577 before now

-- ---- the headline

-- what a sink received begins with the byte `p`
pub record BeginsWithP (before now : Option (List ℕ)) : Type 0 where
  pub front : List ℕ
  pub rest : List ℕ
  pub was : before ≡ Some front
  pub is : now ≡ Some (front ++ 112 ∷ rest)

-- ---- what may be answered in place of the one answer that fits

-- the answer is so, or a stream failed, or memory was wanting
abbrev pub IsOrFault : (Detail → Type 0) → Detail → Type 0
IsOrFault Is D.ReadFault = Unit {0}
IsOrFault Is D.WriteFault = Unit {0}
IsOrFault Is D.MemoryWanting = Unit {0}
IsOrFault Is (D.Proved obligations) = Is (D.Proved obligations)
IsOrFault Is (D.Counter index w) = Is (D.Counter index w)
IsOrFault Is (D.NotStratified index sorts) = Is (D.NotStratified index sorts)
IsOrFault Is (D.TooLarge index) = Is (D.TooLarge index)
IsOrFault Is (D.Spent index log) = Is (D.Spent index log)
IsOrFault Is D.Shown = Is D.Shown
IsOrFault Is (D.Checked checked) = Is (D.Checked checked)
IsOrFault Is (D.Replayed answer) = Is (D.Replayed answer)
IsOrFault Is (D.Made obligations largest answer) = Is (D.Made obligations largest answer)
IsOrFault Is (D.TreeRefused fault) = Is (D.TreeRefused fault)
IsOrFault Is (D.SyntaxRefused fault) = Is (D.SyntaxRefused fault)
IsOrFault Is D.Usage = Is D.Usage
IsOrFault Is D.TooLong = Is D.TooLong

-- all obligations are valid, or the budget was spent at one
abbrev pub IsProvedOrSpent : Parts → ℕ → Detail → Type 0
IsProvedOrSpent p budget (D.Proved obligations) = obligations ≡ count p
IsProvedOrSpent p budget (D.Spent index log) = IsFirstSpent p budget index log
IsProvedOrSpent p budget _ = ⊥

-- this obligation is the first that isn't valid, or the budget was spent at one up to it
abbrev pub IsCounterOrSpent : Parts → ℕ → ℕ → Detail → Type 0
IsCounterOrSpent p budget index (D.Counter n w) = n ≡ index
IsCounterOrSpent p budget index (D.Spent n log) = IsFirstSpent p budget n log × (n ≤ index)
IsCounterOrSpent p budget index _ = ⊥

-- the budget wasn't spent
abbrev pub IsNotSpent : Detail → Type 0
IsNotSpent (D.Spent index log) = ⊥
IsNotSpent _ = Unit {0}

-- the budget is at least 3 to the power of the number of variables of each obligation's ground clauses
abbrev pub IsEnough : Parts → ℕ → Type 0
IsEnough p budget = (i : ℕ) → i < count p → (c : Clauses) → AreGroundClauses (vocabulary_at p i) (sentences_at p i) c → 3 ^ c.vars ≤ budget

-- where the words are no command nothing is read, so that no read fails
abbrev pub IsUsageOrFault : Detail → Type 0
IsUsageOrFault D.Usage = Unit {0}
IsUsageOrFault D.WriteFault = Unit {0}
IsUsageOrFault D.MemoryWanting = Unit {0}
IsUsageOrFault _ = ⊥

-- where a chain is made nothing is read either
abbrev pub IsChainOrFault : ℕ → Detail → Type 0
IsChainOrFault places (D.Made obligations largest answer) = IsChainAnswer places (D.Made obligations largest answer)
IsChainOrFault places D.WriteFault = Unit {0}
IsChainOrFault places D.MemoryWanting = Unit {0}
IsChainOrFault places _ = ⊥
