-- What follows from the text that was composed and from the answer that came.
use Rattle.std.proofs.Common.{◌≡◌, ℕ, ◌<◌, ◌≤◌, List, length, Bool, true, false, Option, Some, None, refl, sym, subst, ◌∙◌, arith}
use Rattle.std.specs.Prelude.{IfSome}
use Rattle.std.specs.declared.string.String.{String}
use Rattle.std.specs.declared.alloc.Global.{Global}
use Rattle.std.specs.Io.KnownBytes.{IsAtEnd}
use Rattle.lv_system.specs.declared.parts.Parts.{Parts}
use Rattle.lv_command.specs.declared.mode.Mode.{Mode}
use Rattle.lv_command.specs.declared.mode.Mode.TheVariants.{Make, OnText}
use Rattle.lv_command.specs.declared.mode.TextMode.{TextMode}
use Rattle.lv_command.specs.declared.mode.TextMode.TheVariants.{Check, Prove, Replay, Show}
use Rattle.lv_struct.specs.Tables.{Tables}
use Rattle.lv_labels.specs.declared.which.Which.TheVariants.{Catch}
use Rattle.lv_labels.specs.Obligations.{AreValid}
use Rattle.lv_prove.specs.Outcomes.{AreValidBefore, IsFirstBroken, IsFirstTooLarge, IsInFragment, IsValidAt, count}
use Rattle.lv_run.specs.declared.detail.Detail.{Detail}
use Rattle.lv_run.specs.declared.detail.Detail.TheVariants as D
use Rattle.lv_run.specs.Answers.{Reading, NoTree, NoText, OneSystem, OneCheck, OneReplay, Reads, IsVerdict, IsCheckAnswer, IsReplayAnswer, IsAnswer, IsAnswered, language_of}
use Rattle.lv_run.specs.Requests.{CheckText, ReplayText}
use Rattle.lv_run.specs.Calls.{AskFor, AskOfText, AreNoCommand, AreRead, IsReadAnswer, IsComposed, IsRead, HasAnswer, IsCaused, HasReason, IsLeft, IsOrFault, IsChainOrFault, IsCounterOrSpent, IsEnough, IsNotSpent, IsProvedOrSpent, IsUsageOrFault}
use Rattle.lv_run.specs.Chains.{IsChainAnswer}
use Rattle.lv_run.proofs.ReadingLemmas.{one_reading}

-- ---- which answers a text has

-- the answers that are given to a text which was read
abbrev to_text : Detail → Bool
to_text (D.Proved n) = true
to_text (D.Counter i w) = true
to_text (D.NotStratified i ss) = true
to_text (D.TooLarge i) = true
to_text (D.Spent i log) = true
to_text D.Shown = true
to_text (D.Checked checked) = true
to_text (D.Replayed answer) = true
to_text (D.TreeRefused f) = true
to_text (D.SyntaxRefused f) = true
to_text (D.Made obligations largest answer) = false
to_text D.Usage = false
to_text D.TooLong = false
to_text D.ReadFault = false
to_text D.WriteFault = false
to_text D.MemoryWanting = false

verdict_to_text : (p : Parts) (budget : ℕ) (d : Detail) → IsVerdict p budget d → to_text d ≡ true
verdict_to_text p budget (D.Proved n) v = refl
verdict_to_text p budget (D.Counter i w) v = refl
verdict_to_text p budget (D.NotStratified i ss) v = refl
verdict_to_text p budget (D.TooLarge i) v = refl
verdict_to_text p budget (D.Spent i log) v = refl
verdict_to_text p budget D.Shown v = absurd v
verdict_to_text p budget (D.Checked checked) v = absurd v
verdict_to_text p budget (D.Replayed answer) v = absurd v
verdict_to_text p budget (D.Made obligations largest answer) v = absurd v
verdict_to_text p budget (D.TreeRefused f) v = absurd v
verdict_to_text p budget (D.SyntaxRefused f) v = absurd v
verdict_to_text p budget D.Usage v = absurd v
verdict_to_text p budget D.TooLong v = absurd v
verdict_to_text p budget D.ReadFault v = absurd v
verdict_to_text p budget D.WriteFault v = absurd v
verdict_to_text p budget D.MemoryWanting v = absurd v

check_to_text : (c : CheckText) (d : Detail) → IsCheckAnswer c d → to_text d ≡ true
check_to_text c (D.Checked checked) v = refl
check_to_text c (D.Proved n) v = absurd v
check_to_text c (D.Counter i w) v = absurd v
check_to_text c (D.NotStratified i ss) v = absurd v
check_to_text c (D.TooLarge i) v = absurd v
check_to_text c (D.Spent i log) v = absurd v
check_to_text c D.Shown v = absurd v
check_to_text c (D.Replayed answer) v = absurd v
check_to_text c (D.Made obligations largest answer) v = absurd v
check_to_text c (D.TreeRefused f) v = absurd v
check_to_text c (D.SyntaxRefused f) v = absurd v
check_to_text c D.Usage v = absurd v
check_to_text c D.TooLong v = absurd v
check_to_text c D.ReadFault v = absurd v
check_to_text c D.WriteFault v = absurd v
check_to_text c D.MemoryWanting v = absurd v

replay_to_text : (r : ReplayText) (d : Detail) → IsReplayAnswer r d → to_text d ≡ true
replay_to_text r (D.Replayed answer) v = refl
replay_to_text r (D.Proved n) v = absurd v
replay_to_text r (D.Counter i w) v = absurd v
replay_to_text r (D.NotStratified i ss) v = absurd v
replay_to_text r (D.TooLarge i) v = absurd v
replay_to_text r (D.Spent i log) v = absurd v
replay_to_text r D.Shown v = absurd v
replay_to_text r (D.Checked checked) v = absurd v
replay_to_text r (D.Made obligations largest answer) v = absurd v
replay_to_text r (D.TreeRefused f) v = absurd v
replay_to_text r (D.SyntaxRefused f) v = absurd v
replay_to_text r D.Usage v = absurd v
replay_to_text r D.TooLong v = absurd v
replay_to_text r D.ReadFault v = absurd v
replay_to_text r D.WriteFault v = absurd v
replay_to_text r D.MemoryWanting v = absurd v

answer_to_text : (mode : TextMode) (r : Reading) (d : Detail) → IsAnswer mode r d → to_text d ≡ true
answer_to_text mode (NoTree f) d a = rw a refl
answer_to_text mode (NoText f) d a = rw a refl
answer_to_text (Prove budget) (OneSystem p) d a = verdict_to_text p budget d a
answer_to_text (Prove budget) (OneCheck c) d a = absurd a
answer_to_text (Prove budget) (OneReplay r) d a = absurd a
answer_to_text Show (OneSystem p) d a = rw a refl
answer_to_text Show (OneCheck c) d a = absurd a
answer_to_text Show (OneReplay r) d a = absurd a
answer_to_text Check (OneSystem p) d a = absurd a
answer_to_text Check (OneCheck c) d a = check_to_text c d a
answer_to_text Check (OneReplay r) d a = absurd a
answer_to_text Replay (OneSystem p) d a = absurd a
answer_to_text Replay (OneCheck c) d a = absurd a
answer_to_text Replay (OneReplay r) d a = replay_to_text r d a

untrue : false ≡ true → ⊥
untrue e = cc

-- an answer to a text is one that may be composed
pub composed : (words : List (String Global)) (left : Option (List ℕ)) (mode : TextMode) (bytes : List ℕ) (d : Detail) (out : List ℕ)
    → AskFor (OnText mode) words → AreRead left bytes → IsAnswered mode bytes d out → IsComposed words left d out
composed words left mode bytes d out asked read a = by d (answer_to_text mode a.reading d a.is) (record { mode = mode; asked = asked; bytes = bytes; read = read; answered = a }) where
  by : (d : Detail) → to_text d ≡ true → IsReadAnswer words left d out → IsComposed words left d out
  by (D.Proved n) e i = i
  by (D.Counter j w) e i = i
  by (D.NotStratified j ss) e i = i
  by (D.TooLarge j) e i = i
  by (D.Spent j log) e i = i
  by D.Shown e i = i
  by (D.Checked checked) e i = i
  by (D.Replayed answer) e i = i
  by (D.TreeRefused f) e i = i
  by (D.SyntaxRefused f) e i = i
  by (D.Made obligations largest answer) e i = absurd (untrue e)
  by D.Usage e i = absurd (untrue e)
  by D.TooLong e i = absurd (untrue e)
  by D.ReadFault e i = absurd (untrue e)
  by D.WriteFault e i = absurd (untrue e)
  by D.MemoryWanting e i = absurd (untrue e)

-- an answer to a text is no fault of reading
pub no_read_fault : (mode : TextMode) (bytes : List ℕ) (d : Detail) (out : List ℕ) → IsAnswered mode bytes d out → d ≡ D.ReadFault → ⊥
no_read_fault mode bytes d out a e = untrue (subst (λ x. to_text x ≡ true) e (answer_to_text mode a.reading d a.is))

-- a text that is answered was read to its end
pub left_at_end : (mode : TextMode) (bytes : List ℕ) (d : Detail) (out : List ℕ) (before now : Option (List ℕ)) → IsAnswered mode bytes d out → IsAtEnd now → IsLeft d before now
left_at_end mode bytes d out before now a end = by d (answer_to_text mode a.reading d a.is) where
  by : (d : Detail) → to_text d ≡ true → IsLeft d before now
  by (D.Proved n) e = end
  by (D.Counter j w) e = end
  by (D.NotStratified j ss) e = end
  by (D.TooLarge j) e = end
  by (D.Spent j log) e = end
  by D.Shown e = end
  by (D.Checked checked) e = end
  by (D.Replayed answer) e = end
  by (D.TreeRefused f) e = end
  by (D.SyntaxRefused f) e = end
  by (D.Made obligations largest answer) e = absurd (untrue e)
  by D.Usage e = absurd (untrue e)
  by D.TooLong e = absurd (untrue e)
  by D.ReadFault e = absurd (untrue e)
  by D.WriteFault e = absurd (untrue e)
  by D.MemoryWanting e = absurd (untrue e)

-- ---- why an answer comes

told_read : (Is : List ℕ → Type 0) (left : Option (List ℕ)) (bytes : List ℕ) → AreRead left bytes → Is bytes → IfSome left (IsRead Is)
told_read Is None bytes r i = tt
told_read Is (Some told) bytes r i = record { few = subst (λ b. length b ≤ 1048576) (sym r.all) r.few; is = subst Is (sym r.all) i }

caused : (words : List (String Global)) (left : Option (List ℕ)) (d : Detail) (out : List ℕ) → IsReadAnswer words left d out → IsCaused words left d
caused words left d out a = record {
  mode = a.mode;
  asked = a.asked;
  text = told_read (HasAnswer a.mode d) left a.bytes a.read (record { reading = a.answered.reading; reads = a.answered.reads; is = a.answered.is });
}

pub reason : (words : List (String Global)) (left : Option (List ℕ)) (d : Detail) (out : List ℕ) → IsComposed words left d out → HasReason words left d
reason words left (D.Proved n) out c = caused words left _ out c
reason words left (D.Counter i w) out c = caused words left _ out c
reason words left (D.NotStratified i ss) out c = caused words left _ out c
reason words left (D.TooLarge i) out c = caused words left _ out c
reason words left (D.Spent i log) out c = caused words left _ out c
reason words left D.Shown out c = caused words left _ out c
reason words left (D.Checked checked) out c = caused words left _ out c
reason words left (D.Replayed answer) out c = caused words left _ out c
reason words left (D.Made obligations largest answer) out c = record { places = c.places; asked = c.asked; is = c.answered.0 }
reason words left (D.TreeRefused f) out c = caused words left _ out c
reason words left (D.SyntaxRefused f) out c = caused words left _ out c
reason words left D.Usage out c = c.0
reason words left D.TooLong out c = (c.0, c.1)
reason words left D.ReadFault out c = c.0
reason words left D.WriteFault out c = tt
reason words left D.MemoryWanting out c = tt

-- ---- no other answer comes

-- what is said of told bytes, at those bytes
at_bytes : (Is : List ℕ → Type 0) (left : Option (List ℕ)) (bytes : List ℕ) → left ≡ Some bytes → IfSome left Is → Is bytes
at_bytes Is left bytes e i = rw e at i

asked_for_one : (words : List (String Global)) (mode : Mode) → AskFor mode words → AreNoCommand words → ⊥
asked_for_one words mode a b = let bad : Some mode ≡ None = sym a ∙ b in cc

pub same_mode : (words : List (String Global)) (m n : Mode) → AskFor m words → AskFor n words → m ≡ n
same_mode words m n a b = let same : Some m ≡ Some n = sym a ∙ b in cc

not_both : (words : List (String Global)) (places : ℕ) (mode : TextMode) → AskFor (Make places) words → AskFor (OnText mode) words → ⊥
not_both words places mode a b = let same : Make places ≡ OnText mode = same_mode words (Make places) (OnText mode) a b in cc

pub only_usage : (words : List (String Global)) (left : Option (List ℕ)) (d : Detail) → HasReason words left d → AreNoCommand words → IsUsageOrFault d
only_usage words left (D.Proved n) r other = absurd (asked_for_one words (OnText r.mode) r.asked other)
only_usage words left (D.Counter i w) r other = absurd (asked_for_one words (OnText r.mode) r.asked other)
only_usage words left (D.NotStratified i ss) r other = absurd (asked_for_one words (OnText r.mode) r.asked other)
only_usage words left (D.TooLarge i) r other = absurd (asked_for_one words (OnText r.mode) r.asked other)
only_usage words left (D.Spent i log) r other = absurd (asked_for_one words (OnText r.mode) r.asked other)
only_usage words left D.Shown r other = absurd (asked_for_one words (OnText r.mode) r.asked other)
only_usage words left (D.Checked checked) r other = absurd (asked_for_one words (OnText r.mode) r.asked other)
only_usage words left (D.Replayed answer) r other = absurd (asked_for_one words (OnText r.mode) r.asked other)
only_usage words left (D.Made obligations largest answer) r other = absurd (asked_for_one words (Make r.places) r.asked other)
only_usage words left (D.TreeRefused f) r other = absurd (asked_for_one words (OnText r.mode) r.asked other)
only_usage words left (D.SyntaxRefused f) r other = absurd (asked_for_one words (OnText r.mode) r.asked other)
only_usage words left D.Usage r other = tt
only_usage words left D.TooLong r other = absurd (asked_for_one words (OnText r.0.mode) r.0.asked other)
only_usage words left D.ReadFault r other = absurd (asked_for_one words (OnText r.mode) r.asked other)
only_usage words left D.WriteFault r other = tt
only_usage words left D.MemoryWanting r other = tt

read_is_few : (words : List (String Global)) (left : Option (List ℕ)) (d : Detail) (bytes : List ℕ) → IsCaused words left d → left ≡ Some bytes → 1048576 < length bytes → ⊥
read_is_few words left d bytes r e long = let few : length bytes ≤ 1048576 = (at_bytes _ left bytes e r.text).few in omega arith

pub only_too_long : (words : List (String Global)) (left : Option (List ℕ)) (d : Detail) → HasReason words left d
    → (bytes : List ℕ) → AskOfText words → left ≡ Some bytes → 1048576 < length bytes → IsOrFault (λ answer. answer ≡ D.TooLong) d
only_too_long words left (D.Proved n) r bytes w e long = absurd (read_is_few words left _ bytes r e long)
only_too_long words left (D.Counter i m) r bytes w e long = absurd (read_is_few words left _ bytes r e long)
only_too_long words left (D.NotStratified i ss) r bytes w e long = absurd (read_is_few words left _ bytes r e long)
only_too_long words left (D.TooLarge i) r bytes w e long = absurd (read_is_few words left _ bytes r e long)
only_too_long words left (D.Spent i log) r bytes w e long = absurd (read_is_few words left _ bytes r e long)
only_too_long words left D.Shown r bytes w e long = absurd (read_is_few words left _ bytes r e long)
only_too_long words left (D.Checked checked) r bytes w e long = absurd (read_is_few words left _ bytes r e long)
only_too_long words left (D.Replayed answer) r bytes w e long = absurd (read_is_few words left _ bytes r e long)
only_too_long words left (D.Made obligations largest answer) r bytes w e long = absurd (not_both words r.places w.mode r.asked w.asked)
only_too_long words left (D.TreeRefused f) r bytes w e long = absurd (read_is_few words left _ bytes r e long)
only_too_long words left (D.SyntaxRefused f) r bytes w e long = absurd (read_is_few words left _ bytes r e long)
only_too_long words left D.Usage r bytes w e long = absurd (asked_for_one words (OnText w.mode) w.asked r)
only_too_long words left D.TooLong r bytes w e long = refl
only_too_long words left D.ReadFault r bytes w e long = tt
only_too_long words left D.WriteFault r bytes w e long = tt
only_too_long words left D.MemoryWanting r bytes w e long = tt

-- the answer that has a cause is one of what the bytes come to
has_answer : (words : List (String Global)) (left : Option (List ℕ)) (d : Detail) (mode : TextMode) (bytes : List ℕ) (reading : Reading) → IsCaused words left d
    → AskFor (OnText mode) words → left ≡ Some bytes → Reads (language_of mode) bytes reading → IsAnswer mode reading d
has_answer words left d mode bytes reading r asked e reads =
    let a = (at_bytes _ left bytes e r.text).is in
    let one : OnText r.mode ≡ OnText mode = same_mode words (OnText r.mode) (OnText mode) r.asked asked in
    let same : r.mode ≡ mode = cc in
    let read : Reads (language_of mode) bytes a.reading = subst (λ m. Reads (language_of m) bytes a.reading) same a.reads in
    subst (λ x. IsAnswer mode x d) (one_reading (language_of mode) bytes a.reading reading read reads)
    (subst (λ m. IsAnswer m a.reading d) same a.is)

pub only_answer : (words : List (String Global)) (left : Option (List ℕ)) (d : Detail) → HasReason words left d
    → (mode : TextMode) (bytes : List ℕ) (reading : Reading) → AskFor (OnText mode) words → left ≡ Some bytes → length bytes ≤ 1048576 → Reads (language_of mode) bytes reading
    → IsOrFault (IsAnswer mode reading) d
only_answer words left (D.Proved n) r mode bytes reading w e few reads = has_answer words left _ mode bytes reading r w e reads
only_answer words left (D.Counter i m) r mode bytes reading w e few reads = has_answer words left _ mode bytes reading r w e reads
only_answer words left (D.NotStratified i ss) r mode bytes reading w e few reads = has_answer words left _ mode bytes reading r w e reads
only_answer words left (D.TooLarge i) r mode bytes reading w e few reads = has_answer words left _ mode bytes reading r w e reads
only_answer words left (D.Spent i log) r mode bytes reading w e few reads = has_answer words left _ mode bytes reading r w e reads
only_answer words left D.Shown r mode bytes reading w e few reads = has_answer words left _ mode bytes reading r w e reads
only_answer words left (D.Checked checked) r mode bytes reading w e few reads = has_answer words left _ mode bytes reading r w e reads
only_answer words left (D.Replayed answer) r mode bytes reading w e few reads = has_answer words left _ mode bytes reading r w e reads
only_answer words left (D.Made obligations largest answer) r mode bytes reading w e few reads = absurd (not_both words r.places mode r.asked w)
only_answer words left (D.TreeRefused f) r mode bytes reading w e few reads = has_answer words left _ mode bytes reading r w e reads
only_answer words left (D.SyntaxRefused f) r mode bytes reading w e few reads = has_answer words left _ mode bytes reading r w e reads
only_answer words left D.Usage r mode bytes reading w e few reads = absurd (asked_for_one words (OnText mode) w r)
only_answer words left D.TooLong r mode bytes reading w e few reads = let long : 1048576 < length bytes = at_bytes _ left bytes e r.1 in absurd (omega arith)
only_answer words left D.ReadFault r mode bytes reading w e few reads = tt
only_answer words left D.WriteFault r mode bytes reading w e few reads = tt
only_answer words left D.MemoryWanting r mode bytes reading w e few reads = tt

-- to a chain no answer but its own comes
pub only_chain : (words : List (String Global)) (left : Option (List ℕ)) (d : Detail) → HasReason words left d → (places : ℕ) → AskFor (Make places) words → IsChainOrFault places d
only_chain words left (D.Proved n) r places w = absurd (not_both words places r.mode w r.asked)
only_chain words left (D.Counter i m) r places w = absurd (not_both words places r.mode w r.asked)
only_chain words left (D.NotStratified i ss) r places w = absurd (not_both words places r.mode w r.asked)
only_chain words left (D.TooLarge i) r places w = absurd (not_both words places r.mode w r.asked)
only_chain words left (D.Spent i log) r places w = absurd (not_both words places r.mode w r.asked)
only_chain words left D.Shown r places w = absurd (not_both words places r.mode w r.asked)
only_chain words left (D.Checked checked) r places w = absurd (not_both words places r.mode w r.asked)
only_chain words left (D.Replayed answer) r places w = absurd (not_both words places r.mode w r.asked)
only_chain words left (D.TreeRefused f) r places w = absurd (not_both words places r.mode w r.asked)
only_chain words left (D.SyntaxRefused f) r places w = absurd (not_both words places r.mode w r.asked)
only_chain words left (D.Made obligations largest answer) r places w =
    let one : Make r.places ≡ Make places = same_mode words (Make r.places) (Make places) r.asked w in
    let same : r.places ≡ places = cc in
    subst (λ (n : ℕ). IsChainAnswer n (D.Made obligations largest answer)) same r.is
only_chain words left D.Usage r places w = absurd (asked_for_one words (Make places) w r)
only_chain words left D.TooLong r places w = absurd (not_both words places r.0.mode w r.0.asked)
only_chain words left D.ReadFault r places w = absurd (not_both words places r.mode w r.asked)
only_chain words left D.WriteFault r places w = tt
only_chain words left D.MemoryWanting r places w = tt

-- ---- the answers to a system whose obligations are all decided

-- what breaks an obligation shows that it isn't valid
invalid : (p : Parts) (index : ℕ) (w : Tables) → IsFirstBroken p index w → IsValidAt p index → ⊥
invalid p index w b valid = valid w b.breaking.sound b.breaking.vocabulary b.breaking.breaks

valid_at : (p : Parts) → AreValid p → (i : ℕ) → i < count p → IsValidAt p i
valid_at p valid i l = valid i Catch l

-- no obligation is above the limit
not_large : (p : Parts) (index : ℕ) → IsInFragment p → IsFirstTooLarge p index → ⊥
not_large p index f a =
    let small = f.small index a.in_range in
    let le = small.2 in
    let gt = a.large small.0 small.1 in
    absurd (omega (arith, le, gt))

pub only_proved : (p : Parts) (budget : ℕ) (d : Detail) → IsOrFault (IsAnswer (Prove budget) (OneSystem p)) d → IsInFragment p → AreValid p → IsOrFault (IsProvedOrSpent p budget) d
only_proved p budget (D.Proved n) a f valid = a.2
only_proved p budget (D.Counter i w) a f valid = absurd (invalid p i w a.1 (valid_at p valid i a.1.in_range))
only_proved p budget (D.NotStratified i ss) a f valid = absurd (f.stratified i a.in_range (ss, a.cycle))
only_proved p budget (D.TooLarge i) a f valid = absurd (not_large p i f a)
only_proved p budget (D.Spent i log) a f valid = a.1
only_proved p budget D.Shown a f valid = absurd a
only_proved p budget (D.Checked checked) a f valid = absurd a
only_proved p budget (D.Replayed answer) a f valid = absurd a
only_proved p budget (D.Made obligations largest answer) a f valid = absurd a
only_proved p budget (D.TreeRefused fault) a f valid = absurd a
only_proved p budget (D.SyntaxRefused fault) a f valid = absurd a
only_proved p budget D.Usage a f valid = absurd a
only_proved p budget D.TooLong a f valid = absurd a
only_proved p budget D.ReadFault a f valid = tt
only_proved p budget D.WriteFault a f valid = tt
only_proved p budget D.MemoryWanting a f valid = tt

-- of two obligations that are the first broken one, neither comes before the other
first_is_one : (p : Parts) (i j : ℕ) (w v : Tables) → IsFirstBroken p i w → IsFirstBroken p j v → i ≡ j
first_is_one p i j w v a b =
    let one : i < j → ⊥ = λ l. invalid p i w a (b.earlier i l) in
    let other : j < i → ⊥ = λ l. invalid p j v b (a.earlier j l) in
    omega (arith, one, other)

-- where all before one are valid, the broken one doesn't come before it
not_past : (p : Parts) (n index : ℕ) (w : Tables) → AreValidBefore p n → IsFirstBroken p index w → n ≤ index
not_past p n index w earlier broken = let one : index < n → ⊥ = λ l. invalid p index w broken (earlier index l) in omega (arith, one)

pub only_counter : (p : Parts) (budget : ℕ) (d : Detail) (index : ℕ) (w : Tables) → IsOrFault (IsAnswer (Prove budget) (OneSystem p)) d → IsInFragment p → IsFirstBroken p index w
    → IsOrFault (IsCounterOrSpent p budget index) d
only_counter p budget (D.Proved n) index w a f broken = absurd (invalid p index w broken (valid_at p a.1 index broken.in_range))
only_counter p budget (D.Counter i v) index w a f broken = first_is_one p i index v w a.1 broken
only_counter p budget (D.NotStratified i ss) index w a f broken = absurd (f.stratified i a.in_range (ss, a.cycle))
only_counter p budget (D.TooLarge i) index w a f broken = absurd (not_large p i f a)
only_counter p budget (D.Spent i log) index w a f broken = (a.1, not_past p i index w a.1.earlier broken)
only_counter p budget D.Shown index w a f broken = absurd a
only_counter p budget (D.Checked checked) index w a f broken = absurd a
only_counter p budget (D.Replayed answer) index w a f broken = absurd a
only_counter p budget (D.Made obligations largest answer) index w a f broken = absurd a
only_counter p budget (D.TreeRefused fault) index w a f broken = absurd a
only_counter p budget (D.SyntaxRefused fault) index w a f broken = absurd a
only_counter p budget D.Usage index w a f broken = absurd a
only_counter p budget D.TooLong index w a f broken = absurd a
only_counter p budget D.ReadFault index w a f broken = tt
only_counter p budget D.WriteFault index w a f broken = tt
only_counter p budget D.MemoryWanting index w a f broken = tt

pub never_spent : (p : Parts) (budget : ℕ) (d : Detail) → IsOrFault (IsAnswer (Prove budget) (OneSystem p)) d → IsEnough p budget → IsNotSpent d
never_spent p budget (D.Proved n) a enough = tt
never_spent p budget (D.Counter i w) a enough = tt
never_spent p budget (D.NotStratified i ss) a enough = tt
never_spent p budget (D.TooLarge i) a enough = tt
never_spent p budget (D.Spent i log) a enough =
    let s = a.1.spent in
    let some = s.few in
    let most = enough i a.1.in_range s.clauses s.made in
    absurd (omega (arith, some, most))
never_spent p budget D.Shown a enough = tt
never_spent p budget (D.Checked checked) a enough = tt
never_spent p budget (D.Replayed answer) a enough = tt
never_spent p budget (D.Made obligations largest answer) a enough = tt
never_spent p budget (D.TreeRefused fault) a enough = tt
never_spent p budget (D.SyntaxRefused fault) a enough = tt
never_spent p budget D.Usage a enough = tt
never_spent p budget D.TooLong a enough = tt
never_spent p budget D.ReadFault a enough = tt
never_spent p budget D.WriteFault a enough = tt
never_spent p budget D.MemoryWanting a enough = tt
