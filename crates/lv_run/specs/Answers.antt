-- What a text is answered, and why.
use Rattle.std.specs.Prelude.{◌≡◌, ◌<◌, ℕ, List, [], length, codes, Some, Ok, Err}
use Rattle.lv_tree.specs.declared.tree.Tree.{Tree}
use Rattle.lv_tree.specs.declared.fault.TreeFault.{TreeFault}
use Rattle.lv_tree.specs.Spelling.{SpellsTree}
use Rattle.lv_tree.specs.Faults.{fault_of}
use Rattle.lv_system.specs.declared.parts.Parts.{Parts}
use Rattle.lv_grammar.specs.Spelling.{Spells}
use Rattle.lv_fault.specs.declared.fault.SyntaxFault.{SyntaxFault}
use Rattle.lv_grammar.specs.Reading.{system_of}
use Rattle.lv_grammar.specs.Layout.{shown_text}
use Rattle.lv_struct.specs.Tables.{HasVocabulary, meaning}
use Rattle.lv_prove.specs.declared.outcome.Outcome.{Outcome}
use Rattle.lv_prove.specs.declared.outcome.Outcome.TheVariants as O
use Rattle.lv_prove.specs.Outcomes.{IsOutcome, count, vocabulary_at}
use Rattle.lv_check.specs.declared.checking.Checked.{Checked}
use Rattle.lv_check.specs.declared.checking.Checked.TheVariants as C
use Rattle.lv_check.specs.Answers.{IsChecked}
use Rattle.lv_replay.specs.declared.answer.ReplayAnswer.{ReplayAnswer}
use Rattle.lv_replay.specs.declared.answer.ReplayAnswer.TheVariants as L
use Rattle.lv_replay.specs.Answers as replays
use Rattle.lv_report.specs.Texts.{axiom_fails_text, countermodel_text, guard_fails_text, hypothesis_fails_text, not_stratified_text, proved_text, spent_text, too_large_text, unfair_text}
use Rattle.lv_command.specs.declared.mode.TextMode.{TextMode}
use Rattle.lv_command.specs.declared.mode.TextMode.TheVariants.{Check, Prove, Replay, Show}
use Rattle.lv_run.specs.declared.detail.Detail.{Detail}
use Rattle.lv_run.specs.declared.detail.Detail.TheVariants as D
use Rattle.lv_run.specs.declared.reader.Refusal.{Refusal}
use Rattle.lv_run.specs.declared.reader.Refusal.TheVariants as R
use Rattle.lv_run.specs.Requests.{CheckText, ReplayText, check_of, replay_of}

-- ---- what bytes come to when they are read

-- what a text is to spell: a system; a system with the number of an obligation and a structure; a system with a lasso
pub data Language : Type 0 where
  Systems : Language
  Checks : Language
  Replays : Language

abbrev pub language_of : TextMode → Language
language_of (Prove budget) = Systems
language_of Show = Systems
language_of Check = Checks
language_of Replay = Replays

pub data Reading : Type 0 where
  NoTree : TreeFault → Reading
  NoText : SyntaxFault → Reading
  OneSystem : Parts → Reading
  OneCheck : CheckText → Reading
  OneReplay : ReplayText → Reading

-- the first fault of a tree that spells nothing in the language
abbrev pub IsFaultOf : Language → Tree → SyntaxFault → Type 0
IsFaultOf Systems t fault = system_of t ≡ Err fault
IsFaultOf Checks t fault = check_of t ≡ Err fault
IsFaultOf Replays t fault = replay_of t ≡ Err fault

-- the bytes spell a tree that has this first fault
pub record HasFault (language : Language) (bytes : List ℕ) (fault : SyntaxFault) : Type 0 where
  pub tree : Tree
  pub spelled : SpellsTree bytes tree
  pub found : IsFaultOf language tree fault

-- the bytes spell a tree, and the tree a system, the number of an obligation and a structure
pub record SpellsCheck (bytes : List ℕ) (c : CheckText) : Type 0 where
  pub tree : Tree
  pub spelled : SpellsTree bytes tree
  pub found : check_of tree ≡ Ok c

-- the bytes spell a tree, and the tree a system and a lasso
pub record SpellsReplay (bytes : List ℕ) (r : ReplayText) : Type 0 where
  pub tree : Tree
  pub spelled : SpellsTree bytes tree
  pub found : replay_of tree ≡ Ok r

-- the bytes have a fault and spell no tree; or they spell a tree that has a fault and spells nothing in the language; or they
-- spell something in it
abbrev pub Reads : Language → List ℕ → Reading → Type 0
Reads language bytes (NoTree fault) = fault_of bytes ≡ Some fault
Reads language bytes (NoText fault) = HasFault language bytes fault
Reads Systems bytes (OneSystem p) = Spells bytes p
Reads Systems bytes (OneCheck c) = ⊥
Reads Systems bytes (OneReplay r) = ⊥
Reads Checks bytes (OneSystem p) = ⊥
Reads Checks bytes (OneCheck c) = SpellsCheck bytes c
Reads Checks bytes (OneReplay r) = ⊥
Reads Replays bytes (OneSystem p) = ⊥
Reads Replays bytes (OneCheck c) = ⊥
Reads Replays bytes (OneReplay r) = SpellsReplay bytes r

-- bytes come to something in each language
abbrev pub ReadsSome : Type 0
ReadsSome = (language : Language) (bytes : List ℕ) → (r : Reading) × Reads language bytes r

-- and to one thing alone
abbrev pub ReadsOne : Type 0
ReadsOne = (language : Language) (bytes : List ℕ) (r s : Reading) → Reads language bytes r → Reads language bytes s → r ≡ s

-- ---- what is answered

-- the answer that an outcome gives
abbrev pub detail_of : Outcome → Detail
detail_of (O.Proved obligations) = D.Proved obligations
detail_of (O.Counter index w) = D.Counter index w
detail_of (O.NotStratified index sorts) = D.NotStratified index sorts
detail_of (O.TooLarge index) = D.TooLarge index
detail_of (O.Spent index log) = D.Spent index log

-- what `prove` answers to a system, with this budget
abbrev pub IsVerdict : Parts → ℕ → Detail → Type 0
IsVerdict p budget (D.Proved obligations) = IsOutcome p budget (O.Proved obligations)
IsVerdict p budget (D.Counter index w) = IsOutcome p budget (O.Counter index w)
IsVerdict p budget (D.NotStratified index sorts) = IsOutcome p budget (O.NotStratified index sorts)
IsVerdict p budget (D.TooLarge index) = IsOutcome p budget (O.TooLarge index)
IsVerdict p budget (D.Spent index log) = IsOutcome p budget (O.Spent index log)
IsVerdict p budget _ = ⊥

-- what `check` answers to a system, an obligation and a structure
abbrev pub IsCheckAnswer : CheckText → Detail → Type 0
IsCheckAnswer c (D.Checked checked) = IsChecked c.system c.index (meaning c.structure) checked
IsCheckAnswer c _ = ⊥

-- what `replay` answers to a system and a lasso
abbrev pub IsReplayAnswer : ReplayText → Detail → Type 0
IsReplayAnswer r (D.Replayed answer) = replays.IsAnswer r.system r.lasso answer
IsReplayAnswer r _ = ⊥

-- what is answered in a mode, streams that fail and want of memory aside
abbrev pub IsAnswer : TextMode → Reading → Detail → Type 0
IsAnswer mode (NoTree fault) answer = answer ≡ D.TreeRefused fault
IsAnswer mode (NoText fault) answer = answer ≡ D.SyntaxRefused fault
IsAnswer (Prove budget) (OneSystem p) answer = IsVerdict p budget answer
IsAnswer Show (OneSystem p) answer = answer ≡ D.Shown
IsAnswer Check (OneCheck c) answer = IsCheckAnswer c answer
IsAnswer Replay (OneReplay r) answer = IsReplayAnswer r answer
IsAnswer mode _ answer = ⊥

-- ---- what is written on standard output

abbrev pub system_report : Parts → Detail → List ℕ
system_report p (D.Proved obligations) = proved_text obligations
system_report p (D.Counter index w) = countermodel_text p index w
system_report p (D.NotStratified index sorts) = not_stratified_text p index sorts
system_report p (D.TooLarge index) = too_large_text p index
system_report p (D.Spent index log) = spent_text p index (length log)
system_report p D.Shown = shown_text p
system_report p _ = []

abbrev pub checked_text : Checked → List ℕ
checked_text C.Breaks = codes "breaks\n"
checked_text (C.HypothesisFails number) = hypothesis_fails_text number
checked_text C.ConclusionHolds = codes "conclusion holds\n"

abbrev pub replayed_text : Parts → ReplayAnswer → List ℕ
replayed_text p (L.AxiomFails number) = axiom_fails_text number
replayed_text p L.NotInit = codes "not init\n"
replayed_text p (L.GuardFails step) = guard_fails_text step
replayed_text p L.LoopOpen = codes "loop open\n"
replayed_text p (L.Unfair fair) = unfair_text p fair
replayed_text p L.Satisfies = codes "satisfies\n"
replayed_text p L.Violates = codes "violates\n"

abbrev pub check_report : Detail → List ℕ
check_report (D.Checked checked) = checked_text checked
check_report _ = []

abbrev pub replay_report : Parts → Detail → List ℕ
replay_report p (D.Replayed answer) = replayed_text p answer
replay_report p _ = []

abbrev pub report_of : Reading → Detail → List ℕ
report_of (NoTree fault) answer = []
report_of (NoText fault) answer = []
report_of (OneSystem p) answer = system_report p answer
report_of (OneCheck c) answer = check_report answer
report_of (OneReplay r) answer = replay_report r.system answer

-- these bytes have this answer, with this report on standard output
pub record IsAnswered (mode : TextMode) (bytes : List ℕ) (answer : Detail) (out : List ℕ) : Type 0 where
  pub reading : Reading
  pub reads : Reads (language_of mode) bytes reading
  pub is : IsAnswer mode reading answer
  pub report : out ≡ report_of reading answer

-- ---- the same of parts of the code

-- the answer to a system in a mode, and its report
abbrev pub IsSystemAnswer : TextMode → Parts → Detail → List ℕ → Type 0
IsSystemAnswer mode p answer out = IsAnswer mode (OneSystem p) answer × (out ≡ system_report p answer)

-- the answer to a check, and its report
abbrev pub IsCheckAnswered : CheckText → Detail → List ℕ → Type 0
IsCheckAnswered c answer out = IsCheckAnswer c answer × (out ≡ check_report answer)

-- the answer to a replay, and its report
abbrev pub IsReplayAnswered : ReplayText → Detail → List ℕ → Type 0
IsReplayAnswered r answer out = IsReplayAnswer r answer × (out ≡ replay_report r.system answer)

-- the answer to a text that spells nothing in its language, which has no report
abbrev pub IsRefusal : Refusal → Detail → List ℕ → Type 0
IsRefusal (R.Tree fault) answer out = (answer ≡ D.TreeRefused fault) × (out ≡ [])
IsRefusal (R.Syntax fault) answer out = (answer ≡ D.SyntaxRefused fault) × (out ≡ [])
IsRefusal R.Memory answer out = ⊥

-- why a text spells nothing in a language, want of memory aside
abbrev pub IsRefused : Language → List ℕ → Refusal → Type 0
IsRefused language bytes (R.Tree fault) = Reads language bytes (NoTree fault)
IsRefused language bytes (R.Syntax fault) = Reads language bytes (NoText fault)
IsRefused language bytes R.Memory = Unit {0}

-- the obligation of an outcome is there, and its structure has the obligation's vocabulary
abbrev pub CanBeReported : Parts → Outcome → Type 0
CanBeReported p (O.Proved obligations) = Unit {0}
CanBeReported p (O.Counter index w) = (index < count p) × HasVocabulary (vocabulary_at p index) w
CanBeReported p (O.NotStratified index sorts) = index < count p
CanBeReported p (O.TooLarge index) = index < count p
CanBeReported p (O.Spent index log) = index < count p
