-- What a text of the modes `check` and `replay` spells, or its first fault.
use Rattle.std.specs.Prelude.{◌≡◌, ◌<◌, ℕ, true, ltb, List, codes, Result, Ok, if◌then◌else◌}
use Rattle.lv_tree.specs.declared.tree.Tree.{Tree}
use Rattle.lv_system.specs.declared.parts.Parts.{Parts}
use Rattle.lv_prove.specs.Outcomes.{count, vocabulary_at}
use Rattle.lv_fault.specs.declared.fault.Kind.TheVariants.{Unexpected}
use Rattle.lv_fault.specs.declared.fault.SyntaxFault.{SyntaxFault}
use Rattle.lv_fault.specs.Given.{◌>>=◌, ended, fail, headed, next_of}
use Rattle.lv_reading.specs.declared.numbers.Numbered.{Numbered}
use Rattle.lv_reading.specs.Numbers.{exactly, number_in}
use Rattle.lv_reading.specs.Structures.{structure_in}
use Rattle.lv_replay.specs.declared.lasso.Lasso.{Lasso}
use Rattle.lv_lasso.specs.Reading.{lasso_in}
use Rattle.lv_replay.specs.Fits.{LassoFits}
use Rattle.lv_grammar.specs.Reading.{system_of}
use Rattle.lv_run.specs.declared.requests.AskedList as asked_list
use Rattle.lv_run.specs.declared.requests.CheckRequest as check_request
use Rattle.lv_run.specs.declared.requests.ReplayRequest as replay_request
use Rattle.lv_struct.specs.Tables.{HasVocabulary, Tables}
use Rattle.lv_grammar.specs.LabelLimits.{labels_keep_limits}

-- a system, the number of one of its obligations, and a structure of the obligation's vocabulary
pub record CheckText : Type 0 where
  pub system : Parts
  pub index : ℕ
  pub structure : Tables

-- a system and a lasso of its own symbols
pub record ReplayText : Type 0 where
  pub system : Parts
  pub lasso : Lasso

-- the number of an obligation
abbrev pub obligation_from : Parts → Numbered → Result ℕ SyntaxFault
obligation_from p n = if ltb n.value (count p) then Ok n.value else fail Unexpected n.at

abbrev pub obligation_in : Parts → Tree → Result ℕ SyntaxFault
obligation_in p t = number_in t >>= obligation_from p

-- a system behind its head, in a list with this word: what is asked of it is behind it
pub record Asked : Type 0 where
  pub system : Tree
  pub end : ℕ
  pub rest : List Tree

unfoldable pub asked_in : List ℕ → Tree → Result Asked SyntaxFault
asked_in head t = do
  l ← headed t
  _ ← exactly head l.word
  a ← next_of l.end l.rest
  Ok (record { system = a.0; end = l.end; rest = a.1 })

-- I STRUCTURE, behind the system
unfoldable pub check_behind : Parts → ℕ → List Tree → Result (ℕ × Tables) SyntaxFault
check_behind p end ts = do
  a ← next_of end ts
  i ← obligation_in p a.0
  b ← next_of end a.1
  w ← structure_in p (vocabulary_at p i) b.0
  _ ← ended b.1
  Ok (i, w)

-- LASSO, behind the system
unfoldable pub replay_behind : Parts → ℕ → List Tree → Result Lasso SyntaxFault
replay_behind p end ts = do
  a ← next_of end ts
  lasso ← lasso_in p a.0
  _ ← ended a.1
  Ok lasso

-- (check SYSTEM I STRUCTURE)
unfoldable pub check_of : Tree → Result CheckText SyntaxFault
check_of t = do
  a ← asked_in (codes "check") t
  p ← system_of a.system
  x ← check_behind p a.end a.rest
  Ok (record { system = p; index = x.0; structure = x.1 })

-- (replay SYSTEM LASSO)
unfoldable pub replay_of : Tree → Result ReplayText SyntaxFault
replay_of t = do
  a ← asked_in (codes "replay") t
  p ← system_of a.system
  lasso ← replay_behind p a.end a.rest
  Ok (record { system = p; lasso = lasso })

-- ---- the same of parts of the code

abbrev pub check_seen : check_request.CheckRequest → CheckText
check_seen r = record { system = r.system; index = r.index; structure = r.structure }

abbrev pub replay_seen : replay_request.ReplayRequest → ReplayText
replay_seen r = record { system = r.system; lasso = r.lasso }

abbrev pub asked_seen : asked_list.AskedList → Asked
asked_seen l = record { system = l.system.now; end = l.end; rest = l.rest.now }

-- what a check needs
pub record IsReadyCheck (r : check_request.CheckRequest) : Type 0 where
  pub limits : labels_keep_limits r.system ≡ true
  pub there : r.index < count r.system
  pub vocabulary : HasVocabulary (vocabulary_at r.system r.index) r.structure

-- what a replay needs
abbrev pub IsReadyReplay : replay_request.ReplayRequest → Type 0
IsReadyReplay r = LassoFits r.system r.lasso
