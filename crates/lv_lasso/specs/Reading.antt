-- Reading a lasso: its start and its steps, or the first fault of the tree.
use Rattle.std.specs.Prelude.{ℕ, ◌-◌, suc, Bool, not, ◌&&◌, eqb, cond, List, [], ◌∷◌, codes, Option, Some, None, Result, Ok}
use Rattle.lv_tree.specs.declared.tree.Tree.{Tree}
use Rattle.lv_system.specs.declared.parts.Parts.{Parts}
use Rattle.lv_system.specs.declared.parts.Action.{Action}
use Rattle.lv_system.specs.Names.{are_name_bytes, begins_small, is_reserved, same_text}
use Rattle.lv_system.specs.Step.{action_at}
use Rattle.lv_system.specs.Vocabularies.{own_vocabulary}
use Rattle.lv_fault.specs.declared.fault.Kind.TheVariants.{Unexpected, TooMany, UnknownName}
use Rattle.lv_fault.specs.declared.fault.SyntaxFault.{SyntaxFault}
use Rattle.lv_fault.specs.Given.{◌>>=◌, Worded, ended, fail, headed, list_in, next_of, place_of}
use Rattle.lv_reading.specs.Numbers.{exactly}
use Rattle.lv_reading.specs.Structures.{elements_in, structure_in}
use Rattle.lv_replay.specs.declared.lasso.Lasso.{Lasso}
use Rattle.lv_replay.specs.declared.lasso.StepTaken.{StepTaken}

-- the number of the first action with the name, where the first has the number n
abbrev pub action_named : ℕ → List Action → List ℕ → Option ℕ
action_named n [] name = None
action_named n (a ∷ as') name = cond (same_text a.name name) (Some n) (action_named (suc n) as' name)

-- the bytes are written like a name, whatever their number
abbrev pub looks_like_name : List ℕ → Bool
looks_like_name text = begins_small text && (are_name_bytes text && not (is_reserved text))

abbrev pub or_fault : Worded → Option ℕ → Result ℕ SyntaxFault
or_fault w (Some n) = Ok n
or_fault w None = cond (looks_like_name w.text) (fail UnknownName w.at) (fail Unexpected w.at)

-- the number of the action that the word names
abbrev pub action_in : Parts → Worded → Result ℕ SyntaxFault
action_in p w = or_fault w (action_named 0 p.actions w.text)

-- (ACTION E ..)
unfoldable pub step_in : Parts → List ℕ → Tree → Result StepTaken SyntaxFault
step_in p sizes t = do
  l ← headed t
  action ← action_in p l.word
  elements ← elements_in sizes (action_at p action).params l.word.at l.rest
  Ok (record { action = action; elements = elements })

-- a list is a step too many, whatever is inside
abbrev pub past_the_last : Tree → Result (List StepTaken) SyntaxFault
past_the_last t = list_in t >>= λ l. fail TooMany (place_of t)

-- at most so many steps
unfoldable pub steps_in : Parts → List ℕ → ℕ → List Tree → Result (List StepTaken) SyntaxFault
steps_in p sizes room [] = Ok []
steps_in p sizes room (t ∷ ts) = cond (eqb room 0) (past_the_last t) (step_in p sizes t >>= λ s. steps_in p sizes (room - 1) ts >>= λ ss. Ok (s ∷ ss))

-- (stem STEP ..)
unfoldable pub stem_in : Parts → List ℕ → Tree → Result (List StepTaken) SyntaxFault
stem_in p sizes t = do
  l ← headed t
  _ ← exactly (codes "stem") l.word
  steps_in p sizes 256 l.rest

-- (loop STEP ..), with a step
unfoldable pub loop_in : Parts → List ℕ → Tree → Result (List StepTaken) SyntaxFault
loop_in p sizes t = do
  l ← headed t
  _ ← exactly (codes "loop") l.word
  _ ← next_of l.end l.rest
  steps_in p sizes 256 l.rest

-- (lasso STRUCTURE (stem STEP ..) (loop STEP ..)), the structure over the system's own symbols
unfoldable pub lasso_in : Parts → Tree → Result Lasso SyntaxFault
lasso_in p t = do
  l ← headed t
  _ ← exactly (codes "lasso") l.word
  a ← next_of l.end l.rest
  start ← structure_in p (own_vocabulary p) a.0
  b ← next_of l.end a.1
  stem ← stem_in p start.sizes b.0
  c ← next_of l.end b.1
  turn ← loop_in p start.sizes c.0
  _ ← ended c.1
  Ok (record { start = start; stem = stem; turn = turn })
