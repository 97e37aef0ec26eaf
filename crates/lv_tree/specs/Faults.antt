-- The one fault of bytes that spell no tree.
use Rattle.std.specs.Prelude.{ℕ, ◌+◌, Bool, true, false, ◌&&◌, ◌||◌, not, nat_le, ◌==◌, List, [], ◌∷◌, ◌++◌, length, Option, Some, None, if◌then◌else◌}
use Rattle.lv_tree.specs.declared.fault.TreeFault.{TreeFault}
use Rattle.lv_tree.specs.declared.fault.TreeFault.TheVariants.{BadByte, Unclosed, Extra, TooDeep, LongWord, Empty}
use Rattle.lv_tree.specs.Bytes.{is_word_byte, is_allowed_byte}

-- what the bytes before a place leave
pub record State : Type 0 where
  -- the places of the '(' that aren't closed, the last one first
  pub opened : List ℕ
  -- whether the tree began
  pub begun : Bool
  -- the bytes of the word that reaches this place
  pub word : List ℕ
  -- whether a comment reaches this place
  pub comment : Bool

abbrev pub start : State
start = record { opened = []; begun = false; word = []; comment = false }

abbrev pub is_empty : {A : Type 0} → List A → Bool
is_empty [] = true
is_empty (x ∷ xs) = false

abbrev pub tail : {A : Type 0} → List A → List A
tail [] = []
tail (x ∷ xs) = xs

-- a newline ends a comment, and any byte but a word byte ends a word
abbrev pub after_byte : State → ℕ → ℕ → State
after_byte s at b =
    if s.comment then record s { comment = not (b == 10) }
    else if b == 59 then record s { word = []; comment = true }
    else if b == 40 then record s { opened = at ∷ s.opened; begun = true; word = [] }
    else if b == 41 then record s { opened = tail s.opened; word = [] }
    else if is_word_byte b then record s { begun = true; word = s.word ++ b ∷ [] }
    else record s { word = [] }

-- a ')' with no list open, or a '(' or the first byte of a word after the tree's end
abbrev pub is_extra : State → ℕ → Bool
is_extra s b = is_empty s.opened && (b == 41 || s.begun && (b == 40 || is_word_byte b && is_empty s.word))

-- the fault at one byte: the kinds are tried in this order
abbrev pub fault_at : State → ℕ → ℕ → Option TreeFault
fault_at s at b =
    if s.comment then None
    else if not (is_allowed_byte b) then Some (BadByte at)
    else if is_extra s b then Some (Extra at)
    else if b == 40 && nat_le 64 (length s.opened) then Some (TooDeep at)
    else if is_word_byte b && nat_le 64 (length s.word) then Some (LongWord at)
    else None

-- `Unclosed` at the last '(' that isn't closed, or else this
abbrev pub unclosed_or : List ℕ → Option TreeFault → Option TreeFault
unclosed_or [] fault = fault
unclosed_or (at ∷ outer) fault = Some (Unclosed at)

-- the fault where the bytes end
abbrev pub fault_at_end : State → Option TreeFault
fault_at_end s = unclosed_or s.opened (if s.begun then None else Some Empty)

-- the first of two faults
abbrev pub or_else : Option TreeFault → Option TreeFault → Option TreeFault
or_else None next = next
or_else (Some f) next = Some f

-- the first fault from a place on
abbrev pub fault_from : State → ℕ → List ℕ → Option TreeFault
fault_from s at [] = fault_at_end s
fault_from s at (b ∷ bs) = or_else (fault_at s at b) (fault_from (after_byte s at b) (at + 1) bs)

-- the first fault of the bytes from the left, if they have one
abbrev pub fault_of : List ℕ → Option TreeFault
fault_of bytes = fault_from start 0 bytes
