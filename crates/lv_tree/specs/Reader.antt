-- What a reader holds, and the tokens that it has read.
use Rattle.std.specs.Prelude.{◌≡◌, ℕ, ◌+◌, ◌-◌, ◌≤◌, Bool, true, false, ◌&&◌, ◌||◌, not, nat_lt, ◌==◌, IsTrue, List, [], ◌∷◌, ◌++◌, length, map, reverse, drop, None, if◌then◌else◌}
use Rattle.std.specs.List.{list_all}
use Rattle.lv_tree.specs.declared.tree.Tree.{Tree}
use Rattle.lv_tree.specs.declared.reader.Frame.{Frame}
use Rattle.lv_tree.specs.declared.reader.Reader.{Reader}
use Rattle.lv_tree.specs.Bytes.{is_word_byte}
use Rattle.lv_tree.specs.Spelling.{Token, Opens, Closes, Spells, tokens_of, tokens_of_all, fits_in, all_fit_in}
use Rattle.lv_tree.specs.Faults.{State, start, is_empty, after_byte, fault_at, fault_at_end, fault_from, fault_of}

-- the token of the word that reaches this place, if one does
abbrev pub word_token : List ℕ → ℕ → List Token
word_token [] at = []
word_token (b ∷ bs) at = Spells (at - length (b ∷ bs)) (b ∷ bs) ∷ []

abbrev pub bracket_token : ℕ → ℕ → List Token
bracket_token at b = if b == 40 then Opens at ∷ [] else if b == 41 then Closes at ∷ [] else []

-- the tokens that are whole with this byte, and weren't before
abbrev pub tokens_at : State → ℕ → ℕ → List Token
tokens_at s at b = if s.comment || is_word_byte b then [] else word_token s.word at ++ bracket_token at b

-- the tokens from a place on, the word that reaches it among them
abbrev pub tokens_from : State → ℕ → List ℕ → List Token
tokens_from s at [] = word_token s.word at
tokens_from s at (b ∷ bs) = tokens_at s at b ++ tokens_from (after_byte s at b) (at + 1) bs

-- the tokens of what stands on the stack: before each open list, and in the innermost one
abbrev pub stack_tokens : List Frame → List Tree → List Token
stack_tokens [] items = tokens_of_all items
stack_tokens (f ∷ fs) items = tokens_of_all f.before.items ++ Opens f.at ∷ stack_tokens fs items

abbrev pub tokens_so_far : Reader → List Token
tokens_so_far r = stack_tokens r.outer.items r.items.items

-- the places of the open lists, the last one first
abbrev pub places : List Frame → List ℕ
places fs = reverse (map (λ f. f.at) fs)

-- the reader as the definition of faults sees it
abbrev pub state_of : Reader → State
state_of r = record { opened = places r.outer.items; begun = r.begun; word = r.word.items; comment = r.comment }

-- whether all trees on the stack fit where they stand
abbrev pub stack_fits : ℕ → List Frame → List Tree → Bool
stack_fits room [] items = all_fit_in room items
stack_fits room (f ∷ fs) items = all_fit_in room f.before.items && (nat_lt 0 room && stack_fits (room - 1) fs items)

abbrev pub one_if : Bool → ℕ
one_if true = 1
one_if false = 0

-- with no list open, what began is the one item or the one word, and the outermost list has nothing before it
abbrev pub StandsAlone : List Frame → List Tree → List ℕ → Bool → Type 0
StandsAlone [] items word begun = length items + one_if (not (is_empty word)) ≡ one_if begun
StandsAlone (f ∷ fs) items word begun = (f.before.items ≡ []) × (begun ≡ true)

-- what a reader keeps at each place
pub record IsSound (r : Reader) (at : ℕ) : Type 0 where
  pub room : IsTrue (stack_fits 64 r.outer.items r.items.items)
  pub alone : StandsAlone r.outer.items r.items.items r.word.items r.begun
  pub word : IsTrue (list_all is_word_byte r.word.items)
  pub short : length r.word.items ≤ 64
  pub behind : length r.word.items ≤ at
  pub depth : length r.outer.items ≤ 64
  pub apart : r.comment ≡ true → r.word.items ≡ []

-- the reader has taken the byte at this place, which has no fault
pub record TakesByte (old : Reader) (at b : ℕ) (new : Reader) : Type 0 where
  pub sound : IsSound new (at + 1)
  pub clean : fault_at (state_of old) at b ≡ None
  pub state : state_of new ≡ after_byte (state_of old) at b
  pub tokens : tokens_so_far new ≡ tokens_so_far old ++ tokens_at (state_of old) at b

-- the word that reaches this place has become the last item, if there is one
pub record EndsWord (old : Reader) (at : ℕ) (new : Reader) : Type 0 where
  pub sound : IsSound new at
  pub outer : new.outer ≡ old.outer
  pub begun : new.begun ≡ old.begun
  pub comment : new.comment ≡ old.comment
  pub word : new.word.items ≡ []
  pub tokens : tokens_so_far new ≡ tokens_so_far old ++ word_token old.word.items at

-- the tree that the reader gives where the bytes end
pub record GivesTree (r : Reader) (at : ℕ) (t : Tree) : Type 0 where
  pub clean : fault_at_end (state_of r) ≡ None
  pub tokens : tokens_so_far r ++ word_token r.word.items at ≡ tokens_of t
  pub fits : IsTrue (fits_in 64 t)

-- the bytes have no fault, and their tokens are the tree's
pub record Reads (bytes : List ℕ) (t : Tree) : Type 0 where
  pub clean : fault_of bytes ≡ None
  pub tokens : tokens_from start 0 bytes ≡ tokens_of t
  pub fits : IsTrue (fits_in 64 t)

-- the reader has taken the bytes before this place
pub record HasTaken (bytes : List ℕ) (r : Reader) (at : ℕ) : Type 0 where
  pub sound : IsSound r at
  pub faults : fault_of bytes ≡ fault_from (state_of r) at (drop at bytes)
  pub tokens : tokens_from start 0 bytes ≡ tokens_so_far r ++ tokens_from (state_of r) at (drop at bytes)
