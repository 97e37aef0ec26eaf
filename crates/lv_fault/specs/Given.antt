-- Reading in steps: what was found, or the first fault. The parts of a tree that all readers take.
use Rattle.std.specs.Prelude.{◌≡◌, ℕ, Bool, List, [], ◌∷◌, Result, Ok, Err, if◌then◌else◌}
use Rattle.lv_tree.specs.declared.tree.Tree.{Tree, out-Tree}
use Rattle.lv_tree.specs.declared.tree.Tree.TheOpen.{Tree-F, Word, Group}
use Rattle.lv_fault.specs.declared.fault.Kind.{Kind}
use Rattle.lv_fault.specs.declared.fault.Kind.TheVariants.{Unexpected, Missing}
use Rattle.lv_fault.specs.declared.fault.SyntaxFault.{SyntaxFault}
use Rattle.lv_fault.specs.declared.fault.ReadText.{ReadText}
use Rattle.lv_fault.specs.declared.fault.ReadText.TheVariants.{Refused, Memory}

infixl 10 ◌>>=◌
abbrev pub ◌>>=◌ : {A B : Type 0} → Result A SyntaxFault → (A → Result B SyntaxFault) → Result B SyntaxFault
(Ok x) >>= f = f x
(Err e) >>= f = Err e

-- what a function of the code returned, seen by view, is what reading gives, unless memory ran out
abbrev pub Fails : {Y : Type 0} → ReadText → Result Y SyntaxFault → Type 0
Fails Memory read = Unit {0}
Fails (Refused f) read = read ≡ Err f

abbrev pub Gives : {X Y : Type 0} → (X → Y) → Result X ReadText → Result Y SyntaxFault → Type 0
Gives view (Ok x) read = read ≡ Ok (view x)
Gives view (Err e) read = Fails e read

abbrev pub fail : {A : Type 0} → Kind → ℕ → Result A SyntaxFault
fail kind at = Err (record { at = at; kind = kind })

-- the fault, where it is one
abbrev pub fail_if : Bool → Kind → ℕ → Result (Unit {0}) SyntaxFault
fail_if wrong kind at = if wrong then fail kind at else Ok tt

-- ---- trees

abbrev pub place_layer : Tree-F Tree → ℕ
place_layer (Word at text) = at
place_layer (Group at end items) = at

-- the place of the first byte
abbrev pub place_of : Tree → ℕ
place_of t = place_layer (out-Tree t)

-- the first item, and those behind it, of a list that ends at this place
abbrev pub next_of : ℕ → List Tree → Result (Tree × List Tree) SyntaxFault
next_of end [] = fail Missing end
next_of end (t ∷ ts) = Ok (t, ts)

-- no item is left
abbrev pub ended : List Tree → Result (Unit {0}) SyntaxFault
ended [] = Ok tt
ended (t ∷ ts) = fail Unexpected (place_of t)

-- a word with its place
pub record Worded : Type 0 where
  pub at : ℕ
  pub text : List ℕ

abbrev pub word_layer : Tree-F Tree → Result Worded SyntaxFault
word_layer (Word at text) = Ok (record { at = at; text = text })
word_layer (Group at end items) = fail Unexpected at

-- a word where one has to stand
abbrev pub word_in : Tree → Result Worded SyntaxFault
word_in t = word_layer (out-Tree t)

-- a list with the place of its closing bracket
pub record Listed : Type 0 where
  pub end : ℕ
  pub items : List Tree

abbrev pub list_layer : Tree-F Tree → Result Listed SyntaxFault
list_layer (Word at text) = fail Unexpected at
list_layer (Group at end items) = Ok (record { end = end; items = items })

-- a list where one has to stand
abbrev pub list_in : Tree → Result Listed SyntaxFault
list_in t = list_layer (out-Tree t)

-- a list that begins with a word: its first and last place, the word with its place, and the items behind it
pub record Headed : Type 0 where
  pub at : ℕ
  pub end : ℕ
  pub word : Worded
  pub rest : List Tree

unfoldable pub headed_items : ℕ → ℕ → List Tree → Result Headed SyntaxFault
headed_items at end items = do
  a ← next_of end items
  w ← word_in a.0
  Ok (record { at = at; end = end; word = w; rest = a.1 })

abbrev pub headed_layer : Tree-F Tree → Result Headed SyntaxFault
headed_layer (Word at text) = fail Unexpected at
headed_layer (Group at end items) = headed_items at end items

abbrev pub headed : Tree → Result Headed SyntaxFault
headed t = headed_layer (out-Tree t)
