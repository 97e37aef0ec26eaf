-- Which bytes spell which tree.
use Rattle.std.specs.Prelude.{ℕ, ◌+◌, ◌-◌, Bool, true, ◌&&◌, not, nat_le, nat_lt, ◌==◌, IsTrue, List, [], ◌∷◌, ◌++◌, length, map}
use Rattle.std.specs.List.{list_all}
use Rattle.lv_tree.specs.declared.tree.Tree.{Tree}
use Rattle.lv_tree.specs.declared.tree.Tree.TheOpen.{Tree-F, Word, Group}
use Rattle.lv_tree.specs.declared.tree.Tree.TheFolds.{fold-Tree}
use Rattle.lv_tree.specs.Bytes.{is_white, is_word_byte, goes_on_with}

-- a bracket or a word, with its place
pub data Token : Type 0 where
  Opens : ℕ → Token
  Closes : ℕ → Token
  Spells : ℕ → List ℕ → Token

abbrev pub joined : List (List Token) → List Token
joined [] = []
joined (ts ∷ tss) = ts ++ joined tss

-- the tokens of a tree, from those of its items
abbrev pub tokens_step : Tree-F (List Token) → List Token
tokens_step (Word at text) = Spells at text ∷ []
tokens_step (Group at end items) = Opens at ∷ joined items ++ Closes end ∷ []

-- the tokens of a tree
abbrev pub tokens_of : Tree → List Token
tokens_of = fold-Tree (List Token) tokens_step

-- the tokens of trees that follow each other
abbrev pub tokens_of_all : List Tree → List Token
tokens_of_all trees = joined (map tokens_of trees)

-- the bytes of a word: 1 to 64, each of them a word byte
abbrev pub is_text : List ℕ → Bool
is_text text = nat_lt 0 (length text) && nat_le (length text) 64 && list_all is_word_byte text

-- whether each of the tests passes
abbrev pub each : List (ℕ → Bool) → ℕ → Bool
each [] room = true
each (f ∷ fs) room = f room && each fs room

-- whether a tree fits, from the tests of its items
abbrev pub fits_step : Tree-F (ℕ → Bool) → ℕ → Bool
fits_step (Word at text) room = is_text text
fits_step (Group at end items) room = nat_lt 0 room && each items (room - 1)

-- each word is one, and lists nest at most `room` deep
abbrev pub fits_in : ℕ → Tree → Bool
fits_in room tree = fold-Tree (ℕ → Bool) fits_step tree room

-- each of the trees fits
abbrev pub all_fit_in : ℕ → List Tree → Bool
all_fit_in room trees = each (map (fold-Tree (ℕ → Bool) fits_step) trees) room

-- From the place `at` on, the bytes are these tokens, with white bytes and comments around and between.
-- A comment runs from ';' to the byte before the next newline or to the end, and a word is a longest run of word bytes.
pub data Lexes : ℕ → List ℕ → List Token → Type 0 where
  end : {at : ℕ} → Lexes at [] []
  white : {at b : ℕ} {rest : List ℕ} {ts : List Token} → IsTrue (is_white b) → Lexes (at + 1) rest ts → Lexes at (b ∷ rest) ts
  comment : {at : ℕ} (body rest : List ℕ) {ts : List Token} → IsTrue (list_all (λ b. not (b == 10)) body) → IsTrue (goes_on_with (λ b. b == 10) rest)
      → Lexes (at + 1 + length body) rest ts → Lexes at (59 ∷ body ++ rest) ts
  opens : {at : ℕ} {rest : List ℕ} {ts : List Token} → Lexes (at + 1) rest ts → Lexes at (40 ∷ rest) (Opens at ∷ ts)
  closes : {at : ℕ} {rest : List ℕ} {ts : List Token} → Lexes (at + 1) rest ts → Lexes at (41 ∷ rest) (Closes at ∷ ts)
  word : {at : ℕ} (b : ℕ) (bs rest : List ℕ) {ts : List Token} → IsTrue (list_all is_word_byte (b ∷ bs)) → IsTrue (goes_on_with (λ c. not (is_word_byte c)) rest)
      → Lexes (at + length (b ∷ bs)) rest ts → Lexes at (b ∷ bs ++ rest) (Spells at (b ∷ bs) ∷ ts)

-- the bytes are the tokens of the tree, whose words and depth are within the limits
abbrev pub SpellsTree : List ℕ → Tree → Type 0
SpellsTree bytes tree = IsTrue (fits_in 64 tree) × Lexes 0 bytes (tokens_of tree)
