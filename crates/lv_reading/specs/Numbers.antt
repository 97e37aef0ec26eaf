-- Words that a place asks for by their bytes, and numbers: what a tree gives, or its first fault.
use Rattle.std.specs.Prelude.{ℕ, ◌+◌, ◌-◌, ◌*◌, Bool, false, not, ◌&&◌, ◌||◌, eqb, leb, ltb, cond, List, [], ◌∷◌, length, Result, Ok}
use Rattle.std.specs.Str.{all_ascii_digits}
use Rattle.lv_tree.specs.declared.tree.Tree.{Tree}
use Rattle.lv_system.specs.Names.{same_text}
use Rattle.lv_fault.specs.declared.fault.Kind.TheVariants.{Unexpected, WrongSort}
use Rattle.lv_fault.specs.declared.fault.SyntaxFault.{SyntaxFault}
use Rattle.lv_reading.specs.declared.numbers.Numbered.{Numbered}
use Rattle.lv_fault.specs.Given.{◌>>=◌, Worded, fail, fail_if, word_in}

-- the word that the place asks for, and no other
abbrev pub exactly : List ℕ → Worded → Result (Unit {0}) SyntaxFault
exactly text w = fail_if (not (same_text text w.text)) Unexpected w.at

abbrev pub exactly_in : List ℕ → Tree → Result (Unit {0}) SyntaxFault
exactly_in text t = word_in t >>= exactly text

-- `0`, or a digit 1 to 9 and at most eight digits after it
abbrev pub is_number : List ℕ → Bool
is_number [] = false
is_number (c ∷ cs) = all_ascii_digits (c ∷ cs) && (leb (length (c ∷ cs)) 9 && (not (eqb c 48) || eqb (length (c ∷ cs)) 1))

-- the number that the digits spell, where the ones before spell the first
abbrev pub value_from : ℕ → List ℕ → ℕ
value_from n [] = n
value_from n (c ∷ cs) = value_from (10 * n + (c - 48)) cs

-- a number with its place
abbrev pub number_of_word : Worded → Result Numbered SyntaxFault
number_of_word w = cond (is_number w.text) (Ok (record { at = w.at; value = value_from 0 w.text })) (fail Unexpected w.at)

abbrev pub number_in : Tree → Result Numbered SyntaxFault
number_in t = word_in t >>= number_of_word

-- an element of a sort of this size
abbrev pub element_in_sort : ℕ → Numbered → Result ℕ SyntaxFault
element_in_sort size n = cond (ltb n.value size) (Ok n.value) (fail WrongSort n.at)

abbrev pub element_in : ℕ → Tree → Result ℕ SyntaxFault
element_in size t = number_in t >>= element_in_sort size
