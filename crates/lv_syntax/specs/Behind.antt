-- Lists that are read item by item, behind the items that are done: what loops of the code go through.
use Rattle.std.specs.Prelude.{ℕ, leb, List, [], ◌∷◌, ◌++◌, length, reverse, Result, Ok}
use Rattle.lv_tree.specs.declared.tree.Tree.{Tree}
use Rattle.lv_formula.specs.declared.symbols.SortId.{SortId}
use Rattle.lv_grammar.specs.Words.{Variable}
use Rattle.lv_fault.specs.declared.fault.Kind.TheVariants.{Missing, TooMany}
use Rattle.lv_fault.specs.declared.fault.SyntaxFault.{SyntaxFault}
use Rattle.lv_fault.specs.Given.{◌>>=◌, fail, fail_if, place_of, next_of, ended}
use Rattle.lv_grammar.specs.Known.{Known}
use Rattle.lv_grammar.specs.ReadWords.{new_variable, sort_in}
use Rattle.lv_grammar.specs.ReadItems.{Declared, scope_of}

-- SORT .., at most four
unfoldable pub sorts_behind : Known → List SortId → List Tree → Result (List SortId) SyntaxFault
sorts_behind d done [] = Ok done
sorts_behind d done (t ∷ ts) = do
  s ← sort_in d t
  _ ← fail_if (leb 4 (length done)) TooMany (place_of t)
  sorts_behind d (done ++ s ∷ []) ts

-- a new parameter, one of at most four
unfoldable pub parameter_in : List Declared → Tree → Result (List ℕ) SyntaxFault
parameter_in done t = do
  name ← new_variable (scope_of done) t
  _ ← fail_if (leb 4 (length done)) TooMany (place_of t)
  Ok name

-- VAR SORT ..
unfoldable pub pairs_behind : Known → List Declared → ℕ → List Tree → Result (List Declared) SyntaxFault
pairs_behind d done end [] = Ok done
pairs_behind d done end (t ∷ []) = parameter_in done t >>= λ name. fail Missing end
pairs_behind d done end (t ∷ u ∷ ts) = do
  name ← parameter_in done t
  sort ← sort_in d u
  pairs_behind d (done ++ record { at = place_of t; variable = record { name = name; sort = sort } } ∷ []) end ts

-- VAR .., one for each sort
unfoldable pub arguments_behind : List Variable → List Variable → List SortId → ℕ → List Tree → Result (List Variable) SyntaxFault
arguments_behind vs done [] end items = ended items >>= λ _. Ok done
arguments_behind vs done (s ∷ ss) end items = do
  a ← next_of end items
  name ← new_variable (reverse done ++ vs) a.0
  arguments_behind vs (done ++ record { name = name; sort = s } ∷ []) ss end a.1
