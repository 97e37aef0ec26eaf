-- The limits on labels, found once a formula is read, and where its labels stand.
use Rattle.std.specs.Prelude.{ℕ, zero, suc, Bool, false, not, ◌||◌, ltb, eqb, List, [], ◌∷◌, ◌++◌, length, map, drop, codes, Option, Some, None, Result, Ok, if◌then◌else◌}
use Rattle.lv_tree.specs.declared.tree.Tree.{Tree}
use Rattle.lv_tree.specs.declared.tree.Tree.TheOpen.{Tree-F, Word, Group}
use Rattle.lv_tree.specs.declared.tree.Tree.TheFolds.{fold-Tree}
use Rattle.lv_formula.specs.declared.temporal.Temporal.{Temporal}
use Rattle.lv_system.specs.Names.{same_text}
use Rattle.lv_labels.specs.declared.key.Key.{Key}
use Rattle.lv_labels.specs.Labels.{key_eq, keys_of}
use Rattle.lv_labels.specs.Once.{once_behind}
use Rattle.lv_grammar.specs.Words.{Variable}
use Rattle.lv_grammar.specs.declared.reading.Role.{Role}
use Rattle.lv_fault.specs.declared.fault.Kind.TheVariants.{TooMany, FreeName}
use Rattle.lv_fault.specs.declared.fault.SyntaxFault.{SyntaxFault}
use Rattle.lv_grammar.specs.Known.{Known}
use Rattle.lv_grammar.specs.Rules.{sorts_of}
use Rattle.lv_grammar.specs.ReadFormulas.{temporal_in}
use Rattle.lv_fault.specs.Given.{◌>>=◌, fail, fail_if}

-- a tree's word, if it is one, and the places of the lists in it that begin with a temporal operator, an outer one before
-- those inside it
pub record Marked : Type 0 where
  pub word : Option (List ℕ)
  pub places : List ℕ

abbrev pub is_operator : List ℕ → Bool
is_operator text = same_text text (codes "always") || same_text text (codes "eventually")

abbrev pub place_by : ℕ → Option (List ℕ) → List ℕ
place_by at None = []
place_by at (Some text) = if is_operator text then at ∷ [] else []

abbrev pub is_operator_word : Option (List ℕ) → Bool
is_operator_word None = false
is_operator_word (Some text) = is_operator text

abbrev pub begins_operator : List Marked → Bool
begins_operator [] = false
begins_operator (m ∷ ms) = is_operator_word m.word

abbrev pub own_place : ℕ → List Marked → List ℕ
own_place at ms = if begins_operator ms then at ∷ [] else []

abbrev pub places_each : List Marked → List ℕ
places_each [] = []
places_each (m ∷ ms) = m.places ++ places_each ms

abbrev pub marked_step : Tree-F Marked → Marked
marked_step (Word at text) = record { word = Some text; places = [] }
marked_step (Group at end items) = record { word = None; places = own_place at items ++ places_each items }

abbrev pub marked : Tree → Marked
marked = fold-Tree Marked marked_step

-- the places of the lists of a formula that make its labels, in the order of its labels
abbrev pub operator_places : Tree → List ℕ
operator_places t = (marked t).places

abbrev pub operator_places_all : List Tree → List ℕ
operator_places_all ts = places_each (map marked ts)

-- The labels that are known, and behind them those of a formula, each once. A label with five free variables is one too many,
-- and so is the 33rd; the fault is at the list whose label it is. Where places run out, which they never do, it is at 0.
abbrev pub first_of : List ℕ → ℕ
first_of [] = 0
first_of (n ∷ ns) = n

unfoldable pub add_labels : List Key → List ℕ → List Key → Result (List Key) SyntaxFault
add_labels known places [] = Ok known
add_labels known places (key ∷ keys) = do
  _ ← fail_if (ltb 4 (length key.sorts) || ltb 32 (length (once_behind key_eq known (key ∷ [])))) TooMany (first_of places)
  add_labels (once_behind key_eq known (key ∷ [])) (drop 1 places) keys

-- a temporal formula, within the limits on labels
unfoldable pub path_in : Known → Role → List Variable → Tree → Result Temporal SyntaxFault
path_in k role vs t = do
  f ← temporal_in k role 58 vs t
  _ ← add_labels k.keys (operator_places t) (keys_of f (sorts_of vs))
  Ok f

-- the listed variables by place and number, the first that isn't the next free one
unfoldable pub free_name : List ℕ → ℕ → List ℕ → Result (Unit {0}) SyntaxFault
free_name [] number free = Ok tt
free_name (at ∷ places) number [] = fail FreeName at
free_name (at ∷ places) zero (v ∷ free) = fail FreeName at
free_name (at ∷ places) (suc number) (v ∷ free) = do
  _ ← fail_if (not (eqb v number)) FreeName at
  free_name places number free
