-- What the words of a call ask for, by `clap`'s own meaning of a command and its words.
use Rattle.std.specs.Prelude.{◌≡◌, ◌↔◌, ◌⊎◌, ◌≤◌, ℕ, true, false, List, [], ◌∷◌, ◌++◌, Option, Some, None, pos, if◌then◌else◌, codes, option_and_then, option_map}
use Rattle.std.specs.Option.{option_map_or}
use Rattle.std.specs.Str.{bytes_eq}
use Rattle.std.specs.Str.Parse.{IsNumeral, digits_value, without_leading_plus}
use Rattle.clap.specs.Words.{App, Row, Rule, Text, new_app, new_rule, one_of, subcommand_of, takes, with_rule, with_subcommand}
use Rattle.clap.specs.Simple.{new_shape, on_top}
use Rattle.clap.specs.declared.builder.value_parser.ValueParser.TheVariants as parsers
use Rattle.lv_command.specs.declared.mode.Mode.{Mode}
use Rattle.lv_command.specs.declared.mode.Mode.TheVariants.{Make, OnText}
use Rattle.lv_command.specs.declared.mode.TextMode.{TextMode}
use Rattle.lv_command.specs.declared.mode.TextMode.TheVariants.{Check, Prove, Replay, Show}

-- ---- the command

-- the option `--budget` with a number from 1 to 1,000,000
abbrev pub budget_rule : Rule
budget_rule = record (new_rule (codes "budget")) {
  long = Some (codes "budget");
  parser = Some (parsers.Signed (pos 1) (pos 1000000));
}

abbrev pub prove_command : App
prove_command = with_rule (new_app (codes "prove")) budget_rule

-- a number from 2 to 16, which has to be given and stands by itself
abbrev pub places_rule : Rule
places_rule = record (new_rule (codes "places")) {
  required = true;
  parser = Some (parsers.Signed (pos 2) (pos 16));
}

abbrev pub make_command : App
make_command = with_rule (new_app (codes "make")) places_rule

-- the command with the subcommands on systems alone; it has no flags, and wants one of its subcommands
abbrev pub command_on_systems : App
command_on_systems =
    let leadsto = on_top (λ shape. record shape {
      no_binary_name = true;
      subcommand_required = true;
      disable_help_flag = true;
      disable_help_subcommand = true;
      disable_version_flag = true;
    }) (new_app (codes "leadsto")) in
    with_subcommand (with_subcommand leadsto prove_command.top) (new_shape (codes "show"))

-- the command with those on a structure and on a lasso
abbrev pub command_on_texts : App
command_on_texts = with_subcommand (with_subcommand command_on_systems (new_shape (codes "check"))) (new_shape (codes "replay"))

-- the command with the one that reads no text
abbrev pub the_command : App
the_command = with_subcommand command_on_texts make_command.top

-- ---- the mode

-- the number that decimal digits write, behind a `+` or without one
abbrev pub number_of : List ℕ → ℕ
number_of text = digits_value 10 (without_leading_plus text)

-- such a number within these bounds
pub record IsNumberIn (low high : ℕ) (text : List ℕ) : Type 0 where
  pub digits : IsNumeral 10 (without_leading_plus text)
  pub least : low ≤ number_of text
  pub most : number_of text ≤ high

abbrev pub IsBudget : List ℕ → Type 0
IsBudget = IsNumberIn 1 1000000

abbrev pub IsChainSize : List ℕ → Type 0
IsChainSize = IsNumberIn 2 16

-- the budget among what was read behind `prove`, and 100,000 where none was
abbrev pub budget_of : List Row → ℕ
budget_of rows = option_map_or number_of (one_of (codes "budget") rows) 100000

-- the number of places among what was read behind `make`
abbrev pub places_of : List Row → Option ℕ
places_of rows = option_map number_of (one_of (codes "places") rows)

-- the mode of the subcommand with this name and what was read behind it
abbrev pub mode_named : Text × List Row → Option Mode
mode_named met =
    if bytes_eq met.0 (codes "prove") then Some (OnText (Prove (budget_of met.1)))
    else if bytes_eq met.0 (codes "show") then Some (OnText Show)
    else if bytes_eq met.0 (codes "check") then Some (OnText Check)
    else if bytes_eq met.0 (codes "replay") then Some (OnText Replay)
    else if bytes_eq met.0 (codes "make") then option_map Make (places_of met.1)
    else None

-- the mode of the subcommand that the words name, where the command takes the words
unfoldable pub mode_of : List (List ℕ) → Option Mode
mode_of words = if takes the_command words then option_and_then mode_named (subcommand_of the_command words) else None

-- the number of a mode is one that the command takes
abbrev pub HasBudgetInRange : TextMode → Type 0
HasBudgetInRange (Prove budget) = (1 ≤ budget) × (budget ≤ 1000000)
HasBudgetInRange Show = Unit {0}
HasBudgetInRange Check = Unit {0}
HasBudgetInRange Replay = Unit {0}

abbrev pub IsInRange : Mode → Type 0
IsInRange (OnText mode) = HasBudgetInRange mode
IsInRange (Make places) = (2 ≤ places) × (places ≤ 16)

-- a number that was read is one that the command takes
abbrev pub HasReadBudget : List Row → Type 0
HasReadBudget rows = (text : List ℕ) → one_of (codes "budget") rows ≡ Some text → IsBudget text

abbrev pub HasReadPlaces : List Row → Type 0
HasReadPlaces rows = (text : List ℕ) → one_of (codes "places") rows ≡ Some text → IsChainSize text

abbrev pub HasReadNumbers : List Row → Type 0
HasReadNumbers rows = HasReadBudget rows × HasReadPlaces rows

-- ---- the laws

-- the names of the subcommands ask for their modes, and no words ask for none
abbrev pub NamesEachMode : Type 0
NamesEachMode = (mode_of (codes "prove" ∷ []) ≡ Some (OnText (Prove 100000)))
    × (mode_of (codes "prove" ∷ codes "--budget" ∷ codes "7" ∷ []) ≡ Some (OnText (Prove 7)))
    × (mode_of (codes "prove" ∷ codes "--budget=7" ∷ []) ≡ Some (OnText (Prove 7)))
    × (mode_of (codes "show" ∷ []) ≡ Some (OnText Show))
    × (mode_of (codes "check" ∷ []) ≡ Some (OnText Check))
    × (mode_of (codes "replay" ∷ []) ≡ Some (OnText Replay))
    × (mode_of (codes "make" ∷ codes "2" ∷ []) ≡ Some (Make 2))
    × (mode_of (codes "make" ∷ codes "16" ∷ []) ≡ Some (Make 16))
    × (mode_of [] ≡ None)
    × (mode_of (codes "prove" ∷ codes "--budget=0" ∷ []) ≡ None)
    × (mode_of (codes "prove" ∷ codes "--budget=1000001" ∷ []) ≡ None)
    × (mode_of (codes "make" ∷ []) ≡ None)
    × (mode_of (codes "make" ∷ codes "1" ∷ []) ≡ None)
    × (mode_of (codes "make" ∷ codes "17" ∷ []) ≡ None)

-- these words, with at most `--` behind them
abbrev pub EndIn : List (List ℕ) → List (List ℕ) → Type 0
EndIn front words = (words ≡ front) ⊎ (words ≡ front ++ codes "--" ∷ [])

-- `prove` with this budget behind it, in one of the two spellings
pub record GiveBudget (budget : ℕ) (words : List (List ℕ)) : Type 0 where
  pub text : List ℕ
  pub is_budget : IsBudget text
  pub is : budget ≡ number_of text
  pub spelled : EndIn (codes "prove" ∷ codes "--budget" ∷ text ∷ []) words ⊎ EndIn (codes "prove" ∷ (codes "--budget=" ++ text) ∷ []) words

-- a proof is asked for by `prove` alone, with the usual budget, or with a budget behind it
abbrev pub AsksToProve : Type 0
AsksToProve = (words : List (List ℕ)) (budget : ℕ)
    → (mode_of words ≡ Some (OnText (Prove budget))) ↔ (((budget ≡ 100000) × EndIn (codes "prove" ∷ []) words) ⊎ GiveBudget budget words)

-- `make` with this number behind it, and `--` before or behind the number, or none
pub record GivePlaces (places : ℕ) (words : List (List ℕ)) : Type 0 where
  pub text : List ℕ
  pub is_size : IsChainSize text
  pub is : places ≡ number_of text
  pub spelled : EndIn (codes "make" ∷ text ∷ []) words ⊎ (words ≡ codes "make" ∷ codes "--" ∷ text ∷ [])

-- the chain of some places is asked for by `make` with their number behind it
abbrev pub AsksToMake : Type 0
AsksToMake = (words : List (List ℕ)) (places : ℕ) → (mode_of words ≡ Some (Make places)) ↔ GivePlaces places words

-- the mode is asked for by this word alone
abbrev pub AsksBy : Mode → List ℕ → Type 0
AsksBy mode name = (words : List (List ℕ)) → (mode_of words ≡ Some mode) ↔ EndIn (name ∷ []) words

-- the layout, a check and a replay are asked for by their names alone
abbrev pub AsksByName : Type 0
AsksByName = AsksBy (OnText Show) (codes "show") × AsksBy (OnText Check) (codes "check") × AsksBy (OnText Replay) (codes "replay")

-- no mode is asked for exactly where the command doesn't take the words
abbrev pub AsksWhereTaken : Type 0
AsksWhereTaken = (words : List (List ℕ)) → (mode_of words ≡ None) ↔ (takes the_command words ≡ false)
