-- What the laws on answers of a check say.
use Rattle.std.specs.Prelude.{◌≡◌, ℕ, ◌<◌, true, length}
use Rattle.lv_formula.specs.declared.vocabulary.Vocabulary.{Vocabulary}
use Rattle.lv_formula.specs.Meaning.{AgreeOn}
use Rattle.lv_struct.specs.Tables.{HasVocabulary, IsSound, Tables, meaning}
use Rattle.lv_system.specs.declared.parts.Parts.{Parts}
use Rattle.lv_system.specs.Fits.{fits_parts}
use Rattle.lv_labels.specs.Obligations.{InvariantsFit, obligations_of, vocabulary_of}
use Rattle.lv_labels.specs.Problem.{problem_of}
use Rattle.lv_oblig.specs.Numbers.{obligation_at}
use Rattle.lv_check.specs.declared.checking.Checked.{Checked}
use Rattle.lv_check.specs.Answers.{IsChecked}

abbrev pub vocabulary_at : Parts → ℕ → Vocabulary
vocabulary_at p i = vocabulary_of (problem_of p) (obligation_at p i)

-- what can be checked of a system whose invariants stand over the words of the monitored structure: a structure of the
-- vocabulary of the obligation with that number
pub record CanBeChecked (p : Parts) (i : ℕ) (w : Tables) : Type 0 where
  pub fits : fits_parts p ≡ true
  pub invariants : InvariantsFit p
  pub number : i < length (obligations_of p)
  pub sound : IsSound w
  pub vocabulary : HasVocabulary (vocabulary_at p i) w

-- a structure has one answer alone
abbrev pub HasOneAnswer : Type 0
HasOneAnswer = (p : Parts) (i : ℕ) (w : Tables) → CanBeChecked p i w
    → (one other : Checked) → IsChecked p i (meaning w) one → IsChecked p i (meaning w) other → one ≡ other

-- structures that agree on the obligation's vocabulary have the same answers
abbrev pub AlikeHaveTheSame : Type 0
AlikeHaveTheSame = (p : Parts) (i : ℕ) (w v : Tables) → CanBeChecked p i w → CanBeChecked p i v
    → AgreeOn (vocabulary_at p i) (meaning w) (meaning v)
    → (answer : Checked) → IsChecked p i (meaning w) answer → IsChecked p i (meaning v) answer
