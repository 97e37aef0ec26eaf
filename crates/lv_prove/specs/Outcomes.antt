-- What a survey and a proof of a system's obligations answer, and why.
use Rattle.std.specs.Prelude.{◌≡◌, ℕ, ◌<◌, ◌≤◌, List, length, All}
use Rattle.lv_formula.specs.declared.symbols.SortId.{SortId}
use Rattle.lv_formula.specs.declared.vocabulary.Sentences.{Sentences}
use Rattle.lv_formula.specs.declared.vocabulary.Vocabulary.{Vocabulary}
use Rattle.lv_struct.specs.Tables.{HasVocabulary, IsSound, Tables, meaning}
use Rattle.lv_system.specs.declared.parts.Parts.{Parts}
use Rattle.lv_system.specs.Lasso.{Meets}
use Rattle.lv_labels.specs.Obligations.{AreValid, Breaks, IsValid, obligations_of, vocabulary_of}
use Rattle.lv_labels.specs.Positions.{Bounded}
use Rattle.lv_labels.specs.Problem.{problem_of}
use Rattle.lv_cnf.specs.declared.literal.Lit.{Lit}
use Rattle.lv_decide.specs.declared.deciding.Decision.{Decision}
use Rattle.lv_decide.specs.declared.deciding.Decision.TheVariants as D
use Rattle.lv_decide.specs.Decisions.{IsSpent}
use Rattle.lv_decide.specs.Fragments.{IsCycleOf, IsLarge, IsSizeOf, IsSmall, IsStratified}
use Rattle.lv_oblig.specs.Numbers.{obligation_at}
use Rattle.lv_oblig.specs.Sentences.{sentences_of}
use Rattle.lv_prove.specs.declared.fragments.Surveyed.{Surveyed}
use Rattle.lv_prove.specs.declared.fragments.Surveyed.TheVariants as S
use Rattle.lv_prove.specs.declared.outcome.Outcome.{Outcome}
use Rattle.lv_prove.specs.declared.outcome.Outcome.TheVariants as O

abbrev pub count : Parts → ℕ
count p = length (obligations_of p)

-- the vocabulary of the obligation with that number, its hypotheses and its conclusion
abbrev pub vocabulary_at : Parts → ℕ → Vocabulary
vocabulary_at p i = vocabulary_of (problem_of p) (obligation_at p i)

abbrev pub sentences_at : Parts → ℕ → Sentences
sentences_at p i = sentences_of (problem_of p) (obligation_at p i)

-- ---- which obligations are decided at all

abbrev pub IsStratifiedAt : Parts → ℕ → Type 0
IsStratifiedAt p i = IsStratified (sentences_at p i)

abbrev pub IsSizeAt : Parts → ℕ → ℕ → Type 0
IsSizeAt p i size = IsSizeOf (vocabulary_at p i) (sentences_at p i) size

abbrev pub IsSmallAt : Parts → ℕ → Type 0
IsSmallAt p i = IsSmall (vocabulary_at p i) (sentences_at p i)

abbrev pub IsLargeAt : Parts → ℕ → Type 0
IsLargeAt p i = IsLarge (vocabulary_at p i) (sentences_at p i)

abbrev pub AreStratifiedBefore : Parts → ℕ → Type 0
AreStratifiedBefore p n = (i : ℕ) → i < n → IsStratifiedAt p i

abbrev pub AreSmallBefore : Parts → ℕ → Type 0
AreSmallBefore p n = (i : ℕ) → i < n → IsSmallAt p i

-- no obligation's sort graph has a cycle, and each has a size within the limit
pub record IsInFragment (p : Parts) : Type 0 where
  pub stratified : AreStratifiedBefore p (count p)
  pub small : AreSmallBefore p (count p)

-- the size of an obligation, and no size is greater
pub record IsLargestSize (p : Parts) (largest : ℕ) : Type 0 where
  pub reached : (i : ℕ) × (i < count p) × IsSizeAt p i largest
  pub greatest : (i : ℕ) → i < count p → (size : ℕ) × IsSizeAt p i size × (size ≤ largest)

-- the obligation is the first whose sort graph has a cycle, and this is one
pub record IsFirstCycle (p : Parts) (index : ℕ) (sorts : List SortId) : Type 0 where
  pub in_range : index < count p
  pub earlier : AreStratifiedBefore p index
  pub cycle : IsCycleOf (sentences_at p index) sorts

-- none has a cycle, and the obligation is the first whose size is above the limit
pub record IsFirstTooLarge (p : Parts) (index : ℕ) : Type 0 where
  pub in_range : index < count p
  pub stratified : AreStratifiedBefore p (count p)
  pub earlier : AreSmallBefore p index
  pub large : IsLargeAt p index

-- each answer has a cause that excludes those of the others
abbrev pub IsSurveyed : Parts → Surveyed → Type 0
IsSurveyed p (S.Fits largest) = IsInFragment p × IsLargestSize p largest
IsSurveyed p (S.NotStratified index sorts) = IsFirstCycle p index sorts
IsSurveyed p (S.TooLarge index) = IsFirstTooLarge p index

-- ---- what becomes of the obligations

abbrev pub IsValidAt : Parts → ℕ → Type 0
IsValidAt p i = IsValid (problem_of p) (obligation_at p i)

abbrev pub AreValidBefore : Parts → ℕ → Type 0
AreValidBefore p n = (i : ℕ) → i < n → IsValidAt p i

-- the structure is one of the obligation's vocabulary, with at most 256 elements in each sort, and breaks it
pub record IsBreakingAt (p : Parts) (i : ℕ) (w : Tables) : Type 0 where
  pub sound : IsSound w
  pub vocabulary : HasVocabulary (vocabulary_at p i) w
  pub breaks : Breaks (problem_of p) (obligation_at p i) (meaning w)
  pub few : All (λ n. n ≤ 256) w.sizes

-- the log is one of the obligation's ground clauses that fills the budget
abbrev pub IsSpentAt : Parts → ℕ → ℕ → List (List Lit) → Type 0
IsSpentAt p i budget log = IsSpent (vocabulary_at p i) (sentences_at p i) budget log

abbrev pub IsDecisionAt : Parts → ℕ → ℕ → Decision → Type 0
IsDecisionAt p i budget D.Valid = IsValidAt p i
IsDecisionAt p i budget (D.Breaks w) = IsBreakingAt p i w
IsDecisionAt p i budget (D.Spent log) = IsSpentAt p i budget log

-- the obligation is the first that isn't valid, and the structure breaks it
pub record IsFirstBroken (p : Parts) (index : ℕ) (w : Tables) : Type 0 where
  pub in_range : index < count p
  pub earlier : AreValidBefore p index
  pub breaking : IsBreakingAt p index w

-- the obligations before it are valid, and at this one the budget was spent
pub record IsFirstSpent (p : Parts) (budget index : ℕ) (log : List (List Lit)) : Type 0 where
  pub in_range : index < count p
  pub earlier : AreValidBefore p index
  pub spent : IsSpentAt p index budget log

-- the survey's refusals come first: `IsInFragment` excludes them
abbrev pub IsOutcome : Parts → ℕ → Outcome → Type 0
IsOutcome p budget (O.Proved obligations) = IsInFragment p × AreValid p × (obligations ≡ count p)
IsOutcome p budget (O.Counter index w) = IsInFragment p × IsFirstBroken p index w
IsOutcome p budget (O.NotStratified index sorts) = IsFirstCycle p index sorts
IsOutcome p budget (O.TooLarge index) = IsFirstTooLarge p index
IsOutcome p budget (O.Spent index log) = IsInFragment p × IsFirstSpent p budget index log

-- Where all are valid, the property holds on each fair lasso run, of structures of any sizes; and no labelled run of the
-- negated property has, after a first round, more rounds than the elements touched at its end have valuations.
abbrev pub HoldsIfProved : Parts → Outcome → Type 0
HoldsIfProved p (O.Proved obligations) = Meets p × Bounded p
HoldsIfProved p (O.Counter index w) = Unit {0}
HoldsIfProved p (O.NotStratified index sorts) = Unit {0}
HoldsIfProved p (O.TooLarge index) = Unit {0}
HoldsIfProved p (O.Spent index log) = Unit {0}
