-- What is answered where a chain is made.
use Rattle.std.specs.Prelude.{◌≡◌, ℕ, List, []}
use Rattle.lv_system.specs.declared.parts.Parts.{Parts}
use Rattle.lv_chain.specs.Chain.{chain_of}
use Rattle.lv_prove.specs.declared.fragments.Surveyed.{Surveyed}
use Rattle.lv_prove.specs.declared.fragments.Surveyed.TheVariants as S
use Rattle.lv_prove.specs.declared.outcome.Outcome.{Outcome}
use Rattle.lv_prove.specs.Outcomes.{IsOutcome, IsSurveyed, count}
use Rattle.lv_report.specs.Texts.{first_word, made_text}
use Rattle.lv_run.specs.declared.detail.Detail.{Detail}
use Rattle.lv_run.specs.declared.detail.Detail.TheVariants as D
use Rattle.lv_run.specs.Answers.{detail_of, system_report}

-- the largest size that a survey tells, and 0 where it tells none
abbrev pub largest_told : Surveyed → ℕ
largest_told (S.Fits largest) = largest
largest_told (S.NotStratified index sorts) = 0
largest_told (S.TooLarge index) = 0

-- the number is what a survey of the system tells
pub record IsToldLargest (p : Parts) (largest : ℕ) : Type 0 where
  pub surveyed : Surveyed
  pub is_surveyed : IsSurveyed p surveyed
  pub is : largest ≡ largest_told surveyed

-- the number of the system's obligations, the largest size of one, and what becomes of them with the usual budget
pub record AreFigures (p : Parts) (obligations largest : ℕ) (answer : Outcome) : Type 0 where
  pub counted : obligations ≡ count p
  pub measured : IsToldLargest p largest
  pub decided : IsOutcome p 100000 answer

-- the answer tells these of the system
abbrev pub TellsFigures : Parts → Detail → Type 0
TellsFigures p (D.Made obligations largest answer) = AreFigures p obligations largest answer
TellsFigures p _ = ⊥

-- what is answered to a chain, streams that fail and want of memory aside
abbrev pub IsChainAnswer : ℕ → Detail → Type 0
IsChainAnswer places answer = TellsFigures (chain_of places) answer

-- the first word of what would be reported of a text that spells the system
abbrev pub answer_word : Parts → Outcome → List ℕ
answer_word p answer = first_word (system_report p (detail_of answer))

-- what is written on standard output
abbrev pub made_report : Parts → Detail → List ℕ
made_report p (D.Made obligations largest answer) = made_text p obligations largest (answer_word p answer)
made_report p _ = []

-- the answer to a system that was made, and its report
abbrev pub IsMadeAnswered : Parts → Detail → List ℕ → Type 0
IsMadeAnswered p answer out = TellsFigures p answer × (out ≡ made_report p answer)

-- the answer to a chain, and its report
abbrev pub IsChainAnswered : ℕ → Detail → List ℕ → Type 0
IsChainAnswered places answer out = IsMadeAnswered (chain_of places) answer out
