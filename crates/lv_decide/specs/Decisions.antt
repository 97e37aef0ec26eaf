-- What a decision says of hypotheses and a conclusion.
use Rattle.std.specs.Prelude.{◌≡◌, ℕ, ◌+◌, ◌<◌, ◌≤◌, ◌^◌, true, List, length, All}
use Rattle.lv_formula.specs.declared.vocabulary.Sentences.{Sentences}
use Rattle.lv_formula.specs.declared.vocabulary.Vocabulary.{Vocabulary}
use Rattle.lv_formula.specs.Meaning.{IsStructureOf, Meaning}
use Rattle.lv_formula.specs.Pairs.{breaks}
use Rattle.lv_struct.specs.Tables.{HasVocabulary, IsSound, Tables, meaning}
use Rattle.lv_cnf.specs.declared.clause.Clauses.{Clauses}
use Rattle.lv_cnf.specs.declared.literal.Lit.{Lit}
use Rattle.lv_cnf.specs.Logs.{IsSpentLog}
use Rattle.lv_cnf.specs.Nodes.{clauses_of, inners, plains}
use Rattle.lv_places.specs.declared.grounded.Grounded.{Grounded}
use Rattle.lv_places.specs.declared.terms.GroundTerm.{GroundTerm}
use Rattle.lv_places.specs.Grounds.{IsGrounded}
use Rattle.lv_places.specs.Universes.{IsUniverse}
use Rattle.lv_decide.specs.declared.deciding.Decision.{Decision}
use Rattle.lv_decide.specs.declared.deciding.Decision.TheVariants as D
use Rattle.lv_decide.specs.Fragments.{skolem_form}

-- no structure of the vocabulary, of any sizes, makes each hypothesis true and the conclusion false
abbrev pub IsUnbroken : Vocabulary → Sentences → Type 0
IsUnbroken voc s = (m : Meaning) → IsStructureOf voc m → breaks m s ≡ true → ⊥

-- a structure as data of the vocabulary that does, with at most 256 elements in each sort
pub record IsBreaking (voc : Vocabulary) (s : Sentences) (w : Tables) : Type 0 where
  pub sound : IsSound w
  pub vocabulary : HasVocabulary voc w
  pub broken : breaks (meaning w) s ≡ true
  pub few : All (λ n. n ≤ 256) w.sizes

-- the clauses of the ground forms, and the equality clauses
pub record AreGroundClauses (voc : Vocabulary) (s : Sentences) (c : Clauses) : Type 0 where
  pub terms : List (List GroundTerm)
  pub universe : IsUniverse (skolem_form voc s) terms
  pub forms : Grounded
  pub grounded : IsGrounded (skolem_form voc s) terms forms
  pub vars : c.vars ≡ length forms.atoms + inners (plains forms.roots)
  pub list : c.list ≡ clauses_of (length forms.atoms) (plains forms.roots) forms.equalities

-- the log of a search that learned as many clauses as it may, which are fewer than 3 to the power of the number of variables
pub record IsSpent (voc : Vocabulary) (s : Sentences) (budget : ℕ) (log : List (List Lit)) : Type 0 where
  pub clauses : Clauses
  pub made : AreGroundClauses voc s clauses
  pub learned : IsSpentLog clauses.vars clauses.list budget log
  pub few : budget < 3 ^ clauses.vars

abbrev pub IsDecision : Vocabulary → Sentences → ℕ → Decision → Type 0
IsDecision voc s budget D.Valid = IsUnbroken voc s
IsDecision voc s budget (D.Breaks w) = IsBreaking voc s w
IsDecision voc s budget (D.Spent log) = IsSpent voc s budget log
