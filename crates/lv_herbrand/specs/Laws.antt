-- Sentences and their ground clauses: Herbrand's theorem, with equality.
use Rattle.std.specs.Prelude.{◌≡◌, ◌↔◌, ℕ, true, List, length}
use Rattle.lv_formula.specs.declared.symbols.SortId.{SortId}
use Rattle.lv_formula.specs.declared.vocabulary.Sentences.{Sentences}
use Rattle.lv_formula.specs.declared.vocabulary.Vocabulary.{Vocabulary}
use Rattle.lv_formula.specs.Vocabulary.{IsSound}
use Rattle.lv_formula.specs.Meaning.{Meaning, IsStructureOf}
use Rattle.lv_formula.specs.Pairs.{SentencesFit, breaks}
use Rattle.lv_cnf.specs.Literals.{IsSatisfiable}
use Rattle.lv_cnf.specs.Nodes.{plains, clauses_of}
use Rattle.lv_places.specs.declared.skolem.Skolem.{Skolem}
use Rattle.lv_places.specs.declared.terms.GroundTerm.{GroundTerm}
use Rattle.lv_places.specs.declared.grounded.Grounded.{Grounded}
use Rattle.lv_places.specs.Universes.{IsUniverse}
use Rattle.lv_places.specs.SortGraphs.{IsRank}
use Rattle.lv_places.specs.Grounds.{IsGrounded}
use Rattle.lv_skolem.specs.Skolems.{IsSkolem}

-- some structure of the vocabulary breaks the pair
abbrev pub IsBroken : Vocabulary → Sentences → Type 0
IsBroken voc s = (m : Meaning) × IsStructureOf voc m × (breaks m s ≡ true)

abbrev pub GroundClausesAreExact : Type 0
GroundClausesAreExact =
    (voc : Vocabulary) (s : Sentences) (sk : Skolem) (u : List (List GroundTerm)) (g : Grounded) (rank : SortId → ℕ)
    → IsSound voc → SentencesFit voc s → IsSkolem voc s sk → IsRank sk.places rank → IsUniverse sk u → IsGrounded sk u g
    → IsSatisfiable (clauses_of (length g.atoms) (plains g.roots) g.equalities) ↔ IsBroken voc s
