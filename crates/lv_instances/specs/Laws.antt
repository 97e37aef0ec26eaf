-- From structures to assignments.
use Rattle.std.specs.Prelude.{◌≡◌, ◌≤◌, ◌+◌, ◌*◌, ℕ, true, List, length}
use Rattle.lv_formula.specs.declared.symbols.SortId.{SortId}
use Rattle.lv_formula.specs.declared.vocabulary.Sentences.{Sentences}
use Rattle.lv_formula.specs.declared.vocabulary.Vocabulary.{Vocabulary}
use Rattle.lv_formula.specs.Vocabulary.{IsSound}
use Rattle.lv_formula.specs.Meaning.{Meaning, IsStructureOf}
use Rattle.lv_cnf.specs.Literals.{IsSatisfiable}
use Rattle.lv_cnf.specs.Nodes.{plains, inners, clauses_of}
use Rattle.lv_places.specs.declared.skolem.Skolem.{Skolem}
use Rattle.lv_places.specs.declared.terms.GroundTerm.{GroundTerm}
use Rattle.lv_places.specs.declared.grounded.Grounded.{Grounded}
use Rattle.lv_formula.specs.Pairs.{SentencesFit, breaks}
use Rattle.lv_places.specs.SortGraphs.{IsRank}
use Rattle.lv_skolem.specs.Skolems.{IsSkolem}
use Rattle.lv_places.specs.Universes.{IsUniverse, counts}
use Rattle.lv_places.specs.Sizes.{size_of}
use Rattle.lv_places.specs.Grounds.{IsGrounded}

-- from a structure that breaks the pair to an assignment that satisfies its ground clauses
abbrev pub StructuresGiveAssignments : Type 0
StructuresGiveAssignments =
    (voc : Vocabulary) (s : Sentences) (sk : Skolem) (u : List (List GroundTerm)) (g : Grounded) (rank : SortId → ℕ)
    → IsSound voc → SentencesFit voc s → IsSkolem voc s sk → IsRank sk.places rank → IsUniverse sk u → IsGrounded sk u g
    → (m : Meaning) → IsStructureOf voc m → breaks m s ≡ true
    → IsSatisfiable (clauses_of (length g.atoms) (plains g.roots) g.equalities)

-- the atoms and the inner nodes of the roots are together at most three times the size
abbrev pub GroundFormsAreSmall : Type 0
GroundFormsAreSmall =
    (sk : Skolem) (u : List (List GroundTerm)) (g : Grounded) → IsGrounded sk u g
    → length g.atoms + inners (plains g.roots) ≤ 3 * size_of sk (counts u)
