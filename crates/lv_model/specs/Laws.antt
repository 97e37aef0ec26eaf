-- From assignments to structures.
use Rattle.std.specs.Prelude.{◌≡◌, ◌<◌, ◌≤◌, ℕ, Bool, true, List, length}
use Rattle.lv_formula.specs.declared.symbols.SortId.{SortId}
use Rattle.lv_formula.specs.declared.vocabulary.Sentences.{Sentences}
use Rattle.lv_formula.specs.declared.vocabulary.Vocabulary.{Vocabulary}
use Rattle.lv_formula.specs.Vocabulary.{IsSound}
use Rattle.lv_formula.specs.Meaning.{Meaning, IsStructureOf}
use Rattle.lv_cnf.specs.Literals.{Satisfies}
use Rattle.lv_cnf.specs.Nodes.{plains, clauses_of}
use Rattle.lv_places.specs.declared.skolem.Skolem.{Skolem}
use Rattle.lv_places.specs.declared.terms.GroundTerm.{GroundTerm}
use Rattle.lv_places.specs.declared.grounded.Grounded.{Grounded}
use Rattle.lv_formula.specs.Pairs.{SentencesFit, breaks}
use Rattle.lv_skolem.specs.Skolems.{IsSkolem}
use Rattle.lv_places.specs.Universes.{IsUniverse, counts}
use Rattle.lv_places.specs.Grounds.{IsGrounded, atom_truth}
use Rattle.lv_model.specs.Classes.{class_structure}

-- no sort has more elements than that
abbrev pub HasAtMost : Meaning → ℕ → (SortId → ℕ) → Type 0
HasAtMost m sorts n = (s : SortId) → s.0 < sorts → m.size s ≤ n s

-- the structure of classes of an assignment breaks the pair, and each sort has at most one element for each of its terms
abbrev pub AssignmentsGiveStructures : Type 0
AssignmentsGiveStructures =
    (voc : Vocabulary) (s : Sentences) (sk : Skolem) (u : List (List GroundTerm)) (g : Grounded)
    → IsSound voc → SentencesFit voc s → IsSkolem voc s sk → IsUniverse sk u → IsGrounded sk u g
    → (a : ℕ → Bool) → Satisfies a (clauses_of (length g.atoms) (plains g.roots) g.equalities)
    → IsStructureOf voc (class_structure sk (counts u) (atom_truth g.atoms a))
    × (breaks (class_structure sk (counts u) (atom_truth g.atoms a)) s ≡ true)
    × HasAtMost (class_structure sk (counts u) (atom_truth g.atoms a)) sk.sorts (counts u)
