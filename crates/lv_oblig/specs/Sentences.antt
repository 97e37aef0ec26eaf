-- Each obligation as hypotheses and a conclusion.
use Rattle.std.specs.Prelude.{◌≡◌, ◌↔◌, ℕ, true, List, [], ◌∷◌, ◌++◌}
use Rattle.lv_formula.specs.declared.symbols.Sym.TheVariants.{Saved}
use Rattle.lv_formula.specs.declared.formula.Formula.{Formula}
use Rattle.lv_formula.specs.declared.formula.Formula.TheVariants.{False}
use Rattle.lv_formula.specs.declared.vocabulary.Sentences.{Sentences}
use Rattle.lv_rewrite.specs.Replace.{replace_of}
use Rattle.lv_formula.specs.Pairs.{breaks}
use Rattle.lv_struct.specs.Tables.{HasVocabulary, IsSound, Tables, meaning}
use Rattle.lv_system.specs.declared.parts.Action.{Action}
use Rattle.lv_system.specs.Step.{action_at}
use Rattle.lv_labels.specs.Problem.{Problem}
use Rattle.lv_tableau.specs.Sentences.{equations_of, start_sentences_of}
use Rattle.lv_prophecy.specs.Witnesses.{choice_sentences}
use Rattle.lv_labels.specs.declared.moves.Move.{Move}
use Rattle.lv_monitor.specs.Conditions.{all_none_due, compare_of, mark_set, move_condition_of}
use Rattle.lv_monitor.specs.Updates.{start_updates_of, step_updates_of, with_params}
use Rattle.lv_labels.specs.declared.which.Which.{Which}
use Rattle.lv_labels.specs.declared.which.Which.TheVariants.{Start, Step, Catch}
use Rattle.lv_labels.specs.Obligations.{Breaks, invariant_at, invariants_of, vocabulary_of}

abbrev pub guard_of : Action → Formula
guard_of a = with_params a [] a.guard

-- axioms and invariants, the guard with the words of the parameters, when the move is allowed, and the labels' equations
abbrev pub step_hypotheses : Problem → Action → Move → List Formula
step_hypotheses q a mv = q.parts.axioms ++ (invariants_of q.parts ++ (guard_of a ∷ (move_condition_of q.justice mv ++ equations_of q.labels)))

abbrev pub hypotheses_of : Problem → Which → List Formula
hypotheses_of q (Start invariant) = start_sentences_of q ++ choice_sentences q.choices
hypotheses_of q (Step action mv invariant) = step_hypotheses q (action_at q.parts action) mv
hypotheses_of q Catch = q.parts.axioms ++ (invariants_of q.parts ++ (mark_set Saved ∷ (all_none_due q.justice ++ compare_of q)))

abbrev pub conclusion_of : Problem → Which → Formula
conclusion_of q (Start invariant) = replace_of (start_updates_of q) (invariant_at q.parts invariant)
conclusion_of q (Step action mv invariant) = replace_of (step_updates_of q (action_at q.parts action) mv) (invariant_at q.parts invariant)
conclusion_of q Catch = False

abbrev pub sentences_of : Problem → Which → Sentences
sentences_of q which = record { hypotheses = hypotheses_of q which; conclusion = conclusion_of q which }

-- the sentences of a step of the action
abbrev pub step_sentences : Problem → Action → Move → ℕ → Sentences
step_sentences q a mv invariant = record { hypotheses = step_hypotheses q a mv; conclusion = replace_of (step_updates_of q a mv) (invariant_at q.parts invariant) }

-- a structure as data of the obligation's vocabulary breaks the sentences exactly where it breaks the obligation
abbrev pub AreTrueTo : Problem → Which → Sentences → Type 0
AreTrueTo q which s = (w : Tables) → IsSound w → HasVocabulary (vocabulary_of q which) w → (breaks (meaning w) s ≡ true) ↔ Breaks q which (meaning w)
