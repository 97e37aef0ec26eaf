-- The vocabularies of a system extend one another.
use Rattle.std.proofs.Common.{length, take, refl, ◌∙◌}
use Rattle.lv_formula.specs.declared.symbols.Sym.TheVariants.{Label}
use Rattle.lv_formula.specs.declared.vocabulary.Vocabulary.{Vocabulary}
use Rattle.lv_system.specs.declared.parts.Action.{Action}
use Rattle.lv_system.specs.Vocabularies.{fixed_vocabulary, own_vocabulary, witnesses_from}
use Rattle.lv_labels.specs.Problem.{Problem, shapes_from, state_vocabulary}
use Rattle.lv_temporal.proofs.Fits.{Extends}
use Rattle.lv_temporal.proofs.FitsMore.{fixed_extends}
use Rattle.lv_labels.specs.Vocabularies.{catch_vocabulary, step_vocabulary}
use Rattle.lv_temporal.proofs.Found.{catch-constant_step, catch-step, state-catch, state-constant_catch}
use Rattle.lv_temporal.proofs.Words.{constant-stop, relation-stop}

pub extends_self : (voc : Vocabulary) → Extends voc voc
extends_self voc = record { sorts = refl; relations = λ r ss h. h; constants = λ c s h. h }

pub extends_both : (a b c : Vocabulary) → Extends a b → Extends b c → Extends a c
extends_both a b c h k = record { sorts = h.sorts ∙ k.sorts; relations = λ r ss e. k.relations r ss (h.relations r ss e); constants = λ x s e. k.constants x s (h.constants x s e) }

pub catch_extends_state : (q : Problem) → Extends (state_vocabulary q) (catch_vocabulary q)
catch_extends_state q = record { sorts = refl; relations = state-catch q; constants = state-constant_catch q }

pub step_extends_catch : (q : Problem) (a : Action) → Extends (catch_vocabulary q) (step_vocabulary q a)
step_extends_catch q a = record { sorts = refl; relations = catch-step q a; constants = catch-constant_step q a }

pub step_extends_state : (q : Problem) (a : Action) → Extends (state_vocabulary q) (step_vocabulary q a)
step_extends_state q a = extends_both (state_vocabulary q) (catch_vocabulary q) (step_vocabulary q a) (catch_extends_state q) (step_extends_catch q a)

pub state_extends_own : (q : Problem) → Extends (own_vocabulary q.parts) (state_vocabulary q)
state_extends_own q = record {
  sorts = refl;
  relations = λ r ss h. relation-stop (own_vocabulary q.parts).relations (shapes_from Label 0 q.labels) r ss h;
  constants = λ c s h. constant-stop (own_vocabulary q.parts).constants (witnesses_from 0 (take (length q.parts.witnesses) q.parts.witnesses)) c s h;
}

pub state_extends_fixed : (q : Problem) → Extends (fixed_vocabulary q.parts) (state_vocabulary q)
state_extends_fixed q = extends_both (fixed_vocabulary q.parts) (own_vocabulary q.parts) (state_vocabulary q) (fixed_extends q.parts) (state_extends_own q)
