-- The sentences of the witnesses are true exactly where the definitions say.
use Rattle.std.proofs.Common.{◌≡◌, ℕ, ◌<◌, ◌≤◌, Bool, true, false, not, ◌||◌, List, [], ◌∷◌, refl, sym, ap, ◌∙◌, ◌↔◌}
use Rattle.lv_formula.specs.declared.symbols.Sym.TheVariants.{Witness}
use Rattle.lv_formula.specs.declared.terms.Term.TheVariants.{Const}
use Rattle.lv_formula.specs.declared.formula.Formula.TheVariants.{Any}
use Rattle.lv_formula.proofs.Folds.{fold_at-Implies}
use Rattle.lv_rewrite.specs.Instantiate.{instantiate_of}
use Rattle.lv_rewrite.proofs.InstantiateLaw.{truth_instantiate}
use Rattle.lv_formula.specs.Meaning.{Meaning}
use Rattle.lv_formula.specs.Truth.{all_true_in, truth_in, truth_step}
use Rattle.lv_labels.specs.Problem.{Choice, Problem, choice_at, no_choice}
use Rattle.lv_labels.proofs.OverTuples.{all_numbered-each, all_numbered-from}
use Rattle.lv_prophecy.specs.Witnesses.{AreChosen, choice_sentence, choice_sentences}

pub implied : (a b : Bool) → (not a || b) ≡ true → a ≡ true → b ≡ true
implied true b h k = h
implied false b h k = cc

implies : (a b : Bool) → (a ≡ true → b ≡ true) → (not a || b) ≡ true
implies true b h = h refl
implies false b h = refl

module _ (m : Meaning) (k : ℕ) (c : Choice) where
  said : truth_in m (choice_sentence k c) [] ≡ (not (truth_in m (Any c.sort c.body) []) || truth_in m c.body (m.value (Witness k) ∷ []))
  said = fold_at-Implies Bool (List ℕ) (truth_step m) (Any c.sort c.body) (instantiate_of (Const (Witness k) ∷ []) c.body) []
      ∙ ap (λ b. not (truth_in m (Any c.sort c.body) []) || b) (truth_instantiate m (Const (Witness k) ∷ []) c.body [])

pub witnesses_true : (q : Problem) (m : Meaning) → (all_true_in m (choice_sentences q.choices) [] ≡ true) ↔ AreChosen q m
witnesses_true q m = (
  (λ h k l. implied _ _ (sym (said m k (choice_at q k)) ∙ all_numbered-each no_choice choice_sentence m [] q.choices h k l)),
  (λ h. all_numbered-from no_choice choice_sentence m [] q.choices (λ k l. said m k (choice_at q k) ∙ implies _ _ (h k l))),
)
