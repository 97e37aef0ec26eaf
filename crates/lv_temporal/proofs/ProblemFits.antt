-- The problem of a system that fits is one that fits.
use Rattle.std.proofs.Common.{◌≡◌, ℕ, ◌<◌, true, length, Some, sym, ap, subst, ◌∙◌}
use Rattle.std.proofs.lemmas.List.{length-map}
use Rattle.lv_system.specs.declared.parts.Parts.{Parts}
use Rattle.lv_system.specs.Fits.{fits_parts}
use Rattle.lv_system.proofs.FitsFacts.{fitting}
use Rattle.lv_labels.specs.Labels.{labels_of}
use Rattle.lv_labels.specs.Problem.{choice_of, problem_of}
use Rattle.lv_temporal.proofs.ReadingFits.{choices_fit, denied_fits, justice_fits, labels_fit}
use Rattle.lv_temporal.proofs.Scoped.{IsScoped, scoped}
use Rattle.lv_temporal.proofs.Unrolled.{choice_at_is}
use Rattle.lv_temporal.proofs.Found.{witness-state}
use Rattle.lv_labels.specs.Obligations.{AreValid, InvariantsFit, IsInductive}
use Rattle.lv_temporal.proofs.ClosedFits.{IsFit}
use Rattle.lv_temporal.proofs.Numbered.{ChoicesAreWitnesses, kept_where_inductive, kept_where_valid}
use Rattle.lv_temporal.proofs.Sense.{AreKept, NoneCaught}
use Rattle.lv_temporal.proofs.SortsThere.{sorts_there}

module _ (p : Parts) (fits : fits_parts p ≡ true) where
  choice_number : (k : ℕ) → k < length (problem_of p).choices → k < length p.witnesses
  choice_number k l = subst (λ n. k < n) (length-map p.witnesses (choice_of (labels_of p))) l

  -- each witness has the sort of its declaration
  pub choices : ChoicesAreWitnesses (problem_of p)
  choices = record { number = length-map p.witnesses (choice_of (labels_of p)); sorts = λ k l. ap (λ c. c.sort) (choice_at_is p k (choice_number k l)) }

  module _ (invariants : InvariantsFit p) where
    -- each formula of the problem stands over its vocabulary
    pub problem_fits : IsFit (problem_of p)
    problem_fits = let s : IsScoped p = scoped p fits in record {
      axioms = s.axioms;
      inits = s.inits;
      guards = s.guards;
      updates = s.updates;
      denied = denied_fits p s;
      witnesses = λ k l. witness-state (problem_of p) k (choice_number k l) ∙ ap (λ c. Some c.sort) (sym (choice_at_is p k (choice_number k l)));
      choices = choices_fit p s;
      labels = labels_fit p s;
      justice = justice_fits p s;
      invariants = invariants;
    }

    -- where starts and steps are valid the invariants are kept
    pub kept_in : IsInductive p → AreKept (problem_of p)
    kept_in valid = kept_where_inductive (problem_of p) problem_fits (sorts_there p (fitting p fits)) choices valid

    -- where all obligations are valid nothing is caught either
    pub kept_and_free : AreValid p → AreKept (problem_of p) × NoneCaught (problem_of p)
    kept_and_free valid = kept_where_valid (problem_of p) problem_fits (sorts_there p (fitting p fits)) choices valid
