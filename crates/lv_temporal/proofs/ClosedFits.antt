-- What the laws use of a problem that fits: each formula stands over its vocabulary, and no fixed symbol is set.
use Rattle.std.proofs.Common.{◌≡◌, ℕ, ◌<◌, true, List, [], ◌∷◌, length, reverse, Some}
use Rattle.lv_formula.specs.declared.symbols.SortId.{SortId}
use Rattle.lv_formula.specs.declared.symbols.Sym.TheVariants.{Witness}
use Rattle.lv_formula.specs.Vocabulary.{constant_in}
use Rattle.lv_formula.specs.Fits.{all_fit_in, fits_in}
use Rattle.lv_formula.proofs.Induction.{Each}
use Rattle.lv_system.specs.declared.parts.Parts.{Parts}
use Rattle.lv_system.specs.declared.parts.ActionUpdate.{ActionUpdate}
use Rattle.lv_system.specs.Step.{action_at}
use Rattle.lv_system.specs.Vocabularies.{fixed_vocabulary, own_vocabulary}
use Rattle.lv_labels.specs.Problem.{Problem, choice_at, justice_at, label_at, state_vocabulary}
pub use Rattle.lv_temporal.proofs.Scoped.{UpdateFits}
use Rattle.lv_labels.specs.Vocabularies.{catch_vocabulary}
use Rattle.lv_labels.specs.Obligations.{invariants_of}

-- each update fits
abbrev pub UpdatesFit : Parts → List SortId → List ActionUpdate → Type 0
UpdatesFit p params us = Each (UpdateFits p params) us

-- a problem that fits
pub record IsFit (q : Problem) : Type 0 where
  pub axioms : all_fit_in (fixed_vocabulary q.parts) [] q.parts.axioms ≡ true
  pub inits : all_fit_in (own_vocabulary q.parts) [] q.parts.inits ≡ true
  pub guards : (n : ℕ) → n < length q.parts.actions → fits_in (own_vocabulary q.parts) (reverse (action_at q.parts n).params) (action_at q.parts n).guard ≡ true
  pub updates : (n : ℕ) → n < length q.parts.actions → UpdatesFit q.parts (action_at q.parts n).params (action_at q.parts n).updates
  pub denied : fits_in (state_vocabulary q) [] q.denied ≡ true
  pub witnesses : (k : ℕ) → k < length q.choices → constant_in (state_vocabulary q).constants (Witness k) ≡ Some (choice_at q k).sort
  pub choices : (k : ℕ) → k < length q.choices → fits_in (state_vocabulary q) ((choice_at q k).sort ∷ []) (choice_at q k).body ≡ true
  pub labels : (l : ℕ) → l < length q.labels → fits_in (state_vocabulary q) (reverse (label_at q l).sorts) (label_at q l).body ≡ true
  pub justice : (j : ℕ) → j < length q.justice → fits_in (state_vocabulary q) (reverse (justice_at q j).sorts) (justice_at q j).body ≡ true
  pub invariants : all_fit_in (catch_vocabulary q) [] (invariants_of q.parts) ≡ true
