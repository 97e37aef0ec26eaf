-- A formula that is an `always` has that as the first of its labels.
use Rattle.std.proofs.Common.{◌≡◌, Bool, false, true, List, ◌∷◌, sym, ◌∙◌}
use Rattle.std.proofs.lemmas.Bool.{false≢true}
use Rattle.lv_formula.specs.declared.symbols.SortId.{SortId}
use Rattle.lv_formula.specs.declared.temporal.Temporal.{Temporal}
use Rattle.lv_formula.proofs.TemporalFolds as Folds
use Rattle.lv_formula.proofs.TemporalInduction.{by_cases}
use Rattle.lv_system.specs.Fits.{is_always, is_always_step}
use Rattle.lv_labels.specs.declared.key.Key.{Key}
use Rattle.lv_labels.specs.Labels.{key_of, keys_of, plain}
use Rattle.lv_labels.proofs.LabelsAt.{keys-Always}

-- a list of labels that isn't empty
pub record Starts (keys : List Key) : Type 0 where
  pub own : Key
  pub inner : List Key
  pub is : keys ≡ own ∷ inner

abbrev AlwaysStarts : Temporal → Type 0
AlwaysStarts f = is_always f ≡ true → (context : List SortId) → Starts (keys_of f context)

none_starts : {keys : List Key} {b : Bool} → b ≡ false → b ≡ true → Starts keys
none_starts e h = absurd (false≢true (sym e ∙ h))

-- the labels of an `always` begin with its own, and go on with those in it
pub always_starts : (f : Temporal) → AlwaysStarts f
always_starts = by_cases AlwaysStarts record {
  at_true = λ h c. none_starts (Folds.fold-True Bool is_always_step) h;
  at_false = λ h c. none_starts (Folds.fold-False Bool is_always_step) h;
  at_atom = λ s ts h c. none_starts (Folds.fold-Atom Bool is_always_step s ts) h;
  at_same = λ a b h c. none_starts (Folds.fold-Same Bool is_always_step a b) h;
  at_not = λ f ih h c. none_starts (Folds.fold-Not Bool is_always_step f) h;
  at_and = λ fs each h c. none_starts (Folds.fold-And Bool is_always_step fs) h;
  at_or = λ fs each h c. none_starts (Folds.fold-Or Bool is_always_step fs) h;
  at_implies = λ f g ihf ihg h c. none_starts (Folds.fold-Implies Bool is_always_step f g) h;
  at_iff = λ f g ihf ihg h c. none_starts (Folds.fold-Iff Bool is_always_step f g) h;
  at_all = λ s f ih h c. none_starts (Folds.fold-All Bool is_always_step s f) h;
  at_any = λ s f ih h c. none_starts (Folds.fold-Any Bool is_always_step s f) h;
  at_always = λ f ih h c. record { own = key_of c (plain f); inner = keys_of f c; is = keys-Always f c };
  at_eventually = λ f ih h c. none_starts (Folds.fold-Eventually Bool is_always_step f) h;
}
