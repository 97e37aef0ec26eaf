-- Formulas with `not always not` for each `eventually`.
use Rattle.std.proofs.Common.{◌≡◌, ℕ, not, ◌&&◌, ◌||◌, List, [], ◌∷◌, ◌++◌, map, refl, ap, ap₂, ◌∙◌}
use Rattle.lv_formula.specs.declared.symbols.SortId.{SortId}
use Rattle.lv_formula.specs.declared.formula.Formula.TheVariants as F
use Rattle.lv_formula.specs.declared.temporal.Temporal.{Temporal}
use Rattle.lv_formula.specs.declared.temporal.Temporal.TheVariants as T
use Rattle.lv_formula.proofs.Induction.{Each}
use Rattle.lv_formula.proofs.TemporalFolds.{folds, folds_at}
use Rattle.lv_formula.proofs.TemporalInduction.{by_cases}
use Rattle.lv_formula.specs.Truth.{Env, iff}
use Rattle.lv_system.specs.TemporalTruth.{Lasso, holds, all_hold, any_holds}
use Rattle.lv_labels.specs.Renaming.{joined, outside, occurrences_of, under, renamed, rename_each}
use Rattle.lv_labels.specs.declared.key.Key.{Key}
use Rattle.lv_labels.specs.Labels.{label_atom, labelled, plain, plain_each, reading, whole_each}
use Rattle.lv_formula.proofs.Below.{all_below_same, any_below_same}
use Rattle.lv_labels.proofs.Later.{later_same}
use Rattle.lv_labels.proofs.HoldsAt.{held}
use Rattle.lv_labels.proofs.LabelsAt.{plains, read-Always, read-Eventually, read_with, whole, wholes}

-- ---- the same variables occur

abbrev Occurs : Temporal → Type 0
Occurs f = occurrences_of (plain f) ≡ occurrences_of f

all_occur : (fs : List Temporal) → Each Occurs fs → joined (map occurrences_of (plain_each (map labelled fs))) ≡ joined (map occurrences_of fs)
all_occur [] each = refl
all_occur (f ∷ fs) each = ap₂ (λ x y. x ++ y) each.0 (all_occur fs each.1)

-- the variables of a formula without `eventually` are those of the formula
pub occurrences_plain : (f : Temporal) → Occurs f
occurrences_plain = by_cases Occurs record {
  at_true = simp (plains, folds) refl;
  at_false = simp (plains, folds) refl;
  at_atom = λ s ts. simp (plains, folds) refl;
  at_same = λ a b. simp (plains, folds) refl;
  at_not = λ f ih. simp (plains, folds) ih;
  at_and = λ fs each. simp (plains, folds) (all_occur fs each);
  at_or = λ fs each. simp (plains, folds) (all_occur fs each);
  at_implies = λ f g ihf ihg. simp (plains, folds) (ap₂ (λ x y. x ++ y) ihf ihg);
  at_iff = λ f g ihf ihg. simp (plains, folds) (ap₂ (λ x y. x ++ y) ihf ihg);
  at_all = λ s f ih. simp (plains, folds) (ap outside ih);
  at_any = λ s f ih. simp (plains, folds) (ap outside ih);
  at_always = λ f ih. simp (plains, folds) ih;
  at_eventually = λ f ih. simp (plains, folds) ih;
}

-- ---- no `eventually` is left

abbrev Stays : Temporal → Type 0
Stays f = plain (plain f) ≡ plain f

all_stay : (fs : List Temporal) → Each Stays fs → plain_each (map labelled (plain_each (map labelled fs))) ≡ plain_each (map labelled fs)
all_stay [] each = refl
all_stay (f ∷ fs) each = ap₂ (λ x y. x ∷ y) each.0 (all_stay fs each.1)

-- where there is no `eventually`, nothing changes
pub plain_plain : (f : Temporal) → Stays f
plain_plain = by_cases Stays record {
  at_true = simp plains refl;
  at_false = simp plains refl;
  at_atom = λ s ts. simp plains refl;
  at_same = λ a b. simp plains refl;
  at_not = λ f ih. simp plains (ap T.Not ih);
  at_and = λ fs each. simp plains (ap T.And (all_stay fs each));
  at_or = λ fs each. simp plains (ap T.Or (all_stay fs each));
  at_implies = λ f g ihf ihg. simp plains (ap₂ T.Implies ihf ihg);
  at_iff = λ f g ihf ihg. simp plains (ap₂ T.Iff ihf ihg);
  at_all = λ s f ih. simp plains (ap (T.All s) ih);
  at_any = λ s f ih. simp plains (ap (T.Any s) ih);
  at_always = λ f ih. simp plains (ap T.Always ih);
  at_eventually = λ f ih. simp plains (ap (λ x. T.Not (T.Always (T.Not x))) ih);
}

-- ---- a renamed formula without `eventually`

abbrev Renames : Temporal → Type 0
Renames f = (to : ℕ → ℕ) → plain (renamed f to) ≡ renamed (plain f) to

all_rename : (fs : List Temporal) → Each Renames fs → (to : ℕ → ℕ) → plain_each (map labelled (rename_each (map renamed fs) to)) ≡ rename_each (map renamed (plain_each (map labelled fs))) to
all_rename [] each to = refl
all_rename (f ∷ fs) each to = ap₂ (λ x y. x ∷ y) (each.0 to) (all_rename fs each.1 to)

-- the renamed formula without `eventually` is the formula without it, renamed
pub plain_renamed : (f : Temporal) → Renames f
plain_renamed = by_cases Renames record {
  at_true = λ to. simp (plains, folds_at) refl;
  at_false = λ to. simp (plains, folds_at) refl;
  at_atom = λ s ts to. simp (plains, folds_at) refl;
  at_same = λ a b to. simp (plains, folds_at) refl;
  at_not = λ f ih to. simp (plains, folds_at) (ap T.Not (ih to));
  at_and = λ fs each to. simp (plains, folds_at) (ap T.And (all_rename fs each to));
  at_or = λ fs each to. simp (plains, folds_at) (ap T.Or (all_rename fs each to));
  at_implies = λ f g ihf ihg to. simp (plains, folds_at) (ap₂ T.Implies (ihf to) (ihg to));
  at_iff = λ f g ihf ihg to. simp (plains, folds_at) (ap₂ T.Iff (ihf to) (ihg to));
  at_all = λ s f ih to. simp (plains, folds_at) (ap (T.All s) (ih (under to)));
  at_any = λ s f ih to. simp (plains, folds_at) (ap (T.Any s) (ih (under to)));
  at_always = λ f ih to. simp (plains, folds_at) (ap T.Always (ih to));
  at_eventually = λ f ih to. simp (plains, folds_at) (ap (λ x. T.Not (T.Always (T.Not x))) (ih to));
}

-- ---- it holds where the formula does

module _ (l : Lasso) (witnesses : ℕ → ℕ) where
  abbrev Holds : Temporal → Type 0
  Holds f = (i : ℕ) (e : Env) → holds l witnesses (plain f) i e ≡ holds l witnesses f i e

  all_as : (fs : List Temporal) → Each Holds fs → (i : ℕ) (e : Env) → all_hold (map (holds l witnesses) (plain_each (map labelled fs))) i e ≡ all_hold (map (holds l witnesses) fs) i e
  all_as [] each i e = refl
  all_as (f ∷ fs) each i e = ap₂ (λ x y. x && y) (each.0 i e) (all_as fs each.1 i e)

  any_as : (fs : List Temporal) → Each Holds fs → (i : ℕ) (e : Env) → any_holds (map (holds l witnesses) (plain_each (map labelled fs))) i e ≡ any_holds (map (holds l witnesses) fs) i e
  any_as [] each i e = refl
  any_as (f ∷ fs) each i e = ap₂ (λ x y. x || y) (each.0 i e) (any_as fs each.1 i e)

  -- the formula without `eventually` holds where the formula does
  pub holds_plain : (f : Temporal) → Holds f
  holds_plain = by_cases Holds record {
    at_true = λ i e. simp (plains, held) refl;
    at_false = λ i e. simp (plains, held) refl;
    at_atom = λ s ts i e. simp (plains, held) refl;
    at_same = λ a b i e. simp (plains, held) refl;
    at_not = λ f ih i e. simp (plains, held) (ap not (ih i e));
    at_and = λ fs each i e. simp (plains, held) (all_as fs each i e);
    at_or = λ fs each i e. simp (plains, held) (any_as fs each i e);
    at_implies = λ f g ihf ihg i e. simp (plains, held) (ap₂ (λ x y. not x || y) (ihf i e) (ihg i e));
    at_iff = λ f g ihf ihg i e. simp (plains, held) (ap₂ iff (ihf i e) (ihg i e));
    at_all = λ s f ih i e. simp (plains, held) (all_below_same ((l.state i).size s) (λ x. holds l witnesses (plain f) i (x ∷ e)) (λ x. holds l witnesses f i (x ∷ e)) (λ x lt. ih i (x ∷ e)));
    at_any = λ s f ih i e. simp (plains, held) (any_below_same ((l.state i).size s) (λ x. holds l witnesses (plain f) i (x ∷ e)) (λ x. holds l witnesses f i (x ∷ e)) (λ x lt. ih i (x ∷ e)));
    at_always = λ f ih i e. simp (plains, held) (later_same l i (λ j. holds l witnesses (plain f) j e) (λ j. holds l witnesses f j e) (λ j. ih j e));
    at_eventually = λ f ih i e. simp (plains, held) (ap not (later_same l i (λ j. not (holds l witnesses (plain f) j e)) (λ j. not (holds l witnesses f j e)) (λ j. ap not (ih j e))));
  }

-- ---- the formula that a reading is kept with

module _ (table : List Key) where
  abbrev Whole : Temporal → Type 0
  Whole f = whole table f ≡ plain f

  all_whole : (fs : List Temporal) → Each Whole fs → whole_each (map (read_with table) fs) ≡ plain_each (map labelled fs)
  all_whole [] each = refl
  all_whole (f ∷ fs) each = ap₂ (λ x y. x ∷ y) each.0 (all_whole fs each.1)

  -- a reading's whole formula is that of the labels
  pub whole_plain : (f : Temporal) → Whole f
  whole_plain = by_cases Whole record {
    at_true = simp (plains, wholes) refl;
    at_false = simp (plains, wholes) refl;
    at_atom = λ s ts. simp (plains, wholes) refl;
    at_same = λ a b. simp (plains, wholes) refl;
    at_not = λ f ih. simp (plains, wholes) (ap T.Not ih);
    at_and = λ fs each. simp (plains, wholes) (ap T.And (all_whole fs each));
    at_or = λ fs each. simp (plains, wholes) (ap T.Or (all_whole fs each));
    at_implies = λ f g ihf ihg. simp (plains, wholes) (ap₂ T.Implies ihf ihg);
    at_iff = λ f g ihf ihg. simp (plains, wholes) (ap₂ T.Iff ihf ihg);
    at_all = λ s f ih. simp (plains, wholes) (ap (T.All s) ih);
    at_any = λ s f ih. simp (plains, wholes) (ap (T.Any s) ih);
    at_always = λ f ih. simp (plains, wholes) (ap T.Always ih);
    at_eventually = λ f ih. simp (plains, wholes) (ap (λ x. T.Not (T.Always (T.Not x))) ih);
  }

  -- so `always f` is read as the atom of the label that the table has for it
  pub always_read : (f : Temporal) (c : List SortId) → reading table c (T.Always f) ≡ label_atom table c (plain f)
  always_read f c = read-Always table f c ∙ ap (label_atom table c) (whole_plain f)

  -- and `eventually f` as the negated atom of the label for `always not f`
  pub eventually_read : (f : Temporal) (c : List SortId) → reading table c (T.Eventually f) ≡ F.Not (label_atom table c (T.Not (plain f)))
  eventually_read f c = read-Eventually table f c ∙ ap (λ g. F.Not (label_atom table c (T.Not g))) (whole_plain f)
