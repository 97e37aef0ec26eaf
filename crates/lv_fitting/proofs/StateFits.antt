-- A formula without temporal operators, taken as a temporal formula, fits as it does and has the same measures.
use Rattle.std.proofs.Common.{◌≡◌, ◌+◌, max, ◌&&◌, ltb, List, [], ◌∷◌, refl, ap, ap₂}
use Rattle.lv_formula.specs.declared.symbols.SortId.{SortId}
use Rattle.lv_formula.specs.declared.formula.Formula.{Formula}
use Rattle.lv_formula.specs.declared.vocabulary.Vocabulary.{Vocabulary}
use Rattle.lv_formula.specs.Fits.{fits_in, all_fit_in}
use Rattle.lv_formula.specs.TemporalFits.{temporal_fits_in, all_temporal_fit_in}
use Rattle.lv_formula.specs.Measures.{nodes_of, nodes_of_all}
use Rattle.lv_formula.specs.TemporalMeasures.{temporal_nodes_of, temporal_nodes_of_all}
use Rattle.lv_formula.proofs.Folds as StateFolds
use Rattle.lv_formula.proofs.TemporalFolds as Folds
use Rattle.lv_formula.proofs.Induction.{Cases, Each, by_cases}
use Rattle.lv_system.specs.Limits.{iffs_of, iffs_of_all, lists_of, lists_of_all}
use Rattle.lv_system.specs.TemporalLimits.{temporal_lists_of, temporal_lists_of_all, temporal_iffs_of, temporal_iffs_of_all}
use Rattle.lv_grammar.specs.Lifted.{lifted, lifted_all}

-- ---- fitting

module _ (voc : Vocabulary) where
  abbrev FitsAlike : Formula → Type 0
  FitsAlike f = (context : List SortId) → temporal_fits_in voc context (lifted f) ≡ fits_in voc context f

  all_fit_alike : (fs : List Formula) → Each FitsAlike fs → (context : List SortId) → all_temporal_fit_in voc context (lifted_all fs) ≡ all_fit_in voc context fs
  all_fit_alike [] each context = refl
  all_fit_alike (f ∷ fs) each context = ap₂ (λ a b. a && b) (each.0 context) (all_fit_alike fs each.1 context)

  fit_cases : Cases FitsAlike
  fit_cases = record {
    at_true = λ context. simp (StateFolds.folds, StateFolds.folds_at, Folds.folds_at) refl;
    at_false = λ context. simp (StateFolds.folds, StateFolds.folds_at, Folds.folds_at) refl;
    at_atom = λ r ts context. simp (StateFolds.folds, StateFolds.folds_at, Folds.folds_at) refl;
    at_same = λ a b context. simp (StateFolds.folds, StateFolds.folds_at, Folds.folds_at) refl;
    at_not = λ f ih context. simp (StateFolds.folds, StateFolds.folds_at, Folds.folds_at) (ih context);
    at_and = λ fs each context. simp (StateFolds.folds, StateFolds.folds_at, Folds.folds_at) (all_fit_alike fs each context);
    at_or = λ fs each context. simp (StateFolds.folds, StateFolds.folds_at, Folds.folds_at) (all_fit_alike fs each context);
    at_implies = λ f g ihf ihg context. simp (StateFolds.folds, StateFolds.folds_at, Folds.folds_at) (ap₂ (λ a b. a && b) (ihf context) (ihg context));
    at_iff = λ f g ihf ihg context. simp (StateFolds.folds, StateFolds.folds_at, Folds.folds_at) (ap₂ (λ a b. a && b) (ihf context) (ihg context));
    at_all = λ s f ih context. simp (StateFolds.folds, StateFolds.folds_at, Folds.folds_at) (ap (λ b. ltb s.0 voc.sorts && b) (ih (s ∷ context)));
    at_any = λ s f ih context. simp (StateFolds.folds, StateFolds.folds_at, Folds.folds_at) (ap (λ b. ltb s.0 voc.sorts && b) (ih (s ∷ context)));
  }

  pub fits_alike : (f : Formula) (context : List SortId) → temporal_fits_in voc context (lifted f) ≡ fits_in voc context f
  fits_alike = by_cases FitsAlike fit_cases

-- ---- measures

abbrev SameNodes : Formula → Type 0
SameNodes f = temporal_nodes_of (lifted f) ≡ nodes_of f

all_same_nodes : (fs : List Formula) → Each SameNodes fs → temporal_nodes_of_all (lifted_all fs) ≡ nodes_of_all fs
all_same_nodes [] each = refl
all_same_nodes (f ∷ fs) each = ap₂ (λ a b. a + b) each.0 (all_same_nodes fs each.1)

node_cases : Cases SameNodes
node_cases = record {
  at_true = simp (StateFolds.folds, Folds.folds) refl;
  at_false = simp (StateFolds.folds, Folds.folds) refl;
  at_atom = λ r ts. simp (StateFolds.folds, Folds.folds) refl;
  at_same = λ a b. simp (StateFolds.folds, Folds.folds) refl;
  at_not = λ f ih. simp (StateFolds.folds, Folds.folds) (ap (λ n. n + 1) ih);
  at_and = λ fs each. simp (StateFolds.folds, Folds.folds) (ap (λ n. n + 1) (all_same_nodes fs each));
  at_or = λ fs each. simp (StateFolds.folds, Folds.folds) (ap (λ n. n + 1) (all_same_nodes fs each));
  at_implies = λ f g ihf ihg. simp (StateFolds.folds, Folds.folds) (ap₂ (λ a b. a + b + 1) ihf ihg);
  at_iff = λ f g ihf ihg. simp (StateFolds.folds, Folds.folds) (ap₂ (λ a b. a + b + 1) ihf ihg);
  at_all = λ s f ih. simp (StateFolds.folds, Folds.folds) (ap (λ n. n + 1) ih);
  at_any = λ s f ih. simp (StateFolds.folds, Folds.folds) (ap (λ n. n + 1) ih);
}

pub same_nodes : (f : Formula) → temporal_nodes_of (lifted f) ≡ nodes_of f
same_nodes = by_cases SameNodes node_cases

abbrev SameIffs : Formula → Type 0
SameIffs f = temporal_iffs_of (lifted f) ≡ iffs_of f

all_same_iffs : (fs : List Formula) → Each SameIffs fs → temporal_iffs_of_all (lifted_all fs) ≡ iffs_of_all fs
all_same_iffs [] each = refl
all_same_iffs (f ∷ fs) each = ap₂ max each.0 (all_same_iffs fs each.1)

iff_cases : Cases SameIffs
iff_cases = record {
  at_true = simp (StateFolds.folds, Folds.folds) refl;
  at_false = simp (StateFolds.folds, Folds.folds) refl;
  at_atom = λ r ts. simp (StateFolds.folds, Folds.folds) refl;
  at_same = λ a b. simp (StateFolds.folds, Folds.folds) refl;
  at_not = λ f ih. simp (StateFolds.folds, Folds.folds) ih;
  at_and = λ fs each. simp (StateFolds.folds, Folds.folds) (all_same_iffs fs each);
  at_or = λ fs each. simp (StateFolds.folds, Folds.folds) (all_same_iffs fs each);
  at_implies = λ f g ihf ihg. simp (StateFolds.folds, Folds.folds) (ap₂ max ihf ihg);
  at_iff = λ f g ihf ihg. simp (StateFolds.folds, Folds.folds) (ap₂ (λ a b. max a b + 1) ihf ihg);
  at_all = λ s f ih. simp (StateFolds.folds, Folds.folds) ih;
  at_any = λ s f ih. simp (StateFolds.folds, Folds.folds) ih;
}

pub same_iffs : (f : Formula) → temporal_iffs_of (lifted f) ≡ iffs_of f
same_iffs = by_cases SameIffs iff_cases

abbrev SameLists : Formula → Type 0
SameLists f = temporal_lists_of (lifted f) ≡ lists_of f

all_same_lists : (fs : List Formula) → Each SameLists fs → temporal_lists_of_all (lifted_all fs) ≡ lists_of_all fs
all_same_lists [] each = refl
all_same_lists (f ∷ fs) each = ap₂ max each.0 (all_same_lists fs each.1)

list_cases : Cases SameLists
list_cases = record {
  at_true = simp (StateFolds.folds, Folds.folds) refl;
  at_false = simp (StateFolds.folds, Folds.folds) refl;
  at_atom = λ r ts. simp (StateFolds.folds, Folds.folds) refl;
  at_same = λ a b. simp (StateFolds.folds, Folds.folds) refl;
  at_not = λ f ih. simp (StateFolds.folds, Folds.folds) (ap (λ n. n + 1) ih);
  at_and = λ fs each. simp (StateFolds.folds, Folds.folds) (ap (λ n. n + 1) (all_same_lists fs each));
  at_or = λ fs each. simp (StateFolds.folds, Folds.folds) (ap (λ n. n + 1) (all_same_lists fs each));
  at_implies = λ f g ihf ihg. simp (StateFolds.folds, Folds.folds) (ap₂ (λ a b. max a b + 1) ihf ihg);
  at_iff = λ f g ihf ihg. simp (StateFolds.folds, Folds.folds) (ap₂ (λ a b. max a b + 1) ihf ihg);
  at_all = λ s f ih. simp (StateFolds.folds, Folds.folds) (ap (λ n. n + 1) ih);
  at_any = λ s f ih. simp (StateFolds.folds, Folds.folds) (ap (λ n. n + 1) ih);
}

pub same_lists : (f : Formula) → temporal_lists_of (lifted f) ≡ lists_of f
same_lists = by_cases SameLists list_cases
