-- What a formula and the temporal formula that it is have in common.
use Rattle.std.proofs.Common.{◌≡◌, ℕ, Bool, List, [], ◌∷◌, map, refl, sym, ap, ap₂, ◌∙◌}
use Rattle.lv_tree.specs.declared.tree.Tree.{Tree}
use Rattle.lv_formula.specs.declared.symbols.SortId.{SortId}
use Rattle.lv_formula.specs.declared.formula.Formula.{Formula}
use Rattle.lv_formula.specs.declared.formula.Formula.TheOpen as F
use Rattle.lv_formula.specs.declared.formula.Formula.TheFolds.{fold-Formula}
use Rattle.lv_formula.specs.declared.temporal.Temporal.{Temporal}
use Rattle.lv_formula.specs.declared.temporal.Temporal.TheOpen as T
use Rattle.lv_formula.specs.declared.temporal.Temporal.TheFolds.{fold-Temporal}
use Rattle.lv_formula.specs.declared.vocabulary.Vocabulary.{Vocabulary}
use Rattle.lv_formula.specs.Fits.{fits_step, fits_in}
use Rattle.lv_formula.specs.TemporalFits.{temporal_fits_step, temporal_fits_in}
use Rattle.lv_formula.proofs.Folds as ff
use Rattle.lv_formula.proofs.TemporalFolds as tf
use Rattle.lv_formula.proofs.Induction.{Cases, Each, by_cases}
use Rattle.lv_system.specs.declared.parts.Parts.{Parts}
use Rattle.lv_system.specs.Limits.{lists_step, lists_of}
use Rattle.lv_system.specs.TemporalLimits.{temporal_lists_step, temporal_lists_of}
use Rattle.lv_grammar.specs.Lifted.{lifted, lifted_step, lifted_all}
use Rattle.lv_grammar.specs.ShownFormulas.{over, shown_formula_step, shown_step, shown_formula, shown_temporal}

-- a fold over a formula is one over the temporal formula that it is
module _ (A : Type 0) (f_step : F.Formula-F A → A) (t_step : T.Temporal-F A → A) (same : (x : F.Formula-F A) → f_step x ≡ t_step (over x)) where
  abbrev of_formula : Formula → A
  of_formula = fold-Formula A f_step

  abbrev of_temporal : Temporal → A
  of_temporal = fold-Temporal A t_step

  abbrev Agrees : Formula → Type 0
  Agrees f = of_formula f ≡ of_temporal (lifted f)

  all_agree : (fs : List Formula) → Each Agrees fs → map of_formula fs ≡ map of_temporal (lifted_all fs)
  all_agree [] each = refl
  all_agree (f ∷ fs) each = ap₂ (λ x xs. x ∷ xs) each.0 (all_agree fs each.1)

  cases : Cases Agrees
  cases = record {
    at_true = ff.fold-True A f_step ∙ same F.True ∙ sym (ap of_temporal (ff.fold-True Temporal lifted_step) ∙ tf.fold-True A t_step);
    at_false = ff.fold-False A f_step ∙ same F.False ∙ sym (ap of_temporal (ff.fold-False Temporal lifted_step) ∙ tf.fold-False A t_step);
    at_atom = λ s ts. ff.fold-Atom A f_step s ts ∙ same (F.Atom s ts) ∙ sym (ap of_temporal (ff.fold-Atom Temporal lifted_step s ts) ∙ tf.fold-Atom A t_step s ts);
    at_same = λ a b. ff.fold-Same A f_step a b ∙ same (F.Same a b) ∙ sym (ap of_temporal (ff.fold-Same Temporal lifted_step a b) ∙ tf.fold-Same A t_step a b);
    at_not = λ f ih. ff.fold-Not A f_step f ∙ same (F.Not (of_formula f)) ∙ ap (λ x. t_step (T.Not x)) ih ∙ sym (ap of_temporal (ff.fold-Not Temporal lifted_step f) ∙ tf.fold-Not A t_step (lifted f));
    at_and = λ fs each. ff.fold-And A f_step fs ∙ same (F.And (map of_formula fs)) ∙ ap (λ x. t_step (T.And x)) (all_agree fs each) ∙ sym (ap of_temporal (ff.fold-And Temporal lifted_step fs) ∙ tf.fold-And A t_step (lifted_all fs));
    at_or = λ fs each. ff.fold-Or A f_step fs ∙ same (F.Or (map of_formula fs)) ∙ ap (λ x. t_step (T.Or x)) (all_agree fs each) ∙ sym (ap of_temporal (ff.fold-Or Temporal lifted_step fs) ∙ tf.fold-Or A t_step (lifted_all fs));
    at_implies = λ f g ihf ihg. ff.fold-Implies A f_step f g ∙ same (F.Implies (of_formula f) (of_formula g)) ∙ ap₂ (λ x y. t_step (T.Implies x y)) ihf ihg ∙ sym (ap of_temporal (ff.fold-Implies Temporal lifted_step f g) ∙ tf.fold-Implies A t_step (lifted f) (lifted g));
    at_iff = λ f g ihf ihg. ff.fold-Iff A f_step f g ∙ same (F.Iff (of_formula f) (of_formula g)) ∙ ap₂ (λ x y. t_step (T.Iff x y)) ihf ihg ∙ sym (ap of_temporal (ff.fold-Iff Temporal lifted_step f g) ∙ tf.fold-Iff A t_step (lifted f) (lifted g));
    at_all = λ s f ih. ff.fold-All A f_step s f ∙ same (F.All s (of_formula f)) ∙ ap (λ x. t_step (T.All s x)) ih ∙ sym (ap of_temporal (ff.fold-All Temporal lifted_step s f) ∙ tf.fold-All A t_step s (lifted f));
    at_any = λ s f ih. ff.fold-Any A f_step s f ∙ same (F.Any s (of_formula f)) ∙ ap (λ x. t_step (T.Any s x)) ih ∙ sym (ap of_temporal (ff.fold-Any Temporal lifted_step s f) ∙ tf.fold-Any A t_step s (lifted f));
  }

  pub folds_agree : (f : Formula) → fold-Formula A f_step f ≡ fold-Temporal A t_step (lifted f)
  folds_agree = by_cases Agrees cases

-- it is shown as such
pub shown_lifted : (p : Parts) (f : Formula) (depth : ℕ) → shown_formula p f depth ≡ shown_temporal p (lifted f) depth
shown_lifted p f depth = ap (λ (g : ℕ → Tree). g depth) (folds_agree (ℕ → Tree) (shown_formula_step p) (shown_step p) (λ x. refl) f)

lists_layer : (x : F.Formula-F ℕ) → lists_step x ≡ temporal_lists_step (over x)
lists_layer F.True = refl
lists_layer F.False = refl
lists_layer (F.Atom s ts) = refl
lists_layer (F.Same a b) = refl
lists_layer (F.Not f) = refl
lists_layer (F.And fs) = refl
lists_layer (F.Or fs) = refl
lists_layer (F.Implies f g) = refl
lists_layer (F.Iff f g) = refl
lists_layer (F.All s f) = refl
lists_layer (F.Any s f) = refl

-- its lists nest as deep
pub lists_lifted : (f : Formula) → lists_of f ≡ temporal_lists_of (lifted f)
lists_lifted = folds_agree ℕ lists_step temporal_lists_step lists_layer

fits_layer : (voc : Vocabulary) (x : F.Formula-F (List SortId → Bool)) → fits_step voc x ≡ temporal_fits_step voc (over x)
fits_layer voc F.True = refl
fits_layer voc F.False = refl
fits_layer voc (F.Atom s ts) = refl
fits_layer voc (F.Same a b) = refl
fits_layer voc (F.Not f) = refl
fits_layer voc (F.And fs) = refl
fits_layer voc (F.Or fs) = refl
fits_layer voc (F.Implies f g) = refl
fits_layer voc (F.Iff f g) = refl
fits_layer voc (F.All s f) = refl
fits_layer voc (F.Any s f) = refl

-- it stands in the same contexts
pub fits_lifted : (voc : Vocabulary) (context : List SortId) (f : Formula) → fits_in voc context f ≡ temporal_fits_in voc context (lifted f)
fits_lifted voc context f = ap (λ (g : List SortId → Bool). g context) (folds_agree (List SortId → Bool) (fits_step voc) (temporal_fits_step voc) (fits_layer voc) f)
