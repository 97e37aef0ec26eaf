-- Labels and witnesses change nothing for formulas over the own symbols, nor for steps.
use Rattle.std.proofs.Common.{◌≡◌, ℕ, Bool, true, false, ◌&&◌, cond, eqb, List, [], ◌∷◌, ◌++◌, reverse, Option, Some, None, refl, sym, ap, ap₂, ◌∙◌, eqb-true}
use Rattle.std.proofs.lemmas.Bool.{and_parts}
use Rattle.lv_formula.specs.declared.symbols.SortId.{SortId}
use Rattle.lv_formula.specs.declared.symbols.Sym.{Sym}
use Rattle.lv_formula.specs.declared.symbols.Sym.TheVariants.{Own, Witness, Label, Frozen, Saved, Touched, Kept, Due, Copy, CopyLabel, Next, Param}
use Rattle.lv_formula.specs.declared.terms.Term.{Term}
use Rattle.lv_formula.specs.declared.terms.Term.TheVariants.{Var, Const}
use Rattle.lv_formula.specs.declared.formula.Formula.{Formula}
use Rattle.lv_formula.specs.Vocabulary.{relation_in, constant_in}
use Rattle.lv_formula.specs.Fits.{all_fit_in, fits_in, sort_of}
use Rattle.lv_formula.proofs.Induction.{Each}
use Rattle.lv_formula.specs.Meaning.{AgreeOn, IsStructureOf, Meaning, in_range, is_element}
use Rattle.lv_formula.specs.Truth.{Env, all_true_in, truth_in, value_of}
use Rattle.lv_formula.proofs.AgreeLaw.{truth_agrees}
use Rattle.lv_system.specs.declared.parts.Parts.{Parts}
use Rattle.lv_system.specs.declared.parts.ActionUpdate.{ActionUpdate}
use Rattle.lv_system.specs.declared.parts.ActionUpdate.TheVariants.{Relation, Constant}
use Rattle.lv_system.specs.Step.{set_holds, set_value, sorts_at, sorts_or_none, symbol_at}
use Rattle.lv_system.specs.TemporalTruth.{Lasso}
use Rattle.lv_system.specs.Vocabularies.{own_vocabulary, relation_sorts}
use Rattle.lv_labels.proofs.Ranges.{over_append, over_reverse}
use Rattle.lv_temporal.proofs.ReadingTruth.{shown}
use Rattle.lv_temporal.proofs.Scoped.{UpdateFits}
use Rattle.lv_temporal.proofs.Vocabularies.{label_apart, no_own_constant, no_own_relation, witness_apart}

none_some : {X : Type 0} (o : Option X) (x : X) → o ≡ None → o ≡ Some x → ⊥
none_some o x e h = cc

module _ (p : Parts) (l : Lasso) (witnesses : ℕ → ℕ) (k : ℕ) where
  abbrev now : Meaning
  now = shown p l witnesses k

  no_label : (n : ℕ) (ss : List SortId) → relation_in (own_vocabulary p).relations (Label n) ≡ Some ss → ⊥
  no_label n ss h = none_some (relation_in (own_vocabulary p).relations (Label n)) ss (no_own_relation (Label n) (label_apart n) 0 p.symbols) h

  no_witness : (n : ℕ) (s : SortId) → constant_in (own_vocabulary p).constants (Witness n) ≡ Some s → ⊥
  no_witness n s h = none_some (constant_in (own_vocabulary p).constants (Witness n)) s (no_own_constant (Witness n) (witness_apart n) 0 p.symbols) h

  same_relation : (r : Sym) (ss : List SortId) → relation_in (own_vocabulary p).relations r ≡ Some ss → (tuple : List ℕ) → in_range (l.state k) ss tuple ≡ true → (l.state k).holds r tuple ≡ (shown p l witnesses k).holds r tuple
  same_relation (Own n) ss h tuple range = refl
  same_relation (Witness n) ss h tuple range = refl
  same_relation (Label n) ss h tuple range = absurd (no_label n ss h)
  same_relation Frozen ss h tuple range = refl
  same_relation Saved ss h tuple range = refl
  same_relation (Touched s) ss h tuple range = refl
  same_relation (Kept s) ss h tuple range = refl
  same_relation (Due n) ss h tuple range = refl
  same_relation (Copy n) ss h tuple range = refl
  same_relation (CopyLabel n) ss h tuple range = refl
  same_relation (Next n) ss h tuple range = refl
  same_relation (Param n) ss h tuple range = refl

  same_constant : (c : Sym) (s : SortId) → constant_in (own_vocabulary p).constants c ≡ Some s → (l.state k).value c ≡ (shown p l witnesses k).value c
  same_constant (Own n) s h = refl
  same_constant (Witness n) s h = absurd (no_witness n s h)
  same_constant (Label n) s h = refl
  same_constant Frozen s h = refl
  same_constant Saved s h = refl
  same_constant (Touched x) s h = refl
  same_constant (Kept x) s h = refl
  same_constant (Due n) s h = refl
  same_constant (Copy n) s h = refl
  same_constant (CopyLabel n) s h = refl
  same_constant (Next n) s h = refl
  same_constant (Param n) s h = refl

  -- the state and the structure with labels and witnesses agree on the own symbols
  pub own_agrees : AgreeOn (own_vocabulary p) (l.state k) (shown p l witnesses k)
  own_agrees = record { sizes = λ s lt. refl; relations = same_relation; constants = same_constant }

  module _ (sound : IsStructureOf (own_vocabulary p) (l.state k)) where
    -- a formula over the own symbols is true with the labels and witnesses where it is true without
    pub own_truth : (f : Formula) (c : List SortId) (e : Env) → fits_in (own_vocabulary p) c f ≡ true → in_range (l.state k) c e ≡ true → truth_in (l.state k) f e ≡ truth_in (shown p l witnesses k) f e
    own_truth f c e fits range = truth_agrees (own_vocabulary p) (l.state k) (shown p l witnesses k) sound own_agrees f c e fits range

    -- and so are all of a list
    pub own_truths : (fs : List Formula) → all_fit_in (own_vocabulary p) [] fs ≡ true → all_true_in (l.state k) fs [] ≡ all_true_in (shown p l witnesses k) fs []
    own_truths [] fits = refl
    own_truths (f ∷ fs) fits = let both = and_parts (fits_in (own_vocabulary p) [] f) (all_fit_in (own_vocabulary p) [] fs) fits in
        ap₂ (λ a b. a && b) (own_truth f [] [] both.0 refl) (own_truths fs both.1)

    own_value : (c : List SortId) (e : Env) (t : Term) (s : SortId) → sort_of (own_vocabulary p) c t ≡ Some s → value_of (l.state k) e t ≡ value_of (shown p l witnesses k) e t
    own_value c e (Var v) s h = refl
    own_value c e (Const x) s h = same_constant x s h

    module _ (params : List SortId) (elements : List ℕ) (range : in_range (l.state k) params elements ≡ true) where
      guarded : (a b c : Bool) → (a ≡ true → b ≡ c) → (a && b) ≡ (a && c)
      guarded true b c h = h refl
      guarded false b c h = refl

      either : (t : Bool) (a b x y : Bool) → (t ≡ true → a ≡ b) → x ≡ y → cond t a x ≡ cond t b y
      either true a b x y h e = h refl
      either false a b x y h e = e

      body_same : (r symbol : ℕ) (body : Formula) (sorts : List SortId) → relation_sorts (symbol_at p symbol).shape ≡ Some sorts → fits_in (own_vocabulary p) (reverse (params ++ sorts)) body ≡ true → (tuple : List ℕ) → eqb symbol r ≡ true
          → (in_range (l.state k) (sorts_at p r) tuple && truth_in (l.state k) body (reverse (elements ++ tuple))) ≡ (in_range (l.state k) (sorts_at p r) tuple && truth_in (shown p l witnesses k) body (reverse (elements ++ tuple)))
      body_same r symbol body sorts is fits tuple e = guarded (in_range (l.state k) (sorts_at p r) tuple) _ _ (λ h.
          own_truth body (reverse (params ++ sorts)) (reverse (elements ++ tuple)) fits (over_reverse (is_element (l.state k)) (params ++ sorts) (elements ++ tuple)
          (over_append (is_element (l.state k)) params sorts elements tuple range (ap (λ ss. in_range (l.state k) ss tuple) (sym known) ∙ h))))
        where
          known : sorts_at p r ≡ sorts
          known = ap (sorts_at p) (sym (eqb-true symbol r e)) ∙ ap sorts_or_none is

      -- an update makes the same of a relation with the labels and witnesses as without
      pub own_holds : (us : List ActionUpdate) → Each (UpdateFits p params) us → (r : ℕ) (tuple : List ℕ) → set_holds p elements (l.state k) us r tuple ≡ set_holds p elements (shown p l witnesses k) us r tuple
      own_holds [] fits r tuple = refl
      own_holds (Relation symbol body ∷ us) fits r tuple = either (eqb symbol r) _ _ _ _ (body_same r symbol body fits.0.0 fits.0.2 fits.0.4 tuple) (own_holds us fits.1 r tuple)
      own_holds (Constant symbol term ∷ us) fits r tuple = own_holds us fits.1 r tuple

      -- and the same of a constant
      pub own_element : (us : List ActionUpdate) → Each (UpdateFits p params) us → (c : ℕ) → set_value elements (l.state k) us c ≡ set_value elements (shown p l witnesses k) us c
      own_element [] fits c = refl
      own_element (Relation symbol body ∷ us) fits c = own_element us fits.1 c
      own_element (Constant symbol term ∷ us) fits c = ap₂ (λ x y. cond (eqb symbol c) x y) (own_value (reverse params) (reverse elements) term fits.0.0 fits.0.4) (own_element us fits.1 c)
