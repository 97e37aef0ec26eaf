-- How deep lists nest in the formulas of parts that fit.
use Rattle.std.proofs.Common.{◌≡◌, ℕ, zero, suc, ◌≤◌, Bool, true, false, ◌&&◌, leb, List, [], ◌∷◌, length, slice_get, Some, refl, sym, ◌∙◌, arith}
use Rattle.std.proofs.lemmas.Bool.{and_parts, leb-true}
use Rattle.lv_formula.specs.declared.symbols.SortId.{SortId}
use Rattle.lv_formula.specs.declared.formula.Formula.{Formula}
use Rattle.lv_formula.specs.declared.temporal.Temporal.{Temporal}
use Rattle.lv_formula.specs.declared.vocabulary.Vocabulary.{Vocabulary}
use Rattle.lv_formula.specs.Measures.{nodes_of}
use Rattle.lv_formula.specs.TemporalMeasures.{temporal_nodes_of}
use Rattle.lv_formula.specs.Fits.{fits_in, fits_up_to}
use Rattle.lv_formula.proofs.Induction.{Each as Holds}
use Rattle.lv_system.specs.declared.parts.Parts.{Parts}
use Rattle.lv_system.specs.declared.parts.Symbol.{Symbol}
use Rattle.lv_system.specs.declared.parts.Shape.{Shape}
use Rattle.lv_system.specs.declared.parts.Shape.TheVariants as S
use Rattle.lv_system.specs.declared.parts.Action.{Action}
use Rattle.lv_system.specs.declared.parts.ActionUpdate.{ActionUpdate}
use Rattle.lv_system.specs.declared.parts.ActionUpdate.TheVariants.{Relation, Constant}
use Rattle.lv_system.specs.declared.parts.Fair.{Fair}
use Rattle.lv_system.specs.declared.parts.LabelDecl.{LabelDecl}
use Rattle.lv_system.specs.declared.parts.WitnessDecl.{WitnessDecl}
use Rattle.lv_system.specs.declared.parts.Invariant.{Invariant}
use Rattle.lv_system.specs.Vocabularies.{fixed_vocabulary, own_vocabulary}
use Rattle.lv_system.specs.InvariantWords.{invariant_vocabulary, is_label_word}
use Rattle.lv_system.specs.Limits.{is_small, in_item, iffs_of, lists_of}
use Rattle.lv_system.specs.TemporalLimits.{is_small_temporal, temporal_iffs_of, temporal_lists_of}
use Rattle.lv_system.specs.Fits.{are_sorts_below, shape_fits, shapes_fit, formula_fits, formulas_fit, update_fits, updates_fit, action_fits, actions_fit, fair_fits, fairs_fit, label_fits, labels_fit, witness_fits, witnesses_fit, invariant_fits, invariants_fit, fits_parts}
use Rattle.lv_system.proofs.FitsFacts.{tests, fit_action, fit_fair, fit_label, fit_witness, fit_relation}
use Rattle.lv_grammar.specs.Grammar.{arguments_of, argument_sorts}

-- what a test of each item says of each
pub holds_from : {X : Type 0} (P : X → Type 0) (test : X → Bool) (all : List X → Bool) → ((x : X) (xs : List X) → all (x ∷ xs) ≡ (test x && all xs)) → ((x : X) → test x ≡ true → P x) → (xs : List X) → all xs ≡ true → Holds P xs
holds_from P test all parted each [] h = tt
holds_from P test all parted each (x ∷ xs) h =
    let both = and_parts (test x) (all xs) (sym (parted x xs) ∙ h) in
    (each x both.0, holds_from P test all parted each xs both.1)

pub small_lists : (n : ℕ) (f : Formula) → is_small n f ≡ true → lists_of f ≤ n
small_lists n f h =
    leb-true _ _ (and_parts (leb (iffs_of f) 2) (leb (lists_of f) n) (and_parts (leb (nodes_of f) 1024) _ h).1).1

pub small_temporal_lists : (f : Temporal) → is_small_temporal f ≡ true → temporal_lists_of f ≤ 58
small_temporal_lists f h =
    leb-true _ _ (and_parts (leb (temporal_iffs_of f) 2) (leb (temporal_lists_of f) in_item) (and_parts (leb (temporal_nodes_of f) 1024) _ h).1).1

pub few_of_shape : (n : ℕ) (ss : List Symbol) (k : ℕ) → shapes_fit n ss ≡ true → length (arguments_of (slice_get ss k)) ≤ 4
few_of_shape n [] k h = omega arith
few_of_shape n (s ∷ ss) zero h = go s.shape (and_parts (shape_fits n s.shape) (shapes_fit n ss) h).0 where
  go : (shape : Shape) → shape_fits n shape ≡ true → length (arguments_of (Some (record { name = []; shape = shape; fixed = false }))) ≤ 4
  go (S.Relation sorts) h = leb-true _ _ (and_parts (leb (length sorts) 4) (are_sorts_below n sorts) h).0
  go (S.Constant sort) h = omega arith
few_of_shape n (s ∷ ss) (suc k) h = few_of_shape n ss k (and_parts (shape_fits n s.shape) (shapes_fit n ss) h).1

-- ---- the items, one by one

abbrev pub IsSmallUpdate : Parts → ActionUpdate → Type 0
IsSmallUpdate p (Relation symbol body) = (length (argument_sorts p symbol) ≤ 4) × (lists_of body ≤ 57)
IsSmallUpdate p (Constant symbol term) = Unit {0}

pub record IsSmallAction (p : Parts) (a : Action) : Type 0 where
  pub few : length a.params ≤ 4
  pub guard : lists_of a.guard ≤ 57
  pub updates : Holds (IsSmallUpdate p) a.updates

small_update : (p : Parts) (params : List SortId) → shapes_fit (length p.sorts) p.symbols ≡ true → (u : ActionUpdate) → update_fits p params u ≡ true → IsSmallUpdate p u
small_update p params shapes (Relation symbol body) h = (few_of_shape (length p.sorts) p.symbols symbol shapes, small_lists 57 body (fit_relation p params symbol body h).small)
small_update p params shapes (Constant symbol term) h = tt

small_action : (p : Parts) → shapes_fit (length p.sorts) p.symbols ≡ true → (a : Action) → action_fits p a ≡ true → IsSmallAction p a
small_action p shapes a h =
    let f = fit_action p a h in
    record {
      few = f.params.few;
      guard = small_lists 57 a.guard f.small;
      updates = holds_from (IsSmallUpdate p) (update_fits p a.params) (updates_fit p a.params) (λ x xs. refl) (small_update p a.params shapes) a.updates f.updates;
    }

abbrev pub IsSmallFair : Fair → Type 0
IsSmallFair c = (length c.params ≤ 4) × (lists_of c.condition ≤ 58)

abbrev pub IsSmallLabel : LabelDecl → Type 0
IsSmallLabel l = (length l.params ≤ 4) × (temporal_lists_of l.formula ≤ 58)

abbrev pub IsSmallWitness : WitnessDecl → Type 0
IsSmallWitness w = temporal_lists_of w.formula ≤ 58

abbrev pub IsSmallFormula : Formula → Type 0
IsSmallFormula f = lists_of f ≤ 58

abbrev pub IsSmallInvariant : Invariant → Type 0
IsSmallInvariant i = lists_of i.formula ≤ 58

small_fair : (p : Parts) (c : Fair) → fair_fits p c ≡ true → IsSmallFair c
small_fair p c h = let f = fit_fair p c h in (f.params.few, small_lists 58 c.condition f.small)

small_label : (p : Parts) (l : LabelDecl) → label_fits p l ≡ true → IsSmallLabel l
small_label p l h = let f = fit_label p l h in (f.params.few, small_temporal_lists l.formula f.small)

small_witnesses : (p : Parts) (n : ℕ) (ws : List WitnessDecl) → witnesses_fit p n ws ≡ true → Holds IsSmallWitness ws
small_witnesses p n [] h = tt
small_witnesses p n (w ∷ ws) h =
    let both = and_parts (witness_fits p n w) (witnesses_fit p (suc n) ws) h in
    (small_temporal_lists w.formula (fit_witness p n w both.0).small, small_witnesses p (suc n) ws both.1)

small_formulas : (voc : Vocabulary) (fs : List Formula) → formulas_fit voc fs ≡ true → Holds IsSmallFormula fs
small_formulas voc = holds_from IsSmallFormula (formula_fits in_item voc []) (formulas_fit voc) (λ f fs. refl) (λ f h. small_lists 58 f (and_parts (is_small in_item f) (fits_in voc [] f) h).0)

small_invariant : (p : Parts) (i : Invariant) → invariant_fits p i ≡ true → IsSmallInvariant i
small_invariant p i h = small_lists 58 i.formula (and_parts (is_small in_item i.formula) (fits_up_to (is_label_word p) (invariant_vocabulary p) [] i.formula) h).0

pub record Small (p : Parts) : Type 0 where
  pub axioms : Holds IsSmallFormula p.axioms
  pub inits : Holds IsSmallFormula p.inits
  pub actions : Holds (IsSmallAction p) p.actions
  pub fairs : Holds IsSmallFair p.fairs
  pub labels : Holds IsSmallLabel p.labels
  pub witnesses : Holds IsSmallWitness p.witnesses
  pub property : temporal_lists_of p.property ≤ 58
  pub invariants : Holds IsSmallInvariant p.invariants

pub small : (p : Parts) → fits_parts p ≡ true → Small p
small p h =
    let f = tests p h in
    record {
      axioms = small_formulas (fixed_vocabulary p) p.axioms f.axioms;
      inits = small_formulas (own_vocabulary p) p.inits f.inits;
      actions = holds_from (IsSmallAction p) (action_fits p) (actions_fit p) (λ x xs. refl) (small_action p f.shapes) p.actions f.actions;
      fairs = holds_from IsSmallFair (fair_fits p) (fairs_fit p) (λ x xs. refl) (small_fair p) p.fairs f.fairs;
      labels = holds_from IsSmallLabel (label_fits p) (labels_fit p) (λ x xs. refl) (small_label p) p.labels f.labels;
      witnesses = small_witnesses p 0 p.witnesses f.witnesses;
      property = small_temporal_lists p.property (and_parts (is_small_temporal p.property) _ f.property).0;
      invariants = holds_from IsSmallInvariant (invariant_fits p) (invariants_fit p) (λ x xs. refl) (small_invariant p) p.invariants f.invariants;
    }
