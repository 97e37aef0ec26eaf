-- What the laws on labels use of a system that fits: each formula stands over its vocabulary.
use Rattle.std.proofs.Common.{◌≡◌, ℕ, ◌<◌, true, false, List, [], ◌∷◌, ◌++◌, length, reverse, Option, Some, None, sym, ap, ◌∙◌, inl, inr}
use Rattle.std.proofs.lemmas.Bool.{and_parts, cases_lt, false≢true, true≢false}
use Rattle.std.proofs.lemmas.List.{get_or_past}
use Rattle.lv_formula.specs.declared.symbols.SortId.{SortId}
use Rattle.lv_formula.specs.Fits.{all_fit_in, fits_in, is_sort, sort_of}
use Rattle.lv_formula.specs.TemporalFits.{temporal_fits_in}
use Rattle.lv_formula.proofs.Induction.{Each}
use Rattle.lv_system.specs.declared.parts.Parts.{Parts}
use Rattle.lv_system.specs.declared.parts.ActionUpdate.{ActionUpdate}
use Rattle.lv_system.specs.declared.parts.ActionUpdate.TheVariants.{Relation, Constant}
use Rattle.lv_system.specs.Lasso.{fair_at}
use Rattle.lv_system.specs.Fits.{fits_parts, update_fits, updates_fit}
use Rattle.lv_system.proofs.FitsFacts.{FitConstant, FitRelation, Fitting, fit_constant, fit_relation, fitting, no_label}
use Rattle.lv_system.specs.Step.{action_at, no_symbol, symbol_at}
use Rattle.lv_system.specs.Vocabularies.{constant_sort, fixed_vocabulary, own_vocabulary, relation_sorts, witness_vocabulary}
use Rattle.lv_temporal.specs.TrueLabels.{witness_at}
use Rattle.lv_labels.proofs.Once.{each_from}
use Rattle.lv_labels.proofs.Sameness.{sort_true}

-- a sort that passes the test is there
pub is_sort_true : (o : Option SortId) (s : SortId) → is_sort o s ≡ true → o ≡ Some s
is_sort_true None s h = absurd (false≢true h)
is_sort_true (Some t) s h = ap Some (sort_true t s h)

-- an update sets a changing symbol, a relation by a formula over the parameters and the arguments, a constant by a term of its sort
abbrev pub UpdateFits : Parts → List SortId → ActionUpdate → Type 0
UpdateFits p params (Relation symbol body) = (sorts : List SortId) × (symbol < length p.symbols) × (relation_sorts (symbol_at p symbol).shape ≡ Some sorts) × ((symbol_at p symbol).fixed ≡ false)
    × (fits_in (own_vocabulary p) (reverse (params ++ sorts)) body ≡ true)
UpdateFits p params (Constant symbol term) = (sort : SortId) × (symbol < length p.symbols) × (constant_sort (symbol_at p symbol).shape ≡ Some sort) × ((symbol_at p symbol).fixed ≡ false)
    × (sort_of (own_vocabulary p) (reverse params) term ≡ Some sort)

-- each formula of the system stands over its vocabulary, in its context
pub record IsScoped (p : Parts) : Type 0 where
  pub axioms : all_fit_in (fixed_vocabulary p) [] p.axioms ≡ true
  pub inits : all_fit_in (own_vocabulary p) [] p.inits ≡ true
  pub guards : (n : ℕ) → n < length p.actions → fits_in (own_vocabulary p) (reverse (action_at p n).params) (action_at p n).guard ≡ true
  pub updates : (n : ℕ) → n < length p.actions → Each (UpdateFits p (action_at p n).params) (action_at p n).updates
  pub fairs : (j : ℕ) → j < length p.fairs → fits_in (own_vocabulary p) (reverse (fair_at p j).params) (fair_at p j).condition ≡ true
  pub labels : Each (λ l. temporal_fits_in (own_vocabulary p) (reverse l.params) l.formula ≡ true) p.labels
  pub witnesses : (k : ℕ) → k < length p.witnesses → temporal_fits_in (witness_vocabulary p k) ((witness_at p k).sort ∷ []) (witness_at p k).formula ≡ true
  pub property : temporal_fits_in (own_vocabulary p) [] p.property ≡ true

-- ---- systems that fit

unfixed_below : (p : Parts) (n : ℕ) → (symbol_at p n).fixed ≡ false → n < length p.symbols
unfixed_below p n h = elim (cases_lt n (length p.symbols)) [ inl b ↦ b | inr b ↦ absurd (true≢false (ap (λ s. s.fixed) (sym (get_or_past p.symbols n no_symbol b)) ∙ h)) ]

update_scoped : (p : Parts) (params : List SortId) (u : ActionUpdate) → update_fits p params u ≡ true → UpdateFits p params u
update_scoped p params (Relation symbol body) h = let r : FitRelation p params symbol body = fit_relation p params symbol body h in
    (r.sorts, unfixed_below p symbol r.changing, r.is, r.changing, r.fits)
update_scoped p params (Constant symbol term) h = let r : FitConstant p params symbol term = fit_constant p params symbol term h in
    (r.sort, unfixed_below p symbol r.changing, r.is, r.changing, is_sort_true (sort_of (own_vocabulary p) (reverse params) term) r.sort r.fits)

updates_scoped : (p : Parts) (params : List SortId) (us : List ActionUpdate) → updates_fit p params us ≡ true → Each (UpdateFits p params) us
updates_scoped p params [] h = tt
updates_scoped p params (u ∷ us) h = let both = and_parts (update_fits p params u) (updates_fit p params us) h in (update_scoped p params u both.0, updates_scoped p params us both.1)

-- the formulas of a system that fits stand over their vocabularies
pub scoped : (p : Parts) → fits_parts p ≡ true → IsScoped p
scoped p h = let f : Fitting p = fitting p h in record {
  axioms = f.axioms;
  inits = f.inits;
  guards = λ n lt. (f.actions n lt).guard;
  updates = λ n lt. updates_scoped p (action_at p n).params (action_at p n).updates (f.actions n lt).updates;
  fairs = λ j lt. (f.fairs j lt).condition;
  labels = each_from (λ l. temporal_fits_in (own_vocabulary p) (reverse l.params) l.formula ≡ true) no_label p.labels (λ n lt. (f.labels n lt).formula);
  witnesses = λ k lt. (f.witnesses k lt).formula;
  property = f.property;
}
