-- When the parts of a system fit together: their scopes, sorts and limits. What concerns the table of labels is left aside.
use Rattle.std.specs.Prelude.{ℕ, zero, suc, Bool, true, false, ◌&&◌, not, leb, ltb, eqb, cond, List, [], ◌∷◌, ◌++◌, length, reverse, Option, Some, None}
use Rattle.std.specs.Borrow.{Bor}
use Rattle.lv_formula.specs.declared.symbols.SortId.{SortId}
use Rattle.lv_formula.specs.declared.terms.Term.{Term}
use Rattle.lv_formula.specs.declared.formula.Formula.{Formula}
use Rattle.lv_formula.specs.declared.temporal.Temporal.{Temporal}
use Rattle.lv_formula.specs.declared.temporal.Temporal.TheOpen.{Temporal-F, True, False, Atom, Same, Not, And, Or, Implies, Iff, All, Any, Always, Eventually}
use Rattle.lv_formula.specs.declared.temporal.Temporal.TheFolds.{fold-Temporal}
use Rattle.lv_formula.specs.declared.vocabulary.Vocabulary.{Vocabulary}
use Rattle.lv_formula.specs.Fits.{fits_in, fits_up_to, sort_of, is_sort}
use Rattle.lv_formula.specs.TemporalFits.{temporal_fits_in}
use Rattle.lv_system.specs.declared.parts.Parts.{Parts}
use Rattle.lv_system.specs.declared.parts.Symbol.{Symbol}
use Rattle.lv_system.specs.declared.parts.Shape.{Shape}
use Rattle.lv_system.specs.declared.parts.Shape.TheVariants as S
use Rattle.lv_system.specs.declared.parts.Action.{Action}
use Rattle.lv_system.specs.declared.parts.ActionUpdate.{ActionUpdate}
use Rattle.lv_system.specs.declared.parts.ActionUpdate.TheVariants.{Relation, Constant}
use Rattle.lv_system.specs.declared.parts.Fair.{Fair}
use Rattle.lv_system.specs.declared.parts.LabelDecl.{LabelDecl}
use Rattle.lv_system.specs.declared.parts.WitnessDecl.{WitnessDecl}
use Rattle.lv_system.specs.declared.parts.Invariant.{Invariant}
use Rattle.lv_system.specs.Vocabularies.{relation_sorts, constant_sort, fixed_vocabulary, own_vocabulary, witness_vocabulary}
use Rattle.lv_system.specs.InvariantWords.{invariant_vocabulary, is_label_word}
use Rattle.lv_system.specs.Step.{symbol_at}
use Rattle.lv_system.specs.Limits.{is_small, in_item, in_part, counts_fit}
use Rattle.lv_system.specs.TemporalLimits.{is_small_temporal}
use Rattle.lv_system.specs.Names.{names_fit}

-- the sort is one of the first so many
abbrev pub is_sort_below : ℕ → SortId → Bool
is_sort_below sorts sort = ltb sort.0 sorts

abbrev pub are_sorts_below : ℕ → List SortId → Bool
are_sorts_below sorts [] = true
are_sorts_below sorts (s ∷ ss) = is_sort_below sorts s && are_sorts_below sorts ss

-- at most four sorts, all of them there: the arguments of a relation, the parameters of an item
abbrev pub params_fit : ℕ → List SortId → Bool
params_fit sorts params = leb (length params) 4 && are_sorts_below sorts params

abbrev pub shape_fits : ℕ → Shape → Bool
shape_fits sorts (S.Relation params) = params_fit sorts params
shape_fits sorts (S.Constant sort) = is_sort_below sorts sort

abbrev pub shapes_fit : ℕ → List Symbol → Bool
shapes_fit sorts [] = true
shapes_fit sorts (s ∷ ss) = shape_fits sorts s.shape && shapes_fit sorts ss

-- the formula keeps its limits, and stands in the context over the vocabulary
abbrev pub formula_fits : ℕ → Vocabulary → List SortId → Formula → Bool
formula_fits lists voc context f = is_small lists f && fits_in voc context f

abbrev pub formulas_fit : Vocabulary → List Formula → Bool
formulas_fit voc [] = true
formulas_fit voc (f ∷ fs) = formula_fits in_item voc [] f && formulas_fit voc fs

abbrev pub temporal_fits : Vocabulary → List SortId → Temporal → Bool
temporal_fits voc context f = is_small_temporal f && temporal_fits_in voc context f

-- axioms use fixed symbols alone
abbrev pub axioms_fit : Parts → Bool
axioms_fit p = formulas_fit (fixed_vocabulary p) p.axioms

abbrev pub inits_fit : Parts → Bool
inits_fit p = formulas_fit (own_vocabulary p) p.inits

-- the symbol's shape, where actions may change it
abbrev pub changing_shape : Symbol → Option Shape
changing_shape s = cond s.fixed None (Some s.shape)

abbrev pub shape_lent : Option (Bor Shape) → Option Shape
shape_lent None = None
shape_lent (Some shape) = Some shape.now

-- the body stands in the parameters followed by the arguments of the relation
abbrev pub body_fits : Parts → List SortId → Formula → Option Shape → Bool
body_fits p params body None = false
body_fits p params body (Some (S.Relation sorts)) = formula_fits in_part (own_vocabulary p) (reverse (params ++ sorts)) body
body_fits p params body (Some (S.Constant sort)) = false

-- the term stands in the parameters and has the sort of the constant
abbrev pub term_fits : Parts → List SortId → Term → Option Shape → Bool
term_fits p params term None = false
term_fits p params term (Some (S.Relation sorts)) = false
term_fits p params term (Some (S.Constant sort)) = is_sort (sort_of (own_vocabulary p) (reverse params) term) sort

-- the update is of a changing symbol, a relation or a constant as the update says
abbrev pub update_fits : Parts → List SortId → ActionUpdate → Bool
update_fits p params (Relation symbol body) = body_fits p params body (changing_shape (symbol_at p symbol))
update_fits p params (Constant symbol term) = term_fits p params term (changing_shape (symbol_at p symbol))

abbrev pub updates_fit : Parts → List SortId → List ActionUpdate → Bool
updates_fit p params [] = true
updates_fit p params (u ∷ us) = update_fits p params u && updates_fit p params us

-- the number of the symbol that the update sets
abbrev pub target_of : ActionUpdate → ℕ
target_of (Relation symbol body) = symbol
target_of (Constant symbol term) = symbol

abbrev pub is_target : ℕ → List ActionUpdate → Bool
is_target symbol [] = false
is_target symbol (u ∷ us) = cond (eqb (target_of u) symbol) true (is_target symbol us)

-- no symbol is set twice
abbrev pub targets_differ : List ActionUpdate → Bool
targets_differ [] = true
targets_differ (u ∷ us) = not (is_target (target_of u) us) && targets_differ us

abbrev pub action_fits : Parts → Action → Bool
action_fits p a =
    params_fit (length p.sorts) a.params && (formula_fits in_part (own_vocabulary p) (reverse a.params) a.guard
    && (updates_fit p a.params a.updates && targets_differ a.updates))

abbrev pub actions_fit : Parts → List Action → Bool
actions_fit p [] = true
actions_fit p (a ∷ as') = action_fits p a && actions_fit p as'

abbrev pub fair_fits : Parts → Fair → Bool
fair_fits p c = params_fit (length p.sorts) c.params && formula_fits in_item (own_vocabulary p) (reverse c.params) c.condition

abbrev pub fairs_fit : Parts → List Fair → Bool
fairs_fit p [] = true
fairs_fit p (c ∷ cs) = fair_fits p c && fairs_fit p cs

abbrev pub is_always_step : Temporal-F Bool → Bool
is_always_step True = false
is_always_step False = false
is_always_step (Atom sym terms) = false
is_always_step (Same a b) = false
is_always_step (Not f) = false
is_always_step (And fs) = false
is_always_step (Or fs) = false
is_always_step (Implies a b) = false
is_always_step (Iff a b) = false
is_always_step (All sort f) = false
is_always_step (Any sort f) = false
is_always_step (Always f) = true
is_always_step (Eventually f) = false

-- the temporal formula is `always` of another
abbrev pub is_always : Temporal → Bool
is_always = fold-Temporal Bool is_always_step

abbrev pub label_fits : Parts → LabelDecl → Bool
label_fits p l = params_fit (length p.sorts) l.params && (is_always l.formula && temporal_fits (own_vocabulary p) (reverse l.params) l.formula)

abbrev pub labels_fit : Parts → List LabelDecl → Bool
labels_fit p [] = true
labels_fit p (l ∷ ls) = label_fits p l && labels_fit p ls

-- the formula of the witness with number n may use the witnesses before it
abbrev pub witness_fits : Parts → ℕ → WitnessDecl → Bool
witness_fits p n w = is_sort_below (length p.sorts) w.sort && temporal_fits (witness_vocabulary p n) (w.sort ∷ []) w.formula

-- the witnesses, of which the first has the number n
abbrev pub witnesses_fit : Parts → ℕ → List WitnessDecl → Bool
witnesses_fit p n [] = true
witnesses_fit p n (w ∷ ws) = witness_fits p n w && witnesses_fit p (suc n) ws

-- the property is closed and has no witness
abbrev pub property_fits : Parts → Bool
property_fits p = temporal_fits (own_vocabulary p) [] p.property

-- the invariant is closed; of the words of labels only the terms are looked at
abbrev pub invariant_fits : Parts → Invariant → Bool
invariant_fits p i = is_small in_item i.formula && fits_up_to (is_label_word p) (invariant_vocabulary p) [] i.formula

abbrev pub invariants_fit : Parts → List Invariant → Bool
invariants_fit p [] = true
invariants_fit p (i ∷ is') = invariant_fits p i && invariants_fit p is'

-- the parts meet the scopes, sorts and limits of systems
abbrev pub fits_parts : Parts → Bool
fits_parts p =
    counts_fit p && (names_fit p && (shapes_fit (length p.sorts) p.symbols && (axioms_fit p && (inits_fit p && (actions_fit p p.actions
    && (fairs_fit p p.fairs && (labels_fit p p.labels && (witnesses_fit p 0 p.witnesses && (property_fits p && invariants_fit p p.invariants)))))))))
