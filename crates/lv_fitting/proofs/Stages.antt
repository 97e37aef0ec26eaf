-- What is known behind the items of a kind, and that the items fit: sorts, symbols, axioms, conditions on the start, actions and
-- fairness conditions.
use Rattle.std.proofs.Common.{◌≡◌, ℕ, zero, suc, ◌+◌, ◌≤◌, Bool, true, false, not, ◌&&◌, cond, eqb, leb, ltb, List, [], ◌∷◌, ◌++◌, length, map, reverse, slice_get, Some, None, refl, sym, ap, ap₂, subst, ◌∙◌, arith, append_assoc}
use Rattle.std.proofs.lemmas.Bool.{and_from, and_parts, eq-eqb, eqb-false, ne_eqb}
use Rattle.std.proofs.lemmas.List.{append-nil, reverse-append, map-append}
use Rattle.lv_tree.specs.declared.tree.Tree.{Tree}
use Rattle.lv_formula.specs.declared.symbols.SortId.{SortId}
use Rattle.lv_formula.specs.declared.formula.Formula.{Formula}
use Rattle.lv_formula.specs.declared.terms.Term.{Term}
use Rattle.lv_formula.specs.declared.vocabulary.Vocabulary.{Vocabulary}
use Rattle.lv_formula.specs.Fits.{sort_of, is_sort}
use Rattle.lv_system.specs.declared.parts.Parts.{Parts}
use Rattle.lv_system.specs.declared.parts.Sort.{Sort}
use Rattle.lv_system.specs.declared.parts.Symbol.{Symbol}
use Rattle.lv_system.specs.declared.parts.Shape.{Shape}
use Rattle.lv_system.specs.declared.parts.Shape.TheVariants as S
use Rattle.lv_system.specs.declared.parts.Action.{Action}
use Rattle.lv_system.specs.declared.parts.ActionUpdate.{ActionUpdate}
use Rattle.lv_system.specs.declared.parts.ActionUpdate.TheVariants as U
use Rattle.lv_system.specs.declared.parts.Fair.{Fair}
use Rattle.lv_system.specs.Fits.{is_sort_below, are_sorts_below, params_fit, shape_fits, shapes_fit, formula_fits, formulas_fit, changing_shape, body_fits, term_fits, update_fits, updates_fit, target_of, is_target, targets_differ, action_fits, actions_fit, fair_fits, fairs_fit}
use Rattle.lv_system.specs.Step.{symbol_at, no_symbol}
use Rattle.lv_system.specs.Vocabularies.{own_vocabulary}
use Rattle.lv_labels.specs.declared.key.Key.{Key}
use Rattle.lv_grammar.specs.declared.reading.Named.{Named}
use Rattle.lv_grammar.specs.declared.reading.Named.TheVariants as N
use Rattle.lv_grammar.specs.declared.reading.Role.{Role}
use Rattle.lv_grammar.specs.declared.reading.Role.TheVariants as R
use Rattle.lv_grammar.specs.Grammar.{Each, nothing, first_and_rest}
use Rattle.lv_grammar.specs.Words.{Variable}
use Rattle.lv_grammar.specs.Known.{Entry, Known, named, IsSortName}
use Rattle.lv_grammar.specs.KnownOf.{AllRight}
use Rattle.lv_grammar.specs.Agrees.{Agrees}
use Rattle.lv_grammar.specs.Sections.{Spell, none, one}
use Rattle.lv_grammar.specs.Rules.{sorts_of, Binds, ArePairs, no_pairs, pairs, AreParameters, IsSort, add_sort, IsShape, relation, constant, IsDeclared, add_symbol, IsLone, add_nothing, IsTarget, IsUpdate, AreUpdates, no_updates, updates, IsAction, add_action, IsFair, add_fair, label_number, label_numbers}
use Rattle.lv_grammar.specs.Rules as Rules
use Rattle.lv_fitting.proofs.Entries.{at_length, one_more, item_there, right_behind, what_right, AreEarly, early_behind, Along}
use Rattle.lv_fitting.proofs.FormulaFits.{sorted}
use Rattle.lv_fitting.proofs.SaidWords.{sort_below, own_agrees}
use Rattle.lv_fitting.proofs.StateFacts.{state_fits}
use Rattle.lv_fitting.proofs.Tests.{not_not}

-- how many sorts, symbols, fairness conditions and witnesses there are, the table of labels, and the numbers of declared labels
pub record Stage (p : Parts) (s y f w : ℕ) (ks : List Key) (ns : List ℕ) (k : Known) : Type 0 where
  pub right : AllRight p k.names
  pub early : AreEarly w k.names
  pub sorts : k.sorts ≡ s
  pub symbols : k.symbols ≡ y
  pub fairs : k.fairs ≡ f
  pub witnesses : k.witnesses ≡ w
  pub keys : k.keys ≡ ks
  pub numbers : label_numbers k.names ≡ ns

pub numbers_behind : (es : List Entry) (name : List ℕ) (what : Named) → label_numbers (es ++ (name, what) ∷ []) ≡ label_numbers es ++ label_number what
numbers_behind [] name what = append-nil (label_number what)
numbers_behind (e ∷ es) name what = ap (λ z. label_number e.1 ++ z) (numbers_behind es name what) ∙ sym (append_assoc (label_number e.1) (label_numbers es) (label_number what))

-- no label is declared
pub no_number : (es : List Entry) (name : List ℕ) (what : Named) (ns : List ℕ) → label_number what ≡ [] → label_numbers es ≡ ns → label_numbers (es ++ (name, what) ∷ []) ≡ ns
no_number es name what ns without e = numbers_behind es name what ∙ ap₂ (λ a b. a ++ b) e without ∙ append-nil ns

pub counted : {X : Type 0} (n : ℕ) (front : List X) (x : X) → n ≡ length front → suc n ≡ length (front ++ x ∷ [])
counted n front x e = ap suc e ∙ sym (one_more front x)

-- the next item has the number of those before it
pub next_there : {X : Type 0} (whole front rest : List X) (x : X) (n : ℕ) → whole ≡ front ++ x ∷ rest → n ≡ length front → slice_get whole n ≡ Some x
next_there whole front rest x n e c = ap₂ slice_get e c ∙ at_length front x rest

module _ (p : Parts) where
  -- ---- sorts

  pub sort_step : (front rest : List Sort) (k : Known) (x : Sort) (t : Tree) → p.sorts ≡ front ++ x ∷ rest → Stage p (length front) 0 0 0 [] [] k → IsSort k x t
      → Unit {0} × Stage p (length (front ++ x ∷ [])) 0 0 0 [] [] (add_sort k x)
  sort_step front rest k x t e st is = (
    tt,
    record {
      right = right_behind p k.names x.name (N.Sort k.sorts) st.right (x, next_there p.sorts front rest x k.sorts e st.sorts, refl);
      early = early_behind 0 k.names x.name (N.Sort k.sorts) st.early tt;
      sorts = counted k.sorts front x st.sorts;
      symbols = st.symbols;
      fairs = st.fairs;
      witnesses = st.witnesses;
      keys = st.keys;
      numbers = no_number k.names x.name (N.Sort k.sorts) [] refl st.numbers;
    },
  )

  -- ---- symbols

  pub sorts_below : (k : Known) → AllRight p k.names → (ss : List SortId) (ts : List Tree) → Each (IsSortName k) ss ts → are_sorts_below (length p.sorts) ss ≡ true
  sorts_below k a [] ts nothing = refl
  sorts_below k a (s ∷ ss) ts (first_and_rest {t = t} {ts = us} is rest) = and_from (is_sort_below (length p.sorts) s) _ (sort_below k p a s t is) (sorts_below k a ss us rest)

  shape_right : (k : Known) → AllRight p k.names → (shape : Shape) (word : List ℕ) (t : Tree) → IsShape k shape word t → shape_fits (length p.sorts) shape ≡ true
  shape_right k a shape word t (relation {sorts = ss} items list each few) = and_from (leb (length ss) 4) _ few (sorts_below k a ss items each)
  shape_right k a shape word t (constant {sort = s} is) = sort_below k p a s t is

  pub symbol_step : (s : ℕ) (front rest : List Symbol) (k : Known) (x : Symbol) (t : Tree) → p.symbols ≡ front ++ x ∷ rest → Stage p s (length front) 0 0 [] [] k → IsDeclared k x t
      → (shape_fits (length p.sorts) x.shape ≡ true) × Stage p s (length (front ++ x ∷ [])) 0 0 [] [] (add_symbol k x)
  symbol_step s front rest k x t e st is = (
    shape_right k st.right x.shape is.word is.a is.shape,
    record {
      right = right_behind p k.names x.name (N.Symbol k.symbols x.shape x.fixed) st.right (next_there p.symbols front rest x k.symbols e st.symbols);
      early = early_behind 0 k.names x.name (N.Symbol k.symbols x.shape x.fixed) st.early tt;
      sorts = st.sorts;
      symbols = counted k.symbols front x st.symbols;
      fairs = st.fairs;
      witnesses = st.witnesses;
      keys = st.keys;
      numbers = no_number k.names x.name (N.Symbol k.symbols x.shape x.fixed) [] refl st.numbers;
    },
  )

  pub all_shapes : (front xs : List Symbol) → Along (λ front x. shape_fits (length p.sorts) x.shape ≡ true) front xs → shapes_fit (length p.sorts) xs ≡ true
  all_shapes front [] a = refl
  all_shapes front (x ∷ xs) a = and_from (shape_fits (length p.sorts) x.shape) _ a.0 (all_shapes (front ++ x ∷ []) xs a.1)

  -- ---- parameters

  pairs_below : (k : Known) → AllRight p k.names → (vs xs : List Variable) (ts : List Tree) → ArePairs k vs xs ts → are_sorts_below (length p.sorts) (sorts_of xs) ≡ true
  pairs_below k a vs xs ts no_pairs = refl
  pairs_below k a vs xs ts (pairs {x = x} {xs = ys} {s = s} {ts = us} binds rest) = and_from (is_sort_below (length p.sorts) x.sort) _ (sort_below k p a x.sort s binds.sort) (pairs_below k a (x ∷ vs) ys us rest)

  length_of_sorts : (xs : List Variable) → length (sorts_of xs) ≡ length xs
  length_of_sorts [] = refl
  length_of_sorts (x ∷ xs) = ap suc (length_of_sorts xs)

  pub parameters_fit : (k : Known) → AllRight p k.names → (sorts : List SortId) (xs : List Variable) (t : Tree) → AreParameters k sorts xs t → params_fit (length p.sorts) sorts ≡ true
  parameters_fit k a sorts xs t is =
      subst (λ z. params_fit (length p.sorts) z ≡ true) is.ranges
      (and_from (leb (length (sorts_of xs)) 4) _ (ap (λ n. leb n 4) (length_of_sorts xs) ∙ is.few) (pairs_below k a [] xs is.items is.pairs))

map_reverse : {X Y : Type 0} (f : X → Y) (xs : List X) → map f (reverse xs) ≡ reverse (map f xs)
map_reverse f [] = refl
map_reverse f (x ∷ xs) = ap (map f) (reverse-append (x ∷ []) xs) ∙ map-append f (reverse xs) (x ∷ []) ∙ ap (λ z. z ++ f x ∷ []) (map_reverse f xs) ∙ sym (reverse-append (f x ∷ []) (map f xs))

-- the sorts of the scope of variables
pub scope_sorts : (xs : List Variable) (sorts : List SortId) → sorts_of xs ≡ sorts → sorts_of (reverse xs) ≡ reverse sorts
scope_sorts xs sorts e = map_reverse (λ (v : Variable). v.sort) xs ∙ ap reverse e

-- ---- formulas of a state

pub lones_fit : (voc : Vocabulary) (word : List ℕ) (role : Role) {room : ℕ} {k d : Known} {xs : List Formula} {ts : List Tree} → Agrees k role voc → Spell (IsLone word role 58 []) add_nothing room k xs ts d → formulas_fit voc xs ≡ true
lones_fit voc word role g none = refl
lones_fit voc word role {k = k} g (one {x = f} is rest) = and_from (formula_fits 58 voc [] f) _ (state_fits k role voc g 58 [] f is.a is.formula) (lones_fit voc word role g rest)

pub nothing_added : {X : Type 0} {Is : Known → X → Tree → Type 0} {room : ℕ} {k d : Known} {xs : List X} {ts : List Tree} → Spell Is add_nothing room k xs ts d → d ≡ k
nothing_added none = refl
nothing_added (one is more) = nothing_added more

-- ---- symbols are set once

target_further : (s : ℕ) (us : List ActionUpdate) (u : ActionUpdate) → is_target s us ≡ false → eqb (target_of u) s ≡ false → is_target s (us ++ u ∷ []) ≡ false
target_further s [] u e h = rw h refl
target_further s (v ∷ us) u e h = go (eqb (target_of v) s) (target_further s us u) e where
  go : (b : Bool) → (is_target s us ≡ false → eqb (target_of u) s ≡ false → is_target s (us ++ u ∷ []) ≡ false) → cond b true (is_target s us) ≡ false → cond b true (is_target s (us ++ u ∷ [])) ≡ false
  go true rest e = absurd cc
  go false rest e = rest e h

first_apart : (s : ℕ) (v : ActionUpdate) (us : List ActionUpdate) → is_target s (v ∷ us) ≡ false → (eqb (target_of v) s ≡ false) × (is_target s us ≡ false)
first_apart s v us e = go (eqb (target_of v) s) refl e where
  go : (b : Bool) → eqb (target_of v) s ≡ b → cond b true (is_target s us) ≡ false → (eqb (target_of v) s ≡ false) × (is_target s us ≡ false)
  go true h e = absurd cc
  go false h e = (h, e)

eqb_turned : (a b : ℕ) → eqb a b ≡ false → eqb b a ≡ false
eqb_turned a b e = ne_eqb b a (λ h. eqb-false a b e (sym h))

one_more_target : (us : List ActionUpdate) (u : ActionUpdate) → targets_differ us ≡ true → is_target (target_of u) us ≡ false → targets_differ (us ++ u ∷ []) ≡ true
one_more_target [] u d e = refl
one_more_target (v ∷ us) u d e =
    let a = first_apart (target_of u) v us e in
    let b = and_parts (not (is_target (target_of v) us)) (targets_differ us) d in
    let c = target_further (target_of v) us u (not_not (is_target (target_of v) us) b.0) (eqb_turned (target_of v) (target_of u) a.0) in
    and_from (not (is_target (target_of v) (us ++ u ∷ []))) _ (ap not c) (one_more_target us u b.1 a.1)

module _ (p : Parts) (k : Known) (a : AllRight p k.names) where
  -- ---- updates, in the scope of parameters

  abbrev own : Agrees k R.State (own_vocabulary p)
  own = own_agrees k p a R.State refl refl

  changing : (done : List ActionUpdate) (n : ℕ) (shape : Shape) (t : Tree) → IsTarget k done n shape t → changing_shape (symbol_at p n) ≡ Some shape
  unfolding named
  changing done n shape t is =
      let r = what_right p k.names is.text (N.Symbol n shape false) a is.changing in
      ap changing_shape (item_there p.symbols n _ no_symbol r)

  body_sorts : (vs xs : List Variable) (params sorts : List SortId) → sorts_of vs ≡ reverse params → sorts_of xs ≡ sorts → sorts_of (reverse xs ++ vs) ≡ reverse (params ++ sorts)
  body_sorts vs xs params sorts e h = map-append (λ (v : Variable). v.sort) (reverse xs) vs ∙ ap₂ (λ a b. a ++ b) (scope_sorts xs sorts h) e ∙ sym (reverse-append params sorts)

  update_right : (vs : List Variable) (params : List SortId) (done : List ActionUpdate) (u : ActionUpdate) (t : Tree) → sorts_of vs ≡ reverse params → IsUpdate k vs done u t
      → (update_fits p params u ≡ true) × (is_target (target_of u) done ≡ false)
  update_right vs params done u t scope (Rules.relation {n = n} {sorts = sorts} {body = body} xs r args b begins target names is) =
      let context = body_sorts vs xs params sorts scope names.ranges in (
        ap (body_fits p params body) (changing done n (S.Relation sorts) r target)
            ∙ subst (λ z. formula_fits 57 (own_vocabulary p) z body ≡ true) context (state_fits k R.State (own_vocabulary p) own 57 (reverse xs ++ vs) body b is),
        target.once,
      )
  update_right vs params done u t scope (Rules.constant {n = n} {sort = sort} {term = x} c b begins target is) =
      let found : sort_of (own_vocabulary p) (reverse params) x ≡ Some sort = subst (λ z. sort_of (own_vocabulary p) z x ≡ Some sort) scope (sorted (own_vocabulary p) own is) in
      (ap (term_fits p params x) (changing done n (S.Constant sort) c target) ∙ ap (λ o. is_sort o sort) found ∙ eq-eqb sort.0 sort.0 refl, target.once)

  updates_right : (vs : List Variable) (params : List SortId) (done us : List ActionUpdate) (ts : List Tree) → sorts_of vs ≡ reverse params → AreUpdates k vs done us ts → targets_differ done ≡ true
      → (updates_fit p params us ≡ true) × (targets_differ (done ++ us) ≡ true)
  updates_right vs params done us ts scope no_updates d = (refl, ap targets_differ (append-nil done) ∙ d)
  updates_right vs params done us ts scope (updates {us = vs'} {u = u} {t = t} {ts = rest} is are) d =
      let x = update_right vs params done u t scope is in
      let y = updates_right vs params (done ++ u ∷ []) vs' rest scope are (one_more_target done u d x.1) in
      (and_from (update_fits p params u) _ x.0 y.0, ap targets_differ (sym (append_assoc done (u ∷ []) vs')) ∙ y.1)

  -- ---- actions and fairness conditions

  pub action_right : (x : Action) (t : Tree) → IsAction k x t → action_fits p x ≡ true
  action_right x t is =
      let scope = scope_sorts is.variables x.params is.parameters.ranges in
      let guard = subst (λ z. formula_fits 57 (own_vocabulary p) z x.guard ≡ true) scope (state_fits k R.State (own_vocabulary p) own 57 (reverse is.variables) x.guard is.guarded.a is.guarded.formula) in
      let changes = updates_right (reverse is.variables) x.params [] x.updates is.changes scope is.updated refl in
      and_from (params_fit (length p.sorts) x.params) _ (parameters_fit p k a x.params is.variables is.params is.parameters)
      (and_from (formula_fits 57 (own_vocabulary p) (reverse x.params) x.guard) _ guard (and_from (updates_fit p x.params x.updates) _ changes.0 changes.1))

  pub fair_right : (x : Fair) (t : Tree) → IsFair k x t → fair_fits p x ≡ true
  fair_right x t is =
      let scope = scope_sorts is.variables x.params is.parameters.ranges in
      and_from (params_fit (length p.sorts) x.params) _ (parameters_fit p k a x.params is.variables is.params is.parameters)
      (subst (λ z. formula_fits 58 (own_vocabulary p) z x.condition ≡ true) scope (state_fits k R.State (own_vocabulary p) own 58 (reverse is.variables) x.condition is.a is.formula))

module _ (p : Parts) (s y : ℕ) where
  pub action_step : (front rest : List Action) (k : Known) (x : Action) (t : Tree) → p.actions ≡ front ++ x ∷ rest → Stage p s y 0 0 [] [] k → IsAction k x t
      → (action_fits p x ≡ true) × Stage p s y 0 0 [] [] (add_action k x)
  action_step front rest k x t e st is = (
    action_right p k st.right x t is,
    record {
      right = right_behind p k.names x.name N.Action st.right tt;
      early = early_behind 0 k.names x.name N.Action st.early tt;
      sorts = st.sorts;
      symbols = st.symbols;
      fairs = st.fairs;
      witnesses = st.witnesses;
      keys = st.keys;
      numbers = no_number k.names x.name N.Action [] refl st.numbers;
    },
  )

  pub all_actions : (front xs : List Action) → Along (λ front x. action_fits p x ≡ true) front xs → actions_fit p xs ≡ true
  all_actions front [] a = refl
  all_actions front (x ∷ xs) a = and_from (action_fits p x) _ a.0 (all_actions (front ++ x ∷ []) xs a.1)

  pub fair_step : (front rest : List Fair) (k : Known) (x : Fair) (t : Tree) → p.fairs ≡ front ++ x ∷ rest → Stage p s y (length front) 0 [] [] k → IsFair k x t
      → (fair_fits p x ≡ true) × Stage p s y (length (front ++ x ∷ [])) 0 [] [] (add_fair k x)
  fair_step front rest k x t e st is = (
    fair_right p k st.right x t is,
    record {
      right = right_behind p k.names x.name (N.Fair k.fairs x.params) st.right (x, next_there p.fairs front rest x k.fairs e st.fairs, refl, refl);
      early = early_behind 0 k.names x.name (N.Fair k.fairs x.params) st.early tt;
      sorts = st.sorts;
      symbols = st.symbols;
      fairs = counted k.fairs front x st.fairs;
      witnesses = st.witnesses;
      keys = st.keys;
      numbers = no_number k.names x.name (N.Fair k.fairs x.params) [] refl st.numbers;
    },
  )

  pub all_fairs : (front xs : List Fair) → Along (λ front x. fair_fits p x ≡ true) front xs → fairs_fit p xs ≡ true
  all_fairs front [] a = refl
  all_fairs front (x ∷ xs) a = and_from (fair_fits p x) _ a.0 (all_fairs (front ++ x ∷ []) xs a.1)
