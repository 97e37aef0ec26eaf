-- What it says of a system that its parts fit.
use Rattle.std.proofs.Common.{◌≡◌, ℕ, zero, suc, ◌+◌, ◌<◌, ◌≤◌, Bool, true, false, ◌&&◌, cond, eqb, leb, ltb, List, [], ◌∷◌, ◌++◌, length, reverse, get_or, Some, None, refl, sym, ap, subst, ◌∙◌, arith}
use Rattle.std.proofs.lemmas.Bool.{and_parts, and_from, leb-true, ltb-true, ne_eqb}
use Rattle.lv_formula.specs.declared.symbols.SortId.{SortId}
use Rattle.lv_formula.specs.declared.symbols.Sym.TheVariants.{Own}
use Rattle.lv_formula.specs.declared.terms.Term.{Term}
use Rattle.lv_formula.specs.declared.formula.Formula.{Formula}
use Rattle.lv_formula.specs.declared.temporal.Temporal.TheVariants.{True}
use Rattle.lv_formula.specs.declared.vocabulary.Vocabulary.{Vocabulary}
use Rattle.lv_formula.specs.Fits.{fits_in, all_fit_in, sort_of, is_sort}
use Rattle.lv_formula.specs.TemporalFits.{temporal_fits_in}
use Rattle.lv_formula.specs.Meaning.{Meaning}
use Rattle.lv_system.specs.declared.parts.Parts.{Parts}
use Rattle.lv_system.specs.declared.parts.Symbol.{Symbol}
use Rattle.lv_system.specs.declared.parts.Shape.{Shape}
use Rattle.lv_system.specs.declared.parts.Shape.TheVariants as S
use Rattle.lv_system.specs.declared.parts.Action.{Action}
use Rattle.lv_system.specs.declared.parts.ActionUpdate.{ActionUpdate}
use Rattle.lv_system.specs.declared.parts.ActionUpdate.TheVariants.{Relation, Constant}
use Rattle.lv_system.specs.declared.parts.Fair.{Fair}
use Rattle.lv_system.specs.declared.parts.LabelDecl.{LabelDecl}
use Rattle.lv_system.specs.declared.parts.WitnessDecl.{WitnessDecl}
use Rattle.lv_system.specs.Vocabularies.{relation_sorts, constant_sort, fixed_vocabulary, own_vocabulary, witness_vocabulary}
use Rattle.lv_system.specs.Step.{symbol_at, action_at, no_action, no_symbol, set_holds, set_value}
use Rattle.lv_system.specs.Lasso.{fair_at, no_fair}
use Rattle.lv_system.specs.Limits.{is_small, in_item, in_part, counts_fit}
use Rattle.lv_system.specs.TemporalLimits.{is_small_temporal}
use Rattle.lv_system.specs.Names.{names_fit}
use Rattle.lv_system.specs.Fits.{is_sort_below, are_sorts_below, params_fit, shape_fits, shapes_fit, formula_fits, formulas_fit, axioms_fit, inits_fit, body_fits, term_fits, update_fits, updates_fit, target_of, targets_differ, action_fits, actions_fit, fair_fits, fairs_fit, is_always, label_fits, labels_fit, witness_fits, witnesses_fit, property_fits, invariants_fit, fits_parts}

-- what stands for a label declaration, a witness, an invariant that is not there
abbrev pub no_label : LabelDecl
no_label = record { name = []; params = []; formula = True }

abbrev pub no_witness : WitnessDecl
no_witness = record { name = []; sort = record { 0 = 0 }; formula = True }

-- a test of a list that is a test of each item
pub at_each : {X : Type 0} (test : X → Bool) (all : List X → Bool) → ((x : X) (xs : List X) → all (x ∷ xs) ≡ (test x && all xs))
    → (d : X) (xs : List X) → all xs ≡ true → (i : ℕ) → i < length xs → test (get_or xs i d) ≡ true
at_each test all parted d [] h i lt = absurd (omega (arith, lt))
at_each test all parted d (x ∷ xs) h zero lt = (and_parts (test x) (all xs) (sym (parted x xs) ∙ h)).0
at_each test all parted d (x ∷ xs) h (suc i) lt = at_each test all parted d xs (and_parts (test x) (all xs) (sym (parted x xs) ∙ h)).1 i (omega (arith, lt))

-- at most four sorts, all of them there
pub record FitParams (p : Parts) (params : List SortId) : Type 0 where
  pub few : length params ≤ 4
  pub there : are_sorts_below (length p.sorts) params ≡ true

pub record FitAction (p : Parts) (a : Action) : Type 0 where
  pub params : FitParams p a.params
  pub guard : fits_in (own_vocabulary p) (reverse a.params) a.guard ≡ true
  pub small : is_small in_part a.guard ≡ true
  pub updates : updates_fit p a.params a.updates ≡ true
  pub once : targets_differ a.updates ≡ true

pub record FitFair (p : Parts) (c : Fair) : Type 0 where
  pub params : FitParams p c.params
  pub condition : fits_in (own_vocabulary p) (reverse c.params) c.condition ≡ true
  pub small : is_small in_item c.condition ≡ true

pub record FitLabel (p : Parts) (l : LabelDecl) : Type 0 where
  pub params : FitParams p l.params
  pub always : is_always l.formula ≡ true
  pub formula : temporal_fits_in (own_vocabulary p) (reverse l.params) l.formula ≡ true
  pub small : is_small_temporal l.formula ≡ true

pub record FitWitness (p : Parts) (n : ℕ) (w : WitnessDecl) : Type 0 where
  pub sort : w.sort.0 < length p.sorts
  pub formula : temporal_fits_in (witness_vocabulary p n) (w.sort ∷ []) w.formula ≡ true
  pub small : is_small_temporal w.formula ≡ true

-- how many items there are at most
pub record FewItems (p : Parts) : Type 0 where
  pub sorts : length p.sorts ≤ 16
  pub symbols : length p.symbols ≤ 256
  pub axioms : length p.axioms ≤ 64
  pub inits : length p.inits ≤ 64
  pub actions : length p.actions ≤ 32
  pub fairs : length p.fairs ≤ 16
  pub labels : length p.labels ≤ 32
  pub witnesses : length p.witnesses ≤ 16
  pub invariants : length p.invariants ≤ 256

-- all that it says of parts that they fit
pub record Fitting (p : Parts) : Type 0 where
  pub few : FewItems p
  pub names : names_fit p ≡ true
  pub shapes : (n : ℕ) → n < length p.symbols → shape_fits (length p.sorts) (symbol_at p n).shape ≡ true
  pub axioms : all_fit_in (fixed_vocabulary p) [] p.axioms ≡ true
  pub inits : all_fit_in (own_vocabulary p) [] p.inits ≡ true
  pub actions : (n : ℕ) → n < length p.actions → FitAction p (action_at p n)
  pub fairs : (j : ℕ) → j < length p.fairs → FitFair p (fair_at p j)
  pub labels : (n : ℕ) → n < length p.labels → FitLabel p (get_or p.labels n no_label)
  pub witnesses : (n : ℕ) → n < length p.witnesses → FitWitness p n (get_or p.witnesses n no_witness)
  pub property : temporal_fits_in (own_vocabulary p) [] p.property ≡ true
  pub small : is_small_temporal p.property ≡ true
  pub invariants : invariants_fit p p.invariants ≡ true

pub few_items : (p : Parts) → counts_fit p ≡ true → FewItems p
few_items p h =
    let a = and_parts (leb (length p.sorts) 16) _ h in
    let b = and_parts (leb (length p.symbols) 256) _ a.1 in
    let c = and_parts (leb (length p.axioms) 64) _ b.1 in
    let d = and_parts (leb (length p.inits) 64) _ c.1 in
    let e = and_parts (leb (length p.actions) 32) _ d.1 in
    let f = and_parts (leb (length p.fairs) 16) _ e.1 in
    let g = and_parts (leb (length p.labels) 32) _ f.1 in
    let i = and_parts (leb (length p.witnesses) 16) _ g.1 in
    record {
      sorts = leb-true _ _ a.0;
      symbols = leb-true _ _ b.0;
      axioms = leb-true _ _ c.0;
      inits = leb-true _ _ d.0;
      actions = leb-true _ _ e.0;
      fairs = leb-true _ _ f.0;
      labels = leb-true _ _ g.0;
      witnesses = leb-true _ _ i.0;
      invariants = leb-true _ _ i.1;
    }

all_fit : (voc : Vocabulary) (fs : List Formula) → formulas_fit voc fs ≡ true → all_fit_in voc [] fs ≡ true
all_fit voc [] h = refl
all_fit voc (f ∷ fs) h =
    let both = and_parts (formula_fits in_item voc [] f) (formulas_fit voc fs) h in
    and_from (fits_in voc [] f) (all_fit_in voc [] fs) (and_parts (is_small in_item f) (fits_in voc [] f) both.0).1 (all_fit voc fs both.1)

fit_params : (p : Parts) (params : List SortId) → params_fit (length p.sorts) params ≡ true → FitParams p params
fit_params p params h = let both = and_parts (leb (length params) 4) (are_sorts_below (length p.sorts) params) h in
    record { few = leb-true _ _ both.0; there = both.1 }

pub fit_action : (p : Parts) (a : Action) → action_fits p a ≡ true → FitAction p a
fit_action p a h =
    let b = and_parts (params_fit (length p.sorts) a.params) _ h in
    let c = and_parts (formula_fits in_part (own_vocabulary p) (reverse a.params) a.guard) _ b.1 in
    let g = and_parts (is_small in_part a.guard) (fits_in (own_vocabulary p) (reverse a.params) a.guard) c.0 in
    let d = and_parts (updates_fit p a.params a.updates) (targets_differ a.updates) c.1 in
    record { params = fit_params p a.params b.0; guard = g.1; small = g.0; updates = d.0; once = d.1 }

pub fit_fair : (p : Parts) (c : Fair) → fair_fits p c ≡ true → FitFair p c
fit_fair p c h =
    let b = and_parts (params_fit (length p.sorts) c.params) _ h in
    let d = and_parts (is_small in_item c.condition) (fits_in (own_vocabulary p) (reverse c.params) c.condition) b.1 in
    record { params = fit_params p c.params b.0; condition = d.1; small = d.0 }

pub fit_label : (p : Parts) (l : LabelDecl) → label_fits p l ≡ true → FitLabel p l
fit_label p l h =
    let b = and_parts (params_fit (length p.sorts) l.params) _ h in
    let c = and_parts (is_always l.formula) _ b.1 in
    let d = and_parts (is_small_temporal l.formula) (temporal_fits_in (own_vocabulary p) (reverse l.params) l.formula) c.1 in
    record { params = fit_params p l.params b.0; always = c.0; formula = d.1; small = d.0 }

pub fit_witness : (p : Parts) (n : ℕ) (w : WitnessDecl) → witness_fits p n w ≡ true → FitWitness p n w
fit_witness p n w h =
    let b = and_parts (is_sort_below (length p.sorts) w.sort) _ h in
    let c = and_parts (is_small_temporal w.formula) (temporal_fits_in (witness_vocabulary p n) (w.sort ∷ []) w.formula) b.1 in
    record { sort = ltb-true _ _ b.0; formula = c.1; small = c.0 }

each_witness : (p : Parts) (k : ℕ) (ws : List WitnessDecl) → witnesses_fit p k ws ≡ true → (i n : ℕ) → n ≡ k + i → i < length ws → witness_fits p n (get_or ws i no_witness) ≡ true
each_witness p k [] h i n e lt = absurd (omega (arith, lt))
each_witness p k (w ∷ ws) h zero n e lt =
    let same : k ≡ n = omega (arith, e) in
    subst (λ m. witness_fits p m w ≡ true) same (and_parts (witness_fits p k w) (witnesses_fit p (suc k) ws) h).0
each_witness p k (w ∷ ws) h (suc i) n e lt =
    each_witness p (suc k) ws (and_parts (witness_fits p k w) (witnesses_fit p (suc k) ws) h).1 i n (omega (arith, e)) (omega (arith, lt))

each_shape : (sorts : ℕ) (ss : List Symbol) → shapes_fit sorts ss ≡ true → (n : ℕ) → n < length ss → shape_fits sorts (get_or ss n no_symbol).shape ≡ true
each_shape sorts ss = at_each (λ s. shape_fits sorts s.shape) (shapes_fit sorts) (λ x xs. refl) no_symbol ss

-- the tests of which the test of parts is made
pub record Tests (p : Parts) : Type 0 where
  pub counts : counts_fit p ≡ true
  pub names : names_fit p ≡ true
  pub shapes : shapes_fit (length p.sorts) p.symbols ≡ true
  pub axioms : axioms_fit p ≡ true
  pub inits : inits_fit p ≡ true
  pub actions : actions_fit p p.actions ≡ true
  pub fairs : fairs_fit p p.fairs ≡ true
  pub labels : labels_fit p p.labels ≡ true
  pub witnesses : witnesses_fit p 0 p.witnesses ≡ true
  pub property : property_fits p ≡ true
  pub invariants : invariants_fit p p.invariants ≡ true

pub tests : (p : Parts) → fits_parts p ≡ true → Tests p
tests p h =
    let counts = and_parts (counts_fit p) _ h in
    let names = and_parts (names_fit p) _ counts.1 in
    let shapes = and_parts (shapes_fit (length p.sorts) p.symbols) _ names.1 in
    let axioms = and_parts (axioms_fit p) _ shapes.1 in
    let inits = and_parts (inits_fit p) _ axioms.1 in
    let actions = and_parts (actions_fit p p.actions) _ inits.1 in
    let fairs = and_parts (fairs_fit p p.fairs) _ actions.1 in
    let labels = and_parts (labels_fit p p.labels) _ fairs.1 in
    let witnesses = and_parts (witnesses_fit p 0 p.witnesses) _ labels.1 in
    let property = and_parts (property_fits p) (invariants_fit p p.invariants) witnesses.1 in
    record {
      counts = counts.0;
      names = names.0;
      shapes = shapes.0;
      axioms = axioms.0;
      inits = inits.0;
      actions = actions.0;
      fairs = fairs.0;
      labels = labels.0;
      witnesses = witnesses.0;
      property = property.0;
      invariants = property.1;
    }

-- parts that fit
pub fitting : (p : Parts) → fits_parts p ≡ true → Fitting p
fitting p h =
    let t = tests p h in
    let path = and_parts (is_small_temporal p.property) (temporal_fits_in (own_vocabulary p) [] p.property) t.property in
    record {
      few = few_items p t.counts;
      names = t.names;
      shapes = each_shape (length p.sorts) p.symbols t.shapes;
      axioms = all_fit (fixed_vocabulary p) p.axioms t.axioms;
      inits = all_fit (own_vocabulary p) p.inits t.inits;
      actions = λ n lt. fit_action p (action_at p n) (at_each (action_fits p) (actions_fit p) (λ x xs. refl) no_action p.actions t.actions n lt);
      fairs = λ n lt. fit_fair p (fair_at p n) (at_each (fair_fits p) (fairs_fit p) (λ x xs. refl) no_fair p.fairs t.fairs n lt);
      labels = λ n lt. fit_label p (get_or p.labels n no_label) (at_each (label_fits p) (labels_fit p) (λ x xs. refl) no_label p.labels t.labels n lt);
      witnesses = λ n lt. fit_witness p n (get_or p.witnesses n no_witness) (each_witness p 0 p.witnesses t.witnesses n n (omega arith) lt);
      property = path.1;
      small = path.0;
      invariants = t.invariants;
    }

-- An update of a relation that fits: the symbol is a relation that isn't fixed, and the body stands in the parameters
-- followed by its arguments.
pub record FitRelation (p : Parts) (params : List SortId) (symbol : ℕ) (body : Formula) : Type 0 where
  pub sorts : List SortId
  pub is : relation_sorts (symbol_at p symbol).shape ≡ Some sorts
  pub changing : (symbol_at p symbol).fixed ≡ false
  pub fits : fits_in (own_vocabulary p) (reverse (params ++ sorts)) body ≡ true
  pub small : is_small in_part body ≡ true

-- an update of a constant that fits
pub record FitConstant (p : Parts) (params : List SortId) (symbol : ℕ) (term : Term) : Type 0 where
  pub sort : SortId
  pub is : constant_sort (symbol_at p symbol).shape ≡ Some sort
  pub changing : (symbol_at p symbol).fixed ≡ false
  pub fits : is_sort (sort_of (own_vocabulary p) (reverse params) term) sort ≡ true

relation_of : (p : Parts) (params : List SortId) (body : Formula) (fixed : Bool) (shape : Shape) → body_fits p params body (cond fixed None (Some shape)) ≡ true
    → (sorts : List SortId) × (relation_sorts shape ≡ Some sorts) × (fixed ≡ false) × (formula_fits in_part (own_vocabulary p) (reverse (params ++ sorts)) body ≡ true)
relation_of p params body true shape h = cc
relation_of p params body false (S.Relation sorts) h = (sorts, refl, refl, h)
relation_of p params body false (S.Constant sort) h = cc

constant_of : (p : Parts) (params : List SortId) (term : Term) (fixed : Bool) (shape : Shape) → term_fits p params term (cond fixed None (Some shape)) ≡ true
    → (sort : SortId) × (constant_sort shape ≡ Some sort) × (fixed ≡ false) × (is_sort (sort_of (own_vocabulary p) (reverse params) term) sort ≡ true)
constant_of p params term true shape h = cc
constant_of p params term false (S.Relation sorts) h = cc
constant_of p params term false (S.Constant sort) h = (sort, refl, refl, h)

pub fit_relation : (p : Parts) (params : List SortId) (symbol : ℕ) (body : Formula) → update_fits p params (Relation symbol body) ≡ true → FitRelation p params symbol body
fit_relation p params symbol body h =
    let o = relation_of p params body (symbol_at p symbol).fixed (symbol_at p symbol).shape h in
    let both = and_parts (is_small in_part body) (fits_in (own_vocabulary p) (reverse (params ++ o.0)) body) o.3 in
    record { sorts = o.0; is = o.1; changing = o.2; fits = both.1; small = both.0 }

pub fit_constant : (p : Parts) (params : List SortId) (symbol : ℕ) (term : Term) → update_fits p params (Constant symbol term) ≡ true → FitConstant p params symbol term
fit_constant p params symbol term h =
    let o = constant_of p params term (symbol_at p symbol).fixed (symbol_at p symbol).shape h in
    record { sort = o.0; is = o.1; changing = o.2; fits = o.3 }

-- each update fits
pub each_update : (p : Parts) (params : List SortId) (us : List ActionUpdate) (u : ActionUpdate) → updates_fit p params us ≡ true → (i : ℕ) → i < length us → update_fits p params (get_or us i u) ≡ true
each_update p params us u h = at_each (update_fits p params) (updates_fit p params) (λ x xs. refl) u us h

not_changing : (p : Parts) (params : List SortId) (u : ActionUpdate) → update_fits p params u ≡ true → (symbol_at p (target_of u)).fixed ≡ false
not_changing p params (Relation symbol body) h = (fit_relation p params symbol body h).changing
not_changing p params (Constant symbol term) h = (fit_constant p params symbol term h).changing

differs : (p : Parts) (r t : ℕ) → (symbol_at p r).fixed ≡ true → (symbol_at p t).fixed ≡ false → eqb t r ≡ false
differs p r t fixed changing = ne_eqb t r (λ e. let never : false ≡ true = sym changing ∙ ap (λ n. (symbol_at p n).fixed) e ∙ fixed in cc)

-- an action changes no fixed symbol
pub fixed_relation_stays : (p : Parts) (elements : List ℕ) (m : Meaning) (sorts : List SortId) (us : List ActionUpdate) (r : ℕ) (tuple : List ℕ)
    → updates_fit p sorts us ≡ true → (symbol_at p r).fixed ≡ true → set_holds p elements m us r tuple ≡ m.holds (Own r) tuple
fixed_relation_stays p elements m sorts [] r tuple h fixed = refl
fixed_relation_stays p elements m sorts (Relation symbol body ∷ us) r tuple h fixed =
    let both = and_parts (update_fits p sorts (Relation symbol body)) (updates_fit p sorts us) h in
    rw (differs p r symbol fixed (not_changing p sorts (Relation symbol body) both.0)) (fixed_relation_stays p elements m sorts us r tuple both.1 fixed)
fixed_relation_stays p elements m sorts (Constant symbol term ∷ us) r tuple h fixed =
    fixed_relation_stays p elements m sorts us r tuple (and_parts (update_fits p sorts (Constant symbol term)) (updates_fit p sorts us) h).1 fixed

pub fixed_constant_stays : (p : Parts) (elements : List ℕ) (m : Meaning) (sorts : List SortId) (us : List ActionUpdate) (c : ℕ)
    → updates_fit p sorts us ≡ true → (symbol_at p c).fixed ≡ true → set_value elements m us c ≡ m.value (Own c)
fixed_constant_stays p elements m sorts [] c h fixed = refl
fixed_constant_stays p elements m sorts (Relation symbol body ∷ us) c h fixed =
    fixed_constant_stays p elements m sorts us c (and_parts (update_fits p sorts (Relation symbol body)) (updates_fit p sorts us) h).1 fixed
fixed_constant_stays p elements m sorts (Constant symbol term ∷ us) c h fixed =
    let both = and_parts (update_fits p sorts (Constant symbol term)) (updates_fit p sorts us) h in
    rw (differs p c symbol fixed (not_changing p sorts (Constant symbol term) both.0)) (fixed_constant_stays p elements m sorts us c both.1 fixed)
