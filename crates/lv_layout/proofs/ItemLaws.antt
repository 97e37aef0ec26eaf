-- Where some tree spells an item, so does each that is the shown one but for places.
use Rattle.std.proofs.Common.{◌≡◌, ℕ, suc, ◌+◌, ◌≤◌, ◌<◌, ◌^◌, ◌-◌, Bool, true, false, not, ◌&&◌, leb, is_some, List, [], ◌∷◌, ◌++◌, map, reverse, length, slice_get, Some, refl, sym, ap, subst, ◌∙◌, arith, append_assoc}
use Rattle.std.specs.Prelude.{codes}
use Rattle.std.proofs.lemmas.Bool.{leb-true}
use Rattle.lv_tree.specs.declared.tree.Tree.{Tree}
use Rattle.lv_tree.specs.Writing.{bare}
use Rattle.lv_formula.specs.declared.symbols.SortId.{SortId}
use Rattle.lv_formula.specs.declared.formula.Formula.{Formula}
use Rattle.lv_formula.specs.declared.temporal.Temporal.{Temporal}
use Rattle.lv_system.specs.declared.parts.Parts.{Parts}
use Rattle.lv_system.specs.declared.parts.Sort.{Sort}
use Rattle.lv_system.specs.declared.parts.Symbol.{Symbol}
use Rattle.lv_system.specs.declared.parts.Shape.{Shape}
use Rattle.lv_system.specs.declared.parts.Shape.TheVariants as S
use Rattle.lv_system.specs.declared.parts.Action.{Action}
use Rattle.lv_system.specs.declared.parts.ActionUpdate.{ActionUpdate}
use Rattle.lv_system.specs.declared.parts.ActionUpdate.TheVariants as U
use Rattle.lv_system.specs.declared.parts.Fair.{Fair}
use Rattle.lv_system.specs.declared.parts.LabelDecl.{LabelDecl}
use Rattle.lv_system.specs.declared.parts.WitnessDecl.{WitnessDecl}
use Rattle.lv_system.specs.declared.parts.Invariant.{Invariant}
use Rattle.lv_system.specs.TemporalLimits.{temporal_lists_of}
use Rattle.lv_labels.specs.Labels.{keys_of}
use Rattle.lv_grammar.specs.declared.reading.Named.TheVariants as N
use Rattle.lv_grammar.specs.declared.reading.Role.{Role}
use Rattle.lv_grammar.specs.declared.reading.Role.TheVariants as R
use Rattle.lv_grammar.specs.Lifted.{lifted}
use Rattle.lv_grammar.specs.Words.{Variable, sort_name, own_name}
use Rattle.lv_grammar.specs.Grammar.{Each, nothing, first_and_rest, IsWord, IsMark, without, with_word, arguments_of, argument_sorts}
use Rattle.lv_grammar.specs.Known.{Known, named, IsSortName}
use Rattle.lv_grammar.specs.KnownOf.{Right, AllRight}
use Rattle.lv_grammar.specs.Rules.{sorts_of, Begins, IsWhole, IsState, labels_fit, IsPath, AreParameters, IsNew, IsSort, IsShape, relation, constant, IsDeclared, IsLone, IsTarget, AreNames, IsUpdate, AreUpdates, no_updates, updates, IsAction, IsFair, IsLabel, IsWitness, IsProperty, IsInvariant}
use Rattle.lv_grammar.specs.Rules as Rules
use Rattle.lv_grammar.specs.ShownFormulas.{word, list, variable_name, shown_temporal, shown_formula}
use Rattle.lv_grammar.specs.ShownSystems.{shown_mark, shown_sort, shape_word, shown_sort_name, shown_shape, shown_symbol, shown_lone, shown_names, deeper_by, shown_update, shown_action, shown_fair, shown_label, shown_witness, shown_property, shown_invariant}
use Rattle.lv_grammar.proofs.Likeness.{like_word, like_list, none_like, two, three, four, two_first, three_first, four_first}
use Rattle.lv_grammar.proofs.Lifting.{shown_lifted}
use Rattle.lv_fitting.proofs.Entries.{what_right}
use Rattle.lv_fitting.proofs.FormulaFits.{deep}
use Rattle.lv_layout.proofs.FormulaLaw.{Speaks, begins, sort_shown, shown_sorts, binds_shown, term_shown, formula_shown}
use Rattle.lv_layout.proofs.Scopes.{numbered, shown_scope, scope_length, sorts_numbered, parameters_shown, argument_names_shown, Scoped, scoped}
use Rattle.lv_layout.proofs.Variables.{shown_variables}

mark_shown : (text : List ℕ) (b : Bool) (us : List Tree) → map bare us ≡ map bare (shown_mark text b) → IsMark text b us
mark_shown text false us e = rw (none_like us e) without
mark_shown text true [] e = absurd cc
mark_shown text true (u ∷ []) e = with_word (like_word u text (cc))
mark_shown text true (u ∷ v ∷ us) e = absurd cc

new_shown : (k : Known) (name : List ℕ) (n u : Tree) → IsNew k name n → bare u ≡ bare (word name) → IsNew k name u
new_shown k name n u is e = record { word = like_word u name e; new = is.new }

-- what holds of places in which formulas are read
module _ (p : Parts) (k : Known) where
  pub sort_item_shown : (s : Sort) (t u : Tree) → IsSort k s t → bare u ≡ bare (shown_sort s) → IsSort k s u
  sort_item_shown s t u is e =
      let l = two_first u _ _ _ e in
      record { n = l.b; mark = l.rest; list = begins (codes "sort") l.a u (l.b ∷ l.rest) l.is (like_word l.a (codes "sort") l.first); name = new_shown k s.name is.n l.b is.name l.second; finite = mark_shown (codes "finite") s.finite l.rest l.others }

  module _ (role : Role) (s : Speaks p k role) where
    sort_names_shown : (ss : List SortId) (ts us : List Tree) → Each (IsSortName k) ss ts → map bare us ≡ map bare (map (shown_sort_name p) ss) → Each (IsSortName k) ss us
    sort_names_shown [] ts us each e = rw (none_like us e) nothing
    sort_names_shown (x ∷ xs) ts [] each e = absurd cc
    sort_names_shown (x ∷ xs) _ (u ∷ us) (first_and_rest {t = t} {ts = ts} is rest) e = first_and_rest (sort_shown p k role s x t u is (cc)) (sort_names_shown xs ts us rest (cc))

    shape_shown : (shape : Shape) (text : List ℕ) (t u : Tree) → IsShape k shape text t → bare u ≡ bare (shown_shape p shape) → (shape_word shape ≡ text) × IsShape k shape text u
    shape_shown shape text t u (relation {sorts = ss} items list each few) e =
        let l = like_list u (map (shown_sort_name p) ss) e in
        (refl, relation l.own l.is (sort_names_shown ss items l.own each l.same) few)
    shape_shown shape text t u (constant {sort = sort} is) e = (refl, constant (sort_shown p k role s sort t u is e))

    pub symbol_item_shown : (x : Symbol) (t u : Tree) → IsDeclared k x t → bare u ≡ bare (shown_symbol p x) → IsDeclared k x u
    symbol_item_shown x t u is e =
        let l = three_first u _ _ _ _ e in
        let shape = shape_shown x.shape is.word is.a l.c is.shape l.third in
        record {
          word = is.word;
          n = l.b;
          a = l.c;
          mark = l.rest;
          list = begins is.word l.a u (l.b ∷ l.c ∷ l.rest) l.is (subst (λ z. IsWord z l.a) shape.0 (like_word l.a (shape_word x.shape) l.first));
          name = new_shown k x.name is.n l.b is.name l.second;
          shape = shape.1;
          fixed = mark_shown (codes "fixed") x.fixed l.rest l.others;
        }

    -- ---- formulas in the scope of an item's parameters

    whole_shown : (room : ℕ) (vs : List Variable) (f : Temporal) (t u : Tree) → room ≤ 58 → length vs ≤ 8 → IsWhole k role room vs f t → bare u ≡ bare (shown_temporal p f (length vs)) → IsWhole k role room (shown_variables vs) f u
    whole_shown room vs f t u small few is e =
        let n = deep is.formula in
        record { formula = formula_shown p k role s (omega (arith, few, small, n)) is.formula u e; counted = is.counted }

    pub state_shown : (room : ℕ) (vs : List Variable) (f : Formula) (t u : Tree) → room ≤ 58 → length vs ≤ 8 → IsState k role room vs f t → bare u ≡ bare (shown_formula p f (length vs)) → IsState k role room (shown_variables vs) f u
    state_shown room vs f t u small few is e = whole_shown room vs (lifted f) t u small few is (e ∙ ap bare (shown_lifted p f (length vs)))

    pub state_within : (room : ℕ) (xs : List Variable) (ss : List SortId) (f : Formula) (t u : Tree) → room ≤ 58 → Scoped xs ss → length ss ≤ 4 → IsState k role room (reverse xs) f t → bare u ≡ bare (shown_formula p f (length ss))
        → IsState k role room (reverse (numbered 0 ss)) f u
    state_within room xs ss f t u small c few is e =
        let long = c.long in
        subst (λ vs. IsState k role room vs f u) c.shown (state_shown room (reverse xs) f t u small (omega (arith, few, long)) is (e ∙ ap (λ n. bare (shown_formula p f n)) (sym long)))

    pub path_within : (xs : List Variable) (ss : List SortId) (f : Temporal) (t u : Tree) → Scoped xs ss → length ss ≤ 4 → IsPath k role (reverse xs) f t → bare u ≡ bare (shown_temporal p f (length ss))
        → IsPath k role (reverse (numbered 0 ss)) f u
    path_within xs ss f t u c few is e =
        let long = c.long in
        subst (λ vs. IsPath k role vs f u) c.shown (record {
          whole = whole_shown 58 (reverse xs) f t u (omega arith) (omega (arith, few, long)) is.whole (e ∙ ap (λ n. bare (shown_temporal p f n)) (sym long));
          labels = ap (λ z. labels_fit k.keys (keys_of f z)) (shown_sorts (reverse xs)) ∙ is.labels;
        })

    pub lone_within : (text : List ℕ) (room : ℕ) (xs : List Variable) (ss : List SortId) (f : Formula) (t u : Tree) → room ≤ 58 → Scoped xs ss → length ss ≤ 4 → IsLone text role room (reverse xs) k f t → bare u ≡ bare (shown_lone p text (length ss) f)
        → IsLone text role room (reverse (numbered 0 ss)) k f u
    lone_within text room xs ss f t u small c few is e =
        let l = two u _ _ e in
        record { a = l.b; list = begins text l.a u (l.b ∷ []) l.is (like_word l.a text l.first); formula = state_within room xs ss f is.a l.b small c few is.formula l.second }

    -- (axiom F) and (init F)
    pub closed_shown : (text : List ℕ) (f : Formula) (t u : Tree) → IsLone text role 58 [] k f t → bare u ≡ bare (shown_lone p text 0 f) → IsLone text role 58 [] k f u
    closed_shown text f t u is e = lone_within text 58 [] [] f t u (omega arith) (scoped [] [] refl) (omega arith) is e

few_parameters : (k : Known) (ss : List SortId) (xs : List Variable) (t : Tree) → AreParameters k ss xs t → length ss ≤ 4
few_parameters k ss xs t a =
    let few = leb-true (length xs) 4 a.few in
    let count = ap length a.ranges in
    let same = length_of_sorts xs in
    omega (arith, few, count, same) where
      length_of_sorts : (xs : List Variable) → length (sorts_of xs) ≡ length xs
      length_of_sorts [] = refl
      length_of_sorts (x ∷ xs) = ap suc (length_of_sorts xs)

-- a relation that is set has at most four arguments
abbrev pub IsSmallUpdate : Parts → ActionUpdate → Type 0
IsSmallUpdate p (U.Relation n body) = length (argument_sorts p n) ≤ 4
IsSmallUpdate p (U.Constant n term) = Unit {0}

module _ (p : Parts) (k : Known) (right : AllRight p k.names) (s : Speaks p k R.State) where
  -- ---- actions

  target_shown : (done : List ActionUpdate) (n : ℕ) (shape : Shape) (t u : Tree) → IsTarget k done n shape t → bare u ≡ bare (word (own_name p n)) → IsTarget k done n shape u
  target_shown done n shape t u is e = record { text = is.text; word = like_word u (own_name p n) e ∙ ap Some (s.own n is.text shape false is.changing); small = is.small; changing = is.changing; once = is.once }

  -- the sorts of the arguments of a relation that is set
  sorts_there : (done : List ActionUpdate) (n : ℕ) (sorts : List SortId) (t : Tree) → IsTarget k done n (S.Relation sorts) t → argument_sorts p n ≡ sorts
  unfolding named
  sorts_there done n sorts t is = ap arguments_of (what_right p k.names is.text (N.Symbol n (S.Relation sorts) false) right is.changing)

  update_shown : (vs : List Variable) (done : List ActionUpdate) (x : ActionUpdate) (t u : Tree) → length vs ≤ 4 → IsSmallUpdate p x → IsUpdate k vs done x t → bare u ≡ bare (shown_update p (length vs) x) → IsUpdate k (shown_variables vs) done x u
  update_shown vs done x t u few args_few (Rules.relation {n = n} {sorts = sorts} {body = body} xs r args a b target names is) e =
      let d = length vs in
      let l = four u _ _ _ _ e in
      let there = sorts_there done n sorts r target in
      let long : length (reverse xs ++ vs) ≡ d + length sorts = scope_length xs vs ∙ ap (λ z. d + length z) names.ranges in
      let count = ap length there in
      let by : deeper_by d (argument_sorts p n) ≡ length (reverse xs ++ vs) = omega (arith, long, few, args_few, count) in
      let scope : shown_variables (reverse xs ++ vs) ≡ reverse (numbered d sorts) ++ shown_variables vs = shown_scope xs vs ∙ ap (λ z. reverse (numbered d z) ++ shown_variables vs) names.ranges in
      let inner = state_shown p k R.State s 57 (reverse xs ++ vs) body a l.d (omega arith) (omega (arith, long, few, args_few, count)) is (l.fourth ∙ ap (λ m. bare (shown_formula p body m)) by) in
      Rules.relation (numbered d sorts) l.b l.c l.d (begins (codes "set") l.a u (l.b ∷ l.c ∷ l.d ∷ []) l.is (like_word l.a (codes "set") l.first)) (target_shown done n (S.Relation sorts) r l.b target l.second)
      (argument_names_shown vs sorts (omega (arith, few, args_few, count)) l.c (l.third ∙ ap (λ z. bare (list (shown_names d z))) there)) (subst (λ ws. IsState k R.State 57 ws body l.d) scope inner)
  update_shown vs done x t u few args_few (Rules.constant {n = n} {sort = sort} {term = y} c a b target is) e =
      let l = three u _ _ _ e in
      Rules.constant l.b l.c (begins (codes "set") l.a u (l.b ∷ l.c ∷ []) l.is (like_word l.a (codes "set") l.first)) (target_shown done n (S.Constant sort) c l.b target l.second) (term_shown p k R.State s (omega (arith, few)) is l.c l.third)

  updates_shown : (vs : List Variable) (done xs : List ActionUpdate) (ts us : List Tree) → length vs ≤ 4 → ((x : ActionUpdate) → IsSmallUpdate p x) → AreUpdates k vs done xs ts → map bare us ≡ map bare (map (shown_update p (length vs)) xs)
      → AreUpdates k (shown_variables vs) done xs us
  updates_shown vs done xs ts us few small no_updates e = rw (none_like us e) no_updates
  updates_shown vs done xs ts [] few small (updates is are) e = absurd cc
  updates_shown vs done xs ts (u ∷ us) few small (updates {us = ys} {u = x} {t = t} {ts = rest} is are) e =
      updates (update_shown vs done x t u few (small x) is (cc)) (updates_shown vs (done ++ x ∷ []) ys rest us few small are (cc))

  pub action_shown : (x : Action) (t u : Tree) → ((y : ActionUpdate) → IsSmallUpdate p y) → IsAction k x t → bare u ≡ bare (shown_action p x) → IsAction k x u
  action_shown x t u small is e =
      let l = four_first u _ _ _ _ _ e in
      let c = scoped is.variables x.params is.parameters.ranges in
      let few = few_parameters k x.params is.variables is.params is.parameters in
      let long = c.long in
      let others : map bare l.rest ≡ map bare (map (shown_update p (length (reverse is.variables))) x.updates) = l.others ∙ ap (λ n. map bare (map (shown_update p n) x.updates)) (sym long) in
      record {
        n = l.b;
        params = l.c;
        guard = l.d;
        changes = l.rest;
        list = begins (codes "action") l.a u (l.b ∷ l.c ∷ l.d ∷ l.rest) l.is (like_word l.a (codes "action") l.first);
        name = new_shown k x.name is.n l.b is.name l.second;
        variables = numbered 0 x.params;
        parameters = parameters_shown p k R.State s x.params is.variables is.params l.c is.parameters l.third;
        guarded = lone_within p k R.State s (codes "guard") 57 is.variables x.params x.guard is.guard l.d (omega arith) c few is.guarded l.fourth;
        updated = subst (λ vs. AreUpdates k vs [] x.updates l.rest) c.shown (updates_shown (reverse is.variables) [] x.updates is.changes l.rest (omega (arith, few, long)) small is.updated others);
      }

  pub fair_shown : (x : Fair) (t u : Tree) → IsFair k x t → bare u ≡ bare (shown_fair p x) → IsFair k x u
  fair_shown x t u is e =
      let l = four u _ _ _ _ e in
      let few = few_parameters k x.params is.variables is.params is.parameters in
      record {
        n = l.b;
        params = l.c;
        a = l.d;
        list = begins (codes "fair") l.a u (l.b ∷ l.c ∷ l.d ∷ []) l.is (like_word l.a (codes "fair") l.first);
        name = new_shown k x.name is.n l.b is.name l.second;
        variables = numbered 0 x.params;
        parameters = parameters_shown p k R.State s x.params is.variables is.params l.c is.parameters l.third;
        formula = state_within p k R.State s 58 is.variables x.params x.condition is.a l.d (omega arith) (scoped is.variables x.params is.parameters.ranges) few is.formula l.fourth;
      }

module _ (p : Parts) (k : Known) where
  -- ---- items with temporal formulas, and invariants

  pub label_shown : Speaks p k R.Path → (x : LabelDecl) (t u : Tree) → IsLabel k x t → bare u ≡ bare (shown_label p x) → IsLabel k x u
  label_shown s x t u is e =
      let l = four u _ _ _ _ e in
      let few = few_parameters k x.params is.variables is.params is.parameters in
      record {
        n = l.b;
        params = l.c;
        a = l.d;
        list = begins (codes "label") l.a u (l.b ∷ l.c ∷ l.d ∷ []) l.is (like_word l.a (codes "label") l.first);
        name = new_shown k x.name is.n l.b is.name l.second;
        variables = numbered 0 x.params;
        parameters = parameters_shown p k R.Path s x.params is.variables is.params l.c is.parameters l.third;
        inner = is.inner;
        always = is.always;
        path = path_within p k R.Path s is.variables x.params x.formula is.a l.d (scoped is.variables x.params is.parameters.ranges) few is.path l.fourth;
        once = is.once;
        free = is.free;
      }

  pub witness_shown : Speaks p k R.Witness → (x : WitnessDecl) (t u : Tree) → IsWitness k x t → bare u ≡ bare (shown_witness p x) → IsWitness k x u
  witness_shown s x t u is e =
      let l = four u _ _ _ _ e in
      let pair = two l.c _ _ l.third in
      let v : Variable = record { name = is.variable; sort = x.sort } in
      record {
        n = l.b;
        pair = l.c;
        v = pair.a;
        s = pair.b;
        a = l.d;
        list = begins (codes "witness") l.a u (l.b ∷ l.c ∷ l.d ∷ []) l.is (like_word l.a (codes "witness") l.first);
        name = new_shown k x.name is.n l.b is.name l.second;
        variable = variable_name 0;
        bracket = pair.is;
        binds = binds_shown p k R.Witness s [] v is.v is.s pair.a pair.b (omega arith) is.binds pair.first pair.second;
        path = path_within p k R.Witness s (v ∷ []) (x.sort ∷ []) x.formula is.a l.d (scoped (v ∷ []) (x.sort ∷ []) refl) (omega arith) is.path l.fourth;
      }

  pub property_shown : Speaks p k R.Path → (t u : Tree) → IsProperty k p.property t → bare u ≡ bare (shown_property p) → IsProperty k p.property u
  property_shown s t u is e =
      let l = two u _ _ e in
      record { a = l.b; list = begins (codes "property") l.a u (l.b ∷ []) l.is (like_word l.a (codes "property") l.first); path = path_within p k R.Path s [] [] p.property is.a l.b (scoped [] [] refl) (omega arith) is.path l.second }

  pub invariant_shown : Speaks p k R.Invariant → (x : Invariant) (t u : Tree) → IsInvariant k x t → bare u ≡ bare (shown_invariant p x) → IsInvariant k x u
  invariant_shown s x t u is e =
      let l = three u _ _ _ e in
      record {
        n = l.b;
        a = l.c;
        list = begins (codes "invariant") l.a u (l.b ∷ l.c ∷ []) l.is (like_word l.a (codes "invariant") l.first);
        name = new_shown k x.name is.n l.b is.name l.second;
        formula = state_within p k R.Invariant s 58 [] [] x.formula is.a l.c (omega arith) (scoped [] [] refl) (omega arith) is.formula l.third;
      }
