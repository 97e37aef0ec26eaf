-- The sections of actions, of fairness conditions and of invariants.
use Rattle.std.proofs.Common.{◌≡◌, ℕ, true, false, not, List, [], ◌∷◌, ◌++◌, reverse, codes, refl, ap, subst, ◌∙◌}
use Rattle.lv_tree.specs.declared.tree.Tree.{Tree}
use Rattle.lv_formula.specs.declared.formula.Formula.{Formula}
use Rattle.lv_system.specs.declared.parts.Action.{Action}
use Rattle.lv_system.specs.declared.parts.Fair.{Fair}
use Rattle.lv_system.specs.declared.parts.Invariant.{Invariant}
use Rattle.lv_system.specs.Names.{same_text}
use Rattle.lv_fault.specs.Given.{Headed, headed}
use Rattle.lv_grammar.specs.declared.reading.Role.TheVariants as R
use Rattle.lv_grammar.specs.Words.{Variable}
use Rattle.lv_grammar.specs.Known.{Known}
use Rattle.lv_grammar.specs.ReadFormulas.{lone_formula}
use Rattle.lv_grammar.specs.ReadItems.{name_in, opened_in, scope_of, ranges_of, variables_of, guard_in, updates_in, action_item, fair_item, invariant_item}
use Rattle.lv_grammar.specs.Reading.{action_kind, fair_kind, invariant_kind}
use Rattle.lv_grammar.specs.Rules.{Begins, IsLone, IsAction, add_action, IsFair, add_fair, IsInvariant, add_invariant}
use Rattle.lv_grammar.proofs.Steps.{done, ok_is, bound, passed, one_more}
use Rattle.lv_spelling.specs.Laws.{Agree}
use Rattle.lv_spelling.proofs.Heads.{word_begins, head_again, name_is, name_again}
use Rattle.lv_spelling.proofs.ItemLaw.{kinds_agree}
use Rattle.lv_spelling.proofs.Parameters.{opened_is, opened_again, parameters_again}
use Rattle.lv_spelling.proofs.Updates.{updates_are, updates_again}
use Rattle.lv_spelling.proofs.Wholes.{lone_is, lone_again}

-- ---- actions

guard_is : (k : Known) (vs : List Variable) (t : Tree) (f : Formula) → guard_in k vs t ≡ done f → IsLone (codes "guard") R.State 57 vs k f t
unfolding guard_in
guard_is k vs t f e =
    let h = bound (headed t) _ f e in
    let q = passed (not (same_text h.0.word.text (codes "guard"))) _ _ _ f h.2 in
    let a = lone_is k R.State refl 57 vs h.0.end h.0.rest f q.1 in
    record { a = a.0; list = subst (λ z. Begins (codes "guard") z t) a.1 (word_begins (codes "guard") t h.0 h.1 q.0); formula = a.2 }

guard_again : (k : Known) (vs : List Variable) (f : Formula) (t : Tree) → IsLone (codes "guard") R.State 57 vs k f t → guard_in k vs t ≡ done f
unfolding guard_in
guard_again k vs f t is =
    let h = head_again (codes "guard") (is.a ∷ []) t is.list in
    rw (h.is, lone_again k R.State refl 57 vs h.end is.a f is.formula) refl

action_found : (k : Known) (x : Action) (t : Tree) (h : Headed) → headed t ≡ done h → Begins (codes "action") h.rest t → action_item k h ≡ done x → IsAction k x t
unfolding action_item
action_found k x t h read begins e =
    let o = bound (opened_in k h.end h.rest) _ x e in
    let a = one_more h.end o.0.rest _ x o.2 in
    let g = bound (guard_in k (scope_of o.0.params) a.0) _ x a.3 in
    let us = bound (updates_in k (scope_of o.0.params) [] a.1) _ x g.2 in
    let r = opened_is k h.end h.rest o.0 o.1 in
    let u = updates_are k (scope_of o.0.params) [] a.1 us.0 us.1 in
    subst (λ z. IsAction k z t) (ap (λ z. record { name = o.0.name; params = ranges_of o.0.params; guard = g.0; updates = z }) (flip us.0 u.0 u.1) ∙ ok_is (record { name = o.0.name; params = ranges_of o.0.params; guard = g.0; updates = us.0 }) x us.2) (record {
      n = r.n;
      params = r.params;
      guard = a.0;
      changes = a.1;
      list = subst (λ z. Begins (codes "action") z t) (r.whole ∙ ap (λ z. r.n ∷ r.params ∷ z) a.2) begins;
      name = r.name;
      variables = variables_of o.0.params;
      parameters = r.parameters;
      guarded = guard_is k (scope_of o.0.params) a.0 g.0 g.1;
      updated = u.2;
    }) where
      flip : {A : Type 0} (x y : A) → x ≡ y → y ≡ x
      flip x y e = cc

pub actions_agree : Agree action_kind IsAction
unfolding action_item
actions_agree = kinds_agree (codes "action") action_item add_action IsAction action_found (λ k x t is. (
  is.n ∷ is.params ∷ is.guard ∷ is.changes,
  is.list,
  λ at end word_at.
      let p = parameters_again k x.params is.variables is.params is.parameters in
      rw (opened_again k end x.name x.params is.variables is.n is.params (is.guard ∷ is.changes) is.name p, p.scope, p.ranges, guard_again k (reverse is.variables) x.guard is.guard is.guarded, updates_again k (reverse is.variables) [] x.updates is.changes is.updated) refl,
))

-- ---- fairness conditions

fair_found : (k : Known) (x : Fair) (t : Tree) (h : Headed) → headed t ≡ done h → Begins (codes "fair") h.rest t → fair_item k h ≡ done x → IsFair k x t
unfolding fair_item
fair_found k x t h read begins e =
    let o = bound (opened_in k h.end h.rest) _ x e in
    let f = bound (lone_formula k R.State 58 (scope_of o.0.params) h.end o.0.rest) _ x o.2 in
    let r = opened_is k h.end h.rest o.0 o.1 in
    let a = lone_is k R.State refl 58 (scope_of o.0.params) h.end o.0.rest f.0 f.1 in
    subst (λ z. IsFair k z t) (ok_is (record { name = o.0.name; params = ranges_of o.0.params; condition = f.0 }) x f.2) (record {
      n = r.n;
      params = r.params;
      a = a.0;
      list = subst (λ z. Begins (codes "fair") z t) (r.whole ∙ ap (λ z. r.n ∷ r.params ∷ z) a.1) begins;
      name = r.name;
      variables = variables_of o.0.params;
      parameters = r.parameters;
      formula = a.2;
    })

pub fairs_agree : Agree fair_kind IsFair
unfolding fair_item
fairs_agree = kinds_agree (codes "fair") fair_item add_fair IsFair fair_found (λ k x t is. (
  is.n ∷ is.params ∷ is.a ∷ [],
  is.list,
  λ at end word_at.
      let p = parameters_again k x.params is.variables is.params is.parameters in
      rw (opened_again k end x.name x.params is.variables is.n is.params (is.a ∷ []) is.name p, p.scope, p.ranges, lone_again k R.State refl 58 (reverse is.variables) end is.a x.condition is.formula) refl,
))

-- ---- invariants

invariant_found : (k : Known) (x : Invariant) (t : Tree) (h : Headed) → headed t ≡ done h → Begins (codes "invariant") h.rest t → invariant_item k h ≡ done x → IsInvariant k x t
unfolding invariant_item
invariant_found k x t h read begins e =
    let n = bound (name_in k h.end h.rest) _ x e in
    let f = bound (lone_formula k R.Invariant 58 [] h.end n.0.1) _ x n.2 in
    let r = name_is k h.end h.rest n.0 n.1 in
    let a = lone_is k R.Invariant refl 58 [] h.end n.0.1 f.0 f.1 in
    subst (λ z. IsInvariant k z t) (ok_is (record { name = n.0.0; formula = f.0 }) x f.2)
    (record { n = r.0; a = a.0; list = subst (λ z. Begins (codes "invariant") z t) (r.1 ∙ ap (λ z. r.0 ∷ z) a.1) begins; name = r.2; formula = a.2 })

pub invariants_agree : Agree invariant_kind IsInvariant
unfolding invariant_item
invariants_agree = kinds_agree (codes "invariant") invariant_item add_invariant IsInvariant invariant_found (λ k x t is. (
  is.n ∷ is.a ∷ [],
  is.list,
  λ at end word_at.
      rw (name_again k end x.name is.n (is.a ∷ []) is.name, lone_again k R.Invariant refl 58 [] end is.a x.formula is.formula) refl,
))
