use Rattle.std.proofs.Common.{◌≡◌, map, true, sym, subst, ap, ap₂, ◌∙◌}
use Rattle.std.proofs.lemmas.Result.{IfOk-weaker}
use Rattle.lv_formula.specs.declared.vocabulary.Vocabulary.{Vocabulary}
use Rattle.lv_formula.specs.Meaning.{IsStructureOf, in_range}
use Rattle.lv_struct.specs.Tables.{IsSound, Tables, meaning}
use Rattle.lv_struct.specs.Tabulation.{tables_of}
use Rattle.lv_system.specs.declared.parts.Action.{Action}
use Rattle.lv_system.specs.Step.{IsPerformed, action_at}
use Rattle.lv_labels.specs.Monitor.{elements_in, stepped}
use Rattle.lv_labels.specs.Problem.{problem_of}
use Rattle.lv_labels.specs.Rows.{condition_of}
use Rattle.lv_labels.specs.Vocabularies.{catch_vocabulary}
use Rattle.lv_check.specs.Due.{all_due_after}
use Rattle.lv_check.specs.Performing.{AreDueAfter, IsMonitored}
use Rattle.lv_check.proofs.DueLemmas.{are_due}
use Rattle.lv_check.proofs.Performed.{after_is_structure, elements_inside, has_own, monitored_is, performed_so}
use Rattle.lv_check.proofs.performing.monitored.Goals as goal

pub perform-requires-clause-symbols : goal.perform-requires-clause-symbols
perform-requires-clause-symbols c = has_own c.args.system.now c.args.action c.args.m.now c.requires.vocabulary

pub perform-requires-clause-elements : goal.perform-requires-clause-elements
perform-requires-clause-elements c =
    let a = action_at c.args.system.now c.args.action in
    let m = meaning c.args.m.now in
    let passed : c.as_slice-2.result.now ≡ elements_in m a = cc (c.in_ok-elements.ensures, c.as_slice-2.ensures, ap (elements_in m) c.action_of-taken.ensures) in
    subst (λ xs. in_range m a.params xs ≡ true) (sym passed) (elements_inside c.args.system.now c.args.action c.args.m.now c.requires.vocabulary c.size-size.ensures.sound)

pub invariant_of-after : goal.invariant_of-after
invariant_of-after c =
    let p = c.args.system.now in
    let a = action_at p c.args.action in
    let m = meaning c.args.m.now in
    let elements = c.as_slice-4.result.now in
    let same : c.as_slice-2.result.now ≡ elements = cc (c.as_slice-2.ensures, c.as_slice-4.ensures) in
    let conditions : map condition_of c.as_slice-3.result.now ≡ (problem_of p).justice = cc (c.in_ok-conditions.ensures.conditions, c.as_slice-3.ensures) in
    let due : c.as_slice-5.result.now ≡ all_due_after c.args.mv m c.as_slice-3.result.now = cc (c.in_ok-due.ensures, c.as_slice-5.ensures) in
    record {
      passed = cc (c.in_ok-elements.ensures, c.as_slice-4.ensures);
      performed = subst (λ (x : Action). IsPerformed p x elements m (meaning c.in_ok-acted.acted)) (sym c.action_of-taken.ensures)
          (subst (λ xs. IsPerformed p a xs m (meaning c.in_ok-acted.acted)) same (performed_so p a c.as_slice-2.result.now m (meaning c.in_ok-acted.acted) c.in_ok-acted.ensures.performed));
      left = subst (λ (x : Action). AreDueAfter p c.args.mv x m c.as_slice-5.result.now) (sym c.action_of-taken.ensures)
          (are_due p c.args.action c.args.m.now c.requires.vocabulary c.size-size.ensures.sound c.args.mv c.as_slice-3.result.now conditions c.as_slice-5.result.now due);
    }

pub tabulate-requires-clause-structure : goal.tabulate-requires-clause-structure
tabulate-requires-clause-structure c =
    let p = c.args.system.now in
    let q = problem_of p in
    let a = action_at p c.args.action in
    let m = meaning c.args.m.now in
    let passed : c.as_slice-2.result.now ≡ elements_in m a = cc (c.in_ok-elements.ensures, c.as_slice-2.ensures, ap (elements_in m) c.action_of-taken.ensures) in
    let acted : IsPerformed p a (elements_in m a) m (meaning c.in_ok-acted.acted) =
    subst (λ xs. IsPerformed p a xs m (meaning c.in_ok-acted.acted)) passed (performed_so p a c.as_slice-2.result.now m (meaning c.in_ok-acted.acted) c.in_ok-acted.ensures.performed) in
    subst (λ (voc : Vocabulary). IsStructureOf voc (stepped q c.args.mv c.action_of-taken.result.now m)) (sym c.in_ok-voc.ensures.value)
    (subst (λ (x : Action). IsStructureOf (catch_vocabulary q) (stepped q c.args.mv x m)) (sym c.action_of-taken.ensures)
    (after_is_structure p c.args.action c.args.m.now c.requires.vocabulary c.size-size.ensures.sound c.in_ok-acted.acted
    (subst IsSound c.acted.view_is c.acted.invariant) c.in_ok-acted.ensures.symbols acted c.args.mv))

pub returns : goal.returns
returns c =
    let p = c.args.system.now in
    let q = problem_of p in
    let m = meaning c.args.m.now in
    IfOk-weaker c.tabulate.result (λ (w : Tables). w ≡ tables_of c.in_ok-voc.voc (stepped q c.args.mv c.action_of-taken.result.now m)) (IsMonitored p c.args.action c.args.mv c.args.m.now)
    (λ (w : Tables) is. monitored_is p c.args.action c.args.m.now c.requires.vocabulary c.args.mv w
    (is ∙ ap₂ (λ (voc : Vocabulary) (x : Action). tables_of voc (stepped q c.args.mv x m)) c.in_ok-voc.ensures.value c.action_of-taken.ensures)) c.tabulate.ensures
