use Rattle.std.proofs.Common.{rules, ◌≡◌, ◌<◌, [], ◌∙◌, Option, Some, None, Vec, Global, ℕ, List, length, get_or, take, refl, subst, true, false}
use Rattle.std.proofs.lemmas.List.{take_more, get_or_default}
use Rattle.std.proofs.lemmas.List.Elements.{All-contains, Contains-get_or}
use Rattle.lv_cnf.specs.declared.literal.Lit.{Lit}
use Rattle.lv_cnf.specs.Literals.{InRange}
use Rattle.lv_cnf.specs.Packed.{clause_at}
use Rattle.lv_propagate.specs.Repeats.{UnrepeatedIs, IsUnrepeated, IsTautology}
use Rattle.lv_propagate.specs.State.{Adds}
use Rattle.lv_propagate.proofs.Loading.{loaded_none, loaded_skip, loaded_add, loaded_refuted}
use Rattle.lv_propagate.proofs.state.State.load.Goals as goal
use Rattle.lv_propagate.proofs.state.State.load.Goals.{in-None, in-Some+in_ok-added-in-Some+else-not-added}

pub loop-clause-init : goal.loop-clause-init
loop-clause-init c = (loaded_none c.args.self.now c.requires.state c.requires.fresh c.requires.none, refl)

packed_of : (item clause : List Lit) (o p : Option (Vec Lit Global)) → item ≡ clause → o ≡ p → UnrepeatedIs item o → UnrepeatedIs clause p
packed_of item clause o p e f is = subst (UnrepeatedIs clause) f (subst (λ (xs : List Lit). UnrepeatedIs xs o) e is)

item_is : (cs : List (List Lit)) (i : ℕ) (slice item : List Lit) → i < length cs → slice ≡ item → item ≡ get_or cs i item → slice ≡ clause_at cs i
item_is cs i slice item lt e f = e ∙ f ∙ get_or_default cs i item [] lt

pub add-requires-clause-range : goal.add-requires-clause-range
add-requires-clause-range c =
    let i = c.loop-clause.clause-index in
    let cs = c.args.clauses.now in
    let item = item_is cs i c.as_slice.result.now c.clause-item.result c.loop-clause-test.true c.as_slice.ensures c.clause-item.is in
    let pack : IsUnrepeated c.in-Some.lits.items (clause_at cs i) =
    packed_of c.as_slice.result.now (clause_at cs i) c.in_ok-without_repeats.field-0 (Some c.in-Some.lits) item c.in-Some.is c.in_ok-without_repeats.ensures in
    let range : InRange (length c.args.self.now.trail.values.items) (clause_at cs i) = c.requires.range i [] c.loop-clause-test.true in
    rw (c.as_slice-in-Some.ensures.value, c.loop-clause.invariant.1) (λ k d lt.
    All-contains (λ (l : Lit). l.var < length c.args.self.now.trail.values.items) (clause_at cs i) (get_or c.in-Some.lits.items k d) range
    (pack.members.there (get_or c.in-Some.lits.items k d) (Contains-get_or c.in-Some.lits.items k d lt)))

pub returns-then-not-added-clause-loads : goal.returns-then-not-added-clause-loads
returns-then-not-added-clause-loads c =
    let i = c.loop-clause.clause-index in
    let cs = c.args.clauses.now in
    let item = item_is cs i c.as_slice.result.now c.clause-item.result c.loop-clause-test.true c.as_slice.ensures c.clause-item.is in
    let pack : IsUnrepeated c.in-Some.lits.items (clause_at cs i) =
    packed_of c.as_slice.result.now (clause_at cs i) c.in_ok-without_repeats.field-0 (Some c.in-Some.lits) item c.in-Some.is c.in_ok-without_repeats.ensures in
    let f : c.in_ok-added-in-Some.added ≡ false = search rules in
    let adds : Adds c.loop-clause.self c.add.new.self c.in-Some.lits.items false = rw (c.as_slice-in-Some.ensures.value, f) at c.in_ok-added-in-Some.ensures in
    loaded_refuted c.loop-clause.self c.add.new.self cs i c.in-Some.lits.items c.loop-clause-test.true pack adds c.loop-clause.invariant.0

pub loop-clause-preserved : goal.loop-clause-preserved
loop-clause-preserved c =
    let i = c.loop-clause.clause-index in
    let cs = c.args.clauses.now in
    let e = take_more cs i [] c.loop-clause-test.true in
    let item = item_is cs i c.as_slice.result.now c.clause-item.result c.loop-clause-test.true c.as_slice.ensures c.clause-item.is in
    elim c.match-branch-2.branch [
      | in-None w ↦
          let taut : IsTautology (clause_at cs i) =
          packed_of c.as_slice.result.now (clause_at cs i) c.in_ok-without_repeats.field-0 None item w.in-None.is c.in_ok-without_repeats.ensures in
          rw (w.self-is, e) (loaded_skip c.loop-clause.self (take i cs) (clause_at cs i) taut c.loop-clause.invariant.0, c.loop-clause.invariant.1)
      | in-Some+in_ok-added-in-Some+else-not-added w ↦
          let pack : IsUnrepeated w.in-Some.lits.items (clause_at cs i) =
          packed_of c.as_slice.result.now (clause_at cs i) c.in_ok-without_repeats.field-0 (Some w.in-Some.lits) item w.in-Some.is
          c.in_ok-without_repeats.ensures in
          let t : w.in_ok-added-in-Some.added ≡ true = search rules in
          let adds : Adds c.loop-clause.self w.add.new.self w.in-Some.lits.items true = rw (w.as_slice-in-Some.ensures.value, t) at
          w.in_ok-added-in-Some.ensures in
          rw (w.self-is, e) (
            loaded_add c.loop-clause.self w.add.new.self (take i cs) w.in-Some.lits.items (clause_at cs i) pack adds
                c.loop-clause.invariant.0,
            adds.size ∙ c.loop-clause.invariant.1,
          )
    ]
