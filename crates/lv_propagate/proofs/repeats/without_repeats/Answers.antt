use Rattle.std.proofs.Common.{List, get_or, take, drop, subst, false}
use Rattle.std.specs.List.{Contains}
use Rattle.std.proofs.lemmas.List.{take_more, take-append-drop}
use Rattle.std.proofs.lemmas.List.Elements.{Contains-append_left, Contains-get_or}
use Rattle.lv_cnf.specs.declared.literal.Lit.{Lit}
use Rattle.lv_cnf.specs.Literals.{negated}
use Rattle.lv_propagate.proofs.Repeating.{pack_none, pack_skip, pack_add}
use Rattle.lv_propagate.proofs.repeats.without_repeats.Goals as goal
use Rattle.lv_propagate.proofs.repeats.without_repeats.Goals.{then-not-has+in_ok-add, else-not-has}

pub loop-lit-preserved : goal.loop-lit-preserved
loop-lit-preserved c =
    let lits = c.args.lits.now in
    let i = c.loop-lit.lit-index in
    let d : Lit = record { var = 0; positive = false } in
    let x : Lit = get_or lits i d in
    let e = take_more lits i d c.loop-lit-test.true in
    let out = c.loop-lit.out.items in
    elim c.if-not-has.branch [
      | then-not-has+in_ok-add w ↦ rw (w.out-is, w.in_ok-add.ensures, e) (pack_add out (take i lits) x c.loop-lit.invariant
          (λ has. let t = c.has-in-loop-lit.ensures.1 (rw c.as_slice-in-loop-lit.ensures.value has) in let f = w.if-not-has.true in cc))
      | else-not-has w ↦ rw (w.out-is, e) (pack_skip out (take i lits) x c.loop-lit.invariant
          (rw c.as_slice-in-loop-lit.ensures.value at (c.has-in-loop-lit.ensures.0 w.if-not-has.false)))
    ]

pub returns-then-has : goal.returns-then-has
returns-then-has c =
    let lits = c.args.lits.now in
    let i = c.loop-lit.lit-index in
    let d : Lit = record { var = 0; positive = false } in
    let x : Lit = get_or lits i d in
    let out = c.loop-lit.out.items in
    let h : Contains out (negated x) = rw (c.as_slice.ensures.value, c.negated.ensures) at (c.has.ensures.0 c.if-has.true) in
    let m = c.loop-lit.invariant.members.there (negated x) h in (
      x,
      Contains-get_or lits i d c.loop-lit-test.true,
      subst (λ (ys : List Lit). Contains ys (negated x)) (take-append-drop i lits) (Contains-append_left (take i lits) (drop i lits) (negated x) m),
    )

pub loop-lit-init : goal.loop-lit-init
loop-lit-init c = rw c.new-out.ensures.items pack_none
