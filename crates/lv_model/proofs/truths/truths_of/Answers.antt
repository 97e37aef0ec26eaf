use Rattle.std.proofs.Common.{◌≡◌, ◌-◌, ◌∙◌, ◌<◌, length, get_or, sym, subst, arith}
use Rattle.lv_cnf.specs.Literals.{assignment_of}
use Rattle.lv_model.specs.Truths.{numbers}
use Rattle.lv_model.proofs.Tables.{told_number, number_within, written}
use Rattle.lv_model.proofs.truths.truths_of.Goals as goal

pub index_mut-requires : goal.index_mut-requires
index_mut-requires c =
    let n = numbers c.args.st.now in
    let x = c.index-atoms-k.result in
    let is = told_number n c.args.head c.args.sorts.now x c.in_ok-number.field-0 c.in-Some.number c.in-Some.is c.in_ok-number.ensures in
    omega (arith, number_within n c.args.head c.args.sorts.now x c.in-Some.number is, c.loop-k.invariant.len)

pub loop-k-preserved-in-Some : goal.loop-k-preserved-in-Some
loop-k-preserved-in-Some c =
    let n = numbers c.args.st.now in
    let atoms = c.args.st.now.g.now.atoms in
    let x = c.index-atoms-k.result in
    let k = c.loop-k.k in
    let is = told_number n c.args.head c.args.sorts.now x c.in_ok-number.field-0 c.in-Some.number c.in-Some.is c.in_ok-number.ensures in
    let here : get_or atoms (k - 1) x ≡ x = subst (λ xs. get_or xs (k - 1) x ≡ x) c.as_slice-atoms.ensures (sym c.index-atoms-k.is) in
    let len : k - 1 < length atoms = subst (λ xs. k - 1 < length xs) c.as_slice-atoms.ensures (omega arith) in
    written n atoms (assignment_of c.args.st.now.a.now) c.args.head c.args.sorts.now c.loop-k.truths.items k x c.in-Some.number c.is_true.result
    (omega arith) len here c.requires is c.is_true.ensures c.loop-k.invariant
