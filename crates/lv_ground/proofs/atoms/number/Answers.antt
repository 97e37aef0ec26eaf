use Rattle.std.proofs.Common.{◌≡◌, suc, ◌+◌, ◌∷◌, ◌++◌, [], length, set, sym, ap, ◌∙◌, subst, arith}
use Rattle.lv_places.specs.Grounds.{find_atom}
use Rattle.lv_ground.specs.Positions.{position, IsTable}
use Rattle.lv_ground.specs.Settings.{numbers}
use Rattle.lv_ground.proofs.Marks.{known_at, unknown_at, added, with_mark, more_room}
use Rattle.lv_ground.proofs.Positions.{position_below}
use Rattle.lv_ground.proofs.atoms.number.Goals as goal

pub index-mark-requires : goal.index-mark-requires
index-mark-requires c =
    let n = numbers c.args.setting.now in
    omega (arith, position_below c.args.setting.now.sk.now n c.args.atom c.requires.possible, c.requires.marked.len, c.in_ok-at.ensures)

pub returns-then-mark-gt0-clause-list : goal.returns-then-mark-gt0-clause-list
returns-then-mark-gt0-clause-list c =
    sym (known_at c.args.setting.now.sk.now (numbers c.args.setting.now) c.args.atoms.now.list.items c.args.atoms.now.marks.items c.args.atom
    c.in_ok-at.field-0 c.index-mark.result.now
    c.requires.marked c.requires.possible c.in_ok-at.ensures c.index-mark.ensures c.if-mark-gt0.true).0

pub returns-then-mark-gt0-clause-number : goal.returns-then-mark-gt0-clause-number
returns-then-mark-gt0-clause-number c =
    sym (known_at c.args.setting.now.sk.now (numbers c.args.setting.now) c.args.atoms.now.list.items c.args.atoms.now.marks.items c.args.atom
    c.in_ok-at.field-0 c.index-mark.result.now
    c.requires.marked c.requires.possible c.in_ok-at.ensures c.index-mark.ensures c.if-mark-gt0.true).1

pub overflow_add-number : goal.overflow_add-number
overflow_add-number c =
    let none = unknown_at c.args.setting.now.sk.now (numbers c.args.setting.now) c.args.atoms.now.list.items c.args.atoms.now.marks.items c.args.atom
    c.in_ok-at.field-0 c.index-mark.result.now
    c.requires.marked c.requires.possible c.in_ok-at.ensures c.index-mark.ensures (omega (arith, c.if-mark-gt0.false)) in
    omega (
      arith,
      more_room c.args.setting.now.sk.now (numbers c.args.setting.now) c.args.atoms.now.list.items c.args.atoms.now.marks.items c.args.atom
          c.requires.marked c.requires.possible none,
      c.len-number.ensures,
    )

pub index_mut-requires : goal.index_mut-requires
index_mut-requires c =
    let n = numbers c.args.setting.now in
    omega (arith, position_below c.args.setting.now.sk.now n c.args.atom c.requires.possible, c.requires.marked.len, c.in_ok-at.ensures)

pub returns-clause-list : goal.returns-clause-list
returns-clause-list c =
    let none = unknown_at c.args.setting.now.sk.now (numbers c.args.setting.now) c.args.atoms.now.list.items c.args.atoms.now.marks.items c.args.atom
    c.in_ok-at.field-0 c.index-mark.result.now
    c.requires.marked c.requires.possible c.in_ok-at.ensures c.index-mark.ensures (omega (arith, c.if-mark-gt0.false)) in
    c.in_ok-push.ensures.items ∙ sym (added c.args.atoms.now.list.items c.args.atom none).0

pub returns-clause-number : goal.returns-clause-number
returns-clause-number c =
    let none = unknown_at c.args.setting.now.sk.now (numbers c.args.setting.now) c.args.atoms.now.list.items c.args.atoms.now.marks.items c.args.atom
    c.in_ok-at.field-0 c.index-mark.result.now
    c.requires.marked c.requires.possible c.in_ok-at.ensures c.index-mark.ensures (omega (arith, c.if-mark-gt0.false)) in
    let e : c.len-number.result ≡ length c.args.atoms.now.list.items = omega (arith, c.len-number.ensures) in
    e ∙ sym (added c.args.atoms.now.list.items c.args.atom none).1 ∙ ap (λ l. find_atom l c.args.atom) (sym c.in_ok-push.ensures.items)

pub returns-clause-marked : goal.returns-clause-marked
returns-clause-marked c =
    let sk = c.args.setting.now.sk.now in
    let n = numbers c.args.setting.now in
    let xs = c.args.atoms.now.list.items in
    let none = unknown_at sk n xs c.args.atoms.now.marks.items c.args.atom c.in_ok-at.field-0 c.index-mark.result.now
    c.requires.marked c.requires.possible c.in_ok-at.ensures c.index-mark.ensures (omega (arith, c.if-mark-gt0.false)) in
    let r = with_mark sk n xs c.args.atoms.now.marks.items c.args.atom c.requires.marked c.requires.possible none in
    let at : position sk n c.args.atom ≡ c.in_ok-at.field-0 = sym c.in_ok-at.ensures in
    let count : suc (length xs) ≡ c.len-number.result + 1 = omega (arith, c.len-number.ensures) in
    subst (λ l. IsTable sk n l (set c.args.atoms.now.marks.items c.in_ok-at.field-0 (c.len-number.result + 1))) (sym c.in_ok-push.ensures.items)
    (subst (λ j. IsTable sk n (xs ++ c.args.atom ∷ []) (set c.args.atoms.now.marks.items c.in_ok-at.field-0 j)) count
    (subst (λ i. IsTable sk n (xs ++ c.args.atom ∷ []) (set c.args.atoms.now.marks.items i (suc (length xs)))) at r))
