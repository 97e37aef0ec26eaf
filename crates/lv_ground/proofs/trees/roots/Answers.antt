use Rattle.std.proofs.Common.{◌≡◌, ◌+◌, [], length, drop, sym, subst, arith, true}
use Rattle.lv_cnf.specs.Nodes.{plains}
use Rattle.lv_places.specs.Forms.{form_of, forms_of}
use Rattle.lv_places.specs.Places.{sites}
use Rattle.lv_places.specs.GroundForms.{ground_all}
use Rattle.lv_ground.specs.Settings.{naming}
use Rattle.lv_ground.specs.Growth.{AllGrown, Awaits}
use Rattle.lv_ground.specs.Instances.{signed_form}
use Rattle.lv_ground.proofs.Walk.{stands_now, stand_then, awaits_then, trees_end}
use Rattle.lv_ground.proofs.trees.roots.Goals as goal

pub tree-requires-clause-stands : goal.tree-requires-clause-stands
tree-requires-clause-stands c =
    stands_now c.args.setting.now [] [] c.args.forms.now c.loop-f.f-index c.f-item.result c.loop-f-test.true
    (sym c.f-item.is) c.loop-f.next c.loop-f.invariant.stand

pub loop-f-preserved : goal.loop-f-preserved
loop-f-preserved c =
    let st = c.args.setting.now in
    let fs = c.args.forms.now in
    let i = c.loop-f.f-index in
    let f = c.f-item.result in
    let k = c.loop-f.next in
    let step : c.tree.new.next ≡ k + length (sites [] (signed_form true (form_of f))) = c.in_ok-tree.ensures.next in
    let whole = ground_all (naming st) 0 [] [] (forms_of fs) in
    record {
      grown = subst (λ l. Awaits c.args.atoms.now.list.items whole c.tree.new.atoms.list.items l
          (ground_all (naming st) c.tree.new.next [] [] (forms_of (drop (i + 1) fs)))) (sym c.in_ok-push.ensures.items)
          (awaits_then st [] [] fs i f c.loop-f-test.true (sym c.f-item.is) k c.tree.new.next step c.args.atoms.now.list.items whole
          c.loop-f.atoms.list.items c.tree.new.atoms.list.items c.loop-f.props.items c.in_ok-tree.field-0 c.loop-f.invariant.grown
          c.in_ok-tree.ensures.grown);
      marked = c.in_ok-tree.ensures.marked;
      stand = stand_then st [] [] fs i f c.loop-f-test.true (sym c.f-item.is) k c.tree.new.next step c.loop-f.invariant.stand;
    }

pub returns-clause-grown : goal.returns-clause-grown
returns-clause-grown c =
    let whole = ground_all (naming c.args.setting.now) 0 [] [] (forms_of c.args.forms.now) in
    subst (λ l. AllGrown c.args.atoms.now.list.items whole c.loop-f.atoms.list.items (plains l)) (sym c.from_vec.ensures)
    (trees_end c.args.setting.now [] [] c.args.forms.now c.loop-f.f-index c.loop-f.next c.args.atoms.now.list.items c.loop-f.atoms.list.items whole
    c.loop-f.props.items (omega (arith, c.loop-f-test.false)) c.loop-f.invariant.grown)
