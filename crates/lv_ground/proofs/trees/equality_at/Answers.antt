use Rattle.std.proofs.Common.{◌≡◌, subst}
use Rattle.lv_cnf.specs.declared.prop.Prop.TheVariants as prop
use Rattle.lv_cnf.specs.Nodes.{plain}
use Rattle.lv_places.specs.declared.grounded.GroundAtom.TheVariants.{Equal}
use Rattle.lv_places.specs.Forms.{Same}
use Rattle.lv_places.specs.GroundForms.{TLit, ground_atom}
use Rattle.lv_ground.specs.Growth.{Grown}
use Rattle.lv_ground.specs.Positions.{IsPossible}
use Rattle.lv_ground.specs.Settings.{naming, numbers}
use Rattle.lv_ground.specs.Instances.{binders_around, terms_around}
use Rattle.lv_ground.proofs.Standing.{literal_possible}
use Rattle.lv_ground.proofs.Walk.{grown_literal}
use Rattle.lv_ground.proofs.trees.equality_at.Goals as goal

pub number-requires-clause-possible : goal.number-requires-clause-possible
number-requires-clause-possible c =
    let e : ground_atom (naming c.args.setting.now) (terms_around c.args.around.now) (Same c.args.a.now c.args.b.now) ≡ Equal c.in_ok-left.left
    c.in_ok-right.right =
    (let p = c.in_ok-left.ensures in let q = c.in_ok-right.ensures in cc) in
    subst (IsPossible c.args.setting.now.sk.now (numbers c.args.setting.now)) e
    (literal_possible c.args.setting.now c.requires.ready (binders_around c.args.around.now) (terms_around c.args.around.now) c.args.next c.args.positive
    (Same c.args.a.now c.args.b.now) c.requires.stands)

pub returns-clause-grown : goal.returns-clause-grown
returns-clause-grown c =
    let e : Equal c.in_ok-left.left c.in_ok-right.right ≡ ground_atom (naming c.args.setting.now) (terms_around c.args.around.now)
    (Same c.args.a.now c.args.b.now) =
    (let p = c.in_ok-left.ensures in let q = c.in_ok-right.ensures in cc) in
    subst (λ a. Grown c.args.atoms.now.list.items (TLit c.args.positive a) c.number.new.atoms.list.items
    (plain (prop.Lit (record { var = c.in_ok-var.var; positive = c.args.positive })))) e
    (grown_literal c.args.atoms.now.list.items c.number.new.atoms.list.items c.args.positive (Equal c.in_ok-left.left c.in_ok-right.right) c.in_ok-var.var
    c.in_ok-var.ensures.list c.in_ok-var.ensures.number)
