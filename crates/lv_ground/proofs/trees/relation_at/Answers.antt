use Rattle.std.proofs.Common.{◌∙◌, sym, subst}
use Rattle.lv_cnf.specs.declared.prop.Prop.TheVariants as prop
use Rattle.lv_cnf.specs.Nodes.{plain}
use Rattle.lv_places.specs.declared.grounded.GroundAtom.TheVariants.{Relation}
use Rattle.lv_places.specs.Forms.{Rel}
use Rattle.lv_places.specs.GroundForms.{TLit}
use Rattle.lv_ground.specs.Growth.{Grown}
use Rattle.lv_ground.specs.Positions.{IsPossible}
use Rattle.lv_ground.specs.Settings.{numbers}
use Rattle.lv_ground.specs.Instances.{binders_around, terms_around}
use Rattle.lv_ground.proofs.Standing.{literal_possible}
use Rattle.lv_ground.proofs.Walk.{grown_literal}
use Rattle.lv_ground.proofs.trees.relation_at.Goals as goal

pub number-requires-clause-possible : goal.number-requires-clause-possible
number-requires-clause-possible c =
    subst (λ ts. IsPossible c.args.setting.now.sk.now (numbers c.args.setting.now) (Relation c.args.sym ts))
    (sym (c.from_vec-terms.ensures ∙ c.in_ok-instances_of.ensures))
    (literal_possible c.args.setting.now c.requires.ready (binders_around c.args.around.now) (terms_around c.args.around.now) c.args.next c.args.positive
    (Rel c.args.sym c.args.terms.now) c.requires.stands)

pub returns-clause-grown : goal.returns-clause-grown
returns-clause-grown c =
    let e = c.from_vec-terms.ensures ∙ c.in_ok-instances_of.ensures in
    subst (λ ts. Grown c.args.atoms.now.list.items (TLit c.args.positive (Relation c.args.sym ts)) c.number.new.atoms.list.items
    (plain (prop.Lit (record { var = c.in_ok-var.var; positive = c.args.positive })))) e
    (grown_literal c.args.atoms.now.list.items c.number.new.atoms.list.items c.args.positive (Relation c.args.sym c.from_vec-terms.result) c.in_ok-var.var
    c.in_ok-var.ensures.list c.in_ok-var.ensures.number)
