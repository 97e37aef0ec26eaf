use Rattle.std.proofs.Common.{◌≡◌, ◌∷◌, ◌++◌, [], ap, ◌∙◌}
use Rattle.lv_cnf.specs.Literals.{negative_literal}
use Rattle.lv_places.specs.declared.grounded.GroundAtom.TheVariants.{Equal}
use Rattle.lv_places.specs.Equality.{is, is_not}
use Rattle.lv_places.specs.Grounds.{find_atom, with_atom}
use Rattle.lv_ground.specs.Instances.{place_number}
use Rattle.lv_ground.proofs.Making.{made_two, on_ok}
use Rattle.lv_ground.proofs.replacing.push_place.Goals as goal

pub returns : goal.returns
returns c =
    let out = c.args.made.now.clauses.items in
    let x1 = c.number.new.atoms.list.items in
    let x2 = c.number-2.new.atoms.list.items in
    let from = place_number c.args.setting.now c.args.place c.args.from.now in
    let to = place_number c.args.setting.now c.args.place c.args.to.now in
    let both : Equal c.in_ok-left.left c.in_ok-right.right ≡ Equal from to = (let p = c.in_ok-left.ensures in let q = c.in_ok-right.ensures in cc) in
    on_ok c.push_clause.result c.push_clause.ensures (λ e. record {
      made = made_two c.args.made.now.atoms.list.items out c.push_clause.new.clauses.items (is_not c.args.equal)
          (is (Equal from to)) x1 x2 c.in_ok-same.same c.in_ok-both.both
          c.in_ok-same.ensures.list (c.in_ok-both.ensures.list ∙ ap (with_atom x1) both) c.in_ok-same.ensures.number
          (c.in_ok-both.ensures.number ∙ ap (find_atom x2) both)
          (e ∙ ap (λ l. out ++ (l ∷ c.positive.result ∷ []) ∷ []) c.negative.ensures ∙ ap (λ l. out ++ (negative_literal c.in_ok-same.same ∷ l ∷ []) ∷ [])
          c.positive.ensures);
      marked = c.in_ok-both.ensures.marked;
    })
