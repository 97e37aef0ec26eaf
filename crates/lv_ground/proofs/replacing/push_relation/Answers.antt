use Rattle.std.proofs.Common.{◌∷◌, ◌++◌, [], ap, ◌∙◌}
use Rattle.lv_cnf.specs.Literals.{negative_literal}
use Rattle.lv_places.specs.declared.grounded.GroundAtom.TheVariants.{Relation}
use Rattle.lv_places.specs.Equality.{is, is_not}
use Rattle.lv_places.specs.Grounds.{find_atom, with_atom}
use Rattle.lv_ground.proofs.Making.{made_three, on_ok}
use Rattle.lv_ground.proofs.replacing.push_relation.Goals as goal

pub returns : goal.returns
returns c =
    let out = c.args.made.now.clauses.items in
    let x1 = c.number.new.atoms.list.items in
    let x2 = c.number-2.new.atoms.list.items in
    let x3 = c.number-3.new.atoms.list.items in
    let b = c.in_ok-relation_atom.ensures in
    let d = c.in_ok-relation_atom-2.ensures in
    on_ok c.push_clause.result c.push_clause.ensures (λ e. record {
      made = made_three c.args.made.now.atoms.list.items out c.push_clause.new.clauses.items (is_not c.args.equal)
          (is_not (Relation c.args.sym c.args.from.now)) (is (Relation c.args.sym c.args.to.now)) x1 x2 x3
          c.in_ok-same.same c.in_ok-first.first c.in_ok-second.second c.in_ok-same.ensures.list (c.in_ok-first.ensures.list ∙ ap (with_atom x1) b)
          (c.in_ok-second.ensures.list ∙ ap (with_atom x2) d)
          c.in_ok-same.ensures.number (c.in_ok-first.ensures.number ∙ ap (find_atom x2) b) (c.in_ok-second.ensures.number ∙ ap (find_atom x3) d)
          (e ∙ ap (λ l. out ++ (l ∷ c.negative-2.result ∷ c.positive.result ∷ []) ∷ []) c.negative.ensures
          ∙ ap (λ l. out ++ (negative_literal c.in_ok-same.same ∷ l ∷ c.positive.result ∷ []) ∷ []) c.negative-2.ensures
          ∙ ap (λ l. out ++ (negative_literal c.in_ok-same.same ∷ negative_literal c.in_ok-first.first ∷ l ∷ []) ∷ []) c.positive.ensures);
      marked = c.in_ok-second.ensures.marked;
    })
