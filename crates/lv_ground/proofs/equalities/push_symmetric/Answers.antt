use Rattle.std.proofs.Common.{◌∷◌, ◌++◌, [], ap, ◌∙◌, eqb}
use Rattle.std.proofs.lemmas.Bool.{eq-eqb, ne_eqb}
use Rattle.lv_cnf.specs.Literals.{negative_literal}
use Rattle.lv_places.specs.declared.grounded.GroundAtom.TheVariants.{Equal}
use Rattle.lv_places.specs.Universes.{term}
use Rattle.lv_places.specs.Equality.{is, is_not}
use Rattle.lv_ground.proofs.Making.{made_two, on_ok, makes_skip, makes_unless}
use Rattle.lv_ground.proofs.equalities.push_symmetric.Goals as goal

pub returns-then-a-b : goal.returns-then-a-b
returns-then-a-b c = makes_skip c.args.setting.now c.args.made.now (eqb c.args.a c.args.b) _ (eq-eqb c.args.a c.args.b c.if-a-b.true) c.requires.marked

pub returns : goal.returns
returns c =
    let out = c.args.made.now.clauses.items in
    let a = is_not (Equal (term c.args.sort c.args.a) (term c.args.sort c.args.b)) in
    let b = is (Equal (term c.args.sort c.args.b) (term c.args.sort c.args.a)) in
    on_ok c.push_clause.result c.push_clause.ensures (λ e. makes_unless c.args.setting.now c.args.made.now _ (eqb c.args.a c.args.b) ((a ∷ b ∷ []) ∷ [])
    (ne_eqb c.args.a c.args.b c.if-a-b.false) (record {
      made = made_two c.args.made.now.atoms.list.items out c.push_clause.new.clauses.items a b c.equal.new.atoms.list.items c.equal-2.new.atoms.list.items
          c.in_ok-there.there c.in_ok-back.back
          c.in_ok-there.ensures.list c.in_ok-back.ensures.list c.in_ok-there.ensures.number c.in_ok-back.ensures.number
          (e ∙ ap (λ l. out ++ (l ∷ c.positive.result ∷ []) ∷ []) c.negative.ensures ∙ ap (λ l. out ++ (negative_literal c.in_ok-there.there ∷ l ∷ []) ∷ [])
          c.positive.ensures);
      marked = c.in_ok-back.ensures.marked;
    }))
