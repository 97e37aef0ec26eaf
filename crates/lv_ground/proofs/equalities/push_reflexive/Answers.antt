use Rattle.std.proofs.Common.{◌∷◌, ◌++◌, [], ap, ◌∙◌}
use Rattle.lv_places.specs.declared.grounded.GroundAtom.TheVariants.{Equal}
use Rattle.lv_places.specs.Universes.{term}
use Rattle.lv_places.specs.Equality.{is}
use Rattle.lv_ground.proofs.Making.{made_one, on_ok}
use Rattle.lv_ground.proofs.Standing.{pair_possible}
use Rattle.lv_ground.proofs.equalities.push_reflexive.Goals as goal

pub number-requires-clause-possible : goal.number-requires-clause-possible
number-requires-clause-possible c = pair_possible c.args.setting.now c.requires.ready c.args.sort c.args.a c.args.a c.requires.sort c.requires.a
    c.requires.a

pub returns : goal.returns
returns c =
    let out = c.args.made.now.clauses.items in
    let a = is (Equal (term c.args.sort c.args.a) (term c.args.sort c.args.a)) in
    on_ok c.push_clause.result c.push_clause.ensures (λ e. record {
      made = made_one c.args.made.now.atoms.list.items out c.push_clause.new.clauses.items a c.number.new.atoms.list.items c.in_ok-number.field-0
          c.in_ok-number.ensures.list c.in_ok-number.ensures.number (e ∙ ap (λ l. out ++ (l ∷ []) ∷ []) c.positive-same.ensures);
      marked = c.in_ok-number.ensures.marked;
    })
