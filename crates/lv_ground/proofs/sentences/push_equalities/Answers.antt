use Rattle.std.proofs.Common.{◌++◌, refl}
use Rattle.lv_places.specs.Equality.{each_of, sort_clauses, relation_clauses, place_clauses}
use Rattle.lv_ground.specs.Positions.{sort}
use Rattle.lv_ground.specs.Settings.{numbers}
use Rattle.lv_ground.proofs.Making.{on_ok, makes_next}
use Rattle.lv_ground.proofs.sentences.push_equalities.Goals as goal

pub returns : goal.returns
returns c =
    let st = c.args.setting.now in
    let n = numbers st in
    let x = c.push_sorts.new.made in
    let y = c.push_relations.new.made in
    let z = c.push_places.new.made in
    let a = each_of 0 st.sk.now.sorts (λ i. sort_clauses (sort i) (n (sort i))) in
    let b = relation_clauses n st.sk.now.relations in
    let d = place_clauses st.sk.now n 0 st.sk.now.places in
    on_ok c.push_places.result c.push_places.ensures (λ h.
    makes_next st c.args.made.now x z a (b ++ d) (a ++ (b ++ d)) refl c.in_ok-push_sorts.ensures
    (makes_next st x y z b d (b ++ d) refl c.in_ok-push_relations.ensures h))
