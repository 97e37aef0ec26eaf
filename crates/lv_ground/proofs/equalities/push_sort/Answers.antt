use Rattle.std.proofs.Common.{◌++◌, refl}
use Rattle.lv_places.specs.Equality.{reflexive_clauses, symmetric_clauses, transitive_clauses}
use Rattle.lv_ground.specs.Settings.{numbers}
use Rattle.lv_ground.proofs.Making.{on_ok, makes_next}
use Rattle.lv_ground.proofs.equalities.push_sort.Goals as goal

pub returns : goal.returns
returns c =
    let st = c.args.setting.now in
    let s = c.args.sort in
    let n = numbers st s in
    let x = c.push_all_reflexive.new.made in
    let y = c.push_all_symmetric.new.made in
    let z = c.push_all_transitive.new.made in
    on_ok c.push_all_transitive.result c.push_all_transitive.ensures (λ h.
    makes_next st c.args.made.now x z (reflexive_clauses s n) (symmetric_clauses s n ++ transitive_clauses s n)
    (reflexive_clauses s n ++ (symmetric_clauses s n ++ transitive_clauses s n)) refl c.in_ok-push_all_reflexive.ensures
    (makes_next st x y z (symmetric_clauses s n) (transitive_clauses s n) (symmetric_clauses s n ++ transitive_clauses s n) refl
    c.in_ok-push_all_symmetric.ensures h))
