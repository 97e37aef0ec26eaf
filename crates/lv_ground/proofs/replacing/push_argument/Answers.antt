use Rattle.std.proofs.Common.{◌≡◌, ◌<◌, List, length, take, get_or, sym, ap, ◌∙◌, subst, arith}
use Rattle.std.proofs.Math.Seq.{take-length}
use Rattle.lv_places.specs.declared.terms.TermId.{TermId}
use Rattle.lv_places.specs.Universes.{tuples}
use Rattle.lv_places.specs.Equality.{GroundClause, each_of, each_in}
use Rattle.lv_places.proofs.Universes.{AreTerms}
use Rattle.lv_ground.specs.Positions.{sort}
use Rattle.lv_ground.specs.Settings.{numbers}
use Rattle.lv_ground.specs.Making.{Makes, other_at}
use Rattle.lv_ground.proofs.Making.{makes_none, list_next}
use Rattle.lv_ground.proofs.Standing.{tuple_there}
use Rattle.lv_ground.proofs.replacing.push_argument.Goals as goal

pub loop-tuple-init : goal.loop-tuple-init
loop-tuple-init c = makes_none c.args.setting.now c.args.made.now c.requires.marked

pub push_others-requires-clause-tuple : goal.push_others-requires-clause-tuple
push_others-requires-clause-tuple c =
    let n = numbers c.args.setting.now in
    let ss = c.args.sorts.now in
    let i = c.loop-tuple.tuple-index in
    let ts = c.tuple-item.result in
    subst (AreTerms n ss) (sym c.as_slice.ensures)
    (tuple_there n ss i ts (subst (λ l. i < length l) c.requires.all c.loop-tuple-test.true)
    (subst (λ l. get_or l i ts ≡ ts) c.requires.all (sym c.tuple-item.is)))

pub loop-tuple-preserved : goal.loop-tuple-preserved
loop-tuple-preserved c =
    let st = c.args.setting.now in
    let f = λ (ts : List TermId). each_of {A = GroundClause} 0 (numbers st (get_or c.args.sorts.now c.args.at (sort 0)))
    (other_at st c.args.head c.args.sorts.now c.args.at ts) in
    list_next st c.args.made.now c.loop-tuple.made c.push_others.new.made c.args.all.now c.loop-tuple.tuple-index c.tuple-item.result f
    c.loop-tuple-test.true (sym c.tuple-item.is) c.loop-tuple.invariant
    (subst (λ ts. Makes st c.loop-tuple.made (f ts) c.push_others.new.made) c.as_slice.ensures c.in_ok-push_others.ensures)

pub returns : goal.returns
returns c =
    let st = c.args.setting.now in
    let f = λ (ts : List TermId). each_of {A = GroundClause} 0 (numbers st (get_or c.args.sorts.now c.args.at (sort 0)))
    (other_at st c.args.head c.args.sorts.now c.args.at ts) in
    let i : c.loop-tuple.tuple-index ≡ length c.args.all.now = omega (arith, c.loop-tuple-test.false) in
    let e : take c.loop-tuple.tuple-index c.args.all.now ≡ tuples (numbers st) c.args.sorts.now = ap (λ k. take k c.args.all.now) i
    ∙ take-length c.args.all.now ∙ c.requires.all in
    subst (λ l. Makes st c.args.made.now (each_in l f) c.loop-tuple.made) e c.loop-tuple.invariant
