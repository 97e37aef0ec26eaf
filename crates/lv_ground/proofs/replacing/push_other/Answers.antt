use Rattle.std.proofs.Common.{◌∷◌, [], get_or, set, sym, ◌∙◌, subst, arith, eqb, refl}
use Rattle.std.proofs.lemmas.Bool.{eq-eqb, ne_eqb}
use Rattle.lv_places.specs.declared.grounded.GroundAtom.TheVariants as make
use Rattle.lv_places.specs.Universes.{term}
use Rattle.lv_places.specs.Equality.{is, is_not}
use Rattle.lv_places.proofs.Universes.{AreTerms, same_length}
use Rattle.lv_places.proofs.Sites.{term_at}
use Rattle.lv_ground.specs.Positions.{sort}
use Rattle.lv_ground.specs.Settings.{numbers}
use Rattle.lv_ground.specs.Instances.{place_number}
use Rattle.lv_ground.specs.Making.{Makes, IsApplied, change_of}
use Rattle.lv_ground.proofs.Making.{on_ok, makes_skip, makes_unless}
use Rattle.lv_ground.proofs.Standing.{in_range, are_set, place_pair_possible}
use Rattle.lv_ground.proofs.replacing.push_other.Goals as goal

pub bounds-tuple-at : goal.bounds-tuple-at
bounds-tuple-at c = omega (arith, same_length (numbers c.args.setting.now) c.args.sorts.now c.args.tuple.now c.requires.tuple, c.requires.at)

pub returns-then-left-other : goal.returns-then-left-other
returns-then-left-other c =
    makes_skip c.args.setting.now c.args.made.now (eqb (get_or c.args.tuple.now c.args.at (term (sort 0) 0)).place c.args.other) _
    (eq-eqb _ c.args.other c.if-left-other.true) c.requires.marked

pub replaced-requires : goal.replaced-requires
replaced-requires c = omega (arith, same_length (numbers c.args.setting.now) c.args.sorts.now c.args.tuple.now c.requires.tuple, c.requires.at)

pub push_relation-requires-clause-equal : goal.push_relation-requires-clause-equal
push_relation-requires-clause-equal c =
    let n = numbers c.args.setting.now in
    let s = get_or c.args.sorts.now c.args.at (sort 0) in
    let left = term_at n c.args.sorts.now c.args.tuple.now c.args.at (sort 0) (term (sort 0) 0) c.requires.tuple c.requires.at in
    (s, in_range c.args.setting.now c.requires.ready s _ left, left, record { sort_is = refl; within = c.requires.other })

pub push_relation-requires-clause-from : goal.push_relation-requires-clause-from
push_relation-requires-clause-from c = (
  c.args.sorts.now,
  subst (λ h. IsApplied c.args.setting.now h c.args.sorts.now) c.in-Relation.is c.requires.applied,
  c.requires.tuple,
)

pub push_relation-requires-clause-to : goal.push_relation-requires-clause-to
push_relation-requires-clause-to c =
    let n = numbers c.args.setting.now in
    let s = get_or c.args.sorts.now c.args.at (sort 0) in
    let to = are_set n c.args.sorts.now c.args.tuple.now c.args.at (term s c.args.other) c.requires.tuple c.requires.at
    (record { sort_is = refl; within = c.requires.other }) in (
      c.args.sorts.now,
      subst (λ h. IsApplied c.args.setting.now h c.args.sorts.now) c.in-Relation.is c.requires.applied,
      subst
          (AreTerms n c.args.sorts.now) (sym (c.as_slice.ensures.value ∙ c.in_ok-to.ensures)) to,
    )

pub push_place-requires-clause-there : goal.push_place-requires-clause-there
push_place-requires-clause-there c = (subst (λ h. IsApplied c.args.setting.now h c.args.sorts.now) c.in-Place.is c.requires.applied).0

pub push_place-requires-clause-equal : goal.push_place-requires-clause-equal
push_place-requires-clause-equal c =
    let n = numbers c.args.setting.now in
    let s = get_or c.args.sorts.now c.args.at (sort 0) in
    let left = term_at n c.args.sorts.now c.args.tuple.now c.args.at (sort 0) (term (sort 0) 0) c.requires.tuple c.requires.at in
    (s, in_range c.args.setting.now c.requires.ready s _ left, left, record { sort_is = refl; within = c.requires.other })

pub push_place-requires-clause-both : goal.push_place-requires-clause-both
push_place-requires-clause-both c =
    let n = numbers c.args.setting.now in
    let s = get_or c.args.sorts.now c.args.at (sort 0) in
    let to = are_set n c.args.sorts.now c.args.tuple.now c.args.at (term s c.args.other) c.requires.tuple c.requires.at
    (record { sort_is = refl; within = c.requires.other }) in
    let to' = subst (AreTerms n c.args.sorts.now) (sym (c.as_slice-in-Place.ensures.value ∙ c.in_ok-to.ensures)) to in
    let applied = subst (λ h. IsApplied c.args.setting.now h c.args.sorts.now) c.in-Place.is c.requires.applied in
    place_pair_possible c.args.setting.now c.requires.ready c.in-Place.place c.args.sorts.now c.args.tuple.now c.as_slice-in-Place.result.now applied.0
    applied.1 c.requires.tuple to'

pub returns-in-Relation : goal.returns-in-Relation
returns-in-Relation c =
    let st = c.args.setting.now in
    let ts = c.args.tuple.now in
    let a = get_or ts c.args.at (term (sort 0) 0) in
    let b = term (get_or c.args.sorts.now c.args.at (sort 0)) c.args.other in
    let us = set ts c.args.at b in
    on_ok c.push_relation.result c.push_relation.ensures (λ h.
    let h1 = subst (λ l. Makes st c.args.made.now
    ((is_not (make.Equal a b) ∷ is_not (make.Relation c.in-Relation.sym ts) ∷ is (make.Relation c.in-Relation.sym l) ∷ []) ∷ [])
    c.push_relation.new.made)
    (c.as_slice.ensures.value ∙ c.in_ok-to.ensures) h in
    makes_unless st c.args.made.now c.push_relation.new.made (eqb a.place c.args.other) (change_of st c.args.head ts a b us ∷ [])
    (ne_eqb a.place c.args.other c.if-left-other.false)
    (subst (λ x. Makes st c.args.made.now (change_of st x ts a b us ∷ []) c.push_relation.new.made) (sym c.in-Relation.is) h1))

pub returns : goal.returns
returns c =
    let st = c.args.setting.now in
    let ts = c.args.tuple.now in
    let a = get_or ts c.args.at (term (sort 0) 0) in
    let b = term (get_or c.args.sorts.now c.args.at (sort 0)) c.args.other in
    let us = set ts c.args.at b in
    let k = c.in-Place.place in
    on_ok c.push_place.result c.push_place.ensures (λ h.
    let h1 = subst (λ l. Makes st c.args.made.now ((is_not (make.Equal a b) ∷ is (make.Equal (place_number st k ts) (place_number st k l)) ∷ []) ∷ [])
    c.push_place.new.made)
    (c.as_slice-in-Place.ensures.value ∙ c.in_ok-to.ensures) h in
    makes_unless st c.args.made.now c.push_place.new.made (eqb a.place c.args.other) (change_of st c.args.head ts a b us ∷ [])
    (ne_eqb a.place c.args.other c.if-left-other.false)
    (subst (λ x. Makes st c.args.made.now (change_of st x ts a b us ∷ []) c.push_place.new.made) (sym c.in-Place.is) h1))
