use Rattle.std.proofs.Common.{Result, Ok, Err, ℕ, ◌≡◌, ◌+◌, ◌-◌, ◌<◌, ◌∷◌, length, drop, refl, sym, ap, ◌∙◌, subst, arith, true}
use Rattle.std.specs.Result.{IfOk, OnOk}
use Rattle.lv_formula.specs.declared.formula.Formula.TheVariants as make
use Rattle.lv_cnf.specs.Nodes.{plain, plains}
use Rattle.lv_places.specs.Forms.{form_of, forms_of}
use Rattle.lv_places.specs.Places.{Chosen, sites}
use Rattle.lv_places.specs.Grounds.{find_atom, with_atoms, trees_atoms, all_numbered}
use Rattle.lv_formula.specs.Measures.{nodes_of}
use Rattle.lv_places.specs.Universes.{count_at}
use Rattle.lv_places.specs.GroundForms.{each, ground_form}
use Rattle.lv_ground.specs.Settings.{numbers, naming}
use Rattle.lv_ground.specs.Growth.{Grown, AllGrown, Awaits}
use Rattle.lv_ground.specs.Instances.{binders_around, terms_around, signed_form, ground_at, ground_all_at, instances_at, Stands}
use Rattle.lv_ground.proofs.Shapes.{nodes_not, nodes_and, nodes_or, nodes_all, nodes_any, nodes_at, shape_true, shape_false, shape_atom, shape_same, shape_not, shape_and, shape_or, shape_implies, shape_iff, shape_all, shape_any}
use Rattle.lv_ground.proofs.Standing.{place_there, place_is, inside_stands, inside_is, inside_places, signed_true}
use Rattle.lv_ground.proofs.Walk.{and_stand, or_stand, grown_and, grown_or, grown_all, grown_true, grown_false, stands_now, stand_then, places_then, awaits_then, trees_end, places_end, body_now, instance_then, places_now, instances_end}
use Rattle.lv_ground.proofs.trees.+tree.Goals as goal

always : {A E P : Type 0} (r : Result A E) → P → OnOk r P
always (Ok x) h = h
always (Err e) h = tt

no_places : (k : ℕ) {n : ℕ} → n ≡ 0 → k ≡ k + n
no_places k e = omega arith

-- ---- literals

pub tree-relation_at-requires-clause-stands : goal.tree-relation_at-requires-clause-stands
tree-relation_at-requires-clause-stands t c =
    subst (Stands c.args.setting.now (binders_around c.args.around.now) (terms_around c.args.around.now) c.args.next.now)
    (shape_atom c.args.positive c.args.f.now c.in-Atom.sym c.as_slice.result.now (c.in-Atom.is ∙ ap (make.Atom c.in-Atom.sym) (sym c.as_slice.ensures)))
    c.requires.stands

pub tree-returns-in-Atom-clause-grown : goal.tree-returns-in-Atom-clause-grown
tree-returns-in-Atom-clause-grown t c =
    let e = shape_atom c.args.positive c.args.f.now c.in-Atom.sym c.as_slice.result.now
    (c.in-Atom.is ∙ ap (make.Atom c.in-Atom.sym) (sym c.as_slice.ensures)) in
    subst (λ q. IfOk c.relation_at.result (λ p. Grown c.args.atoms.now.list.items (ground_at c.args.setting.now c.args.around.now c.args.next.now q)
    c.relation_at.new.atoms.list.items (plain p)))
    (sym e) c.relation_at.ensures.grown

pub tree-returns-in-Atom-clause-next : goal.tree-returns-in-Atom-clause-next
tree-returns-in-Atom-clause-next t c = always c.relation_at.result
    (no_places c.args.next.now
    (ap (λ q. length (sites (binders_around c.args.around.now) q)) (shape_atom c.args.positive c.args.f.now c.in-Atom.sym c.as_slice.result.now
    (c.in-Atom.is ∙ ap (make.Atom c.in-Atom.sym) (sym c.as_slice.ensures)))))

pub tree-equality_at-requires-clause-stands : goal.tree-equality_at-requires-clause-stands
tree-equality_at-requires-clause-stands t c = subst
    (Stands c.args.setting.now (binders_around c.args.around.now) (terms_around c.args.around.now) c.args.next.now)
    (shape_same c.args.positive c.args.f.now c.in-Same.a c.in-Same.b c.in-Same.is) c.requires.stands

pub tree-returns-in-Same-clause-grown : goal.tree-returns-in-Same-clause-grown
tree-returns-in-Same-clause-grown t c =
    subst (λ q. IfOk c.equality_at.result (λ p. Grown c.args.atoms.now.list.items (ground_at c.args.setting.now c.args.around.now c.args.next.now q)
    c.equality_at.new.atoms.list.items (plain p)))
    (sym (shape_same c.args.positive c.args.f.now c.in-Same.a c.in-Same.b c.in-Same.is)) c.equality_at.ensures.grown

pub tree-returns-in-Same-clause-next : goal.tree-returns-in-Same-clause-next
tree-returns-in-Same-clause-next t c = always c.equality_at.result
    (no_places c.args.next.now
    (ap (λ q. length (sites (binders_around c.args.around.now) q)) (shape_same c.args.positive c.args.f.now c.in-Same.a c.in-Same.b c.in-Same.is)))

pub tree-returns-in-True-clause-grown : goal.tree-returns-in-True-clause-grown
tree-returns-in-True-clause-grown t c =
    grown_true c.args.setting.now (binders_around c.args.around.now) (terms_around c.args.around.now) c.args.next.now
    (signed_form c.args.positive (form_of c.args.f.now))
    c.args.atoms.now.list.items c.args.atoms.now.list.items (shape_true c.args.positive c.args.f.now c.in-True.is)

pub tree-returns-in-True-clause-next : goal.tree-returns-in-True-clause-next
tree-returns-in-True-clause-next t c = no_places c.args.next.now
    (ap (λ q. length (sites (binders_around c.args.around.now) q)) (shape_true c.args.positive c.args.f.now c.in-True.is))

pub tree-returns-in-False-clause-grown : goal.tree-returns-in-False-clause-grown
tree-returns-in-False-clause-grown t c =
    grown_false c.args.setting.now (binders_around c.args.around.now) (terms_around c.args.around.now) c.args.next.now
    (signed_form c.args.positive (form_of c.args.f.now)) c.args.atoms.now.list.items c.args.atoms.now.list.items
    (shape_false c.args.positive c.args.f.now c.in-False.is)

pub tree-returns-in-False-clause-next : goal.tree-returns-in-False-clause-next
tree-returns-in-False-clause-next t c = no_places c.args.next.now
    (ap (λ q. length (sites (binders_around c.args.around.now) q)) (shape_false c.args.positive c.args.f.now c.in-False.is))

pub tree-returns-in-Implies-clause-grown : goal.tree-returns-in-Implies-clause-grown
tree-returns-in-Implies-clause-grown t c =
    grown_false c.args.setting.now (binders_around c.args.around.now) (terms_around c.args.around.now) c.args.next.now
    (signed_form c.args.positive (form_of c.args.f.now)) c.args.atoms.now.list.items c.args.atoms.now.list.items
    (shape_implies c.args.positive c.args.f.now _ _ c.in-Implies.is)

pub tree-returns-in-Implies-clause-next : goal.tree-returns-in-Implies-clause-next
tree-returns-in-Implies-clause-next t c = no_places c.args.next.now
    (ap (λ q. length (sites (binders_around c.args.around.now) q)) (shape_implies c.args.positive c.args.f.now _ _ c.in-Implies.is))

pub tree-returns-in-Iff-clause-grown : goal.tree-returns-in-Iff-clause-grown
tree-returns-in-Iff-clause-grown t c =
    grown_false c.args.setting.now (binders_around c.args.around.now) (terms_around c.args.around.now) c.args.next.now
    (signed_form c.args.positive (form_of c.args.f.now)) c.args.atoms.now.list.items c.args.atoms.now.list.items
    (shape_iff c.args.positive c.args.f.now _ _ c.in-Iff.is)

pub tree-returns-in-Iff-clause-next : goal.tree-returns-in-Iff-clause-next
tree-returns-in-Iff-clause-next t c = no_places c.args.next.now
    (ap (λ q. length (sites (binders_around c.args.around.now) q)) (shape_iff c.args.positive c.args.f.now _ _ c.in-Iff.is))

-- ---- negations

pub tree-tree-requires : goal.tree-tree-requires
tree-tree-requires t c = (
  omega (arith, nodes_not c.args.f.now c.deref.result.now (c.in-Not.is ∙ ap make.Not (sym c.deref.ensures)), c.decreases),
  (
    c.requires.ready,
    (
      c.requires.marked,
      subst (Stands c.args.setting.now (binders_around c.args.around.now) (terms_around c.args.around.now) c.args.next.now)
          (shape_not c.args.positive c.args.f.now c.deref.result.now (c.in-Not.is ∙ ap make.Not (sym c.deref.ensures))) c.requires.stands,
    ),
  ),
)

pub tree-returns-in-Not-clause-grown : goal.tree-returns-in-Not-clause-grown
tree-returns-in-Not-clause-grown t c =
    let e = shape_not c.args.positive c.args.f.now c.deref.result.now (c.in-Not.is ∙ ap make.Not (sym c.deref.ensures)) in
    subst (λ q. IfOk c.tree.result (λ p. Grown c.args.atoms.now.list.items (ground_at c.args.setting.now c.args.around.now c.args.next.now q)
    c.tree.new.atoms.list.items (plain p)))
    (sym e) c.tree.ensures.grown

pub tree-returns-in-Not-clause-next : goal.tree-returns-in-Not-clause-next
tree-returns-in-Not-clause-next t c =
    let e = shape_not c.args.positive c.args.f.now c.deref.result.now (c.in-Not.is ∙ ap make.Not (sym c.deref.ensures)) in
    subst (λ q. OnOk c.tree.result (c.tree.new.next ≡ c.args.next.now + length (sites (binders_around c.args.around.now) q))) (sym e) c.tree.ensures.next

-- ---- "and", "or" and "all"

pub tree-trees-requires : goal.tree-trees-requires
tree-trees-requires t
    c = (
      omega (arith, nodes_and c.args.f.now c.as_slice-in-And.result.now (c.in-And.is ∙ ap make.And (sym c.as_slice-in-And.ensures)), c.decreases),
      (
        c.requires.ready,
        (
          c.requires.marked,
          and_stand c.args.setting.now (binders_around c.args.around.now) (terms_around c.args.around.now) c.args.next.now (forms_of c.as_slice-in-And.result.now)
              (subst (Stands c.args.setting.now (binders_around c.args.around.now) (terms_around c.args.around.now) c.args.next.now)
              (shape_and c.args.positive c.args.f.now c.as_slice-in-And.result.now (c.in-And.is ∙ ap make.And (sym c.as_slice-in-And.ensures))) c.requires.stands),
        ),
      ),
    )

pub tree-returns-in_ok-trees-in-And-clause-grown : goal.tree-returns-in_ok-trees-in-And-clause-grown
tree-returns-in_ok-trees-in-And-clause-grown t c =
    grown_and c.args.setting.now (binders_around c.args.around.now) (terms_around c.args.around.now) c.args.next.now
    (signed_form c.args.positive (form_of c.args.f.now))
    c.args.atoms.now.list.items c.trees.new.atoms.list.items (forms_of c.as_slice-in-And.result.now) c.in_ok-trees-in-And.field-0
    (shape_and c.args.positive c.args.f.now c.as_slice-in-And.result.now (c.in-And.is ∙ ap make.And (sym c.as_slice-in-And.ensures)))
    c.in_ok-trees-in-And.ensures.grown

pub tree-returns-in_ok-trees-in-And-clause-next : goal.tree-returns-in_ok-trees-in-And-clause-next
tree-returns-in_ok-trees-in-And-clause-next t c =
    c.in_ok-trees-in-And.ensures.next ∙ ap (λ f. c.args.next.now + length (sites (binders_around c.args.around.now) f))
    (sym (shape_and c.args.positive c.args.f.now c.as_slice-in-And.result.now (c.in-And.is ∙ ap make.And (sym c.as_slice-in-And.ensures))))

pub tree-trees-requires-in-Or : goal.tree-trees-requires-in-Or
tree-trees-requires-in-Or t
    c = (
      omega (arith, nodes_or c.args.f.now c.as_slice-in-Or.result.now (c.in-Or.is ∙ ap make.Or (sym c.as_slice-in-Or.ensures)), c.decreases),
      (
        c.requires.ready,
        (
          c.requires.marked,
          or_stand c.args.setting.now (binders_around c.args.around.now) (terms_around c.args.around.now) c.args.next.now (forms_of c.as_slice-in-Or.result.now)
              (subst (Stands c.args.setting.now (binders_around c.args.around.now) (terms_around c.args.around.now) c.args.next.now)
              (shape_or c.args.positive c.args.f.now c.as_slice-in-Or.result.now (c.in-Or.is ∙ ap make.Or (sym c.as_slice-in-Or.ensures))) c.requires.stands),
        ),
      ),
    )

pub tree-returns-in_ok-trees-in-Or-clause-grown : goal.tree-returns-in_ok-trees-in-Or-clause-grown
tree-returns-in_ok-trees-in-Or-clause-grown t c =
    grown_or c.args.setting.now (binders_around c.args.around.now) (terms_around c.args.around.now) c.args.next.now
    (signed_form c.args.positive (form_of c.args.f.now))
    c.args.atoms.now.list.items c.trees-in-Or.new.atoms.list.items (forms_of c.as_slice-in-Or.result.now) c.in_ok-trees-in-Or.field-0
    (shape_or c.args.positive c.args.f.now c.as_slice-in-Or.result.now (c.in-Or.is ∙ ap make.Or (sym c.as_slice-in-Or.ensures)))
    c.in_ok-trees-in-Or.ensures.grown

pub tree-returns-in_ok-trees-in-Or-clause-next : goal.tree-returns-in_ok-trees-in-Or-clause-next
tree-returns-in_ok-trees-in-Or-clause-next t c =
    c.in_ok-trees-in-Or.ensures.next ∙ ap (λ f. c.args.next.now + length (sites (binders_around c.args.around.now) f))
    (sym (shape_or c.args.positive c.args.f.now c.as_slice-in-Or.result.now (c.in-Or.is ∙ ap make.Or (sym c.as_slice-in-Or.ensures))))

pub tree-instances-requires : goal.tree-instances-requires
tree-instances-requires t
    c = (
      omega (
        arith,
        nodes_all c.args.f.now c.in-All.sort c.deref-in-All.result.now
            (c.in-All.is ∙ ap (make.All c.in-All.sort) (sym c.deref-in-All.ensures)),
        c.decreases,
      ),
      (
        c.requires.ready,
        (
          c.requires.marked,
          subst (Stands c.args.setting.now (binders_around c.args.around.now) (terms_around c.args.around.now) c.args.next.now)
              (shape_all c.args.positive c.args.f.now c.in-All.sort c.deref-in-All.result.now
              (c.in-All.is ∙ ap (make.All c.in-All.sort) (sym c.deref-in-All.ensures))) c.requires.stands,
        ),
      ),
    )

pub tree-returns-in_ok-instances-in-All-clause-grown : goal.tree-returns-in_ok-instances-in-All-clause-grown
tree-returns-in_ok-instances-in-All-clause-grown t c =
    grown_all c.args.setting.now (binders_around c.args.around.now) (terms_around c.args.around.now) c.args.next.now
    (signed_form c.args.positive (form_of c.args.f.now))
    c.args.atoms.now.list.items c.instances.new.atoms.list.items c.in-All.sort (form_of c.deref-in-All.result.now) c.in_ok-instances-in-All.field-0
    (shape_all c.args.positive c.args.f.now c.in-All.sort c.deref-in-All.result.now
    (c.in-All.is ∙ ap (make.All c.in-All.sort) (sym c.deref-in-All.ensures))) c.in_ok-instances-in-All.ensures.grown

pub tree-returns-in_ok-instances-in-All-clause-next : goal.tree-returns-in_ok-instances-in-All-clause-next
tree-returns-in_ok-instances-in-All-clause-next t c =
    c.in_ok-instances-in-All.ensures.next ∙ ap (λ f. c.args.next.now + length (sites (binders_around c.args.around.now) f))
    (sym (shape_all c.args.positive c.args.f.now c.in-All.sort c.deref-in-All.result.now
    (c.in-All.is ∙ ap (make.All c.in-All.sort) (sym c.deref-in-All.ensures))))

-- ---- places

pub tree-place_around-requires-clause-there : goal.tree-place_around-requires-clause-there
tree-place_around-requires-clause-there t c =
    let g = binders_around c.args.around.now in
    let env = terms_around c.args.around.now in
    let e = shape_any c.args.positive c.args.f.now c.in-Any.field-0 c.in-Any.f c.in-Any.is in
    place_there c.args.setting.now c.requires.ready g env c.args.next.now c.in-Any.field-0 (form_of c.in-Any.f)
    (subst (Stands c.args.setting.now g env c.args.next.now) e c.requires.stands)

pub tree-overflow_add-next : goal.tree-overflow_add-next
tree-overflow_add-next t c =
    let g = binders_around c.args.around.now in
    let env = terms_around c.args.around.now in
    let e = shape_any c.args.positive c.args.f.now c.in-Any.field-0 c.in-Any.f c.in-Any.is in
    let l = place_there c.args.setting.now c.requires.ready g env c.args.next.now c.in-Any.field-0 (form_of c.in-Any.f)
    (subst (Stands c.args.setting.now g env c.args.next.now) e c.requires.stands) in
    let few = c.requires.ready.few in
    omega arith

pub tree-tree-requires-in-Any : goal.tree-tree-requires-in-Any
tree-tree-requires-in-Any t c =
    let st = c.args.setting.now in
    let g = binders_around c.args.around.now in
    let env = terms_around c.args.around.now in
    let k = c.args.next.now in
    let s = c.in-Any.field-0 in
    let f = form_of c.in-Any.f in
    let h = subst (Stands st g env k) (shape_any c.args.positive c.args.f.now s c.in-Any.f c.in-Any.is) c.requires.stands in
    let e = place_is st c.requires.ready g env k s f h c.in_ok-term-in-Any.term c.in_ok-term-in-Any.ensures in
    let r = inside_stands st c.requires.ready g env k s f h c.in_ok-term-in-Any.term e in
    let r2 = subst (λ q. Stands st (Chosen c.in_ok-term-in-Any.term.sort q ∷ g) (c.in_ok-term-in-Any.term ∷ env) (k + 1) f)
    (ap form_of (sym c.deref-in-Any.ensures)) r in
    let r3 = subst (Stands st (Chosen c.in_ok-term-in-Any.term.sort (form_of c.deref-in-Any.result.now) ∷ g) (c.in_ok-term-in-Any.term ∷ env) (k + 1))
    (ap form_of (sym c.deref-in-Any-2.ensures) ∙ sym (signed_true (form_of c.deref-in-Any-2.result.now))) r2 in (
      omega (arith, nodes_any c.args.f.now s c.deref-in-Any-2.result.now (c.in-Any.is ∙ ap (make.Any s) (sym c.deref-in-Any-2.ensures)), c.decreases),
      (c.requires.ready, (c.requires.marked, r3)),
    )

pub tree-returns-in_ok-term-in-Any-clause-grown : goal.tree-returns-in_ok-term-in-Any-clause-grown
tree-returns-in_ok-term-in-Any-clause-grown t c =
    let st = c.args.setting.now in
    let g = binders_around c.args.around.now in
    let env = terms_around c.args.around.now in
    let k = c.args.next.now in
    let s = c.in-Any.field-0 in
    let f = form_of c.in-Any.f in
    let shape = shape_any c.args.positive c.args.f.now s c.in-Any.f c.in-Any.is in
    let h = subst (Stands st g env k) shape c.requires.stands in
    let u = c.in_ok-term-in-Any.term in
    let e = place_is st c.requires.ready g env k s f h u c.in_ok-term-in-Any.ensures in
    let same : ground_form (naming st) (k + 1) (Chosen u.sort (form_of c.deref-in-Any.result.now) ∷ g) (u ∷ env)
    (signed_form true (form_of c.deref-in-Any-2.result.now))
    ≡ ground_at st c.args.around.now k (signed_form c.args.positive (form_of c.args.f.now)) =
    ap (λ q. ground_form (naming st) (k + 1) (Chosen u.sort q ∷ g) (u ∷ env) (signed_form true (form_of c.deref-in-Any-2.result.now)))
    (ap form_of c.deref-in-Any.ensures)
    ∙ ap (ground_form (naming st) (k + 1) (Chosen u.sort f ∷ g) (u ∷ env))
    (signed_true (form_of c.deref-in-Any-2.result.now) ∙ ap form_of c.deref-in-Any-2.ensures)
    ∙ inside_is st c.requires.ready g env k s f h u e ∙ ap (ground_form (naming st) k g env) (sym shape) in
    subst (λ q. IfOk c.tree-in-Any.result (λ p. Grown c.args.atoms.now.list.items q c.tree-in-Any.new.atoms.list.items (plain p))) same
    c.tree-in-Any.ensures.grown

pub tree-returns-in_ok-term-in-Any-clause-next : goal.tree-returns-in_ok-term-in-Any-clause-next
tree-returns-in_ok-term-in-Any-clause-next t c =
    let st = c.args.setting.now in
    let g = binders_around c.args.around.now in
    let env = terms_around c.args.around.now in
    let k = c.args.next.now in
    let s = c.in-Any.field-0 in
    let f = form_of c.in-Any.f in
    let shape = shape_any c.args.positive c.args.f.now s c.in-Any.f c.in-Any.is in
    let h = subst (Stands st g env k) shape c.requires.stands in
    let u = c.in_ok-term-in-Any.term in
    let e = place_is st c.requires.ready g env k s f h u c.in_ok-term-in-Any.ensures in
    let same : (k + 1) + length (sites (Chosen u.sort (form_of c.deref-in-Any.result.now) ∷ g) (signed_form true (form_of c.deref-in-Any-2.result.now)))
    ≡ k + length (sites g (signed_form c.args.positive (form_of c.args.f.now))) =
    ap (λ q. (k + 1) + length (sites (Chosen u.sort q ∷ g) (signed_form true (form_of c.deref-in-Any-2.result.now))))
    (ap form_of c.deref-in-Any.ensures)
    ∙ ap (λ q. (k + 1) + length (sites (Chosen u.sort f ∷ g) q))
    (signed_true (form_of c.deref-in-Any-2.result.now) ∙ ap form_of c.deref-in-Any-2.ensures)
    ∙ inside_places st c.requires.ready g env k s f h u e ∙ ap (λ q. k + length (sites g q)) (sym shape) in
    subst (λ q. OnOk c.tree-in-Any.result (c.tree-in-Any.new.next ≡ q)) same c.tree-in-Any.ensures.next

-- ---- several forms

pub trees-loop-f-init : goal.trees-loop-f-init
trees-loop-f-init t c = record {
  grown = subst (λ l. Awaits c.args.atoms.now.list.items (ground_all_at c.args.setting.now c.args.around.now c.args.next.now (forms_of c.args.fs.now))
      c.args.atoms.now.list.items l
      (ground_all_at c.args.setting.now c.args.around.now c.args.next.now (forms_of c.args.fs.now))) (sym c.new-props.ensures.items)
      (record { atoms = refl; props = refl });
  marked = c.requires.marked;
  stand = c.requires.stand;
  next = refl;
}

pub trees-tree-requires : goal.trees-tree-requires
trees-tree-requires t
    c = (
      omega (
        arith,
        nodes_at c.args.fs.now c.loop-f.f-index c.f-item.result c.loop-f-test.true (sym c.f-item.is),
        ap nodes_of c.deref.ensures,
        c.decreases,
      ),
      (
        c.requires.ready,
        (
          c.loop-f.invariant.marked,
          subst (λ q. Stands c.args.setting.now (binders_around c.args.around.now) (terms_around c.args.around.now) c.loop-f.next (signed_form true (form_of q)))
              (sym c.deref.ensures)
              (stands_now c.args.setting.now (binders_around c.args.around.now) (terms_around c.args.around.now) c.args.fs.now c.loop-f.f-index c.f-item.result
              c.loop-f-test.true (sym c.f-item.is) c.loop-f.next c.loop-f.invariant.stand),
        ),
      ),
    )

pub trees-loop-f-preserved : goal.trees-loop-f-preserved
trees-loop-f-preserved t c =
    let st = c.args.setting.now in
    let g = binders_around c.args.around.now in
    let env = terms_around c.args.around.now in
    let fs = c.args.fs.now in
    let i = c.loop-f.f-index in
    let f = c.f-item.result in
    let k = c.loop-f.next in
    let step : c.tree.new.next ≡ k + length (sites g (signed_form true (form_of f))) = c.in_ok-tree.ensures.next
    ∙ ap (λ q. k + length (sites g (signed_form true (form_of q)))) c.deref.ensures in
    let grown = subst (λ q. Grown c.loop-f.atoms.list.items (ground_at st c.args.around.now k (signed_form true (form_of q))) c.tree.new.atoms.list.items
    (plain c.in_ok-tree.field-0)) c.deref.ensures c.in_ok-tree.ensures.grown in
    let whole = ground_all_at st c.args.around.now c.args.next.now (forms_of fs) in
    record {
      grown = subst (λ l. Awaits c.args.atoms.now.list.items whole c.tree.new.atoms.list.items l
          (ground_all_at st c.args.around.now c.tree.new.next (forms_of (drop (i + 1) fs)))) (sym c.in_ok-push.ensures.items)
          (awaits_then st g env fs i f c.loop-f-test.true (sym c.f-item.is) k c.tree.new.next step c.args.atoms.now.list.items whole
          c.loop-f.atoms.list.items c.tree.new.atoms.list.items c.loop-f.props.items c.in_ok-tree.field-0 c.loop-f.invariant.grown grown);
      marked = c.in_ok-tree.ensures.marked;
      stand = stand_then st g env fs i f c.loop-f-test.true (sym c.f-item.is) k c.tree.new.next step c.loop-f.invariant.stand;
      next = places_then st g env fs i f c.loop-f-test.true (sym c.f-item.is) k c.tree.new.next step _ c.loop-f.invariant.next;
    }

pub trees-returns-clause-grown : goal.trees-returns-clause-grown
trees-returns-clause-grown t c =
    subst (λ l. AllGrown c.args.atoms.now.list.items (ground_all_at c.args.setting.now c.args.around.now c.args.next.now (forms_of c.args.fs.now))
    c.loop-f.atoms.list.items (plains l)) (sym c.from_vec.ensures)
    (trees_end c.args.setting.now (binders_around c.args.around.now) (terms_around c.args.around.now) c.args.fs.now c.loop-f.f-index c.loop-f.next
    c.args.atoms.now.list.items c.loop-f.atoms.list.items
    (ground_all_at c.args.setting.now c.args.around.now c.args.next.now (forms_of c.args.fs.now)) c.loop-f.props.items (omega (arith, c.loop-f-test.false))
    c.loop-f.invariant.grown)

pub trees-returns-clause-next : goal.trees-returns-clause-next
trees-returns-clause-next t c =
    places_end (binders_around c.args.around.now) c.args.fs.now c.loop-f.f-index c.loop-f.next _ (omega (arith, c.loop-f-test.false))
    c.loop-f.invariant.next

-- ---- instances

pub instances-loop-place-init : goal.instances-loop-place-init
instances-loop-place-init t c =
    let n = numbers c.args.setting.now c.args.sort in
    let h = instances_at c.args.setting.now c.args.around.now c.args.next.now c.args.sort (form_of c.args.body.now) in
    let z : n ≡ n - 0 = omega arith in
    record {
      grown = subst (λ l. Awaits c.args.atoms.now.list.items (each 0 n h) c.args.atoms.now.list.items l (each 0 (n - 0) h)) (sym c.new-props.ensures.items)
          (record {
            atoms = ap (λ j. with_atoms c.args.atoms.now.list.items (trees_atoms (each 0 j h))) (sym z);
            props = ap
                (λ j. all_numbered (find_atom (with_atoms c.args.atoms.now.list.items (trees_atoms (each 0 n h)))) (each 0 j h)) (sym z);
          });
      marked = c.requires.marked;
      next = λ l. absurd (omega arith);
    }

pub instances-tree-requires : goal.instances-tree-requires
instances-tree-requires t c =
    let l : c.loop-place.place < numbers c.args.setting.now c.args.sort = (subst (λ l. c.loop-place.place < count_at l c.args.sort)
    c.as_slice.ensures.value (let e = c.count_of-count.ensures in omega (arith, c.loop-place-test.true))) in (
      omega (arith, c.decreases),
      (
        c.requires.ready,
        (
          c.loop-place.invariant.marked,
          body_now c.args.setting.now (binders_around c.args.around.now) (terms_around c.args.around.now) c.args.next.now c.args.sort
              (form_of c.args.body.now) c.loop-place.place l c.requires.stands,
        ),
      ),
    )

pub instances-loop-place-preserved : goal.instances-loop-place-preserved
instances-loop-place-preserved t c =
    let st = c.args.setting.now in
    let g = binders_around c.args.around.now in
    let env = terms_around c.args.around.now in
    let k = c.args.next.now in
    let s = c.args.sort in
    let f = form_of c.args.body.now in
    let i = c.loop-place.place in
    let l : i < numbers st s = (subst (λ l. c.loop-place.place < count_at l c.args.sort) c.as_slice.ensures.value
    (let e = c.count_of-count.ensures in omega (arith, c.loop-place-test.true))) in
    let h = instances_at st c.args.around.now k s f in
    let whole = each 0 (numbers st s) h in
    record {
      grown = subst (λ ps. Awaits c.args.atoms.now.list.items whole c.tree.new.atoms.list.items ps (each (i + 1) (numbers st s - (i + 1)) h))
          (sym c.in_ok-push.ensures.items)
          (instance_then st g env k s f i l c.args.atoms.now.list.items whole c.loop-place.atoms.list.items c.tree.new.atoms.list.items
          c.loop-place.props.items c.in_ok-tree.field-0 h refl c.loop-place.invariant.grown c.in_ok-tree.ensures.grown);
      marked = c.in_ok-tree.ensures.marked;
      next = λ p. places_now st g env k s f i l c.tree.new.next c.in_ok-tree.ensures.next;
    }

pub instances-returns-clause-grown : goal.instances-returns-clause-grown
instances-returns-clause-grown t c =
    let st = c.args.setting.now in
    let h = instances_at st c.args.around.now c.args.next.now c.args.sort (form_of c.args.body.now) in
    let e : c.loop-place.place ≡ numbers st c.args.sort = (let e = c.count_of-count.ensures ∙ ap (λ l. count_at l c.args.sort) c.as_slice.ensures.value in
    omega (arith, c.loop-place-test.false, c.loop-place.auto.place-end)) in
    subst (λ ps. AllGrown c.args.atoms.now.list.items (each 0 (numbers st c.args.sort) h) c.loop-place.atoms.list.items (plains ps))
    (sym c.from_vec.ensures)
    (instances_end c.args.atoms.now.list.items c.loop-place.atoms.list.items (each 0 (numbers st c.args.sort) h) c.loop-place.props.items
    c.loop-place.place (numbers st c.args.sort) h e c.loop-place.invariant.grown)

pub instances-returns-clause-next : goal.instances-returns-clause-next
instances-returns-clause-next t c =
    let e : c.loop-place.place ≡ numbers c.args.setting.now c.args.sort = (let e = c.count_of-count.ensures
    ∙ ap (λ l. count_at l c.args.sort) c.as_slice.ensures.value in omega (arith, c.loop-place-test.false, c.loop-place.auto.place-end)) in
    let some = c.requires.ready.inhabited c.args.sort c.requires.stands.fits.0 in
    c.loop-place.invariant.next (omega arith)
