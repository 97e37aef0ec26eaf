use Rattle.std.proofs.Common.{◌≡◌, ◌+◌, ◌-◌, ◌*◌, ◌<◌, length, drop}
use Rattle.lv_formula.specs.Measures.{nodes_of, nodes_of_all}
use Rattle.lv_places.specs.Forms.{All, form_of, forms_of}
use Rattle.lv_places.specs.Places.{sites, sites_all}
use Rattle.lv_places.specs.GroundForms.{each}
use Rattle.lv_ground.specs.Settings.{numbers}
use Rattle.lv_ground.specs.Marked.{AreMarked}
use Rattle.lv_ground.specs.Growth.{Awaits}
use Rattle.lv_ground.specs.Instances.{binders_around, terms_around, ground_all_at, instances_at, AllStand}
use Rattle.lv_ground.proofs.trees.+tree.Given as goal

abbrev pub invariant-trees-loop-f : goal.invariant-trees-loop-f
invariant-trees-loop-f l = record {
  grown : Awaits l.initial.atoms.list.items (ground_all_at l.setting l.around l.initial.next (forms_of l.fs)) l.atoms.list.items l.props.items
      (ground_all_at l.setting l.around l.next (forms_of (drop l.f-index l.fs)));
  marked : AreMarked l.setting l.atoms;
  stand : AllStand l.setting (binders_around l.around) (terms_around l.around) l.next (forms_of (drop l.f-index l.fs));
  next : l.next + length (sites_all (binders_around l.around) (forms_of (drop l.f-index l.fs))) ≡ l.initial.next + length
      (sites_all (binders_around l.around) (forms_of l.fs));
}

abbrev pub invariant-instances-loop-place : goal.invariant-instances-loop-place
invariant-instances-loop-place l = record {
  grown : Awaits l.initial.atoms.list.items (each 0 (numbers l.setting l.sort) (instances_at l.setting l.around l.first l.sort (form_of l.body)))
      l.atoms.list.items l.props.items
      (each l.place (numbers l.setting l.sort - l.place) (instances_at l.setting l.around l.first l.sort (form_of l.body)));
  marked : AreMarked l.setting l.atoms;
  next : 0 < l.place → l.next ≡ l.first + length (sites (binders_around l.around) (All l.sort (form_of l.body)));
}

-- the formulas that are still to be walked through, and the loops over them
abbrev pub decreases-tree : goal.decreases-tree
decreases-tree l = 2 * nodes_of l.f.now

abbrev pub decreases-trees : goal.decreases-trees
decreases-trees l = 2 * nodes_of_all l.fs.now + 1

abbrev pub decreases-instances : goal.decreases-instances
decreases-instances l = 2 * nodes_of l.body.now + 1
