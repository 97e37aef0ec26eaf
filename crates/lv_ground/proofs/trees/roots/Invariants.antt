use Rattle.std.proofs.Common.{[], drop}
use Rattle.lv_places.specs.Forms.{forms_of}
use Rattle.lv_places.specs.GroundForms.{ground_all}
use Rattle.lv_ground.specs.Settings.{naming}
use Rattle.lv_ground.specs.Marked.{AreMarked}
use Rattle.lv_ground.specs.Growth.{Awaits}
use Rattle.lv_ground.specs.Instances.{AllStand}
use Rattle.lv_ground.proofs.trees.roots.Given as goal

abbrev pub invariant-loop-f : goal.invariant-loop-f
invariant-loop-f l = record {
  grown : Awaits l.initial.atoms.list.items (ground_all (naming l.setting) 0 [] [] (forms_of l.forms)) l.atoms.list.items l.props.items
      (ground_all (naming l.setting) l.next [] [] (forms_of (drop l.f-index l.forms)));
  marked : AreMarked l.setting l.atoms;
  stand : AllStand l.setting [] [] l.next (forms_of (drop l.f-index l.forms));
}
