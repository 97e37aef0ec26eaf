-- The two laws together.
use Rattle.lv_places.specs.Universes.{counts}
use Rattle.lv_places.specs.Grounds.{atom_truth}
use Rattle.lv_instances.proofs.Law.{structures_give_assignments}
use Rattle.lv_model.specs.Classes.{class_structure}
use Rattle.lv_model.proofs.Law.{assignments_give_structures}
use Rattle.lv_herbrand.specs.Laws.{GroundClausesAreExact}

pub ground_clauses_are_exact : GroundClausesAreExact
ground_clauses_are_exact voc s sk u g rank sound fit is ranks universe grounded = (
  (λ a. let r = assignments_give_structures voc s sk u g sound fit is universe grounded a.0 a.1 in
      (class_structure sk (counts u) (atom_truth g.atoms a.0), r.0, r.1)),
  (λ m. structures_give_assignments voc s sk u g rank sound fit is ranks universe grounded m.0 m.1 m.2),
)
