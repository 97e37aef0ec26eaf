-- A structure that breaks a pair gives an assignment that satisfies its ground clauses.
use Rattle.std.proofs.Common.{[], length, refl, sym, ap, ◌∙◌, subst}
use Rattle.lv_cnf.specs.Literals.{IsSatisfiable}
use Rattle.lv_cnf.specs.Nodes.{plains, clauses_of}
use Rattle.lv_places.specs.GroundForms.{naming_of}
use Rattle.lv_places.specs.Universes.{counts}
use Rattle.lv_places.specs.Grounds.{find_atom, trees_of, atoms_of, all_numbered}
use Rattle.lv_places.specs.Forms.{forms_of}
use Rattle.lv_skolem.proofs.Sorted.{vocabulary_of}
use Rattle.lv_skolem.proofs.Ranged.{table, is_ranged, sentences_fit, sentences_meet, table_has, places_are, structure_kept}
use Rattle.lv_places.proofs.Numbered.{to_assignment}
use Rattle.lv_places.proofs.Sites.{sites_are_terms}
use Rattle.lv_instances.specs.Laws.{StructuresGiveAssignments}
use Rattle.lv_instances.proofs.Elements.{element_of, reads_so}
use Rattle.lv_instances.proofs.Rise.{atom_value, rises_all}
use Rattle.lv_instances.proofs.EqualitiesHold.{equalities_from}

pub structures_give_assignments : StructuresGiveAssignments
structures_give_assignments voc s sk u g rank sound fit is ranks universe grounded m structure h =
    let n = counts u in
    let range = is_ranged voc s sk sound fit is in
    let sites = table voc s sk sound fit is in
    let places = places_are voc s sk sound fit is in
    let I = element_of sk u universe range sites places m rank ranks in
    let reads = reads_so sk u universe range sites places m rank ranks (structure_kept voc s sk sound fit is m structure) in
    let closed = sites_are_terms sk u universe range sites places in
    let t = rises_all m (vocabulary_of sk) (naming_of sk n) sites I reads closed (forms_of sk.forms) 0 [] [] (table_has voc s sk sound fit is) tt
    (sentences_fit voc s sk sound fit is) refl (sentences_meet voc s sk sound fit is m ∙ h) in
    let a = to_assignment sk u (atom_value m I) t (equalities_from sk n sites m I reads places) in
    subst (λ k. IsSatisfiable (clauses_of k (plains g.roots) g.equalities)) (sym (ap length grounded.atoms))
    (subst (λ r. IsSatisfiable (clauses_of (length (atoms_of sk u)) r g.equalities)) (sym grounded.roots)
    (subst (λ e. IsSatisfiable (clauses_of (length (atoms_of sk u)) (all_numbered (find_atom (atoms_of sk u)) (trees_of sk u)) e))
    (sym grounded.equalities) a))
