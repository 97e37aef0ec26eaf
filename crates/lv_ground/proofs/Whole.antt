-- The ground form of sentences as a whole.
use Rattle.std.proofs.Common.{◌≡◌, ℕ, suc, true, List, [], ◌∷◌, ◌++◌, map, length, refl, sym, ap, ◌∙◌, subst}
use Rattle.std.specs.List.{All}
use Rattle.lv_formula.specs.declared.symbols.SortId.{SortId}
use Rattle.lv_cnf.specs.declared.literal.Lit.{Lit}
use Rattle.lv_cnf.specs.declared.prop.Prop.{Prop}
use Rattle.lv_cnf.specs.Literals.{InRange}
use Rattle.lv_cnf.specs.Nodes.{plains, AtomsBelow}
use Rattle.lv_formula.specs.declared.formula.Formula.{Formula}
use Rattle.lv_formula.specs.declared.vocabulary.Sentences.{Sentences}
use Rattle.lv_formula.specs.declared.vocabulary.Vocabulary.{Vocabulary}
use Rattle.lv_formula.specs.Vocabulary.{IsSound}
use Rattle.lv_formula.specs.Pairs.{SentencesFit}
use Rattle.lv_places.specs.Places.{place_of, sites_all, places_in_all}
use Rattle.lv_places.proofs.Sites.{HasAt}
use Rattle.lv_skolem.specs.Skolems.{IsSkolem}
use Rattle.lv_skolem.proofs.Sorted.{vocabulary_of, FormsFit}
use Rattle.lv_skolem.proofs.Ranged.{table, table_has, places_are, sentences_fit}
use Rattle.lv_ground.specs.declared.setting.Setting.{Setting}
use Rattle.lv_ground.specs.Instances.{AllStand}
use Rattle.lv_places.specs.declared.skolem.Skolem.{Skolem}
use Rattle.lv_places.specs.declared.terms.GroundTerm.{GroundTerm}
use Rattle.lv_places.specs.declared.grounded.GroundAtom.{GroundAtom}
use Rattle.lv_places.specs.declared.grounded.Grounded.{Grounded}
use Rattle.lv_places.specs.Forms.{forms_of}
use Rattle.lv_places.specs.Universes.{counts}
use Rattle.lv_places.specs.GroundForms.{Trees, naming_of, ground_all}
use Rattle.lv_places.specs.Equality.{GroundClause, equality_clauses}
use Rattle.lv_places.specs.Grounds.{find_atom, trees_atoms, clauses_atoms, with_atoms, all_numbered, number_clauses, trees_of, atoms_of, IsGrounded}
use Rattle.lv_places.proofs.Universes.{get_below, get_map}
use Rattle.lv_places.proofs.Numbered.{In}
use Rattle.lv_ground.proofs.Listed.{in_left, in_right, with_atoms_has, Named, all_numbered_same, clauses_named, found_in}
use Rattle.lv_ground.specs.Growth.{AllGrown, Made}
use Rattle.lv_ground.proofs.Growing.{with_both, all_numbered_kept}

module _ (sk : Skolem) (u : List (List GroundTerm)) where
  abbrev trees : Trees
  trees = trees_of sk u

  abbrev clauses : List GroundClause
  clauses = equality_clauses sk (counts u)

  whole_by : (xs1 xs2 : List GroundAtom) (ps : List Prop) (out : List (List Lit)) (g : Grounded) → AllGrown [] trees xs1 (plains ps)
      → Made xs1 [] clauses xs2 out
      → g.atoms ≡ xs2 → g.roots ≡ ps → g.equalities ≡ out → IsGrounded sk u g
  whole_by xs1 xs2 ps out g grown made e1 e2 e3 = record {
    atoms = e1 ∙ all;
    roots = roots;
    equalities = e3 ∙ made.clauses
        ∙ ap (λ l. number_clauses (find_atom l) clauses) all;
  }
    where
      all : xs2 ≡ atoms_of sk u
      all = made.atoms ∙ ap (λ l. with_atoms l (clauses_atoms clauses)) grown.atoms ∙ sym (with_both [] (trees_atoms trees) (clauses_atoms clauses))

      kept : all_numbered (find_atom xs1) trees ≡ all_numbered (find_atom xs2) trees
      kept =
          sym (all_numbered_kept xs1 (clauses_atoms clauses) trees (λ a i. subst (In a) (sym grown.atoms) (with_atoms_has (trees_atoms trees) [] a i)))
          ∙ ap (λ l. all_numbered (find_atom l) trees) (sym made.atoms)

      roots : plains g.roots ≡ all_numbered (find_atom (atoms_of sk u)) trees
      roots = ap plains e2 ∙ grown.props ∙ kept ∙ ap (λ l. all_numbered (find_atom l) trees) all

  named : (a : GroundAtom) → In a (trees_atoms trees ++ clauses_atoms clauses) → Named (find_atom (atoms_of sk u)) (length (atoms_of sk u)) (λ a. true)
      (λ i. true) a
  named a i = record { below = get_below (atoms_of sk u) (find_atom (atoms_of sk u) a) a (found_in sk u a i); same = refl }

  -- the numbers are those of atoms
  pub roots_below : (g : Grounded) → IsGrounded sk u g → AtomsBelow (length g.atoms) (plains g.roots)
  roots_below g is =
      let f = find_atom (atoms_of sk u) in
      let n = length (atoms_of sk u) in
      let t = all_numbered_same f n (λ (a : GroundAtom). true) (λ (i : ℕ). true) trees
      (λ a i. named a (in_left a (trees_atoms trees) (clauses_atoms clauses) i)) in
      subst (λ k. AtomsBelow k (plains g.roots)) (sym (ap length is.atoms)) (subst (AtomsBelow n) (sym is.roots) t.0)

  pub equalities_below : (g : Grounded) → IsGrounded sk u g → All (InRange (length g.atoms)) g.equalities
  equalities_below g is =
      let f = find_atom (atoms_of sk u) in
      let n = length (atoms_of sk u) in
      let c = clauses_named f n (λ (a : GroundAtom). true) (λ (i : ℕ). true) clauses
      (λ a i. named a (in_right a (trees_atoms trees) (clauses_atoms clauses) i)) in
      subst (λ k. All (InRange k) g.equalities) (sym (ap length is.atoms)) (subst (All (InRange n)) (sym is.equalities) c.0)

-- the same where the numbers of terms are known otherwise
pub whole : (sk : Skolem) (u : List (List GroundTerm)) (n : SortId → ℕ) → n ≡ counts u → (xs1 xs2 : List GroundAtom) (ps : List Prop)
    (out : List (List Lit)) (g : Grounded)
    → AllGrown [] (ground_all (naming_of sk n) 0 [] [] (forms_of sk.forms)) xs1 (plains ps) → Made xs1 [] (equality_clauses sk n) xs2 out
    → g.atoms ≡ xs2 → g.roots ≡ ps → g.equalities ≡ out → IsGrounded sk u g
whole sk u n e xs1 xs2 ps out g grown made e1 e2 e3 =
    whole_by sk u xs1 xs2 ps out g (subst (λ m. AllGrown [] (ground_all (naming_of sk m) 0 [] [] (forms_of sk.forms)) xs1 (plains ps)) e grown)
    (subst (λ m. Made xs1 [] (equality_clauses sk m) xs2 out) e made) e1 e2 e3

pub whole_of : (sk low : Skolem) (u : List (List GroundTerm)) (n : SortId → ℕ) (forms : List Formula) → low ≡ sk → n ≡ counts u → forms ≡ sk.forms
    → (xs0 xs1 xs2 : List GroundAtom) (ps : List Prop) (out0 out : List (List Lit)) (g : Grounded) → xs0 ≡ [] → out0 ≡ []
    → AllGrown xs0 (ground_all (naming_of low n) 0 [] [] (forms_of forms)) xs1 (plains ps) → Made xs1 out0 (equality_clauses low n) xs2 out
    → g.atoms ≡ xs2 → g.roots ≡ ps → g.equalities ≡ out → IsGrounded sk u g
whole_of sk low u n forms e1 e2 e3 xs0 xs1 xs2 ps out0 out g z1 z2 grown made a r q =
    let grown1 = subst (λ l. AllGrown l (ground_all (naming_of low n) 0 [] [] (forms_of forms)) xs1 (plains ps)) z1 grown in
    let grown2 = subst (λ k. AllGrown [] (ground_all (naming_of k n) 0 [] [] (forms_of forms)) xs1 (plains ps)) e1 grown1 in
    let grown3 = subst (λ fs. AllGrown [] (ground_all (naming_of sk n) 0 [] [] (forms_of fs)) xs1 (plains ps)) e3 grown2 in
    let made1 = subst (λ l. Made xs1 l (equality_clauses low n) xs2 out) z2 made in
    let made2 = subst (λ k. Made xs1 [] (equality_clauses k n) xs2 out) e1 made1 in
    whole sk u n e2 xs1 xs2 ps out g grown3 made2 a r q

-- ---- the sentences stand where they are

has_map : {A B : Type 0} (f : A → B) (table : List A) (k : ℕ) (xs : List A) → HasAt table k xs → HasAt (map f table) k (map f xs)
has_map f table k [] h = tt
has_map f table k (x ∷ xs) h = (get_map f table k x h.0, has_map f table (suc k) xs h.1)

pub sentences_stand : (voc : Vocabulary) (s : Sentences) (sk : Skolem) (sound : IsSound voc) (fit : SentencesFit voc s) (is : IsSkolem voc s sk)
    → (st : Setting) (forms : List Formula) → st.sk.now ≡ sk → forms ≡ sk.forms → AllStand st [] [] 0 (forms_of forms)
sentences_stand voc s sk sound fit is st forms e1 e2 =
    let has = has_map place_of (table voc s sk sound fit is) 0 (sites_all [] (forms_of sk.forms)) (table_has voc s sk sound fit is) in
    let has1 = subst (λ l. HasAt l 0 (places_in_all [] (forms_of sk.forms))) (sym (places_are voc s sk sound fit is)) has in
    let has2 = subst (λ (k : Skolem). HasAt k.places 0 (places_in_all [] (forms_of sk.forms))) (sym e1) has1 in
    let fits = subst (λ (k : Skolem). FormsFit (vocabulary_of k) [] (forms_of sk.forms)) (sym e1) (sentences_fit voc s sk sound fit is) in
    subst (λ fs. AllStand st [] [] 0 (forms_of fs)) (sym e2) (record { places = has2; terms = tt; fits = fits })
