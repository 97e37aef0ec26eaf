-- Cycles, sizes, universes and ground forms don't look at what was found of cycle and size.
use Rattle.std.proofs.Common.{◌≡◌, ℕ, suc, ◌≤◌, List, [], ◌∷◌, ◌++◌, Option, Some, None, refl, sym, ap, ◌∙◌, subst, arith}
use Rattle.lv_formula.specs.declared.symbols.SortId.{SortId}
use Rattle.lv_formula.specs.declared.vocabulary.Sentences.{Sentences}
use Rattle.lv_formula.specs.declared.vocabulary.Vocabulary.{Vocabulary}
use Rattle.lv_places.specs.declared.grounded.GroundAtom.{GroundAtom}
use Rattle.lv_places.specs.declared.grounded.Grounded.{Grounded}
use Rattle.lv_places.specs.declared.skolem.Place.{Place}
use Rattle.lv_places.specs.declared.skolem.Skolem.{Skolem}
use Rattle.lv_places.specs.declared.terms.GroundTerm.{GroundTerm}
use Rattle.lv_places.specs.Equality.{GroundClause, each_of, equality_clauses, place_change, place_clauses, relation_clauses, replacements, sort_clauses}
use Rattle.lv_places.specs.GroundForms.{Trees}
use Rattle.lv_places.specs.Grounds.{IsGrounded, all_numbered, clauses_atoms, find_atom, number_clauses, trees_atoms, trees_of, with_atoms}
use Rattle.lv_places.specs.Sizes.{IsCount, IsWithin, SizeIs, limit, size_of}
use Rattle.lv_places.specs.SortGraphs.{CycleIs, HasCycle, IsCycle, IsRank}
use Rattle.lv_places.specs.Universes.{IsUniverse, argument_sorts, counts}
use Rattle.lv_skolem.specs.Skolems.{IsSkolem, SizeUnless}
use Rattle.lv_skolem.proofs.NoCycle.{no_cycle}
use Rattle.lv_decide.specs.Fragments.{IsCycleOf, IsLarge, IsSizeOf, IsSmall, IsStratified, skolem_form}

abbrev bare : Skolem → Skolem
bare sk = record {
  sorts = sk.sorts;
  forms = sk.forms;
  places = sk.places;
  constants = sk.constants;
  relations = sk.relations;
  cycle = None;
  size = None;
}

place_clauses_bare : (sk : Skolem) (n : SortId → ℕ) (k : ℕ) (ps : List Place) → place_clauses sk n k ps ≡ place_clauses (bare sk) n k ps
place_clauses_bare sk n k [] = refl
place_clauses_bare sk n k (p ∷ ps) = ap (λ l. replacements n (argument_sorts p) (place_change sk n p.sort k) ++ l) (place_clauses_bare sk n (suc k) ps)

equality_clauses_bare : (sk : Skolem) (n : SortId → ℕ) → equality_clauses sk n ≡ equality_clauses (bare sk) n
equality_clauses_bare sk n =
    ap (λ l. each_of 0 sk.sorts (λ i. sort_clauses (record { 0 = i }) (n (record { 0 = i }))) ++ (relation_clauses n sk.relations ++ l))
    (place_clauses_bare sk n 0 sk.places)

abbrev atoms_with : Trees → List GroundClause → List GroundAtom
atoms_with t cs = with_atoms [] (trees_atoms t ++ clauses_atoms cs)

universe_bare : (sk : Skolem) (u : List (List GroundTerm)) → IsUniverse sk u → IsUniverse (bare sk) u
universe_bare sk u is = record { sorts = is.sorts; terms = is.terms }

grounded_bare : (sk : Skolem) (u : List (List GroundTerm)) (g : Grounded) → IsGrounded sk u g → IsGrounded (bare sk) u g
grounded_bare sk u g is = let e = equality_clauses_bare sk (counts u) in record {
  atoms = is.atoms ∙ ap (atoms_with (trees_of sk u)) e;
  roots = is.roots ∙ ap (λ l. all_numbered (find_atom (atoms_with (trees_of sk u) l)) (trees_of sk u)) e;
  equalities = is.equalities ∙ ap (λ l. number_clauses (find_atom (atoms_with (trees_of sk u) l)) l) e;
}

module _ (voc : Vocabulary) (s : Sentences) (sk : Skolem) (is : IsSkolem voc s sk) where
  form_is : bare sk ≡ skolem_form voc s
  form_is = λ i. record {
    sorts = is.sorts i;
    forms = is.forms i;
    places = is.places i;
    constants = is.constants i;
    relations = is.relations i;
    cycle = None;
    size = None;
  }

  count_told : (n : SortId → ℕ) → IsCount sk n → IsCount (skolem_form voc s) n
  count_told n h = subst (λ k. IsCount k n) form_is h

  count_meant : (n : SortId → ℕ) → IsCount (skolem_form voc s) n → IsCount sk n
  count_meant n h = subst (λ k. IsCount k n) (sym form_is) h

  size_same : (n : SortId → ℕ) → size_of sk n ≡ size_of (skolem_form voc s) n
  size_same n = ap (λ k. size_of k n) form_is

  pub universe_told : (u : List (List GroundTerm)) → IsUniverse sk u → IsUniverse (skolem_form voc s) u
  universe_told u h = subst (λ k. IsUniverse k u) form_is (universe_bare sk u h)

  pub grounded_told : (u : List (List GroundTerm)) (g : Grounded) → IsGrounded sk u g → IsGrounded (skolem_form voc s) u g
  grounded_told u g h = subst (λ k. IsGrounded k u g) form_is (grounded_bare sk u g h)

  -- ---- cycles and sizes

  cycle_told : (l : List SortId) → IsCycle sk.places l → IsCycleOf s l
  cycle_told l h = subst (λ ps. IsCycle ps l) is.places h

  rank_told : (rank : SortId → ℕ) → IsRank sk.places rank → IsStratified s
  rank_told rank h = subst (λ ps. HasCycle ps → ⊥) is.places (no_cycle sk.places rank h)

  large_told : SizeIs sk None → IsLarge voc s
  large_told h size (n, count, e) = let l = h n (count_meant n count) in let z = size_same n in omega arith

  size_told : (size : ℕ) → SizeIs sk (Some size) → IsSizeOf voc s size × (size ≤ limit)
  size_told size h = ((h.0, count_told h.0 h.1, h.2 ∙ size_same h.0), h.3)

  pub within : IsSmall voc s → IsWithin sk
  within h =
      let n = h.1.0 in
      let z = size_same n in
      let e = h.1.2 in
      let l = h.2 in
      (n, count_meant n h.1.1, omega arith)

  -- with no cycle there is a rank
  pub rank_is : IsStratified s → (rank : SortId → ℕ) × IsRank sk.places rank
  rank_is h = step sk.cycle is.cycle
    where
      step : (o : Option (List SortId)) → CycleIs sk.places o → (rank : SortId → ℕ) × IsRank sk.places rank
      step None r = r
      step (Some l) c = absurd (h (l, subst (λ ps. IsCycle ps l) is.places c))

  -- ---- what was found

  pub cycle_found : (l : List SortId) → sk.cycle ≡ Some l → IsCycleOf s l
  cycle_found l e = cycle_told l (subst (CycleIs sk.places) e is.cycle)

  none_found : sk.cycle ≡ None → IsStratified s
  none_found e = let r = subst (CycleIs sk.places) e is.cycle in rank_told r.0 r.1

  pub size_found : (size : ℕ) → sk.cycle ≡ None → sk.size ≡ Some size → IsStratified s × IsSizeOf voc s size × (size ≤ limit)
  size_found size e found =
      let h = size_told size (subst (SizeIs sk) found (subst (λ o. SizeUnless o sk) e is.size)) in
      (none_found e, h.0, h.1)

  pub large_found : sk.cycle ≡ None → sk.size ≡ None → IsStratified s × IsLarge voc s
  large_found e found = (none_found e, large_told (subst (SizeIs sk) found (subst (λ o. SizeUnless o sk) e is.size)))
