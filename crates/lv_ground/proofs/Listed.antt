-- Atoms in lists, and numbers in their place.
use Rattle.std.proofs.Common.{◌≡◌, ℕ, suc, ◌+◌, ◌<◌, Bool, true, false, cond, List, [], ◌∷◌, ◌++◌, length, Some, refl, sym, ap, ◌∙◌, subst, arith, inl, inr, eqb}
use Rattle.std.specs.Prelude.{slice_get}
use Rattle.std.specs.List.{All, list_any}
use Rattle.std.proofs.lemmas.Bool.{and_parts, and_from, or_cases, or_left, or_right, eqb-true, eq-eqb, cond-true, cond-false, false≢true}
use Rattle.std.proofs.lemmas.List.Elements.{All-nil, All-cons}
use Rattle.lv_formula.specs.Symbols.{sym_eq}
use Rattle.lv_formula.proofs.SymbolLaws.{sym_eq-true, sym_eq-refl}
use Rattle.lv_cnf.specs.declared.literal.Lit.{Lit}
use Rattle.lv_cnf.specs.Literals.{InRange, signed, clause_truth, clauses_truth}
use Rattle.lv_cnf.specs.Nodes.{AtomBelow, AtomsBelow, prop_truth, all_truth, some_truth}
use Rattle.lv_places.specs.declared.skolem.Skolem.{Skolem}
use Rattle.lv_places.specs.declared.terms.TermId.{TermId}
use Rattle.lv_places.specs.declared.terms.GroundTerm.{GroundTerm}
use Rattle.lv_places.specs.declared.grounded.GroundAtom.{GroundAtom}
use Rattle.lv_places.specs.declared.grounded.GroundAtom.TheVariants.{Relation, Equal}
use Rattle.lv_places.specs.Universes.{counts}
use Rattle.lv_places.specs.GroundForms.{Tree, Trees, TTrue, TFalse, TLit, TAnd, TOr, TNil, TCons, holds, holds_all, holds_any}
use Rattle.lv_places.specs.Equality.{GroundClause, ground_true, all_ground_true, equality_clauses}
use Rattle.lv_places.specs.Grounds.{same_id, same_ids, same_atom, find_atom, tree_atoms, trees_atoms, clause_atoms, clauses_atoms, with_atom, with_atoms, numbered, all_numbered, number_clause, number_clauses, trees_of, atoms_of}
use Rattle.lv_places.proofs.Tests.{either, by_cases}
use Rattle.lv_places.proofs.Numbered.{In}

pub in_left : {A : Type 0} (x : A) (xs ys : List A) → In x xs → In x (xs ++ ys)
in_left x [] ys h = absurd h
in_left x (y ∷ xs) ys (inl e) = inl e
in_left x (y ∷ xs) ys (inr h) = inr (in_left x xs ys h)

pub in_right : {A : Type 0} (x : A) (xs ys : List A) → In x ys → In x (xs ++ ys)
in_right x [] ys h = h
in_right x (y ∷ xs) ys h = inr (in_right x xs ys h)

pub same_id-true : (a b : TermId) → same_id a b ≡ true → a ≡ b
same_id-true a b h =
    let q = and_parts (eqb a.sort.0 b.sort.0) (eqb a.place b.place) h in
    let e1 = eqb-true a.sort.0 b.sort.0 q.0 in
    let e2 = eqb-true a.place b.place q.1 in
    λ i. record { sort = record { 0 = e1 i }; place = e2 i }

same_id_refl : (a : TermId) → same_id a a ≡ true
same_id_refl a = and_from _ _ (eq-eqb a.sort.0 a.sort.0 refl) (eq-eqb a.place a.place refl)

same_ids-true : (ts us : List TermId) → same_ids ts us ≡ true → ts ≡ us
same_ids-true [] [] h = refl
same_ids-true [] (b ∷ bs) h = absurd (false≢true h)
same_ids-true (a ∷ more) [] h = absurd (false≢true h)
same_ids-true (a ∷ more) (b ∷ bs) h =
    let p = and_parts (same_id a b) (same_ids more bs) h in
    let e = same_id-true a b p.0 in
    let r = same_ids-true more bs p.1 in
    cc

same_ids_refl : (ts : List TermId) → same_ids ts ts ≡ true
same_ids_refl [] = refl
same_ids_refl (a ∷ more) = and_from _ _ (same_id_refl a) (same_ids_refl more)

pub same_atom-true : (a b : GroundAtom) → same_atom a b ≡ true → a ≡ b
same_atom-true (Relation r ts) (Relation q us) h =
    let p = and_parts (sym_eq r q) (same_ids ts us) h in
    let e = sym_eq-true r q p.0 in
    let f = same_ids-true ts us p.1 in
    cc
same_atom-true (Relation r ts) (Equal c d) h = absurd (false≢true h)
same_atom-true (Equal a b) (Relation q us) h = absurd (false≢true h)
same_atom-true (Equal a b) (Equal c d) h =
    let p = and_parts (same_id a c) (same_id b d) h in
    let e = same_id-true a c p.0 in
    let f = same_id-true b d p.1 in
    cc

pub same_atom_refl : (a : GroundAtom) → same_atom a a ≡ true
same_atom_refl (Relation r ts) = and_from _ _ (sym_eq-refl r) (same_ids_refl ts)
same_atom_refl (Equal a b) = and_from _ _ (same_id_refl a) (same_id_refl b)

find_atom_step : (a x : GroundAtom) (xs : List GroundAtom) (b : Bool) → same_atom a x ≡ b → (b ≡ false → slice_get xs (find_atom xs a) ≡ Some a)
    → slice_get (x ∷ xs) (cond b 0 (suc (find_atom xs a))) ≡ Some a
find_atom_step a x xs true e h = ap Some (sym (same_atom-true a x e))
find_atom_step a x xs false e h = h refl

pub found_atom : (xs : List GroundAtom) (a : GroundAtom) → In a xs → slice_get xs (find_atom xs a) ≡ Some a
found_atom [] a h = absurd h
found_atom (x ∷ xs) a (inl e) =
    find_atom_step a x xs (same_atom a x) refl (λ n. absurd (false≢true (sym n ∙ subst (λ y. same_atom a y ≡ true) (sym e) (same_atom_refl a))))
found_atom (x ∷ xs) a (inr h) = find_atom_step a x xs (same_atom a x) refl (λ n. found_atom xs a h)

pub has_in : (xs : List GroundAtom) (a : GroundAtom) → list_any (same_atom a) xs ≡ true → In a xs
has_in [] a h = absurd (false≢true h)
has_in (x ∷ xs) a h = either (or_cases (same_atom a x) _ h) (λ e. inl (sym (same_atom-true a x e))) (λ e. inr (has_in xs a e))

pub in_has : (xs : List GroundAtom) (a : GroundAtom) → In a xs → list_any (same_atom a) xs ≡ true
in_has [] a h = absurd h
in_has (x ∷ xs) a (inl e) = or_left _ _ (subst (λ y. same_atom a y ≡ true) (sym e) (same_atom_refl a))
in_has (x ∷ xs) a (inr h) = or_right _ _ (in_has xs a h)

pub with_atom_has : (xs : List GroundAtom) (a : GroundAtom) → In a (with_atom xs a)
with_atom_has xs a =
    by_cases (list_any (same_atom a) xs)
    (λ e. subst (In a) (sym (cond-true (list_any (same_atom a) xs) _ _ e)) (has_in xs a e))
    (λ e. subst (In a) (sym (cond-false (list_any (same_atom a) xs) xs (xs ++ a ∷ []) e)) (in_right a xs (a ∷ []) (inl refl)))

pub with_atom_keeps : (xs : List GroundAtom) (b a : GroundAtom) → In a xs → In a (with_atom xs b)
with_atom_keeps xs b a h = step (list_any (same_atom b) xs)
  where
    step : (t : Bool) → In a (cond t xs (xs ++ b ∷ []))
    step true = h
    step false = in_left a xs (b ∷ []) h

pub with_atoms_keeps : (more xs : List GroundAtom) (a : GroundAtom) → In a xs → In a (with_atoms xs more)
with_atoms_keeps [] xs a h = h
with_atoms_keeps (b ∷ more) xs a h = with_atoms_keeps more (with_atom xs b) a (with_atom_keeps xs b a h)

pub with_atoms_has : (more xs : List GroundAtom) (a : GroundAtom) → In a more → In a (with_atoms xs more)
with_atoms_has [] xs a h = absurd h
with_atoms_has (b ∷ more) xs a (inl e) = with_atoms_keeps more (with_atom xs b) a (subst (λ c. In c (with_atom xs b)) e (with_atom_has xs b))
with_atoms_has (b ∷ more) xs a (inr h) = with_atoms_has more (with_atom xs b) a h

-- numbers in the place of atoms
module _ (f : GroundAtom → ℕ) (n : ℕ) (val : GroundAtom → Bool) (v : ℕ → Bool) where
  pub record Named (a : GroundAtom) : Type 0 where
    pub below : f a < n
    pub same : v (f a) ≡ val a

  mutual
    numbered_same : (t : Tree) → ((a : GroundAtom) → In a (tree_atoms t) → Named a) → (AtomBelow n (numbered f t)) × (prop_truth v (numbered f t) ≡ holds val t)
    numbered_same TTrue h = (tt, refl)
    numbered_same TFalse h = (tt, refl)
    numbered_same (TLit b a) h = let r = h a (inl refl) in (r.below, ap (signed b) r.same)
    numbered_same (TAnd ts) h = all_numbered_same ts h
    numbered_same (TOr ts) h = some_numbered_same ts h

    pub all_numbered_same : (ts : Trees) → ((a : GroundAtom) → In a (trees_atoms ts) → Named a)
        → (AtomsBelow n (all_numbered f ts)) × (all_truth v (all_numbered f ts) ≡ holds_all val ts)
    all_numbered_same TNil h = (tt, refl)
    all_numbered_same (TCons t ts) h =
        let p = numbered_same t (λ a i. h a (in_left a (tree_atoms t) _ i)) in
        let q = all_numbered_same ts (λ a i. h a (in_right a (tree_atoms t) _ i)) in
        ((p.0, q.0), cc)

    some_numbered_same : (ts : Trees) → ((a : GroundAtom) → In a (trees_atoms ts) → Named a)
        → (AtomsBelow n (all_numbered f ts)) × (some_truth v (all_numbered f ts) ≡ holds_any val ts)
    some_numbered_same TNil h = (tt, refl)
    some_numbered_same (TCons t ts) h =
        let p = numbered_same t (λ a i. h a (in_left a (tree_atoms t) _ i)) in
        let q = some_numbered_same ts (λ a i. h a (in_right a (tree_atoms t) _ i)) in
        ((p.0, q.0), cc)

  clause_named : (c : GroundClause) → ((a : GroundAtom) → In a (clause_atoms c) → Named a)
      → (InRange n (number_clause f c)) × (clause_truth v (number_clause f c) ≡ ground_true val c)
  clause_named [] h = (All-nil (λ (m : Lit). m.var < n), refl)
  clause_named (l ∷ c) h =
      let p = h l.atom (inl refl) in
      let q = clause_named c (λ a i. h a (inr i)) in
      let e = ap (signed l.positive) p.same in
      let e2 = q.1 in
      (All-cons (λ (m : Lit). m.var < n) (record { var = f l.atom; positive = l.positive }) (number_clause f c) p.below q.0, cc)

  pub clauses_named : (cs : List GroundClause) → ((a : GroundAtom) → In a (clauses_atoms cs) → Named a)
      → (All (InRange n) (number_clauses f cs)) × (clauses_truth v (number_clauses f cs) ≡ all_ground_true val cs)
  clauses_named [] h = (All-nil (InRange n), refl)
  clauses_named (c ∷ cs) h =
      let p = clause_named c (λ a i. h a (in_left a (clause_atoms c) _ i)) in
      let q = clauses_named cs (λ a i. h a (in_right a (clause_atoms c) _ i)) in
      (All-cons (InRange n) (number_clause f c) (number_clauses f cs) p.0 q.0, cc)

module _ (sk : Skolem) (u : List (List GroundTerm)) where
  pub found_in : (a : GroundAtom) → In a (trees_atoms (trees_of sk u) ++ clauses_atoms (equality_clauses sk (counts u)))
      → slice_get (atoms_of sk u) (find_atom (atoms_of sk u) a) ≡ Some a
  found_in a i = found_atom (atoms_of sk u) a (with_atoms_has (trees_atoms (trees_of sk u) ++ clauses_atoms (equality_clauses sk (counts u))) [] a i)

-- what stands in the second of two lists
pub get_right : {A : Type 0} (xs ys : List A) (n i : ℕ) (x : A) → n ≡ length xs → slice_get ys i ≡ Some x → slice_get (xs ++ ys) (n + i) ≡ Some x
get_right [] ys n i x e h = let z : i ≡ n + i = omega arith in subst (λ k. slice_get ys k ≡ Some x) z h
get_right (y ∷ xs) ys n i x e h =
    let z : suc (length xs + i) ≡ n + i = omega arith in
    subst (λ k. slice_get (y ∷ (xs ++ ys)) k ≡ Some x) z (get_right xs ys (length xs) i x refl h)
