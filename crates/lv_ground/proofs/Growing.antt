-- Numbers of atoms stay as atoms are added.
use Rattle.std.proofs.Common.{◌≡◌, Bool, true, false, cond, List, [], ◌∷◌, ◌++◌, refl, sym, ap, ◌∙◌, subst, append_assoc, inl, inr}
use Rattle.std.specs.List.{list_any}
use Rattle.std.proofs.lemmas.List.{map-append, append-nil}
use Rattle.lv_cnf.specs.declared.literal.Lit.{Lit}
use Rattle.lv_cnf.specs.declared.prop.Prop.{Prop}
use Rattle.lv_cnf.specs.Nodes.{PLit, PAnd, POr, PlainProps, PNil, PCons, plain, plains}
use Rattle.lv_places.specs.declared.grounded.GroundAtom.{GroundAtom}
use Rattle.lv_places.specs.GroundForms.{Tree, Trees, TTrue, TFalse, TLit, TAnd, TOr, TNil, TCons}
use Rattle.lv_places.specs.Equality.{GroundClause}
use Rattle.lv_places.specs.Grounds.{same_atom, find_atom, tree_atoms, trees_atoms, clause_atoms, clauses_atoms, with_atom, with_atoms, numbered, all_numbered, number_clause, number_clauses}
use Rattle.lv_places.proofs.Numbered.{In}
use Rattle.lv_ground.proofs.Listed.{in_left, in_right, in_has, with_atom_keeps, with_atoms_has}
use Rattle.lv_ground.specs.Growth.{Grown, AllGrown, Awaits, with_props, Made}
use Rattle.lv_ground.proofs.Marks.{find_before}

-- an atom of the list keeps its number
pub find_kept : (more xs : List GroundAtom) (a : GroundAtom) → In a xs → find_atom (with_atoms xs more) a ≡ find_atom xs a
find_kept [] xs a h = refl
find_kept (b ∷ more) xs a h = find_kept more (with_atom xs b) a (with_atom_keeps xs b a h) ∙ step (list_any (same_atom b) xs)
  where
    step : (t : Bool) → find_atom (cond t xs (xs ++ b ∷ [])) a ≡ find_atom xs a
    step true = refl
    step false = find_before xs b a (in_has xs a h)

mutual
  numbered_kept : (xs more : List GroundAtom) (t : Tree) → ((a : GroundAtom) → In a (tree_atoms t) → In a xs)
      → numbered (find_atom (with_atoms xs more)) t ≡ numbered (find_atom xs) t
  numbered_kept xs more TTrue h = refl
  numbered_kept xs more TFalse h = refl
  numbered_kept xs more (TLit b a) h = ap (λ k. PLit (record { var = k; positive = b })) (find_kept more xs a (h a (inl refl)))
  numbered_kept xs more (TAnd ts) h = ap PAnd (all_numbered_kept xs more ts h)
  numbered_kept xs more (TOr ts) h = ap POr (all_numbered_kept xs more ts h)

  pub all_numbered_kept : (xs more : List GroundAtom) (ts : Trees) → ((a : GroundAtom) → In a (trees_atoms ts) → In a xs)
      → all_numbered (find_atom (with_atoms xs more)) ts ≡ all_numbered (find_atom xs) ts
  all_numbered_kept xs more TNil h = refl
  all_numbered_kept xs more (TCons t ts) h =
      let p = numbered_kept xs more t (λ a i. h a (in_left a (tree_atoms t) _ i)) in
      let q = all_numbered_kept xs more ts (λ a i. h a (in_right a (tree_atoms t) _ i)) in
      cc

clause_kept : (xs more : List GroundAtom) (c : GroundClause) → ((a : GroundAtom) → In a (clause_atoms c) → In a xs)
    → number_clause (find_atom (with_atoms xs more)) c ≡ number_clause (find_atom xs) c
clause_kept xs more [] h = refl
clause_kept xs more (l ∷ c) h =
    let p = find_kept more xs l.atom (h l.atom (inl refl)) in
    let q = clause_kept xs more c (λ a i. h a (inr i)) in
    let e : record { var = find_atom (with_atoms xs more) l.atom; positive = l.positive } ≡ record {
      var = find_atom xs l.atom;
      positive = l.positive;
    } = ap (λ k. let r : Lit = record { var = k; positive = l.positive } in r) p in
    cc

clauses_kept : (xs more : List GroundAtom) (cs : List GroundClause) → ((a : GroundAtom) → In a (clauses_atoms cs) → In a xs)
    → number_clauses (find_atom (with_atoms xs more)) cs ≡ number_clauses (find_atom xs) cs
clauses_kept xs more [] h = refl
clauses_kept xs more (c ∷ cs) h =
    let p = clause_kept xs more c (λ a i. h a (in_left a (clause_atoms c) _ i)) in
    let q = clauses_kept xs more cs (λ a i. h a (in_right a (clause_atoms c) _ i)) in
    cc

pub with_both : (xs more rest : List GroundAtom) → with_atoms xs (more ++ rest) ≡ with_atoms (with_atoms xs more) rest
with_both xs [] rest = refl
with_both xs (a ∷ more) rest = with_both (with_atom xs a) more rest

-- ---- trees

props_last : (ps : List Prop) (p : Prop) (rest : PlainProps) → with_props (ps ++ p ∷ []) rest ≡ with_props ps (PCons (plain p) rest)
props_last [] p rest = refl
props_last (q ∷ ps) p rest = ap (PCons (plain q)) (props_last ps p rest)

props_end : (ps : List Prop) → with_props ps PNil ≡ plains ps
props_end [] = refl
props_end (q ∷ ps) = ap (PCons (plain q)) (props_end ps)

pub awaits_next : (xs0 : List GroundAtom) (whole : Trees) (xs : List GroundAtom) (ps : List Prop) (t : Tree) (rest : Trees) (xs1 : List GroundAtom)
    (p : Prop)
    → Awaits xs0 whole xs ps (TCons t rest) → Grown xs t xs1 (plain p) → Awaits xs0 whole xs1 (ps ++ p ∷ []) rest
awaits_next xs0 whole xs ps t rest xs1 p is grown = record { atoms = atoms; props = props }
  where
    final : List GroundAtom
    final = with_atoms xs0 (trees_atoms whole)

    atoms : with_atoms xs1 (trees_atoms rest) ≡ final
    atoms = ap (λ l. with_atoms l (trees_atoms rest)) grown.atoms ∙ sym (with_both xs (tree_atoms t) (trees_atoms rest)) ∙ is.atoms

    same : plain p ≡ numbered (find_atom final) t
    same =
        grown.prop ∙ sym (numbered_kept xs1 (trees_atoms rest) t (λ a i. subst (In a) (sym grown.atoms) (with_atoms_has (tree_atoms t) xs a i)))
        ∙ ap (λ l. numbered (find_atom l) t) atoms

    props : with_props (ps ++ p ∷ []) (all_numbered (find_atom final) rest) ≡ all_numbered (find_atom final) whole
    props = props_last ps p _ ∙ ap (λ q. with_props ps (PCons q (all_numbered (find_atom final) rest))) same ∙ is.props

pub awaits_end : (xs0 : List GroundAtom) (whole : Trees) (xs : List GroundAtom) (ps : List Prop) → Awaits xs0 whole xs ps TNil
    → AllGrown xs0 whole xs (plains ps)
awaits_end xs0 whole xs ps is =
    let e : xs ≡ with_atoms xs0 (trees_atoms whole) = is.atoms in
    record { atoms = e; props = sym (props_end ps) ∙ is.props ∙ ap (λ l. all_numbered (find_atom l) whole) (sym e) }

-- ---- clauses

clauses_atoms_both : (cs ds : List GroundClause) → clauses_atoms (cs ++ ds) ≡ clauses_atoms cs ++ clauses_atoms ds
clauses_atoms_both [] ds = refl
clauses_atoms_both (c ∷ cs) ds = ap (λ l. clause_atoms c ++ l) (clauses_atoms_both cs ds)
    ∙ sym (append_assoc (clause_atoms c) (clauses_atoms cs) (clauses_atoms ds))

pub made_none : (xs : List GroundAtom) (out : List (List Lit)) → Made xs out [] xs out
made_none xs out = record { atoms = refl; clauses = sym (append-nil out) }

pub made_both : (xs0 : List GroundAtom) (out0 : List (List Lit)) (cs : List GroundClause) (xs1 : List GroundAtom) (out1 : List (List Lit))
    (ds : List GroundClause) (xs2 : List GroundAtom) (out2 : List (List Lit))
    → Made xs0 out0 cs xs1 out1 → Made xs1 out1 ds xs2 out2 → Made xs0 out0 (cs ++ ds) xs2 out2
made_both xs0 out0 cs xs1 out1 ds xs2 out2 p q = record { atoms = atoms; clauses = clauses }
  where
    atoms : xs2 ≡ with_atoms xs0 (clauses_atoms (cs ++ ds))
    atoms =
        q.atoms ∙ ap (λ l. with_atoms l (clauses_atoms ds)) p.atoms ∙ sym (with_both xs0 (clauses_atoms cs) (clauses_atoms ds))
        ∙ ap (with_atoms xs0) (sym (clauses_atoms_both cs ds))

    kept : number_clauses (find_atom xs1) cs ≡ number_clauses (find_atom xs2) cs
    kept =
        sym (clauses_kept xs1 (clauses_atoms ds) cs (λ a i. subst (In a) (sym p.atoms) (with_atoms_has (clauses_atoms cs) xs0 a i)))
        ∙ ap (λ l. number_clauses (find_atom l) cs) (sym q.atoms)

    clauses : out2 ≡ out0 ++ number_clauses (find_atom xs2) (cs ++ ds)
    clauses =
        q.clauses ∙ ap (λ l. l ++ number_clauses (find_atom xs2) ds) (p.clauses ∙ ap (λ l. out0 ++ l) kept)
        ∙ append_assoc out0 (number_clauses (find_atom xs2) cs) (number_clauses (find_atom xs2) ds)
        ∙ ap (λ l. out0 ++ l) (sym (map-append (number_clause (find_atom xs2)) cs ds))
