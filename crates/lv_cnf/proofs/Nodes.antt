-- The clauses of propositions are satisfiable where the propositions and the equalities are.
use Rattle.std.proofs.Common.{◌≡◌, ℕ, suc, ◌+◌, ◌-◌, ◌<◌, Bool, true, false, cond, ltb, List, [], ◌∷◌, ◌++◌, length, map, get_or, refl, sym, ap, ◌∙◌, subst, arith, inl, inr, length-append, append_assoc}
use Rattle.std.proofs.Math.Seq.{get_or-append_seam}
use Rattle.std.specs.Prelude.{not, ◌||◌, ◌⊎◌}
use Rattle.std.specs.List.{All}
use Rattle.std.proofs.lemmas.Bool.{and_parts, and_from, or_cases, or_left, or_right, cond-true, cond-false, false≢true, lt-ltb, le-ltb, cases_Bool}
use Rattle.lv_cnf.specs.declared.literal.Lit.{Lit}
use Rattle.lv_cnf.specs.Literals.{negative_literal, signed, literal_truth, clause_truth, clauses_truth, InRange}
use Rattle.lv_cnf.specs.Nodes.{PlainProp, PTrue, PFalse, PLit, PAnd, POr, PlainProps, PNil, PCons, prop_truth, all_truth, some_truth, inner, inners, name, names, pair_with, node_clauses, nodes_clauses, root_clauses, clauses_of, AtomBelow, AtomsBelow, node_values, nodes_values, with_nodes}
use Rattle.lv_cnf.proofs.Logic.{satisfies_parts, satisfies_append, All-right}

either : {A B C : Type 0} → A ⊎ B → (A → C) → (B → C) → C
either (inl a) f g = f a
either (inr b) f g = g b

-- a clause whose first literal is the negated variable of a true node
after_true : (a : ℕ → Bool) (k : ℕ) (c : List Lit) → a k ≡ true → clause_truth a (negative_literal k ∷ c) ≡ true → clause_truth a c ≡ true
after_true a k c h t = subst (λ b. not b || clause_truth a c ≡ true) h t

-- a solution of the clauses makes each node true whose literal is true
abbrev all_names : (ℕ → Bool) → ℕ → PlainProps → Type 0
all_names a k PNil = Unit {0}
all_names a k (PCons p ps) = (literal_truth a (name k p) ≡ true) × all_names a (k + inner p) ps

and_names : (a : ℕ → Bool) (v k : ℕ) (ps : PlainProps) → a v ≡ true → clauses_truth a (map (pair_with v) (names k ps)) ≡ true → all_names a k ps
and_names a v k PNil h t = tt
and_names a v k (PCons p ps) h t =
    let b = and_parts (clause_truth a (negative_literal v ∷ name k p ∷ [])) _ t in
    let one = after_true a v (name k p ∷ []) h b.0 in
    (either (or_cases (literal_truth a (name k p)) false one) (λ q. q) (λ q. absurd (false≢true q)), and_names a v (k + inner p) ps h b.1)

mutual
  pub node_holds : (a : ℕ → Bool) (p : PlainProp) (k : ℕ) → clauses_truth a (node_clauses k p) ≡ true → literal_truth a (name k p) ≡ true → prop_truth a p ≡ true
  node_holds a PTrue k s t = refl
  node_holds a PFalse k s t = after_true a k [] t (and_parts (clause_truth a (negative_literal k ∷ [])) _ s).0
  node_holds a (PLit l) k s t = t
  node_holds a (PAnd ps) k s t =
      let b = satisfies_parts a (map (pair_with k) (names (suc k) ps)) _ s in
      nodes_hold a ps (suc k) b.1 (and_names a k (suc k) ps t b.0)
  node_holds a (POr ps) k s t =
      let b = and_parts (clause_truth a (negative_literal k ∷ names (suc k) ps)) _ s in
      node_some a ps (suc k) b.1 (after_true a k (names (suc k) ps) t b.0)

  nodes_hold : (a : ℕ → Bool) (ps : PlainProps) (k : ℕ) → clauses_truth a (nodes_clauses k ps) ≡ true → all_names a k ps → all_truth a ps ≡ true
  nodes_hold a PNil k s t = refl
  nodes_hold a (PCons p ps) k s t =
      let b = satisfies_parts a (node_clauses k p) _ s in
      and_from _ _ (node_holds a p k b.0 t.0) (nodes_hold a ps _ b.1 t.1)

  node_some : (a : ℕ → Bool) (ps : PlainProps) (k : ℕ) → clauses_truth a (nodes_clauses k ps) ≡ true → clause_truth a (names k ps) ≡ true → some_truth a ps ≡ true
  node_some a PNil k s t = t
  node_some a (PCons p ps) k s t =
      let b = satisfies_parts a (node_clauses k p) _ s in
      either (or_cases (literal_truth a (name k p)) _ t)
      (λ q. or_left _ _ (node_holds a p k b.0 q))
      (λ q. or_right _ _ (node_some a ps _ b.1 q))

pub roots_hold : (a : ℕ → Bool) (ps : PlainProps) (k : ℕ) → clauses_truth a (root_clauses k ps) ≡ true → all_truth a ps ≡ true
roots_hold a PNil k s = refl
roots_hold a (PCons p ps) k s =
    let b = satisfies_parts a (node_clauses k p) _ s in
    let c = and_parts (clause_truth a (name k p ∷ [])) _ b.1 in
    let t : literal_truth a (name k p) ≡ true = either (or_cases (literal_truth a (name k p)) false c.0) (λ q. q) (λ q. absurd (false≢true q)) in
    and_from _ _ (node_holds a p k b.0 t) (roots_hold a ps _ c.1)

-- an assignment that has these truth values from the variable k on
abbrev Has : (ℕ → Bool) → ℕ → List Bool → Type 0
Has a k [] = Unit {0}
Has a k (b ∷ bs) = (a k ≡ b) × Has a (suc k) bs

has_first : (a : ℕ → Bool) (k : ℕ) (xs ys : List Bool) → Has a k (xs ++ ys) → Has a k xs
has_first a k [] ys h = tt
has_first a k (x ∷ xs) ys h = (h.0, has_first a (suc k) xs ys h.1)

has_rest : (a : ℕ → Bool) (k n : ℕ) (xs ys : List Bool) → length xs ≡ n → Has a k (xs ++ ys) → Has a (k + n) ys
has_rest a k n [] ys e h = let q : k ≡ k + n = omega arith in subst (λ i. Has a i ys) q h
has_rest a k n (x ∷ xs) ys e h =
    let q : suc k + length xs ≡ k + n = omega arith in
    subst (λ i. Has a i ys) q (has_rest a (suc k) (length xs) xs ys refl h.1)

mutual
  length-node_values : (a : ℕ → Bool) (p : PlainProp) → length (node_values a p) ≡ inner p
  length-node_values a PTrue = refl
  length-node_values a PFalse = refl
  length-node_values a (PLit l) = refl
  length-node_values a (PAnd ps) = ap suc (length-nodes_values a ps)
  length-node_values a (POr ps) = ap suc (length-nodes_values a ps)

  length-nodes_values : (a : ℕ → Bool) (ps : PlainProps) → length (nodes_values a ps) ≡ inners ps
  length-nodes_values a PNil = refl
  length-nodes_values a (PCons p ps) =
      let e = length-node_values a p in
      let r = length-nodes_values a ps in
      omega (arith, length-append (node_values a p) (nodes_values a ps))

module _ (v a : ℕ → Bool) (n : ℕ) (same : (x : ℕ) → x < n → a x ≡ v x) where
  name_true : (p : PlainProp) (k : ℕ) → AtomBelow n p → Has a k (node_values v p) → literal_truth a (name k p) ≡ prop_truth v p
  name_true PTrue k b h = h.0
  name_true PFalse k b h = h.0
  name_true (PLit l) k b h = ap (signed l.positive) (same l.var b)
  name_true (PAnd ps) k b h = h.0
  name_true (POr ps) k b h = h.0

  names_true : (ps : PlainProps) (k : ℕ) → AtomsBelow n ps → Has a k (nodes_values v ps) → clause_truth a (names k ps) ≡ some_truth v ps
  names_true PNil k b h = refl
  names_true (PCons p ps) k b h =
      let e = name_true p k b.0 (has_first a k (node_values v p) _ h) in
      let r = names_true ps _ b.1 (has_rest a k (inner p) (node_values v p) _ (length-node_values v p) h) in
      cc

  -- the clauses of a conjunction whose variable has its truth
  and_true : (ps : PlainProps) (x k : ℕ) → AtomsBelow n ps → Has a k (nodes_values v ps) → (all_truth v ps ≡ true) ⊎ (a x ≡ false) → clauses_truth a (map (pair_with x) (names k ps)) ≡ true
  and_true PNil x k b h t = refl
  and_true (PCons p ps) x k b h t =
      let e = name_true p k b.0 (has_first a k (node_values v p) _ h) in
      let h' = has_rest a k (inner p) (node_values v p) _ (length-node_values v p) h in
      either t
      (λ q. let c = and_parts (prop_truth v p) _ q in
      and_from _ _ (or_right _ _ (or_left _ _ (e ∙ c.0))) (and_true ps x _ b.1 h' (inl c.1)))
      (λ q. and_from _ _ (or_left _ _ (ap not q)) (and_true ps x _ b.1 h' (inr q)))

  excluded : (x : ℕ) (b c : Bool) → a x ≡ b → c ≡ b → not (a x) || c ≡ true
  excluded x true c p q = or_right (not (a x)) c q
  excluded x false c p q = or_left (not (a x)) c (ap not p)

  mutual
    nodes_true : (p : PlainProp) (k : ℕ) → AtomBelow n p → Has a k (node_values v p) → clauses_truth a (node_clauses k p) ≡ true
    nodes_true PTrue k b h = refl
    nodes_true PFalse k b h = and_from _ _ (or_left _ _ (ap not h.0)) refl
    nodes_true (PLit l) k b h = refl
    nodes_true (PAnd ps) k b h =
        satisfies_append a _ _ (and_true ps k (suc k) b h.1 (either (cases_Bool (all_truth v ps)) (λ q. inl q) (λ q. inr (h.0 ∙ q)))) (all_nodes_true ps (suc k) b h.1)
    nodes_true (POr ps) k b h =
        and_from _ _ (excluded k _ _ h.0 (names_true ps (suc k) b h.1)) (all_nodes_true ps (suc k) b h.1)

    all_nodes_true : (ps : PlainProps) (k : ℕ) → AtomsBelow n ps → Has a k (nodes_values v ps) → clauses_truth a (nodes_clauses k ps) ≡ true
    all_nodes_true PNil k b h = refl
    all_nodes_true (PCons p ps) k b h =
        satisfies_append a (node_clauses k p) _ (nodes_true p k b.0 (has_first a k (node_values v p) _ h)) (all_nodes_true ps _ b.1 (has_rest a k (inner p) (node_values v p) _ (length-node_values v p) h))

  roots_true : (ps : PlainProps) (k : ℕ) → AtomsBelow n ps → Has a k (nodes_values v ps) → all_truth v ps ≡ true → clauses_truth a (root_clauses k ps) ≡ true
  roots_true PNil k b h t = refl
  roots_true (PCons p ps) k b h t =
      let c = and_parts (prop_truth v p) _ t in
      let e = name_true p k b.0 (has_first a k (node_values v p) _ h) in
      satisfies_append a (node_clauses k p) _ (nodes_true p k b.0 (has_first a k (node_values v p) _ h))
      (and_from _ _ (or_left _ _ (e ∙ c.0)) (roots_true ps (k + inner p) b.1 (has_rest a k (inner p) (node_values v p) _ (length-node_values v p) h) c.1))

  clause_same : (c : List Lit) → InRange n c → clause_truth a c ≡ clause_truth v c
  clause_same [] b = refl
  clause_same (l ∷ c) b = let p = same l.var (b 0 l (omega arith)) in let r = clause_same c (All-right (λ (m : Lit). m.var < n) (l ∷ []) c b) in cc

  clauses_same : (cs : List (List Lit)) → All (InRange n) cs → clauses_truth a cs ≡ clauses_truth v cs
  clauses_same [] b = refl
  clauses_same (c ∷ cs) b = let p = clause_same c (b 0 c (omega arith)) in let r = clauses_same cs (All-right (InRange n) (c ∷ []) cs b) in cc

  pub solved : (roots : PlainProps) (equalities : List (List Lit)) → AtomsBelow n roots → All (InRange n) equalities → Has a n (nodes_values v roots) → all_truth v roots ≡ true → clauses_truth v equalities ≡ true → clauses_truth a (clauses_of n roots equalities) ≡ true
  solved roots equalities b c h t q = satisfies_append a (root_clauses n roots) equalities (roots_true roots n b h t) (clauses_same equalities c ∙ q)

-- the list stands where the assignment looks it up
looks_up : (n : ℕ) (v : ℕ → Bool) (pre bs all : List Bool) → pre ++ bs ≡ all → Has (λ x. cond (ltb x n) (v x) (get_or all (x - n) false)) (n + length pre) bs
looks_up n v pre [] all e = tt
looks_up n v pre (b ∷ bs) all e =
    let k = n + length pre in
    let q : k - n ≡ length pre = omega arith in
    let here : get_or all (k - n) false ≡ b = ap (λ i. get_or all i false) q ∙ ap (λ l. get_or l (length pre) false) (sym e) ∙ get_or-append_seam pre b bs false in
    let one : cond (ltb k n) (v k) (get_or all (k - n) false) ≡ b = cond-false (ltb k n) _ _ (le-ltb k n (omega arith)) ∙ here in
    let e' : (pre ++ (b ∷ [])) ++ bs ≡ all = append_assoc pre (b ∷ []) bs ∙ e in
    let rest = looks_up n v (pre ++ (b ∷ [])) bs all e' in
    let q' : n + length (pre ++ (b ∷ [])) ≡ suc k = omega (arith, length-append pre (b ∷ [])) in
    (one, subst (λ i. Has (λ x. cond (ltb x n) (v x) (get_or all (x - n) false)) i bs) q' rest)

-- where the roots are true and the equalities satisfied, the truth of the nodes satisfies all clauses
pub nodes_solve : (n : ℕ) (v : ℕ → Bool) (roots : PlainProps) (equalities : List (List Lit)) → AtomsBelow n roots → All (InRange n) equalities → all_truth v roots ≡ true → clauses_truth v equalities ≡ true → clauses_truth (with_nodes n v roots) (clauses_of n roots equalities) ≡ true
nodes_solve n v roots equalities b c t q =
    let e : n + 0 ≡ n = omega arith in
    solved v (with_nodes n v roots) n (λ x l. cond-true (ltb x n) _ _ (lt-ltb x n l)) roots equalities b c (subst (λ i. Has (with_nodes n v roots) i (nodes_values v roots)) e (looks_up n v [] (nodes_values v roots) (nodes_values v roots) refl)) t q

-- and the other way round
pub solution_holds : (n : ℕ) (a : ℕ → Bool) (roots : PlainProps) (equalities : List (List Lit)) → clauses_truth a (clauses_of n roots equalities) ≡ true → (all_truth a roots ≡ true) × (clauses_truth a equalities ≡ true)
solution_holds n a roots equalities h =
    let b = satisfies_parts a (root_clauses n roots) equalities h in
    (roots_hold a roots n b.0, b.1)
