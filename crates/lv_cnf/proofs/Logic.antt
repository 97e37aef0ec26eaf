-- Assignments and sets of literals.
use Rattle.std.proofs.Common.{◌≡◌, ℕ, zero, suc, Bool, true, false, not, List, [], ◌∷◌, ◌++◌, ◌⊎◌, inl, inr, refl, sym, ◌∙◌, ap, arith}
use Rattle.std.specs.List.{All, Contains, list_any, list_all}
use Rattle.std.proofs.lemmas.Bool.{cases_Bool, and_parts, and_from, or_cases, or_left, or_right, false≢true}
use Rattle.std.proofs.lemmas.List.Elements.{All-nil, All-cons, All-contains, All-weaker, All-contains_itself, Contains-append_left, Contains-append_right}
use Rattle.lv_cnf.specs.declared.literal.Lit.{Lit}
use Rattle.lv_cnf.specs.Literals.{negated, signed, literal_truth, clause_truth, clauses_truth, Satisfies}
use Rattle.lv_cnf.specs.Propagation.{IsConsistent, IsMet, IsSettled, Settles, Denies, Follows}

not_not : (b : Bool) → not (not b) ≡ b
not_not true = refl
not_not false = refl

pub negated-negated : (l : Lit) → negated (negated l) ≡ l
negated-negated l = ap (λ (b : Bool). let r : Lit = record { var = l.var; positive = b } in r) (not_not l.positive)

pub clash : (b : Bool) → b ≡ true → b ≡ false → ⊥
clash b t f = cc

-- ---- lists

pub All-left : {X : Type 0} (P : X → Type 0) (xs ys : List X) → All P (xs ++ ys) → All P xs
All-left {X} P xs ys h =
    All-weaker (Contains xs) P (λ x in'. All-contains P (xs ++ ys) x h (Contains-append_left xs ys x in')) xs (All-contains_itself xs)

pub All-right : {X : Type 0} (P : X → Type 0) (xs ys : List X) → All P (xs ++ ys) → All P ys
All-right {X} P xs ys h =
    All-weaker (Contains ys) P (λ x in'. All-contains P (xs ++ ys) x h (Contains-append_right xs ys x in')) ys (All-contains_itself ys)

pub any_from_member : {X : Type 0} (test : X → Bool) (xs : List X) (x : X) → Contains xs x → test x ≡ true → list_any test xs ≡ true
any_from_member test [] x (k, lt, e) h = absurd (omega arith)
any_from_member test (y ∷ xs) x (zero, lt, e) h = or_left (test y) (list_any test xs) (ap test e ∙ h)
any_from_member test (y ∷ xs) x (suc k, lt, e) h = or_right (test y) (list_any test xs) (any_from_member test xs x (k, omega arith, e) h)

pub all_at_member : {X : Type 0} (test : X → Bool) (xs : List X) (x : X) → Contains xs x → list_all test xs ≡ true → test x ≡ true
all_at_member test [] x (k, lt, e) h = absurd (omega arith)
all_at_member test (y ∷ xs) x (zero, lt, e) h = ap test (sym e) ∙ (and_parts (test y) (list_all test xs) h).0
all_at_member test (y ∷ xs) x (suc k, lt, e) h = all_at_member test xs x (k, omega arith, e) (and_parts (test y) (list_all test xs) h).1

-- ---- clauses that assignments satisfy

pub satisfies_parts : (a : ℕ → Bool) (xs ys : List (List Lit)) → clauses_truth a (xs ++ ys) ≡ true → (clauses_truth a xs ≡ true) × (clauses_truth a ys ≡ true)
satisfies_parts a [] ys h = (refl, h)
satisfies_parts a (c ∷ xs) ys h =
    let p = and_parts (clause_truth a c) _ h in
    let r = satisfies_parts a xs ys p.1 in
    (and_from _ _ p.0 r.0, r.1)

pub satisfies_append : (a : ℕ → Bool) (xs ys : List (List Lit)) → clauses_truth a xs ≡ true → clauses_truth a ys ≡ true → clauses_truth a (xs ++ ys) ≡ true
satisfies_append a [] ys h k = k
satisfies_append a (c ∷ xs) ys h k =
    let p = and_parts (clause_truth a c) _ h in
    and_from _ _ p.0 (satisfies_append a xs ys p.1 k)

-- a clause is met by the literals that are true exactly where it is true
pub met_from_truth : (s : Lit → Bool) (clause : List Lit) → list_any s clause ≡ true → IsMet s clause
met_from_truth s [] h = absurd (false≢true h)
met_from_truth s (l ∷ clause) h = elim (or_cases (s l) (list_any s clause) h) [
  | inl t ↦ (l, (0, omega arith, refl), t)
  | inr t ↦
      let m = met_from_truth s clause t in
      (m.0, Contains-append_right (l ∷ []) clause m.0 m.1, m.2)
]

pub truth_from_met : (s : Lit → Bool) (clause : List Lit) → IsMet s clause → list_any s clause ≡ true
truth_from_met s clause m = any_from_member s clause m.0 m.1 m.2

pub all_met : (a : ℕ → Bool) (clauses : List (List Lit)) → Satisfies a clauses → All (IsMet (literal_truth a)) clauses
all_met a clauses h =
    All-weaker (Contains clauses) (IsMet (literal_truth a)) (λ c in'. met_from_truth (literal_truth a) c (all_at_member (clause_truth a) clauses c in' h)) clauses
    (All-contains_itself clauses)

pub satisfies_from_met : (a : ℕ → Bool) (clauses : List (List Lit)) → All (IsMet (literal_truth a)) clauses → Satisfies a clauses
satisfies_from_met a [] h = refl
satisfies_from_met a (c ∷ clauses) h =
    let P : List Lit → Type 0 = IsMet (literal_truth a) in
    and_from (clause_truth a c) (clauses_truth a clauses) (truth_from_met (literal_truth a) c (h 0 c (omega arith)))
    (satisfies_from_met a clauses (All-right P (c ∷ []) clauses h))

-- an assignment as a set of literals

signed_not : (p b : Bool) → signed p b ≡ true → signed (not p) b ≡ false
signed_not true true e = refl
signed_not true false e = cc
signed_not false true e = cc
signed_not false false e = refl

signed_other : (p b : Bool) → signed p b ≡ false → signed (not p) b ≡ true
signed_other true true e = cc
signed_other true false e = refl
signed_other false true e = refl
signed_other false false e = cc

pub literal_truth-consistent : (a : ℕ → Bool) → IsConsistent (literal_truth a)
literal_truth-consistent a l e = signed_not l.positive (a l.var) e

-- ---- unit propagation

-- a settled clause whose literals are all false but u has u in the set
pub forced_unit : (s : Lit → Bool) (clause : List Lit) (u : Lit) → IsConsistent s →
    All (λ m. (m ≡ u) ⊎ (s (negated m) ≡ true)) clause → IsSettled s clause → s u ≡ true
forced_unit s clause u con others (inl (l, has, holds)) =
    elim (All-contains (λ m. (m ≡ u) ⊎ (s (negated m) ≡ true)) clause l others has) [
      | inl e ↦ ap s (sym e) ∙ holds
      | inr deny ↦ absurd (clash (s (negated l)) deny (con l holds))
    ]
forced_unit s clause u con others (inr (l, m, hl, hm, ne, ul, um)) =
    let P : Lit → Type 0 = λ m. (m ≡ u) ⊎ (s (negated m) ≡ true) in
    elim (All-contains P clause l others hl) [
      | inl el ↦ elim (All-contains P clause m others hm) [
        | inl em ↦ absurd (ne (el ∙ sym em))
        | inr deny ↦ absurd (clash (s (negated m)) deny um.1)
      ]
      | inr deny ↦ absurd (clash (s (negated l)) deny ul.1)
    ]

-- a settled clause has a literal that is not false
pub no_conflict : (s : Lit → Bool) (clause : List Lit) → IsConsistent s → Denies s clause → IsSettled s clause → ⊥
no_conflict s clause con denied (inl (l, has, holds)) =
    clash (s (negated l)) (All-contains (λ l. s (negated l) ≡ true) clause l denied has) (con l holds)
no_conflict s clause con denied (inr (l, m, hl, hm, ne, ul, um)) =
    clash (s (negated l)) (All-contains (λ l. s (negated l) ≡ true) clause l denied hl) ul.1

-- two sets with the same literals settle the same
pub settled_same : (s t : Lit → Bool) → ((l : Lit) → s l ≡ t l) → (clause : List Lit) → IsSettled s clause → IsSettled t clause
settled_same s t same clause (inl (l, has, holds)) = inl (l, has, sym (same l) ∙ holds)
settled_same s t same clause (inr (l, m, hl, hm, ne, ul, um)) =
    inr (l, m, hl, hm, ne, (sym (same l) ∙ ul.0, sym (same (negated l)) ∙ ul.1), (sym (same m) ∙ um.0, sym (same (negated m)) ∙ um.1))

pub Settles-same : (s t : Lit → Bool) → ((l : Lit) → s l ≡ t l) → (clauses : List (List Lit)) → Settles s clauses → Settles t clauses
Settles-same s t same clauses h = All-weaker (IsSettled s) (IsSettled t) (settled_same s t same) clauses h

-- a clause that follows is true where the clauses are
pub true_by_following : (a : ℕ → Bool) (clauses : List (List Lit)) (clause : List Lit) → Follows clauses clause →
    Satisfies a clauses → clause_truth a clause ≡ true
true_by_following a clauses clause follows all' = go clause (λ den. follows (literal_truth a) (literal_truth-consistent a) den
    (All-weaker (IsMet (literal_truth a)) (IsSettled (literal_truth a)) (λ k met. inl met) clauses (all_met a clauses all')))
  where
    go : (rest : List Lit) → (Denies (literal_truth a) rest → ⊥) → clause_truth a rest ≡ true
    go [] none = absurd (none (All-nil (λ l. literal_truth a (negated l) ≡ true)))
    go (l ∷ rest) none = elim (cases_Bool (literal_truth a l)) [
      | inl t ↦ or_left (literal_truth a l) (clause_truth a rest) t
      | inr f ↦ or_right (literal_truth a l) (clause_truth a rest)
          (go rest (λ den. none (All-cons (λ l. literal_truth a (negated l) ≡ true) l rest (signed_other l.positive (a l.var) f) den)))
    ]
