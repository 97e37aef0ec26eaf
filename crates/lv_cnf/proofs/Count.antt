-- What the clauses of a log say: they differ, none is a tautology, and over n variables there are fewer
-- than 3 ^ n of them, since each has another number below 3 ^ n, and none has the number 0.
use Rattle.std.proofs.Common.{◌≡◌, ℕ, zero, suc, ◌<◌, ◌+◌, ◌*◌, ◌^◌, ◌≤◌, Bool, true, false, not, cond, List, [], ◌∷◌, ◌++◌, ◌⊎◌, inl, inr, refl, sym, ◌∙◌, ap, subst, length, get_or, arith, eqb, ◌&&◌, ◌||◌}
use Rattle.std.specs.Prelude.{map}
use Rattle.std.specs.List.{All, AllPairs, AllByRecursion, IsDistinct, Contains, list_any}
use Rattle.std.proofs.Math.Bool.{beq}
use Rattle.std.proofs.Math.Nat.{pow-succ'}
use Rattle.std.proofs.lemmas.Bool.{cases_Bool, cases_lt, eqb-true, eq-eqb, ne_eqb}
use Rattle.std.proofs.lemmas.List.{length-map}
use Rattle.std.proofs.lemmas.List.Elements.{All-nil, All-cons, All-contains, Contains-append_left, Contains-append_right, Contains-push, Contains-append_cases}
use Rattle.std.proofs.lemmas.List.Kept.{AllPairs-cons}
use Rattle.std.proofs.lemmas.Map.Steps.{length-le_from_distinct_below}
use Rattle.lv_cnf.specs.declared.literal.Lit.{Lit}
use Rattle.lv_cnf.specs.Literals.{negated, InRange, IsNoTautology}
use Rattle.lv_cnf.specs.Propagation.{IsSettled}
use Rattle.lv_cnf.specs.Logs.{IsNew, AreNew}
use Rattle.lv_cnf.specs.Laws.{SameLiterals}
use Rattle.lv_cnf.proofs.Logic.{negated-negated, clash, All-right}

-- whether l is the variable v with the sign p
abbrev is_lit : ℕ → Bool → Lit → Bool
is_lit v p l = eqb l.var v && beq l.positive p

-- whether the clause has that literal
has : List Lit → ℕ → Bool → Bool
has [] v p = false
has (l ∷ c) v p = is_lit v p l || has c v p

beq_true : (a b : Bool) → beq a b ≡ true → a ≡ b
beq_true true true e = refl
beq_true true false e = cc
beq_true false true e = cc
beq_true false false e = refl

beq_self : (a : Bool) → beq a a ≡ true
beq_self true = refl
beq_self false = refl

and_parts : (a b : Bool) → (a && b) ≡ true → (a ≡ true) × (b ≡ true)
and_parts true b e = (refl, e)
and_parts false b e = cc

or_right : (a b : Bool) → b ≡ true → (a || b) ≡ true
or_right true b e = refl
or_right false b e = e

is_lit_self : (l : Lit) → is_lit l.var l.positive l ≡ true
is_lit_self l = ap (λ (x : Bool). x && beq l.positive l.positive) (eq-eqb l.var l.var refl) ∙ beq_self l.positive

has_from : (c : List Lit) (l : Lit) → Contains c l → has c l.var l.positive ≡ true
unfolding has
has_from [] l (k, lt, e) = absurd (omega arith)
has_from (x ∷ c) l (zero, lt, e) = ap (λ (y : Lit). is_lit l.var l.positive y || has c l.var l.positive) e
    ∙ ap (λ (b : Bool). b || has c l.var l.positive) (is_lit_self l)
has_from (x ∷ c) l (suc k, lt, e) = or_right (is_lit l.var l.positive x) (has c l.var l.positive) (has_from c l (k, omega arith, e))

has_in : (c : List Lit) (l : Lit) → has c l.var l.positive ≡ true → Contains c l
unfolding has
has_in [] l e = cc
has_in (x ∷ c) l e = elim (cases_Bool (is_lit l.var l.positive x)) [
  | inl t ↦
      let a = and_parts (eqb x.var l.var) (beq x.positive l.positive) t in
      let v = eqb-true x.var l.var a.0 in
      let p = beq_true x.positive l.positive a.1 in
      let make : ℕ → Bool → Lit = λ v b. record { var = v; positive = b } in
      let same : x ≡ l = ap (λ (n : ℕ). make n x.positive) v ∙ ap (make l.var) p in
      (0, omega arith, same)
  | inr f ↦ Contains-append_right (x ∷ []) c l (has_in c l (sym (ap (λ (b : Bool). b || has c l.var l.positive) f) ∙ e))
]

abbrev pick : Bool → Bool → ℕ
pick a b = cond a 1 (cond b 2 0)

abbrev digit : List Lit → ℕ → ℕ
digit c v = pick (has c v true) (has c v false)

digit_le : (a b : Bool) → pick a b ≤ 2
digit_le true b = omega arith
digit_le false true = omega arith
digit_le false false = omega arith

code : ℕ → List Lit → ℕ
code zero c = 0
code (suc n) c = 3 * code n c + digit c n

code_below : (n : ℕ) (c : List Lit) → code n c < 3 ^ n
unfolding code
code_below zero c = omega arith
code_below (suc n) c =
    let a = code_below n c in
    let b = digit_le (has c n true) (has c n false) in
    rw pow-succ' (omega (arith, a, b))

same_digits : (n : ℕ) (c d : List Lit) → code n c ≡ code n d → (v : ℕ) → v < n → digit c v ≡ digit d v
unfolding code
same_digits zero c d e v lt = absurd (omega arith)
same_digits (suc n) c d e v lt =
    let a = digit_le (has c n true) (has c n false) in
    let b = digit_le (has d n true) (has d n false) in
    let low : digit c n ≡ digit d n = omega (arith, a, b, e) in
    let high : code n c ≡ code n d = omega (arith, a, b, e) in
    elim (cases_lt v n) [
      | inl less ↦ same_digits n c d high v less
      | inr more ↦ let is : v ≡ n = omega arith in subst (λ (w : ℕ). digit c w ≡ digit d w) (sym is) low
    ]

digit_one : (a b : Bool) → pick a b ≡ 1 → a ≡ true
digit_one true b e = refl
digit_one false true e = absurd (omega arith)
digit_one false false e = absurd (omega arith)

digit_two : (a b : Bool) → pick a b ≡ 2 → b ≡ true
digit_two true b e = absurd (omega arith)
digit_two false true e = refl
digit_two false false e = absurd (omega arith)

-- the literals of a plain clause are among those of a clause of its digits
carried : (n : ℕ) (c d : List Lit) → IsNoTautology c → InRange n c → code n c ≡ code n d → (l : Lit) → Contains c l → Contains d l
carried n c d plain range e l in' =
    go l.positive refl
  where
    go : (p : Bool) → l.positive ≡ p → Contains d l
    go true is =
        let h : has c l.var true ≡ true = ap (has c l.var) (sym is) ∙ has_from c l in' in
        let one : digit c l.var ≡ 1 = ap (λ (b : Bool). pick b (has c l.var false)) h in
        let s = same_digits n c d e l.var (All-contains (λ x. x.var < n) c l range in') in
        has_in d l (ap (has d l.var) is ∙ digit_one (has d l.var true) (has d l.var false) (sym s ∙ one))
    go false is =
        let h : has c l.var false ≡ true = ap (has c l.var) (sym is) ∙ has_from c l in' in
        let none : has c l.var true ≡ false = elim (cases_Bool (has c l.var true)) [
          | inl t ↦ absurd (plain l in' (has_in c (negated l) (ap (λ (b : Bool). has c l.var (not b)) is ∙ t)))
          | inr f ↦ f
        ] in
        let two : digit c l.var ≡ 2 = ap (λ (b : Bool). pick b (has c l.var false)) none ∙ ap (λ (b : Bool). pick false b) h in
        let s = same_digits n c d e l.var (All-contains (λ x. x.var < n) c l range in') in
        has_in d l (ap (has d l.var) is ∙ digit_two (has d l.var true) (has d l.var false) (sym s ∙ two))

-- what a new clause says of its literals
module _ (earlier : List (List Lit)) (c : List Lit) (new : IsNew earlier c) where
  which : (l : Lit) → Contains c l → (new.set (negated l) ≡ true) ⊎ (new.last ≡ l)
  which l in' = elim (Contains-append_cases new.front (new.last ∷ []) l (subst (λ (x : List Lit). Contains x l) new.is in')) [
    | inl f ↦ inl (All-contains (λ x. new.set (negated x) ≡ true) new.front l new.denies f)
    | inr (k, lt, e) ↦ let z : k ≡ 0 = omega arith in
        inr (subst (λ (i : ℕ). get_or (new.last ∷ []) i l ≡ l) z e)
  ]

  new_plain : IsNoTautology c
  new_plain l a b = elim (which l a) [
    | inl s ↦ elim (which (negated l) b) [
      | inl t ↦ clash (new.set (negated (negated l))) t (new.consistent (negated l) s)
      | inr is ↦ clash (new.set (negated l)) s (subst (λ (x : Lit). new.set x ≡ false) is new.undecided.0)
    ]
    | inr is ↦ elim (which (negated l) b) [
      | inl t ↦ clash (new.set (negated (negated l))) t
          (subst (λ (x : Lit). new.set x ≡ false) (is ∙ sym (negated-negated l)) new.undecided.0)
      | inr is' ↦
          let e : l ≡ negated l = sym is ∙ is' in
          let p : l.positive ≡ not l.positive = ap (λ (x : Lit). x.positive) e in not_self l.positive p
    ]
  ]
    where
      not_self : (b : Bool) → b ≡ not b → ⊥
      not_self true e = cc
      not_self false e = cc

  -- no earlier clause has only literals of it
  not_among : (k : List Lit) → Contains earlier k → ((l : Lit) → Contains k l → Contains c l) → ⊥
  not_among k in' all' = elim (All-contains (IsSettled new.set) earlier k new.settles in') [
    | inl (l, has', t) ↦ elim (which l (all' l has')) [
      | inl s ↦ clash (new.set (negated l)) s (new.consistent l t)
      | inr is ↦ clash (new.set l) t (subst (λ (x : Lit). new.set x ≡ false) is new.undecided.0)
    ]
    | inr (l, m, hl, hm, ne, ul, um) ↦ elim (which l (all' l hl)) [
      | inl s ↦ clash (new.set (negated l)) s ul.1
      | inr is ↦ elim (which m (all' m hm)) [
        | inl t ↦ clash (new.set (negated m)) t um.1
        | inr is' ↦ ne (sym is ∙ is')
      ]
    ]
  ]

  -- it has a literal
  has_last : Contains c new.last
  has_last = subst (λ (x : List Lit). Contains x new.last) (sym new.is) (Contains-push new.front new.last)

-- ---- what the clauses of a log say

differ : (n : ℕ) (k : List Lit) → IsNoTautology k → InRange n k → (earlier log : List (List Lit)) → Contains earlier k → AreNew earlier log →
    AllByRecursion (λ (x : ℕ). eqb (code n k) x ≡ false) (map (code n) log)
differ n k plain range earlier [] in' so = tt
differ n k plain range earlier (c ∷ log) in' so = (
  ne_eqb (code n k) (code n c) (λ e. not_among earlier c so.0 k in' (carried n k c plain range e)),
  differ n k plain range (earlier ++ c ∷ []) log (Contains-append_left earlier (c ∷ []) k in') so.1,
)

distinct : (n : ℕ) (earlier log : List (List Lit)) → All (InRange n) log → AreNew earlier log → IsDistinct eqb (map (code n) log)
unfolding IsDistinct
distinct n earlier [] range so = tt
distinct n earlier (c ∷ log) range so = (
  differ n c (new_plain earlier c so.0) (range 0 c (omega arith)) (earlier ++ c ∷ []) log (Contains-push earlier c) so.1,
  distinct n (earlier ++ c ∷ []) log (All-right (InRange n) (c ∷ []) log range) so.1,
)

code_empty : (n : ℕ) → code n [] ≡ 0
unfolding code has
code_empty zero = refl
code_empty (suc n) = let e = code_empty n in omega (arith, e)

some_digit : (n : ℕ) (earlier : List (List Lit)) (c : List Lit) → InRange n c → IsNew earlier c → 0 ≡ code n c → ⊥
some_digit n earlier c range new e =
    let none = carried n c [] (new_plain earlier c new) range (sym e ∙ sym (code_empty n)) new.last (has_last earlier c new) in
    let lt : none.0 < 0 = none.1 in omega arith

none_zero : (n : ℕ) (earlier log : List (List Lit)) → All (InRange n) log → AreNew earlier log →
    AllByRecursion (λ (x : ℕ). eqb 0 x ≡ false) (map (code n) log)
none_zero n earlier [] range so = tt
none_zero n earlier (c ∷ log) range so = (
  ne_eqb 0 (code n c) (some_digit n earlier c (range 0 c (omega arith)) so.0),
  none_zero n (earlier ++ c ∷ []) log (All-right (InRange n) (c ∷ []) log range) so.1,
)

all_below : (n : ℕ) (log : List (List Lit)) (q : ℕ) → list_any (eqb q) (map (code n) log) ≡ true → q < 3 ^ n
all_below n [] q e = cc
all_below n (c ∷ log) q e = elim (cases_Bool (eqb q (code n c))) [
  | inl t ↦ subst (λ (x : ℕ). x < 3 ^ n) (sym (eqb-true q (code n c) t)) (code_below n c)
  | inr f ↦ all_below n log q (sym (ap (λ (b : Bool). b || list_any (eqb q) (map (code n) log)) f) ∙ e)
]

with_zero : (n : ℕ) (clauses log : List (List Lit)) → All (InRange n) log → AreNew clauses log → IsDistinct eqb (0 ∷ map (code n) log)
unfolding IsDistinct
with_zero n clauses log range so = (none_zero n clauses log range so, distinct n clauses log range so)

zero_below : (n : ℕ) → 0 < 3 ^ n
zero_below n = let a = code_below n [] in omega (arith, a)

pub log_below : (n : ℕ) (clauses log : List (List Lit)) → All (InRange n) log → AreNew clauses log → length log < 3 ^ n
log_below n clauses log range so =
    let le = length-le_from_distinct_below (0 ∷ map (code n) log) (3 ^ n) (with_zero n clauses log range so)
    (λ q e. elim (cases_Bool (eqb q 0)) [
      | inl t ↦ subst (λ (x : ℕ). x < 3 ^ n) (sym (eqb-true q 0 t)) (zero_below n)
      | inr f ↦ all_below n log q (sym (ap (λ (b : Bool). b || list_any (eqb q) (map (code n) log)) f) ∙ e)
    ]) in
    let len = length-map log (code n) in
    omega (arith, le, len)

pub no_tautologies : (earlier log : List (List Lit)) → AreNew earlier log → All IsNoTautology log
no_tautologies earlier [] so = All-nil IsNoTautology
no_tautologies earlier (c ∷ log) so = All-cons IsNoTautology c log (new_plain earlier c so.0) (no_tautologies (earlier ++ c ∷ []) log so.1)

-- no later clause has the literals of an earlier one
differs_from : (k : List Lit) (earlier log : List (List Lit)) → Contains earlier k → AreNew earlier log → All (λ d. SameLiterals k d → ⊥) log
differs_from k earlier [] in' so = All-nil (λ d. SameLiterals k d → ⊥)
differs_from k earlier (c ∷ log) in' so =
    All-cons (λ d. SameLiterals k d → ⊥) c log (λ same. not_among earlier c so.0 k in' (λ l h. (same l).0 h))
    (differs_from k (earlier ++ c ∷ []) log (Contains-append_left earlier (c ∷ []) k in') so.1)

pub pairs_differ : (earlier log : List (List Lit)) → AreNew earlier log → AllPairs (λ c d. SameLiterals c d → ⊥) log
pairs_differ earlier [] so = λ i j d lt within. absurd (omega arith)
pairs_differ earlier (c ∷ log) so =
    AllPairs-cons (λ c d. SameLiterals c d → ⊥) c log (differs_from c (earlier ++ c ∷ []) log (Contains-push earlier c) so.1)
    (pairs_differ (earlier ++ c ∷ []) log so.1)
