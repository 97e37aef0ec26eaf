-- A clause without repeats settles the same.
use Rattle.std.proofs.Common.{◌≡◌, ℕ, ◌<◌, Bool, true, false, not, List, [], ◌∷◌, ◌++◌, inl, inr, refl, ◌∙◌, ap, subst, length, get_or, arith, eqb}
use Rattle.std.proofs.Common.{◌&&◌, length-append}
use Rattle.std.specs.List.{Contains, IsDistinct}
use Rattle.std.proofs.Math.Bool.{beq}
use Rattle.std.proofs.Math.Seq.{get_or-append_seam}
use Rattle.std.proofs.lemmas.Bool.{cases_Bool, cases_lt, eqb-true}
use Rattle.std.proofs.lemmas.List.{get_or_append_left}
use Rattle.std.proofs.lemmas.List.Elements.{Contains-append_left, Contains-push, Contains-push_cases, Contains-get_or}
use Rattle.std.proofs.lemmas.Map.Keys.{apart_from_distinct, IsDistinct-from_apart}
use Rattle.lv_cnf.specs.declared.literal.Lit.{Lit}
use Rattle.lv_cnf.specs.Literals.{negated}
use Rattle.lv_cnf.specs.Propagation.{IsConsistent, IsSettled}
use Rattle.lv_cnf.proofs.Logic.{negated-negated}
use Rattle.lv_watch.specs.Lists.{same_lit}
use Rattle.lv_propagate.specs.Repeats.{IsUnrepeated, IsTautology}

beq_true : (a b : Bool) → beq a b ≡ true → a ≡ b
beq_true true true e = refl
beq_true true false e = cc
beq_true false true e = cc
beq_true false false e = refl

and_parts : (a b : Bool) → (a && b) ≡ true → (a ≡ true) × (b ≡ true)
and_parts true b e = (refl, e)
and_parts false b e = cc

lit_from_same : (a b : Lit) → same_lit a b ≡ true → a ≡ b
lit_from_same a b t =
    let p = and_parts (eqb a.var b.var) (beq a.positive b.positive) t in
    let make : ℕ → Bool → Lit = λ v s. record { var = v; positive = s } in
    ap (λ (v : ℕ). make v a.positive) (eqb-true a.var b.var p.0) ∙ ap (make b.var) (beq_true a.positive b.positive p.1)

pub pack_skip : (out lits : List Lit) (x : Lit) → IsUnrepeated out lits → Contains out x → IsUnrepeated out (lits ++ x ∷ [])
pack_skip out lits x is has = record {
  short = let a = is.short in let b = length-append lits (x ∷ []) in omega (arith, a, b);
  distinct = is.distinct;
  members = record {
    there = λ l c. Contains-append_left lits (x ∷ []) l (is.members.there l c);
    back = λ l c. elim (Contains-push_cases lits x l c) [ inl a ↦ is.members.back l a | inr e ↦ subst (Contains out) e has ];
  };
}

-- one more literal that was not there
pub distinct_push : (out : List Lit) (x : Lit) → IsDistinct same_lit out → (Contains out x → ⊥) → IsDistinct same_lit (out ++ x ∷ [])
distinct_push out x d' none = IsDistinct-from_apart same_lit (out ++ x ∷ []) (λ i j d ij jl.
    let len = length-append out (x ∷ []) in
    let a : get_or (out ++ x ∷ []) i d ≡ get_or out i d = get_or_append_left out (x ∷ []) d i (omega (arith, len)) in
    elim (cases_lt j (length out)) [
      | inl less ↦
          let b : get_or (out ++ x ∷ []) j d ≡ get_or out j d = get_or_append_left out (x ∷ []) d j less in
          ap (λ (l : Lit). same_lit l (get_or (out ++ x ∷ []) j d)) a ∙ ap (same_lit (get_or out i d)) b ∙ apart_from_distinct same_lit out i j d d' ij less
      | inr more ↦
          let last : j ≡ length out = omega (arith, len) in
          let b : get_or (out ++ x ∷ []) j d ≡ x = ap (λ (n : ℕ). get_or (out ++ x ∷ []) n d) last ∙ get_or-append_seam out x [] d in
          let il : i < length out = omega (arith, len) in
          ap (λ (l : Lit). same_lit l (get_or (out ++ x ∷ []) j d)) a ∙ ap (same_lit (get_or out i d)) b ∙ elim (cases_Bool (same_lit (get_or out i d) x)) [
            | inl t ↦ absurd (none (subst (Contains out) (lit_from_same (get_or out i d) x t) (Contains-get_or out i d il)))
            | inr f ↦ f
          ]
    ])

pub pack_add : (out lits : List Lit) (x : Lit) → IsUnrepeated out lits → (Contains out x → ⊥) → IsUnrepeated (out ++ x ∷ []) (lits ++ x ∷ [])
pack_add out lits x is none = record {
  short = let a = is.short in let b = length-append lits (x ∷ []) in let d = length-append out (x ∷ []) in omega (arith, a, b, d);
  distinct = distinct_push out x is.distinct none;
  members = record {
    there = λ l c. elim (Contains-push_cases out x l c) [
      | inl a ↦ Contains-append_left lits (x ∷ []) l (is.members.there l a)
      | inr e ↦ subst (Contains (lits ++ x ∷ [])) e (Contains-push lits x)
    ];
    back = λ l c. elim (Contains-push_cases lits x l c) [
      | inl a ↦ Contains-append_left out (x ∷ []) l (is.members.back l a)
      | inr e ↦ subst (Contains (out ++ x ∷ [])) e (Contains-push out x)
    ];
  };
}

pub settled_members : (s : Lit → Bool) (xs ys : List Lit) → ((l : Lit) → Contains xs l → Contains ys l) → IsSettled s xs → IsSettled s ys
settled_members s xs ys m (inl (l, has, t)) = inl (l, m l has, t)
settled_members s xs ys m (inr (l, k, hl, hk, ne, ul, uk)) = inr (l, k, m l hl, m k hk, ne, ul, uk)

-- a consistent set settles each clause that holds a literal and its negation
pub tautology_settled : (s : Lit → Bool) (lits : List Lit) → IsConsistent s → IsTautology lits → IsSettled s lits
tautology_settled s lits con (l, has, neg) = elim (cases_Bool (s l)) [
  | inl t ↦ inl (l, has, t)
  | inr f ↦ elim (cases_Bool (s (negated l))) [
    | inl t ↦ inl (negated l, neg, t)
    | inr g ↦ inr (
      l,
      negated l,
      has,
      neg,
      λ e. not_self l.positive (ap (λ (x : Lit). x.positive) e),
      (f, g),
      (g, ap s (twice l) ∙ f),
    )
  ]
]
  where
    not_self : (b : Bool) → b ≡ not b → ⊥
    not_self true e = cc
    not_self false e = cc

    twice : (x : Lit) → negated (negated x) ≡ x
    twice x = negated-negated x

pub pack_none : IsUnrepeated [] []
unfolding IsDistinct
pack_none = record { short = omega arith; distinct = tt; members = record { there = λ l c. c; back = λ l c. c } }
