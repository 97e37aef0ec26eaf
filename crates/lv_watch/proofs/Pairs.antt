-- What a look at a clause does to its pair of watched literals.
use Rattle.std.proofs.Common.{◌≡◌, ◌≤◌, Bool, true, false, List, ◌⊎◌, inl, inr, sym, ◌∙◌, ap, length, arith}
use Rattle.std.proofs.lemmas.Bool.{cases_Bool}
use Rattle.std.proofs.lemmas.List.Elements.{Contains-get_or}
use Rattle.lv_cnf.specs.declared.literal.Lit.{Lit}
use Rattle.lv_cnf.specs.Literals.{negated}
use Rattle.lv_cnf.specs.Propagation.{IsConsistent, IsSettled}
use Rattle.lv_cnf.proofs.Logic.{clash, negated-negated}
use Rattle.lv_cnf.specs.Packed.{at}
use Rattle.lv_watch.specs.Visit.{IsOther, Pair}

-- with both watched literals, a consistent set settles the clause
pub pair_settled : (s : Lit → Bool) (lits : List Lit) → 2 ≤ length lits → (at lits 0 ≡ at lits 1 → ⊥) → Pair s s lits → IsSettled s lits
pair_settled s lits two ne pair =
    let c0 = Contains-get_or lits 0 (record { var = 0; positive = false }) (omega arith) in
    let c1 = Contains-get_or lits 1 (record { var = 0; positive = false }) (omega arith) in
    elim (cases_Bool (s (at lits 0))) [
      | inl t ↦ inl (at lits 0, c0, t)
      | inr f ↦ elim (cases_Bool (s (at lits 1))) [
        | inl t ↦ inl (at lits 1, c1, t)
        | inr g ↦ elim (cases_Bool (s (negated (at lits 0)))) [
          | inl t ↦ absurd (clash (s (at lits 1)) (pair.0 t) g)
          | inr f' ↦ elim (cases_Bool (s (negated (at lits 1)))) [
            | inl t ↦ absurd (clash (s (at lits 0)) (pair.1 t) f)
            | inr g' ↦ inr (at lits 0, at lits 1, c0, c1, ne, (f, f'), (g, g'))
          ]
        ]
      ]
    ]

module _ (lits new : List Lit) (gone : Lit) (other : IsOther lits gone (at new 0)) where
  -- the pair after gone was brought to place 1
  pub pair_turned : (s t : Lit → Bool) → at new 1 ≡ gone → Pair s t lits → Pair s t new
  pair_turned s t is pair = elim other [
    | inl o ↦ (
      λ e. ap t (is ∙ sym o.0) ∙ pair.1 (sym (ap (λ (l : Lit). s (negated l)) o.1) ∙ e),
      λ e. ap t o.1 ∙ pair.0 (ap (λ (l : Lit). s (negated l)) (o.0 ∙ sym is) ∙ e),
    )
    | inr o ↦ (
      λ e. ap t (is ∙ sym o.0) ∙ pair.0 (sym (ap (λ (l : Lit). s (negated l)) o.1) ∙ e),
      λ e. ap t o.1 ∙ pair.1 (ap (λ (l : Lit). s (negated l)) (o.0 ∙ sym is) ∙ e),
    )
  ]

  -- where the other literal is false in s, gone would be in t
  pub other_false : (s t : Lit → Bool) → Pair s t lits → s (negated (at new 0)) ≡ true → t gone ≡ true
  other_false s t pair e = elim other [
    | inl o ↦ ap t (sym o.0) ∙ pair.1 (sym (ap (λ (l : Lit). s (negated l)) o.1) ∙ e)
    | inr o ↦ ap t (sym o.0) ∙ pair.0 (sym (ap (λ (l : Lit). s (negated l)) o.1) ∙ e)
  ]

  -- the pair after the watch moved to l, for a set within the literals held
  pub pair_moved : (s t all' : Lit → Bool) → IsConsistent all' → ((x : Lit) → s x ≡ true → all' x ≡ true) → ((x : Lit) → t x ≡ true → all' x ≡ true) →
      all' (negated gone) ≡ true → all' (negated (at new 1)) ≡ false → Pair s t lits → Pair s t new
  pair_moved s t all' con ins int g f pair = (
    λ e. absurd (clash (all' (negated gone)) g (con gone (int gone (other_false s t pair e)))),
    λ e. absurd (clash (all' (negated (at new 1))) (ins (negated (at new 1)) e) f),
  )

-- the step of the propagated literals: s' has the literals of s and p, whose negation is gone
module _ (s s' all' : Lit → Bool) (p gone : Lit) (con : IsConsistent all') (neg : p ≡ negated gone)
    (grows : (x : Lit) → s' x ≡ true → (s x ≡ true) ⊎ (x ≡ p)) (ins : (x : Lit) → s x ≡ true → all' x ≡ true) (has : all' p ≡ true) where
  same_negated : (x y : Lit) → negated x ≡ negated y → x ≡ y
  same_negated x y e = sym (negated-negated x) ∙ ap negated e ∙ negated-negated y

  in_all : (x : Lit) → s' x ≡ true → all' x ≡ true
  in_all x e = elim (grows x e) [ inl f ↦ ins x f | inr is ↦ ap all' is ∙ has ]

  -- a clause that doesn't watch gone
  pub pair_apart : (lits : List Lit) → (at lits 0 ≡ gone → ⊥) → (at lits 1 ≡ gone → ⊥) → Pair s all' lits → Pair s' all' lits
  pair_apart lits n0 n1 pair = (
    λ e. elim (grows (negated (at lits 0)) e) [ inl f ↦ pair.0 f | inr is ↦ absurd (n0 (same_negated _ _ (is ∙ neg))) ],
    λ e. elim (grows (negated (at lits 1)) e) [ inl f ↦ pair.1 f | inr is ↦ absurd (n1 (same_negated _ _ (is ∙ neg))) ],
  )

  -- the other watched literal holds
  pub pair_kept : (new : List Lit) → all' (at new 0) ≡ true → Pair s' all' new
  pair_kept new h =
      (λ e. absurd (clash (all' (negated (at new 0))) (in_all (negated (at new 0)) e) (con (at new 0) h)), λ e. h)

  -- the watch moved
  pub pair_shifted : (lits new : List Lit) → IsOther lits gone (at new 0) → (at new 0 ≡ gone → ⊥) → all' (negated (at new 1)) ≡ false →
      Pair s all' lits → Pair s' all' new
  pair_shifted lits new other apart f pair = (
    λ e. elim (grows (negated (at new 0)) e) [
      | inl g ↦ absurd (clash (all' (negated gone)) (ap all' (sym neg) ∙ has) (con gone (other_false lits new gone other s all' pair g)))
      | inr is ↦ absurd (apart (same_negated _ _ (is ∙ neg)))
    ],
    λ e. absurd (clash (all' (negated (at new 1))) (in_all (negated (at new 1)) e) f),
  )
