-- The steps of a look at one clause.
use Rattle.std.proofs.Common.{◌≡◌, ℕ, ◌<◌, ◌≤◌, true, false, List, [], inl, inr, refl, sym, ◌∙◌, subst, length, set, Option, Some, None, arith}
use Rattle.std.specs.List.{swap}
use Rattle.std.specs.List.Sorted.{IsPermutation}
use Rattle.std.proofs.lemmas.List.{get_or-set_same, get_or-set_other, length-set}
use Rattle.std.proofs.lemmas.List.Edits.{swapped_from_swap}
use Rattle.std.proofs.lemmas.List.Sorted.{IsPermutation-swap, IsPermutation-refl, IsPermutation-trans, All-permutation, length_permutation}
use Rattle.std.proofs.lemmas.Bool.{cases_lt}
use Rattle.lv_cnf.specs.declared.literal.Lit.{Lit}
use Rattle.lv_cnf.specs.Literals.{InRange}
use Rattle.lv_watch.specs.declared.trail.Assigned.{Assigned}
use Rattle.lv_watch.specs.declared.visit.Visit.TheVariants.{Kept, Moved, Unit as UnitAt, Conflict}
use Rattle.lv_watch.specs.Values.{value, held}
use Rattle.lv_cnf.specs.Packed.{at, clause_at}
use Rattle.lv_watch.specs.Visit.{IsOther, Turns, VisitIs, IsFalse, ReplacementIs}

module _ (old : List (List Lit)) (i a b : ℕ) (lt : i < length old) (la : a < length (clause_at old i)) (lb : b < length (clause_at old i)) where
  abbrev lits : List Lit
  lits = clause_at old i

  abbrev swapped : List (List Lit)
  swapped = set old i (swap lits a b)

  pub at_swapped : clause_at swapped i ≡ swap lits a b
  at_swapped = get_or-set_same old i (swap lits a b) [] lt

  pub beside : (j : ℕ) → (j ≡ i → ⊥) → clause_at swapped j ≡ clause_at old j
  beside j ne = get_or-set_other old i j (swap lits a b) [] ne

  pub perm : IsPermutation lits (clause_at swapped i)
  perm = IsPermutation-swap lits (clause_at swapped i) a b la lb at_swapped

  pub at_a : at (clause_at swapped i) a ≡ at lits b
  at_a = (swapped_from_swap lits (clause_at swapped i) a b (record { var = 0; positive = false }) la lb at_swapped).0

  pub at_b : at (clause_at swapped i) b ≡ at lits a
  at_b = (swapped_from_swap lits (clause_at swapped i) a b (record { var = 0; positive = false }) la lb at_swapped).1

  pub at_else : (k : ℕ) → (k ≡ a → ⊥) → (k ≡ b → ⊥) → at (clause_at swapped i) k ≡ at lits k
  at_else = (swapped_from_swap lits (clause_at swapped i) a b (record { var = 0; positive = false }) la lb at_swapped).2

pub turned : (old : List (List Lit)) (i : ℕ) (gone : Lit) → i < length old → 2 ≤ length (clause_at old i) →
    at (clause_at old i) 0 ≡ gone → Turns old (set old i (swap (clause_at old i) 0 1)) i gone
turned old i gone lt two is =
    let l0 : 0 < length (clause_at old i) = omega arith in
    let l1 : 1 < length (clause_at old i) = omega arith in
    record {
      count = length-set old i (swap (clause_at old i) 0 1);
      others = beside old i 0 1 lt l0 l1;
      permuted = perm old i 0 1 lt l0 l1;
      other = inl (is, at_a old i 0 1 lt l0 l1);
      gone_at = at_b old i 0 1 lt l0 l1 ∙ is;
      same_length = length_permutation _ _ (perm old i 0 1 lt l0 l1);
    }

pub stays : (old : List (List Lit)) (i : ℕ) (gone : Lit) → at (clause_at old i) 1 ≡ gone → Turns old old i gone
stays old i gone is = record {
  count = refl;
  others = λ j ne. refl;
  permuted = IsPermutation-refl (clause_at old i);
  other = inr (is, refl);
  gone_at = is;
  same_length = refl;
}

pub moved : (old mid : List (List Lit)) (values : List (Option Assigned)) (i p : ℕ) (gone l : Lit) → i < length mid → 2 ≤ length (clause_at mid i) →
    Turns old mid i gone → ReplacementIs values (clause_at mid i) (Some (p, l)) →
    VisitIs old (set mid i (swap (clause_at mid i) 1 p)) values i gone (Moved l)
moved old mid values i p gone l lt two t r =
    let l1 : 1 < length (clause_at mid i) = omega arith in
    let far : 0 ≡ p → ⊥ = λ e. let h : 2 ≤ p = r.0 in omega arith in
    let off : ◌≡◌ {A = ℕ} 0 1 → ⊥ = λ e. cc in
    record {
      count = length-set mid i (swap (clause_at mid i) 1 p) ∙ t.count;
      others = λ j ne. beside mid i 1 p lt l1 r.1 j ne ∙ t.others j ne;
      permuted = IsPermutation-trans _ _ _ t.permuted (perm mid i 1 p lt l1 r.1);
      other = subst (IsOther (clause_at old i) gone) (sym (at_else mid i 1 p lt l1 r.1 0 off far)) t.other;
      outcome_is = (at_a mid i 1 p lt l1 r.1 ∙ sym r.2, r.3);
    }

module _ (old mid : List (List Lit)) (values : List (Option Assigned)) (i : ℕ) (gone : Lit) (t : Turns old mid i gone) where
  pub kept : held values (at (clause_at mid i) 0) ≡ true → VisitIs old mid values i gone Kept
  kept h = record { count = t.count; others = t.others; permuted = t.permuted; other = t.other; outcome_is = (t.gone_at, h) }

  rest : IsFalse values gone → ReplacementIs values (clause_at mid i) None → (k : ℕ) → 1 ≤ k → k < length (clause_at mid i) →
      IsFalse values (at (clause_at mid i) k)
  rest g r k le lt = elim (cases_lt k 2) [
    | inl less ↦ let is : 1 ≡ k = omega arith in
        subst (λ (n : ℕ). IsFalse values (at (clause_at mid i) n)) is (subst (IsFalse values) (sym t.gone_at) g)
    | inr more ↦ r k more lt
  ]

  pub unit_at : IsFalse values gone → ReplacementIs values (clause_at mid i) None → value values (at (clause_at mid i) 0).var ≡ None →
      VisitIs old mid values i gone (UnitAt (at (clause_at mid i) 0))
  unit_at g r none = record {
    count = t.count;
    others = t.others;
    permuted = t.permuted;
    other = t.other;
    outcome_is = (refl, t.gone_at, none, rest g r);
  }

  pub conflict : IsFalse values gone → ReplacementIs values (clause_at mid i) None → IsFalse values (at (clause_at mid i) 0) →
      VisitIs old mid values i gone Conflict
  conflict g r h = record {
    count = t.count;
    others = t.others;
    permuted = t.permuted;
    other = t.other;
    outcome_is = (
      t.gone_at,
      λ k lt. elim (cases_lt k 1) [
        | inl less ↦ let is : 0 ≡ k = omega arith in subst (λ (n : ℕ). IsFalse values (at (clause_at mid i) n)) is h
        | inr more ↦ rest g r k more lt
      ],
    );
  }

pub range_turned : (old mid : List (List Lit)) (n i : ℕ) (gone : Lit) → Turns old mid i gone → InRange n (clause_at old i) → InRange n (clause_at mid i)
range_turned old mid n i gone t range = All-permutation (λ l. l.var < n) (clause_at old i) (clause_at mid i) t.permuted range
