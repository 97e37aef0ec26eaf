-- A further clause: the lists of its watched literals, and what was there before.
use Rattle.std.proofs.Common.{◌≡◌, ℕ, ◌<◌, ◌≤◌, List, [], ◌∷◌, ◌++◌, ◌⊎◌, inl, inr, sym, ◌∙◌, ap, subst, length, set, arith, length-append, length-set}
use Rattle.std.specs.List.{Contains, IsDistinct}
use Rattle.std.proofs.lemmas.List.{get_or_append_left, get_or-set_same, get_or-set_other}
use Rattle.std.proofs.Math.Seq.{get_or-append_seam}
use Rattle.std.proofs.lemmas.List.Elements.{Contains-append_left, Contains-push, Contains-push_cases}
use Rattle.std.proofs.lemmas.Bool.{cases_eq, cases_lt}
use Rattle.lv_cnf.specs.declared.literal.Lit.{Lit}
use Rattle.lv_cnf.specs.Literals.{InRange}
use Rattle.lv_cnf.specs.Packed.{at, clause_at}
use Rattle.lv_watch.specs.Lists.{slot, list_at, IsApart, IsWatched, IsIndex, same_lit}
use Rattle.lv_watch.proofs.Index.{slot_same, slot_in, IsApart-push, distinct_places}

-- ---- a clause is added to one list

module _ (lists : List (List ℕ)) (s i : ℕ) (lt : s < length lists) where
  abbrev added : List (List ℕ)
  added = set lists s (list_at lists s ++ i ∷ [])

  added_here : list_at added s ≡ list_at lists s ++ i ∷ []
  added_here = get_or-set_same lists s (list_at lists s ++ i ∷ []) [] lt

  added_other : (r : ℕ) → (r ≡ s → ⊥) → list_at added r ≡ list_at lists r
  added_other r ne = get_or-set_other lists s r (list_at lists s ++ i ∷ []) [] ne

  pub add_has : Contains (list_at added s) i
  add_has = subst (λ (xs : List ℕ). Contains xs i) (sym added_here) (Contains-push (list_at lists s) i)

  pub add_keeps : (r j : ℕ) → Contains (list_at lists r) j → Contains (list_at added r) j
  add_keeps r j has = elim (cases_eq r s) [
    | inl e ↦ subst (λ (xs : List ℕ). Contains xs j) (sym (ap (list_at added) e ∙ added_here))
        (Contains-append_left (list_at lists s) (i ∷ []) j (subst (λ (n : ℕ). Contains (list_at lists n) j) e has))
    | inr ne ↦ subst (λ (xs : List ℕ). Contains xs j) (sym (added_other r ne)) has
  ]

  pub add_cases : (r j : ℕ) → Contains (list_at added r) j → Contains (list_at lists r) j ⊎ ((r ≡ s) × (i ≡ j))
  add_cases r j has = elim (cases_eq r s) [
    | inl e ↦ elim (Contains-push_cases (list_at lists s) i j (subst (λ (xs : List ℕ). Contains xs j) (ap (list_at added) e ∙ added_here) has)) [
      | inl was ↦ inl (subst (λ (n : ℕ). Contains (list_at lists n) j) (sym e) was)
      | inr ij ↦ inr (e, ij)
    ]
    | inr ne ↦ inl (subst (λ (xs : List ℕ). Contains xs j) (added_other r ne) has)
  ]

  pub add_apart : (r : ℕ) → IsApart (list_at lists r) → (r ≡ s → Contains (list_at lists r) i → ⊥) → IsApart (list_at added r)
  add_apart r apart none = elim (cases_eq r s) [
    | inl e ↦ subst IsApart (sym (ap (list_at added) e ∙ added_here)) (IsApart-push (list_at lists s) i (subst (λ (n : ℕ). IsApart (list_at lists n)) e apart)
        (λ has. none e (subst (λ (n : ℕ). Contains (list_at lists n) i) (sym e) has)))
    | inr ne ↦ subst IsApart (sym (added_other r ne)) apart
  ]

-- ---- a clause at the end

module _ (clauses : List (List Lit)) (c : List Lit) where
  abbrev more : List (List Lit)
  more = clauses ++ c ∷ []

  pub push_old : (i : ℕ) → i < length clauses → clause_at more i ≡ clause_at clauses i
  push_old i lt = get_or_append_left clauses (c ∷ []) [] i lt

  pub push_new : clause_at more (length clauses) ≡ c
  push_new = get_or-append_seam clauses c [] []

  pub push_cases : (i : ℕ) → i < length more → (i < length clauses) ⊎ (i ≡ length clauses)
  push_cases i lt = elim (cases_lt i (length clauses)) [
    | inl less ↦ inl less
    | inr past ↦ let len = length-append clauses (c ∷ []) in inr (omega (arith, len, lt, past))
  ]

  pub push_all : (P : List Lit → Type 0) → ((i : ℕ) → i < length clauses → P (clause_at clauses i)) → P c → (i : ℕ) → i < length more → P (clause_at more i)
  push_all P old new i lt = elim (push_cases i lt) [
    | inl less ↦ subst P (sym (push_old i less)) (old i less)
    | inr e ↦ subst (λ (n : ℕ). P (clause_at more n)) (sym e) (subst P (sym push_new) new)
  ]

  push_watched : (l : Lit) (i : ℕ) → IsWatched clauses l i → IsWatched more l i
  push_watched l i w = record {
    there = let a = w.there in let len = length-append clauses (c ∷ []) in omega (arith, a, len);
    two = subst (λ (d : List Lit). 2 ≤ length d) (sym (push_old i w.there)) w.two;
    watched = subst (λ (d : List Lit). (at d 0 ≡ l) ⊎ (at d 1 ≡ l)) (sym (push_old i w.there)) w.watched;
  }

  -- a clause of fewer than two literals is in no list
  pub index_short : (vars : ℕ) (lists : List (List ℕ)) → length c < 2 → IsIndex vars clauses lists → IsIndex vars more lists
  index_short vars lists short is = record {
    slots = is.slots;
    complete = λ i lt two l w. elim (push_cases i lt) [
      | inl less ↦ is.complete i less (subst (λ (d : List Lit). 2 ≤ length d) (push_old i less) two) l
          (subst (λ (d : List Lit). (at d 0 ≡ l) ⊎ (at d 1 ≡ l)) (push_old i less) w)
      | inr e ↦
          let a : clause_at more i ≡ c = ap (clause_at more) e ∙ push_new in
          let b : 2 ≤ length c = subst (λ (d : List Lit). 2 ≤ length d) a two in absurd (omega (arith, b, short))
    ];
    sound = λ l lv i has. push_watched l i (is.sound l lv i has);
    apart = is.apart;
  }

  -- a clause of two or more is in the lists of the first two
  module _ (vars : ℕ) (lists : List (List ℕ)) (two : 2 ≤ length c) (distinct : IsDistinct same_lit c) (range : InRange vars c)
      (is : IsIndex vars clauses lists) where
    abbrev i : ℕ
    i = length clauses

    abbrev s : ℕ
    s = slot (at c 0)

    abbrev r : ℕ
    r = slot (at c 1)

    abbrev once : List (List ℕ)
    once = set lists s (list_at lists s ++ i ∷ [])

    abbrev twice : List (List ℕ)
    twice = set once r (list_at once r ++ i ∷ [])

    first_in : s < length lists
    first_in = rw is.slots (slot_in (at c 0) vars (range 0 _ (omega (arith, two))))

    second_in : r < length once
    second_in = rw (length-set, is.slots) (slot_in (at c 1) vars (range 1 _ (omega (arith, two))))

    differ : r ≡ s → ⊥
    differ e = distinct_places c 0 1 distinct (omega arith) (omega (arith, two)) (sym (slot_same (at c 1) (at c 0) e))

    absent : (l : Lit) → l.var < vars → Contains (list_at lists (slot l)) i → ⊥
    absent l lv has = let w = is.sound l lv i has in let a = w.there in omega (arith, a)

    new_watch : (l : Lit) → (at c 0 ≡ l) ⊎ (at c 1 ≡ l) → IsWatched more l i
    new_watch l w = record {
      there = let len = length-append clauses (c ∷ []) in omega (arith, len);
      two = subst (λ (d : List Lit). 2 ≤ length d) (sym push_new) two;
      watched = subst (λ (d : List Lit). (at d 0 ≡ l) ⊎ (at d 1 ≡ l)) (sym push_new) w;
    }

    pub index_pushed : IsIndex vars more twice
    index_pushed = record {
      slots = length-set once r _ ∙ length-set lists s _ ∙ is.slots;
      complete = λ j lt two' l w. elim (push_cases j lt) [
        | inl less ↦
            let has = is.complete j less (subst (λ (d : List Lit). 2 ≤ length d) (push_old j less) two') l
            (subst (λ (d : List Lit). (at d 0 ≡ l) ⊎ (at d 1 ≡ l)) (push_old j less) w) in
            add_keeps once r i second_in (slot l) j (add_keeps lists s i first_in (slot l) j has)
        | inr e ↦
            let is' : clause_at more j ≡ c = ap (clause_at more) e ∙ push_new in
            subst (λ (n : ℕ). Contains (list_at twice (slot l)) n) (sym e)
            (elim (subst (λ (d : List Lit). (at d 0 ≡ l) ⊎ (at d 1 ≡ l)) is' w) [
              | inl a ↦ subst (λ (m : Lit). Contains (list_at twice (slot m)) i) a (add_keeps once r i second_in s i (add_has lists s i first_in))
              | inr b ↦ subst (λ (m : Lit). Contains (list_at twice (slot m)) i) b (add_has once r i second_in)
            ])
      ];
      sound = λ l lv j has. elim (add_cases once r i second_in (slot l) j has) [
        | inl one ↦ elim (add_cases lists s i first_in (slot l) j one) [
          | inl was ↦ push_watched l j (is.sound l lv j was)
          | inr (e, ij) ↦ subst (IsWatched more l) ij (new_watch l (inl (sym (slot_same l (at c 0) e))))
        ]
        | inr (e, ij) ↦ subst (IsWatched more l) ij (new_watch l (inr (sym (slot_same l (at c 1) e))))
      ];
      apart = λ l lv. add_apart once r i second_in (slot l)
          (add_apart lists s i first_in (slot l) (is.apart l lv) (λ e. absent l lv))
          (λ e has. elim (add_cases lists s i first_in (slot l) i has) [ inl was ↦ absent l lv was | inr (f, ij) ↦ differ (sym e ∙ f) ]);
    }
