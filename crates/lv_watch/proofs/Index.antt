-- The lists of watches through a walk.
use Rattle.std.proofs.Common.{◌≡◌, ℕ, ◌<◌, ◌+◌, ◌*◌, ◌≤◌, Bool, true, false, cond, List, [], ◌∷◌, ◌++◌, ◌⊎◌, inl, inr, refl, sym, ◌∙◌, ap, subst}
use Rattle.std.proofs.Common.{length, get_or, set, Option, arith, length-append, eqb, ◌&&◌, false}
use Rattle.std.specs.List.{Contains}
use Rattle.std.proofs.lemmas.List.{get_or-set_same, get_or-set_other, length-set, get_or_append_left, get_or_default}
use Rattle.std.proofs.Math.Seq.{get_or-append_seam}
use Rattle.std.proofs.lemmas.List.Sorted.{length_permutation}
use Rattle.std.proofs.lemmas.List.Elements.{Contains-append_left, Contains-push, Contains-push_cases, Contains-get_or}
use Rattle.std.proofs.lemmas.Bool.{cases_eq, cases_lt, eq-eqb, ne_eqb}
use Rattle.std.proofs.Math.Bool.{beq}
use Rattle.std.specs.List.{IsDistinct}
use Rattle.std.specs.List.Sorted.{IsPermutation}
use Rattle.std.proofs.lemmas.Map.Keys.{apart_from_distinct, IsDistinct-IsPermutation}
use Rattle.lv_cnf.specs.declared.literal.Lit.{Lit}
use Rattle.lv_watch.specs.declared.trail.Assigned.{Assigned}
use Rattle.lv_watch.specs.declared.visit.Visit.{Visit}
use Rattle.lv_cnf.specs.Packed.{at, clause_at}
use Rattle.lv_watch.specs.Visit.{VisitIs}
use Rattle.lv_watch.specs.Lists.{slot, list_at, IsApart, IsWatched, IsWatch, IsIndex, same_lit, AllDistinct, Permutes}
use Rattle.lv_watch.proofs.Passing.{IsIndexBut}
use Rattle.lv_watch.specs.declared.visit.Visit.TheVariants.{Moved}
use Rattle.lv_watch.specs.Visit.{IsFalse}
use Rattle.lv_watch.specs.Values.{held}
use Rattle.lv_cnf.specs.Literals.{negated}
use Rattle.lv_cnf.proofs.Logic.{clash}
use Rattle.lv_watch.proofs.Walking.{other_apart}

two_signs : (a b : ℕ) (p q : Bool) → 2 * a + cond p 1 0 ≡ 2 * b + cond q 1 0 → (a ≡ b) × (p ≡ q)
two_signs a b true true e = (omega arith, refl)
two_signs a b true false e = absurd (omega arith)
two_signs a b false true e = absurd (omega arith)
two_signs a b false false e = (omega arith, refl)

pub slot_same : (l m : Lit) → slot l ≡ slot m → l ≡ m
slot_same l m e =
    let a = two_signs l.var m.var l.positive m.positive e in
    let make : ℕ → Bool → Lit = λ v b. record { var = v; positive = b } in
    ap (λ (v : ℕ). make v l.positive) a.0 ∙ ap (make m.var) a.1

pub slot_in : (l : Lit) (n : ℕ) → l.var < n → slot l < 2 * n
slot_in l n lt = go l.positive
  where
    go : (b : Bool) → 2 * l.var + cond b 1 0 < 2 * n
    go true = omega arith
    go false = omega arith

pub contains_none : (i : ℕ) → Contains [] i → ⊥
contains_none i (k, lt, e) = omega arith

pub at_place : (list : List ℕ) (i : ℕ) → Contains list i → (k : ℕ) × (k < length list) × (get_or list k 0 ≡ i)
at_place list i (k, lt, e) = (k, lt, get_or_default list k 0 i lt ∙ e)

pub IsApart-push : (xs : List ℕ) (y : ℕ) → IsApart xs → (Contains xs y → ⊥) → IsApart (xs ++ y ∷ [])
IsApart-push xs y apart none j k lt kl e =
    let len = length-append xs (y ∷ []) in
    let a : get_or (xs ++ y ∷ []) j 0 ≡ get_or xs j 0 = get_or_append_left xs (y ∷ []) 0 j (omega (arith, len)) in
    elim (cases_lt k (length xs)) [
      | inl less ↦ apart j k lt less (sym a ∙ e ∙ get_or_append_left xs (y ∷ []) 0 k less)
      | inr more ↦
          let last : k ≡ length xs = omega (arith, len) in
          let b : get_or (xs ++ y ∷ []) k 0 ≡ y = ap (λ (n : ℕ). get_or (xs ++ y ∷ []) n 0) last ∙ get_or-append_seam xs y [] 0 in
          let jl : j < length xs = omega (arith, len) in
          none (subst (Contains xs) (sym a ∙ e ∙ b) (Contains-get_or xs j 0 jl))
    ]

-- the list of gone is taken out
pub index_taken : (vars : ℕ) (clauses : List (List Lit)) (lists : List (List ℕ)) (gone : Lit) → gone.var < vars → IsIndex vars clauses lists →
    IsIndexBut vars clauses (set lists (slot gone) []) gone (list_at lists (slot gone)) 0
index_taken vars clauses lists gone in' is =
    let lt : slot gone < length lists = rw is.slots (slot_in gone vars in') in
    let emptied : list_at (set lists (slot gone) []) (slot gone) ≡ [] = get_or-set_same lists (slot gone) [] [] lt in
    let others : (s : ℕ) → (s ≡ slot gone → ⊥) → list_at (set lists (slot gone) []) s ≡ list_at lists s =
    λ s ne. get_or-set_other lists (slot gone) s [] [] ne in
    record {
      slots = length-set lists (slot gone) [] ∙ is.slots;
      complete = λ i il two l w.
          let has = is.complete i il two l w in
          elim (cases_eq (slot l) (slot gone)) [
            | inl e ↦
                let k = at_place (list_at lists (slot gone)) i (subst (λ (s : ℕ). Contains (list_at lists s) i) e has) in
                inr (slot_same l gone e, k.0, omega arith, k.1, k.2)
            | inr ne ↦ inl (subst (λ (xs : List ℕ). Contains xs i) (sym (others (slot l) ne)) has)
          ];
      sound = λ l lv i has. elim (cases_eq (slot l) (slot gone)) [
        | inl e ↦ absurd (contains_none i (subst (λ (xs : List ℕ). Contains xs i) (ap (list_at (set lists (slot gone) [])) e ∙ emptied) has))
        | inr ne ↦ is.sound l lv i (subst (λ (xs : List ℕ). Contains xs i) (others (slot l) ne) has)
      ];
      apart = λ l lv. elim (cases_eq (slot l) (slot gone)) [
        | inl e ↦ subst IsApart (sym (ap (list_at (set lists (slot gone) [])) e ∙ emptied)) (λ j k jk kl same. absurd (omega arith))
        | inr ne ↦ subst IsApart (sym (others (slot l) ne)) (is.apart l lv)
      ];
      fresh = λ i has. absurd (contains_none i (subst (λ (xs : List ℕ). Contains xs i) emptied has));
    }

pub index_done : (vars : ℕ) (clauses : List (List Lit)) (lists : List (List ℕ)) (gone : Lit) (list : List ℕ) (place : ℕ) → length list ≤ place →
    IsIndexBut vars clauses lists gone list place → IsIndex vars clauses lists
index_done vars clauses lists gone list place le is = record {
  slots = is.slots;
  complete = λ i il two l w. elim (is.complete i il two l w) [ inl has ↦ has | inr (e, k, pl, kl, at') ↦ absurd (omega arith) ];
  sound = is.sound;
  apart = is.apart;
}

-- one clause is added to the list of x, which it watches now
module _ (vars : ℕ) (old new : List (List Lit)) (lists : List (List ℕ)) (gone x : Lit) (list : List ℕ) (place i : ℕ)
    (is : IsIndexBut vars old lists gone list place) (lt : place < length list) (here : get_or list place 0 ≡ i) (list_apart : IsApart list)
    (count : length new ≡ length old) (others : (j : ℕ) → (j ≡ i → ⊥) → clause_at new j ≡ clause_at old j)
    (same_length : length (clause_at new i) ≡ length (clause_at old i))
    (watches_x : IsWatch new i x) (watch_new : (l : Lit) → IsWatch new i l → (l ≡ x) ⊎ (IsWatch old i l × (l ≡ gone → ⊥)))
    (watch_old : (l : Lit) → IsWatch old i l → (l ≡ gone) ⊎ IsWatch new i l) (in' : x.var < vars)
    (there : i < length old) (two : 2 ≤ length (clause_at old i))
    (absent : Contains (list_at lists (slot x)) i → ⊥) where
  abbrev later : List (List ℕ)
  later = set lists (slot x) (list_at lists (slot x) ++ i ∷ [])

  in_lists : slot x < length lists
  in_lists = rw is.slots (slot_in x vars in')

  grown : list_at later (slot x) ≡ list_at lists (slot x) ++ i ∷ []
  grown = get_or-set_same lists (slot x) (list_at lists (slot x) ++ i ∷ []) [] in_lists

  beside : (s : ℕ) → (s ≡ slot x → ⊥) → list_at later s ≡ list_at lists s
  beside s ne = get_or-set_other lists (slot x) s (list_at lists (slot x) ++ i ∷ []) [] ne

  still : (s j : ℕ) → Contains (list_at lists s) j → Contains (list_at later s) j
  still s j has = elim (cases_eq s (slot x)) [
    | inl e ↦ subst (λ (xs : List ℕ). Contains xs j) (sym (ap (list_at later) e ∙ grown))
        (Contains-append_left (list_at lists (slot x)) (i ∷ []) j (subst (λ (n : ℕ). Contains (list_at lists n) j) e has))
    | inr ne ↦ subst (λ (xs : List ℕ). Contains xs j) (sym (beside s ne)) has
  ]

  not_in_gone : Contains (list_at lists (slot gone)) i → ⊥
  not_in_gone has = is.fresh i has place (omega arith) lt here

  len_new : 2 ≤ length (clause_at new i)
  len_new = rw same_length two

  there_new : i < length new
  there_new = rw count there

  watched_other : (l : Lit) (j : ℕ) → (j ≡ i → ⊥) → IsWatched old l j → IsWatched new l j
  watched_other l j ne w = record {
    there = rw count w.there;
    two = subst (λ (c : List Lit). 2 ≤ length c) (sym (others j ne)) w.two;
    watched = subst (λ (c : List Lit). (at c 0 ≡ l) ⊎ (at c 1 ≡ l)) (sym (others j ne)) w.watched;
  }

  pub index_more : IsIndexBut vars new later gone list (place + 1)
  index_more = record {
    slots = length-set lists (slot x) (list_at lists (slot x) ++ i ∷ []) ∙ is.slots;
    complete = λ j jl two' l w. elim (cases_eq j i) [
      | inl e ↦ elim (watch_new l (subst (λ (n : ℕ). IsWatch new n l) e w)) [
        | inl lx ↦ inl (subst (λ (n : ℕ). Contains (list_at later (slot l)) n) (sym e)
            (subst (λ (m : Lit). Contains (list_at later (slot m)) i) (sym lx)
            (subst (λ (xs : List ℕ). Contains xs i) (sym grown) (Contains-push (list_at lists (slot x)) i))))
        | inr (w0, ng) ↦ elim (is.complete i there two l w0) [
          | inl has ↦ inl (subst (λ (n : ℕ). Contains (list_at later (slot l)) n) (sym e) (still (slot l) i has))
          | inr r ↦ absurd (ng r.0)
        ]
      ]
      | inr ne ↦
          let jl' : j < length old = rw (← count) jl in
          let two0 : 2 ≤ length (clause_at old j) = subst (λ (c : List Lit). 2 ≤ length c) (others j ne) two' in
          let w0 : IsWatch old j l = subst (λ (c : List Lit). (at c 0 ≡ l) ⊎ (at c 1 ≡ l)) (others j ne) w in
          elim (is.complete j jl' two0 l w0) [
            | inl has ↦ inl (still (slot l) j has)
            | inr (e, k, pl, kl, at') ↦ elim (cases_eq k place) [
              | inl same ↦ absurd (ne (sym at' ∙ ap (λ (n : ℕ). get_or list n 0) same ∙ here))
              | inr past ↦ inr (e, k, omega (arith, past), kl, at')
            ]
          ]
    ];
    sound = λ l lv j has. elim (cases_eq (slot l) (slot x)) [
      | inl e ↦
          let lx : l ≡ x = slot_same l x e in
          elim (Contains-push_cases (list_at lists (slot x)) i j (subst (λ (xs : List ℕ). Contains xs j) (ap (list_at later) e ∙ grown) has)) [
            | inl was ↦
                let ne : j ≡ i → ⊥ = λ ji. absent (subst (Contains (list_at lists (slot x))) ji was) in
                watched_other l j ne (is.sound l lv j (subst (λ (s : ℕ). Contains (list_at lists s) j) (sym e) was))
            | inr ij ↦ subst (IsWatched new l) ij (record { there = there_new; two = len_new; watched = subst (IsWatch new i) (sym lx) watches_x })
          ]
      | inr ne' ↦
          let was : Contains (list_at lists (slot l)) j = subst (λ (xs : List ℕ). Contains xs j) (beside (slot l) ne') has in
          let w = is.sound l lv j was in
          elim (cases_eq j i) [
            | inl ji ↦ elim (watch_old l (subst (λ (n : ℕ). IsWatch old n l) ji w.watched)) [
              | inl lg ↦ absurd (not_in_gone (subst (λ (n : ℕ). Contains (list_at lists (slot gone)) n) ji
                  (subst (λ (m : Lit). Contains (list_at lists (slot m)) j) lg was)))
              | inr w' ↦ subst (IsWatched new l) (sym ji) (record { there = there_new; two = len_new; watched = w' })
            ]
            | inr ne ↦ watched_other l j ne w
          ]
    ];
    apart = λ l lv. elim (cases_eq (slot l) (slot x)) [
      | inl e ↦ subst IsApart (sym (ap (list_at later) e ∙ grown)) (IsApart-push (list_at lists (slot x)) i (is.apart x in') absent)
      | inr ne ↦ subst IsApart (sym (beside (slot l) ne)) (is.apart l lv)
    ];
    fresh = λ j has k pl kl e. elim (cases_eq (slot gone) (slot x)) [
      | inl gx ↦ elim (Contains-push_cases (list_at lists (slot x)) i j (subst (λ (xs : List ℕ). Contains xs j) (ap (list_at later) gx ∙ grown) has)) [
        | inl was ↦ is.fresh j (subst (λ (s : ℕ). Contains (list_at lists s) j) (sym gx) was) k (omega arith) kl e
        | inr ij ↦ list_apart place k (omega arith) kl (here ∙ ij ∙ sym e)
      ]
      | inr ne ↦ is.fresh j (subst (λ (xs : List ℕ). Contains xs j) (beside (slot gone) ne) has) k (omega arith) kl e
    ];
  }

-- after a look at the clause
module _ (vars : ℕ) (old new : List (List Lit)) (lists : List (List ℕ)) (values : List (Option Assigned)) (gone x : Lit) (outcome : Visit)
    (list : List ℕ) (place i : ℕ)
    (is : IsIndexBut vars old lists gone list place) (lt : place < length list) (here : get_or list place 0 ≡ i) (list_apart : IsApart list)
    (visit : VisitIs old new values i gone outcome) (second : at (clause_at new i) 1 ≡ x) (in' : x.var < vars)
    (there : i < length old) (two : 2 ≤ length (clause_at old i)) (twins : at (clause_at old i) 0 ≡ at (clause_at old i) 1 → ⊥)
    (absent : Contains (list_at lists (slot x)) i → ⊥) where
  pub index_visited : IsIndexBut vars new (set lists (slot x) (list_at lists (slot x) ++ i ∷ [])) gone list (place + 1)
  index_visited = index_more vars old new lists gone x list place i is lt here list_apart visit.count visit.others
      (length_permutation (clause_at old i) (clause_at new i) visit.permuted) (inr second)
      (λ l w. elim w [
        | inl e ↦ inr (
          elim visit.other [ inl o ↦ inr (sym o.1 ∙ e) | inr o ↦ inl (sym o.1 ∙ e) ],
          λ lg. other_apart (clause_at old i) gone (at (clause_at new i) 0) visit.other twins (e ∙ lg),
        )
        | inr e ↦ inl (sym e ∙ second)
      ])
      (λ l w. elim visit.other [
        | inl o ↦ elim w [ inl e ↦ inl (sym e ∙ o.0) | inr e ↦ inr (inl (o.1 ∙ e)) ]
        | inr o ↦ elim w [ inl e ↦ inr (inl (o.1 ∙ e)) | inr e ↦ inl (sym e ∙ o.0) ]
      ])
      in' there two absent

-- a clause that is put back unread
pub index_back : (vars : ℕ) (old : List (List Lit)) (lists : List (List ℕ)) (gone : Lit) (list : List ℕ) (place i : ℕ) →
    IsIndexBut vars old lists gone list place → place < length list → get_or list place 0 ≡ i → IsApart list → gone.var < vars →
    IsWatched old gone i → (at (clause_at old i) 0 ≡ at (clause_at old i) 1 → ⊥) →
    IsIndexBut vars old (set lists (slot gone) (list_at lists (slot gone) ++ i ∷ [])) gone list (place + 1)
index_back vars old lists gone list place i is lt here list_apart in' w twins =
    index_more vars old old lists gone gone list place i is lt here list_apart refl (λ j ne. refl) refl w.watched
    (λ l v. elim w.watched [
      | inl g ↦ elim v [ inl e ↦ inl (sym e ∙ g) | inr e ↦ inr (inr e, λ lg. twins (g ∙ sym lg ∙ sym e)) ]
      | inr g ↦ elim v [ inl e ↦ inr (inl e, λ lg. twins (e ∙ lg ∙ sym g)) | inr e ↦ inl (sym e ∙ g) ]
    ])
    (λ l v. inr v) in' w.there w.two (λ has. is.fresh i has place (omega arith) lt here)

-- distinct literals

flip_bool : (a b : Bool) → beq a b ≡ beq b a
flip_bool true true = refl
flip_bool true false = refl
flip_bool false true = refl
flip_bool false false = refl

flips : (a b : Lit) → same_lit a b ≡ same_lit b a
flips a b = ap (λ (x : Bool). x && beq a.positive b.positive) (eqb_comm a.var b.var) ∙ ap (λ (x : Bool). eqb b.var a.var && x) (flip_bool a.positive b.positive)
  where
    eqb_comm : (m n : ℕ) → eqb m n ≡ eqb n m
    eqb_comm m n = elim (cases_eq m n) [
      | inl e ↦ eq-eqb m n e ∙ sym (eq-eqb n m (sym e))
      | inr ne ↦ ne_eqb m n ne ∙ sym (ne_eqb n m (λ e. ne (sym e)))
    ]

same_self : (b : Bool) → beq b b ≡ true
same_self true = refl
same_self false = refl

pub distinct_places : (lits : List Lit) (j k : ℕ) → IsDistinct same_lit lits → j < k → k < length lits → at lits j ≡ at lits k → ⊥
distinct_places lits j k d lt kl e =
    let f : same_lit (at lits j) (at lits k) ≡ false = apart_from_distinct same_lit lits j k _ d lt kl in
    let t : same_lit (at lits j) (at lits k) ≡ true = ap (λ (x : Lit). same_lit x (at lits k)) e
    ∙ ap (λ (x : Bool). x && beq (at lits k).positive (at lits k).positive) (eq-eqb (at lits k).var (at lits k).var refl) ∙ same_self (at lits k).positive in
    cc

pub distinct_permuted : (xs ys : List Lit) → IsPermutation xs ys → IsDistinct same_lit xs → IsDistinct same_lit ys
distinct_permuted xs ys p d = IsDistinct-IsPermutation same_lit flips xs ys p d

-- a moved watch was not in the list of its literal before
pub moved_absent : (old new : List (List Lit)) (lists : List (List ℕ)) (values : List (Option Assigned)) (vars : ℕ) (gone l : Lit) (list : List ℕ)
    (place i : ℕ) →
    IsIndexBut vars old lists gone list place → VisitIs old new values i gone (Moved l) → IsFalse values gone → l.var < vars →
    2 ≤ length (clause_at old i) → IsDistinct same_lit (clause_at old i) → Contains (list_at lists (slot l)) i → ⊥
moved_absent old new lists values vars gone l list place i is visit f lv two d has =
    let w = is.sound l lv i has in
    let len = length_permutation (clause_at old i) (clause_at new i) visit.permuted in
    let two' : 1 < length (clause_at new i) = omega (arith, len, two) in
    let apart01 = distinct_places (clause_at new i) 0 1 (distinct_permuted _ _ visit.permuted d) (omega arith) two' in
    let ng : l ≡ gone → ⊥ = λ e.
    let a : held values (negated gone) ≡ false = subst (λ (x : Lit). held values (negated x) ≡ false) e visit.outcome_is.1 in
    clash (held values (negated gone)) f a in
    let no_first : at (clause_at new i) 0 ≡ l → ⊥ = λ e. apart01 (e ∙ sym visit.outcome_is.0) in
    elim visit.other [
      | inl o ↦ elim w.watched [ inl e ↦ ng (sym e ∙ o.0) | inr e ↦ no_first (o.1 ∙ e) ]
      | inr o ↦ elim w.watched [ inl e ↦ no_first (o.1 ∙ e) | inr e ↦ ng (sym e ∙ o.0) ]
    ]

pub distinct_now : (first old : List (List Lit)) (i : ℕ) → AllDistinct first → Permutes first old → i < length first → IsDistinct same_lit (clause_at old i)
distinct_now first old i d p lt = distinct_permuted (clause_at first i) (clause_at old i) (p.each i) (d i lt)

pub watched_still : (first new : List (List Lit)) (gone : Lit) (j : ℕ) → length new ≡ length first → clause_at new j ≡ clause_at first j →
    IsWatched first gone j → IsWatched new gone j
watched_still first new gone j count same w = record {
  there = rw count w.there;
  two = subst (λ (c : List Lit). 2 ≤ length c) (sym same) w.two;
  watched = subst (λ (c : List Lit). (at c 0 ≡ gone) ⊎ (at c 1 ≡ gone)) (sym same) w.watched;
}
