-- The literals of a learned clause.
use Rattle.std.proofs.Common.{◌≡◌, ℕ, zero, suc, ◌+◌, ◌<◌, ◌≤◌, Bool, true, false, List, [], ◌∷◌, ◌++◌, ◌⊎◌, inl, inr, refl, sym, ◌∙◌, ap, subst}
use Rattle.std.proofs.Common.{length, arith, length-append}
use Rattle.std.specs.List.{All, Contains, IsDistinct}
use Rattle.std.proofs.lemmas.List.{get_or_append_left}
use Rattle.std.proofs.lemmas.List.Elements.{All-contains, All-weaker, All-append, All-cons, All-nil, Contains-append_left, Contains-push}
use Rattle.std.proofs.lemmas.Bool.{cases_eq, cases_lt}
use Rattle.lv_cnf.specs.declared.literal.Lit.{Lit}
use Rattle.lv_cnf.specs.Literals.{negated}
use Rattle.lv_cnf.proofs.Logic.{negated-negated, clash}
use Rattle.lv_cnf.specs.Packed.{at}
use Rattle.lv_watch.specs.declared.trail.Trail.{Trail}
use Rattle.lv_watch.specs.Lists.{same_lit}
use Rattle.lv_watch.specs.Trail.{HasTrail}
use Rattle.lv_watch.proofs.Index.{at_place}
use Rattle.lv_watch.proofs.Levels.{same_signs}
use Rattle.lv_propagate.proofs.Repeating.{distinct_push}
use Rattle.lv_watch.proofs.Places.{places_differ}
use Rattle.lv_sat.specs.declared.analysis.Analysis.{Analysis}
use Rattle.lv_sat.specs.declared.analysis.Learned.{Learned}
use Rattle.lv_sat.specs.Analysis.{mark_at, number_of, marked, Resolves, IsNegation, LearnedIs}
use Rattle.lv_sat.proofs.Resolving.{learned_follows, marked_is}

-- the negation of a literal of the trail in that range
abbrev pub IsBetween : Trail → ℕ → ℕ → Lit → Type 0
IsBetween trail place bound m = (i : ℕ) × (place ≤ i) × (i < bound) × (m ≡ negated (at trail.lits.items i))

abbrev pub IsTopFrom : Trail → List Lit → ℕ → ℕ → Type 0
IsTopFrom trail others place bound =
    ((others ≡ []) × (bound ≡ 0)) ⊎ ((q : ℕ) × (place ≤ q) × (bound ≡ q + 1) × (0 < length others) × (at others 0 ≡ negated (at trail.lits.items q)))

-- the marked places from that one on, below the last decision
pub record Collects (trail : Trail) (a : Analysis) (others : List Lit) (bound place : ℕ) : Type 0 where
  pub place_le : place ≤ a.start
  pub bound_le : bound ≤ a.start
  pub each : All (IsBetween trail place bound) others
  pub covers : (i : ℕ) → place ≤ i → i < a.start → mark_at a.marks.items i ≡ true → Contains others (negated (at trail.lits.items i))
  pub distinct : IsDistinct same_lit others
  pub short : length others + place ≤ a.start
  pub top : IsTopFrom trail others place bound

pub collects_none : (trail : Trail) (a : Analysis) → Collects trail a [] 0 a.start
unfolding IsDistinct
collects_none trail a = record {
  place_le = omega arith;
  bound_le = omega arith;
  each = All-nil (IsBetween trail a.start 0);
  covers = λ i le lt. absurd (omega (arith, le, lt));
  distinct = tt;
  short = omega arith;
  top = inl (refl, refl);
}

module _ (trail : Trail) (a : Analysis) (others : List Lit) (bound place below : ℕ) (next : below + 1 ≡ place) (is : Collects trail a others bound place) where
  each_lower : (bound' : ℕ) → bound ≤ bound' → All (IsBetween trail below bound') others
  each_lower bound' le = All-weaker (IsBetween trail place bound) (IsBetween trail below bound')
      (λ m b. (b.0, let x = b.1 in omega (arith, x, next), let x = b.2 in omega (arith, x, le), b.3)) others is.each

  lower : below ≤ a.start
  lower = let x = is.place_le in omega (arith, x, next)

  pub collects_skip : mark_at a.marks.items below ≡ false → Collects trail a others bound below
  collects_skip off = record {
    place_le = lower;
    bound_le = is.bound_le;
    each = each_lower bound (omega arith);
    covers = λ i le lt m. elim (cases_eq i below) [
      | inl e ↦ absurd (clash (mark_at a.marks.items below) (ap (mark_at a.marks.items) (sym e) ∙ m) off)
      | inr ne ↦ is.covers i (omega (arith, le, ne, next)) lt m
    ];
    distinct = is.distinct;
    short = let x = is.short in omega (arith, x, next);
    top = elim is.top [ inl n ↦ inl n | inr (q, le, b, some, first) ↦ inr (q, omega (arith, le, next), b, some, first) ];
  }

  -- a marked place
  module _ (clauses : List (List Lit)) (sound : HasTrail clauses trail) (inside : below < length trail.lits.items)
      (start_le : a.start ≤ length trail.lits.items) where
    abbrev l : Lit
    l = negated (at trail.lits.items below)

    abbrev others' : List Lit
    others' = others ++ l ∷ []

    abbrev bound' : ℕ
    bound' = number_of bound (below + 1)

    bound_cases : ((bound ≡ 0) × (bound' ≡ below + 1)) ⊎ ((0 < bound) × (bound' ≡ bound))
    bound_cases = go bound refl
      where
        go : (b : ℕ) → bound ≡ b → ((bound ≡ 0) × (bound' ≡ below + 1)) ⊎ ((0 < bound) × (bound' ≡ bound))
        go zero e = inl (e, ap (λ (n : ℕ). number_of n (below + 1)) e)
        go (suc b) e = inr (omega (arith, e), ap (λ (n : ℕ). number_of n (below + 1)) e ∙ sym e)

    bound_more : bound ≤ bound'
    bound_more = elim bound_cases [ inl c ↦ let x = c.0 in omega (arith, x) | inr c ↦ let x = c.1 in omega (arith, x) ]

    below_bound : below < bound'
    below_bound = elim bound_cases [
      | inl c ↦ let x = c.1 in omega (arith, x)
      | inr (some, e) ↦ elim is.top [
        | inl n ↦ let x = n.1 in absurd (omega (arith, x, some))
        | inr (q, le, b, full, first) ↦ omega (arith, e, le, b, next)
      ]
    ]

    bound'_le : bound' ≤ a.start
    bound'_le = elim bound_cases [
      | inl c ↦ let x = c.1 in let y = is.place_le in omega (arith, x, y, next)
      | inr c ↦ let x = c.1 in let y = is.bound_le in omega (arith, x, y)
    ]

    absent : Contains others l → ⊥
    absent has =
        let b = All-contains (IsBetween trail place bound) others l is.each has in
        let le = b.1 in
        let lt = b.2 in
        let y = is.bound_le in
        let e : at trail.lits.items below ≡ at trail.lits.items b.0 = sym (negated-negated (at trail.lits.items below)) ∙ ap negated b.3 ∙
        negated-negated (at trail.lits.items b.0) in
        let same = places_differ clauses trail sound below b.0 inside (omega (arith, lt, y, start_le)) (ap (λ (m : Lit). m.var) e) in
        omega (arith, same, le, next)

    pub collects_more : Collects trail a others' bound' below
    collects_more = let len = length-append others (l ∷ []) in record {
      place_le = lower;
      bound_le = bound'_le;
      each = All-append (IsBetween trail below bound') others (l ∷ []) (each_lower bound' bound_more)
          (All-cons (IsBetween trail below bound') l [] (below, omega arith, below_bound, refl) (All-nil (IsBetween trail below bound')));
      covers = λ i le lt m. elim (cases_eq i below) [
        | inl e ↦ subst (λ (n : ℕ). Contains others' (negated (at trail.lits.items n))) (sym e) (Contains-push others l)
        | inr ne ↦ Contains-append_left others (l ∷ []) (negated (at trail.lits.items i)) (is.covers i (omega (arith, le, ne, next)) lt m)
      ];
      distinct = distinct_push others l is.distinct absent;
      short = let x = is.short in omega (arith, x, next, len);
      top = elim is.top [
        | inl n ↦ inr (
          below,
          omega arith,
          elim bound_cases [ inl c ↦ c.1 | inr c ↦ let x = c.0 in let y = n.1 in absurd (omega (arith, x, y)) ],
          omega (arith, len),
          ap (λ (xs : List Lit). at (xs ++ l ∷ []) 0) n.0,
        )
        | inr (q, le, b, some, first) ↦ inr (
          q,
          omega (arith, le, next),
          elim bound_cases [ inl c ↦ let x = c.0 in absurd (omega (arith, x, b)) | inr c ↦ c.1 ∙ b ],
          omega (arith, len),
          get_or_append_left others (l ∷ []) _ 0 some ∙ first,
        )
      ];
    }

pub start_inside : (clauses : List (List Lit)) (trail : Trail) (a : Analysis) → Resolves clauses trail a → a.start < length trail.lits.items
start_inside clauses trail a res =
    let k = at_place trail.starts.items a.start res.of_trail.there in
    let b = res.of_trail.sound.inside k.0 k.1 in
    let e = k.2 in
    omega (arith, b, e)

-- all marked places below the last decision, and the one from there on
pub collects_end : (clauses : List (List Lit)) (trail : Trail) (a : Analysis) (others : List Lit) (bound place : ℕ) (learned : Learned) →
    Resolves clauses trail a →
    Collects trail a others bound place → place ≤ a.first → learned.others.items ≡ others → learned.bound ≡ bound →
    learned.asserted ≡ negated (at trail.lits.items a.lowest) → LearnedIs clauses trail learned
collects_end clauses trail a others bound place learned res is done others_is bound_is asserted_is =
    let inside = start_inside clauses trail a res in
    let low = res.marking.lowest (let x = res.of_trail.size in let y = res.lowest in omega (arith, x, y)) in
    let start_le = low.0 in
    record {
      place = a.lowest;
      inside = res.lowest;
      late = λ p has. let x = res.of_trail.last p has in omega (arith, x, start_le);
      asserted = asserted_is;
      others = rw (others_is, bound_is) (All-weaker (IsBetween trail place bound) (IsNegation trail bound)
          (λ m b. (b.0, b.2, let x = b.2 in let y = is.bound_le in omega (arith, x, y, inside), b.3)) others is.each);
      start = a.start;
      start_in = res.of_trail.there;
      bound_le = rw bound_is is.bound_le;
      top = rw (others_is, bound_is) (elim is.top [ inl n ↦ inl n | inr (q, le, b, some, first) ↦ inr (q, b, some, first) ]);
      distinct = rw others_is is.distinct;
      short = rw others_is (let x = is.short in omega (arith, x, inside));
      follows = rw (others_is, asserted_is) (learned_follows clauses (marked trail.values.items a.marks.items (a.lowest + 1))
          (others ++ negated (at trail.lits.items a.lowest) ∷ [])
          res.refutes (λ l e.
          let m = marked_is trail.values.items a.marks.items (a.lowest + 1) l e in
          let h = m.0 in
          let lt = m.2 in
          let back = res.of_trail.sound.back l.var h m.1 in
          let make : Bool → Lit = λ b. record { var = l.var; positive = b } in
          let l_is : at trail.lits.items h.place ≡ l = back.1 ∙ sym (ap make (same_signs l.positive h.positive m.4)) in
          elim (cases_lt h.place a.start) [
            | inl early ↦
                let above = res.marking.above h.place m.3 in (
                  negated (at trail.lits.items h.place),
                  Contains-append_left others (negated (at trail.lits.items a.lowest) ∷ []) (negated (at trail.lits.items h.place))
                      (is.covers h.place (omega (arith, done, above)) early m.3),
                  negated-negated (at trail.lits.items h.place) ∙ l_is,
                )
            | inr late ↦
                let x = res.marking.low h.place late m.3 in
                let e : h.place ≡ a.lowest = omega (arith, x, lt) in (
                  negated (at trail.lits.items a.lowest),
                  Contains-push others (negated (at trail.lits.items a.lowest)),
                  negated-negated (at trail.lits.items a.lowest) ∙ ap (at trail.lits.items) (sym e) ∙ l_is,
                )
          ]));
    }
