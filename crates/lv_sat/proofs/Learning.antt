-- What is learned from a conflict.
use Rattle.std.proofs.Common.{◌≡◌, ℕ, zero, suc, ◌<◌, ◌≤◌, true, List, [], ◌∷◌, ◌++◌, inl, inr, refl, sym, ◌∙◌, ap, subst, length, Option, arith, length-append}
use Rattle.std.specs.List.{Contains}
use Rattle.std.specs.List.Sorted.{IsPermutation}
use Rattle.std.proofs.lemmas.List.Elements.{All-contains, All-weaker, All-append, All-cons, All-nil, Contains-get_or}
use Rattle.std.proofs.lemmas.List.Sorted.{IsPermutation-to_front, All-permutation}
use Rattle.lv_cnf.specs.declared.literal.Lit.{Lit}
use Rattle.lv_cnf.specs.Literals.{negated, InRange}
use Rattle.lv_cnf.specs.Logs.{IsNew}
use Rattle.lv_cnf.proofs.Logic.{negated-negated}
use Rattle.lv_cnf.specs.Packed.{at}
use Rattle.lv_watch.specs.declared.trail.Assigned.{Assigned}
use Rattle.lv_watch.specs.declared.trail.Trail.{Trail}
use Rattle.lv_watch.specs.Values.{value, before}
use Rattle.lv_watch.specs.Trail.{start_at, HasStart}
use Rattle.lv_watch.specs.Watching.{IsWatching}
use Rattle.lv_propagate.specs.State.{Asserts}
use Rattle.lv_watch.proofs.Index.{at_place, distinct_permuted}
use Rattle.lv_watch.proofs.Levels.{before-consistent, above_undecided}
use Rattle.lv_propagate.proofs.Repeating.{distinct_push}
use Rattle.lv_watch.proofs.Places.{place_before, place_after, place_small, places_differ, trail_short}
use Rattle.lv_watch.proofs.Watching.{pairs_settle}
use Rattle.lv_sat.specs.declared.analysis.Learned.{Learned}
use Rattle.lv_sat.specs.Analysis.{IsNegation, LearnedIs, SettlesAtStarts}

-- at each decision the clauses were settled
pub watching_settles : (clauses : List (List Lit)) (lists : List (List ℕ)) (trail : Trail) → IsWatching clauses lists trail → SettlesAtStarts clauses trail
watching_settles clauses lists trail is p has =
    pairs_settle (before trail.values.items p) clauses is.distinct is.some (λ i lt one. (is.units i lt one).1 p has) (is.starts p has)

module _ (clauses : List (List Lit)) (lists : List (List ℕ)) (trail : Trail) (learned : Learned) (w : IsWatching clauses lists trail)
    (is : LearnedIs clauses trail learned) where
  abbrev V : List (Option Assigned)
  V = trail.values.items

  abbrev lits : List Lit
  lits = trail.lits.items

  abbrev others : List Lit
  others = learned.others.items

  abbrev last : Lit
  last = learned.asserted

  abbrev uip : Lit
  uip = at lits is.place

  bound_place : learned.bound ≤ is.place
  bound_place = let a = is.bound_le in let b = is.late is.start is.start_in in omega (arith, a, b)

  other_at : (m : Lit) → Contains others m → IsNegation trail learned.bound m
  other_at m has = All-contains (IsNegation trail learned.bound) others m is.others has

  -- the negation of a negation of a literal of the trail
  other_before : (p : ℕ) → learned.bound ≤ p → (m : Lit) → IsNegation trail learned.bound m → before V p (negated m) ≡ true
  other_before p le m n =
      let lt = n.1 in
      ap (λ (x : Lit). before V p (negated x)) n.3 ∙ ap (before V p) (negated-negated (at lits n.0))
      ∙ place_before clauses trail w.sound n.0 p n.2 (omega (arith, lt, le))

  absent : Contains others last → ⊥
  absent has =
      let n = other_at last has in
      let e : at lits is.place ≡ at lits n.0 =
      sym (negated-negated (at lits is.place)) ∙ ap negated (sym is.asserted ∙ n.3) ∙ negated-negated (at lits n.0) in
      let s = places_differ clauses trail w.sound is.place n.0 is.inside n.2 (ap (λ (m : Lit). m.var) e) in
      let a = n.1 in
      let b = bound_place in
      omega (arith, s, a, b)

  last_small : last.var < length V
  last_small = subst (λ (m : Lit). m.var < length V) (sym is.asserted) (place_small clauses trail w.sound is.place is.inside)

  pub learned_range : InRange (length V) (others ++ last ∷ [])
  learned_range = All-append (λ (m : Lit). m.var < length V) others (last ∷ [])
      (All-weaker (IsNegation trail learned.bound) (λ (m : Lit). m.var < length V)
      (λ m n. subst (λ (x : Lit). x.var < length V) (sym n.3) (place_small clauses trail w.sound n.0 n.2)) others is.others)
      (All-cons (λ (m : Lit). m.var < length V) last [] last_small (All-nil (λ (m : Lit). m.var < length V)))

  pub learned_permutes : IsPermutation (others ++ last ∷ []) (last ∷ others)
  learned_permutes = IsPermutation-to_front others last

  pub learned_short : length (others ++ last ∷ []) ≤ length V
  learned_short = let len = length-append others (last ∷ []) in let a = is.short in let b = trail_short clauses trail w.sound in omega (arith, len, a, b)

  pub learned_new : IsNew clauses (others ++ last ∷ [])
  learned_new =
      let h = w.sound.placed is.place is.inside in
      let late = is.late is.start is.start_in in
      let open' = above_undecided V is.start last h.0
      (ap (λ (m : Lit). value V m.var) is.asserted ∙ h.1) (let a = h.3 in omega (arith, a, late)) in
      record {
        front = others;
        last = last;
        is = refl;
        set = before V is.start;
        consistent = before-consistent V is.start;
        denies = All-weaker (IsNegation trail learned.bound) (λ l. before V is.start (negated l) ≡ true) (other_before is.start is.bound_le) others is.others;
        undecided = open';
        settles = watching_settles clauses lists trail w is.start is.start_in;
      }

  pub learned_start : HasStart trail.starts.items learned.bound
  learned_start =
      let k = at_place trail.starts.items is.start is.start_in in
      let a = is.bound_le in
      let e = k.2 in
      (k.0, k.1, omega (arith, a, e))

  pub learned_asserts : Asserts trail (last ∷ others) learned.bound
  learned_asserts =
      let h = w.sound.placed is.place is.inside in
      let at_end = h.3 in
      record {
        some = omega arith;
        range = All-permutation (λ (m : Lit). m.var < length V) (others ++ last ∷ []) (last ∷ others) learned_permutes learned_range;
        distinct = distinct_permuted (others ++ last ∷ []) (last ∷ others) learned_permutes (distinct_push others last is.distinct absent);
        first = (
          h.0,
          ap (λ (m : Lit). value V m.var) is.asserted ∙ h.1,
          λ i lt. let a = is.late (start_at trail.starts.items i) (Contains-get_or trail.starts.items i 0 lt) in omega (arith, a, at_end),
        );
        others = λ k one lt. other_at_place k one lt;
        second = λ two p lt. elim is.top [
          | inl n ↦ let e = ap length n.0 in absurd (omega (arith, two, e))
          | inr (q, b, some, first) ↦
              let le = is.bound_le in
              let late = is.late is.start is.start_in in
              let inside = is.inside in
              ap (λ (x : Lit). before V p (negated x)) first ∙ ap (before V p) (negated-negated (at lits q))
              ∙ place_after clauses trail w.sound q p (omega (arith, b, le, late, inside)) (omega (arith, b, lt))
        ];
        alone = λ one. elim is.top [ inl n ↦ n.1 | inr (q, b, some, first) ↦ absurd (omega (arith, one, some)) ];
      }
    where
      other_at_place : (k : ℕ) → 1 ≤ k → k < length (last ∷ others) → before V learned.bound (negated (at (last ∷ others) k)) ≡ true
      other_at_place zero one lt = absurd (omega arith)
      other_at_place (suc k) one lt =
          other_before learned.bound (omega arith) (at others k) (other_at (at others k) (Contains-get_or others k _ (omega (arith, lt))))
