-- The steps of a walk over the clauses that watch a literal.
use Rattle.std.proofs.Common.{◌≡◌, ℕ, ◌<◌, ◌+◌, ◌*◌, ◌≤◌, Bool, true, false, not, cond, List, [], ◌∷◌, ◌++◌, ◌⊎◌, inl, inr, refl, sym, ◌∙◌, ap}
use Rattle.std.proofs.Common.{subst, length, get_or, set, take, drop, Option, Some, None, arith}
use Rattle.std.specs.List.{Contains}
use Rattle.std.specs.List.Sorted.{IsPermutation}
use Rattle.std.proofs.lemmas.List.{take_more, take-append-drop, get_or-set_other, get_or-set_same}
use Rattle.std.proofs.lemmas.List.Sorted.{IsPermutation-trans, All-permutation, length_permutation}
use Rattle.std.proofs.lemmas.List.Elements.{All-contains, Contains-get_or}
use Rattle.std.proofs.lemmas.Bool.{cases_eq}
use Rattle.lv_cnf.specs.declared.literal.Lit.{Lit}
use Rattle.lv_cnf.specs.Literals.{negated, InRange, signed}
use Rattle.lv_cnf.specs.Propagation.{IsConsistent}
use Rattle.lv_watch.specs.declared.trail.Assigned.{Assigned}
use Rattle.lv_watch.specs.declared.visit.Visit.{Visit}
use Rattle.lv_watch.specs.declared.visit.Visit.TheVariants.{Kept, Moved, Unit as UnitAt, Conflict}
use Rattle.lv_watch.proofs.Pairs.{pair_turned, pair_moved, pair_apart, pair_kept, pair_shifted}
use Rattle.lv_watch.specs.Values.{value, is_held, held}
use Rattle.lv_cnf.specs.Packed.{at, clause_at}
use Rattle.lv_watch.specs.Visit.{VisitIs, IsFalse, Pair, IsOther}
use Rattle.lv_watch.specs.Lists.{slot, IsApart, IsWatched, Permutes, lengths_at, Within, AllPairs, Propagates, PairsNow}
use Rattle.lv_watch.proofs.Passing.{Walks, IsComplete, HasNoTwins, IsPassed, ReachesAll}

lengths_at-append : (clauses : List (List Lit)) (xs ys : List ℕ) → lengths_at clauses (xs ++ ys) ≡ lengths_at clauses xs + lengths_at clauses ys
lengths_at-append clauses [] ys = omega arith
lengths_at-append clauses (x ∷ xs) ys = let a = lengths_at-append clauses xs ys in omega arith

pub lengths_at_more : (clauses : List (List Lit)) (list : List ℕ) (i : ℕ) → i < length list →
    lengths_at clauses (take (i + 1) list) ≡ lengths_at clauses (take i list) + length (clause_at clauses (get_or list i 0))
lengths_at_more clauses list i lt =
    let a = ap (lengths_at clauses) (take_more list i 0 lt) in
    let b = lengths_at-append clauses (take i list) (get_or list i 0 ∷ []) in
    omega (arith, a, b)

pub lengths_at_front : (clauses : List (List Lit)) (list : List ℕ) (i : ℕ) → lengths_at clauses (take i list) ≤ lengths_at clauses list
lengths_at_front clauses list i =
    let a = ap (lengths_at clauses) (take-append-drop i list) in
    let b = lengths_at-append clauses (take i list) (drop i list) in
    omega (arith, a, b)

other_sign_not : (a b : Bool) → signed a b ≡ true → signed (not a) b ≡ false
other_sign_not true true e = refl
other_sign_not true false e = cc
other_sign_not false true e = cc
other_sign_not false false e = refl

is_held-not : (p : Bool) (o : Option Assigned) → is_held p o ≡ true → is_held (not p) o ≡ false
is_held-not p None e = cc
is_held-not p (Some h) e = other_sign_not p h.positive e

pub held-consistent : (values : List (Option Assigned)) → IsConsistent (held values)
held-consistent values l e = is_held-not l.positive (value values l.var) e

-- the pair of the clause that was looked at
visit_pair : (old new : List (List Lit)) (values : List (Option Assigned)) (i : ℕ) (gone : Lit) (outcome : Visit) (s t : Lit → Bool) →
    VisitIs old new values i gone outcome → IsFalse values gone → 2 ≤ length (clause_at new i) → Within s (held values) → Within t (held values) →
    Pair s t (clause_at old i) → Pair s t (clause_at new i)
visit_pair old new values i gone Kept s t visit f two ins int pair = pair_turned (clause_at old i) (clause_at new i) gone visit.other s t
    visit.outcome_is.0 pair
visit_pair old new values i gone (Moved l) s t visit f two ins int pair =
    pair_moved (clause_at old i) (clause_at new i) gone visit.other s t (held values) (held-consistent values) ins int f
    (subst (λ (x : Lit). held values (negated x) ≡ false) (sym visit.outcome_is.0) visit.outcome_is.1) pair
visit_pair old new values i gone (UnitAt l) s t visit f two ins int pair =
    pair_turned (clause_at old i) (clause_at new i) gone visit.other s t visit.outcome_is.1 pair
visit_pair old new values i gone Conflict s t visit f two ins int pair =
    pair_turned (clause_at old i) (clause_at new i) gone visit.other s t visit.outcome_is.0 pair

pub walks_more : (first old new : List (List Lit)) (values now later : List (Option Assigned)) (gone : Lit) (outcome : Visit) (list : List ℕ)
    (place base read read' : ℕ) →
    Walks first old values now list place base read → place < length list → IsApart list → VisitIs old new now (get_or list place 0) gone outcome →
    read' ≤ read + length (clause_at old (get_or list place 0)) → IsFalse now gone → Within (held now) (held later) →
    Walks first new values later list (place + 1) base read'
walks_more first old new values now later gone outcome list place base read read' so lt apart visit cost f grows =
    let i = get_or list place 0 in
    let more = lengths_at_more first list place lt in
    let same : length (clause_at old i) ≡ length (clause_at first i) = ap length (so.untouched place (omega arith) lt) in
    let was = so.cost in
    record {
      permutes = record {
        count = visit.count ∙ so.permutes.count;
        each = λ j. elim (cases_eq j i) [
          | inl is ↦ subst (λ (n : ℕ). IsPermutation (clause_at first n) (clause_at new n)) (sym is)
              (IsPermutation-trans _ _ _ (so.permutes.each i) visit.permuted)
          | inr ne ↦ subst (IsPermutation (clause_at first j)) (sym (visit.others j ne)) (so.permutes.each j)
        ];
      };
      untouched = λ k le klt.
          let ne : get_or list k 0 ≡ i → ⊥ = λ e. apart place k (omega arith) klt (sym e) in
          visit.others (get_or list k 0) ne ∙ so.untouched k (omega arith) klt;
      cost = omega (arith, more, same, was, cost);
      grown = λ l e. grows l (so.grown l e);
      pairs = λ s t ins int all' j jlt two.
          let before : AllPairs s t old = so.pairs s t ins int all' in
          let jlt' : j < length old = rw (← visit.count) jlt in
          elim (cases_eq j i) [
            | inl is ↦
                let two' : 2 ≤ length (clause_at new i) = subst (λ (n : ℕ). 2 ≤ length (clause_at new n)) is two in
                let len = length_permutation (clause_at old i) (clause_at new i) visit.permuted in
                subst (λ (n : ℕ). Pair s t (clause_at new n)) (sym is)
                (visit_pair old new now i gone outcome s t visit f two' (λ l e. so.grown l (ins l e)) (λ l e. so.grown l (int l e))
                (before i (subst (λ (n : ℕ). n < length old) is jlt') (omega arith)))
            | inr ne ↦
                let two' : 2 ≤ length (clause_at old j) = subst (λ (c : List Lit). 2 ≤ length c) (visit.others j ne) two in
                subst (Pair s t) (sym (visit.others j ne)) (before j jlt' two')
          ];
    }

-- a value for another variable takes no literal away
pub Within-assigned : (values : List (Option Assigned)) (l : Lit) (h : Assigned) → value values l.var ≡ None →
    Within (held values) (held (set values l.var (Some h)))
Within-assigned values l h none x e =
    let ne : x.var ≡ l.var → ⊥ = λ is.
    let z : held values x ≡ false = ap (is_held x.positive) (ap (value values) is ∙ none) in cc in
    ap (is_held x.positive) (get_or-set_other values l.var x.var (Some h) None ne) ∙ e

pub slot_below : (l : Lit) (n : ℕ) → l.var < n → slot l < 2 * n
slot_below l n lt = go l.positive
  where
    go : (b : Bool) → 2 * l.var + cond b 1 0 < 2 * n
    go true = omega arith
    go false = omega arith

pub moved_in_range : (old new : List (List Lit)) (values : List (Option Assigned)) (i : ℕ) (gone l : Lit) (n : ℕ) → VisitIs old new values i gone (Moved l) →
    2 ≤ length (clause_at old i) → InRange n (clause_at old i) → l.var < n
moved_in_range old new values i gone l n visit two range =
    let len = length_permutation (clause_at old i) (clause_at new i) visit.permuted in
    let has : Contains (clause_at new i) (at (clause_at new i) 1) = Contains-get_or (clause_at new i) 1 _ (omega arith) in
    subst (λ (x : Lit). x.var < n) visit.outcome_is.0
    (All-contains (λ x. x.var < n) (clause_at new i) (at (clause_at new i) 1)
    (All-permutation (λ x. x.var < n) (clause_at old i) (clause_at new i) visit.permuted range) has)

-- a literal that came out false stays so when another variable gets a value
pub false_stays : (values : List (Option Assigned)) (gone l : Lit) (h : Assigned) → IsFalse values gone → value values l.var ≡ None →
    IsFalse (set values l.var (Some h)) gone
false_stays values gone l h f none =
    let ne : gone.var ≡ l.var → ⊥ = λ e.
    let z : value values gone.var ≡ None = ap (value values) e ∙ none in
    let y : held values (negated gone) ≡ false = ap (is_held (not gone.positive)) z in cc in
    ap (is_held (not gone.positive)) (get_or-set_other values l.var gone.var (Some h) None ne) ∙ f

-- what a walk that is cut short or done leaves
pub walks_end : (first old : List (List Lit)) (values now : List (Option Assigned)) (list : List ℕ) (place base read : ℕ) →
    Walks first old values now list place base read → read ≤ base + lengths_at first list
walks_end first old values now list place base read so =
    let a = lengths_at_front first list place in let b = so.cost in omega (arith, a, b)

-- the pairs of the clauses that were passed

Pair-more : (s t t' : Lit → Bool) (lits : List Lit) → Within t t' → Pair s t lits → Pair s t' lits
Pair-more s t t' lits w pair = (λ e. w (at lits 1) (pair.0 e), λ e. w (at lits 0) (pair.1 e))

pub other_apart : (lits : List Lit) (gone x : Lit) → IsOther lits gone x → (at lits 0 ≡ at lits 1 → ⊥) → x ≡ gone → ⊥
other_apart lits gone x (inl o) ne e = ne (o.0 ∙ sym e ∙ o.1)
other_apart lits gone x (inr o) ne e = ne (sym o.1 ∙ e ∙ sym o.0)

module _ (old new : List (List Lit)) (now later : List (Option Assigned)) (i : ℕ) (gone : Lit) (s s' : Lit → Bool)
    (more : (l : Lit) → s' l ≡ true → (s l ≡ true) ⊎ (l ≡ negated gone)) (ins : Within s (held now)) (f : IsFalse now gone)
    (grows : Within (held now) (held later)) where
  pub reach_holds : held later (at (clause_at new i) 0) ≡ true → Pair s' (held later) (clause_at new i)
  reach_holds h = pair_kept s s' (held later) (negated gone) gone (held-consistent later) refl more (λ l e. grows l (ins l e)) (grows (negated gone) f)
      (clause_at new i) h

  pub reach_moved : (l : Lit) → VisitIs old new now i gone (Moved l) → (at (clause_at old i) 0 ≡ at (clause_at old i) 1 → ⊥) →
      Pair s (held now) (clause_at old i) → Pair s' (held later) (clause_at new i)
  reach_moved l visit ne pair = Pair-more s' (held now) (held later) (clause_at new i) grows
      (pair_shifted s s' (held now) (negated gone) gone (held-consistent now) refl more ins f (clause_at old i) (clause_at new i) visit.other
      (other_apart (clause_at old i) gone (at (clause_at new i) 0) visit.other ne)
      (subst (λ (x : Lit). held now (negated x) ≡ false) (sym visit.outcome_is.0) visit.outcome_is.1) pair)

pub reaches_none : (values : List (Option Assigned)) (clauses : List (List Lit)) (gone : Lit) (list : List ℕ) → IsFalse values gone →
    IsComplete clauses gone list → ReachesAll values values clauses clauses gone list 0
reaches_none values clauses gone list f complete s s' is = record {
  pairs = λ i lt two passed.
      let off : (at (clause_at clauses i) 0 ≡ gone) ⊎ (at (clause_at clauses i) 1 ≡ gone) → ⊥ = λ w.
      let k = complete i lt two w in passed k.0 (omega arith) k.1 k.2 in
      pair_apart s s' (held values) (negated gone) gone (held-consistent values) refl is.more is.within f (clause_at clauses i)
      (λ e. off (inl e)) (λ e. off (inr e)) (is.pairs i lt two);
}

-- what a look at the clause i does to its pair
abbrev pub Here : List (List Lit) → List (List Lit) → List (List Lit) → List (Option Assigned) → List (Option Assigned) → List (Option Assigned) →
    Lit → ℕ → Type 0
Here first old new values now later gone i = (s s' : Lit → Bool) → Propagates values first gone s s' → Within s (held now) →
    Pair s (held now) (clause_at old i) →
    (at (clause_at old i) 0 ≡ at (clause_at old i) 1 → ⊥) → Pair s' (held later) (clause_at new i)

same_self : (b : Bool) → signed b b ≡ true
same_self true = refl
same_self false = refl

pub held_assigned : (values : List (Option Assigned)) (l : Lit) (h : Assigned) → l.var < length values → h.positive ≡ l.positive →
    held (set values l.var (Some h)) l ≡ true
held_assigned values l h lt e =
    ap (is_held l.positive) (get_or-set_same values l.var (Some h) None lt) ∙ ap (λ (b : Bool). signed l.positive b) e ∙ same_self l.positive

pub reaches_more : (first old new : List (List Lit)) (values now later : List (Option Assigned)) (gone : Lit) (outcome : Visit) (list : List ℕ)
    (place base read : ℕ) →
    Walks first old values now list place base read → place < length list → VisitIs old new now (get_or list place 0) gone outcome →
    Within (held now) (held later) →
    Here first old new values now later gone (get_or list place 0) →
    HasNoTwins first → IsWatched first gone (get_or list place 0) →
    ReachesAll values now first old gone list place → ReachesAll values later first new gone list (place + 1)
reaches_more first old new values now later gone outcome list place base read so lt visit grows here twins watched reaches s s' is = record {
  pairs = λ j jlt two passed.
      let i = get_or list place 0 in
      let same : clause_at old i ≡ clause_at first i = so.untouched place (omega arith) lt in
      elim (cases_eq j i) [
        | inl eq ↦ subst (λ (n : ℕ). Pair s' (held later) (clause_at new n)) (sym eq)
            (here s s' is (λ l e. so.grown l (is.within l e))
            (subst (Pair s (held now)) (sym same) (Pair-more s (held values) (held now) (clause_at first i) so.grown (is.pairs i watched.there watched.two)))
            (subst (λ (c : List Lit). at c 0 ≡ at c 1 → ⊥) (sym same) (twins i watched.there watched.two)))
        | inr ne ↦
            let two' : 2 ≤ length (clause_at old j) = subst (λ (c : List Lit). 2 ≤ length c) (visit.others j ne) two in
            let jlt' : j < length old = rw (← visit.count) jlt in
            let passed' : IsPassed list place j = λ k le klt e. elim (cases_eq k place) [
              | inl at' ↦ ne (sym e ∙ ap (λ (n : ℕ). get_or list n 0) at')
              | inr past ↦ passed k (omega (arith, past)) klt e
            ] in
            Pair-more s' (held now) (held later) (clause_at new j) grows
            (subst (Pair s' (held now)) (sym (visit.others j ne)) ((reaches s s' is).pairs j jlt' two' passed'))
      ];
}

pub reaches_end : (values now : List (Option Assigned)) (first old : List (List Lit)) (gone : Lit) (list : List ℕ) (place : ℕ) → length list ≤ place →
    ReachesAll values now first old gone list place → PairsNow values now first old gone
reaches_end values now first old gone list place le reaches s s' is i lt two =
    (reaches s s' is).pairs i lt two (λ k pl kl e. absurd (omega arith))

pub unit_in_range : (old new : List (List Lit)) (values : List (Option Assigned)) (i : ℕ) (gone l : Lit) (n : ℕ) → VisitIs old new values i gone (UnitAt l) →
    2 ≤ length (clause_at old i) → InRange n (clause_at old i) → l.var < n
unit_in_range old new values i gone l n visit two range =
    let len = length_permutation (clause_at old i) (clause_at new i) visit.permuted in
    let has : Contains (clause_at new i) (at (clause_at new i) 0) = Contains-get_or (clause_at new i) 0 _ (omega arith) in
    subst (λ (x : Lit). x.var < n) visit.outcome_is.0
    (All-contains (λ x. x.var < n) (clause_at new i) (at (clause_at new i) 0)
    (All-permutation (λ x. x.var < n) (clause_at old i) (clause_at new i) visit.permuted range) has)

pub permutes_trans : (first old new : List (List Lit)) → Permutes first old → Permutes old new → Permutes first new
permutes_trans first old new a b = record {
  count = b.count ∙ a.count;
  each = λ i. IsPermutation-trans (clause_at first i) (clause_at old i) (clause_at new i) (a.each i) (b.each i);
}
