-- The search as a whole.
use Rattle.std.proofs.Common.{◌≡◌, ℕ, ◌+◌, ◌-◌, ◌*◌, ◌^◌, ◌<◌, ◌≤◌, Bool, true, false, not, List, [], ◌∷◌, ◌++◌, inl, inr, refl, sym, ◌∙◌, ap, subst}
use Rattle.std.proofs.Common.{length, get_or, Option, Some, None, arith, length-append, append_assoc}
use Rattle.std.proofs.lemmas.List.{append-nil}
use Rattle.std.specs.Prelude.{map, IsTrue, ◌↔◌}
use Rattle.std.specs.List.{All}
use Rattle.std.specs.List.Sorted.{IsPermutation}
use Rattle.std.proofs.Math.Nat.{mul-le-mul_left, mul-le-mul_right}
use Rattle.std.proofs.lemmas.List.{get_or_default, length-map}
use Rattle.std.proofs.Math.ListN.{get_or-map}
use Rattle.std.proofs.lemmas.List.Elements.{All-contains, All-push, All-nil}
use Rattle.std.proofs.lemmas.List.Sorted.{Contains-permutation, IsPermutation-sym, length_permutation}
use Rattle.lv_cnf.specs.declared.literal.Lit.{Lit}
use Rattle.lv_cnf.specs.Literals.{signed, InRange, IsSatisfiable, Satisfies, IsImplied, assignment_of, literal_truth}
use Rattle.lv_cnf.specs.Propagation.{IsSettled, IsMet, Settles, Follows}
use Rattle.lv_cnf.specs.Logs.{AreNew, AllFollow, IsSpentLog}
use Rattle.lv_cnf.proofs.Logic.{All-left, satisfies_from_met}
use Rattle.lv_cnf.proofs.LogSteps.{AreNew-push, AllFollow-push, log_implied, no_model}
use Rattle.lv_cnf.proofs.Count.{log_below}
use Rattle.lv_cnf.specs.Packed.{clause_at}
use Rattle.lv_watch.specs.declared.trail.Assigned.{Assigned}
use Rattle.lv_propagate.specs.declared.state.State.{State}
use Rattle.lv_watch.specs.Values.{value, is_held, held, before}
use Rattle.lv_watch.specs.Lists.{Permutes}
use Rattle.lv_watch.specs.Trail.{Lengthens}
use Rattle.lv_watch.specs.Watching.{IsWatching}
use Rattle.lv_propagate.specs.State.{IsDone, IsConflict, EndsIn, CostIs, Decides, Loads, SameSettled, paid}
use Rattle.lv_propagate.specs.Potential.{squares}
use Rattle.lv_watch.proofs.Index.{at_place}
use Rattle.lv_watch.proofs.Levels.{held_is}
use Rattle.lv_watch.proofs.Trails.{held_before}
use Rattle.lv_propagate.proofs.Given.{refuted}
use Rattle.lv_propagate.proofs.Repeating.{settled_members}
use Rattle.lv_propagate.proofs.Loading.{same_push, squares_push, square_le}
use Rattle.lv_watch.proofs.Watching.{pairs_settle, AllPairs-same}
use Rattle.lv_watch.proofs.Places.{trail_short}
use Rattle.lv_watch.proofs.Walking.{held-consistent}
use Rattle.lv_propagate.proofs.Potential.{phi_le, squares_permuted}
use Rattle.lv_sat.specs.declared.search.Search.{Search}
use Rattle.lv_sat.specs.Search.{sign, FreeIs, Learns}
use Rattle.lv_sat.specs.declared.solver.Solved.{Solved}
use Rattle.lv_cnf.specs.declared.clause.Clauses.{Clauses}
use Rattle.lv_sat.specs.Verdict.{IsModel, EndingIs, SolvedIs, most_reads}

settled_permuted : (s : Lit → Bool) (c d : List Lit) → IsPermutation c d → IsSettled s c → IsSettled s d
settled_permuted s c d p is = settled_members s c d (λ l has. Contains-permutation c d l p has) is

settles_permuted : (s : Lit → Bool) (cs ds : List (List Lit)) → length ds ≡ length cs → ((i : ℕ) → IsPermutation (clause_at cs i) (clause_at ds i)) →
    Settles s cs → Settles s ds
settles_permuted s cs ds len each is i d lt =
    subst (IsSettled s) (get_or_default ds i [] d lt) (settled_permuted s (clause_at cs i) (clause_at ds i) (each i) (is i [] (rw (← len) lt)))

pub same_permuted : (ps qs cs : List (List Lit)) → Permutes ps qs → SameSettled ps cs → SameSettled qs cs
same_permuted ps qs cs p is = record {
  there = λ s con a. is.there s con (settles_permuted s qs ps (sym p.count) (λ i. IsPermutation-sym (clause_at ps i) (clause_at qs i) (p.each i)) a);
  back = λ s con a. settles_permuted s ps qs p.count p.each (is.back s con a);
}

-- the clauses that were packed stand for the given ones and the log
pub record Sound (vars : ℕ) (clauses : List (List Lit)) (s : Search) : Type 0 where
  pub watching : IsWatching s.state.packed s.state.watches s.state.trail
  pub size : length s.state.trail.values.items ≡ vars
  pub same : SameSettled s.state.packed (clauses ++ s.log.items)
  pub range : All (InRange vars) s.log.items
  pub follows : AllFollow clauses s.log.items
  pub new : AreNew clauses s.log.items
  pub short : squares s.state.packed ≤ squares clauses + length s.log.items * vars * vars

pub record Running (vars budget : ℕ) (clauses : List (List Lit)) (s : Search) (base steps : ℕ) : Type 0 where
  pub sound : Sound vars clauses s
  pub done : IsDone s.state.packed s.state.trail s.state.head
  pub room : length s.log.items < budget
  pub cost : steps ≤ base + 2 * length s.log.items * (squares clauses + length s.log.items * vars * vars) + paid s.state

-- after a clause came out false
pub record Stuck (vars budget : ℕ) (clauses : List (List Lit)) (s : Search) (base steps : ℕ) : Type 0 where
  pub sound : Sound vars clauses s
  pub room : length s.log.items < budget
  pub cost : steps ≤ base + most_reads (squares clauses) vars (length s.log.items)
  pub early : steps + (squares clauses + length s.log.items * vars * vars) ≤ base + most_reads (squares clauses) vars (length s.log.items)

abbrev pub work : ℕ → ℕ → Search → ℕ
work vars budget s = (budget - length s.log.items) * (vars + 1) + (vars - length s.state.trail.lits.items)

pub begins : (vars budget : ℕ) (clauses : List (List Lit)) (s : Search) (base : ℕ) → Loads s.state clauses true → length s.state.trail.values.items ≡ vars →
    s.log.items ≡ [] → 0 < budget → Running vars budget clauses s base base
begins vars budget clauses s base loads size none some =
    let e = ap length none in
    record {
      sound = record {
        watching = (loads.state refl).0;
        size = size;
        same = rw (none, append-nil) (loads.same refl);
        range = rw none (All-nil (InRange vars));
        follows = rw none tt;
        new = rw none tt;
        short = let a = loads.short refl in omega (arith, a);
      };
      done = (loads.state refl).1;
      room = omega (arith, e, some);
      cost = omega arith;
    }

module _ (vars budget : ℕ) (clauses : List (List Lit)) (s : Search) (new : State) (base steps later : ℕ) (run : Running vars budget clauses s base steps)
    (watching : IsWatching new.packed new.watches new.trail) (permutes : Permutes s.state.packed new.packed) (longer : Lengthens s.state.trail new.trail) where
  abbrev t : Search
  t = record { state = new; log = s.log }

  abbrev k : ℕ
  k = length s.log.items

  abbrev most : ℕ
  most = squares clauses + k * vars * vars

  sound_later : Sound vars clauses t
  sound_later = record {
    watching = watching;
    size = longer.extends.0 ∙ run.sound.size;
    same = same_permuted s.state.packed new.packed (clauses ++ s.log.items) permutes run.sound.same;
    range = run.sound.range;
    follows = run.sound.follows;
    new = run.sound.new;
    short = let a = run.sound.short in let b = squares_permuted s.state.packed new.packed permutes in omega (arith, a, b);
  }

  pub ran : EndsIn new None → CostIs s.state new steps later None → Running vars budget clauses t base later
  ran ends cost = record {
    sound = sound_later;
    done = ends.0;
    room = run.room;
    cost = let a = run.cost in omega (arith, a, cost);
  }

  pub stuck : (i : ℕ) → CostIs s.state new steps later (Some i) → Stuck vars budget clauses t base later
  stuck i cost =
      let a = run.cost in
      let b = sound_later.short in
      let spent : later ≤ base + 2 * k * most + most = omega (arith, a, b, cost) in
      let whole : most_reads (squares clauses) vars k ≡ 2 * k * most + most + most = two_more k most in
      record {
        sound = sound_later;
        room = run.room;
        cost = omega (arith, spent, whole);
        early = omega (arith, spent, whole);
      }
    where
      two_more : (k m : ℕ) → 2 * (k + 1) * m ≡ 2 * k * m + m + m
      two_more k m = omega arith

-- no assignment satisfies the clauses
pub unsat : (vars budget : ℕ) (clauses : List (List Lit)) (t : Search) (i : ℕ) → Sound vars clauses t → IsConflict t.state.packed t.state.trail i →
    (0 < length t.state.trail.starts.items → ⊥) → IsSatisfiable clauses → ⊥
unsat vars budget clauses t i sound conflict none (a, satisfied) =
    let empty = refuted t.state.packed t.state.trail i sound.watching.sound
    (λ p has. let k = at_place t.state.trail.starts.items p has in let lt = k.1 in none (omega (arith, lt))) conflict in
    no_model a clauses t.log.items sound.follows (λ s con den set'. empty s con den (sound.same.back s con set')) satisfied

pub unsat_at_once : (clauses : List (List Lit)) → Follows clauses [] → IsSatisfiable clauses → ⊥
unsat_at_once clauses empty (a, satisfied) = no_model a clauses [] tt (rw append-nil empty) satisfied

-- a clause is learned
module _ (vars budget : ℕ) (clauses : List (List Lit)) (t u : Search) (base steps later : ℕ) (run : Stuck vars budget clauses t base steps) (is : Learns t u)
    (reads : later ≤ steps + squares t.state.packed) where
  pub one_more : length u.log.items ≡ length t.log.items + 1
  one_more = ap length is.log ∙ length-append t.log.items (is.clause ∷ [])

  pub sound_learned : Sound vars clauses u
  sound_learned =
      let n = length t.state.trail.values.items in
      let size = run.sound.size in
      record {
        watching = is.state.0;
        size = is.size ∙ size;
        same = rw (is.log, is.clauses) (subst (SameSettled (t.state.packed ++ is.packed ∷ [])) (append_assoc clauses t.log.items (is.clause ∷ []))
            (same_push t.state.packed (clauses ++ t.log.items) is.packed is.clause
            (λ s con a. settled_permuted s is.packed is.clause (IsPermutation-sym is.clause is.packed is.permutes) a)
            (λ s con a. settled_permuted s is.clause is.packed is.permutes a) run.sound.same));
        range = rw is.log (All-push (InRange vars) t.log.items is.clause run.sound.range (subst (λ (m : ℕ). InRange m is.clause) size is.range));
        follows = rw is.log (AllFollow-push clauses t.log.items is.clause run.sound.follows
            (λ s con den set'. is.follows s con den (run.sound.same.back s con set')));
        new = rw is.log (AreNew-push clauses t.log.items is.clause run.sound.new (record {
          front = is.new_is.front;
          last = is.new_is.last;
          is = is.new_is.is;
          set = is.new_is.set;
          consistent = is.new_is.consistent;
          denies = is.new_is.denies;
          undecided = is.new_is.undecided;
          settles = run.sound.same.there is.new_is.set is.new_is.consistent is.new_is.settles;
        }));
        short =
            let a = run.sound.short in
            let b = squares_push t.state.packed is.packed in
            let e = ap squares is.clauses in
            let len = length_permutation is.clause is.packed is.permutes in
            let le = is.short in
            let sq = square_le (length is.packed) vars (omega (arith, len, le, size)) in
            let one = one_more in
            let more : length u.log.items * vars * vars ≡ length t.log.items * vars * vars + vars * vars =
            ap (λ (m : ℕ). m * vars * vars) one ∙ next (length t.log.items) vars in
            omega (arith, a, b, e, sq, more);
      }
    where
      next : (k n : ℕ) → (k + 1) * n * n ≡ k * n * n + n * n
      next k n = omega arith

  pub learned_cost : later ≤ base + 2 * length u.log.items * (squares clauses + length u.log.items * vars * vars)
  learned_cost =
      let a = run.early in
      let b = run.sound.short in
      let grown = bound_grows (length t.log.items) (squares clauses) vars in
      let e = ap (λ (m : ℕ). 2 * m * (squares clauses + m * vars * vars)) one_more in
      omega (arith, a, b, reads, grown, e)
    where
      bound_grows : (k q n : ℕ) → 2 * (k + 1) * (q + k * n * n) ≤ 2 * (k + 1) * (q + (k + 1) * n * n)
      bound_grows k q n = mul-le-mul_left (2 * (k + 1)) (omega arith)

  pub learned_running : (length u.log.items ≡ budget → ⊥) → Running vars budget clauses u base later
  learned_running more = record {
    sound = sound_learned;
    done = is.state.1;
    room = let a = run.room in let b = one_more in omega (arith, a, b, more);
    cost = let a = learned_cost in omega (arith, a);
  }

  pub learned_work : (s : Search) → s.log.items ≡ t.log.items → work vars budget u < work vars budget s
  learned_work s same =
      let a = run.room in
      let one = one_more in
      let e = ap length same in
      less (budget - length s.log.items) (budget - length u.log.items) (vars - length u.state.trail.lits.items) (vars - length s.state.trail.lits.items)
      (omega (arith, a, one, e)) (omega arith)
    where
      less : (m n a b : ℕ) → m ≡ n + 1 → a ≤ vars → n * (vars + 1) + a < m * (vars + 1) + b
      less m n a b e le = rw e (omega arith)

-- a variable is decided
module _ (vars budget : ℕ) (clauses : List (List Lit)) (t : Search) (new : State) (base steps var : ℕ) (run : Running vars budget clauses t base steps)
    (is : Decides t.state new var) where
  abbrev decided : Search
  decided = record { state = new; log = t.log }

  pub decided_running : Running vars budget clauses decided base steps
  decided_running = record {
    sound = record {
      watching = is.state.0;
      size = is.size ∙ run.sound.size;
      same = rw is.packed run.sound.same;
      range = run.sound.range;
      follows = run.sound.follows;
      new = run.sound.new;
      short = rw is.packed run.sound.short;
    };
    done = is.state.1;
    room = run.room;
    cost = let a = run.cost in let b = is.paid in omega (arith, a, b);
  }

  -- the trail grows, and never beyond the variables
  pub decided_work : (s : Search) → s.log.items ≡ t.log.items → length s.state.trail.lits.items ≤ length t.state.trail.lits.items →
      work vars budget decided < work vars budget s
  decided_work s same le =
      let e : length s.log.items ≡ length t.log.items = ap length same in
      let one = is.longer in
      let short = trail_short new.packed new.trail is.state.0.sound in
      let size = is.size in
      let size' = run.sound.size in
      rw e (less ((budget - length t.log.items) * (vars + 1)) (vars - length new.trail.lits.items) (vars - length s.state.trail.lits.items)
      (omega (arith, one, short, size, size', le)))
    where
      less : (m a b : ℕ) → a < b → m + a < m + b
      less m a b lt = omega arith

-- every variable has a value and nothing is left to propagate
module _ (values : List (Option Assigned)) (full : (v : ℕ) → v < length values → value values v ≡ None → ⊥) where
  one_sign : (o : Option Assigned) (p : Bool) → (o ≡ None → ⊥) → is_held p o ≡ false → is_held (not p) o ≡ false → ⊥
  one_sign None p some a b = some refl
  one_sign (Some h) p some a b = both h.positive p a b
    where
      both : (x y : Bool) → signed y x ≡ false → signed (not y) x ≡ false → ⊥
      both true true a b = cc
      both true false a b = cc
      both false true a b = cc
      both false false a b = cc

  held_true : (l : Lit) → held values l ≡ true → literal_truth (assignment_of (map sign values)) l ≡ true
  held_true l e =
      let a = held_is l.positive (value values l.var) e in
      let g : assignment_of (map sign values) l.var ≡ sign (value values l.var) = get_or-map sign values l.var None in
      ap (λ (b : Bool). signed l.positive b) (g ∙ ap sign a.1) ∙ a.2

  met : (clause : List Lit) → InRange (length values) clause → IsSettled (held values) clause → IsMet (literal_truth (assignment_of (map sign values))) clause
  met lits range (inl (l, has, e)) = (l, has, held_true l e)
  met lits range (inr (l, m, hl, hm, ne, ul, um)) =
      absurd (one_sign (value values l.var) l.positive (full l.var (All-contains (λ x. x.var < length values) lits l range hl)) ul.0 ul.1)

  pub model : (clauses : List (List Lit)) → All (InRange (length values)) clauses → Settles (held values) clauses →
      Satisfies (assignment_of (map sign values)) clauses
  model clauses range set' = satisfies_from_met (assignment_of (map sign values)) clauses (λ i d lt. met (get_or clauses i d) (range i d lt) (set' i d lt))

pub sat : (vars budget : ℕ) (clauses : List (List Lit)) (t : Search) (signs : List Bool) (base steps : ℕ) → Running vars budget clauses t base steps →
    t.state.head ≡ length t.state.trail.lits.items → FreeIs t.state.trail.values.items None → All (InRange vars) clauses →
    signs ≡ map sign t.state.trail.values.items → IsModel vars clauses signs
sat vars budget clauses t signs base steps run end full range is =
    let V = t.state.trail.values.items in
    let w = run.sound.watching in
    let n = length t.state.trail.lits.items in
    let same : (l : Lit) → before V n l ≡ held V l = held_before t.state.packed V t.state.trail.lits.items t.state.trail.starts.items w.sound in
    let pairs = AllPairs-same (before V n) (held V) (held V) (held V) t.state.packed (λ l. sym (same l)) (λ l. refl) (rw end at run.done.pairs) in
    let settles : Settles (held V) t.state.packed = pairs_settle (held V) t.state.packed w.distinct w.some (λ i lt one. (w.units i lt one).0) pairs in
    let given : Settles (held V) clauses = All-left (IsSettled (held V)) clauses t.log.items (run.sound.same.there (held V) (held-consistent V) settles) in
    rw is (length-map V sign ∙ run.sound.size, model V full clauses (rw run.sound.size range) given)

-- what the log is, whatever the end
pub solved : (clauses : Clauses) (budget : ℕ) (s : Search) (result : Solved) → Sound clauses.vars clauses.list s → length s.log.items ≤ budget →
    result.log ≡ s.log.items → EndingIs clauses budget result.log result.ending → SolvedIs clauses budget result
solved clauses budget s result sound le is ending = record {
  ending = ending;
  at_most = rw is le;
  in_range = rw is sound.range;
  implied = rw is (log_implied clauses.list s.log.items sound.follows);
  new = rw is sound.new;
}

pub none_logged : (clauses : Clauses) (budget : ℕ) (result : Solved) → result.log ≡ [] → EndingIs clauses budget result.log result.ending →
    SolvedIs clauses budget result
none_logged clauses budget result is ending = record {
  ending = ending;
  at_most = rw is (omega arith);
  in_range = rw is (All-nil (InRange clauses.vars));
  implied = rw is (All-nil (IsImplied clauses.list));
  new = rw is tt;
}

-- the reads of a search that ends without a conflict
pub reads_now : (vars budget : ℕ) (clauses : List (List Lit)) (t : Search) (base steps : ℕ) → Running vars budget clauses t base steps →
    steps ≤ base + most_reads (squares clauses) vars (length t.log.items)
reads_now vars budget clauses t base steps run =
    let a = run.cost in
    let b = run.sound.short in
    let c = phi_le (before t.state.trail.values.items t.state.head) t.state.packed in
    let e = two_more (length t.log.items) (squares clauses + length t.log.items * vars * vars) in
    omega (arith, a, b, c, e)
  where
    two_more : (k m : ℕ) → 2 * (k + 1) * m ≡ 2 * k * m + m + m
    two_more k m = omega arith

pub reads_more : (q n k j : ℕ) → j ≡ k + 1 → 2 * j * (q + j * n * n) ≤ most_reads q n j
reads_more q n k j e = grows (q + j * n * n) (2 * j) (2 * (j + 1)) (omega arith)
  where
    grows : (m a b : ℕ) → a ≤ b → a * m ≤ b * m
    grows m a b le = mul-le-mul_right m le

-- a full log is a spent one
pub spent : (clauses : Clauses) (budget : ℕ) (log : List (List Lit)) → length log ≡ budget → All (InRange clauses.vars) log → All (IsImplied clauses.list) log →
    AreNew clauses.list log → IsSpentLog clauses.vars clauses.list budget log × (budget < 3 ^ clauses.vars)
spent clauses budget log full range implied new = (
  record { count = full; in_range = range; implied = implied; new = new },
  subst (λ (n : ℕ). n < 3 ^ clauses.vars) full (log_below clauses.vars clauses.list log range new),
)

pub not_so : (b : Bool) (P : Type 0) → IsTrue b ↔ P → b ≡ false → P → ⊥
not_so b P iff no' p = let t : b ≡ true = iff.1 p in cc

pub so_is : (b : Bool) (P : Type 0) → IsTrue b ↔ P → b ≡ true → P
so_is b P iff is = iff.0 is
