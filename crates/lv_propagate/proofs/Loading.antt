-- The clauses that are loaded settle as the given ones do.
use Rattle.std.proofs.Common.{◌≡◌, ℕ, zero, suc, ◌<◌, ◌+◌, ◌*◌, ◌≤◌, Bool, true, false, List, [], ◌∷◌, ◌++◌, refl, sym, ◌∙◌, ap, subst, length, take}
use Rattle.std.proofs.Common.{drop, replicate, Option, None, arith}
use Rattle.std.specs.List.{Contains}
use Rattle.std.proofs.Math.Nat.{mul-le-mul_left}
use Rattle.std.proofs.lemmas.List.{take_more, take-append-drop, length-replicate}
use Rattle.std.proofs.lemmas.List.Elements.{All-append, All-cons, All-nil, All-contains, Contains-push}
use Rattle.lv_cnf.specs.declared.literal.Lit.{Lit}
use Rattle.lv_cnf.specs.Propagation.{IsConsistent, IsSettled, Settles}
use Rattle.lv_cnf.proofs.Logic.{All-left}
use Rattle.lv_cnf.specs.Packed.{clause_at}
use Rattle.lv_propagate.specs.declared.state.State.{State}
use Rattle.lv_watch.specs.Lists.{slot, list_at, IsApart}
use Rattle.lv_watch.specs.Values.{value}
use Rattle.lv_watch.specs.declared.trail.Assigned.{Assigned}
use Rattle.lv_watch.specs.Trail.{HasTrail}
use Rattle.lv_propagate.specs.Repeats.{IsUnrepeated, IsTautology}
use Rattle.lv_propagate.specs.State.{IsState, IsFresh, Adds, SameSettled, Loads}
use Rattle.lv_propagate.specs.Potential.{squares}
use Rattle.lv_propagate.proofs.Repeating.{settled_members, tautology_settled}
use Rattle.lv_watch.proofs.Index.{at_place, contains_none}
use Rattle.lv_propagate.proofs.Given.{refuted}

settles_push : (s : Lit → Bool) (xs : List (List Lit)) (c : List Lit) → Settles s xs → IsSettled s c → Settles s (xs ++ c ∷ [])
settles_push s xs c a b = All-append (IsSettled s) xs (c ∷ []) a (All-cons (IsSettled s) c [] b (All-nil (IsSettled s)))

settles_last : (s : Lit → Bool) (xs : List (List Lit)) (c : List Lit) → Settles s (xs ++ c ∷ []) → IsSettled s c
settles_last s xs c a = All-contains (IsSettled s) (xs ++ c ∷ []) c a (Contains-push xs c)

settles_front : (s : Lit → Bool) (xs ys : List (List Lit)) → Settles s (xs ++ ys) → Settles s xs
settles_front s xs ys a = All-left (IsSettled s) xs ys a

pub same_skip : (ps cs : List (List Lit)) (c : List Lit) → IsTautology c → SameSettled ps cs → SameSettled ps (cs ++ c ∷ [])
same_skip ps cs c taut is = record {
  there = λ s con a. settles_push s cs c (is.there s con a) (tautology_settled s c con taut);
  back = λ s con a. is.back s con (settles_front s cs (c ∷ []) a);
}

pub same_push : (ps cs : List (List Lit)) (p c : List Lit) → ((s : Lit → Bool) → IsConsistent s → IsSettled s p → IsSettled s c) →
    ((s : Lit → Bool) → IsConsistent s → IsSettled s c → IsSettled s p) → SameSettled ps cs → SameSettled (ps ++ p ∷ []) (cs ++ c ∷ [])
same_push ps cs p c to from is = record {
  there = λ s con a. settles_push s cs c (is.there s con (settles_front s ps (p ∷ []) a)) (to s con (settles_last s ps p a));
  back = λ s con a. settles_push s ps p (is.back s con (settles_front s cs (c ∷ []) a)) (from s con (settles_last s cs c a));
}

pub same_pack : (ps cs : List (List Lit)) (p c : List Lit) → IsUnrepeated p c → SameSettled ps cs → SameSettled (ps ++ p ∷ []) (cs ++ c ∷ [])
same_pack ps cs p c pack is = same_push ps cs p c (λ s con a. settled_members s p c pack.members.there a)
    (λ s con a. settled_members s c p pack.members.back a) is

pub squares_push : (cs : List (List Lit)) (c : List Lit) → squares (cs ++ c ∷ []) ≡ squares cs + length c * length c
squares_push [] c = omega arith
squares_push (d ∷ cs) c = let a = squares_push cs c in omega (arith, a)

pub square_le : (m n : ℕ) → m ≤ n → m * m ≤ n * n
square_le m n le = let a = mul-le-mul_left m le in let b = mul-le-mul_left n le in omega (arith, a, b)

-- the clauses so far, and what was packed of them
pub record Loaded (s : State) (cs : List (List Lit)) : Type 0 where
  pub state : IsState s
  pub fresh : IsFresh s
  pub same : SameSettled s.packed cs
  pub short : squares s.packed ≤ squares cs

pub loaded_none : (s : State) → IsState s → IsFresh s → s.packed ≡ [] → Loaded s []
loaded_none s state fresh none = record {
  state = state;
  fresh = fresh;
  same = rw none (record { there = λ s con a. a; back = λ s con a. a });
  short = rw none (omega arith);
}

pub loaded_skip : (s : State) (cs : List (List Lit)) (c : List Lit) → IsTautology c → Loaded s cs → Loaded s (cs ++ c ∷ [])
loaded_skip s cs c taut is = record {
  state = is.state;
  fresh = is.fresh;
  same = same_skip s.packed cs c taut is.same;
  short = let a = is.short in let b = squares_push cs c in omega (arith, a, b);
}

pub loaded_add : (old new : State) (cs : List (List Lit)) (p c : List Lit) → IsUnrepeated p c → Adds old new p true → Loaded old cs → Loaded new (cs ++ c ∷ [])
loaded_add old new cs p c pack adds is = record {
  state = adds.state refl;
  fresh = adds.fresh;
  same = rw adds.clauses (same_pack old.packed cs p c pack is.same);
  short =
      let a = is.short in
      let b = squares_push cs c in
      let d = squares_push old.packed p in
      let e = square_le (length p) (length c) pack.short in
      let f = ap squares adds.clauses in
      omega (arith, a, b, d, e, f);
}

-- a clause whose literals cannot be true
pub loaded_refuted : (old new : State) (cs : List (List Lit)) (i : ℕ) (p : List Lit) → i < length cs → IsUnrepeated p (clause_at cs i) → Adds old new p false →
    Loaded old (take i cs) → Loads new cs false
loaded_refuted old new cs i p lt pack adds is = record {
  fresh = λ t. cc;
  state = λ t. cc;
  same = λ t. cc;
  short = λ t. cc;
  refuted = λ f s con denied settles.
      let same = same_pack old.packed (take i cs) p (clause_at cs i) pack is.same in
      let split : take (i + 1) cs ++ drop (i + 1) cs ≡ cs = take-append-drop (i + 1) cs in
      let upto : Settles s (take (i + 1) cs) = settles_front s (take (i + 1) cs) (drop (i + 1) cs) (subst (Settles s) (sym split) settles) in
      let upto' : Settles s (take i cs ++ clause_at cs i ∷ []) = subst (Settles s) (take_more cs i [] lt) upto in
      refuted new.packed new.trail (length old.packed) adds.fresh.sound
      (λ q has. let k = at_place new.trail.starts.items q has in let a = k.1 in let b = ap length adds.fresh.starts in omega (arith, a, b))
      (adds.conflict refl) s con denied (subst (Settles s) (sym adds.clauses) (same.back s con upto'));
}

pub loaded_all : (s : State) (cs : List (List Lit)) → Loaded s cs → Loads s cs true
loaded_all s cs is = record {
  fresh = λ t. is.fresh;
  state = λ t. is.state;
  same = λ t. is.same;
  short = λ t. is.short;
  refuted = λ f. cc;
}

-- ---- no clause yet

pub state_new : (s : State) (vars : ℕ) → s.packed ≡ [] → s.watches ≡ replicate (2 * vars) [] → s.trail.values.items ≡ replicate vars None →
    s.trail.lits.items ≡ [] → s.trail.starts.items ≡ [] → s.head ≡ 0 → IsState s × IsFresh s
state_new s vars packed watches values lits starts head =
    let size : length s.trail.values.items ≡ vars = ap length values ∙ length-replicate vars None in
    let open' : (v : ℕ) → value s.trail.values.items v ≡ None = λ v. ap (λ (xs : List (Option Assigned)). value xs v) values ∙ all_none vars v in
    let none : (i : ℕ) → i < length s.packed → ⊥ = λ i lt. let a = ap length packed in omega (arith, a, lt) in
    let no_start : (p : ℕ) → Contains s.trail.starts.items p → ⊥ = λ p has. let k = at_place s.trail.starts.items p has in let a = k.1 in
    let b = ap length starts in omega (arith, a, b) in
    let empty : (i : ℕ) → list_at s.watches i ≡ [] = λ i. ap (λ (xs : List (List ℕ)). list_at xs i) watches ∙ all_empty (2 * vars) i in
    let sound : HasTrail s.packed s.trail = record {
      placed = λ i lt. let a = ap length lits in absurd (omega (arith, a, lt));
      back = λ v h e. let z = open' v in cc;
      comes = λ v h e. let z = open' v in cc;
      rising = λ i j ij jl. let a = ap length starts in absurd (omega (arith, a, jl));
      inside = λ i lt. let a = ap length starts in absurd (omega (arith, a, lt));
    } in (
      (
        record {
          range = λ i d lt. absurd (none i lt);
          distinct = λ i lt. absurd (none i lt);
          some = λ i lt. absurd (none i lt);
          index = record {
            slots = ap length watches ∙ length-replicate (2 * vars) [] ∙ ap (λ (n : ℕ). 2 * n) (sym size);
            complete = λ i lt two l w. absurd (none i lt);
            sound = λ l lv i has. absurd (contains_none i (subst (λ (xs : List ℕ). Contains xs i) (empty (slot l)) has));
            apart = λ l lv. subst IsApart (sym (empty (slot l))) (λ j k jk kl e. absurd (omega arith));
          };
          sound = sound;
          units = λ i lt one. absurd (none i lt);
          starts = λ p has. absurd (no_start p has);
        },
        record { head_le = omega (arith, head); pairs = λ i lt two. absurd (none i lt) },
      ),
      record { sound = sound; head = head; starts = starts },
    )
  where
    all_none : (n v : ℕ) → value (replicate n None) v ≡ None
    all_none zero v = refl
    all_none (suc n) zero = refl
    all_none (suc n) (suc v) = all_none n v

    all_empty : (n i : ℕ) → list_at (replicate n []) i ≡ []
    all_empty zero i = refl
    all_empty (suc n) zero = refl
    all_empty (suc n) (suc i) = all_empty n i
