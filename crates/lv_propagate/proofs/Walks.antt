-- Propagation through the walk over a watch list, and what it pays.
use Rattle.std.proofs.Common.{◌≡◌, ℕ, suc, ◌<◌, ◌+◌, ◌≤◌, true, List, [], ◌∷◌, inl, inr, refl, sym, ◌∙◌, ap, subst, length}
use Rattle.std.proofs.Common.{arith}
use Rattle.std.specs.Prelude.{slice_index}
use Rattle.std.specs.List.{AllByRecursion, Contains}
use Rattle.std.proofs.lemmas.List.Elements.{Contains-get_or}
use Rattle.std.proofs.lemmas.Bool.{cases_lt}
use Rattle.lv_cnf.specs.declared.literal.Lit.{Lit}
use Rattle.lv_cnf.specs.Literals.{negated}
use Rattle.lv_cnf.proofs.Logic.{negated-negated}
use Rattle.lv_cnf.specs.Packed.{at, clause_at}
use Rattle.lv_watch.specs.declared.trail.Trail.{Trail}
use Rattle.lv_watch.specs.Values.{held, before}
use Rattle.lv_watch.specs.Lists.{slot, list_at, IsApart, IsWatched, Permutes, PairsNow, Propagates, lengths_at}
use Rattle.lv_watch.specs.Trail.{Lengthens}
use Rattle.lv_watch.specs.Watching.{IsWatching}
use Rattle.lv_propagate.specs.State.{IsDone}
use Rattle.lv_propagate.specs.Potential.{potential}
use Rattle.lv_watch.proofs.Levels.{before-extends}
use Rattle.lv_propagate.proofs.Sums.{Apart}
use Rattle.lv_propagate.proofs.Potential.{phi_more, phi_same, phi_permuted}
use Rattle.lv_watch.proofs.Places.{place_small, place_of, place_before, place_after, before_within, before_more}
use Rattle.lv_watch.proofs.Watching.{AllPairs-same}

pub apart_list : (list : List ℕ) → IsApart list → Apart list
apart_list [] a = tt
apart_list (i ∷ is) a = (
  others is (λ k lt e. a 0 (suc k) (omega arith) (omega (arith, lt)) (sym e)),
  apart_list is
      (λ j k jk kl. a (suc j) (suc k) (omega (arith, jk)) (omega (arith, kl))),
)
  where
    others : (js : List ℕ) → ((k : ℕ) → k < length js → slice_index js k ≡ i → ⊥) → AllByRecursion (λ j. j ≡ i → ⊥) js
    others [] h = tt
    others (j ∷ js) h = (h 0 (omega arith), others js (λ k lt. h (suc k) (omega (arith, lt))))

module _ (clauses new : List (List Lit)) (lists : List (List ℕ)) (trail later : Trail) (is : IsWatching clauses lists trail)
    (longer : Lengthens trail later) (permutes : Permutes clauses new)
    (head : ℕ) (gone : Lit) (lt : head < length trail.lits.items) (gone_is : gone ≡ negated (at trail.lits.items head)) where
  before_still : (p : ℕ) → p ≤ length trail.lits.items → (l : Lit) → before later.values.items p l ≡ before trail.values.items p l
  before_still p le l = before-extends (length trail.lits.items) trail.values.items later.values.items longer.extends p le l

  back : negated gone ≡ at trail.lits.items head
  back = ap negated gone_is ∙ negated-negated (at trail.lits.items head)

  pub walked_done : IsDone clauses trail head → PairsNow trail.values.items later.values.items clauses new gone → IsDone new later (head + 1)
  walked_done done pairs =
      let V = trail.values.items in
      let le = longer.longer in
      let sets : Propagates V clauses gone (before V head) (before V (head + 1)) = record {
        within = before_within clauses trail is.sound head;
        more = λ l e.
            let k = place_of clauses trail is.sound (head + 1) l e in
            elim (cases_lt k.0 head) [
              | inl less ↦ inl (subst (λ (m : Lit). before V head m ≡ true) k.3 (place_before clauses trail is.sound k.0 head k.2 less))
              | inr more ↦
                  let last : k.0 ≡ head = let a = k.1 in omega (arith, a, more) in
                  inr (sym k.3 ∙ ap (at trail.lits.items) last ∙ sym back)
            ];
        pairs = done.pairs;
      } in
      record {
        head_le = omega (arith, le, lt);
        pairs = AllPairs-same (before V (head + 1)) (held later.values.items) (before later.values.items (head + 1)) (held later.values.items) new
            (before_still (head + 1) (omega (arith, lt))) (λ l. refl) (pairs (before V head) (before V (head + 1)) sets);
      }

  -- the walk's reads are paid by one more literal that is propagated
  pub walk_paid : potential (before trail.values.items head) clauses + lengths_at clauses (list_at lists (slot gone)) ≤ potential
      (before later.values.items (head + 1)) new
  walk_paid =
      let V = trail.values.items in
      let small : gone.var < length V = subst (λ (l : Lit). l.var < length V) (sym gone_is) (place_small clauses trail is.sound head lt) in
      let list = list_at lists (slot gone) in
      let more = phi_more (before V head) (before V (head + 1)) clauses gone (before_more clauses trail is.sound head (head + 1) (omega arith))
      (ap (before V head) back ∙ place_after clauses trail is.sound head head lt (omega arith))
      (ap (before V (head + 1)) back ∙ place_before clauses trail is.sound head (head + 1) lt (omega arith))
      list (apart_list list (is.index.apart gone small))
      (λ i has. let w = is.index.sound gone small i has in
      (w.there, watched_has i w)) in
      let a = phi_permuted (before later.values.items (head + 1)) clauses new permutes in
      let b = phi_same (before later.values.items (head + 1)) (before V (head + 1)) clauses (before_still (head + 1) (omega (arith, lt))) in
      omega (arith, more, a, b)
    where
      watched_has : (i : ℕ) → IsWatched clauses gone i → Contains (clause_at clauses i) gone
      watched_has i w = elim w.watched [
        | inl e ↦ subst (Contains (clause_at clauses i)) e (Contains-get_or (clause_at clauses i) 0 _ (let t = w.two in omega (arith, t)))
        | inr e ↦ subst (Contains (clause_at clauses i)) e (Contains-get_or (clause_at clauses i) 1 _ (let t = w.two in omega (arith, t)))
      ]
