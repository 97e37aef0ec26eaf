-- The turns of the loop over a section, as the code takes them.
use Rattle.std.proofs.Common.{◌≡◌, ℕ, zero, suc, ◌-◌, ◌<◌, ◌≤◌, true, false, length, get_or, drop, take, List, [], ◌∷◌, ◌++◌, Result, Ok, Err, refl, sym, ap, subst, ◌∙◌, append_assoc, arith}
use Rattle.std.proofs.lemmas.List.{take_all, append-nil}
use Rattle.lv_tree.specs.declared.tree.Tree.{Tree}
use Rattle.lv_fault.specs.declared.fault.Kind.TheVariants.{TooMany}
use Rattle.lv_fault.specs.declared.fault.SyntaxFault.{SyntaxFault}
use Rattle.lv_fault.specs.declared.fault.ReadText.{ReadText}
use Rattle.lv_fault.specs.declared.fault.ReadText.TheVariants.{Refused, Memory}
use Rattle.lv_fault.specs.Given.{Fails, ◌>>=◌, fail, place_of}
use Rattle.lv_grammar.specs.Known.{Known}
use Rattle.lv_grammar.specs.Sections.{Kind, Section, section, behind_items, section_from}
use Rattle.lv_grammar.proofs.Steps.{ok_is, bound}
use Rattle.lv_syntax.specs.SectionsSeen.{read_and_add}

module _ {X : Type 0} (kind : Kind X) (room : ℕ) (k : Known) (done : List X) where
  one_more_room : (n : ℕ) (t : Tree) (ts : List Tree) (x : X) → kind.is t ≡ true → kind.read k t ≡ Ok x
      → section_from kind (suc n) k done (t ∷ ts) ≡ section_from kind n (kind.add k x) (done ++ x ∷ []) ts
  unfolding section
  one_more_room n t ts x is read = rw (is, read) (go (section kind n (kind.add k x) ts)) where
    go : (r : Result (Section X) SyntaxFault)
        → ((r >>= λ s. Ok (record { known = s.known; items = x ∷ s.items; rest = s.rest })) >>= λ s. Ok (behind_items done s)) ≡ (r >>= λ s. Ok (behind_items (done ++ x ∷ []) s))
    go (Ok s) = ap (λ z. Ok (record { known = s.known; items = z; rest = s.rest })) (sym (append_assoc done (x ∷ []) s.items))
    go (Err e) = refl

  pub turn : (t : Tree) (ts : List Tree) (x : X) (e : Known) → kind.is t ≡ true → 0 < room → read_and_add kind k t ≡ Ok (x, e) → section_from kind room k done (t ∷ ts) ≡ section_from kind (room - 1) e (done ++ x ∷ []) ts
  turn t ts x e is lt q =
      let r : room ≡ suc (room - 1) = omega arith in
      let b = bound (kind.read k t) _ (x, e) q in
      let p = ok_is (b.0, kind.add k b.0) (x, e) b.2 in
      ap (λ n. section_from kind n k done (t ∷ ts)) r ∙ (one_more_room (room - 1) t ts b.0 is b.1 ∙ ap (λ (z : X × Known). section_from kind (room - 1) z.1 (done ++ z.0 ∷ []) ts) p)

  fault_in : (n : ℕ) (t : Tree) (ts : List Tree) (e : SyntaxFault) → kind.is t ≡ true → kind.read k t ≡ Err e → section_from kind (suc n) k done (t ∷ ts) ≡ Err e
  unfolding section
  fault_in n t ts e is read = rw (is, read) refl

  pub stop : (t : Tree) (ts : List Tree) (e : ReadText) → kind.is t ≡ true → 0 < room → Fails e (read_and_add kind k t) → Fails e (section_from kind room k done (t ∷ ts))
  stop t ts Memory is lt q = tt
  stop t ts (Refused f) is lt q =
      let r : room ≡ suc (room - 1) = omega arith in
      ap (λ n. section_from kind n k done (t ∷ ts)) r ∙ fault_in (room - 1) t ts f is (unread (kind.read k t) q) where
        unread : (r : Result X SyntaxFault) → ◌>>=◌ {B = X × Known} r (λ x. Ok (x, kind.add k x)) ≡ Err f → r ≡ Err f
        unread (Ok x) h = absurd cc
        unread (Err g) h = let z : g ≡ f = cc in ap Err z

  full_of : (t : Tree) (ts : List Tree) → kind.is t ≡ true → section_from kind zero k done (t ∷ ts) ≡ fail TooMany (place_of t)
  unfolding section
  full_of t ts is = rw is refl

  pub full : (t : Tree) (ts : List Tree) → kind.is t ≡ true → room ≡ 0 → section_from kind room k done (t ∷ ts) ≡ fail TooMany (place_of t)
  full t ts is z = ap (λ n. section_from kind n k done (t ∷ ts)) z ∙ full_of t ts is

  pub other : (t : Tree) (ts : List Tree) → kind.is t ≡ false → section_from kind room k done (t ∷ ts) ≡ Ok (record { known = k; items = done; rest = t ∷ ts })
  unfolding section
  other t ts is = rw is (ap (λ z. Ok (record { known = k; items = z; rest = t ∷ ts })) (append-nil done))

  pub end : section_from kind room k done [] ≡ Ok (record { known = k; items = done; rest = [] })
  unfolding section
  end = ap (λ z. Ok (record { known = k; items = z; rest = [] })) (append-nil done)

  pub end_at : (ts : List Tree) → length ts < 1 → section_from kind room k done ts ≡ Ok (record { known = k; items = done; rest = ts })
  end_at [] lt = end
  end_at (t ∷ ts) lt = absurd (omega (arith, lt))

  -- the rest of a slice behind its first item
  rest_of : (u : Tree) (us : List Tree) → take (length (u ∷ us) - 1) us ≡ us
  rest_of u us = take_all (length (u ∷ us) - 1) us (omega arith)

  pub turn_at : (ts : List Tree) (t : Tree) (x : X) (e : Known) → t ≡ get_or ts 0 t → 1 ≤ length ts → kind.is t ≡ true → (room ≡ 0 → ⊥) → read_and_add kind k t ≡ Ok (x, e)
      → section_from kind room k done ts ≡ section_from kind (room - 1) e (done ++ x ∷ []) (take (length ts - 1) (drop 1 ts))
  turn_at [] t x e first le is some q = absurd (omega (arith, le))
  turn_at (u ∷ us) t x e first le is some q =
      subst (λ z. section_from kind room k done (z ∷ us) ≡ section_from kind (room - 1) e (done ++ x ∷ []) (take (length (u ∷ us) - 1) us)) first
      (turn t us x e is (positive room some) q ∙ ap (section_from kind (room - 1) e (done ++ x ∷ [])) (sym (rest_of u us))) where
        positive : (n : ℕ) → (n ≡ 0 → ⊥) → 0 < n
        positive zero h = absurd (h refl)
        positive (suc n) h = omega arith

-- a section with no items in front
pub nothing_behind : {X : Type 0} (kind : Kind X) (room : ℕ) (k : Known) (ts : List Tree) → section_from kind room k [] ts ≡ section kind room k ts
nothing_behind {X = X} kind room k ts = go (section kind room k ts) where
  go : (r : Result (Section X) SyntaxFault) → (r >>= λ s. Ok (behind_items [] s)) ≡ r
  go (Ok s) = refl
  go (Err e) = refl
