-- Reading a section is what its grammar says, where that holds of each item.
use Rattle.std.proofs.Common.{◌≡◌, ℕ, zero, suc, Bool, true, false, List, [], ◌∷◌, ◌++◌, Ok, refl, ap, subst, ◌∙◌}
use Rattle.std.specs.Prelude.{◌↔◌}
use Rattle.lv_tree.specs.declared.tree.Tree.{Tree}
use Rattle.lv_grammar.specs.Known.{Known}
use Rattle.lv_grammar.specs.Sections.{Kind, Section, in_front, next_item, section, Spell, none, one, Ends, Spelled}
use Rattle.lv_grammar.proofs.Steps.{ok_is, bound}

module _ {X : Type 0} (kind : Kind X) (Is : Known → X → Tree → Type 0) (agree : (k : Known) (x : X) (t : Tree) → Is k x t ↔ ((kind.is t ≡ true) × (kind.read k t ≡ Ok x))) where
  abbrev Sound : List Tree → Type 0
  Sound ts = (room : ℕ) (k : Known) (s : Section X) → section kind room k ts ≡ Ok s → Spelled Is kind.add kind.is room k ts s

  next_sound : (t : Tree) (ts : List Tree) → Sound ts → (room : ℕ) (k : Known) (s : Section X) (b : Bool) → kind.is t ≡ b → next_item kind room k t ts (λ r d. section kind r d ts) b ≡ Ok s
      → Spelled Is kind.add kind.is room k (t ∷ ts) s
  next_sound t ts rest room k s false h e = subst (λ z. Spelled Is kind.add kind.is room k (t ∷ ts) z) (ok_is _ s e) (record { front = []; whole = refl; items = none; ends = h })
  next_sound t ts rest zero k s true h e = absurd cc
  next_sound t ts rest (suc room) k s true h e =
      let x = bound (kind.read k t) _ s e in
      let r = bound (section kind room (kind.add k x.0) ts) _ s x.2 in
      let more = rest room (kind.add k x.0) r.0 r.1 in
      subst (λ z. Spelled Is kind.add kind.is (suc room) k (t ∷ ts) z) (ok_is (in_front kind x.0 r.0) s r.2)
      (record { front = t ∷ more.front; whole = ap (λ z. t ∷ z) more.whole; items = one ((agree k x.0 t).1 (h, x.1)) more.items; ends = more.ends })

  pub sound : (ts : List Tree) → Sound ts
  unfolding section
  sound [] room k s e = subst (λ z. Spelled Is kind.add kind.is room k [] z) (ok_is _ s e) (record { front = []; whole = refl; items = none; ends = tt })
  sound (t ∷ ts) room k s e = next_sound t ts (sound ts) room k s (kind.is t) refl e

  pub again : (room : ℕ) (k d : Known) (xs : List X) (front rest : List Tree) → Spell Is kind.add room k xs front d → Ends kind.is rest
      → section kind room k (front ++ rest) ≡ Ok (record { known = d; items = xs; rest = rest })
  unfolding section
  again room k d [] front [] none ends = refl
  again room k d [] front (t ∷ ts) none ends = rw ends refl
  again zero k d (x ∷ xs) front rest s ends = elim s [ ]
  again (suc room) k d (x ∷ xs) [] rest s ends = elim s [ ]
  again (suc room) k d (x ∷ xs) (t ∷ front) rest (one is more) ends =
      let a = (agree k x t).0 is in
      rw (a.0, a.1, again room (kind.add k x) d xs front rest more ends) refl

  pub sections_agree : (room : ℕ) (k : Known) (ts : List Tree) (s : Section X) → (section kind room k ts ≡ Ok s) ↔ Spelled Is kind.add kind.is room k ts s
  sections_agree room k ts s = (sound ts room k s, λ z. ap (section kind room k) z.whole ∙ again room k s.known s.items z.front s.rest z.items z.ends)
