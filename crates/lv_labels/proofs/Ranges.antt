-- Tuples over a set.
use Rattle.std.proofs.Common.{◌≡◌, ℕ, suc, Bool, true, ◌&&◌, List, [], ◌∷◌, ◌++◌, length, reverse, refl, ap, ap₂, ◌∙◌}
use Rattle.std.proofs.lemmas.Bool.{and_from, and_parts, false≢true}
use Rattle.std.proofs.lemmas.List.{reverse-append}
use Rattle.lv_formula.specs.declared.symbols.SortId.{SortId}
use Rattle.lv_formula.specs.Tuples.{over}

module _ (set : SortId → ℕ → Bool) where
  -- a tuple over a set is as long as its sorts
  pub over_length : (ss : List SortId) (es : List ℕ) → over set ss es ≡ true → length es ≡ length ss
  over_length [] [] h = refl
  over_length [] (e ∷ es) h = absurd (false≢true h)
  over_length (s ∷ ss) [] h = absurd (false≢true h)
  over_length (s ∷ ss) (e ∷ es) h = ap suc (over_length ss es (and_parts (set s e) (over set ss es) h).1)

  -- two tuples over a set, joined
  pub over_append : (ss ts : List SortId) (es fs : List ℕ) → over set ss es ≡ true → over set ts fs ≡ true → over set (ss ++ ts) (es ++ fs) ≡ true
  over_append [] ts [] fs h k = k
  over_append [] ts (e ∷ es) fs h k = absurd (false≢true h)
  over_append (s ∷ ss) ts [] fs h k = absurd (false≢true h)
  over_append (s ∷ ss) ts (e ∷ es) fs h k = let both = and_parts (set s e) (over set ss es) h in
      and_from (set s e) (over set (ss ++ ts) (es ++ fs)) both.0 (over_append ss ts es fs both.1 k)

  -- a tuple over a set is so too in the other order
  pub over_reverse : (ss : List SortId) (es : List ℕ) → over set ss es ≡ true → over set (reverse ss) (reverse es) ≡ true
  over_reverse [] [] h = refl
  over_reverse [] (e ∷ es) h = absurd (false≢true h)
  over_reverse (s ∷ ss) [] h = absurd (false≢true h)
  over_reverse (s ∷ ss) (e ∷ es) h = let both = and_parts (set s e) (over set ss es) h in
      ap₂ (over set) (reverse-append (s ∷ []) ss) (reverse-append (e ∷ []) es)
      ∙ over_append (reverse ss) (s ∷ []) (reverse es) (e ∷ []) (over_reverse ss es both.1) (and_from (set s e) true both.0 refl)

-- a tuple over a set is over a larger set
pub over_more : (set more : SortId → ℕ → Bool) → ((s : SortId) (e : ℕ) → set s e ≡ true → more s e ≡ true) → (ss : List SortId) (es : List ℕ) → over set ss es ≡ true → over more ss es ≡ true
over_more set more h [] [] k = k
over_more set more h [] (e ∷ es) k = k
over_more set more h (s ∷ ss) [] k = k
over_more set more h (s ∷ ss) (e ∷ es) k = let both = and_parts (set s e) (over set ss es) k in and_from (more s e) (over more ss es) (h s e both.0) (over_more set more h ss es both.1)

-- a tuple is over the one set exactly where it is over an equal one
pub over_same : (set other : SortId → ℕ → Bool) → ((s : SortId) (e : ℕ) → set s e ≡ other s e) → (ss : List SortId) (es : List ℕ) → over set ss es ≡ over other ss es
over_same set other h [] [] = refl
over_same set other h [] (e ∷ es) = refl
over_same set other h (s ∷ ss) [] = refl
over_same set other h (s ∷ ss) (e ∷ es) = ap₂ (λ x y. x && y) (h s e) (over_same set other h ss es)
