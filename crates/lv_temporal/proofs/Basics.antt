-- Booleans, and what is taken over at a number and then kept.
use Rattle.std.proofs.Common.{◌≡◌, ℕ, zero, suc, ◌<◌, Bool, true, false, not, ◌&&◌, ◌||◌, cond, refl, sym, ap, ◌∙◌, arith, inl, inr}
use Rattle.std.proofs.lemmas.Bool.{cases_eq, false≢true}
use Rattle.lv_formula.specs.Truth.{any_below}

-- how a set that gains something grows, beside one that is listed anew
pub gained_or_listed : (b G W D P d q : Bool) → (G ≡ true → W ≡ true) → (G ≡ true → (d || q) ≡ true) → (d ≡ true → (G || D) ≡ true) → (q ≡ true → G ≡ true)
    → (G || cond b W (D || P)) ≡ cond b W ((D || d) || (P || q))
gained_or_listed true true W D P d q h1 h2 h3 h4 = sym (h1 refl)
gained_or_listed true false W D P d q h1 h2 h3 h4 = refl
gained_or_listed false true W true P d q h1 h2 h3 h4 = refl
gained_or_listed false true W false P true q h1 h2 h3 h4 = refl
gained_or_listed false true W false true false q h1 h2 h3 h4 = refl
gained_or_listed false true W false false false q h1 h2 h3 h4 = sym (h2 refl)
gained_or_listed false false W D P d true h1 h2 h3 h4 = absurd (false≢true (h4 refl))
gained_or_listed false false W true P d false h1 h2 h3 h4 = refl
gained_or_listed false false W false P true false h1 h2 h3 h4 = absurd (false≢true (h3 refl))
gained_or_listed false false W false true false false h1 h2 h3 h4 = refl
gained_or_listed false false W false false false false h1 h2 h3 h4 = refl

-- a conjunction is false where the first part makes the second false
pub and_false_if : (a b : Bool) → (a ≡ true → b ≡ false) → (a && b) ≡ false
and_false_if true b h = h refl
and_false_if false b h = refl

-- what is due after a move, and what is still due
pub first_due : (m o d c e g : Bool) → m ≡ true → g ≡ true → e ≡ true → (cond m o d && not c) ≡ (o && (e && not (g && c)))
first_due m o d c e g h1 h2 h3 = rw (h1, h2, h3) refl

-- what is due was due before and is not met now
pub later_due : (m x d c e g o : Bool) → m ≡ false → g ≡ true → d ≡ (o && e) → (cond m x d && not c) ≡ (o && (e && not (g && c)))
later_due m x d c e g o h1 h2 h3 = rw (h1, h2, h3) (regroup o)
  where
    regroup : (o : Bool) → ((o && e) && not c) ≡ (o && (e && not c))
    regroup true = refl
    regroup false = refl

-- what is taken over at f and then kept
pub held : {X : Type 0} (val cur : ℕ → X) (test : ℕ → Bool) (f i : ℕ) → ((k : ℕ) → k < i → val (suc k) ≡ cond (test k) (cur k) (val k)) → f < i → test f ≡ true → ((k : ℕ) → f < k → k < i → test k ≡ false) → val i ≡ cur f
held val cur test f zero step l h g = absurd (omega arith)
held val cur test f (suc i) step l h g = elim (cases_eq f i) [
  | inl e ↦ step i (omega arith) ∙ (ap (λ b. cond b (cur i) (val i)) (ap test (sym e) ∙ h) ∙ ap cur (sym e))
  | inr e ↦ step i (omega arith) ∙ (ap (λ b. cond b (cur i) (val i)) (g i (omega (arith, e)) (omega arith)) ∙ held val cur test f i (λ k m. step k (omega arith)) (omega (arith, e)) h (λ k m n. g k m (omega arith)))
]

-- where the test passes nowhere below n, it passes at no number
pub any_below-none : (n : ℕ) (p : ℕ → Bool) → ((i : ℕ) → i < n → p i ≡ false) → any_below n p ≡ false
any_below-none zero p h = refl
any_below-none (suc n) p h = rw (any_below-none n p (λ i l. h i (omega arith)), h n (omega arith)) refl
