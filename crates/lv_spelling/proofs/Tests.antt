-- What tests of numbers and truth values say.
use Rattle.std.proofs.Common.{◌≡◌, ℕ, suc, ◌+◌, ◌≤◌, Bool, true, false, not, leb, ltb, refl, arith}
use Rattle.std.proofs.lemmas.Bool.{leb-true}

pub not_false : (b : Bool) → not b ≡ false → b ≡ true
not_false true e = refl
not_false false e = absurd cc

pub not_not : (b : Bool) → not b ≡ true → b ≡ false
not_not false e = refl
not_not true e = absurd cc

pub not_long : (n : ℕ) → leb n 48 ≡ true → ltb 48 n ≡ false
not_long n e = go (ltb 48 n) refl where
  go : (b : Bool) → ltb 48 n ≡ b → b ≡ false
  go false h = refl
  go true h = let x : n ≤ 48 = leb-true n 48 e in let y : suc 48 ≤ n = leb-true (suc 48) n h in absurd (omega (arith, x, y))

pub not_four : (n m : ℕ) → n + suc m ≤ 4 → leb 4 n ≡ false
not_four n m le = go (leb 4 n) refl where
  go : (b : Bool) → leb 4 n ≡ b → b ≡ false
  go false h = refl
  go true h = let x : 4 ≤ n = leb-true 4 n h in absurd (omega (arith, x, le))
