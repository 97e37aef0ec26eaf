-- Words of digits and the numbers that they spell.
use Rattle.std.proofs.Common.{◌≡◌, ℕ, ◌+◌, ◌-◌, ◌*◌, ◌<◌, ◌≤◌, ◌^◌, true, List, [], ◌∷◌, length, get_or, drop, refl, sym, ◌∙◌, rules, arith, add-one}
use Rattle.std.proofs.Math.Seq.{drop-cons}
use Rattle.std.specs.Str.{all_ascii_digits}
use Rattle.std.proofs.lemmas.Str.Parse.{IsNumeralModel, digits_value_short, numerals_by_fold}
use Rattle.lv_reading.specs.Numbers.{value_from}

pub own : IsNumeralModel (λ ds. all_ascii_digits ds ≡ true) (value_from 0)
own = numerals_by_fold _ (search rules) value_from (search rules)

-- digits behind a number make it no less
no_less : (n : ℕ) (cs : List ℕ) → n ≤ value_from n cs
no_less n [] = omega arith
no_less n (c ∷ cs) = let more = no_less (10 * n + (c - 48)) cs in omega (arith, more)

pub value_split : (n : ℕ) (text : List ℕ) (i : ℕ) → i < length text → value_from n (drop i text) ≡ value_from (10 * n + (get_or text i 0 - 48)) (drop (i + 1) text)
value_split n text i lt = rw (add-one, drop-cons text i 0 lt) refl

-- with one more digit the number is below 10^9, where there are at most nine digits
pub value_small : (n : ℕ) (text : List ℕ) (i : ℕ) → i < length text → all_ascii_digits text ≡ true → length text ≤ 9
    → value_from n (drop i text) ≡ value_from 0 text → 10 * n + (get_or text i 0 - 48) < 1000000000
value_small n text i lt digits few so_far =
    let all : value_from 0 text < 10 ^ 9 = digits_value_short own text 9 digits few in
    let more = no_less (10 * n + (get_or text i 0 - 48)) (drop (i + 1) text) in
    let e = sym (value_split n text i lt) ∙ so_far in
    omega (arith, all, more, e)
