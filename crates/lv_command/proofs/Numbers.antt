-- Numbers within bounds, as the texts that are taken for them.
use Rattle.std.proofs.Common.{◌≡◌, ℕ, ◌<◌, ◌≤◌, Bool, true, false, ◌==◌, List, [], ◌∷◌, refl, arith}
use Rattle.std.specs.Prelude.{pos}
use Rattle.std.specs.Str.Parse.{IsNumeral, starts_with_minus, without_leading_plus}
use Rattle.std.proofs.lemmas.Bool.{eqb-true, ne_eqb}
use Rattle.std.proofs.lemmas.Int.{ints}
use Rattle.std.proofs.lemmas.Str.Parse.{digit_from_value}
use Rattle.clap.specs.Values.{IsSignedIn}
use Rattle.clap.specs.ValueTests.{accepts}
use Rattle.clap.specs.declared.builder.value_parser.ValueParser.TheVariants as parsers
use Rattle.clap.proofs.ValueTestLemmas.{Accepts-accepts, accepts-Accepts}
use Rattle.lv_command.specs.Commands.{IsNumberIn}

abbrev pub IsTakenIn : ℕ → ℕ → List ℕ → Type 0
IsTakenIn low high text = accepts false (parsers.Signed (pos low) (pos high)) text ≡ true

in_range : (low high : ℕ) (text : List ℕ) (minus : Bool) → 1 ≤ low → starts_with_minus text ≡ minus → IsSignedIn (pos low) (pos high) text → IsNumberIn low high text
in_range low high text true some is h =
    let least = rw is at h.2 in
    absurd (omega (arith, ints, some))
in_range low high text false some is h =
    let least = rw is at h.2 in
    let most = rw is at h.3 in
    let digits : IsNumeral 10 (without_leading_plus text) = rw is at h.0 in
    record { digits = digits; least = omega (arith, ints); most = omega (arith, ints) }

-- a text that is taken is a number within the bounds
pub taken_is_number : (low high : ℕ) (text : List ℕ) → 1 ≤ low → IsTakenIn low high text → IsNumberIn low high text
taken_is_number low high text some e = in_range low high text (starts_with_minus text) some refl (accepts-Accepts false (parsers.Signed (pos low) (pos high)) text e)

pub minus_free : (text : List ℕ) → IsNumeral 10 (without_leading_plus text) → starts_with_minus text ≡ false
minus_free [] h = absurd (omega (arith, h.0))
minus_free (d ∷ ds) h = go (d == 45) refl h
  where
    go : (b : Bool) → (d == 45) ≡ b → IsNumeral 10 (without_leading_plus (d ∷ ds)) → b ≡ false
    go false is n = refl
    go true is n =
        let same : d ≡ 45 = eqb-true d 45 is in
        let plus : (d == 43) ≡ false = ne_eqb d 43 (λ e. omega (arith, e, same)) in
        let digits : IsNumeral 10 (d ∷ ds) = rw plus at n in
        absurd (omega (arith, digit_from_value d digits.1.0, same))

-- and each number within the bounds is taken
pub number_is_taken : (low high : ℕ) (text : List ℕ) → high < 9223372036854775808 → IsNumberIn low high text → IsTakenIn low high text
number_is_taken low high text small n =
    let none = minus_free text n.digits in
    let least = n.least in
    let most = n.most in
    let signed : IsSignedIn (pos low) (pos high) text = rw none (n.digits, omega (arith, ints, least, most, small), omega (arith, ints, least, most), omega (arith, ints, least, most)) in
    Accepts-accepts false (parsers.Signed (pos low) (pos high)) text signed
