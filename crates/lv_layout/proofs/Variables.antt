-- The variables that are shown.
use Rattle.std.proofs.Common.{◌≡◌, ℕ, suc, ◌-◌, ◌^◌, ◌<◌, ◌≤◌, Bool, true, false, eqb, List, [], ◌∷◌, length, Option, None, Some, refl, subst, arith}
use Rattle.std.specs.Prelude.{decimal, ◌||◌}
use Rattle.std.specs.Str.Parse.{AllDigits}
use Rattle.std.proofs.lemmas.Str.Parse.{digit_from_value}
use Rattle.std.proofs.lemmas.Fmt.{decimal_is_IsNumeral, length-decimal-le, decimal_injective}
use Rattle.std.proofs.lemmas.Bool.{and_parts, eqb-true, eq-eqb, le-leb}
use Rattle.lv_system.specs.Names.{same_text, is_in, is_name_byte, are_name_bytes}
use Rattle.lv_grammar.specs.Words.{Variable, is_variable, variable_number, is_new_variable}
use Rattle.lv_grammar.specs.ShownFormulas.{variable_name}

-- the variables with the names that are shown
abbrev pub shown_variables : List Variable → List Variable
shown_variables [] = []
shown_variables (v ∷ vs) = record { name = variable_name (length vs); sort = v.sort } ∷ shown_variables vs

pub same_text-refl : (a : List ℕ) → same_text a a ≡ true
same_text-refl [] = refl
same_text-refl (b ∷ bs) = rw (eq-eqb b b refl, same_text-refl bs) refl

pub same_text-true : (a b : List ℕ) → same_text a b ≡ true → a ≡ b
same_text-true [] [] e = refl
same_text-true [] (b ∷ bs) e = absurd cc
same_text-true (a ∷ as') [] e = absurd cc
same_text-true (a ∷ as') (b ∷ bs) e =
    let both = and_parts (eqb a b) (same_text as' bs) e in
    let first = eqb-true a b both.0 in
    let rest = same_text-true as' bs both.1 in
    cc

other_name : (j k : ℕ) → j < 2 ^ 64 → k < 2 ^ 64 → (j ≡ k → ⊥) → same_text (variable_name j) (variable_name k) ≡ false
other_name j k lt le differ = go (same_text (variable_name j) (variable_name k)) refl where
  go : (b : Bool) → same_text (variable_name j) (variable_name k) ≡ b → b ≡ false
  go false e = refl
  go true e =
      let p = same_text-true (variable_name j) (variable_name k) e in
      let q : decimal j ≡ decimal k = cc in
      absurd (differ (decimal_injective j k lt le q))

-- a name that is shown is new in the scope of fewer variables
fresh_name : (vs : List Variable) (d : ℕ) → length vs ≤ d → d < 2 ^ 64 → variable_number (shown_variables vs) (variable_name d) ≡ None
fresh_name [] d h k = refl
fresh_name (v ∷ vs) d h k = rw (other_name (length vs) d (omega (arith, h, k)) k (λ e. omega (arith, h, e)), fresh_name vs d (omega (arith, h)) k) refl

pub record Found (vs : List Variable) (i : ℕ) : Type 0 where
  pub below : i < length vs
  pub again : variable_number (shown_variables vs) (variable_name (length vs - 1 - i)) ≡ Some i

-- the variable with a number is shown by the name that has the number
pub find_shown : (vs : List Variable) (text : List ℕ) (i : ℕ) → length vs < 2 ^ 64 → variable_number vs text ≡ Some i → Found vs i
find_shown [] text i lt e = absurd cc
find_shown (v ∷ vs) text i lt e = go (same_text v.name text) refl (variable_number vs text) refl (λ j. find_shown vs text j (omega (arith, lt))) where
  go : (b : Bool) → same_text v.name text ≡ b → (o : Option ℕ) → variable_number vs text ≡ o → ((j : ℕ) → variable_number vs text ≡ Some j → Found vs j) → Found (v ∷ vs) i
  go true b o n h =
      let q : Some 0 ≡ Some i = rw b at e in
      let z : 0 ≡ i = cc in
      let k : suc (length vs) - 1 - 0 ≡ length vs = omega arith in
      subst (λ (j : ℕ). Found (v ∷ vs) j) z (record { below = omega arith; again = rw (k, same_text-refl (variable_name (length vs))) refl })
  go false b None n h = let q : None ≡ Some i = rw (b, n) at e in absurd cc
  go false b (Some j) n h =
      let q : Some (suc j) ≡ Some i = rw (b, n) at e in
      let z : suc j ≡ i = cc in
      let r = h j n in
      let k : suc (length vs) - 1 - suc j ≡ length vs - 1 - j = omega arith in
      let lower : length vs - 1 - j < length vs = omega (arith, r.below) in
      subst (λ (m : ℕ). Found (v ∷ vs) m) z (record { below = omega (arith, r.below); again = rw (k, other_name (length vs) (length vs - 1 - j) (omega (arith, lt)) (omega (arith, lt)) (λ d. omega (arith, d, r.below)), r.again) refl })

name_digits : (ds : List ℕ) → AllDigits 10 ds → are_name_bytes ds ≡ true
name_digits [] a = refl
name_digits (d ∷ ds) a =
    let r = digit_from_value d a.0 in
    rw (digit_stands d (r.0) (r.1), name_digits ds a.1) refl
  where
    digit_stands : (d : ℕ) → 48 ≤ d → d ≤ 57 → is_name_byte d ≡ true
    digit_stands d p q = go (is_in 97 122 d) (is_in 65 90 d) (is_in 48 57 d) (eqb d 95) (eqb d 45) (rw (le-leb 48 d p, le-leb d 57 q) refl) where
      go : (a b c x y : Bool) → c ≡ true → ((((a || b) || c) || x) || y) ≡ true
      go true b c x y h = refl
      go false true c x y h = refl
      go false false c x y h = rw h refl

pub shown_is_variable : (k : ℕ) → k < 2 ^ 64 → is_variable (variable_name k) ≡ true
shown_is_variable k lt =
    let short : length (decimal k) ≤ 20 = length-decimal-le 20 k (omega arith) (omega (arith, lt)) lt in
    rw (name_digits (decimal k) (decimal_is_IsNumeral k lt).0.1, le-leb (length (variable_name k)) 48 (omega (arith, short))) refl

pub shown_is_new : (vs : List Variable) → length vs < 2 ^ 64 → is_new_variable (shown_variables vs) (variable_name (length vs)) ≡ true
shown_is_new vs lt = rw (shown_is_variable (length vs) lt, fresh_name vs (length vs) (omega arith) lt) refl
