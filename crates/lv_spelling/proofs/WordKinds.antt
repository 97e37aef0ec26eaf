-- The kinds of names and of variables.
use Rattle.std.proofs.Common.{◌≡◌, ℕ, ◌≤◌, Bool, true, false, not, ◌&&◌, ◌||◌, if◌then◌else◌, eqb, leb, List, [], ◌∷◌, length, codes, refl, subst, arith}
use Rattle.std.proofs.lemmas.Bool.{leb-true, ne_eqb, eqb-true}
use Rattle.lv_system.specs.Names.{same_text, is_reserved, names_item, names_part, names_connective, names_operator, names_run, is_in, is_name_byte, are_name_bytes, begins_small, is_name}
use Rattle.lv_grammar.specs.Words.{begins_capital, is_variable}
use Rattle.lv_grammar.specs.WordKinds.{family_of, has_dot}
use Rattle.lv_grammar.specs.declared.reading.Family.TheVariants as Fam

pub and_first : (a b : Bool) → (a && b) ≡ true → a ≡ true
and_first true b e = refl
and_first false b e = absurd cc

pub and_second : (a b : Bool) → (a && b) ≡ true → b ≡ true
and_second true b e = e
and_second false b e = absurd cc

pub or_first : (a b : Bool) → (a || b) ≡ false → a ≡ false
or_first false b e = refl
or_first true b e = absurd cc

pub or_second : (a b : Bool) → (a || b) ≡ false → b ≡ false
or_second false b e = e
or_second true b e = absurd cc

-- a dot stands in no name
no_dot_byte : (b : ℕ) → is_name_byte b ≡ true → eqb b 46 ≡ false
no_dot_byte b e = go (eqb b 46) refl where
  go : (c : Bool) → eqb b 46 ≡ c → c ≡ false
  go false h = refl
  go true h = let same : b ≡ 46 = eqb-true b 46 h in let z : is_name_byte 46 ≡ true = subst (λ n. is_name_byte n ≡ true) same e in absurd cc

pub no_dot : (text : List ℕ) → are_name_bytes text ≡ true → has_dot text ≡ false
no_dot [] e = refl
no_dot (b ∷ bs) e = rw (no_dot_byte b (and_first (is_name_byte b) _ e), no_dot bs (and_second (is_name_byte b) _ e)) refl

differs : (b c : ℕ) → b ≤ 90 → 97 ≤ c → eqb b c ≡ false
differs b c le ge = ne_eqb b c (λ e. omega (arith, e, le, ge))

-- no reserved word begins with a capital letter
capital_free : (b : ℕ) (bs : List ℕ) → b ≤ 90 → (is_reserved (b ∷ bs) ≡ false) × (same_text (b ∷ bs) (codes "frozen") ≡ false) × (same_text (b ∷ bs) (codes "saved") ≡ false)
unfolding names_item names_part names_connective names_operator names_run
capital_free b bs le =
    let a = differs b 97 le (omega arith) in
    let c = differs b 99 le (omega arith) in
    let e = differs b 101 le (omega arith) in
    let f = differs b 102 le (omega arith) in
    let g = differs b 103 le (omega arith) in
    let i = differs b 105 le (omega arith) in
    let l = differs b 108 le (omega arith) in
    let n = differs b 110 le (omega arith) in
    let o = differs b 111 le (omega arith) in
    let p = differs b 112 le (omega arith) in
    let r = differs b 114 le (omega arith) in
    let s = differs b 115 le (omega arith) in
    let t = differs b 116 le (omega arith) in
    let u = differs b 117 le (omega arith) in
    let w = differs b 119 le (omega arith) in
    (rw (a, c, e, f, g, i, l, n, o, p, r, s, t, u, w) refl, rw f refl, rw s refl)

capital_not_small : (b : ℕ) → is_in 65 90 b ≡ true → (b ≤ 90) × (is_in 97 122 b ≡ false)
capital_not_small b e =
    let low : b ≤ 90 = leb-true b 90 (and_second (leb 65 b) (leb b 90) e) in
    (low, go (leb 97 b) refl low) where
      go : (c : Bool) → leb 97 b ≡ c → b ≤ 90 → (c && leb b 122) ≡ false
      go false h low = refl
      go true h low = let z : 97 ≤ b = leb-true 97 b h in absurd (omega (arith, z, low))

pub capital_family : (text : List ℕ) → (begins_capital text && are_name_bytes text) ≡ true → family_of text ≡ Fam.Variable
unfolding family_of
capital_family [] e = absurd cc
capital_family (b ∷ bs) e =
    let capital : is_in 65 90 b ≡ true = and_first (is_in 65 90 b) _ e in
    let bytes : are_name_bytes (b ∷ bs) ≡ true = and_second (is_in 65 90 b) _ e in
    let c = capital_not_small b capital in
    let free = capital_free b bs c.0 in
    chain (has_dot (b ∷ bs)) (same_text (b ∷ bs) (codes "frozen")) (same_text (b ∷ bs) (codes "saved")) (is_reserved (b ∷ bs)) (begins_small (b ∷ bs)) (begins_capital (b ∷ bs)) (are_name_bytes (b ∷ bs))
    (no_dot (b ∷ bs) bytes) free.1 free.2 free.0 c.1 capital bytes where
      chain : (d f s r n c a : Bool) → d ≡ false → f ≡ false → s ≡ false → r ≡ false → n ≡ false → c ≡ true → a ≡ true
          → (if d then Fam.Dotted else if f then Fam.Frozen else if s then Fam.Saved else if r then Fam.Other else if n && a then Fam.Name else if c && a then Fam.Variable else Fam.Other) ≡ Fam.Variable
      chain d f s r n c a hd hf hs hr hn hc ha = rw (hd, hf, hs, hr, hn, hc, ha) refl

pub variable_family : (text : List ℕ) → is_variable text ≡ true → family_of text ≡ Fam.Variable
variable_family text e = capital_family text (and_first (begins_capital text && are_name_bytes text) _ e)

pub name_family : (text : List ℕ) → is_name text ≡ true → family_of text ≡ Fam.Name
unfolding family_of names_operator
name_family text e =
    let x : (begins_small text && are_name_bytes text && leb (length text) 48) ≡ true = and_first (begins_small text && are_name_bytes text && leb (length text) 48) _ e in
    let free : is_reserved text ≡ false = not_true (is_reserved text) (and_second (begins_small text && are_name_bytes text && leb (length text) 48) _ e) in
    let y : (begins_small text && are_name_bytes text) ≡ true = and_first (begins_small text && are_name_bytes text) _ x in
    let bytes : are_name_bytes text ≡ true = and_second (begins_small text) _ y in
    let operators : names_operator text ≡ false = or_second _ _ (or_first _ _ free) in
    let saved : same_text text (codes "saved") ≡ false = or_second _ _ operators in
    let frozen : same_text text (codes "frozen") ≡ false = or_second _ _ (or_first _ _ operators) in
    chain (has_dot text) (same_text text (codes "frozen")) (same_text text (codes "saved")) (is_reserved text) (begins_small text && are_name_bytes text) (begins_capital text && are_name_bytes text)
    (no_dot text bytes) frozen saved free y where
      not_true : (b : Bool) → not b ≡ true → b ≡ false
      not_true false h = refl
      not_true true h = absurd cc

      chain : (d f s r n c : Bool) → d ≡ false → f ≡ false → s ≡ false → r ≡ false → n ≡ true
          → (if d then Fam.Dotted else if f then Fam.Frozen else if s then Fam.Saved else if r then Fam.Other else if n then Fam.Name else if c then Fam.Variable else Fam.Other) ≡ Fam.Name
      chain d f s r n c hd hf hs hr hn = rw (hd, hf, hs, hr, hn) refl
