-- What the kind of a word says of its bytes.
use Rattle.std.proofs.Common.{◌≡◌, ℕ, Bool, true, false, ◌&&◌, if◌then◌else◌, leb, ltb, List, codes, refl}
use Rattle.std.proofs.lemmas.Bool.{ltb-false, le-leb}
use Rattle.lv_system.specs.Names.{same_text, is_reserved, are_name_bytes, begins_small}
use Rattle.lv_grammar.specs.Words.{begins_capital}
use Rattle.lv_grammar.specs.declared.reading.Family.{Family}
use Rattle.lv_grammar.specs.WordKinds.{family_of, has_dot}
use Rattle.lv_grammar.proofs.SameTexts.{same_is}
use Rattle.lv_grammar.specs.declared.reading.Family.TheVariants as Fam

-- a name is no reserved word, begins small and has the bytes of names; a variable begins with a capital; the marks have one word
abbrev pub Says : List ℕ → Family → Type 0
Says text Fam.Name = (is_reserved text ≡ false) × ((begins_small text && are_name_bytes text) ≡ true)
Says text Fam.Variable = (begins_capital text && are_name_bytes text) ≡ true
Says text Fam.Frozen = text ≡ codes "frozen"
Says text Fam.Saved = text ≡ codes "saved"
Says text Fam.Dotted = text ≡ text
Says text Fam.Other = text ≡ text

if_family : (text : List ℕ) (b : Bool) (a c : Family) → (b ≡ true → Says text a) → (b ≡ false → Says text c) → Says text (if b then a else c)
if_family text true a c x y = x refl
if_family text false a c x y = y refl

pub family_says : (text : List ℕ) → Says text (family_of text)
unfolding family_of
family_says text =
    if_family text (has_dot text) Fam.Dotted _ (λ e. refl)
    (λ e. if_family text (same_text text (codes "frozen")) Fam.Frozen _ (same_is text (codes "frozen"))
    (λ e. if_family text (same_text text (codes "saved")) Fam.Saved _ (same_is text (codes "saved"))
    (λ e. if_family text (is_reserved text) Fam.Other _ (λ e. refl)
    (λ unreserved. if_family text (begins_small text && are_name_bytes text) Fam.Name _ (λ e. (unreserved, e))
    (λ e. if_family text (begins_capital text && are_name_bytes text) Fam.Variable Fam.Other (λ e. e) (λ e. refl))))))

pub short : (n : ℕ) → ltb 48 n ≡ false → leb n 48 ≡ true
short n e = le-leb n 48 (ltb-false 48 n e)
