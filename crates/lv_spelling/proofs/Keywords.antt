-- A keyword has one word.
use Rattle.std.proofs.Common.{◌≡◌, ℕ, Bool, true, false, ◌&&◌, if◌then◌else◌, List, [], ◌∷◌, codes, Option, Some, None, refl}
use Rattle.lv_system.specs.Names.{same_text}
use Rattle.lv_grammar.specs.declared.reading.Keyword.{Keyword}
use Rattle.lv_grammar.proofs.SameTexts.{same_is}
use Rattle.lv_grammar.specs.WordKinds.{keyword_of, constant_keyword, connective_keyword, or_else}
use Rattle.lv_grammar.specs.declared.reading.Keyword.TheVariants as K

-- the word of a keyword
abbrev pub keyword_word : Keyword → List ℕ
keyword_word K.True = codes "true"
keyword_word K.False = codes "false"
keyword_word K.Not = codes "not"
keyword_word K.And = codes "and"
keyword_word K.Or = codes "or"
keyword_word K.Implies = codes "implies"
keyword_word K.Iff = codes "iff"
keyword_word K.All = codes "all"
keyword_word K.Some = codes "some"
keyword_word K.Always = codes "always"
keyword_word K.Eventually = codes "eventually"
keyword_word K.Equals = codes "="

abbrev Spells : List ℕ → Option Keyword → Type 0
Spells text None = Unit {0}
Spells text (Some k) = text ≡ keyword_word k

if_same : (text : List ℕ) (k : Keyword) (rest : Option Keyword) → Spells text rest → Spells text (if same_text text (keyword_word k) then Some k else rest)
if_same text k rest others = go (same_text text (keyword_word k)) refl where
  go : (b : Bool) → same_text text (keyword_word k) ≡ b → Spells text (if b then Some k else rest)
  go true e = same_is text (keyword_word k) e
  go false e = others

constants_spell : (text : List ℕ) → Spells text (constant_keyword text)
unfolding constant_keyword
constants_spell text = if_same text K.True _ (if_same text K.False _ (if_same text K.Equals _ (if_same text K.Always _ (if_same text K.Eventually None tt))))

connectives_spell : (text : List ℕ) → Spells text (connective_keyword text)
unfolding connective_keyword
connectives_spell text =
    if_same text K.Not _ (if_same text K.And _ (if_same text K.Or _ (if_same text K.Implies _ (if_same text K.Iff _ (if_same text K.All _ (if_same text K.Some None tt))))))

either : (text : List ℕ) (a b : Option Keyword) → Spells text a → Spells text b → Spells text (or_else a b)
either text None b x y = y
either text (Some k) b x y = x

pub keyword_spells : (text : List ℕ) → Spells text (keyword_of text)
keyword_spells text = either text (constant_keyword text) (connective_keyword text) (constants_spell text) (connectives_spell text)

pub keyword_is : (text : List ℕ) (k : Keyword) → keyword_of text ≡ Some k → text ≡ keyword_word k
keyword_is text k e = rw e at (keyword_spells text)
