-- When symbols have words, and so can be written.
use Rattle.std.specs.Prelude.{Bool, true, ◌&&◌, List, [], ◌∷◌, map}
use Rattle.lv_tree.specs.Spelling.{is_text}
use Rattle.lv_formula.specs.declared.symbols.Sym.{Sym}
use Rattle.lv_formula.specs.declared.terms.Term.{Term}
use Rattle.lv_formula.specs.declared.terms.Term.TheVariants.{Var, Const}
use Rattle.lv_formula.specs.declared.temporal.Temporal.{Temporal}
use Rattle.lv_formula.specs.declared.temporal.Temporal.TheOpen.{Temporal-F, True, False, Atom, Same, Not, And, Or, Implies, Iff, All, Any, Always, Eventually}
use Rattle.lv_formula.specs.declared.temporal.Temporal.TheFolds.{fold-Temporal}
use Rattle.lv_system.specs.declared.parts.Parts.{Parts}
use Rattle.lv_system.specs.declared.parts.Invariant.{Invariant}
use Rattle.lv_grammar.specs.Words.{sort_name, symbol_word}
use Rattle.lv_grammar.specs.Lifted.{lifted}

-- the symbol's word has 1 to 64 bytes, all of them word bytes
abbrev pub has_word : Parts → Sym → Bool
has_word p sym = is_text (symbol_word p sym)

abbrev pub term_has_word : Parts → Term → Bool
term_has_word p (Var i) = true
term_has_word p (Const sym) = has_word p sym

abbrev pub terms_have_words : Parts → List Term → Bool
terms_have_words p [] = true
terms_have_words p (t ∷ ts) = term_has_word p t && terms_have_words p ts

abbrev pub all_of : List Bool → Bool
all_of [] = true
all_of (b ∷ bs) = b && all_of bs

abbrev pub has_words_step : Parts → Temporal-F Bool → Bool
has_words_step p True = true
has_words_step p False = true
has_words_step p (Atom sym terms) = has_word p sym && terms_have_words p terms
has_words_step p (Same a b) = term_has_word p a && term_has_word p b
has_words_step p (Not f) = f
has_words_step p (And fs) = all_of fs
has_words_step p (Or fs) = all_of fs
has_words_step p (Implies f g) = f && g
has_words_step p (Iff f g) = f && g
has_words_step p (All sort f) = is_text (sort_name p sort) && f
has_words_step p (Any sort f) = is_text (sort_name p sort) && f
has_words_step p (Always f) = f
has_words_step p (Eventually f) = f

-- each symbol and each sort of the formula has a word
abbrev pub has_words : Parts → Temporal → Bool
has_words p = fold-Temporal Bool (has_words_step p)

abbrev pub have_words : Parts → List Temporal → Bool
have_words p fs = all_of (map (has_words p) fs)

-- Each symbol of the invariants has a word. Those of the other formulas have one wherever the parts fit.
abbrev pub invariants_have_words : Parts → List Invariant → Bool
invariants_have_words p [] = true
invariants_have_words p (i ∷ is') = has_words p (lifted i.formula) && invariants_have_words p is'
