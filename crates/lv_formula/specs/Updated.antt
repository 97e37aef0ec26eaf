-- The structure after updates, all of which read the structure before them.
use Rattle.std.specs.Prelude.{ℕ, Bool, cond, List, [], ◌∷◌, reverse, Option, Some, None}
use Rattle.lv_formula.specs.declared.symbols.Sym.{Sym}
use Rattle.lv_formula.specs.declared.terms.Term.{Term}
use Rattle.lv_formula.specs.declared.update.Update.{Update}
use Rattle.lv_formula.specs.declared.update.Update.TheVariants.{Relation, Constant}
use Rattle.lv_formula.specs.declared.formula.Formula.{Formula}
use Rattle.lv_formula.specs.Symbols.{sym_eq}
use Rattle.lv_formula.specs.Meaning.{Meaning}
use Rattle.lv_formula.specs.Truth.{truth_in, value_of}

-- the body of the relation's update, if there is one
abbrev pub body_in : List Update → Sym → Option Formula
body_in [] sym = None
body_in (Relation s sorts body ∷ us) sym = cond (sym_eq s sym) (Some body) (body_in us sym)
body_in (Constant s term ∷ us) sym = body_in us sym

abbrev pub term_in : List Update → Sym → Option Term
term_in [] sym = None
term_in (Relation s sorts body ∷ us) sym = term_in us sym
term_in (Constant s term ∷ us) sym = cond (sym_eq s sym) (Some term) (term_in us sym)

-- the structure in which each symbol of the table is what its update gives in m
abbrev pub new_holds : Meaning → Sym → Option Formula → List ℕ → Bool
new_holds m sym None tuple = m.holds sym tuple
new_holds m sym (Some body) tuple = truth_in m body (reverse tuple)

abbrev pub new_value : Meaning → Sym → Option Term → ℕ
new_value m sym None = m.value sym
new_value m sym (Some t) = value_of m [] t

abbrev pub updated : Meaning → List Update → Meaning
updated m us = record {
  size = m.size;
  holds = λ sym tuple. new_holds m sym (body_in us sym) tuple;
  value = λ sym. new_value m sym (term_in us sym);
}
