-- What is true of the witnesses at the start of a labelled run.
use Rattle.std.specs.Prelude.{◌≡◌, ◌<◌, ℕ, true, List, [], ◌∷◌, length, map}
use Rattle.lv_formula.specs.declared.symbols.Sym.TheVariants.{Witness}
use Rattle.lv_formula.specs.declared.terms.Term.TheVariants.{Const}
use Rattle.lv_formula.specs.declared.formula.Formula.{Formula}
use Rattle.lv_formula.specs.declared.formula.Formula.TheVariants.{Implies, Any}
use Rattle.lv_formula.specs.Meaning.{Meaning}
use Rattle.lv_formula.specs.Truth.{truth_in}
use Rattle.lv_rewrite.specs.Instantiate.{instantiate_of}
use Rattle.lv_system.specs.declared.parts.WitnessDecl.{WitnessDecl}
use Rattle.lv_labels.specs.declared.key.Key.{Key}
use Rattle.lv_labels.specs.Closing.{numbered}
use Rattle.lv_labels.specs.Problem.{Choice, Problem, choice_at, choice_of}

abbrev pub read_choices : List Key → List WitnessDecl → List Choice
read_choices table = map (choice_of table)

-- if the formula is true of any element, it is true of the witness
abbrev pub choice_sentence : ℕ → Choice → Formula
choice_sentence k c = Implies (Any c.sort c.body) (instantiate_of (Const (Witness k) ∷ []) c.body)

abbrev pub choice_sentences : List Choice → List Formula
choice_sentences = numbered choice_sentence 0

-- each witness meets its formula if any element does
abbrev pub AreChosen : Problem → Meaning → Type 0
AreChosen q m = (k : ℕ) → k < length q.choices → truth_in m (Any (choice_at q k).sort (choice_at q k).body) [] ≡ true
    → truth_in m (choice_at q k).body (m.value (Witness k) ∷ []) ≡ true
