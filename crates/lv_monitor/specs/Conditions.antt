-- When a move is allowed, and when the state looks as it was saved, as formulas.
use Rattle.std.specs.Prelude.{ℕ, cond, List, [], ◌∷◌, ◌++◌}
use Rattle.lv_formula.specs.declared.symbols.SortId.{SortId}
use Rattle.lv_formula.specs.declared.symbols.Sym.{Sym}
use Rattle.lv_formula.specs.declared.symbols.Sym.TheVariants.{Own, Label, Frozen, Saved, Kept, Due, Copy, CopyLabel}
use Rattle.lv_formula.specs.declared.terms.Term.{Term}
use Rattle.lv_formula.specs.declared.terms.Term.TheVariants as term
use Rattle.lv_formula.specs.declared.formula.Formula.{Formula}
use Rattle.lv_formula.specs.declared.formula.Formula.TheVariants.{Atom, Same, Not, And, Or, Implies, Iff}
use Rattle.lv_system.specs.declared.parts.Shape.{Shape}
use Rattle.lv_system.specs.declared.parts.Shape.TheVariants.{Relation, Constant}
use Rattle.lv_system.specs.declared.parts.Symbol.{Symbol}
use Rattle.lv_labels.specs.Problem.{Condition, Problem}
use Rattle.lv_labels.specs.Closing.{all_over, numbered}
use Rattle.lv_footprint.specs.Gathered.{gathered}
use Rattle.lv_labels.specs.declared.moves.Move.{Move}
use Rattle.lv_labels.specs.declared.moves.Move.TheVariants.{Stay, Freeze, Save}
use Rattle.lv_monitor.specs.Updates.{at_places, itself}

-- nothing is due of the condition
abbrev pub none_due_of : ℕ → Condition → Formula
none_due_of j c = all_over c.sorts (Not (itself (Due j) c.sorts))

abbrev pub all_none_due : List Condition → List Formula
all_none_due = numbered none_due_of 0

abbrev pub mark_set : Sym → Formula
mark_set s = Atom s []

abbrev pub move_condition_of : List Condition → Move → List Formula
move_condition_of justice Stay = []
move_condition_of justice Freeze = Not (mark_set Frozen) ∷ Not (mark_set Saved) ∷ all_none_due justice
move_condition_of justice Save = mark_set Frozen ∷ Not (mark_set Saved) ∷ all_none_due justice

abbrev pub kept_term : SortId → Term → Formula
kept_term sort t = Atom (Kept sort) (t ∷ [])

-- on the kept elements the relation is as its copy
abbrev pub looks_alike : Sym → Sym → List SortId → Formula
looks_alike s copy sorts = all_over sorts (Implies (And (at_places kept_term sorts)) (Iff (itself s sorts) (itself copy sorts)))

-- if the constant or its copy is kept, they are the same
abbrev pub stays_alike : Sym → Sym → SortId → Formula
stays_alike s copy sort = Implies (Or (kept_term sort (term.Const s) ∷ kept_term sort (term.Const copy) ∷ [])) (Same (term.Const s) (term.Const copy))

abbrev pub shape_alike : ℕ → Shape → Formula
shape_alike n (Relation sorts) = looks_alike (Own n) (Copy n) sorts
shape_alike n (Constant sort) = stays_alike (Own n) (Copy n) sort

-- of a changing symbol
abbrev pub symbol_alike : ℕ → Symbol → List Formula
symbol_alike n s = cond s.fixed [] (shape_alike n s.shape ∷ [])

abbrev pub label_alike : ℕ → Condition → Formula
label_alike l c = looks_alike (Label l) (CopyLabel l) c.sorts

abbrev pub compare_of : Problem → List Formula
compare_of q = gathered symbol_alike 0 q.parts.symbols ++ numbered label_alike 0 q.labels
