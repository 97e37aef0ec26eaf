-- The labels of a system, and the readings of its temporal formulas as formulas over labels.
use Rattle.std.specs.Prelude.{ℕ, ◌&&◌, Bool, List, [], ◌∷◌, ◌++◌, map, get_or, reverse}
use Rattle.lv_formula.specs.declared.symbols.SortId.{SortId}
use Rattle.lv_formula.specs.declared.symbols.Sym.TheVariants.{Label}
use Rattle.lv_formula.specs.declared.terms.Term.TheVariants.{Var}
use Rattle.lv_formula.specs.declared.formula.Formula.{Formula}
use Rattle.lv_formula.specs.declared.formula.Formula.TheVariants as F
use Rattle.lv_formula.specs.declared.temporal.Temporal.{Temporal}
use Rattle.lv_formula.specs.declared.temporal.Temporal.TheVariants as T
use Rattle.lv_formula.specs.declared.temporal.Temporal.TheOpen.{Temporal-F, True, False, Atom, Same, Not, And, Or, Implies, Iff, All, Any, Always, Eventually}
use Rattle.lv_formula.specs.declared.temporal.Temporal.TheFolds.{fold-Temporal}
use Rattle.lv_formula.specs.Symbols.{sorts_eq}
use Rattle.lv_system.specs.declared.parts.Parts.{Parts}
use Rattle.lv_system.specs.declared.parts.LabelDecl.{LabelDecl}
use Rattle.lv_system.specs.declared.parts.WitnessDecl.{WitnessDecl}
use Rattle.lv_labels.specs.declared.key.Key.{Key}
use Rattle.lv_labels.specs.Once.{each_once, place_of}
use Rattle.lv_labels.specs.Renaming.{free_variables, renamed, renumbered}
use Rattle.lv_labels.specs.Sameness.{temporal_eq}

-- A key is what makes a label: the sorts of its variables, and the formula under its `always`, in which those variables
-- alone are free, the first of them outermost. No `eventually` stands in it.

abbrev pub key_eq : Key → Key → Bool
key_eq a b = sorts_eq a.sorts b.sorts && temporal_eq a.inner b.inner

-- what stands for a label where there is none
abbrev pub no_key : Key
no_key = record { sorts = []; inner = T.True }

-- the label of `always f`, where f stands in the context and has no `eventually`: its free variables are numbered by
-- first occurrence
abbrev pub key_of : List SortId → Temporal → Key
key_of context f = record {
  sorts = map (λ v. get_or context v (record { 0 = 0 })) (free_variables f);
  inner = renamed f (renumbered (free_variables f));
}

-- A temporal formula with `not always not` for each `eventually`, and the labels of its `always` parts in a context,
-- in order of text, an outer one before those inside it.
pub record Labelled : Type 0 where
  pub plain : Temporal
  pub keys : List SortId → List Key

abbrev pub plain_each : List Labelled → List Temporal
plain_each [] = []
plain_each (l ∷ ls) = l.plain ∷ plain_each ls

abbrev pub keys_each : List Labelled → List SortId → List Key
keys_each [] context = []
keys_each (l ∷ ls) context = l.keys context ++ keys_each ls context

abbrev pub labelled_step : Temporal-F Labelled → Labelled
labelled_step True = record { plain = T.True; keys = λ context. [] }
labelled_step False = record { plain = T.False; keys = λ context. [] }
labelled_step (Atom sym terms) = record { plain = T.Atom sym terms; keys = λ context. [] }
labelled_step (Same a b) = record { plain = T.Same a b; keys = λ context. [] }
labelled_step (Not l) = record { plain = T.Not l.plain; keys = l.keys }
labelled_step (And ls) = record { plain = T.And (plain_each ls); keys = keys_each ls }
labelled_step (Or ls) = record { plain = T.Or (plain_each ls); keys = keys_each ls }
labelled_step (Implies l k) = record { plain = T.Implies l.plain k.plain; keys = λ context. l.keys context ++ k.keys context }
labelled_step (Iff l k) = record { plain = T.Iff l.plain k.plain; keys = λ context. l.keys context ++ k.keys context }
labelled_step (All sort l) = record { plain = T.All sort l.plain; keys = λ context. l.keys (sort ∷ context) }
labelled_step (Any sort l) = record { plain = T.Any sort l.plain; keys = λ context. l.keys (sort ∷ context) }
labelled_step (Always l) = record { plain = T.Always l.plain; keys = λ context. key_of context l.plain ∷ l.keys context }
labelled_step (Eventually l) = record { plain = T.Not (T.Always (T.Not l.plain)); keys = λ context. key_of context (T.Not l.plain) ∷ l.keys context }

abbrev pub labelled : Temporal → Labelled
labelled = fold-Temporal Labelled labelled_step

-- the formula with `not always not` for each `eventually`
abbrev pub plain : Temporal → Temporal
plain t = (labelled t).plain

abbrev pub keys_of : Temporal → List SortId → List Key
keys_of t = (labelled t).keys

abbrev pub plain_all : List Temporal → List Temporal
plain_all fs = plain_each (map labelled fs)

abbrev pub keys_of_all : List Temporal → List SortId → List Key
keys_of_all fs = keys_each (map labelled fs)

abbrev pub keys_of_labels : List LabelDecl → List Key
keys_of_labels [] = []
keys_of_labels (l ∷ ls) = keys_of l.formula (reverse l.params) ++ keys_of_labels ls

abbrev pub keys_of_witnesses : List WitnessDecl → List Key
keys_of_witnesses [] = []
keys_of_witnesses (w ∷ ws) = keys_of w.formula (w.sort ∷ []) ++ keys_of_witnesses ws

-- the labels of a system: those of the label declarations, of the witness formulas and of the property, equal ones once
abbrev pub labels_of : Parts → List Key
labels_of p = each_once key_eq (keys_of_labels p.labels ++ (keys_of_witnesses p.witnesses ++ keys_of p.property []))

-- the number of a label in the table
abbrev pub number_of : List Key → Key → ℕ
number_of table key = place_of key_eq key table

-- the atom of the label of `always f`, with the free variables of f in order of first occurrence
abbrev pub label_atom : List Key → List SortId → Temporal → Formula
label_atom table context f = F.Atom (Label (number_of table (key_of context f))) (map Var (free_variables f))

-- A temporal formula without `eventually`, and its reading in a context.
pub record Reading : Type 0 where
  pub whole : Temporal
  pub read : List SortId → Formula

abbrev pub whole_each : List Reading → List Temporal
whole_each [] = []
whole_each (r ∷ rs) = r.whole ∷ whole_each rs

abbrev pub read_each : List Reading → List SortId → List Formula
read_each [] context = []
read_each (r ∷ rs) context = r.read context ∷ read_each rs context

abbrev pub reading_step : List Key → Temporal-F Reading → Reading
reading_step table True = record { whole = T.True; read = λ context. F.True }
reading_step table False = record { whole = T.False; read = λ context. F.False }
reading_step table (Atom sym terms) = record { whole = T.Atom sym terms; read = λ context. F.Atom sym terms }
reading_step table (Same a b) = record { whole = T.Same a b; read = λ context. F.Same a b }
reading_step table (Not r) = record { whole = T.Not r.whole; read = λ context. F.Not (r.read context) }
reading_step table (And rs) = record { whole = T.And (whole_each rs); read = λ context. F.And (read_each rs context) }
reading_step table (Or rs) = record { whole = T.Or (whole_each rs); read = λ context. F.Or (read_each rs context) }
reading_step table (Implies r q) = record { whole = T.Implies r.whole q.whole; read = λ context. F.Implies (r.read context) (q.read context) }
reading_step table (Iff r q) = record { whole = T.Iff r.whole q.whole; read = λ context. F.Iff (r.read context) (q.read context) }
reading_step table (All sort r) = record { whole = T.All sort r.whole; read = λ context. F.All sort (r.read (sort ∷ context)) }
reading_step table (Any sort r) = record { whole = T.Any sort r.whole; read = λ context. F.Any sort (r.read (sort ∷ context)) }
reading_step table (Always r) = record { whole = T.Always r.whole; read = λ context. label_atom table context r.whole }
reading_step table (Eventually r) = record { whole = T.Not (T.Always (T.Not r.whole)); read = λ context. F.Not (label_atom table context (T.Not r.whole)) }

-- the reading puts in place of each outermost `always f` the atom of its label, and in place of each outermost
-- `eventually f` the negated atom of the label of `always not f`
abbrev pub reading : List Key → List SortId → Temporal → Formula
reading table context t = (fold-Temporal Reading (reading_step table) t).read context

abbrev pub readings : List Key → List Temporal → List SortId → List Formula
readings table fs = read_each (map (fold-Temporal Reading (reading_step table)) fs)
