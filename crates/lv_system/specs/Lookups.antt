-- What the vocabularies of a system say of a symbol, told from the parts of the system.
use Rattle.std.specs.Prelude.{ℕ, Bool, ltb, cond, List, [], ◌∷◌, length, Option, Some, None, slice_get}
use Rattle.lv_formula.specs.declared.symbols.SortId.{SortId}
use Rattle.lv_formula.specs.declared.symbols.Sym.{Sym}
use Rattle.lv_formula.specs.declared.symbols.Sym.TheVariants.{Own, Witness, Frozen, Saved, Touched, Kept, Due, Copy}
use Rattle.lv_formula.specs.declared.vocabulary.Vocabulary.{Vocabulary}
use Rattle.lv_formula.specs.Fits.{none_free}
use Rattle.lv_system.specs.declared.parts.Parts.{Parts}
use Rattle.lv_system.specs.declared.parts.Symbol.{Symbol}
use Rattle.lv_system.specs.declared.parts.Fair.{Fair}
use Rattle.lv_system.specs.declared.parts.WitnessDecl.{WitnessDecl}
use Rattle.lv_system.specs.declared.usable.Usable.{Usable}
use Rattle.lv_system.specs.declared.usable.Usable.TheVariants as usable
use Rattle.lv_system.specs.declared.usable.Which.{Which}
use Rattle.lv_system.specs.declared.usable.Which.TheVariants as which
use Rattle.lv_system.specs.Vocabularies.{relation_sorts, constant_sort, any_symbol, is_fixed, fixed_vocabulary, own_vocabulary, witness_vocabulary}
use Rattle.lv_system.specs.InvariantWords.{is_changing, invariant_vocabulary, is_label_word}

-- the vocabulary that the symbols make
abbrev pub vocabulary_of : Usable → Vocabulary
vocabulary_of (usable.Fixed p) = fixed_vocabulary p.now
vocabulary_of (usable.Own p) = own_vocabulary p.now
vocabulary_of (usable.Witnesses p n) = witness_vocabulary p.now n
vocabulary_of (usable.Invariants p) = invariant_vocabulary p.now

abbrev pub parts_of : Usable → Parts
parts_of (usable.Fixed p) = p.now
parts_of (usable.Own p) = p.now
parts_of (usable.Witnesses p n) = p.now
parts_of (usable.Invariants p) = p.now

-- the test that a kind of symbols passes
abbrev pub passes : Which → Symbol → Bool
passes which.Any = any_symbol
passes which.Fixed = is_fixed
passes which.Changing = is_changing

-- the relations whose arguments aren't known
abbrev pub free_in : Usable → Sym → Bool
free_in (usable.Fixed p) = none_free
free_in (usable.Own p) = none_free
free_in (usable.Witnesses p n) = none_free
free_in (usable.Invariants p) = is_label_word p.now

-- the argument sorts of a symbol that is there, passes the test and is a relation
abbrev pub relation_where : (Symbol → Bool) → Option Symbol → Option (List SortId)
relation_where test None = None
relation_where test (Some s) = cond (test s) (relation_sorts s.shape) None

-- the sort of a symbol that is there, passes the test and is a constant
abbrev pub constant_where : (Symbol → Bool) → Option Symbol → Option SortId
constant_where test None = None
constant_where test (Some s) = cond (test s) (constant_sort s.shape) None

abbrev pub params_of : Option Fair → Option (List SortId)
params_of None = None
params_of (Some c) = Some c.params

abbrev pub witness_sort : Option WitnessDecl → Option SortId
witness_sort None = None
witness_sort (Some w) = Some w.sort

abbrev pub own_relation : (Symbol → Bool) → Parts → Sym → Option (List SortId)
own_relation test p (Own n) = relation_where test (slice_get p.symbols n)
own_relation test p sym = None

abbrev pub own_constant : (Symbol → Bool) → Parts → Sym → Option SortId
own_constant test p (Own n) = constant_where test (slice_get p.symbols n)
own_constant test p sym = None

abbrev pub witness_constant : Parts → ℕ → Sym → Option SortId
witness_constant p bound (Own n) = constant_where any_symbol (slice_get p.symbols n)
witness_constant p bound (Witness n) = cond (ltb n bound) (witness_sort (slice_get p.witnesses n)) None
witness_constant p bound sym = None

abbrev pub one_if : Bool → SortId → Option (List SortId)
one_if there s = cond there (Some (s ∷ [])) None

abbrev pub invariant_relation : Parts → Sym → Option (List SortId)
invariant_relation p (Own n) = relation_where any_symbol (slice_get p.symbols n)
invariant_relation p Frozen = Some []
invariant_relation p Saved = Some []
invariant_relation p (Touched s) = one_if (ltb s.0 (length p.sorts)) s
invariant_relation p (Kept s) = one_if (ltb s.0 (length p.sorts)) s
invariant_relation p (Due n) = params_of (slice_get p.fairs n)
invariant_relation p (Copy n) = relation_where is_changing (slice_get p.symbols n)
invariant_relation p sym = None

abbrev pub invariant_constant : Parts → Sym → Option SortId
invariant_constant p (Own n) = constant_where any_symbol (slice_get p.symbols n)
invariant_constant p (Witness n) = witness_sort (slice_get p.witnesses n)
invariant_constant p (Copy n) = constant_where is_changing (slice_get p.symbols n)
invariant_constant p sym = None

abbrev pub usable_relation : Usable → Sym → Option (List SortId)
usable_relation (usable.Fixed p) sym = own_relation is_fixed p.now sym
usable_relation (usable.Own p) sym = own_relation any_symbol p.now sym
usable_relation (usable.Witnesses p n) sym = own_relation any_symbol p.now sym
usable_relation (usable.Invariants p) sym = invariant_relation p.now sym

abbrev pub usable_constant : Usable → Sym → Option SortId
usable_constant (usable.Fixed p) sym = own_constant is_fixed p.now sym
usable_constant (usable.Own p) sym = own_constant any_symbol p.now sym
usable_constant (usable.Witnesses p n) sym = witness_constant p.now n sym
usable_constant (usable.Invariants p) sym = invariant_constant p.now sym
