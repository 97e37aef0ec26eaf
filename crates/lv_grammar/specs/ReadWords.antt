-- What names and words say over what is known, or their fault.
use Rattle.std.specs.Prelude.{ℕ, ◌+◌, false, not, ltb, List, [], ◌∷◌, length, codes, Option, Some, None, Result, Ok, is_some}
use Rattle.lv_tree.specs.declared.tree.Tree.{Tree}
use Rattle.lv_formula.specs.declared.symbols.SortId.{SortId}
use Rattle.lv_formula.specs.declared.symbols.Sym.{Sym}
use Rattle.lv_formula.specs.declared.symbols.Sym.TheVariants as Y
use Rattle.lv_system.specs.declared.parts.Shape.{Shape}
use Rattle.lv_system.specs.declared.parts.Shape.TheVariants as S
use Rattle.lv_grammar.specs.declared.reading.Role.{Role}
use Rattle.lv_grammar.specs.declared.reading.Role.TheVariants as R
use Rattle.lv_fault.specs.declared.fault.Kind.TheVariants.{Unexpected, UnknownName, TwiceNamed, NotFixed, MonitorWord, TooMany}
use Rattle.lv_fault.specs.declared.fault.SyntaxFault.{SyntaxFault}
use Rattle.lv_grammar.specs.declared.reading.Family.{Family}
use Rattle.lv_grammar.specs.declared.reading.Family.TheVariants as Fam
use Rattle.lv_grammar.specs.WordKinds.{family_of, behind, or_else}
use Rattle.lv_fault.specs.Given.{◌>>=◌, fail, fail_if, word_in}
use Rattle.lv_grammar.specs.Words.{Variable, variable_number}
use Rattle.lv_grammar.specs.declared.reading.Named.{Named}
use Rattle.lv_grammar.specs.declared.reading.Named.TheVariants.{System, Sort, Symbol, Action, Fair, Label, Witness, Invariant}
use Rattle.lv_grammar.specs.Known.{Known, named, is_invariant, has_witnesses, may_stand, Said, Relation, Constant}

-- a new name: of the kind of names, not taken, and not too long
abbrev pub new_name_by : Known → ℕ → List ℕ → Family → Result (List ℕ) SyntaxFault
new_name_by k at text Fam.Name = do
  _ ← fail_if (is_some (named k text)) TwiceNamed at
  _ ← fail_if (ltb 48 (length text)) TooMany at
  Ok text
new_name_by k at text Fam.Frozen = fail Unexpected at
new_name_by k at text Fam.Saved = fail Unexpected at
new_name_by k at text Fam.Dotted = fail Unexpected at
new_name_by k at text Fam.Variable = fail Unexpected at
new_name_by k at text Fam.Other = fail Unexpected at

unfoldable pub new_name : Known → Tree → Result (List ℕ) SyntaxFault
new_name k t = do
  w ← word_in t
  new_name_by k w.at w.text (family_of w.text)

-- a new variable in the scope of others
abbrev pub new_variable_by : List Variable → ℕ → List ℕ → Family → Result (List ℕ) SyntaxFault
new_variable_by vs at text Fam.Variable = do
  _ ← fail_if (is_some (variable_number vs text)) TwiceNamed at
  _ ← fail_if (ltb 48 (length text)) TooMany at
  Ok text
new_variable_by vs at text Fam.Frozen = fail Unexpected at
new_variable_by vs at text Fam.Saved = fail Unexpected at
new_variable_by vs at text Fam.Dotted = fail Unexpected at
new_variable_by vs at text Fam.Name = fail Unexpected at
new_variable_by vs at text Fam.Other = fail Unexpected at

unfoldable pub new_variable : List Variable → Tree → Result (List ℕ) SyntaxFault
new_variable vs t = do
  w ← word_in t
  new_variable_by vs w.at w.text (family_of w.text)

abbrev pub sort_named : ℕ → Option Named → Result SortId SyntaxFault
sort_named at None = fail UnknownName at
sort_named at (Some (Sort n)) = Ok (record { 0 = n })
sort_named at (Some System) = fail Unexpected at
sort_named at (Some (Symbol n shape fixed)) = fail Unexpected at
sort_named at (Some Action) = fail Unexpected at
sort_named at (Some (Fair n sorts)) = fail Unexpected at
sort_named at (Some (Label n sorts)) = fail Unexpected at
sort_named at (Some (Witness n sort)) = fail Unexpected at
sort_named at (Some Invariant) = fail Unexpected at

abbrev pub sort_by : Known → ℕ → List ℕ → Family → Result SortId SyntaxFault
sort_by k at text Fam.Name = sort_named at (named k text)
sort_by k at text Fam.Frozen = fail Unexpected at
sort_by k at text Fam.Saved = fail Unexpected at
sort_by k at text Fam.Dotted = fail Unexpected at
sort_by k at text Fam.Variable = fail Unexpected at
sort_by k at text Fam.Other = fail Unexpected at

-- a declared sort
unfoldable pub sort_in : Known → Tree → Result SortId SyntaxFault
sort_in k t = do
  w ← word_in t
  sort_by k w.at w.text (family_of w.text)

-- ---- what a word says where a symbol may stand

-- the symbol with this shape, where it may stand, and else this fault
abbrev pub shaped : Sym → Shape → Said
shaped sym (S.Relation sorts) = Relation sym sorts
shaped sym (S.Constant sort) = Constant sym sort

-- what a known name says, with the fault where it may not stand in the role
pub record Speaks : Type 0 where
  pub says : Said
  pub refused : Result (Unit {0}) SyntaxFault

abbrev pub name_speaks : Role → ℕ → Named → Option Speaks
name_speaks role at (Symbol n shape fixed) = Some (record { says = shaped (Y.Own n) shape; refused = fail_if (not (may_stand role fixed)) NotFixed at })
name_speaks role at (Label n sorts) = Some (record { says = Relation (Y.Label n) sorts; refused = fail_if (not (is_invariant role)) MonitorWord at })
name_speaks role at (Witness n sort) = Some (record { says = Constant (Y.Witness n) sort; refused = fail_if (not (has_witnesses role)) MonitorWord at })
name_speaks role at System = None
name_speaks role at (Sort n) = None
name_speaks role at Action = None
name_speaks role at (Fair n sorts) = None
name_speaks role at Invariant = None

-- ---- words of the monitor

abbrev pub set_said : (SortId → Sym) → Option Named → Option Said
set_said name (Some (Sort n)) = Some (Relation (name (record { 0 = n })) (record { 0 = n } ∷ []))
set_said name _ = None

abbrev pub due_said : Known → Option Named → Option Said
due_said k (Some (Fair n sorts)) = Some (Relation (Y.Due n) sorts)
due_said k (Some (Label n sorts)) = Some (Relation (Y.Due (k.fairs + n)) sorts)
due_said k _ = None

abbrev pub copy_said : Option Named → Option Said
copy_said (Some (Symbol n shape false)) = Some (shaped (Y.Copy n) shape)
copy_said (Some (Label n sorts)) = Some (Relation (Y.CopyLabel n) sorts)
copy_said _ = None

abbrev pub if_behind : {A : Type 0} → (List ℕ → Option A) → Option (List ℕ) → Option A
if_behind say None = None
if_behind say (Some name) = say name

unfoldable pub dotted_said : Known → List ℕ → Option Said
dotted_said k text =
    or_else (if_behind (λ name. set_said Y.Touched (named k name)) (behind (codes "touched.") text))
    (or_else (if_behind (λ name. set_said Y.Kept (named k name)) (behind (codes "kept.") text))
    (or_else (if_behind (λ name. due_said k (named k name)) (behind (codes "due.") text))
    (if_behind (λ name. copy_said (named k name)) (behind (codes "saved.") text))))

abbrev pub freely : Said → Speaks
freely said = record { says = said; refused = Ok tt }

-- an invariant may say it; nowhere else may one
abbrev pub monitor_word : Role → ℕ → Option Said → Result (Option Speaks) SyntaxFault
monitor_word R.Invariant at None = fail UnknownName at
monitor_word R.Invariant at (Some said) = Ok (Some (freely said))
monitor_word R.Axiom at said = fail MonitorWord at
monitor_word R.State at said = fail MonitorWord at
monitor_word R.Path at said = fail MonitorWord at
monitor_word R.Witness at said = fail MonitorWord at

abbrev pub name_or_unknown : Role → ℕ → Option Named → Result (Option Speaks) SyntaxFault
name_or_unknown role at None = fail UnknownName at
name_or_unknown role at (Some what) = Ok (name_speaks role at what)

abbrev pub speaks_by : Known → Role → ℕ → List ℕ → Family → Result (Option Speaks) SyntaxFault
speaks_by k role at text Fam.Dotted = monitor_word role at (dotted_said k text)
speaks_by k role at text Fam.Frozen = monitor_word role at (Some (Relation Y.Frozen []))
speaks_by k role at text Fam.Saved = monitor_word role at (Some (Relation Y.Saved []))
speaks_by k role at text Fam.Name = name_or_unknown role at (named k text)
speaks_by k role at text Fam.Variable = fail Unexpected at
speaks_by k role at text Fam.Other = fail Unexpected at

unfoldable pub speaks : Known → Role → ℕ → List ℕ → Result (Option Speaks) SyntaxFault
speaks k role at text = speaks_by k role at text (family_of text)

-- a relation with the sorts of its arguments
pub record Predicate : Type 0 where
  pub sym : Sym
  pub sorts : List SortId

-- a word of another family than the place asks for, before whether it may stand here
abbrev pub relation_of : ℕ → Result (Unit {0}) SyntaxFault → Said → Result Predicate SyntaxFault
relation_of at refused (Relation sym sorts) = refused >>= λ _. Ok (record { sym = sym; sorts = sorts })
relation_of at refused (Constant sym sort) = fail Unexpected at

abbrev pub as_relation : ℕ → Option Speaks → Result Predicate SyntaxFault
as_relation at None = fail Unexpected at
as_relation at (Some s) = relation_of at s.refused s.says

-- the relation that a word says in this role
unfoldable pub relation_at : Known → Role → ℕ → List ℕ → Result Predicate SyntaxFault
relation_at k role at text = speaks k role at text >>= as_relation at

abbrev pub constant_of : ℕ → Result (Unit {0}) SyntaxFault → Said → Result (Sym × SortId) SyntaxFault
constant_of at refused (Constant sym sort) = refused >>= λ _. Ok (sym, sort)
constant_of at refused (Relation sym sorts) = fail Unexpected at

abbrev pub as_constant : ℕ → Option Speaks → Result (Sym × SortId) SyntaxFault
as_constant at None = fail Unexpected at
as_constant at (Some s) = constant_of at s.refused s.says

-- the constant that a word says in this role
unfoldable pub constant_at : Known → Role → ℕ → List ℕ → Result (Sym × SortId) SyntaxFault
constant_at k role at text = speaks k role at text >>= as_constant at
