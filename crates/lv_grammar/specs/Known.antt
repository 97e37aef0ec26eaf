-- What is known of a system of which a part was read, and what its words say.
use Rattle.std.specs.Prelude.{◌≡◌, ℕ, ◌+◌, Bool, true, false, ◌&&◌, not, cond, List, [], ◌∷◌, ◌++◌, codes, is_some, Option, Some, None}
use Rattle.lv_tree.specs.declared.tree.Tree.{Tree}
use Rattle.lv_formula.specs.declared.symbols.SortId.{SortId}
use Rattle.lv_formula.specs.declared.symbols.Sym.{Sym}
use Rattle.lv_formula.specs.declared.symbols.Sym.TheVariants as Y
use Rattle.lv_system.specs.declared.parts.Shape.{Shape}
use Rattle.lv_system.specs.declared.parts.Shape.TheVariants as S
use Rattle.lv_system.specs.Names.{same_text, is_name, is_reserved, are_name_bytes, begins_small}
use Rattle.lv_labels.specs.declared.key.Key.{Key}
use Rattle.lv_grammar.specs.Words.{begins_capital}
use Rattle.lv_grammar.specs.Grammar.{IsWord}
use Rattle.lv_grammar.specs.declared.reading.Named.{Named}
use Rattle.lv_grammar.specs.declared.reading.Named.TheVariants.{Sort, Symbol, Fair, Label, Witness}
use Rattle.lv_grammar.specs.declared.reading.Role.{Role}
use Rattle.lv_grammar.specs.declared.reading.Role.TheVariants as R

-- a name with what it names
abbrev pub Entry : Type 0
Entry = List ℕ × Named

-- the names in the order of their items, how many sorts, symbols, fairness conditions and witnesses there are, and the table
-- of labels
pub record Known : Type 0 where
  pub names : List Entry
  pub sorts : ℕ
  pub symbols : ℕ
  pub fairs : ℕ
  pub witnesses : ℕ
  pub keys : List Key

abbrev pub what_is : List Entry → List ℕ → Option Named
what_is [] text = None
what_is (e ∷ es) text = cond (same_text e.0 text) (Some e.1) (what_is es text)

unfoldable pub named : Known → List ℕ → Option Named
named k text = what_is k.names text

abbrev pub with_entry : List Entry → List ℕ → Named → List Entry
with_entry es name what = es ++ (name, what) ∷ []

-- the name has the form of one, and is new
abbrev pub is_new_name : Known → List ℕ → Bool
is_new_name k name = is_name name && not (is_some (named k name))

-- ---- words

-- what a name is by its bytes alone
abbrev pub looks_small : List ℕ → Bool
looks_small text = begins_small text && are_name_bytes text && not (is_reserved text)

abbrev pub looks_capital : List ℕ → Bool
looks_capital text = begins_capital text && are_name_bytes text

-- a symbol that a word says, with its sorts
pub data Said : Type 0 where
  Relation : Sym → List SortId → Said
  Constant : Sym → SortId → Said

abbrev pub is_invariant : Role → Bool
is_invariant R.Invariant = true
is_invariant R.Axiom = false
is_invariant R.State = false
is_invariant R.Path = false
is_invariant R.Witness = false

abbrev pub has_witnesses : Role → Bool
has_witnesses R.Invariant = true
has_witnesses R.Witness = true
has_witnesses R.Axiom = false
has_witnesses R.State = false
has_witnesses R.Path = false

-- temporal operators stand in labels, the property and witnesses
abbrev pub is_temporal : Role → Bool
is_temporal R.Path = true
is_temporal R.Witness = true
is_temporal R.Axiom = false
is_temporal R.State = false
is_temporal R.Invariant = false

-- in an axiom a symbol is fixed
abbrev pub may_stand : Role → Bool → Bool
may_stand R.Axiom fixed = fixed
may_stand R.State fixed = true
may_stand R.Path fixed = true
may_stand R.Witness fixed = true
may_stand R.Invariant fixed = true

-- the word says this symbol, which may stand in the role
pub data Says (k : Known) (role : Role) (text : List ℕ) : Said → Type 0 where
  own_relation : {n : ℕ} {sorts : List SortId} {fixed : Bool} → looks_small text ≡ true → named k text ≡ Some (Symbol n (S.Relation sorts) fixed) → may_stand role fixed ≡ true → Says k role text (Relation (Y.Own n) sorts)
  own_constant : {n : ℕ} {sort : SortId} {fixed : Bool} → looks_small text ≡ true → named k text ≡ Some (Symbol n (S.Constant sort) fixed) → may_stand role fixed ≡ true → Says k role text (Constant (Y.Own n) sort)
  witness : {n : ℕ} {sort : SortId} → looks_small text ≡ true → named k text ≡ Some (Witness n sort) → has_witnesses role ≡ true → Says k role text (Constant (Y.Witness n) sort)
  label : {n : ℕ} {sorts : List SortId} → looks_small text ≡ true → named k text ≡ Some (Label n sorts) → is_invariant role ≡ true → Says k role text (Relation (Y.Label n) sorts)
  frozen : text ≡ codes "frozen" → is_invariant role ≡ true → Says k role text (Relation Y.Frozen [])
  saved : text ≡ codes "saved" → is_invariant role ≡ true → Says k role text (Relation Y.Saved [])
  touched : {n : ℕ} (name : List ℕ) → text ≡ codes "touched." ++ name → named k name ≡ Some (Sort n) → is_invariant role ≡ true → Says k role text (Relation (Y.Touched (record { 0 = n })) (record { 0 = n } ∷ []))
  kept : {n : ℕ} (name : List ℕ) → text ≡ codes "kept." ++ name → named k name ≡ Some (Sort n) → is_invariant role ≡ true → Says k role text (Relation (Y.Kept (record { 0 = n })) (record { 0 = n } ∷ []))
  due : {n : ℕ} {sorts : List SortId} (name : List ℕ) → text ≡ codes "due." ++ name → named k name ≡ Some (Fair n sorts) → is_invariant role ≡ true → Says k role text (Relation (Y.Due n) sorts)
  due_label : {n : ℕ} {sorts : List SortId} (name : List ℕ) → text ≡ codes "due." ++ name → named k name ≡ Some (Label n sorts) → is_invariant role ≡ true → Says k role text (Relation (Y.Due (k.fairs + n)) sorts)
  copy_relation : {n : ℕ} {sorts : List SortId} (name : List ℕ) → text ≡ codes "saved." ++ name → named k name ≡ Some (Symbol n (S.Relation sorts) false) → is_invariant role ≡ true → Says k role text (Relation (Y.Copy n) sorts)
  copy_constant : {n : ℕ} {sort : SortId} (name : List ℕ) → text ≡ codes "saved." ++ name → named k name ≡ Some (Symbol n (S.Constant sort) false) → is_invariant role ≡ true → Says k role text (Constant (Y.Copy n) sort)
  copy_label : {n : ℕ} {sorts : List SortId} (name : List ℕ) → text ≡ codes "saved." ++ name → named k name ≡ Some (Label n sorts) → is_invariant role ≡ true → Says k role text (Relation (Y.CopyLabel n) sorts)

-- the tree is the name of a sort
pub record IsSortName (k : Known) (sort : SortId) (t : Tree) : Type 0 where
  pub text : List ℕ
  pub word : IsWord text t
  pub small : looks_small text ≡ true
  pub is : named k text ≡ Some (Sort sort.0)
