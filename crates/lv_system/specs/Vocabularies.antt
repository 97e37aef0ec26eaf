-- The vocabularies of a system: which symbols stand where, with their sorts.
use Rattle.std.specs.Prelude.{ℕ, zero, suc, Bool, true, List, [], ◌∷◌, ◌++◌, length, get_or, map, take, cond, Option, Some, None}
use Rattle.lv_formula.specs.declared.symbols.SortId.{SortId}
use Rattle.lv_formula.specs.declared.symbols.Sym.{Sym}
use Rattle.lv_formula.specs.declared.symbols.Sym.TheVariants.{Own, Witness}
use Rattle.lv_formula.specs.declared.vocabulary.RelShape.{RelShape}
use Rattle.lv_formula.specs.declared.vocabulary.ConShape.{ConShape}
use Rattle.lv_formula.specs.declared.vocabulary.Vocabulary.{Vocabulary}
use Rattle.lv_system.specs.declared.parts.Parts.{Parts}
use Rattle.lv_system.specs.declared.parts.Shape.{Shape}
use Rattle.lv_system.specs.declared.parts.Shape.TheVariants.{Relation, Constant}
use Rattle.lv_system.specs.declared.parts.Symbol.{Symbol}
use Rattle.lv_system.specs.declared.parts.WitnessDecl.{WitnessDecl}

-- the sorts of a relation's arguments, where the symbol is a relation
abbrev pub relation_sorts : Shape → Option (List SortId)
relation_sorts (Relation sorts) = Some sorts
relation_sorts (Constant sort) = None

-- the sort of a constant, where the symbol is a constant
abbrev pub constant_sort : Shape → Option SortId
constant_sort (Relation sorts) = None
constant_sort (Constant sort) = Some sort

abbrev pub relation_if : Bool → Sym → Option (List SortId) → List RelShape → List RelShape
relation_if keep sym None rest = rest
relation_if keep sym (Some sorts) rest = cond keep (record { sym = sym; sorts = sorts } ∷ rest) rest

abbrev pub constant_if : Bool → Sym → Option SortId → List ConShape → List ConShape
constant_if keep sym None rest = rest
constant_if keep sym (Some sort) rest = cond keep (record { sym = sym; sort = sort } ∷ rest) rest

-- the relations among the symbols that pass the test, where the first symbol has the number n; named by
-- what the second function gives for the number
abbrev pub relations_from : (Symbol → Bool) → (ℕ → Sym) → ℕ → List Symbol → List RelShape
relations_from test name n [] = []
relations_from test name n (s ∷ ss) = relation_if (test s) (name n) (relation_sorts s.shape) (relations_from test name (suc n) ss)

abbrev pub constants_from : (Symbol → Bool) → (ℕ → Sym) → ℕ → List Symbol → List ConShape
constants_from test name n [] = []
constants_from test name n (s ∷ ss) = constant_if (test s) (name n) (constant_sort s.shape) (constants_from test name (suc n) ss)

-- the names of the symbols that pass the test, in order
abbrev pub names_from : (Symbol → Bool) → (ℕ → Sym) → ℕ → List Symbol → List Sym
names_from test name n [] = []
names_from test name n (s ∷ ss) = cond (test s) (name n ∷ names_from test name (suc n) ss) (names_from test name (suc n) ss)

abbrev pub any_symbol : Symbol → Bool
any_symbol s = true

abbrev pub is_fixed : Symbol → Bool
is_fixed s = s.fixed

abbrev pub witnesses_from : ℕ → List WitnessDecl → List ConShape
witnesses_from n [] = []
witnesses_from n (w ∷ ws) = record { sym = Witness n; sort = w.sort } ∷ witnesses_from (suc n) ws

abbrev pub witness_names : ℕ → List WitnessDecl → List Sym
witness_names n [] = []
witness_names n (w ∷ ws) = Witness n ∷ witness_names (suc n) ws

-- the fixed symbols: what axioms may use
abbrev pub fixed_vocabulary : Parts → Vocabulary
fixed_vocabulary p = record {
  sorts = length p.sorts;
  relations = relations_from is_fixed Own 0 p.symbols;
  constants = constants_from is_fixed Own 0 p.symbols;
  order = names_from is_fixed Own 0 p.symbols;
}

-- the system's own symbols: what initial conditions, actions, fairness conditions, label declarations and
-- the property may use
abbrev pub own_vocabulary : Parts → Vocabulary
own_vocabulary p = record {
  sorts = length p.sorts;
  relations = relations_from any_symbol Own 0 p.symbols;
  constants = constants_from any_symbol Own 0 p.symbols;
  order = names_from any_symbol Own 0 p.symbols;
}

-- the own symbols and the first n witnesses: what the formula of the witness with number n may use
abbrev pub witness_vocabulary : Parts → ℕ → Vocabulary
witness_vocabulary p n = record {
  sorts = length p.sorts;
  relations = relations_from any_symbol Own 0 p.symbols;
  constants = constants_from any_symbol Own 0 p.symbols ++ witnesses_from 0 (take n p.witnesses);
  order = names_from any_symbol Own 0 p.symbols ++ witness_names 0 (take n p.witnesses);
}
