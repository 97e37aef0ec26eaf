-- Which trees spell which terms, formulas and items, over what is known of the system before them. A rule has the scopes, sorts
-- and limits of its construct.
use Rattle.std.specs.Prelude.{◌≡◌, ℕ, suc, Bool, true, false, ◌&&◌, leb, eqb, List, [], ◌∷◌, ◌++◌, length, map, reverse, get_or, codes, Some}
use Rattle.lv_tree.specs.declared.tree.Tree.{Tree}
use Rattle.lv_formula.specs.declared.symbols.SortId.{SortId}
use Rattle.lv_formula.specs.declared.symbols.Sym.{Sym}
use Rattle.lv_formula.specs.declared.terms.Term.{Term}
use Rattle.lv_formula.specs.declared.terms.Term.TheVariants.{Var, Const}
use Rattle.lv_formula.specs.declared.formula.Formula.{Formula}
use Rattle.lv_formula.specs.declared.temporal.Temporal.{Temporal}
use Rattle.lv_formula.specs.declared.temporal.Temporal.TheVariants as T
use Rattle.lv_formula.specs.TemporalMeasures.{temporal_nodes_of}
use Rattle.lv_system.specs.declared.parts.Parts.{Parts}
use Rattle.lv_system.specs.declared.parts.Sort.{Sort}
use Rattle.lv_system.specs.declared.parts.Symbol.{Symbol}
use Rattle.lv_system.specs.declared.parts.Shape.{Shape}
use Rattle.lv_system.specs.declared.parts.Shape.TheVariants as S
use Rattle.lv_system.specs.declared.parts.Action.{Action}
use Rattle.lv_system.specs.declared.parts.ActionUpdate.{ActionUpdate}
use Rattle.lv_system.specs.declared.parts.ActionUpdate.TheVariants as U
use Rattle.lv_system.specs.declared.parts.Fair.{Fair}
use Rattle.lv_system.specs.declared.parts.LabelDecl.{LabelDecl}
use Rattle.lv_system.specs.declared.parts.WitnessDecl.{WitnessDecl}
use Rattle.lv_system.specs.declared.parts.Invariant.{Invariant}
use Rattle.lv_system.specs.Names.{is_name}
use Rattle.lv_system.specs.Fits.{is_target}
use Rattle.lv_labels.specs.declared.key.Key.{Key}
use Rattle.lv_labels.specs.Labels.{key_eq, keys_of, number_of}
use Rattle.lv_labels.specs.Once.{once_behind, is_among}
use Rattle.lv_grammar.specs.Words.{Variable, variable_number, is_new_variable, are_new_variables}
use Rattle.lv_grammar.specs.Lifted.{lifted}
use Rattle.lv_grammar.specs.Grammar.{Each, IsWord, IsList, IsMark}
use Rattle.lv_grammar.specs.LabelLimits.{lists_free}
use Rattle.lv_grammar.specs.declared.reading.Role.{Role}
use Rattle.lv_grammar.specs.declared.reading.Role.TheVariants as R
use Rattle.lv_grammar.specs.declared.reading.Named.{Named}
use Rattle.lv_grammar.specs.declared.reading.Named.TheVariants as N
use Rattle.lv_grammar.specs.Known.{Entry, Known, named, with_entry, is_new_name, looks_small, looks_capital, is_temporal, Relation, Constant, Says, IsSortName}
use Rattle.lv_grammar.specs.Sections.{Spell}

abbrev pub sorts_of : List Variable → List SortId
sorts_of vs = map (λ v. v.sort) vs

-- the sort of the variable with the number
abbrev pub sort_at : List Variable → ℕ → SortId
sort_at vs i = get_or (sorts_of vs) i (record { 0 = 0 })

-- ---- terms with their sorts, in the scope of variables, of which the list has the innermost first

pub data IsTerm (k : Known) (role : Role) (vs : List Variable) : Term → SortId → Tree → Type 0 where
  variable : {i : ℕ} {t : Tree} (name : List ℕ) → IsWord name t → looks_capital name ≡ true → variable_number vs name ≡ Some i → IsTerm k role vs (Var i) (sort_at vs i) t
  constant : {sym : Sym} {sort : SortId} {t : Tree} (text : List ℕ) → IsWord text t → Says k role text (Constant sym sort) → IsTerm k role vs (Const sym) sort t

-- one term of each sort
pub data AreTerms (k : Known) (role : Role) (vs : List Variable) : List Term → List SortId → List Tree → Type 0 where
  no_terms : AreTerms k role vs [] [] []
  terms : {x : Term} {xs : List Term} {s : SortId} {ss : List SortId} {t : Tree} {ts : List Tree} → IsTerm k role vs x s t → AreTerms k role vs xs ss ts → AreTerms k role vs (x ∷ xs) (s ∷ ss) (t ∷ ts)

-- ---- formulas: how deep their lists may nest, how many `iff`s may stand inside one another, the scope, the formula, its tree

-- the list begins with this word
pub record Begins (word : List ℕ) (items : List Tree) (t : Tree) : Type 0 where
  pub head : Tree
  pub list : IsList (head ∷ items) t
  pub first : IsWord word head

-- VAR SORT, in front of a formula
pub record Binds (k : Known) (vs : List Variable) (x : Variable) (v r : Tree) : Type 0 where
  pub name : IsWord x.name v
  pub new : is_new_variable vs x.name ≡ true
  pub sort : IsSortName k x.sort r

mutual
  pub data IsFormula (k : Known) (role : Role) : ℕ → ℕ → List Variable → Temporal → Tree → Type 0 where
    truth : {room iffs : ℕ} {vs : List Variable} {t : Tree} → IsWord (codes "true") t → IsFormula k role room iffs vs T.True t
    falsity : {room iffs : ℕ} {vs : List Variable} {t : Tree} → IsWord (codes "false") t → IsFormula k role room iffs vs T.False t
    -- R
    bare_atom : {room iffs : ℕ} {vs : List Variable} {sym : Sym} {t : Tree} (text : List ℕ) → IsWord text t → Says k role text (Relation sym []) → IsFormula k role room iffs vs (T.Atom sym []) t
    -- (R TERM ..)
    atom : {room iffs : ℕ} {vs : List Variable} {sym : Sym} {sorts : List SortId} {xs : List Term} {t : Tree} (text : List ℕ) (a : Tree) (as' : List Tree)
        → Begins text (a ∷ as') t → Says k role text (Relation sym sorts) → AreTerms k role vs xs sorts (a ∷ as') → IsFormula k role (suc room) iffs vs (T.Atom sym xs) t
    -- (= TERM TERM)
    equation : {room iffs : ℕ} {vs : List Variable} {x y : Term} {sort : SortId} {t : Tree} (a b : Tree)
        → Begins (codes "=") (a ∷ b ∷ []) t → IsTerm k role vs x sort a → IsTerm k role vs y sort b → IsFormula k role (suc room) iffs vs (T.Same x y) t
    -- (not F)
    negation : {room iffs : ℕ} {vs : List Variable} {f : Temporal} {t : Tree} (a : Tree)
        → Begins (codes "not") (a ∷ []) t → IsFormula k role room iffs vs f a → IsFormula k role (suc room) iffs vs (T.Not f) t
    -- (and F ..)
    conjunction : {room iffs : ℕ} {vs : List Variable} {fs : List Temporal} {t : Tree} (as' : List Tree)
        → Begins (codes "and") as' t → AreFormulas k role room iffs vs fs as' → IsFormula k role (suc room) iffs vs (T.And fs) t
    -- (or F ..)
    disjunction : {room iffs : ℕ} {vs : List Variable} {fs : List Temporal} {t : Tree} (as' : List Tree)
        → Begins (codes "or") as' t → AreFormulas k role room iffs vs fs as' → IsFormula k role (suc room) iffs vs (T.Or fs) t
    -- (implies F F)
    implication : {room iffs : ℕ} {vs : List Variable} {f g : Temporal} {t : Tree} (a b : Tree)
        → Begins (codes "implies") (a ∷ b ∷ []) t → IsFormula k role room iffs vs f a → IsFormula k role room iffs vs g b → IsFormula k role (suc room) iffs vs (T.Implies f g) t
    -- (iff F F)
    equivalence : {room iffs : ℕ} {vs : List Variable} {f g : Temporal} {t : Tree} (a b : Tree)
        → Begins (codes "iff") (a ∷ b ∷ []) t → IsFormula k role room iffs vs f a → IsFormula k role room iffs vs g b → IsFormula k role (suc room) (suc iffs) vs (T.Iff f g) t
    -- (all VAR SORT F)
    universal : {room iffs : ℕ} {vs : List Variable} {f : Temporal} {t : Tree} (x : Variable) (v r a : Tree)
        → Begins (codes "all") (v ∷ r ∷ a ∷ []) t → Binds k vs x v r → IsFormula k role room iffs (x ∷ vs) f a → IsFormula k role (suc room) iffs vs (T.All x.sort f) t
    -- (some VAR SORT F)
    existential : {room iffs : ℕ} {vs : List Variable} {f : Temporal} {t : Tree} (x : Variable) (v r a : Tree)
        → Begins (codes "some") (v ∷ r ∷ a ∷ []) t → Binds k vs x v r → IsFormula k role room iffs (x ∷ vs) f a → IsFormula k role (suc room) iffs vs (T.Any x.sort f) t
    -- (always T)
    always : {room iffs : ℕ} {vs : List Variable} {f : Temporal} {t : Tree} (a : Tree)
        → Begins (codes "always") (a ∷ []) t → is_temporal role ≡ true → IsFormula k role room iffs vs f a → IsFormula k role (suc room) iffs vs (T.Always f) t
    -- (eventually T)
    eventually : {room iffs : ℕ} {vs : List Variable} {f : Temporal} {t : Tree} (a : Tree)
        → Begins (codes "eventually") (a ∷ []) t → is_temporal role ≡ true → IsFormula k role room iffs vs f a → IsFormula k role (suc room) iffs vs (T.Eventually f) t

  pub data AreFormulas (k : Known) (role : Role) : ℕ → ℕ → List Variable → List Temporal → List Tree → Type 0 where
    no_formulas : {room iffs : ℕ} {vs : List Variable} → AreFormulas k role room iffs vs [] []
    formulas : {room iffs : ℕ} {vs : List Variable} {f : Temporal} {fs : List Temporal} {t : Tree} {ts : List Tree}
        → IsFormula k role room iffs vs f t → AreFormulas k role room iffs vs fs ts → AreFormulas k role room iffs vs (f ∷ fs) (t ∷ ts)

-- a whole formula: lists nest so deep, an `iff` stands inside at most one other, at most 1,024 nodes
pub record IsWhole (k : Known) (role : Role) (room : ℕ) (vs : List Variable) (f : Temporal) (t : Tree) : Type 0 where
  pub formula : IsFormula k role room 2 vs f t
  pub counted : leb (temporal_nodes_of f) 1024 ≡ true

-- a formula of a state
abbrev pub IsState : Known → Role → ℕ → List Variable → Formula → Tree → Type 0
IsState k role room vs f t = IsWhole k role room vs (lifted f) t

-- behind these labels there is room for those: no more than 32 are known then, and each has at most four free variables
abbrev pub labels_fit : List Key → List Key → Bool
labels_fit known [] = true
labels_fit known (key ∷ keys) =
    leb (length key.sorts) 4 && (leb (length (once_behind key_eq known (key ∷ []))) 32 && labels_fit (once_behind key_eq known (key ∷ [])) keys)

-- a temporal formula within the limits on labels
pub record IsPath (k : Known) (role : Role) (vs : List Variable) (f : Temporal) (t : Tree) : Type 0 where
  pub whole : IsWhole k role 58 vs f t
  pub labels : labels_fit k.keys (keys_of f (sorts_of vs)) ≡ true

-- ---- what items have in common

-- VAR SORT ..
pub data ArePairs (k : Known) : List Variable → List Variable → List Tree → Type 0 where
  no_pairs : {vs : List Variable} → ArePairs k vs [] []
  pairs : {vs : List Variable} {x : Variable} {xs : List Variable} {v s : Tree} {ts : List Tree} → Binds k vs x v s → ArePairs k (x ∷ vs) xs ts → ArePairs k vs (x ∷ xs) (v ∷ s ∷ ts)

-- (VAR SORT ..), at most four pairs, the first variable outermost
pub record AreParameters (k : Known) (sorts : List SortId) (xs : List Variable) (t : Tree) : Type 0 where
  pub items : List Tree
  pub list : IsList items t
  pub pairs : ArePairs k [] xs items
  pub few : leb (length xs) 4 ≡ true
  pub ranges : sorts_of xs ≡ sorts

-- a new name
pub record IsNew (k : Known) (name : List ℕ) (t : Tree) : Type 0 where
  pub word : IsWord name t
  pub new : is_new_name k name ≡ true

-- ---- items, and what is known behind them

-- (sort NAME) or (sort NAME finite)
pub record IsSort (k : Known) (s : Sort) (t : Tree) : Type 0 where
  pub n : Tree
  pub mark : List Tree
  pub list : Begins (codes "sort") (n ∷ mark) t
  pub name : IsNew k s.name n
  pub finite : IsMark (codes "finite") s.finite mark

abbrev pub add_sort : Known → Sort → Known
add_sort k s = record k { names = with_entry k.names s.name (N.Sort k.sorts); sorts = suc k.sorts }

pub data IsShape (k : Known) : Shape → List ℕ → Tree → Type 0 where
  -- relation .. (SORT ..)
  relation : {sorts : List SortId} {a : Tree} (items : List Tree) → IsList items a → Each (IsSortName k) sorts items → leb (length sorts) 4 ≡ true
      → IsShape k (S.Relation sorts) (codes "relation") a
  -- constant .. SORT
  constant : {sort : SortId} {a : Tree} → IsSortName k sort a → IsShape k (S.Constant sort) (codes "constant") a

-- (relation NAME (SORT ..)) or (constant NAME SORT), or with `fixed` at the end
pub record IsDeclared (k : Known) (s : Symbol) (t : Tree) : Type 0 where
  pub word : List ℕ
  pub n : Tree
  pub a : Tree
  pub mark : List Tree
  pub list : Begins word (n ∷ a ∷ mark) t
  pub name : IsNew k s.name n
  pub shape : IsShape k s.shape word a
  pub fixed : IsMark (codes "fixed") s.fixed mark

abbrev pub add_symbol : Known → Symbol → Known
add_symbol k s = record k { names = with_entry k.names s.name (N.Symbol k.symbols s.shape s.fixed); symbols = suc k.symbols }

-- (WORD F)
pub record IsLone (word : List ℕ) (role : Role) (room : ℕ) (vs : List Variable) (k : Known) (f : Formula) (t : Tree) : Type 0 where
  pub a : Tree
  pub list : Begins word (a ∷ []) t
  pub formula : IsState k role room vs f a

abbrev pub add_nothing : {X : Type 0} → Known → X → Known
add_nothing k x = k

-- a changing symbol that these updates don't set
pub record IsTarget (k : Known) (done : List ActionUpdate) (n : ℕ) (shape : Shape) (t : Tree) : Type 0 where
  pub text : List ℕ
  pub word : IsWord text t
  pub small : looks_small text ≡ true
  pub changing : named k text ≡ Some (N.Symbol n shape false)
  pub once : is_target n done ≡ false

-- VAR .., one for each sort
pub record AreNames (vs : List Variable) (sorts : List SortId) (xs : List Variable) (t : Tree) : Type 0 where
  pub items : List Tree
  pub list : IsList items t
  pub names : Each (λ x a. IsWord x.name a) xs items
  pub new : are_new_variables vs xs ≡ true
  pub ranges : sorts_of xs ≡ sorts

pub data IsUpdate (k : Known) (vs : List Variable) (done : List ActionUpdate) : ActionUpdate → Tree → Type 0 where
  -- (set R (VAR ..) F)
  relation : {n : ℕ} {sorts : List SortId} {body : Formula} {t : Tree} (xs : List Variable) (r args a : Tree) → Begins (codes "set") (r ∷ args ∷ a ∷ []) t → IsTarget k done n (S.Relation sorts) r
      → AreNames vs sorts xs args → IsState k R.State 57 (reverse xs ++ vs) body a → IsUpdate k vs done (U.Relation n body) t
  -- (set C TERM)
  constant : {n : ℕ} {sort : SortId} {term : Term} {t : Tree} (c a : Tree) → Begins (codes "set") (c ∷ a ∷ []) t → IsTarget k done n (S.Constant sort) c
      → IsTerm k R.State vs term sort a → IsUpdate k vs done (U.Constant n term) t

-- the updates behind these
pub data AreUpdates (k : Known) (vs : List Variable) : List ActionUpdate → List ActionUpdate → List Tree → Type 0 where
  no_updates : {done : List ActionUpdate} → AreUpdates k vs done [] []
  updates : {done us : List ActionUpdate} {u : ActionUpdate} {t : Tree} {ts : List Tree} → IsUpdate k vs done u t → AreUpdates k vs (done ++ u ∷ []) us ts → AreUpdates k vs done (u ∷ us) (t ∷ ts)

-- (action NAME (VAR SORT ..) (guard F) UPDATE ..)
pub record IsAction (k : Known) (action : Action) (t : Tree) : Type 0 where
  pub n : Tree
  pub params : Tree
  pub guard : Tree
  pub changes : List Tree
  pub list : Begins (codes "action") (n ∷ params ∷ guard ∷ changes) t
  pub name : IsNew k action.name n
  pub variables : List Variable
  pub parameters : AreParameters k action.params variables params
  pub guarded : IsLone (codes "guard") R.State 57 (reverse variables) k action.guard guard
  pub updated : AreUpdates k (reverse variables) [] action.updates changes

abbrev pub add_action : Known → Action → Known
add_action k a = record k { names = with_entry k.names a.name N.Action }

-- (fair NAME (VAR SORT ..) F)
pub record IsFair (k : Known) (fair : Fair) (t : Tree) : Type 0 where
  pub n : Tree
  pub params : Tree
  pub a : Tree
  pub list : Begins (codes "fair") (n ∷ params ∷ a ∷ []) t
  pub name : IsNew k fair.name n
  pub variables : List Variable
  pub parameters : AreParameters k fair.params variables params
  pub formula : IsState k R.State 58 (reverse variables) fair.condition a

abbrev pub add_fair : Known → Fair → Known
add_fair k c = record k { names = with_entry k.names c.name (N.Fair k.fairs c.params); fairs = suc k.fairs }

-- ---- labels: the label of a formula is the first of its labels

abbrev pub own_number : List Key → List Key → ℕ
own_number table [] = 0
own_number table (own ∷ inner) = number_of table own

abbrev pub own_sorts : List Key → List SortId
own_sorts [] = []
own_sorts (own ∷ inner) = own.sorts

-- the table of labels with those of a formula over these sorts
abbrev pub table_behind : Known → List SortId → Temporal → List Key
table_behind k sorts f = once_behind key_eq k.keys (keys_of f sorts)

-- the number of a declared label
abbrev pub label_number : Named → List ℕ
label_number (N.Label n sorts) = n ∷ []
label_number N.System = []
label_number (N.Sort n) = []
label_number (N.Symbol n shape fixed) = []
label_number N.Action = []
label_number (N.Fair n sorts) = []
label_number (N.Witness n sort) = []
label_number N.Invariant = []

abbrev pub label_numbers : List Entry → List ℕ
label_numbers [] = []
label_numbers (e ∷ es) = label_number e.1 ++ label_numbers es

abbrev pub number_in : Known → List SortId → Temporal → ℕ
number_in k sorts f = own_number (table_behind k sorts f) (keys_of f sorts)

-- (label NAME (VAR SORT ..) (always T)), with another label than those of the declarations before it
pub record IsLabel (k : Known) (label : LabelDecl) (t : Tree) : Type 0 where
  pub n : Tree
  pub params : Tree
  pub a : Tree
  pub list : Begins (codes "label") (n ∷ params ∷ a ∷ []) t
  pub name : IsNew k label.name n
  pub variables : List Variable
  pub parameters : AreParameters k label.params variables params
  pub inner : Temporal
  pub always : label.formula ≡ T.Always inner
  pub path : IsPath k R.Path (reverse variables) label.formula a
  pub once : is_among eqb (number_in k (reverse label.params) label.formula) (label_numbers k.names) ≡ false
  pub free : lists_free label ≡ true

abbrev pub add_label : Known → LabelDecl → Known
add_label k l = record k {
  names = with_entry k.names l.name (N.Label (number_in k (reverse l.params) l.formula) (own_sorts (keys_of l.formula (reverse l.params))));
  keys = table_behind k (reverse l.params) l.formula;
}

-- (witness NAME (VAR SORT) T)
pub record IsWitness (k : Known) (witness : WitnessDecl) (t : Tree) : Type 0 where
  pub n : Tree
  pub pair : Tree
  pub v : Tree
  pub s : Tree
  pub a : Tree
  pub list : Begins (codes "witness") (n ∷ pair ∷ a ∷ []) t
  pub name : IsNew k witness.name n
  pub variable : List ℕ
  pub bracket : IsList (v ∷ s ∷ []) pair
  pub binds : Binds k [] (record { name = variable; sort = witness.sort }) v s
  pub path : IsPath k R.Witness (record { name = variable; sort = witness.sort } ∷ []) witness.formula a

abbrev pub add_witness : Known → WitnessDecl → Known
add_witness k w = record k { names = with_entry k.names w.name (N.Witness k.witnesses w.sort); witnesses = suc k.witnesses; keys = table_behind k (w.sort ∷ []) w.formula }

-- (property T)
pub record IsProperty (k : Known) (property : Temporal) (t : Tree) : Type 0 where
  pub a : Tree
  pub list : Begins (codes "property") (a ∷ []) t
  pub path : IsPath k R.Path [] property a

abbrev pub add_property : Known → Temporal → Known
add_property k f = record k { keys = table_behind k [] f }

-- (invariant NAME F)
pub record IsInvariant (k : Known) (invariant : Invariant) (t : Tree) : Type 0 where
  pub n : Tree
  pub a : Tree
  pub list : Begins (codes "invariant") (n ∷ a ∷ []) t
  pub name : IsNew k invariant.name n
  pub formula : IsState k R.Invariant 58 [] invariant.formula a

abbrev pub add_invariant : Known → Invariant → Known
add_invariant k i = record k { names = with_entry k.names i.name N.Invariant }

-- ---- systems

abbrev pub known_first : List ℕ → Known
known_first name = record { names = (name, N.System) ∷ []; sorts = 0; symbols = 0; fairs = 0; witnesses = 0; keys = [] }

-- the trees of the items, kind by kind, and what is known behind each kind
pub record IsSystem (p : Parts) (t : Tree) : Type 0 where
  pub n : Tree
  pub sort_trees : List Tree
  pub symbol_trees : List Tree
  pub axiom_trees : List Tree
  pub init_trees : List Tree
  pub action_trees : List Tree
  pub fair_trees : List Tree
  pub label_trees : List Tree
  pub witness_trees : List Tree
  pub property_tree : Tree
  pub invariant_trees : List Tree
  pub list : Begins (codes "system") (n ∷ (sort_trees ++ (symbol_trees ++ (axiom_trees ++ (init_trees ++ (action_trees ++ (fair_trees ++ (label_trees ++ (witness_trees ++ (property_tree ∷ invariant_trees)))))))))) t
  pub name : IsWord p.name n
  pub named : is_name p.name ≡ true
  pub with_sorts : Known
  pub with_symbols : Known
  pub with_actions : Known
  pub with_fairs : Known
  pub with_labels : Known
  pub with_witnesses : Known
  pub with_all : Known
  pub sorts : Spell IsSort add_sort 16 (known_first p.name) p.sorts sort_trees with_sorts
  pub symbols : Spell IsDeclared add_symbol 256 with_sorts p.symbols symbol_trees with_symbols
  pub axioms : Spell (IsLone (codes "axiom") R.Axiom 58 []) add_nothing 64 with_symbols p.axioms axiom_trees with_symbols
  pub inits : Spell (IsLone (codes "init") R.State 58 []) add_nothing 64 with_symbols p.inits init_trees with_symbols
  pub actions : Spell IsAction add_action 32 with_symbols p.actions action_trees with_actions
  pub fairs : Spell IsFair add_fair 16 with_actions p.fairs fair_trees with_fairs
  pub labels : Spell IsLabel add_label 32 with_fairs p.labels label_trees with_labels
  pub witnesses : Spell IsWitness add_witness 16 with_labels p.witnesses witness_trees with_witnesses
  pub property : IsProperty with_witnesses p.property property_tree
  pub invariants : Spell IsInvariant add_invariant 256 (add_property with_witnesses p.property) p.invariants invariant_trees with_all
