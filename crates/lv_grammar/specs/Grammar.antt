-- Words, lists and marks in trees, and the items of a system in order.
use Rattle.std.specs.Prelude.{◌≡◌, ℕ, Bool, true, false, List, [], ◌∷◌, ◌++◌, Option, Some, None, slice_get}
use Rattle.lv_tree.specs.declared.tree.Tree.{Tree}
use Rattle.lv_formula.specs.declared.symbols.SortId.{SortId}
use Rattle.lv_system.specs.declared.parts.Parts.{Parts}
use Rattle.lv_system.specs.declared.parts.Symbol.{Symbol}
use Rattle.lv_system.specs.declared.parts.Shape.{Shape}
use Rattle.lv_system.specs.declared.parts.Shape.TheVariants.{Relation, Constant}
use Rattle.lv_grammar.specs.Trees.{word_of, items_of}

-- the trees spell the things, one by one
pub data Each {X : Type 0} (Spells : X → Tree → Type 0) : List X → List Tree → Type 0 where
  nothing : Each Spells [] []
  first_and_rest : {x : X} {xs : List X} {t : Tree} {ts : List Tree} → Spells x t → Each Spells xs ts → Each Spells (x ∷ xs) (t ∷ ts)

-- the tree is this word
abbrev pub IsWord : List ℕ → Tree → Type 0
IsWord text t = word_of t ≡ Some text

-- the tree is the list of these items
abbrev pub IsList : List Tree → Tree → Type 0
IsList items t = items_of t ≡ Some items

-- nothing, or this word as the last item
pub data IsMark (text : List ℕ) : Bool → List Tree → Type 0 where
  without : IsMark text false []
  with_word : {t : Tree} → IsWord text t → IsMark text true (t ∷ [])

abbrev pub shape_arguments : Shape → List SortId
shape_arguments (Relation sorts) = sorts
shape_arguments (Constant sort) = []

abbrev pub arguments_of : Option Symbol → List SortId
arguments_of None = []
arguments_of (Some s) = shape_arguments s.shape

-- the sorts of the arguments of the symbol with the number
abbrev pub argument_sorts : Parts → ℕ → List SortId
argument_sorts p n = arguments_of (slice_get p.symbols n)

-- the items of a system, kind by kind
pub record Items : Type 0 where
  pub sorts : List Tree
  pub symbols : List Tree
  pub axioms : List Tree
  pub inits : List Tree
  pub actions : List Tree
  pub fairs : List Tree
  pub labels : List Tree
  pub witnesses : List Tree
  pub property : Tree
  pub invariants : List Tree

abbrev pub in_order : Items → List Tree
in_order i =
    i.sorts ++ (i.symbols ++ (i.axioms ++ (i.inits ++ (i.actions ++ (i.fairs ++ (i.labels ++ (i.witnesses ++ (i.property ∷ i.invariants))))))))
