-- The trees that are shown for the items of a system, and for the whole.
use Rattle.std.specs.Prelude.{ℕ, ◌+◌, Bool, true, false, List, [], ◌∷◌, length, map, codes}
use Rattle.lv_tree.specs.declared.tree.Tree.{Tree}
use Rattle.lv_formula.specs.declared.symbols.SortId.{SortId}
use Rattle.lv_formula.specs.declared.formula.Formula.{Formula}
use Rattle.lv_formula.specs.Measures.{at_most_u64}
use Rattle.lv_system.specs.declared.parts.Parts.{Parts}
use Rattle.lv_system.specs.declared.parts.Sort.{Sort}
use Rattle.lv_system.specs.declared.parts.Symbol.{Symbol}
use Rattle.lv_system.specs.declared.parts.Shape.{Shape}
use Rattle.lv_system.specs.declared.parts.Shape.TheVariants as S
use Rattle.lv_system.specs.declared.parts.Action.{Action}
use Rattle.lv_system.specs.declared.parts.ActionUpdate.{ActionUpdate}
use Rattle.lv_system.specs.declared.parts.ActionUpdate.TheVariants.{Relation, Constant}
use Rattle.lv_system.specs.declared.parts.Fair.{Fair}
use Rattle.lv_system.specs.declared.parts.LabelDecl.{LabelDecl}
use Rattle.lv_system.specs.declared.parts.WitnessDecl.{WitnessDecl}
use Rattle.lv_system.specs.declared.parts.Invariant.{Invariant}
use Rattle.lv_grammar.specs.Words.{sort_name, own_name}
use Rattle.lv_grammar.specs.Grammar.{Items, in_order, argument_sorts}
use Rattle.lv_grammar.specs.ShownFormulas.{word, list, variable_name, deeper, shown_term, shown_temporal, shown_formula}

-- nothing, or this word
abbrev pub shown_mark : List ℕ → Bool → List Tree
shown_mark text false = []
shown_mark text true = word text ∷ []

-- (sort NAME) or (sort NAME finite)
abbrev pub shown_sort : Sort → Tree
shown_sort s = list (word (codes "sort") ∷ word s.name ∷ shown_mark (codes "finite") s.finite)

abbrev pub shape_word : Shape → List ℕ
shape_word (S.Relation sorts) = codes "relation"
shape_word (S.Constant sort) = codes "constant"

abbrev pub shown_sort_name : Parts → SortId → Tree
shown_sort_name p sort = word (sort_name p sort)

-- (SORT ..) or SORT
abbrev pub shown_shape : Parts → Shape → Tree
shown_shape p (S.Relation sorts) = list (map (shown_sort_name p) sorts)
shown_shape p (S.Constant sort) = shown_sort_name p sort

-- (relation NAME (SORT ..)) or (constant NAME SORT), or with `fixed` at the end
abbrev pub shown_symbol : Parts → Symbol → Tree
shown_symbol p s = list (word (shape_word s.shape) ∷ word s.name ∷ shown_shape p s.shape ∷ shown_mark (codes "fixed") s.fixed)

-- VAR SORT .., in the scope of so many variables
abbrev pub shown_pairs : Parts → ℕ → List SortId → List Tree
shown_pairs p depth [] = []
shown_pairs p depth (s ∷ ss) = word (variable_name depth) ∷ shown_sort_name p s ∷ shown_pairs p (deeper depth) ss

-- VAR .., one for each sort
abbrev pub shown_names : ℕ → List SortId → List Tree
shown_names depth [] = []
shown_names depth (s ∷ ss) = word (variable_name depth) ∷ shown_names (deeper depth) ss

-- (VAR SORT ..)
abbrev pub shown_parameters : Parts → List SortId → Tree
shown_parameters p sorts = list (shown_pairs p 0 sorts)

-- (WORD F)
abbrev pub shown_lone : Parts → List ℕ → ℕ → Formula → Tree
shown_lone p text depth f = list (word text ∷ shown_formula p f depth ∷ [])

-- so many variables, and one for each of the sorts
abbrev pub deeper_by : ℕ → List SortId → ℕ
deeper_by depth sorts = at_most_u64 (depth + length sorts)

-- (set R (VAR ..) F) with these sorts of arguments
abbrev pub shown_setting : Parts → ℕ → ℕ → List SortId → Formula → Tree
shown_setting p depth symbol sorts body =
    list (word (codes "set") ∷ word (own_name p symbol) ∷ list (shown_names depth sorts) ∷ shown_formula p body (deeper_by depth sorts) ∷ [])

-- (set R (VAR ..) F) or (set C TERM), in the scope of so many variables
abbrev pub shown_update : Parts → ℕ → ActionUpdate → Tree
shown_update p depth (Relation symbol body) = shown_setting p depth symbol (argument_sorts p symbol) body
shown_update p depth (Constant symbol term) = list (word (codes "set") ∷ word (own_name p symbol) ∷ shown_term p depth term ∷ [])

-- (action NAME (VAR SORT ..) (guard F) UPDATE ..)
abbrev pub shown_action : Parts → Action → Tree
shown_action p a =
    list (word (codes "action") ∷ word a.name ∷ shown_parameters p a.params ∷ shown_lone p (codes "guard") (length a.params) a.guard ∷ map (shown_update p (length a.params)) a.updates)

-- (WORD NAME (VAR SORT ..) T), where the tree of T is this
abbrev pub shown_declaration : Parts → List ℕ → List ℕ → List SortId → Tree → Tree
shown_declaration p text name sorts t = list (word text ∷ word name ∷ shown_parameters p sorts ∷ t ∷ [])

-- (fair NAME (VAR SORT ..) F)
abbrev pub shown_fair : Parts → Fair → Tree
shown_fair p c = shown_declaration p (codes "fair") c.name c.params (shown_formula p c.condition (length c.params))

-- (label NAME (VAR SORT ..) T)
abbrev pub shown_label : Parts → LabelDecl → Tree
shown_label p l = shown_declaration p (codes "label") l.name l.params (shown_temporal p l.formula (length l.params))

-- (witness NAME (VAR SORT) T)
abbrev pub shown_witness : Parts → WitnessDecl → Tree
shown_witness p w = shown_declaration p (codes "witness") w.name (w.sort ∷ []) (shown_temporal p w.formula 1)

-- (property T)
abbrev pub shown_property : Parts → Tree
shown_property p = list (word (codes "property") ∷ shown_temporal p p.property 0 ∷ [])

-- (invariant NAME F)
abbrev pub shown_invariant : Parts → Invariant → Tree
shown_invariant p i = list (word (codes "invariant") ∷ word i.name ∷ shown_formula p i.formula 0 ∷ [])

abbrev pub shown_kinds : Parts → Items
shown_kinds p = record {
  sorts = map shown_sort p.sorts;
  symbols = map (shown_symbol p) p.symbols;
  axioms = map (shown_lone p (codes "axiom") 0) p.axioms;
  inits = map (shown_lone p (codes "init") 0) p.inits;
  actions = map (shown_action p) p.actions;
  fairs = map (shown_fair p) p.fairs;
  labels = map (shown_label p) p.labels;
  witnesses = map (shown_witness p) p.witnesses;
  property = shown_property p;
  invariants = map (shown_invariant p) p.invariants;
}

-- the items of the system, in order
abbrev pub shown_items : Parts → List Tree
shown_items p = in_order (shown_kinds p)

-- (system NAME ITEM ..)
abbrev pub shown_system : Parts → Tree
shown_system p = list (word (codes "system") ∷ word p.name ∷ shown_items p)
