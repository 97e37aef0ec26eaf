-- The items of a system, read from trees.
use Rattle.std.specs.Prelude.{ℕ, ◌+◌, Bool, true, false, not, leb, eqb, List, [], ◌∷◌, ◌++◌, length, map, reverse, codes, Option, Some, None, Result, Ok}
use Rattle.lv_tree.specs.declared.tree.Tree.{Tree}
use Rattle.lv_formula.specs.declared.symbols.SortId.{SortId}
use Rattle.lv_formula.specs.declared.formula.Formula.{Formula}
use Rattle.lv_formula.specs.declared.temporal.Temporal.{Temporal}
use Rattle.lv_system.specs.declared.parts.Sort.{Sort}
use Rattle.lv_system.specs.declared.parts.Symbol.{Symbol}
use Rattle.lv_system.specs.declared.parts.Shape.{Shape}
use Rattle.lv_system.specs.declared.parts.Shape.TheVariants as S
use Rattle.lv_system.specs.declared.parts.Action.{Action}
use Rattle.lv_system.specs.declared.parts.ActionUpdate.{ActionUpdate}
use Rattle.lv_system.specs.declared.parts.ActionUpdate.TheVariants as U
use Rattle.lv_system.specs.declared.parts.Fair.{Fair}
use Rattle.lv_system.specs.declared.parts.LabelDecl.{LabelDecl}
use Rattle.lv_system.specs.declared.parts.WitnessDecl.{WitnessDecl}
use Rattle.lv_system.specs.declared.parts.Invariant.{Invariant}
use Rattle.lv_system.specs.Fits.{is_target}
use Rattle.lv_system.specs.Names.{same_text}
use Rattle.lv_labels.specs.Once.{is_among}
use Rattle.lv_labels.specs.Renaming.{free_variables}
use Rattle.lv_fault.specs.declared.fault.Kind.TheVariants.{Unexpected, Missing, UnknownName, TwiceNamed, IsFixed, SetTwice, TooMany}
use Rattle.lv_fault.specs.declared.fault.SyntaxFault.{SyntaxFault}
use Rattle.lv_fault.specs.Given.{◌>>=◌, fail, fail_if, place_of, next_of, ended, word_in, list_in, headed, Headed}
use Rattle.lv_grammar.specs.declared.reading.Family.{Family}
use Rattle.lv_grammar.specs.declared.reading.Family.TheVariants as Fam
use Rattle.lv_grammar.specs.declared.reading.Named.{Named}
use Rattle.lv_grammar.specs.declared.reading.Named.TheVariants as N
use Rattle.lv_grammar.specs.declared.reading.Role.{Role}
use Rattle.lv_grammar.specs.declared.reading.Role.TheVariants as R
use Rattle.lv_grammar.specs.Words.{Variable}
use Rattle.lv_grammar.specs.WordKinds.{family_of}
use Rattle.lv_grammar.specs.Known.{Known, named}
use Rattle.lv_grammar.specs.Rules.{number_in, label_numbers}
use Rattle.lv_grammar.specs.ReadWords.{new_name, new_variable, sort_in}
use Rattle.lv_grammar.specs.ReadFormulas.{lone_formula, term_of_sort}
use Rattle.lv_grammar.specs.Labelling.{path_in, free_name}

-- ---- what items have in common

abbrev pub marked_by : List ℕ → Tree → List Tree → Result Bool SyntaxFault
marked_by text t ts = do
  w ← word_in t
  _ ← fail_if (not (same_text w.text text)) Unexpected w.at
  _ ← ended ts
  Ok true

-- nothing, or this word as the last item
unfoldable pub mark_in : List ℕ → List Tree → Result Bool SyntaxFault
mark_in text [] = Ok false
mark_in text (t ∷ ts) = marked_by text t ts

-- SORT .., at most four, so many of which were before
unfoldable pub sorts_from : Known → ℕ → List Tree → Result (List SortId) SyntaxFault
sorts_from k n [] = Ok []
sorts_from k n (t ∷ ts) = do
  s ← sort_in k t
  _ ← fail_if (leb 4 n) TooMany (place_of t)
  ss ← sorts_from k (n + 1) ts
  Ok (s ∷ ss)

-- a variable with the place where it is declared
pub record Declared : Type 0 where
  pub at : ℕ
  pub variable : Variable

-- VAR SORT .., at most four pairs, so many of which were before; the first variable is the outermost
unfoldable pub pairs_from : Known → ℕ → List Variable → ℕ → List Tree → Result (List Declared) SyntaxFault
pairs_from k n vs end [] = Ok []
pairs_from k n vs end (t ∷ []) = do
  name ← new_variable vs t
  _ ← fail_if (leb 4 n) TooMany (place_of t)
  fail Missing end
pairs_from k n vs end (t ∷ u ∷ ts) = do
  name ← new_variable vs t
  _ ← fail_if (leb 4 n) TooMany (place_of t)
  sort ← sort_in k u
  xs ← pairs_from k (n + 1) (record { name = name; sort = sort } ∷ vs) end ts
  Ok (record { at = place_of t; variable = record { name = name; sort = sort } } ∷ xs)

-- (VAR SORT ..)
unfoldable pub parameters_in : Known → Tree → Result (List Declared) SyntaxFault
parameters_in k t = do
  l ← list_in t
  pairs_from k 0 [] l.end l.items

abbrev pub variables_of : List Declared → List Variable
variables_of xs = map (λ x. x.variable) xs

-- the scope of the parameters, the innermost first
abbrev pub scope_of : List Declared → List Variable
scope_of xs = reverse (variables_of xs)

abbrev pub ranges_of : List Declared → List SortId
ranges_of xs = map (λ x. x.variable.sort) xs

abbrev pub places_of : List Declared → List ℕ
places_of xs = map (λ x. x.at) xs

-- a name, and what follows it
unfoldable pub name_in : Known → ℕ → List Tree → Result (List ℕ × List Tree) SyntaxFault
name_in k end items = do
  a ← next_of end items
  name ← new_name k a.0
  Ok (name, a.1)

-- NAME (VAR SORT ..), and what follows
pub record Opened : Type 0 where
  pub name : List ℕ
  pub params : List Declared
  pub rest : List Tree

unfoldable pub opened_in : Known → ℕ → List Tree → Result Opened SyntaxFault
opened_in k end items = do
  n ← name_in k end items
  b ← next_of end n.1
  xs ← parameters_in k b.0
  Ok (record { name = n.0; params = xs; rest = b.1 })

-- ---- lists in a system nest at most 60 deep: a formula in an item 58, one list further in 57

-- (sort NAME) or (sort NAME finite)
unfoldable pub sort_item : Known → Headed → Result Sort SyntaxFault
sort_item k h = do
  n ← name_in k h.end h.rest
  finite ← mark_in (codes "finite") n.1
  Ok (record { name = n.0; finite = finite })

unfoldable pub sorts_in : Known → Tree → Result (List SortId) SyntaxFault
sorts_in k t = do
  l ← list_in t
  sorts_from k 0 l.items

-- (relation NAME (SORT ..)), or with `fixed` at the end
unfoldable pub relation_item : Known → Headed → Result Symbol SyntaxFault
relation_item k h = do
  n ← name_in k h.end h.rest
  b ← next_of h.end n.1
  sorts ← sorts_in k b.0
  fixed ← mark_in (codes "fixed") b.1
  Ok (record { name = n.0; shape = S.Relation sorts; fixed = fixed })

-- (constant NAME SORT), or with `fixed` at the end
unfoldable pub constant_item : Known → Headed → Result Symbol SyntaxFault
constant_item k h = do
  n ← name_in k h.end h.rest
  b ← next_of h.end n.1
  sort ← sort_in k b.0
  fixed ← mark_in (codes "fixed") b.1
  Ok (record { name = n.0; shape = S.Constant sort; fixed = fixed })

-- (guard F)
unfoldable pub guard_in : Known → List Variable → Tree → Result Formula SyntaxFault
guard_in k vs t = do
  h ← headed t
  _ ← fail_if (not (same_text h.word.text (codes "guard"))) Unexpected h.word.at
  lone_formula k R.State 57 vs h.end h.rest

-- a symbol that is to be set: its number and its shape
pub record Target : Type 0 where
  pub symbol : ℕ
  pub shape : Shape

abbrev pub target_symbol : List ActionUpdate → ℕ → ℕ → Shape → Bool → Result Target SyntaxFault
target_symbol done at n shape fixed = do
  _ ← fail_if fixed IsFixed at
  _ ← fail_if (is_target n done) SetTwice at
  Ok (record { symbol = n; shape = shape })

abbrev pub target_named : List ActionUpdate → ℕ → Option Named → Result Target SyntaxFault
target_named done at None = fail UnknownName at
target_named done at (Some (N.Symbol n shape fixed)) = target_symbol done at n shape fixed
target_named done at (Some _) = fail Unexpected at

abbrev pub target_by : Known → List ActionUpdate → ℕ → List ℕ → Family → Result Target SyntaxFault
target_by k done at text Fam.Name = target_named done at (named k text)
target_by k done at text Fam.Frozen = fail Unexpected at
target_by k done at text Fam.Saved = fail Unexpected at
target_by k done at text Fam.Dotted = fail Unexpected at
target_by k done at text Fam.Variable = fail Unexpected at
target_by k done at text Fam.Other = fail Unexpected at

-- a changing symbol that isn't set yet
unfoldable pub target_in : Known → List ActionUpdate → Tree → Result Target SyntaxFault
target_in k done t = do
  w ← word_in t
  target_by k done w.at w.text (family_of w.text)

-- VAR .., one for each sort; the first variable is the outermost
unfoldable pub arguments_from : List Variable → List SortId → ℕ → List Tree → Result (List Variable) SyntaxFault
arguments_from vs [] end [] = Ok []
arguments_from vs [] end (t ∷ ts) = fail Unexpected (place_of t)
arguments_from vs (s ∷ ss) end [] = fail Missing end
arguments_from vs (s ∷ ss) end (t ∷ ts) = do
  name ← new_variable vs t
  xs ← arguments_from (record { name = name; sort = s } ∷ vs) ss end ts
  Ok (record { name = name; sort = s } ∷ xs)

unfoldable pub arguments_in : List Variable → List SortId → Tree → Result (List Variable) SyntaxFault
arguments_in vs sorts t = do
  l ← list_in t
  arguments_from vs sorts l.end l.items

-- (VAR ..) F, of the update of a relation
unfoldable pub relation_update : Known → List Variable → ℕ → List SortId → ℕ → List Tree → Result ActionUpdate SyntaxFault
relation_update k vs symbol sorts end items = do
  a ← next_of end items
  xs ← arguments_in vs sorts a.0
  body ← lone_formula k R.State 57 (reverse xs ++ vs) end a.1
  Ok (U.Relation symbol body)

-- TERM, of the update of a constant
unfoldable pub constant_update : Known → List Variable → ℕ → SortId → ℕ → List Tree → Result ActionUpdate SyntaxFault
constant_update k vs symbol sort end items = do
  a ← next_of end items
  term ← term_of_sort k R.State vs sort a.0
  _ ← ended a.1
  Ok (U.Constant symbol term)

abbrev pub update_by : Known → List Variable → ℕ → ℕ → List Tree → Shape → Result ActionUpdate SyntaxFault
update_by k vs symbol end items (S.Relation sorts) = relation_update k vs symbol sorts end items
update_by k vs symbol end items (S.Constant sort) = constant_update k vs symbol sort end items

-- (set R (VAR ..) F) or (set C TERM)
unfoldable pub update_in : Known → List Variable → List ActionUpdate → Tree → Result ActionUpdate SyntaxFault
update_in k vs done t = do
  h ← headed t
  _ ← fail_if (not (same_text h.word.text (codes "set"))) Unexpected h.word.at
  a ← next_of h.end h.rest
  target ← target_in k done a.0
  update_by k vs target.symbol h.end a.1 target.shape

unfoldable pub updates_in : Known → List Variable → List ActionUpdate → List Tree → Result (List ActionUpdate) SyntaxFault
updates_in k vs done [] = Ok done
updates_in k vs done (t ∷ ts) = do
  u ← update_in k vs done t
  updates_in k vs (done ++ u ∷ []) ts

-- (action NAME (VAR SORT ..) (guard F) UPDATE ..)
unfoldable pub action_item : Known → Headed → Result Action SyntaxFault
action_item k h = do
  o ← opened_in k h.end h.rest
  a ← next_of h.end o.rest
  guard ← guard_in k (scope_of o.params) a.0
  updates ← updates_in k (scope_of o.params) [] a.1
  Ok (record { name = o.name; params = ranges_of o.params; guard = guard; updates = updates })

-- (fair NAME (VAR SORT ..) F)
unfoldable pub fair_item : Known → Headed → Result Fair SyntaxFault
fair_item k h = do
  o ← opened_in k h.end h.rest
  f ← lone_formula k R.State 58 (scope_of o.params) h.end o.rest
  Ok (record { name = o.name; params = ranges_of o.params; condition = f })

-- (invariant NAME F)
unfoldable pub invariant_item : Known → Headed → Result Invariant SyntaxFault
invariant_item k h = do
  n ← name_in k h.end h.rest
  f ← lone_formula k R.Invariant 58 [] h.end n.1
  Ok (record { name = n.0; formula = f })

-- (always T)
unfoldable pub always_in : Known → List Variable → Tree → Result Temporal SyntaxFault
always_in k vs t = do
  h ← headed t
  _ ← fail_if (not (same_text h.word.text (codes "always"))) Unexpected h.word.at
  path_in k R.Path vs t

-- once the formula is read: another label than those of earlier declarations, and the listed variables are the free ones
unfoldable pub label_checked : Known → ℕ → Opened → Temporal → Result LabelDecl SyntaxFault
label_checked k name_at o f = do
  _ ← fail_if (is_among eqb (number_in k (reverse (ranges_of o.params)) f) (label_numbers k.names)) TwiceNamed name_at
  _ ← free_name (places_of o.params) (length o.params) (free_variables f)
  Ok (record { name = o.name; params = ranges_of o.params; formula = f })

abbrev pub place_of_first : ℕ → List Tree → ℕ
place_of_first end [] = end
place_of_first end (t ∷ ts) = place_of t

-- (label NAME (VAR SORT ..) (always T))
unfoldable pub label_item : Known → Headed → Result LabelDecl SyntaxFault
label_item k h = do
  o ← opened_in k h.end h.rest
  a ← next_of h.end o.rest
  f ← always_in k (scope_of o.params) a.0
  l ← label_checked k (place_of_first h.end h.rest) o f
  _ ← ended a.1
  Ok l

-- (VAR SORT), and nothing more
unfoldable pub one_pair : Known → Tree → Result Variable SyntaxFault
one_pair k t = do
  l ← list_in t
  a ← next_of l.end l.items
  name ← new_variable [] a.0
  b ← next_of l.end a.1
  sort ← sort_in k b.0
  _ ← ended b.1
  Ok (record { name = name; sort = sort })

unfoldable pub witness_item : Known → Headed → Result WitnessDecl SyntaxFault
witness_item k h = do
  n ← name_in k h.end h.rest
  b ← next_of h.end n.1
  x ← one_pair k b.0
  c ← next_of h.end b.1
  f ← path_in k R.Witness (x ∷ []) c.0
  _ ← ended c.1
  Ok (record { name = n.0; sort = x.sort; formula = f })

-- (property T)
unfoldable pub property_item : Known → Headed → Result Temporal SyntaxFault
property_item k h = do
  a ← next_of h.end h.rest
  f ← path_in k R.Path [] a.0
  _ ← ended a.1
  Ok f
