-- Terms and formulas, read from trees in the scope of variables, of which the list has the innermost first.
use Rattle.std.specs.Prelude.{ℕ, zero, suc, ◌+◌, not, ltb, eqb, List, [], ◌∷◌, length, map, Option, Some, None, Result, Ok}
use Rattle.lv_tree.specs.declared.tree.Tree.{Tree, out-Tree}
use Rattle.lv_tree.specs.declared.tree.Tree.TheOpen.{Tree-F, Word, Group}
use Rattle.lv_formula.specs.declared.symbols.SortId.{SortId}
use Rattle.lv_formula.specs.declared.terms.Term.{Term}
use Rattle.lv_formula.specs.declared.terms.Term.TheVariants.{Var, Const}
use Rattle.lv_formula.specs.declared.formula.Formula.{Formula}
use Rattle.lv_formula.specs.declared.formula.Formula.TheVariants as F
use Rattle.lv_formula.specs.declared.temporal.Temporal.{Temporal}
use Rattle.lv_formula.specs.declared.temporal.Temporal.TheVariants as T
use Rattle.lv_formula.specs.declared.temporal.Temporal.TheOpen as TO
use Rattle.lv_formula.specs.declared.temporal.Temporal.TheFolds.{fold-Temporal}
use Rattle.lv_formula.specs.TemporalMeasures.{temporal_nodes_of}
use Rattle.lv_grammar.specs.Words.{Variable, variable_number}
use Rattle.lv_grammar.specs.declared.reading.Role.{Role}
use Rattle.lv_fault.specs.declared.fault.Kind.TheVariants.{Unexpected, Missing, UnknownName, WrongArity, WrongSort, TooMany}
use Rattle.lv_fault.specs.declared.fault.SyntaxFault.{SyntaxFault}
use Rattle.lv_grammar.specs.declared.reading.Family.{Family}
use Rattle.lv_grammar.specs.declared.reading.Family.TheVariants as Fam
use Rattle.lv_grammar.specs.declared.reading.Keyword.{Keyword}
use Rattle.lv_grammar.specs.declared.reading.Keyword.TheVariants as K
use Rattle.lv_grammar.specs.WordKinds.{keyword_of, family_of}
use Rattle.lv_grammar.specs.Known.{Known, is_temporal}
use Rattle.lv_grammar.specs.ReadWords.{relation_at, constant_at, new_variable, sort_in}
use Rattle.lv_grammar.specs.Rules.{sort_at}
use Rattle.lv_fault.specs.Given.{◌>>=◌, fail, fail_if, place_of, next_of, ended, word_in, Worded, Headed, headed_items}

-- ---- terms, with their sorts

abbrev pub variable_term : List Variable → ℕ → Option ℕ → Result (Term × SortId) SyntaxFault
variable_term vs at None = fail UnknownName at
variable_term vs at (Some i) = Ok (Var i, sort_at vs i)

abbrev pub constant_term : Known → Role → ℕ → List ℕ → Result (Term × SortId) SyntaxFault
constant_term k role at text = constant_at k role at text >>= λ c. Ok (Const c.0, c.1)

abbrev pub term_by : Known → Role → List Variable → ℕ → List ℕ → Family → Result (Term × SortId) SyntaxFault
term_by k role vs at text Fam.Variable = variable_term vs at (variable_number vs text)
term_by k role vs at text Fam.Frozen = constant_term k role at text
term_by k role vs at text Fam.Saved = constant_term k role at text
term_by k role vs at text Fam.Dotted = constant_term k role at text
term_by k role vs at text Fam.Name = constant_term k role at text
term_by k role vs at text Fam.Other = constant_term k role at text

unfoldable pub term_in : Known → Role → List Variable → Tree → Result (Term × SortId) SyntaxFault
term_in k role vs t = do
  w ← word_in t
  term_by k role vs w.at w.text (family_of w.text)

-- a term of this sort
unfoldable pub term_of_sort : Known → Role → List Variable → SortId → Tree → Result Term SyntaxFault
term_of_sort k role vs sort t = do
  x ← term_in k role vs t
  _ ← fail_if (not (eqb x.1.0 sort.0)) WrongSort (place_of t)
  Ok x.0

-- one term of each sort; as many were counted before
unfoldable pub terms_in : Known → Role → List Variable → List SortId → List Tree → Result (List Term) SyntaxFault
terms_in k role vs (s ∷ ss) (t ∷ ts) = do
  x ← term_of_sort k role vs s t
  xs ← terms_in k role vs ss ts
  Ok (x ∷ xs)
terms_in k role vs _ _ = Ok []

-- ---- atoms

-- a relation without arguments as a bare word
unfoldable pub bare_atom : Known → Role → ℕ → List ℕ → Result Temporal SyntaxFault
bare_atom k role at text = do
  r ← relation_at k role at text
  _ ← fail_if (not (eqb (length r.sorts) 0)) WrongArity at
  Ok (T.Atom r.sym [])

-- a list without a term behind a relation without arguments lacks one
abbrev pub fail_arity : ℕ → ℕ → List Tree → List SortId → Result (Unit {0}) SyntaxFault
fail_arity at end [] [] = fail Missing end
fail_arity at end (t ∷ ts) [] = fail WrongArity at
fail_arity at end items (s ∷ ss) = fail_if (not (eqb (length items) (length ss + 1))) WrongArity at

-- (R TERM ..), from the relation's word on
unfoldable pub listed_atom : Known → Role → List Variable → ℕ → Worded → List Tree → Result Temporal SyntaxFault
listed_atom k role vs end word items = do
  r ← relation_at k role word.at word.text
  _ ← fail_arity word.at end items r.sorts
  xs ← terms_in k role vs r.sorts items
  Ok (T.Atom r.sym xs)

-- (= TERM TERM)
unfoldable pub equation_in : Known → Role → List Variable → ℕ → List Tree → Result Temporal SyntaxFault
equation_in k role vs end items = do
  a ← next_of end items
  x ← term_in k role vs a.0
  b ← next_of end a.1
  y ← term_of_sort k role vs x.1 b.0
  _ ← ended b.1
  Ok (T.Same x.0 y)

-- ---- formulas

-- what reads the parts of a formula: how many `iff`s may still stand inside one another, the scope, and the part's tree
abbrev pub Reader : Type 0
Reader = ℕ → List Variable → Tree → Result Temporal SyntaxFault

unfoldable pub each : (Tree → Result Temporal SyntaxFault) → List Tree → Result (List Temporal) SyntaxFault
each part [] = Ok []
each part (t ∷ ts) = do
  f ← part t
  fs ← each part ts
  Ok (f ∷ fs)

unfoldable pub one_part : (Tree → Result Temporal SyntaxFault) → ℕ → List Tree → Result Temporal SyntaxFault
one_part part end items = do
  a ← next_of end items
  f ← part a.0
  _ ← ended a.1
  Ok f

unfoldable pub two_parts : (Tree → Result Temporal SyntaxFault) → ℕ → List Tree → Result (Temporal × Temporal) SyntaxFault
two_parts part end items = do
  a ← next_of end items
  f ← part a.0
  b ← next_of end a.1
  g ← part b.0
  _ ← ended b.1
  Ok (f, g)

-- VAR SORT F, of a quantifier
unfoldable pub bound_part : Known → (List Variable → Tree → Result Temporal SyntaxFault) → List Variable → ℕ → List Tree → Result (SortId × Temporal) SyntaxFault
bound_part k part vs end items = do
  a ← next_of end items
  name ← new_variable vs a.0
  b ← next_of end a.1
  sort ← sort_in k b.0
  c ← next_of end b.1
  f ← part (record { name = name; sort = sort } ∷ vs) c.0
  _ ← ended c.1
  Ok (sort, f)

-- an `iff` that stands inside two others is one too many
abbrev pub equivalence_in : Reader → ℕ → List Variable → ℕ → ℕ → List Tree → Result Temporal SyntaxFault
equivalence_in parts zero vs at end items = fail TooMany at
equivalence_in parts (suc iffs) vs at end items = two_parts (parts iffs vs) end items >>= λ p. Ok (T.Iff p.0 p.1)

-- a temporal operator, where one may stand
unfoldable pub operator_in : Role → (Tree → Result Temporal SyntaxFault) → (Temporal → Temporal) → ℕ → ℕ → List Tree → Result Temporal SyntaxFault
operator_in role part make word_at end items = do
  _ ← fail_if (not (is_temporal role)) Unexpected word_at
  f ← one_part part end items
  Ok (make f)

abbrev pub list_by : Known → Role → Reader → ℕ → List Variable → Headed → Option Keyword → Result Temporal SyntaxFault
list_by k role parts iffs vs h None = listed_atom k role vs h.end h.word h.rest
list_by k role parts iffs vs h (Some K.True) = fail Unexpected h.word.at
list_by k role parts iffs vs h (Some K.False) = fail Unexpected h.word.at
list_by k role parts iffs vs h (Some K.Equals) = equation_in k role vs h.end h.rest
list_by k role parts iffs vs h (Some K.Not) = one_part (parts iffs vs) h.end h.rest >>= λ f. Ok (T.Not f)
list_by k role parts iffs vs h (Some K.And) = each (parts iffs vs) h.rest >>= λ fs. Ok (T.And fs)
list_by k role parts iffs vs h (Some K.Or) = each (parts iffs vs) h.rest >>= λ fs. Ok (T.Or fs)
list_by k role parts iffs vs h (Some K.Implies) = two_parts (parts iffs vs) h.end h.rest >>= λ p. Ok (T.Implies p.0 p.1)
list_by k role parts iffs vs h (Some K.Iff) = equivalence_in parts iffs vs h.at h.end h.rest
list_by k role parts iffs vs h (Some K.All) = bound_part k (parts iffs) vs h.end h.rest >>= λ b. Ok (T.All b.0 b.1)
list_by k role parts iffs vs h (Some K.Some) = bound_part k (parts iffs) vs h.end h.rest >>= λ b. Ok (T.Any b.0 b.1)
list_by k role parts iffs vs h (Some K.Always) = operator_in role (parts iffs vs) T.Always h.word.at h.end h.rest
list_by k role parts iffs vs h (Some K.Eventually) = operator_in role (parts iffs vs) T.Eventually h.word.at h.end h.rest

unfoldable pub list_formula : Known → Role → Reader → ℕ → List Variable → ℕ → ℕ → List Tree → Result Temporal SyntaxFault
list_formula k role parts iffs vs at end items = do
  h ← headed_items at end items
  list_by k role parts iffs vs h (keyword_of h.word.text)

abbrev pub word_by : Known → Role → ℕ → List ℕ → Option Keyword → Result Temporal SyntaxFault
word_by k role at text None = bare_atom k role at text
word_by k role at text (Some K.True) = Ok T.True
word_by k role at text (Some K.False) = Ok T.False
word_by k role at text (Some _) = fail Unexpected at

abbrev pub word_formula : Known → Role → ℕ → List ℕ → Result Temporal SyntaxFault
word_formula k role at text = word_by k role at text (keyword_of text)

-- a list here is nested too deep
abbrev pub flat : Known → Role → Tree-F Tree → Result Temporal SyntaxFault
flat k role (Word at text) = word_formula k role at text
flat k role (Group at end items) = fail TooMany at

abbrev pub layer : Known → Role → Reader → ℕ → List Variable → Tree-F Tree → Result Temporal SyntaxFault
layer k role parts iffs vs (Word at text) = word_formula k role at text
layer k role parts iffs vs (Group at end items) = list_formula k role parts iffs vs at end items

-- a formula whose lists nest at most so deep
unfoldable pub formula_of : Known → Role → ℕ → Reader
formula_of k role zero iffs vs t = flat k role (out-Tree t)
formula_of k role (suc room) iffs vs t = layer k role (formula_of k role room) iffs vs (out-Tree t)

-- A whole formula: an `iff` stands inside at most one other, and there are at most 1,024 nodes, which are counted once it is read.
unfoldable pub temporal_in : Known → Role → ℕ → List Variable → Tree → Result Temporal SyntaxFault
temporal_in k role room vs t = do
  f ← formula_of k role room 2 vs t
  _ ← fail_if (ltb 1024 (temporal_nodes_of f)) TooMany (place_of t)
  Ok f

-- ---- formulas without temporal operators

-- the formula as one of a state; it has no temporal operator
abbrev pub state_step : TO.Temporal-F Formula → Formula
state_step TO.True = F.True
state_step TO.False = F.False
state_step (TO.Atom sym terms) = F.Atom sym terms
state_step (TO.Same a b) = F.Same a b
state_step (TO.Not f) = F.Not f
state_step (TO.And fs) = F.And fs
state_step (TO.Or fs) = F.Or fs
state_step (TO.Implies f g) = F.Implies f g
state_step (TO.Iff f g) = F.Iff f g
state_step (TO.All sort f) = F.All sort f
state_step (TO.Any sort f) = F.Any sort f
state_step (TO.Always f) = f
state_step (TO.Eventually f) = f

abbrev pub state_formula : Temporal → Formula
state_formula = fold-Temporal Formula state_step

abbrev pub state_formulas : List Temporal → List Formula
state_formulas = map state_formula

unfoldable pub formula_in : Known → Role → ℕ → List Variable → Tree → Result Formula SyntaxFault
formula_in k role room vs t = do
  f ← temporal_in k role room vs t
  Ok (state_formula f)

-- one formula, and nothing behind it
unfoldable pub lone_formula : Known → Role → ℕ → List Variable → ℕ → List Tree → Result Formula SyntaxFault
lone_formula k role room vs end items = do
  a ← next_of end items
  f ← formula_in k role room vs a.0
  _ ← ended a.1
  Ok f
