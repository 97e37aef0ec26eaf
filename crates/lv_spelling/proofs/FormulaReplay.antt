-- A formula by the rules is read.
use Rattle.std.proofs.Common.{◌≡◌, ℕ, zero, suc, ◌+◌, true, false, not, eqb, List, [], ◌∷◌, length, codes, refl, ap, ◌∙◌, arith}
use Rattle.std.proofs.lemmas.Bool.{eq-eqb}
use Rattle.lv_tree.specs.declared.tree.Tree.{Tree, out-Tree}
use Rattle.lv_formula.specs.declared.symbols.SortId.{SortId}
use Rattle.lv_formula.specs.declared.terms.Term.{Term}
use Rattle.lv_formula.specs.declared.temporal.Temporal.{Temporal}
use Rattle.lv_grammar.specs.Words.{Variable}
use Rattle.lv_grammar.specs.Grammar.{IsWord}
use Rattle.lv_grammar.specs.declared.reading.Role.{Role}
use Rattle.lv_grammar.specs.declared.reading.Family.{Family}
use Rattle.lv_fault.specs.Given.{headed_items}
use Rattle.lv_grammar.specs.WordKinds.{keyword_of, constant_keyword, connective_keyword, family_of}
use Rattle.lv_grammar.specs.ReadFormulas.{fail_arity, each, one_part, two_parts, operator_in, constant_term, term_by, term_in, term_of_sort, terms_in, word_formula, list_by, list_formula, bare_atom, listed_atom, equation_in, bound_part, flat, layer, formula_of}
use Rattle.lv_grammar.specs.Known.{Known, Constant}
use Rattle.lv_grammar.specs.Rules.{IsTerm, variable, constant, AreTerms, no_terms, terms, Begins, IsFormula, truth, falsity, bare_atom as is_bare_atom, atom, equation, negation, conjunction, disjunction, implication, equivalence, universal, existential, always, eventually, AreFormulas, no_formulas, formulas}
use Rattle.lv_grammar.proofs.Steps.{done}
use Rattle.lv_grammar.proofs.TreesAgain.{worded_again, listed_again, word_again}
use Rattle.lv_spelling.proofs.Variables.{new_again}
use Rattle.lv_spelling.proofs.WordAgain.{says_read, constant_again, relation_again, sort_name_again, not_variable, says_no_variable}
use Rattle.lv_spelling.proofs.WordKinds.{capital_family}
use Rattle.lv_grammar.specs.declared.reading.Family.TheVariants as Fam

not_same : (s : SortId) → not (eqb s.0 s.0) ≡ false
not_same s = ap not (eq-eqb s.0 s.0 refl)

module _ (k : Known) (role : Role) where
  -- ---- terms

  -- a constant's word is of no variable
  by_constant : (vs : List Variable) (at : ℕ) (text : List ℕ) (f : Family) (x : Term × SortId) → family_of text ≡ f → not_variable f ≡ true → constant_term k role at text ≡ done x → term_by k role vs at text f ≡ done x
  by_constant vs at text Fam.Variable x is not e = absurd cc
  by_constant vs at text Fam.Frozen x is not e = e
  by_constant vs at text Fam.Saved x is not e = e
  by_constant vs at text Fam.Dotted x is not e = e
  by_constant vs at text Fam.Name x is not e = e
  by_constant vs at text Fam.Other x is not e = e

  term_again : (vs : List Variable) (x : Term) (s : SortId) (t : Tree) → IsTerm k role vs x s t → term_in k role vs t ≡ done (x, s)
  unfolding term_in
  term_again vs x s t (variable name is capital e) = let w = word_again t name is in rw (w.1, capital_family name capital, e) refl
  term_again vs x s t (constant {sym = c} text is says) =
      let w = word_again t text is in
      let read : constant_term k role w.0 text ≡ done (x, s) = rw (constant_again k role w.0 text c s says) refl in
      rw w.1 (by_constant vs w.0 text (family_of text) (x, s) refl (says_no_variable k role text (Constant c s) says) read)

  pub sorted_again : (vs : List Variable) (x : Term) (s : SortId) (t : Tree) → IsTerm k role vs x s t → term_of_sort k role vs s t ≡ done x
  unfolding term_of_sort
  sorted_again vs x s t is = rw (term_again vs x s t is, not_same s) refl

  terms_again : (vs : List Variable) (xs : List Term) (ss : List SortId) (ts : List Tree) → AreTerms k role vs xs ss ts → (terms_in k role vs ss ts ≡ done xs) × (length ts ≡ length ss)
  unfolding terms_in
  terms_again vs xs ss ts no_terms = (refl, refl)
  terms_again vs xs ss ts (terms {x = x} {xs = ys} {s = s} {ss = rs} {t = t} {ts = us} is rest) =
      let more = terms_again vs ys rs us rest in
      (rw (sorted_again vs x s t is, more.0) refl, ap suc more.1)

  arity_again : (at end : ℕ) (a : Tree) (as' : List Tree) (ss : List SortId) → length (a ∷ as') ≡ length ss → fail_arity at end (a ∷ as') ss ≡ done tt
  arity_again at end a as' [] e = absurd cc
  arity_again at end a as' (s ∷ ss) e = rw (eq-eqb (length (a ∷ as')) (length ss + 1) (e ∙ add-one-turned (length ss))) refl where
    add-one-turned : (n : ℕ) → suc n ≡ n + 1
    add-one-turned n = omega arith

  -- ---- a word, and a list that begins with one

  word_read : (room iffs : ℕ) (vs : List Variable) (t : Tree) (text : List ℕ) → IsWord text t → (at : ℕ) × (formula_of k role room iffs vs t ≡ word_formula k role at text)
  unfolding formula_of
  word_read zero iffs vs t text is = let w = worded_again (out-Tree t) text is in (w.0, ap (flat k role) w.1)
  word_read (suc room) iffs vs t text is = let w = worded_again (out-Tree t) text is in (w.0, ap (layer k role (formula_of k role room) iffs vs) w.1)

  pub record Opens (room iffs : ℕ) (vs : List Variable) (word : List ℕ) (items : List Tree) (t : Tree) : Type 0 where
    pub at : ℕ
    pub end : ℕ
    pub word_at : ℕ
    pub is : formula_of k role (suc room) iffs vs t ≡ list_by k role (formula_of k role room) iffs vs (record { at = at; end = end; word = record { at = word_at; text = word }; rest = items }) (keyword_of word)

  opens : (room iffs : ℕ) (vs : List Variable) (word : List ℕ) (items : List Tree) (t : Tree) → Begins word items t → Opens room iffs vs word items t
  unfolding formula_of list_formula headed_items
  opens room iffs vs word items t b =
      let l = listed_again (out-Tree t) (b.head ∷ items) b.list in
      let w = word_again b.head word b.first in
      let first : list_formula k role (formula_of k role room) iffs vs l.0 l.1 (b.head ∷ items) ≡ list_by k role (formula_of k role room) iffs vs (record { at = l.0; end = l.1; word = record { at = w.0; text = word }; rest = items }) (keyword_of word)
      = rw w.1 refl in
      record { at = l.0; end = l.1; word_at = w.0; is = ap (layer k role (formula_of k role room) iffs vs) l.2 ∙ first }

  -- ---- formulas

  mutual
    unfolding constant_keyword connective_keyword each one_part two_parts operator_in bound_part equation_in listed_atom bare_atom

    pub formula_again : (room iffs : ℕ) (vs : List Variable) (f : Temporal) (t : Tree) → IsFormula k role room iffs vs f t → formula_of k role room iffs vs t ≡ done f
    formula_again room iffs vs f t (truth is) = (word_read room iffs vs t (codes "true") is).1
    formula_again room iffs vs f t (falsity is) = (word_read room iffs vs t (codes "false") is).1
    formula_again room iffs vs f t (is_bare_atom {sym = sym'} text is says) =
        let w = word_read room iffs vs t text is in
        let r = says_read k role w.0 text _ says in
        w.1 ∙ rw (r.plain, relation_again k role w.0 text sym' [] says) refl
    formula_again (suc room) iffs vs f t (atom {sym = sym'} {sorts = sorts} {xs = xs} text a as' begins says are) =
        let o = opens room iffs vs text (a ∷ as') t begins in
        let r = says_read k role o.word_at text _ says in
        let x = terms_again vs xs sorts (a ∷ as') are in
        o.is ∙ rw (r.plain, relation_again k role o.word_at text sym' sorts says, arity_again o.word_at o.end a as' sorts x.1, x.0) refl
    formula_again (suc room) iffs vs f t (equation {x = x} {y = y} {sort = s} a b begins is-x is-y) =
        let o = opens room iffs vs (codes "=") (a ∷ b ∷ []) t begins in
        o.is ∙ rw (term_again vs x s a is-x, sorted_again vs y s b is-y) refl
    formula_again (suc room) iffs vs f t (negation {f = g} a begins is) =
        let o = opens room iffs vs (codes "not") (a ∷ []) t begins in
        o.is ∙ rw (formula_again room iffs vs g a is) refl
    formula_again (suc room) iffs vs f t (conjunction {fs = fs} as' begins are) =
        let o = opens room iffs vs (codes "and") as' t begins in
        o.is ∙ rw (formulas_again room iffs vs fs as' are) refl
    formula_again (suc room) iffs vs f t (disjunction {fs = fs} as' begins are) =
        let o = opens room iffs vs (codes "or") as' t begins in
        o.is ∙ rw (formulas_again room iffs vs fs as' are) refl
    formula_again (suc room) iffs vs f t (implication {f = g} {g = h} a b begins is-a is-b) =
        let o = opens room iffs vs (codes "implies") (a ∷ b ∷ []) t begins in
        o.is ∙ rw (formula_again room iffs vs g a is-a, formula_again room iffs vs h b is-b) refl
    formula_again (suc room) (suc iffs) vs f t (equivalence {f = g} {g = h} a b begins is-a is-b) =
        let o = opens room (suc iffs) vs (codes "iff") (a ∷ b ∷ []) t begins in
        o.is ∙ rw (formula_again room iffs vs g a is-a, formula_again room iffs vs h b is-b) refl
    formula_again (suc room) iffs vs f t (universal {f = g} x v r a begins binds is) =
        let o = opens room iffs vs (codes "all") (v ∷ r ∷ a ∷ []) t begins in
        o.is ∙ rw (new_again vs x.name v binds.name binds.new, sort_name_again k x.sort r binds.sort, formula_again room iffs (x ∷ vs) g a is) refl
    formula_again (suc room) iffs vs f t (existential {f = g} x v r a begins binds is) =
        let o = opens room iffs vs (codes "some") (v ∷ r ∷ a ∷ []) t begins in
        o.is ∙ rw (new_again vs x.name v binds.name binds.new, sort_name_again k x.sort r binds.sort, formula_again room iffs (x ∷ vs) g a is) refl
    formula_again (suc room) iffs vs f t (always {f = g} a begins may is) =
        let o = opens room iffs vs (codes "always") (a ∷ []) t begins in
        o.is ∙ rw (may, formula_again room iffs vs g a is) refl
    formula_again (suc room) iffs vs f t (eventually {f = g} a begins may is) =
        let o = opens room iffs vs (codes "eventually") (a ∷ []) t begins in
        o.is ∙ rw (may, formula_again room iffs vs g a is) refl

    formulas_again : (room iffs : ℕ) (vs : List Variable) (fs : List Temporal) (ts : List Tree) → AreFormulas k role room iffs vs fs ts → each (formula_of k role room iffs vs) ts ≡ done fs
    formulas_again room iffs vs fs ts no_formulas = refl
    formulas_again room iffs vs fs ts (formulas {f = f} {fs = gs} {t = t} {ts = us} is rest) = rw (formula_again room iffs vs f t is, formulas_again room iffs vs gs us rest) refl
