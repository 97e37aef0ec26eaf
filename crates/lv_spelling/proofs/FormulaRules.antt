-- A formula that is read is one by the rules.
use Rattle.std.proofs.Common.{◌≡◌, ℕ, zero, suc, ◌+◌, true, false, not, eqb, List, [], ◌∷◌, length, codes, Option, Some, None, refl, ap, subst, ◌∙◌, arith}
use Rattle.std.proofs.lemmas.Bool.{eqb-true}
use Rattle.lv_tree.specs.declared.tree.Tree.{Tree, Tree-F, out-Tree}
use Rattle.lv_tree.specs.declared.tree.Tree.TheOpen.{Word, Group}
use Rattle.lv_formula.specs.declared.symbols.SortId.{SortId}
use Rattle.lv_formula.specs.declared.terms.Term.{Term}
use Rattle.lv_formula.specs.declared.terms.Term.TheVariants.{Var, Const}
use Rattle.lv_formula.specs.declared.temporal.Temporal.{Temporal}
use Rattle.lv_grammar.specs.Words.{Variable, variable_number}
use Rattle.lv_grammar.specs.Grammar.{IsWord, IsList}
use Rattle.lv_grammar.specs.declared.reading.Role.{Role}
use Rattle.lv_grammar.specs.declared.reading.Family.{Family}
use Rattle.lv_grammar.specs.declared.reading.Keyword.{Keyword}
use Rattle.lv_fault.specs.Given.{Worded, word_in, Headed, headed_items}
use Rattle.lv_grammar.specs.WordKinds.{keyword_of, family_of}
use Rattle.lv_grammar.specs.ReadWords.{new_variable, relation_at, constant_at, sort_in}
use Rattle.lv_grammar.specs.Known.{is_temporal, Known, Relation, Says, looks_capital}
use Rattle.lv_grammar.specs.Rules.{sort_at, IsTerm, variable, constant, AreTerms, no_terms, terms, Begins, Binds, IsFormula, truth, falsity, bare_atom as is_bare_atom, atom, equation, negation, conjunction, disjunction, implication, equivalence, universal, existential, always, eventually, AreFormulas, no_formulas, formulas}
use Rattle.lv_grammar.specs.ReadFormulas.{variable_term, fail_arity, Reader, each, one_part, two_parts, operator_in, constant_term, term_by, term_in, term_of_sort, terms_in, bare_atom, listed_atom, equation_in, bound_part, list_by, list_formula, word_by, flat, layer, formula_of}
use Rattle.lv_grammar.proofs.Steps.{done, ok_is, bound, passes, passed, nothing_left, one_more, word_found, Heads, heads}
use Rattle.lv_spelling.proofs.Keywords.{keyword_is}
use Rattle.lv_spelling.proofs.Families.{family_says, Says as FamilySays}
use Rattle.lv_spelling.proofs.Variables.{variable_found}
use Rattle.lv_spelling.proofs.Tests.{not_false}
use Rattle.lv_spelling.proofs.WordSays.{relation_says, constant_says, sort_is}
use Rattle.lv_formula.specs.declared.temporal.Temporal.TheVariants as T
use Rattle.lv_grammar.specs.Trees as Trees
use Rattle.lv_grammar.specs.declared.reading.Family.TheVariants as Fam
use Rattle.lv_grammar.specs.declared.reading.Keyword.TheVariants as K

same_sort : (a b : SortId) → not (eqb a.0 b.0) ≡ false → a ≡ b
same_sort a b e = ap (λ n. record { 0 = n }) (eqb-true a.0 b.0 (not_false (eqb a.0 b.0) e))

no_sorts : (sorts : List SortId) → not (eqb (length sorts) 0) ≡ false → sorts ≡ []
no_sorts [] e = refl
no_sorts (s ∷ ss) e = let z = eqb-true (length (s ∷ ss)) 0 (not_false _ e) in absurd (omega (arith, z))

module _ (k : Known) (role : Role) where
  -- ---- terms

  abbrev SpelledTerm : List Variable → Tree → Term × SortId → Type 0
  SpelledTerm vs t x = IsTerm k role vs x.0 x.1 t

  variable_is : (vs : List Variable) (t : Tree) (w : Worded) (o : Option ℕ) (x : Term × SortId) → IsWord w.text t → looks_capital w.text ≡ true → variable_number vs w.text ≡ o → variable_term vs w.at o ≡ done x → SpelledTerm vs t x
  variable_is vs t w None x is capital e f = absurd cc
  variable_is vs t w (Some i) x is capital e f = subst (SpelledTerm vs t) (ok_is (Var i, sort_at vs i) x f) (variable w.text is capital e)

  constant_is : (vs : List Variable) (t : Tree) (w : Worded) (x : Term × SortId) → IsWord w.text t → constant_term k role w.at w.text ≡ done x → SpelledTerm vs t x
  constant_is vs t w x is e =
      let c = bound (constant_at k role w.at w.text) _ x e in
      subst (SpelledTerm vs t) (ok_is (Const c.0.0, c.0.1) x c.2) (constant w.text is (constant_says k role w.at w.text c.0 c.1))

  term_by_is : (vs : List Variable) (t : Tree) (w : Worded) (f : Family) (x : Term × SortId) → IsWord w.text t → FamilySays w.text f → term_by k role vs w.at w.text f ≡ done x → SpelledTerm vs t x
  term_by_is vs t w Fam.Variable x is says e = variable_is vs t w (variable_number vs w.text) x is says refl e
  term_by_is vs t w Fam.Frozen x is says e = constant_is vs t w x is e
  term_by_is vs t w Fam.Saved x is says e = constant_is vs t w x is e
  term_by_is vs t w Fam.Dotted x is says e = constant_is vs t w x is e
  term_by_is vs t w Fam.Name x is says e = constant_is vs t w x is e
  term_by_is vs t w Fam.Other x is says e = constant_is vs t w x is e

  pub term_is : (vs : List Variable) (t : Tree) (x : Term × SortId) → term_in k role vs t ≡ done x → SpelledTerm vs t x
  unfolding term_in
  term_is vs t x e =
      let w = bound (word_in t) _ x e in
      term_by_is vs t w.0 (family_of w.0.text) x (word_found t w.0 w.1) (family_says w.0.text) w.2

  pub sorted_is : (vs : List Variable) (sort : SortId) (t : Tree) (x : Term) → term_of_sort k role vs sort t ≡ done x → IsTerm k role vs x sort t
  unfolding term_of_sort
  sorted_is vs sort t x e =
      let y = bound (term_in k role vs t) _ x e in
      let q = passed (not (eqb y.0.1.0 sort.0)) _ _ _ x y.2 in
      subst (λ s. IsTerm k role vs x s t) (same_sort y.0.1 sort q.0) (subst (λ z. IsTerm k role vs z y.0.1 t) (ok_is y.0.0 x q.1) (term_is vs t y.0 y.1))

  terms_are : (vs : List Variable) (ss : List SortId) (ts : List Tree) (xs : List Term) → length ts ≡ length ss → terms_in k role vs ss ts ≡ done xs → AreTerms k role vs xs ss ts
  unfolding terms_in
  terms_are vs [] [] xs l e = subst (λ z. AreTerms k role vs z [] []) (ok_is [] xs e) no_terms
  terms_are vs [] (t ∷ ts) xs l e = absurd (omega (arith, l))
  terms_are vs (s ∷ ss) [] xs l e = absurd (omega (arith, l))
  terms_are vs (s ∷ ss) (t ∷ ts) xs l e =
      let a = bound (term_of_sort k role vs s t) _ xs e in
      let b = bound (terms_in k role vs ss ts) _ xs a.2 in
      subst (λ z. AreTerms k role vs z (s ∷ ss) (t ∷ ts)) (ok_is (a.0 ∷ b.0) xs b.2) (terms (sorted_is vs s t a.0 a.1) (terms_are vs ss ts b.0 (omega (arith, l)) b.1))

  -- ---- parts

  abbrev Is : ℕ → ℕ → List Variable → Tree → Temporal → Type 0
  Is room iffs vs t f = IsFormula k role room iffs vs f t

  abbrev Reads : ℕ → Reader → Type 0
  Reads room parts = (iffs : ℕ) (vs : List Variable) (t : Tree) (f : Temporal) → parts iffs vs t ≡ done f → Is room iffs vs t f

  -- a list that begins with the word, and what it holds
  begins : (word : List ℕ) (h : Headed) (items rest : List Tree) (t : Tree) → IsList items t → Heads h items → h.word.text ≡ word → h.rest ≡ rest → Begins word rest t
  begins word h items rest t list heads text is = record {
    head = heads.first;
    list = subst (λ z. IsList z t) (heads.whole ∙ ap (λ z. heads.first ∷ z) is) list;
    first = heads.word ∙ ap Some text;
  }

  module _ (room : ℕ) (parts : Reader) (reads : Reads room parts) where
    each_is : (iffs : ℕ) (vs : List Variable) (ts : List Tree) (fs : List Temporal) → each (parts iffs vs) ts ≡ done fs → AreFormulas k role room iffs vs fs ts
    unfolding each
    each_is iffs vs [] fs e = subst (λ z. AreFormulas k role room iffs vs z []) (ok_is [] fs e) no_formulas
    each_is iffs vs (t ∷ ts) fs e =
        let a = bound (parts iffs vs t) _ fs e in
        let b = bound (each (parts iffs vs) ts) _ fs a.2 in
        subst (λ z. AreFormulas k role room iffs vs z (t ∷ ts)) (ok_is (a.0 ∷ b.0) fs b.2) (formulas (reads iffs vs t a.0 a.1) (each_is iffs vs ts b.0 b.1))

    one_is : (iffs : ℕ) (vs : List Variable) (end : ℕ) (items : List Tree) (f : Temporal) → one_part (parts iffs vs) end items ≡ done f → (a : Tree) × (items ≡ a ∷ []) × Is room iffs vs a f
    unfolding one_part
    one_is iffs vs end items f e =
        let a = one_more end items _ f e in
        let g = bound (parts iffs vs a.0) _ f a.3 in
        let z = nothing_left a.1 _ f g.2 in
        (a.0, a.2 ∙ ap (λ ts. a.0 ∷ ts) z.0, subst (Is room iffs vs a.0) (ok_is g.0 f z.1) (reads iffs vs a.0 g.0 g.1))

    two_are : (iffs : ℕ) (vs : List Variable) (end : ℕ) (items : List Tree) (y : Temporal × Temporal) → two_parts (parts iffs vs) end items ≡ done y
        → (a : Tree) × (b : Tree) × (items ≡ a ∷ b ∷ []) × Is room iffs vs a y.0 × Is room iffs vs b y.1
    unfolding two_parts
    two_are iffs vs end items y e =
        let a = one_more end items _ y e in
        let f = bound (parts iffs vs a.0) _ y a.3 in
        let b = one_more end a.1 _ y f.2 in
        let g = bound (parts iffs vs b.0) _ y b.3 in
        let z = nothing_left b.1 _ y g.2 in
        let both = subst (λ (q : Temporal × Temporal). Is room iffs vs a.0 q.0 × Is room iffs vs b.0 q.1) (ok_is (f.0, g.0) y z.1) (reads iffs vs a.0 f.0 f.1, reads iffs vs b.0 g.0 g.1) in
        (a.0, b.0, a.2 ∙ ap (λ ts. a.0 ∷ ts) (b.2 ∙ ap (λ ts. b.0 ∷ ts) z.0), both.0, both.1)

    pub record Bound (iffs : ℕ) (vs : List Variable) (items : List Tree) (y : SortId × Temporal) : Type 0 where
      pub x : Variable
      pub v : Tree
      pub r : Tree
      pub a : Tree
      pub whole : items ≡ v ∷ r ∷ a ∷ []
      pub binds : Binds k vs x v r
      pub part : Is room iffs (x ∷ vs) a y.1
      pub sort : x.sort ≡ y.0

    bound_is : (iffs : ℕ) (vs : List Variable) (end : ℕ) (items : List Tree) (y : SortId × Temporal) → bound_part k (parts iffs) vs end items ≡ done y → Bound iffs vs items y
    unfolding bound_part
    bound_is iffs vs end items y e =
        let a = one_more end items _ y e in
        let name = bound (new_variable vs a.0) _ y a.3 in
        let b = one_more end a.1 _ y name.2 in
        let s = bound (sort_in k b.0) _ y b.3 in
        let c = one_more end b.1 _ y s.2 in
        let f = bound (parts iffs (record { name = name.0; sort = s.0 } ∷ vs) c.0) _ y c.3 in
        let z = nothing_left c.1 _ y f.2 in
        let found = variable_found vs a.0 name.0 name.1 in
        subst (Bound iffs vs items) (ok_is (s.0, f.0) y z.1) (record {
          x = record { name = name.0; sort = s.0 };
          v = a.0;
          r = b.0;
          a = c.0;
          whole = a.2 ∙ ap (λ ts. a.0 ∷ ts) (b.2 ∙ ap (λ ts. b.0 ∷ ts) (c.2 ∙ ap (λ ts. c.0 ∷ ts) z.0));
          binds = record { name = found.word; new = found.new; sort = sort_is k b.0 s.0 s.1 };
          part = reads iffs (record { name = name.0; sort = s.0 } ∷ vs) c.0 f.0 f.1;
          sort = refl;
        })

    operator_is : (iffs : ℕ) (vs : List Variable) (make : Temporal → Temporal) (at end : ℕ) (items : List Tree) (f : Temporal) → operator_in role (parts iffs vs) make at end items ≡ done f
        → (is_temporal role ≡ true) × (g : Temporal) × (make g ≡ f) × (a : Tree) × (items ≡ a ∷ []) × Is room iffs vs a g
    unfolding operator_in
    operator_is iffs vs make at end items f e =
        let q = passed (not (is_temporal role)) _ _ _ f e in
        let g = bound (one_part (parts iffs vs) end items) _ f q.1 in
        let a = one_is iffs vs end items g.0 g.1 in
        (not_false (is_temporal role) q.0, g.0, ok_is (make g.0) f g.2, a.0, a.1, a.2)

    -- ---- atoms

    -- the terms are as many as the sorts, and there is one at least
    arity_is : (at end : ℕ) (items : List Tree) (sorts : List SortId) (u : Unit {0}) → fail_arity at end items sorts ≡ done u → (a : Tree) × (rest : List Tree) × (items ≡ a ∷ rest) × (length items ≡ length sorts)
    arity_is at end [] [] u e = absurd cc
    arity_is at end (t ∷ ts) [] u e = absurd cc
    arity_is at end [] (s ∷ ss) u e = let z = eqb-true 0 (length ss + 1) (not_false _ (passes _ _ _ u e)) in absurd (omega (arith, z))
    arity_is at end (t ∷ ts) (s ∷ ss) u e = let z = eqb-true (length (t ∷ ts)) (length ss + 1) (not_false _ (passes _ _ _ u e)) in (t, ts, refl, omega (arith, z))

    -- ---- lists

    list_is : (iffs : ℕ) (vs : List Variable) (h : Headed) (t : Tree) (f : Temporal) (o : Option Keyword) → ((word : List ℕ) (rest : List Tree) → h.word.text ≡ word → h.rest ≡ rest → Begins word rest t)
        → keyword_of h.word.text ≡ o → list_by k role parts iffs vs h o ≡ done f → Is (suc room) iffs vs t f
    unfolding listed_atom equation_in
    list_is iffs vs h t f None begin q e =
        let r = bound (relation_at k role h.word.at h.word.text) _ f e in
        let n = bound (fail_arity h.word.at h.end h.rest r.0.sorts) _ f r.2 in
        let xs = bound (terms_in k role vs r.0.sorts h.rest) _ f n.2 in
        let c = arity_is h.word.at h.end h.rest r.0.sorts n.0 n.1 in
        let are = subst (λ z. AreTerms k role vs xs.0 r.0.sorts z) c.2 (terms_are vs r.0.sorts h.rest xs.0 c.3 xs.1) in
        subst (Is (suc room) iffs vs t) (ok_is (T.Atom r.0.sym xs.0) f xs.2) (atom h.word.text c.0 c.1 (begin h.word.text (c.0 ∷ c.1) refl c.2) (relation_says k role h.word.at h.word.text r.0 r.1) are)
    list_is iffs vs h t f (Some K.True) begin q e = absurd cc
    list_is iffs vs h t f (Some K.False) begin q e = absurd cc
    list_is iffs vs h t f (Some K.Equals) begin q e =
        let a = one_more h.end h.rest _ f e in
        let x = bound (term_in k role vs a.0) _ f a.3 in
        let b = one_more h.end a.1 _ f x.2 in
        let y = bound (term_of_sort k role vs x.0.1 b.0) _ f b.3 in
        let z = nothing_left b.1 _ f y.2 in
        let whole = a.2 ∙ ap (λ ts. a.0 ∷ ts) (b.2 ∙ ap (λ ts. b.0 ∷ ts) z.0) in
        subst (Is (suc room) iffs vs t) (ok_is (T.Same x.0.0 y.0) f z.1)
        (equation a.0 b.0 (begin (codes "=") (a.0 ∷ b.0 ∷ []) (keyword_is h.word.text K.Equals q) whole) (term_is vs a.0 x.0 x.1) (sorted_is vs x.0.1 b.0 y.0 y.1))
    list_is iffs vs h t f (Some K.Not) begin q e =
        let y = bound (one_part (parts iffs vs) h.end h.rest) _ f e in
        let x = one_is iffs vs h.end h.rest y.0 y.1 in
        subst (Is (suc room) iffs vs t) (ok_is (T.Not y.0) f y.2) (negation x.0 (begin (codes "not") (x.0 ∷ []) (keyword_is h.word.text K.Not q) x.1) x.2)
    list_is iffs vs h t f (Some K.And) begin q e =
        let y = bound (each (parts iffs vs) h.rest) _ f e in
        subst (Is (suc room) iffs vs t) (ok_is (T.And y.0) f y.2) (conjunction h.rest (begin (codes "and") h.rest (keyword_is h.word.text K.And q) refl) (each_is iffs vs h.rest y.0 y.1))
    list_is iffs vs h t f (Some K.Or) begin q e =
        let y = bound (each (parts iffs vs) h.rest) _ f e in
        subst (Is (suc room) iffs vs t) (ok_is (T.Or y.0) f y.2) (disjunction h.rest (begin (codes "or") h.rest (keyword_is h.word.text K.Or q) refl) (each_is iffs vs h.rest y.0 y.1))
    list_is iffs vs h t f (Some K.Implies) begin q e =
        let y = bound (two_parts (parts iffs vs) h.end h.rest) _ f e in
        let x = two_are iffs vs h.end h.rest y.0 y.1 in
        subst (Is (suc room) iffs vs t) (ok_is (T.Implies y.0.0 y.0.1) f y.2) (implication x.0 x.1 (begin (codes "implies") (x.0 ∷ x.1 ∷ []) (keyword_is h.word.text K.Implies q) x.2) x.3 x.4)
    list_is zero vs h t f (Some K.Iff) begin q e = absurd cc
    list_is (suc iffs) vs h t f (Some K.Iff) begin q e =
        let y = bound (two_parts (parts iffs vs) h.end h.rest) _ f e in
        let x = two_are iffs vs h.end h.rest y.0 y.1 in
        subst (Is (suc room) (suc iffs) vs t) (ok_is (T.Iff y.0.0 y.0.1) f y.2) (equivalence x.0 x.1 (begin (codes "iff") (x.0 ∷ x.1 ∷ []) (keyword_is h.word.text K.Iff q) x.2) x.3 x.4)
    list_is iffs vs h t f (Some K.All) begin q e =
        let y = bound (bound_part k (parts iffs) vs h.end h.rest) _ f e in
        let x = bound_is iffs vs h.end h.rest y.0 y.1 in
        subst (Is (suc room) iffs vs t) (ap (λ s. T.All s y.0.1) x.sort ∙ ok_is (T.All y.0.0 y.0.1) f y.2) (universal x.x x.v x.r x.a (begin (codes "all") (x.v ∷ x.r ∷ x.a ∷ []) (keyword_is h.word.text K.All q) x.whole) x.binds x.part)
    list_is iffs vs h t f (Some K.Some) begin q e =
        let y = bound (bound_part k (parts iffs) vs h.end h.rest) _ f e in
        let x = bound_is iffs vs h.end h.rest y.0 y.1 in
        subst (Is (suc room) iffs vs t) (ap (λ s. T.Any s y.0.1) x.sort ∙ ok_is (T.Any y.0.0 y.0.1) f y.2) (existential x.x x.v x.r x.a (begin (codes "some") (x.v ∷ x.r ∷ x.a ∷ []) (keyword_is h.word.text K.Some q) x.whole) x.binds x.part)
    list_is iffs vs h t f (Some K.Always) begin q e =
        let x = operator_is iffs vs T.Always h.word.at h.end h.rest f e in
        subst (Is (suc room) iffs vs t) x.2 (always x.3 (begin (codes "always") (x.3 ∷ []) (keyword_is h.word.text K.Always q) x.4) x.0 x.5)
    list_is iffs vs h t f (Some K.Eventually) begin q e =
        let x = operator_is iffs vs T.Eventually h.word.at h.end h.rest f e in
        subst (Is (suc room) iffs vs t) x.2 (eventually x.3 (begin (codes "eventually") (x.3 ∷ []) (keyword_is h.word.text K.Eventually q) x.4) x.0 x.5)

  -- ---- all formulas

  word_is : (room iffs : ℕ) (vs : List Variable) (at : ℕ) (text : List ℕ) (t : Tree) (f : Temporal) (o : Option Keyword) → IsWord text t → keyword_of text ≡ o → word_by k role at text o ≡ done f → Is room iffs vs t f
  unfolding bare_atom
  word_is room iffs vs at text t f None is q e =
      let r = bound (relation_at k role at text) _ f e in
      let p = passed (not (eqb (length r.0.sorts) 0)) _ _ _ f r.2 in
      let says = subst (λ z. Says k role text (Relation r.0.sym z)) (no_sorts r.0.sorts p.0) (relation_says k role at text r.0 r.1) in
      subst (Is room iffs vs t) (ok_is (T.Atom r.0.sym []) f p.1) (is_bare_atom text is says)
  word_is room iffs vs at text t f (Some K.True) is q e = subst (Is room iffs vs t) (ok_is T.True f e) (truth (is ∙ ap Some (keyword_is text K.True q)))
  word_is room iffs vs at text t f (Some K.False) is q e = subst (Is room iffs vs t) (ok_is T.False f e) (falsity (is ∙ ap Some (keyword_is text K.False q)))
  word_is room iffs vs at text t f (Some K.Equals) is q e = absurd cc
  word_is room iffs vs at text t f (Some K.Not) is q e = absurd cc
  word_is room iffs vs at text t f (Some K.And) is q e = absurd cc
  word_is room iffs vs at text t f (Some K.Or) is q e = absurd cc
  word_is room iffs vs at text t f (Some K.Implies) is q e = absurd cc
  word_is room iffs vs at text t f (Some K.Iff) is q e = absurd cc
  word_is room iffs vs at text t f (Some K.All) is q e = absurd cc
  word_is room iffs vs at text t f (Some K.Some) is q e = absurd cc
  word_is room iffs vs at text t f (Some K.Always) is q e = absurd cc
  word_is room iffs vs at text t f (Some K.Eventually) is q e = absurd cc

  layer_is : (room : ℕ) (parts : Reader) → Reads room parts → (iffs : ℕ) (vs : List Variable) (t : Tree) (l : Tree-F Tree) (f : Temporal) → out-Tree t ≡ l → layer k role parts iffs vs l ≡ done f → Is (suc room) iffs vs t f
  unfolding list_formula
  layer_is room parts reads iffs vs t (Word at text) f is e = word_is (suc room) iffs vs at text t f (keyword_of text) (ap Trees.word_layer is) refl e
  layer_is room parts reads iffs vs t (Group at end items) f is e =
      let h = bound (headed_items at end items) _ f e in
      list_is room parts reads iffs vs h.0 t f (keyword_of h.0.word.text) (λ word rest. begins word h.0 items rest t (ap Trees.items_layer is) (heads at end items h.0 h.1)) refl h.2

  flat_is : (iffs : ℕ) (vs : List Variable) (t : Tree) (l : Tree-F Tree) (f : Temporal) → out-Tree t ≡ l → flat k role l ≡ done f → Is 0 iffs vs t f
  flat_is iffs vs t (Word at text) f is e = word_is 0 iffs vs at text t f (keyword_of text) (ap Trees.word_layer is) refl e
  flat_is iffs vs t (Group at end items) f is e = absurd cc

  pub formula_is : (room : ℕ) → Reads room (formula_of k role room)
  unfolding formula_of
  formula_is zero iffs vs t f e = flat_is iffs vs t (out-Tree t) f refl e
  formula_is (suc room) iffs vs t f e = layer_is room (formula_of k role room) (formula_is room) iffs vs t (out-Tree t) f refl e
