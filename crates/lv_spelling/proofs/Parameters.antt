-- Parameters are read exactly where they are spelled.
use Rattle.std.proofs.Common.{◌≡◌, ℕ, ◌+◌, ◌≤◌, true, false, leb, List, [], ◌∷◌, ◌++◌, length, map, reverse, refl, sym, ap, subst, ◌∙◌, arith}
use Rattle.std.proofs.lemmas.Bool.{leb-false, leb-true, le-leb}
use Rattle.std.proofs.lemmas.List.{reverse-append, map-append}
use Rattle.lv_tree.specs.declared.tree.Tree.{Tree}
use Rattle.lv_formula.specs.declared.symbols.SortId.{SortId}
use Rattle.lv_fault.specs.Given.{place_of, list_in}
use Rattle.lv_grammar.specs.Words.{Variable}
use Rattle.lv_grammar.specs.Known.{Known}
use Rattle.lv_grammar.specs.ReadWords.{new_variable, sort_in}
use Rattle.lv_grammar.specs.ReadItems.{Declared, pairs_from, parameters_in, variables_of, scope_of, ranges_of, name_in, Opened, opened_in}
use Rattle.lv_grammar.specs.Rules.{sorts_of, Binds, ArePairs, no_pairs, pairs, AreParameters, IsNew}
use Rattle.lv_grammar.proofs.Steps.{done, ok_is, bound, passed, one_more, list_found}
use Rattle.lv_grammar.proofs.TreesAgain.{list_again}
use Rattle.lv_spelling.proofs.Heads.{name_is, name_again}
use Rattle.lv_spelling.proofs.Tests.{not_four}
use Rattle.lv_spelling.proofs.Variables.{variable_found, new_again}
use Rattle.lv_spelling.proofs.WordAgain.{sort_name_again}
use Rattle.lv_spelling.proofs.WordSays.{sort_is}

-- ---- lists of variables

reverse_one : {X : Type 0} (x : X) (xs : List X) → reverse (x ∷ xs) ≡ reverse xs ++ x ∷ []
reverse_one x xs = reverse-append (x ∷ []) xs

pub map_reverse : {X Y : Type 0} (f : X → Y) (xs : List X) → map f (reverse xs) ≡ reverse (map f xs)
map_reverse f [] = refl
map_reverse f (x ∷ xs) = ap (map f) (reverse_one x xs) ∙ map-append f (reverse xs) (x ∷ []) ∙ ap (λ z. z ++ f x ∷ []) (map_reverse f xs) ∙ sym (reverse_one (f x) (map f xs))

pub ranges_through : (xs : List Declared) → sorts_of (variables_of xs) ≡ ranges_of xs
ranges_through [] = refl
ranges_through (x ∷ xs) = ap (λ z. x.variable.sort ∷ z) (ranges_through xs)

-- the sorts of a scope, the innermost first
pub scope_sorts : (xs : List Declared) → sorts_of (scope_of xs) ≡ reverse (ranges_of xs)
scope_sorts xs = map_reverse (λ (v : Variable). v.sort) (variables_of xs) ∙ ap reverse (ranges_through xs)

pub parameter_sorts : (xs : List Variable) (sorts : List SortId) → sorts_of xs ≡ sorts → sorts_of (reverse xs) ≡ reverse sorts
parameter_sorts xs sorts e = map_reverse (λ (v : Variable). v.sort) xs ∙ ap reverse e

module _ (k : Known) where
  -- ---- pairs

  pairs_are : (n : ℕ) (vs : List Variable) (end : ℕ) (ts : List Tree) (xs : List Declared) → pairs_from k n vs end ts ≡ done xs → ArePairs k vs (variables_of xs) ts × (n ≤ 4 → n + length (variables_of xs) ≤ 4)
  unfolding pairs_from
  pairs_are n vs end [] xs e = subst (λ z. ArePairs k vs (variables_of z) [] × (n ≤ 4 → n + length (variables_of z) ≤ 4)) (ok_is [] xs e) (no_pairs, λ le. omega (arith, le))
  pairs_are n vs end (t ∷ []) xs e =
      let name = bound (new_variable vs t) _ xs e in
      let q = passed (leb 4 n) _ _ _ xs name.2 in
      let never = q.1 in
      absurd cc
  pairs_are n vs end (t ∷ u ∷ ts) xs e =
      let name = bound (new_variable vs t) _ xs e in
      let q = passed (leb 4 n) _ _ _ xs name.2 in
      let s = bound (sort_in k u) _ xs q.1 in
      let r = bound (pairs_from k (n + 1) (record { name = name.0; sort = s.0 } ∷ vs) end ts) _ xs s.2 in
      let found = variable_found vs t name.0 name.1 in
      let rest = pairs_are (n + 1) (record { name = name.0; sort = s.0 } ∷ vs) end ts r.0 r.1 in
      let below = leb-false 4 n q.0 in
      let more = rest.1 (omega (arith, below)) in
      let binds : Binds k vs (record { name = name.0; sort = s.0 }) t u = record { name = found.word; new = found.new; sort = sort_is k u s.0 s.1 } in
      subst (λ z. ArePairs k vs (variables_of z) (t ∷ u ∷ ts) × (n ≤ 4 → n + length (variables_of z) ≤ 4))
      (ok_is (record { at = place_of t; variable = record { name = name.0; sort = s.0 } } ∷ r.0) xs r.2) (pairs binds rest.0, λ le. omega (arith, more))

  -- what is read of pairs: the variables with their places
  pub record PairsRead (n : ℕ) (vs : List Variable) (end : ℕ) (xs : List Variable) (ts : List Tree) : Type 0 where
    pub declared : List Declared
    pub is : pairs_from k n vs end ts ≡ done declared
    pub variables : variables_of declared ≡ xs

  pairs_again : (n : ℕ) (vs : List Variable) (end : ℕ) (xs : List Variable) (ts : List Tree) → ArePairs k vs xs ts → n + length xs ≤ 4 → PairsRead n vs end xs ts
  unfolding pairs_from
  pairs_again n vs end xs ts no_pairs few = record { declared = []; is = refl; variables = refl }
  pairs_again n vs end xs ts (pairs {x = x} {xs = ys} {v = v} {s = s} {ts = us} binds rest) few =
      let more = pairs_again (n + 1) (x ∷ vs) end ys us rest (omega (arith, few)) in
      record {
        declared = record { at = place_of v; variable = x } ∷ more.declared;
        is = rw (new_again vs x.name v binds.name binds.new, not_four n (length ys) few, sort_name_again k x.sort s binds.sort, more.is) refl;
        variables = ap (λ z. x ∷ z) more.variables;
      }

  -- ---- the list of parameters

  pub parameters_are : (t : Tree) (xs : List Declared) → parameters_in k t ≡ done xs → AreParameters k (ranges_of xs) (variables_of xs) t
  unfolding parameters_in
  parameters_are t xs e =
      let l = bound (list_in t) _ xs e in
      let r = pairs_are 0 [] l.0.end l.0.items xs l.2 in
      let le = r.1 (omega arith) in
      record { items = l.0.items; list = list_found t l.0 l.1; pairs = r.0; few = le-leb (length (variables_of xs)) 4 (omega (arith, le)); ranges = ranges_through xs }

  pub record ParametersRead (sorts : List SortId) (xs : List Variable) (t : Tree) : Type 0 where
    pub declared : List Declared
    pub is : parameters_in k t ≡ done declared
    pub variables : variables_of declared ≡ xs
    pub scope : scope_of declared ≡ reverse xs
    pub ranges : ranges_of declared ≡ sorts

  pub parameters_again : (sorts : List SortId) (xs : List Variable) (t : Tree) → AreParameters k sorts xs t → ParametersRead sorts xs t
  unfolding parameters_in
  parameters_again sorts xs t a =
      let l = list_again t a.items a.list in
      let few = leb-true (length xs) 4 a.few in
      let r = pairs_again 0 [] l.0 xs a.items a.pairs (omega (arith, few)) in
      record {
        declared = r.declared;
        is = rw (l.1, r.is) refl;
        variables = r.variables;
        scope = ap reverse r.variables;
        ranges = sym (ranges_through r.declared) ∙ (ap sorts_of r.variables ∙ a.ranges);
      }

  -- ---- a name with parameters, and what follows

  pub record OpenedIs (o : Opened) (items : List Tree) : Type 0 where
    pub n : Tree
    pub params : Tree
    pub whole : items ≡ n ∷ params ∷ o.rest
    pub name : IsNew k o.name n
    pub parameters : AreParameters k (ranges_of o.params) (variables_of o.params) params

  pub opened_is : (end : ℕ) (items : List Tree) (o : Opened) → opened_in k end items ≡ done o → OpenedIs o items
  unfolding opened_in
  opened_is end items o e =
      let n = bound (name_in k end items) _ o e in
      let b = one_more end n.0.1 _ o n.2 in
      let xs = bound (parameters_in k b.0) _ o b.3 in
      let x = name_is k end items n.0 n.1 in
      subst (λ z. OpenedIs z items) (ok_is (record { name = n.0.0; params = xs.0; rest = b.1 }) o xs.2)
      (record { n = x.0; params = b.0; whole = x.1 ∙ ap (λ z. x.0 ∷ z) b.2; name = x.2; parameters = parameters_are b.0 xs.0 xs.1 })

  pub opened_again : (end : ℕ) (name : List ℕ) (sorts : List SortId) (xs : List Variable) (n params : Tree) (rest : List Tree) → IsNew k name n → (r : ParametersRead sorts xs params)
      → opened_in k end (n ∷ params ∷ rest) ≡ done (record { name = name; params = r.declared; rest = rest })
  unfolding opened_in
  opened_again end name sorts xs n params rest is r = rw (name_again k end name n (params ∷ rest) is, r.is) refl
