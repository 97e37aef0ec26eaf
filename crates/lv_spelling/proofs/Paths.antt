-- The sections of labels and of witnesses, and the property.
use Rattle.std.proofs.Common.{◌≡◌, ℕ, suc, Bool, true, false, not, ◌&&◌, ◌||◌, eqb, leb, ltb, Option, Some, None, List, [], ◌∷◌, length, drop, map, reverse, codes, refl, sym, ap, subst, ◌∙◌}
use Rattle.std.proofs.lemmas.List.{length-reverse}
use Rattle.std.proofs.lemmas.Bool.{and_from, le-leb, le-ltb, leb-true, ltb-false}
use Rattle.lv_tree.specs.declared.tree.Tree.{Tree, out-Tree}
use Rattle.lv_formula.specs.declared.symbols.SortId.{SortId}
use Rattle.lv_formula.specs.declared.temporal.Temporal.{Temporal}
use Rattle.lv_formula.specs.declared.temporal.Temporal.TheVariants as T
use Rattle.lv_formula.proofs.TemporalFolds as Folds
use Rattle.lv_system.specs.declared.parts.LabelDecl.{LabelDecl}
use Rattle.lv_system.specs.declared.parts.WitnessDecl.{WitnessDecl}
use Rattle.lv_system.specs.Fits.{is_always}
use Rattle.lv_system.specs.Names.{same_text}
use Rattle.lv_labels.specs.declared.key.Key.{Key}
use Rattle.lv_labels.specs.Labels.{key_eq, keys_of}
use Rattle.lv_labels.specs.Once.{is_among, once_behind}
use Rattle.lv_labels.specs.Renaming.{occurrences_of, free_variables}
use Rattle.lv_fault.specs.Given.{Headed, headed, list_in}
use Rattle.lv_grammar.specs.declared.reading.Role.{Role}
use Rattle.lv_grammar.specs.declared.reading.Role.TheVariants as R
use Rattle.lv_grammar.specs.Grammar.{IsWord, IsList}
use Rattle.lv_grammar.specs.LabelLimits.{numbers_eq, parameter_numbers, lists_free}
use Rattle.lv_grammar.specs.Words.{Variable}
use Rattle.lv_grammar.specs.Known.{Known, Says, Relation}
use Rattle.lv_grammar.specs.WordKinds.{keyword_of, constant_keyword}
use Rattle.lv_grammar.specs.Labelling.{operator_places, first_of, add_labels, path_in, free_name}
use Rattle.lv_grammar.specs.ReadFormulas.{temporal_in}
use Rattle.lv_grammar.specs.ReadWords.{new_variable, sort_in}
use Rattle.lv_grammar.specs.ReadItems.{Declared, Opened, opened_in, name_in, place_of_first, scope_of, ranges_of, places_of, variables_of, always_in, label_checked, label_item, one_pair, witness_item, property_item}
use Rattle.lv_grammar.specs.Reading.{head_layer, head_word, is_word, label_kind, witness_kind, property_kind}
use Rattle.lv_grammar.specs.Rules.{sorts_of, Begins, Binds, IsFormula, truth, falsity, bare_atom, atom, equation, negation, conjunction, disjunction, implication, equivalence, universal, existential, always, eventually, IsWhole, labels_fit, IsPath, number_in, label_numbers, IsLabel, add_label, IsWitness, add_witness, IsProperty, add_property}
use Rattle.lv_grammar.proofs.Steps.{done, ok_is, bound, passed, nothing_left, one_more, list_found}
use Rattle.lv_grammar.proofs.SameTexts.{same_self}
use Rattle.lv_grammar.proofs.TreesAgain.{worded_again, list_again}
use Rattle.lv_spelling.specs.Laws.{Agree}
use Rattle.lv_spelling.proofs.FreeListed.{Below, below, free_is, free_again}
use Rattle.lv_spelling.proofs.Heads.{begins_again, word_begins, head_again, name_is, name_again}
use Rattle.lv_spelling.proofs.ItemLaw.{kinds_agree}
use Rattle.lv_spelling.proofs.Parameters.{scope_sorts, parameter_sorts, ranges_through, opened_is, opened_again, ParametersRead, parameters_again}
use Rattle.lv_spelling.proofs.Variables.{variable_found, new_again}
use Rattle.lv_spelling.proofs.Wholes.{temporal_is, temporal_again}
use Rattle.lv_spelling.proofs.WordAgain.{says_read, sort_name_again}
use Rattle.lv_spelling.proofs.WordKinds.{and_first, and_second, or_first, or_second}
use Rattle.lv_spelling.proofs.WordSays.{sort_is}

-- ---- the limits on labels

no_more : (n m : ℕ) → ltb m n ≡ false → leb n m ≡ true
no_more n m e = le-leb n m (ltb-false m n e)

more_not : (n m : ℕ) → leb n m ≡ true → ltb m n ≡ false
more_not n m e = le-ltb m n (leb-true n m e)

labels_added : (known : List Key) (places : List ℕ) (keys table : List Key) → add_labels known places keys ≡ done table → labels_fit known keys ≡ true
unfolding add_labels
labels_added known places [] table e = refl
labels_added known places (key ∷ keys) table e =
    let next = once_behind key_eq known (key ∷ []) in
    let q = passed (ltb 4 (length key.sorts) || ltb 32 (length next)) _ _ _ table e in
    and_from (leb (length key.sorts) 4) _ (no_more (length key.sorts) 4 (or_first (ltb 4 (length key.sorts)) _ q.0))
    (and_from (leb (length next) 32) _ (no_more (length next) 32 (or_second (ltb 4 (length key.sorts)) _ q.0)) (labels_added next (drop 1 places) keys table q.1))

add_again : (known : List Key) (places : List ℕ) (keys : List Key) → labels_fit known keys ≡ true → add_labels known places keys ≡ done (once_behind key_eq known keys)
unfolding add_labels
add_again known places [] e = refl
add_again known places (key ∷ keys) e =
    let next = once_behind key_eq known (key ∷ []) in
    let rest = and_second (leb (length key.sorts) 4) _ e in
    rw (more_not (length key.sorts) 4 (and_first (leb (length key.sorts) 4) _ e), more_not (length next) 32 (and_first (leb (length next) 32) _ rest))
    (add_again next (drop 1 places) keys (and_second (leb (length next) 32) _ rest))

path_is : (k : Known) (role : Role) (vs : List Variable) (t : Tree) (f : Temporal) → path_in k role vs t ≡ done f → IsPath k role vs f t
unfolding path_in
path_is k role vs t f e =
    let g = bound (temporal_in k role 58 vs t) _ f e in
    let table = bound (add_labels k.keys (operator_places t) (keys_of g.0 (sorts_of vs))) _ f g.2 in
    subst (λ z. IsPath k role vs z t) (ok_is g.0 f table.2) (record { whole = temporal_is k role 58 vs t g.0 g.1; labels = labels_added k.keys (operator_places t) (keys_of g.0 (sorts_of vs)) table.0 table.1 })

path_again : (k : Known) (role : Role) (vs : List Variable) (f : Temporal) (t : Tree) → IsPath k role vs f t → path_in k role vs t ≡ done f
unfolding path_in
path_again k role vs f t is = rw (temporal_again k role 58 vs f t is.whole, add_again k.keys (operator_places t) (keys_of f (sorts_of vs)) is.labels) refl

-- ---- `always` at the outermost

-- the list doesn't begin with this other word
other : {A : Type 0} (word : List ℕ) (o : Option (List ℕ)) → o ≡ Some word → same_text word (codes "always") ≡ false → o ≡ Some (codes "always") → A
other word o is not e =
    let z : true ≡ false = sym (ap (is_word (codes "always")) e) ∙ ap (is_word (codes "always")) is ∙ not in
    absurd cc

word_headless : {A : Type 0} (text : List ℕ) (t : Tree) → IsWord text t → head_word t ≡ Some (codes "always") → A
word_headless text t is e = let w = worded_again (out-Tree t) text is in let z : None ≡ Some (codes "always") = sym (ap head_layer w.1) ∙ e in absurd cc

always_keyword : keyword_of (codes "always") ≡ None → ⊥
unfolding constant_keyword
always_keyword e = absurd cc

abbrev Made : Temporal → Type 0
Made f = (inner : Temporal) × (f ≡ T.Always inner)

always_made : (k : Known) (role : Role) (room iffs : ℕ) (vs : List Variable) (f : Temporal) (t : Tree) → IsFormula k role room iffs vs f t → head_word t ≡ Some (codes "always") → Made f
always_made k role room iffs vs f t (truth is) e = word_headless _ t is e
always_made k role room iffs vs f t (falsity is) e = word_headless _ t is e
always_made k role room iffs vs f t (bare_atom text is says) e = word_headless text t is e
always_made k role room iffs vs f t (atom text a as' b says are) e =
    let same : Some text ≡ Some (codes "always") = sym (begins_again text (a ∷ as') t b) ∙ e in
    let is : text ≡ codes "always" = cc in
    absurd (always_keyword (sym (ap keyword_of is) ∙ (says_read k role 0 text _ says).plain))
always_made k role room iffs vs f t (equation a b begins x y) e = other (codes "=") _ (begins_again (codes "=") (a ∷ b ∷ []) t begins) refl e
always_made k role room iffs vs f t (negation a b is) e = other (codes "not") _ (begins_again (codes "not") (a ∷ []) t b) refl e
always_made k role room iffs vs f t (conjunction as' b are) e = other (codes "and") _ (begins_again (codes "and") as' t b) refl e
always_made k role room iffs vs f t (disjunction as' b are) e = other (codes "or") _ (begins_again (codes "or") as' t b) refl e
always_made k role room iffs vs f t (implication a b c x y) e = other (codes "implies") _ (begins_again (codes "implies") (a ∷ b ∷ []) t c) refl e
always_made k role room iffs vs f t (equivalence a b c x y) e = other (codes "iff") _ (begins_again (codes "iff") (a ∷ b ∷ []) t c) refl e
always_made k role room iffs vs f t (universal x v r a b binds is) e = other (codes "all") _ (begins_again (codes "all") (v ∷ r ∷ a ∷ []) t b) refl e
always_made k role room iffs vs f t (existential x v r a b binds is) e = other (codes "some") _ (begins_again (codes "some") (v ∷ r ∷ a ∷ []) t b) refl e
always_made k role room iffs vs f t (always {f = g} a b may is) e = (g, refl)
always_made k role room iffs vs f t (eventually a b may is) e = other (codes "eventually") _ (begins_again (codes "eventually") (a ∷ []) t b) refl e

abbrev Always : Tree → Type 0
Always t = (a : Tree) × Begins (codes "always") (a ∷ []) t

not_always : (t : Tree) → false ≡ true → Always t
not_always t e = absurd cc

always_begins : (k : Known) (role : Role) (room iffs : ℕ) (vs : List Variable) (f : Temporal) (t : Tree) → IsFormula k role room iffs vs f t → is_always f ≡ true → Always t
always_begins k role room iffs vs f t (always a b may is) e = (a, b)
always_begins k role room iffs vs f t (truth is) e = not_always t (simp Folds.folds at e)
always_begins k role room iffs vs f t (falsity is) e = not_always t (simp Folds.folds at e)
always_begins k role room iffs vs f t (bare_atom text is says) e = not_always t (simp Folds.folds at e)
always_begins k role room iffs vs f t (atom text a as' b says are) e = not_always t (simp Folds.folds at e)
always_begins k role room iffs vs f t (equation a b begins x y) e = not_always t (simp Folds.folds at e)
always_begins k role room iffs vs f t (negation a b is) e = not_always t (simp Folds.folds at e)
always_begins k role room iffs vs f t (conjunction as' b are) e = not_always t (simp Folds.folds at e)
always_begins k role room iffs vs f t (disjunction as' b are) e = not_always t (simp Folds.folds at e)
always_begins k role room iffs vs f t (implication a b c x y) e = not_always t (simp Folds.folds at e)
always_begins k role room iffs vs f t (equivalence a b c x y) e = not_always t (simp Folds.folds at e)
always_begins k role room iffs vs f t (universal x v r a b binds is) e = not_always t (simp Folds.folds at e)
always_begins k role room iffs vs f t (existential x v r a b binds is) e = not_always t (simp Folds.folds at e)
always_begins k role room iffs vs f t (eventually a b may is) e = not_always t (simp Folds.folds at e)

always_is : (k : Known) (vs : List Variable) (t : Tree) (f : Temporal) → always_in k vs t ≡ done f → IsPath k R.Path vs f t × Made f
unfolding always_in
always_is k vs t f e =
    let h = bound (headed t) _ f e in
    let q = passed (not (same_text h.0.word.text (codes "always"))) _ _ _ f h.2 in
    let b = word_begins (codes "always") t h.0 h.1 q.0 in
    let path = path_is k R.Path vs t f q.1 in
    (path, always_made k R.Path 58 2 vs f t path.whole.formula (begins_again (codes "always") h.0.rest t b))

always_again : (k : Known) (vs : List Variable) (f inner : Temporal) (t : Tree) → f ≡ T.Always inner → IsPath k R.Path vs f t → always_in k vs t ≡ done f
unfolding always_in
always_again k vs f inner t e is =
    let made : is_always (T.Always inner) ≡ true = simp Folds.folds refl in
    let b = always_begins k R.Path 58 2 vs f t is.whole.formula (ap is_always e ∙ made) in
    let h = head_again (codes "always") (b.0 ∷ []) t b.1 in
    rw (h.is, path_again k R.Path vs f t is) refl

-- ---- labels

length_of_ranges : (xs : List Declared) → length (ranges_of xs) ≡ length xs
length_of_ranges [] = refl
length_of_ranges (x ∷ xs) = ap suc (length_of_ranges xs)

length_of_scope : (xs : List Declared) → length (scope_of xs) ≡ length xs
length_of_scope xs = length-reverse (variables_of xs) ∙ length_of_variables xs where
  length_of_variables : (xs : List Declared) → length (variables_of xs) ≡ length xs
  length_of_variables [] = refl
  length_of_variables (x ∷ xs) = ap suc (length_of_variables xs)

abbrev label_of : Opened → Temporal → LabelDecl
label_of o f = record { name = o.name; params = ranges_of o.params; formula = f }

checked : (k : Known) (at : ℕ) (o : Opened) (f : Temporal) (l : LabelDecl) → label_checked k at o f ≡ done l
    → (is_among eqb (number_in k (reverse (ranges_of o.params)) f) (label_numbers k.names) ≡ false) × (free_name (places_of o.params) (length o.params) (free_variables f) ≡ done tt) × (label_of o f ≡ l)
unfolding label_checked
checked k at o f l e =
    let q = passed (is_among eqb (number_in k (reverse (ranges_of o.params)) f) (label_numbers k.names)) _ _ _ l e in
    let u = bound (free_name (places_of o.params) (length o.params) (free_variables f)) _ l q.1 in
    (q.0, u.1, ok_is (label_of o f) l u.2)

label_found : (k : Known) (l : LabelDecl) (t : Tree) (h : Headed) → headed t ≡ done h → Begins (codes "label") h.rest t → label_item k h ≡ done l → IsLabel k l t
unfolding label_item
label_found k l t h read begins e =
    let o = bound (opened_in k h.end h.rest) _ l e in
    let a = one_more h.end o.0.rest _ l o.2 in
    let f = bound (always_in k (scope_of o.0.params) a.0) _ l a.3 in
    let m = bound (label_checked k (place_of_first h.end h.rest) o.0 f.0) _ l f.2 in
    let z = nothing_left a.1 _ l m.2 in
    let r = opened_is k h.end h.rest o.0 o.1 in
    let path = always_is k (scope_of o.0.params) a.0 f.0 f.1 in
    let c = checked k (place_of_first h.end h.rest) o.0 f.0 m.0 m.1 in
    let there = subst (λ n. Below n (occurrences_of f.0)) (length_of_scope o.0.params) (below path.0.whole.formula) in
    let free : lists_free (label_of o.0 f.0) ≡ true = ap (λ n. numbers_eq (free_variables f.0) (parameter_numbers n)) (length_of_ranges o.0.params) ∙ free_is o.0.params f.0 there c.1 in
    subst (λ y. IsLabel k y t) (c.2 ∙ ok_is m.0 l z.1) (record {
      n = r.n;
      params = r.params;
      a = a.0;
      list = subst (λ y. Begins (codes "label") y t) (r.whole ∙ ap (λ y. r.n ∷ r.params ∷ y) (a.2 ∙ ap (λ y. a.0 ∷ y) z.0)) begins;
      name = r.name;
      variables = variables_of o.0.params;
      parameters = r.parameters;
      inner = path.1.0;
      always = path.1.1;
      path = path.0;
      once = c.0;
      free = free;
    })

checked_again : (k : Known) (at : ℕ) (l : LabelDecl) (xs : List Declared) (rest : List Tree) → ranges_of xs ≡ l.params → is_among eqb (number_in k (reverse l.params) l.formula) (label_numbers k.names) ≡ false
    → lists_free l ≡ true → label_checked k at (record { name = l.name; params = xs; rest = rest }) l.formula ≡ done l
unfolding label_checked
checked_again k at l xs rest ranges once free =
    let count : length l.params ≡ length xs = sym (ap length ranges) ∙ length_of_ranges xs in
    let listed : numbers_eq (free_variables l.formula) (parameter_numbers (length xs)) ≡ true = ap (λ n. numbers_eq (free_variables l.formula) (parameter_numbers n)) (sym count) ∙ free in
    rw (ranges, once, free_again xs (free_variables l.formula) listed) refl

label_again : (k : Known) (l : LabelDecl) (t : Tree) (is : IsLabel k l t) (h : Headed) → h.rest ≡ is.n ∷ is.params ∷ is.a ∷ [] → label_item k h ≡ done l
unfolding label_item
label_again k l t is h e =
    let p = parameters_again k l.params is.variables is.params is.parameters in
    rw (
      e,
      opened_again k h.end l.name l.params is.variables is.n is.params (is.a ∷ []) is.name p,
      p.scope,
      always_again k (reverse is.variables) l.formula is.inner is.a is.always is.path,
      checked_again k (place_of_first h.end (is.n ∷ is.params ∷ is.a ∷ [])) l p.declared (is.a ∷ []) p.ranges is.once is.free,
    ) refl

pub labels_agree : Agree label_kind IsLabel
labels_agree = kinds_agree (codes "label") label_item add_label IsLabel label_found (λ k l t is. (is.n ∷ is.params ∷ is.a ∷ [], is.list, λ at end word_at. label_again k l t is _ refl))

-- ---- witnesses

pub record Pair (k : Known) (x : Variable) (t : Tree) : Type 0 where
  pub v : Tree
  pub s : Tree
  pub bracket : IsList (v ∷ s ∷ []) t
  pub binds : Binds k [] x v s

pair_is : (k : Known) (t : Tree) (x : Variable) → one_pair k t ≡ done x → Pair k x t
unfolding one_pair
pair_is k t x e =
    let l = bound (list_in t) _ x e in
    let a = one_more l.0.end l.0.items _ x l.2 in
    let name = bound (new_variable [] a.0) _ x a.3 in
    let b = one_more l.0.end a.1 _ x name.2 in
    let sort = bound (sort_in k b.0) _ x b.3 in
    let z = nothing_left b.1 _ x sort.2 in
    let found = variable_found [] a.0 name.0 name.1 in
    subst (λ y. Pair k y t) (ok_is (record { name = name.0; sort = sort.0 }) x z.1) (record {
      v = a.0;
      s = b.0;
      bracket = list_found t l.0 l.1 ∙ ap Some (a.2 ∙ ap (λ ts. a.0 ∷ ts) (b.2 ∙ ap (λ ts. b.0 ∷ ts) z.0));
      binds = record { name = found.word; new = found.new; sort = sort_is k b.0 sort.0 sort.1 };
    })

pair_again : (k : Known) (x : Variable) (v s t : Tree) → IsList (v ∷ s ∷ []) t → Binds k [] x v s → one_pair k t ≡ done x
unfolding one_pair
pair_again k x v s t bracket binds =
    let l = list_again t (v ∷ s ∷ []) bracket in
    rw (l.1, new_again [] x.name v binds.name binds.new, sort_name_again k x.sort s binds.sort) refl

witness_found : (k : Known) (w : WitnessDecl) (t : Tree) (h : Headed) → headed t ≡ done h → Begins (codes "witness") h.rest t → witness_item k h ≡ done w → IsWitness k w t
unfolding witness_item
witness_found k w t h read begins e =
    let n = bound (name_in k h.end h.rest) _ w e in
    let b = one_more h.end n.0.1 _ w n.2 in
    let x = bound (one_pair k b.0) _ w b.3 in
    let c = one_more h.end b.1 _ w x.2 in
    let f = bound (path_in k R.Witness (x.0 ∷ []) c.0) _ w c.3 in
    let z = nothing_left c.1 _ w f.2 in
    let r = name_is k h.end h.rest n.0 n.1 in
    let p = pair_is k b.0 x.0 x.1 in
    subst (λ y. IsWitness k y t) (ok_is (record { name = n.0.0; sort = x.0.sort; formula = f.0 }) w z.1) (record {
      n = r.0;
      pair = b.0;
      v = p.v;
      s = p.s;
      a = c.0;
      list = subst (λ y. Begins (codes "witness") y t) (r.1 ∙ ap (λ y. r.0 ∷ y) (b.2 ∙ ap (λ y. b.0 ∷ y) (c.2 ∙ ap (λ y. c.0 ∷ y) z.0))) begins;
      name = r.2;
      variable = x.0.name;
      bracket = p.bracket;
      binds = p.binds;
      path = path_is k R.Witness (x.0 ∷ []) c.0 f.0 f.1;
    })

pub witnesses_agree : Agree witness_kind IsWitness
unfolding witness_item
witnesses_agree = kinds_agree (codes "witness") witness_item add_witness IsWitness witness_found (λ k w t is. (
  is.n ∷ is.pair ∷ is.a ∷ [],
  is.list,
  λ at end word_at.
      let x : Variable = record { name = is.variable; sort = w.sort } in
      rw (name_again k end w.name is.n (is.pair ∷ is.a ∷ []) is.name, pair_again k x is.v is.s is.pair is.bracket is.binds, path_again k R.Witness (x ∷ []) w.formula is.a is.path) refl,
))

-- ---- the property

property_found : (k : Known) (f : Temporal) (t : Tree) (h : Headed) → headed t ≡ done h → Begins (codes "property") h.rest t → property_item k h ≡ done f → IsProperty k f t
unfolding property_item
property_found k f t h read begins e =
    let a = one_more h.end h.rest _ f e in
    let g = bound (path_in k R.Path [] a.0) _ f a.3 in
    let z = nothing_left a.1 _ f g.2 in
    subst (λ y. IsProperty k y t) (ok_is g.0 f z.1)
    (record { a = a.0; list = subst (λ y. Begins (codes "property") y t) (a.2 ∙ ap (λ y. a.0 ∷ y) z.0) begins; path = path_is k R.Path [] a.0 g.0 g.1 })

pub properties_agree : Agree property_kind IsProperty
unfolding property_item
properties_agree = kinds_agree (codes "property") property_item add_property IsProperty property_found (λ k f t is. (is.a ∷ [], is.list, λ at end word_at. rw (path_again k R.Path [] f is.a is.path) refl))
