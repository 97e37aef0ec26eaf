-- The items that are shown can be written.
use Rattle.std.proofs.Common.{◌≡◌, ℕ, zero, suc, ◌+◌, ◌-◌, ◌^◌, ◌<◌, ◌≤◌, Bool, true, false, ◌&&◌, List, [], ◌∷◌, ◌++◌, map, length, reverse, get_or, refl, arith}
use Rattle.std.specs.Prelude.{codes}
use Rattle.std.proofs.lemmas.Bool.{and_parts, ltb-true}
use Rattle.lv_tree.specs.declared.tree.Tree.{Tree}
use Rattle.lv_tree.specs.Spelling.{is_text, fits_in, all_fit_in}
use Rattle.lv_formula.specs.declared.symbols.SortId.{SortId}
use Rattle.lv_formula.specs.declared.formula.Formula.{Formula}
use Rattle.lv_formula.specs.declared.vocabulary.Vocabulary.{Vocabulary}
use Rattle.lv_formula.specs.Fits.{sort_of}
use Rattle.lv_formula.specs.Fits.{fits_in as formula_fits_in}
use Rattle.lv_formula.proofs.Induction.{Each as Holds}
use Rattle.lv_system.specs.declared.parts.Parts.{Parts}
use Rattle.lv_system.specs.declared.parts.Sort.{Sort}
use Rattle.lv_system.specs.declared.parts.Symbol.{Symbol}
use Rattle.lv_system.specs.declared.parts.Shape.{Shape}
use Rattle.lv_system.specs.declared.parts.Shape.TheVariants as S
use Rattle.lv_system.specs.declared.parts.Action.{Action}
use Rattle.lv_system.specs.declared.parts.ActionUpdate.{ActionUpdate}
use Rattle.lv_system.specs.declared.parts.ActionUpdate.TheVariants.{Relation, Constant}
use Rattle.lv_system.specs.declared.parts.Fair.{Fair}
use Rattle.lv_system.specs.declared.parts.LabelDecl.{LabelDecl}
use Rattle.lv_system.specs.declared.parts.WitnessDecl.{WitnessDecl}
use Rattle.lv_system.specs.declared.parts.Invariant.{Invariant}
use Rattle.lv_system.specs.Vocabularies.{fixed_vocabulary, own_vocabulary, witness_vocabulary}
use Rattle.lv_system.specs.Step.{no_symbol}
use Rattle.lv_system.specs.Limits.{is_small, in_item, lists_of}
use Rattle.lv_system.specs.Names.{is_name, are_names}
use Rattle.lv_system.specs.Fits.{is_sort_below, are_sorts_below, shape_fits, shapes_fit, formula_fits, formulas_fit, update_fits, updates_fit, action_fits, actions_fit, fair_fits, fairs_fit, label_fits, labels_fit, witness_fits, witnesses_fit, fits_parts}
use Rattle.lv_system.proofs.FitsFacts.{tests, fit_action, fit_fair, fit_label, fit_witness, fit_relation, fit_constant, fitting}
use Rattle.lv_grammar.specs.Words.{sort_name, own_name}
use Rattle.lv_grammar.specs.Lifted.{lifted}
use Rattle.lv_grammar.specs.Grammar.{argument_sorts}
use Rattle.lv_grammar.specs.ShownFormulas.{word, list, variable_name, deeper, shown_term, shown_temporal, shown_formula}
use Rattle.lv_grammar.specs.HaveWords.{has_words, invariants_have_words}
use Rattle.lv_grammar.specs.ShownSystems.{shown_mark, shown_sort, shape_word, shown_sort_name, shown_shape, shown_symbol, shown_pairs, shown_names, shown_parameters, shown_lone, deeper_by, shown_update, shown_action, shown_declaration, shown_fair, shown_label, shown_witness, shown_property, shown_invariant, shown_items}
use Rattle.lv_grammar.proofs.FormulaFits.{word_fits, list_fits, items_fit, many_parts, one_part, two_parts, variable_fits, deeper_below, term_fits, temporal_can_be_written, formula_can_be_written}
use Rattle.lv_grammar.proofs.FittingParts.{holds_from, small_lists, small_temporal_lists, IsSmallInvariant, small}
use Rattle.lv_grammar.proofs.SymbolWords.{HaveNames, have_names, short_name, short_text, short_sort, short_own}
use Rattle.lv_grammar.proofs.VocabularyWords.{AreSpoken, fitting_has_words, sorted_has_word, is_sorted}
use Rattle.lv_grammar.proofs.SpokenParts.{fixed_spoken, own_spoken, witness_spoken, formula_has_words}

-- where each of them fits, they all do
all_fit : {X : Type 0} (P : X → Type 0) (form : X → Tree) (room : ℕ) → ((x : X) → P x → fits_in room (form x) ≡ true) → (xs : List X) → Holds P xs → all_fit_in room (map form xs) ≡ true
all_fit P form room one [] h = refl
all_fit P form room one (x ∷ xs) h = items_fit room (form x) (map form xs) (one x h.0) (all_fit P form room one xs h.1)

both_fit : (room : ℕ) (ts us : List Tree) → all_fit_in room ts ≡ true → all_fit_in room us ≡ true → all_fit_in room (ts ++ us) ≡ true
both_fit room [] us h k = k
both_fit room (t ∷ ts) us h k =
    let both = and_parts (fits_in room t) (all_fit_in room ts) h in
    items_fit room t (ts ++ us) both.0 (both_fit room ts us both.1 k)

-- both of two things hold of each
pub both_hold : {X : Type 0} (P Q : X → Type 0) (xs : List X) → Holds P xs → Holds Q xs → Holds (λ x. P x × Q x) xs
both_hold P Q [] h k = tt
both_hold P Q (x ∷ xs) h k = ((h.0, k.0), both_hold P Q xs h.1 k.1)

names_hold : {X : Type 0} (name : X → List ℕ) (xs : List X) → are_names (map name xs) ≡ true → Holds (λ x. is_text (name x) ≡ true) xs
names_hold name [] h = tt
names_hold name (x ∷ xs) h =
    let both = and_parts (is_name (name x)) (are_names (map name xs)) h in
    (short_text (short_name (name x) both.0), names_hold name xs both.1)

mark_fits : (room : ℕ) (text : List ℕ) (b : Bool) → is_text text ≡ true → all_fit_in room (shown_mark text b) ≡ true
mark_fits room text false h = refl
mark_fits room text true h = items_fit room (word text) [] (word_fits room text h) refl

sort_fits : (room : ℕ) (s : Sort) → 1 ≤ room → is_text s.name ≡ true → fits_in room (shown_sort s) ≡ true
sort_fits room s le h =
    many_parts (codes "sort") (word s.name ∷ shown_mark (codes "finite") s.finite) room refl (omega (arith, le))
    (items_fit (room - 1) (word s.name) (shown_mark (codes "finite") s.finite) (word_fits (room - 1) s.name h) (mark_fits (room - 1) (codes "finite") s.finite refl))

shape_word_text : (shape : Shape) → is_text (shape_word shape) ≡ true
shape_word_text (S.Relation sorts) = refl
shape_word_text (S.Constant sort) = refl

names_fit : (room depth : ℕ) (ss : List SortId) → depth < 2 ^ 64 → all_fit_in room (shown_names depth ss) ≡ true
names_fit room depth [] lt = refl
names_fit room depth (s ∷ ss) lt = items_fit room (word (variable_name depth)) (shown_names (deeper depth) ss) (variable_fits room depth lt) (names_fit room (deeper depth) ss (deeper_below depth))

symbol_in_range : (ss : List Symbol) (n : ℕ) → (get_or ss n no_symbol).fixed ≡ false → n < length ss
symbol_in_range [] n h = absurd cc
symbol_in_range (s ∷ ss) zero h = omega arith
symbol_in_range (s ∷ ss) (suc n) h = let lt = symbol_in_range ss n h in omega (arith, lt)

module _ (p : Parts) (n : HaveNames p) where
  sort_name_fits : (room : ℕ) (s : SortId) → is_sort_below (length p.sorts) s ≡ true → fits_in room (shown_sort_name p s) ≡ true
  sort_name_fits room s h = word_fits room (sort_name p s) (short_text (short_sort p n s (ltb-true s.0 (length p.sorts) h)))

  sort_names_fit : (room : ℕ) (ss : List SortId) → are_sorts_below (length p.sorts) ss ≡ true → all_fit_in room (map (shown_sort_name p) ss) ≡ true
  sort_names_fit room [] h = refl
  sort_names_fit room (s ∷ ss) h =
      let both = and_parts (is_sort_below (length p.sorts) s) (are_sorts_below (length p.sorts) ss) h in
      items_fit room (shown_sort_name p s) (map (shown_sort_name p) ss) (sort_name_fits room s both.0) (sort_names_fit room ss both.1)

  shape_fits_in : (room : ℕ) (shape : Shape) → 1 ≤ room → shape_fits (length p.sorts) shape ≡ true → fits_in room (shown_shape p shape) ≡ true
  shape_fits_in room (S.Relation sorts) le h =
      list_fits room (map (shown_sort_name p) sorts) (omega (arith, le)) (sort_names_fit (room - 1) sorts (and_parts _ (are_sorts_below (length p.sorts) sorts) h).1)
  shape_fits_in room (S.Constant sort) le h = sort_name_fits room sort h

  symbol_fits : (room : ℕ) (s : Symbol) → 2 ≤ room → is_text s.name ≡ true → shape_fits (length p.sorts) s.shape ≡ true → fits_in room (shown_symbol p s) ≡ true
  symbol_fits room s le h k =
      let r = room - 1 in
      many_parts (shape_word s.shape) (word s.name ∷ shown_shape p s.shape ∷ shown_mark (codes "fixed") s.fixed) room (shape_word_text s.shape) (omega (arith, le))
      (items_fit r (word s.name) (shown_shape p s.shape ∷ shown_mark (codes "fixed") s.fixed) (word_fits r s.name h)
      (items_fit r (shown_shape p s.shape) (shown_mark (codes "fixed") s.fixed) (shape_fits_in r s.shape (omega (arith, le)) k) (mark_fits r (codes "fixed") s.fixed refl)))

  pairs_fit : (room depth : ℕ) (ss : List SortId) → depth < 2 ^ 64 → are_sorts_below (length p.sorts) ss ≡ true → all_fit_in room (shown_pairs p depth ss) ≡ true
  pairs_fit room depth [] lt h = refl
  pairs_fit room depth (s ∷ ss) lt h =
      let both = and_parts (is_sort_below (length p.sorts) s) (are_sorts_below (length p.sorts) ss) h in
      let rest = shown_pairs p (deeper depth) ss in
      items_fit room (word (variable_name depth)) (shown_sort_name p s ∷ rest) (variable_fits room depth lt)
      (items_fit room (shown_sort_name p s) rest (sort_name_fits room s both.0) (pairs_fit room (deeper depth) ss (deeper_below depth) both.1))

  parameters_fit : (room : ℕ) (ss : List SortId) → 1 ≤ room → are_sorts_below (length p.sorts) ss ≡ true → fits_in room (shown_parameters p ss) ≡ true
  parameters_fit room ss le h = list_fits room (shown_pairs p 0 ss) (omega (arith, le)) (pairs_fit (room - 1) 0 ss (omega arith) h)

  -- (WORD F), where F keeps the limits of an item's own formula or of a part's
  lone_fits : (text : List ℕ) (room depth : ℕ) (f : Formula) → is_text text ≡ true → lists_of f + 1 ≤ room → depth < 2 ^ 64 → has_words p (lifted f) ≡ true → fits_in room (shown_lone p text depth f) ≡ true
  lone_fits text room depth f h le lt w = one_part text (shown_formula p f depth) room h (omega (arith, le)) (formula_can_be_written p f (room - 1) depth w (omega (arith, le)) lt)

  -- (WORD NAME (VAR SORT ..) T)
  declaration_fits : (text name : List ℕ) (ss : List SortId) (t : Tree) (room : ℕ) → 2 ≤ room → is_text text ≡ true → is_text name ≡ true → are_sorts_below (length p.sorts) ss ≡ true
      → fits_in (room - 1) t ≡ true → fits_in room (shown_declaration p text name ss t) ≡ true
  declaration_fits text name ss t room le h k below f =
      let r = room - 1 in
      many_parts text (word name ∷ shown_parameters p ss ∷ t ∷ []) room h (omega (arith, le))
      (items_fit r (word name) (shown_parameters p ss ∷ t ∷ []) (word_fits r name k) (items_fit r (shown_parameters p ss) (t ∷ []) (parameters_fit r ss (omega (arith, le)) below) (items_fit r t [] f refl)))

  update_can_be_written : (params : List SortId) (room depth : ℕ) → 58 ≤ room → depth < 2 ^ 64 → (u : ActionUpdate) → update_fits p params u ≡ true → fits_in room (shown_update p depth u) ≡ true
  update_can_be_written params room depth le lt (Relation symbol body) h =
      let f = fit_relation p params symbol body h in
      let r = room - 1 in
      let deep = small_lists 57 body f.small in
      let ss = argument_sorts p symbol in
      let name = short_text (short_own p n symbol (symbol_in_range p.symbols symbol f.changing)) in
      let words = formula_has_words p (own_vocabulary p) (own_spoken p n) (reverse (params ++ f.sorts)) body f.fits in
      let args = list (shown_names depth ss) in
      let inner = shown_formula p body (deeper_by depth ss) in
      many_parts (codes "set") (word (own_name p symbol) ∷ args ∷ inner ∷ []) room refl (omega (arith, le))
      (items_fit r (word (own_name p symbol)) (args ∷ inner ∷ []) (word_fits r (own_name p symbol) name)
      (items_fit r args (inner ∷ []) (list_fits r (shown_names depth ss) (omega (arith, le)) (names_fit (r - 1) depth ss lt))
      (items_fit r inner [] (formula_can_be_written p body r (deeper_by depth ss) words (omega (arith, le, deep)) (omega arith)) refl)))
  update_can_be_written params room depth le lt (Constant symbol term) h =
      let f = fit_constant p params symbol term h in
      let o = is_sorted p (own_vocabulary p) (own_spoken p n) (sort_of (own_vocabulary p) (reverse params) term) f.sort f.fits in
      let name = short_text (short_own p n symbol (symbol_in_range p.symbols symbol f.changing)) in
      two_parts (codes "set") (word (own_name p symbol)) (shown_term p depth term) room refl (omega (arith, le)) (word_fits (room - 1) (own_name p symbol) name)
      (term_fits p term (room - 1) depth (sorted_has_word p (own_vocabulary p) (own_spoken p n) (reverse params) term o.0 o.1) lt)

  action_can_be_written : (room : ℕ) (a : Action) → 59 ≤ room → is_text a.name ≡ true → action_fits p a ≡ true → fits_in room (shown_action p a) ≡ true
  action_can_be_written room a le h k =
      let f = fit_action p a k in
      let r = room - 1 in
      let few = f.params.few in
      let deep = small_lists 57 a.guard f.small in
      let depth = length a.params in
      let params = shown_parameters p a.params in
      let guard = shown_lone p (codes "guard") depth a.guard in
      let updates = map (shown_update p depth) a.updates in
      let words = formula_has_words p (own_vocabulary p) (own_spoken p n) (reverse a.params) a.guard f.guard in
      let each = holds_from (λ u. update_fits p a.params u ≡ true) (update_fits p a.params) (updates_fit p a.params) (λ x xs. refl) (λ x e. e) a.updates f.updates in
      many_parts (codes "action") (word a.name ∷ params ∷ guard ∷ updates) room refl (omega (arith, le))
      (items_fit r (word a.name) (params ∷ guard ∷ updates) (word_fits r a.name h)
      (items_fit r params (guard ∷ updates) (parameters_fit r a.params (omega (arith, le)) f.params.there)
      (items_fit r guard updates (lone_fits (codes "guard") r depth a.guard refl (omega (arith, le, deep)) (omega (arith, few)) words)
      (all_fit (λ u. update_fits p a.params u ≡ true) (shown_update p depth) r (update_can_be_written a.params r depth (omega (arith, le)) (omega (arith, few))) a.updates each))))

  fair_can_be_written : (room : ℕ) (c : Fair) → 59 ≤ room → is_text c.name ≡ true → fair_fits p c ≡ true → fits_in room (shown_fair p c) ≡ true
  fair_can_be_written room c le h k =
      let f = fit_fair p c k in
      let few = f.params.few in
      let deep = small_lists 58 c.condition f.small in
      let words = formula_has_words p (own_vocabulary p) (own_spoken p n) (reverse c.params) c.condition f.condition in
      declaration_fits (codes "fair") c.name c.params (shown_formula p c.condition (length c.params)) room (omega (arith, le)) refl h f.params.there
      (formula_can_be_written p c.condition (room - 1) (length c.params) words (omega (arith, le, deep)) (omega (arith, few)))

  label_can_be_written : (room : ℕ) (l : LabelDecl) → 59 ≤ room → is_text l.name ≡ true → label_fits p l ≡ true → fits_in room (shown_label p l) ≡ true
  label_can_be_written room l le h k =
      let f = fit_label p l k in
      let few = f.params.few in
      let deep = small_temporal_lists l.formula f.small in
      let words = fitting_has_words p (own_vocabulary p) (own_spoken p n) l.formula (reverse l.params) f.formula in
      declaration_fits (codes "label") l.name l.params (shown_temporal p l.formula (length l.params)) room (omega (arith, le)) refl h f.params.there
      (temporal_can_be_written p l.formula (room - 1) (length l.params) words (omega (arith, le, deep)) (omega (arith, few)))

  witness_can_be_written : (room k : ℕ) (w : WitnessDecl) → 59 ≤ room → is_text w.name ≡ true → witness_fits p k w ≡ true → fits_in room (shown_witness p w) ≡ true
  witness_can_be_written room k w le h e =
      let f = fit_witness p k w e in
      let deep = small_temporal_lists w.formula f.small in
      let words = fitting_has_words p (witness_vocabulary p k) (witness_spoken p n k) w.formula (w.sort ∷ []) f.formula in
      let below : are_sorts_below (length p.sorts) (w.sort ∷ []) ≡ true = rw (and_parts (is_sort_below (length p.sorts) w.sort) _ e).0 refl in
      declaration_fits (codes "witness") w.name (w.sort ∷ []) (shown_temporal p w.formula 1) room (omega (arith, le)) refl h below
      (temporal_can_be_written p w.formula (room - 1) 1 words (omega (arith, le, deep)) (omega arith))

  witnesses_can_be_written : (room k : ℕ) (ws : List WitnessDecl) → 59 ≤ room → are_names (map (λ w. w.name) ws) ≡ true → witnesses_fit p k ws ≡ true → all_fit_in room (map (shown_witness p) ws) ≡ true
  witnesses_can_be_written room k [] le h e = refl
  witnesses_can_be_written room k (w ∷ ws) le h e =
      let names = and_parts (is_name w.name) (are_names (map (λ w. w.name) ws)) h in
      let both = and_parts (witness_fits p k w) (witnesses_fit p (suc k) ws) e in
      items_fit room (shown_witness p w) (map (shown_witness p) ws) (witness_can_be_written room k w le (short_text (short_name w.name names.0)) both.0)
      (witnesses_can_be_written room (suc k) ws le names.1 both.1)

  invariant_can_be_written : (room : ℕ) (i : Invariant) → 59 ≤ room → is_text i.name ≡ true → IsSmallInvariant i → has_words p (lifted i.formula) ≡ true → fits_in room (shown_invariant p i) ≡ true
  invariant_can_be_written room i le h small w =
      two_parts (codes "invariant") (word i.name) (shown_formula p i.formula 0) room refl (omega (arith, le)) (word_fits (room - 1) i.name h)
      (formula_can_be_written p i.formula (room - 1) 0 w (omega (arith, le, small)) (omega arith))

pub words_hold : (p : Parts) (is' : List Invariant) → invariants_have_words p is' ≡ true → Holds (λ i. has_words p (lifted i.formula) ≡ true) is'
words_hold p = holds_from (λ i. has_words p (lifted i.formula) ≡ true) (λ i. has_words p (lifted i.formula)) (invariants_have_words p) (λ x xs. refl) (λ x e. e)

formulas_can_be_written : (p : Parts) (voc : Vocabulary) → AreSpoken p voc → (text : List ℕ) (fs : List Formula) (room : ℕ) → is_text text ≡ true → 59 ≤ room → formulas_fit voc fs ≡ true
    → all_fit_in room (map (shown_lone p text 0) fs) ≡ true
formulas_can_be_written p voc spoken text fs room h le e =
    all_fit (λ f. formula_fits in_item voc [] f ≡ true) (shown_lone p text 0) room one fs (holds_from (λ f. formula_fits in_item voc [] f ≡ true) (formula_fits in_item voc []) (formulas_fit voc) (λ x xs. refl) (λ x e. e) fs e)
  where
    one : (f : Formula) → formula_fits in_item voc [] f ≡ true → fits_in room (shown_lone p text 0 f) ≡ true
    one f k =
        let both = and_parts (is_small in_item f) (formula_fits_in voc [] f) k in
        let deep = small_lists 58 f both.0 in
        one_part text (shown_formula p f 0) room h (omega (arith, le)) (formula_can_be_written p f (room - 1) 0 (formula_has_words p voc spoken [] f both.1) (omega (arith, le, deep)) (omega arith))

-- items of a kind that have names
named_fit : {X : Type 0} (name : X → List ℕ) (test : X → Bool) (all : List X → Bool) (form : X → Tree) (room : ℕ) → ((x : X) (xs : List X) → all (x ∷ xs) ≡ (test x && all xs))
    → ((x : X) → is_text (name x) ≡ true → test x ≡ true → fits_in room (form x) ≡ true) → (xs : List X) → are_names (map name xs) ≡ true → all xs ≡ true → all_fit_in room (map form xs) ≡ true
named_fit name test all form room apart one xs h e =
    all_fit (λ x. (is_text (name x) ≡ true) × (test x ≡ true)) form room (λ x k. one x k.0 k.1) xs
    (both_hold (λ x. is_text (name x) ≡ true) (λ x. test x ≡ true) xs (names_hold name xs h) (holds_from (λ x. test x ≡ true) test all apart (λ x e. e) xs e))

-- each word of the items has 1 to 64 word bytes, and lists in them nest at most 59 deep
pub items_can_be_written : (p : Parts) → fits_parts p ≡ true → invariants_have_words p p.invariants ≡ true → (room : ℕ) → 59 ≤ room → all_fit_in room (shown_items p) ≡ true
items_can_be_written p fits words room le =
    let f = tests p fits in
    let n = have_names p f.names in
    let property_words = fitting_has_words p (own_vocabulary p) (own_spoken p n) p.property [] (fitting p fits).property in
    let deep = small_temporal_lists p.property (fitting p fits).small in
    let property = one_part (codes "property") (shown_temporal p p.property 0) room refl (omega (arith, le)) (temporal_can_be_written p p.property (room - 1) 0 property_words (omega (arith, le, deep)) (omega arith)) in
    let invariants = all_fit (λ i. ((is_text i.name ≡ true) × IsSmallInvariant i) × (has_words p (lifted i.formula) ≡ true)) (shown_invariant p) room (λ i k. invariant_can_be_written p n room i le k.0.0 k.0.1 k.1) p.invariants
    (both_hold (λ i. (is_text i.name ≡ true) × IsSmallInvariant i) (λ i. has_words p (lifted i.formula) ≡ true) p.invariants
    (both_hold (λ i. is_text i.name ≡ true) IsSmallInvariant p.invariants (names_hold (λ i. i.name) p.invariants n.invariants) (small p fits).invariants) (words_hold p p.invariants words)) in
    let last = items_fit room (shown_property p) (map (shown_invariant p) p.invariants) property invariants in
    let sorts = all_fit (λ s. is_text s.name ≡ true) shown_sort room (λ s h. sort_fits room s (omega (arith, le)) h) p.sorts (names_hold (λ s. s.name) p.sorts n.sorts) in
    let symbols = named_fit (λ s. s.name) (λ s. shape_fits (length p.sorts) s.shape) (shapes_fit (length p.sorts)) (shown_symbol p) room (λ x xs. refl) (λ s h k. symbol_fits p n room s (omega (arith, le)) h k) p.symbols n.symbols f.shapes in
    let axioms = formulas_can_be_written p (fixed_vocabulary p) (fixed_spoken p n) (codes "axiom") p.axioms room refl le f.axioms in
    let inits = formulas_can_be_written p (own_vocabulary p) (own_spoken p n) (codes "init") p.inits room refl le f.inits in
    let actions = named_fit (λ a. a.name) (action_fits p) (actions_fit p) (shown_action p) room (λ x xs. refl) (λ a h k. action_can_be_written p n room a le h k) p.actions n.actions f.actions in
    let fairs = named_fit (λ c. c.name) (fair_fits p) (fairs_fit p) (shown_fair p) room (λ x xs. refl) (λ c h k. fair_can_be_written p n room c le h k) p.fairs n.fairs f.fairs in
    let labels = named_fit (λ l. l.name) (label_fits p) (labels_fit p) (shown_label p) room (λ x xs. refl) (λ l h k. label_can_be_written p n room l le h k) p.labels n.labels f.labels in
    let witnesses = witnesses_can_be_written p n room 0 p.witnesses le n.witnesses f.witnesses in
    let from_witnesses = map (shown_witness p) p.witnesses ++ (shown_property p ∷ map (shown_invariant p) p.invariants) in
    let from_labels = map (shown_label p) p.labels ++ from_witnesses in
    let from_fairs = map (shown_fair p) p.fairs ++ from_labels in
    let from_actions = map (shown_action p) p.actions ++ from_fairs in
    let from_inits = map (shown_lone p (codes "init") 0) p.inits ++ from_actions in
    let from_axioms = map (shown_lone p (codes "axiom") 0) p.axioms ++ from_inits in
    let from_symbols = map (shown_symbol p) p.symbols ++ from_axioms in
    both_fit room (map shown_sort p.sorts) from_symbols sorts (both_fit room (map (shown_symbol p) p.symbols) from_axioms symbols (both_fit room (map (shown_lone p (codes "axiom") 0) p.axioms) from_inits axioms
    (both_fit room (map (shown_lone p (codes "init") 0) p.inits) from_actions inits (both_fit room (map (shown_action p) p.actions) from_fairs actions (both_fit room (map (shown_fair p) p.fairs) from_labels fairs
    (both_fit room (map (shown_label p) p.labels) from_witnesses labels (both_fit room (map (shown_witness p) p.witnesses) (shown_property p ∷ map (shown_invariant p) p.invariants) witnesses last)))))))
