-- The updates made one after the other, each reading the old structure, are what an action makes of it.
use Rattle.std.proofs.Common.{◌≡◌, ℕ, ◌<◌, Bool, true, false, not, ◌&&◌, cond, eqb, List, [], ◌∷◌, ◌++◌, length, filter, reverse, Some, refl, sym, ap, subst, ◌∙◌, ⊎_elim}
use Rattle.std.proofs.lemmas.Bool.{and_parts, cases_Bool, eqb-true}
use Rattle.lv_formula.specs.declared.symbols.SortId.{SortId}
use Rattle.lv_formula.specs.declared.symbols.Sym.{Sym}
use Rattle.lv_formula.specs.declared.symbols.Sym.TheVariants.{Own, Witness, Label, Frozen, Saved, Touched, Kept, Due, Copy, CopyLabel, Next, Param}
use Rattle.lv_formula.specs.declared.terms.Term.{Term}
use Rattle.lv_formula.specs.declared.formula.Formula.{Formula}
use Rattle.lv_formula.specs.Symbols.{sym_eq}
use Rattle.lv_formula.specs.Vocabulary.{relation_in, constant_in}
use Rattle.lv_formula.specs.Meaning.{Meaning, in_range}
use Rattle.lv_struct.specs.Tables.{Tables, holds_in, meaning, sorts_in, sort_in, size_of, value_in}
use Rattle.lv_formula.specs.Tuples.{tuples_over}
use Rattle.lv_struct.specs.Changes.{with_tuples, with_element}
use Rattle.lv_struct.proofs.TupleLaws.{has_tuple-filter, has_tuple-tuples_over}
use Rattle.lv_formula.proofs.MeaningLaws.{same_meaning}
use Rattle.lv_struct.proofs.MeaningLaws.{holds-with_tuples, holds-with_tuples_other, value-with_element, value-with_element_other}
use Rattle.lv_formula.specs.Truth.{truth_in, value_of}
use Rattle.lv_system.specs.declared.parts.Parts.{Parts}
use Rattle.lv_system.specs.declared.parts.Action.{Action}
use Rattle.lv_system.specs.declared.parts.ActionUpdate.{ActionUpdate}
use Rattle.lv_system.specs.declared.parts.ActionUpdate.TheVariants.{Relation, Constant}
use Rattle.lv_system.specs.Fits.{target_of, is_target, targets_differ, update_fits, updates_fit, fits_parts}
use Rattle.lv_system.specs.Step.{action_at, performed, performed_holds, performed_value, set_holds, set_value, sorts_at}
use Rattle.lv_system.specs.Vocabularies.{own_vocabulary}
use Rattle.lv_system.proofs.FitsFacts.{fit_relation, fit_constant, fitting}
use Rattle.lv_exec.specs.Setting.{is_true_with, set_all}
use Rattle.lv_exec.specs.Symbols.{HasSymbols, SameSymbols}
use Rattle.lv_exec.proofs.RangeLaw.{own_sort, own_sorts, symbols_kept_by_tuples, symbols_kept_by_element}

own_same : (i j : ℕ) → sym_eq (Own i) (Own j) ≡ eqb i j
unfolding sym_eq
own_same i j = refl

not-true : (b : Bool) → not b ≡ true → b ≡ false
not-true true h = sym h
not-true false h = refl

module _ (p : Parts) (elements : List ℕ) (m : Meaning) where
  -- what the updates say of a relation and a tuple, and else this
  holds_else : Bool → List ActionUpdate → ℕ → List ℕ → Bool
  holds_else base [] r tuple = base
  holds_else base (Relation symbol body ∷ us) r tuple = cond (eqb symbol r) (in_range m (sorts_at p r) tuple && truth_in m body (reverse (elements ++ tuple))) (holds_else base us r tuple)
  holds_else base (Constant symbol term ∷ us) r tuple = holds_else base us r tuple

  value_else : ℕ → List ActionUpdate → ℕ → ℕ
  value_else base [] c = base
  value_else base (Relation symbol body ∷ us) c = value_else base us c
  value_else base (Constant symbol term ∷ us) c = cond (eqb symbol c) (value_of m (reverse elements) term) (value_else base us c)

  holds_else-old : (us : List ActionUpdate) (r : ℕ) (tuple : List ℕ) → holds_else (m.holds (Own r) tuple) us r tuple ≡ set_holds p elements m us r tuple
  unfolding holds_else
  holds_else-old [] r tuple = refl
  holds_else-old (Relation symbol body ∷ us) r tuple = ap (λ b. cond (eqb symbol r) (in_range m (sorts_at p r) tuple && truth_in m body (reverse (elements ++ tuple))) b) (holds_else-old us r tuple)
  holds_else-old (Constant symbol term ∷ us) r tuple = holds_else-old us r tuple

  value_else-old : (us : List ActionUpdate) (c : ℕ) → value_else (m.value (Own c)) us c ≡ set_value elements m us c
  unfolding value_else
  value_else-old [] c = refl
  value_else-old (Relation symbol body ∷ us) c = value_else-old us c
  value_else-old (Constant symbol term ∷ us) c = ap (λ x. cond (eqb symbol c) (value_of m (reverse elements) term) x) (value_else-old us c)

  -- a symbol that no update sets is left
  not_first : (n : ℕ) (u : ActionUpdate) (us : List ActionUpdate) → is_target n (u ∷ us) ≡ false → (eqb (target_of u) n ≡ false) × (is_target n us ≡ false)
  not_first n u us h = by (eqb (target_of u) n) (is_target n us) h
    where
      by : (a b : Bool) → cond a true b ≡ false → (a ≡ false) × (b ≡ false)
      by true b h = cc
      by false b h = (refl, h)

  holds_else-left : (base : Bool) (us : List ActionUpdate) (r : ℕ) (tuple : List ℕ) → is_target r us ≡ false → holds_else base us r tuple ≡ base
  unfolding holds_else
  holds_else-left base [] r tuple h = refl
  holds_else-left base (Relation symbol body ∷ us) r tuple h = let both = not_first r (Relation symbol body) us h in rw (both.0) (holds_else-left base us r tuple both.1)
  holds_else-left base (Constant symbol term ∷ us) r tuple h = holds_else-left base us r tuple (not_first r (Constant symbol term) us h).1

  value_else-left : (base : ℕ) (us : List ActionUpdate) (c : ℕ) → is_target c us ≡ false → value_else base us c ≡ base
  unfolding value_else
  value_else-left base [] c h = refl
  value_else-left base (Relation symbol body ∷ us) c h = value_else-left base us c (not_first c (Relation symbol body) us h).1
  value_else-left base (Constant symbol term ∷ us) c h = let both = not_first c (Constant symbol term) us h in rw (both.0) (value_else-left base us c both.1)

module _ (p : Parts) (params : List SortId) (elements : List ℕ) (old : Tables) (has : HasSymbols (own_vocabulary p) old) where
  abbrev m : Meaning
  m = meaning old

  abbrev new_tuples : ℕ → Formula → List (List ℕ)
  new_tuples symbol body = filter (is_true_with m elements body) (tuples_over m.size (sorts_at p symbol))

  -- the relation that an update sets has the tuples in range on which the body is true
  put_relation : (symbol : ℕ) (body : Formula) → update_fits p params (Relation symbol body) ≡ true → (w : Tables) → SameSymbols old w → (tuple : List ℕ)
      → holds_in (with_tuples w (Own symbol) (new_tuples symbol body)) (Own symbol) tuple ≡ (in_range m (sorts_at p symbol) tuple && truth_in m body (reverse (elements ++ tuple)))
  put_relation symbol body h w same tuple =
      let f = fit_relation p params symbol body h in
      let known : sorts_in w (Own symbol) ≡ Some f.sorts = ap (λ shapes. relation_in shapes (Own symbol)) same.relations ∙ has.relations (Own symbol) f.sorts (own_sorts p symbol f.sorts f.changing f.is) in
      holds-with_tuples w (Own symbol) (new_tuples symbol body) f.sorts known tuple
      ∙ has_tuple-filter (is_true_with m elements body) (tuples_over m.size (sorts_at p symbol)) tuple
      ∙ ap (λ b. b && is_true_with m elements body tuple) (has_tuple-tuples_over m.size (sorts_at p symbol) tuple)

  put_constant : (symbol : ℕ) (term : Term) → update_fits p params (Constant symbol term) ≡ true → (w : Tables) → SameSymbols old w
      → value_in (with_element w (Own symbol) (value_of m (reverse elements) term)) (Own symbol) ≡ value_of m (reverse elements) term
  put_constant symbol term h w same =
      let f = fit_constant p params symbol term h in
      let known : sort_in w (Own symbol) ≡ Some f.sort = ap (λ shapes. constant_in shapes (Own symbol)) same.constants ∙ has.constants (Own symbol) f.sort (own_sort p symbol f.sort f.changing f.is) in
      value-with_element w (Own symbol) (value_of m (reverse elements) term) f.sort known

  made_holds : (us : List ActionUpdate) → updates_fit p params us ≡ true → targets_differ us ≡ true → (w : Tables) → SameSymbols old w → (r : ℕ) (tuple : List ℕ)
      → holds_in (set_all p elements m us w) (Own r) tuple ≡ holds_else p elements m (holds_in w (Own r) tuple) us r tuple
  unfolding holds_else
  made_holds [] h d w same r tuple = refl
  made_holds (Relation symbol body ∷ us) h d w same r tuple =
      let both = and_parts (update_fits p params (Relation symbol body)) (updates_fit p params us) h in
      let apart = and_parts (not (is_target symbol us)) (targets_differ us) d in
      let after = with_tuples w (Own symbol) (new_tuples symbol body) in
      made_holds us both.1 apart.1 after (symbols_kept_by_tuples old w (Own symbol) (new_tuples symbol body) same) r tuple
      ∙ ⊎_elim
      (λ e. let it : symbol ≡ r = eqb-true symbol r e in
      let left : is_target r us ≡ false = ap (λ n. is_target n us) (sym it) ∙ not-true (is_target symbol us) apart.0 in
      let put : holds_in after (Own r) tuple ≡ (in_range m (sorts_at p r) tuple && truth_in m body (reverse (elements ++ tuple))) =
      subst (λ n. holds_in after (Own n) tuple ≡ (in_range m (sorts_at p n) tuple && truth_in m body (reverse (elements ++ tuple)))) it (put_relation symbol body both.0 w same tuple) in
      rw (e) (holds_else-left p elements m (holds_in after (Own r) tuple) us r tuple left ∙ put))
      (λ e. rw (e) (ap (λ b. holds_else p elements m b us r tuple) (holds-with_tuples_other w (Own symbol) (new_tuples symbol body) (Own r) (own_same symbol r ∙ e) tuple)))
      (cases_Bool (eqb symbol r))
  made_holds (Constant symbol term ∷ us) h d w same r tuple =
      let both = and_parts (update_fits p params (Constant symbol term)) (updates_fit p params us) h in
      let apart = and_parts (not (is_target symbol us)) (targets_differ us) d in
      made_holds us both.1 apart.1 (with_element w (Own symbol) (value_of m (reverse elements) term)) (symbols_kept_by_element old w (Own symbol) (value_of m (reverse elements) term) same) r tuple

  made_value : (us : List ActionUpdate) → updates_fit p params us ≡ true → targets_differ us ≡ true → (w : Tables) → SameSymbols old w → (c : ℕ)
      → value_in (set_all p elements m us w) (Own c) ≡ value_else p elements m (value_in w (Own c)) us c
  unfolding value_else
  made_value [] h d w same c = refl
  made_value (Relation symbol body ∷ us) h d w same c =
      let both = and_parts (update_fits p params (Relation symbol body)) (updates_fit p params us) h in
      let apart = and_parts (not (is_target symbol us)) (targets_differ us) d in
      made_value us both.1 apart.1 (with_tuples w (Own symbol) (new_tuples symbol body)) (symbols_kept_by_tuples old w (Own symbol) (new_tuples symbol body) same) c
  made_value (Constant symbol term ∷ us) h d w same c =
      let both = and_parts (update_fits p params (Constant symbol term)) (updates_fit p params us) h in
      let apart = and_parts (not (is_target symbol us)) (targets_differ us) d in
      let x = value_of m (reverse elements) term in
      let after = with_element w (Own symbol) x in
      made_value us both.1 apart.1 after (symbols_kept_by_element old w (Own symbol) x same) c
      ∙ ⊎_elim
      (λ e. let it : symbol ≡ c = eqb-true symbol c e in
      let left : is_target c us ≡ false = ap (λ n. is_target n us) (sym it) ∙ not-true (is_target symbol us) apart.0 in
      let put : value_in after (Own c) ≡ x = subst (λ n. value_in after (Own n) ≡ x) it (put_constant symbol term both.0 w same) in
      rw (e) (value_else-left p elements m (value_in after (Own c)) us c left ∙ put))
      (λ e. rw (e) (ap (λ y. value_else p elements m y us c) (value-with_element_other w (Own symbol) x (Own c) (own_same symbol c ∙ e))))
      (cases_Bool (eqb symbol c))

  -- nothing else is changed
  other_holds : (s : Sym) → ((i : ℕ) → sym_eq (Own i) s ≡ false) → (us : List ActionUpdate) (w : Tables) (tuple : List ℕ) → holds_in (set_all p elements m us w) s tuple ≡ holds_in w s tuple
  other_holds s differ [] w tuple = refl
  other_holds s differ (Relation symbol body ∷ us) w tuple =
      other_holds s differ us (with_tuples w (Own symbol) (new_tuples symbol body)) tuple ∙ holds-with_tuples_other w (Own symbol) (new_tuples symbol body) s (differ symbol) tuple
  other_holds s differ (Constant symbol term ∷ us) w tuple = other_holds s differ us (with_element w (Own symbol) (value_of m (reverse elements) term)) tuple

  other_value : (s : Sym) → ((i : ℕ) → sym_eq (Own i) s ≡ false) → (us : List ActionUpdate) (w : Tables) → value_in (set_all p elements m us w) s ≡ value_in w s
  other_value s differ [] w = refl
  other_value s differ (Relation symbol body ∷ us) w = other_value s differ us (with_tuples w (Own symbol) (new_tuples symbol body))
  other_value s differ (Constant symbol term ∷ us) w =
      other_value s differ us (with_element w (Own symbol) (value_of m (reverse elements) term)) ∙ value-with_element_other w (Own symbol) (value_of m (reverse elements) term) s (differ symbol)

  same_sizes : (us : List ActionUpdate) (w : Tables) → (set_all p elements m us w).sizes ≡ w.sizes
  same_sizes [] w = refl
  same_sizes (Relation symbol body ∷ us) w = same_sizes us (with_tuples w (Own symbol) (new_tuples symbol body))
  same_sizes (Constant symbol term ∷ us) w = same_sizes us (with_element w (Own symbol) (value_of m (reverse elements) term))

  same_symbols : SameSymbols old old
  same_symbols = record { sizes = refl; relations = refl; constants = refl }

  module _ (a : Action) (fits : updates_fit p params a.updates ≡ true) (once : targets_differ a.updates ≡ true) where
    each_relation : (s : Sym) (tuple : List ℕ) → holds_in (set_all p elements m a.updates old) s tuple ≡ performed_holds p a elements m s tuple
    unfolding sym_eq
    each_relation (Own r) tuple = made_holds a.updates fits once old same_symbols r tuple ∙ holds_else-old p elements m a.updates r tuple
    each_relation (Witness n) tuple = other_holds (Witness n) (λ i. refl) a.updates old tuple
    each_relation (Label n) tuple = other_holds (Label n) (λ i. refl) a.updates old tuple
    each_relation Frozen tuple = other_holds Frozen (λ i. refl) a.updates old tuple
    each_relation Saved tuple = other_holds Saved (λ i. refl) a.updates old tuple
    each_relation (Touched x) tuple = other_holds (Touched x) (λ i. refl) a.updates old tuple
    each_relation (Kept x) tuple = other_holds (Kept x) (λ i. refl) a.updates old tuple
    each_relation (Due n) tuple = other_holds (Due n) (λ i. refl) a.updates old tuple
    each_relation (Copy n) tuple = other_holds (Copy n) (λ i. refl) a.updates old tuple
    each_relation (CopyLabel n) tuple = other_holds (CopyLabel n) (λ i. refl) a.updates old tuple
    each_relation (Next n) tuple = other_holds (Next n) (λ i. refl) a.updates old tuple
    each_relation (Param n) tuple = other_holds (Param n) (λ i. refl) a.updates old tuple

    each_constant : (s : Sym) → value_in (set_all p elements m a.updates old) s ≡ performed_value a elements m s
    unfolding sym_eq
    each_constant (Own c) = made_value a.updates fits once old same_symbols c ∙ value_else-old p elements m a.updates c
    each_constant (Witness n) = other_value (Witness n) (λ i. refl) a.updates old
    each_constant (Label n) = other_value (Label n) (λ i. refl) a.updates old
    each_constant Frozen = other_value Frozen (λ i. refl) a.updates old
    each_constant Saved = other_value Saved (λ i. refl) a.updates old
    each_constant (Touched x) = other_value (Touched x) (λ i. refl) a.updates old
    each_constant (Kept x) = other_value (Kept x) (λ i. refl) a.updates old
    each_constant (Due n) = other_value (Due n) (λ i. refl) a.updates old
    each_constant (Copy n) = other_value (Copy n) (λ i. refl) a.updates old
    each_constant (CopyLabel n) = other_value (CopyLabel n) (λ i. refl) a.updates old
    each_constant (Next n) = other_value (Next n) (λ i. refl) a.updates old
    each_constant (Param n) = other_value (Param n) (λ i. refl) a.updates old

    -- the tables with all updates made are what the action makes of the structure
    pub made_is_performed : meaning (set_all p elements m a.updates old) ≡ performed p a elements m
    made_is_performed = same_meaning (meaning (set_all p elements m a.updates old)) (performed p a elements m)
        (λ s. ap (λ sizes. size_of sizes s) (same_sizes a.updates old)) each_relation each_constant

-- the updates of a system's action fit
pub updates_of_action : (p : Parts) (n : ℕ) → fits_parts p ≡ true → n < length p.actions → updates_fit p (action_at p n).params (action_at p n).updates ≡ true
updates_of_action p n fits lt = ((fitting p fits).actions n lt).updates

pub performed_after : (p : Parts) (n : ℕ) (elements : List ℕ) (old next : Tables) → fits_parts p ≡ true → n < length p.actions → HasSymbols (own_vocabulary p) old
    → next ≡ set_all p elements (meaning old) (action_at p n).updates old → meaning next ≡ performed p (action_at p n) elements (meaning old)
performed_after p n elements old next fits lt has is =
    let a = (fitting p fits).actions n lt in
    ap meaning is ∙ made_is_performed p (action_at p n).params elements old has (action_at p n) a.updates a.once

-- a structure has the symbols that it has
pub same_as_itself : (old next : Tables) → next ≡ old → SameSymbols old next
same_as_itself old next is = rw (is) (record { sizes = refl; relations = refl; constants = refl })
