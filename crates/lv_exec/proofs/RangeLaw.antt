-- What an update gives is in range, and the structure keeps its symbols.
use Rattle.std.proofs.Common.{◌≡◌, ℕ, zero, suc, ◌<◌, ◌≤◌, ◌^◌, Bool, true, false, leb, List, [], ◌∷◌, ◌++◌, length, map, reverse, filter, get_or, slice_get, Some, refl, sym, ap, ap₂, subst, ◌∙◌, arith}
use Rattle.std.specs.Option.{ForSome}
use Rattle.std.specs.List.{All}
use Rattle.std.proofs.lemmas.Bool.{and_parts, and_from, ltb-true, leb-true}
use Rattle.std.proofs.lemmas.List.{reverse-append}
use Rattle.lv_formula.specs.declared.symbols.SortId.{SortId}
use Rattle.lv_formula.specs.declared.symbols.Sym.{Sym}
use Rattle.lv_formula.specs.declared.symbols.Sym.TheVariants.{Own}
use Rattle.lv_formula.specs.declared.terms.Term.{Term}
use Rattle.lv_formula.specs.declared.terms.Term.TheVariants.{Var, Const}
use Rattle.lv_formula.specs.declared.formula.Formula.{Formula}
use Rattle.lv_formula.specs.declared.vocabulary.Vocabulary.{Vocabulary}
use Rattle.lv_formula.specs.Measures.{nodes_of, depth_of}
use Rattle.lv_formula.specs.Vocabulary.{relation_in, constant_in}
use Rattle.lv_formula.specs.Fits.{sort_of}
use Rattle.lv_formula.proofs.MeasureLaws.{depth-le-nodes}
use Rattle.lv_formula.specs.Meaning.{IsStructureOf, in_range, is_element}
use Rattle.lv_struct.specs.Tables.{IsInRange, IsSound, Tables, meaning, relation_shape, constant_shape, size_in, size_of, sorts_in, sort_in}
use Rattle.lv_formula.specs.Tuples.{has_tuple, over, tuples_over}
use Rattle.lv_struct.specs.Changes.{with_tuples, with_element}
use Rattle.lv_struct.proofs.TupleLaws.{All-from_has_tuple, has_tuple-filter, has_tuple-tuples_over}
use Rattle.lv_struct.proofs.MeaningLaws.{structure_of, vocabulary-with_tuples, vocabulary-with_element}
use Rattle.lv_formula.specs.Truth.{value_of}
use Rattle.lv_formula.proofs.AgreeLaw.{element_of, same_sort}
use Rattle.lv_system.specs.declared.parts.Parts.{Parts}
use Rattle.lv_system.specs.declared.parts.Symbol.{Symbol}
use Rattle.lv_system.specs.declared.parts.ActionUpdate.TheVariants.{Relation, Constant}
use Rattle.lv_system.specs.Fits.{update_fits}
use Rattle.lv_system.specs.Step.{no_symbol, symbol_at, sorts_at, sorts_or_none}
use Rattle.lv_system.specs.Vocabularies.{relation_sorts, constant_sort, own_vocabulary, any_symbol}
use Rattle.lv_system.specs.Lookups.{relation_where, constant_where}
use Rattle.lv_system.proofs.FitsFacts.{fit_relation, fit_constant}
use Rattle.lv_system.proofs.LookupLaws.{own_relation_told, own_constant_told}
use Rattle.lv_exec.specs.Setting.{is_true_with}
use Rattle.lv_exec.specs.Symbols.{HasSymbols, SameSymbols}

-- a symbol that isn't fixed is there
there : (ss : List Symbol) (n : ℕ) → (get_or ss n no_symbol).fixed ≡ false → slice_get ss n ≡ Some (get_or ss n no_symbol)
there [] n h = cc
there (s ∷ ss) zero h = refl
there (s ∷ ss) (suc n) h = there ss n h

pub own_sorts : (p : Parts) (n : ℕ) (sorts : List SortId) → (symbol_at p n).fixed ≡ false → relation_sorts (symbol_at p n).shape ≡ Some sorts
    → relation_in (own_vocabulary p).relations (Own n) ≡ Some sorts
own_sorts p n sorts changing is = own_relation_told any_symbol p (Own n) ∙ ap (relation_where any_symbol) (there p.symbols n changing) ∙ is

pub own_sort : (p : Parts) (n : ℕ) (sort : SortId) → (symbol_at p n).fixed ≡ false → constant_sort (symbol_at p n).shape ≡ Some sort
    → constant_in (own_vocabulary p).constants (Own n) ≡ Some sort
own_sort p n sort changing is = own_constant_told any_symbol p (Own n) ∙ ap (constant_where any_symbol) (there p.symbols n changing) ∙ is

-- the tuples of a filter over all tuples are in range
filtered : (w : Tables) (sorts : List SortId) (test : List ℕ → Bool) → All (IsInRange w.sizes sorts) (filter test (tuples_over (size_in w) sorts))
filtered w sorts test = All-from_has_tuple (IsInRange w.sizes sorts) (filter test (tuples_over (size_in w) sorts))
    (λ tuple h. sym (has_tuple-tuples_over (size_in w) sorts tuple) ∙ (and_parts (has_tuple (tuples_over (size_in w) sorts) tuple) (test tuple) (sym (has_tuple-filter test (tuples_over (size_in w) sorts) tuple) ∙ h)).0)

-- ranges, read from the other end
over_end : (set : SortId → ℕ → Bool) (ss : List SortId) (xs : List ℕ) (s : SortId) (x : ℕ) → over set ss xs ≡ true → set s x ≡ true → over set (ss ++ s ∷ []) (xs ++ x ∷ []) ≡ true
over_end set [] [] s x h e = and_from (set s x) true e refl
over_end set [] (y ∷ ys) s x h e = cc
over_end set (r ∷ rs) [] s x h e = cc
over_end set (r ∷ rs) (y ∷ ys) s x h e = let both = and_parts (set r y) (over set rs ys) h in
    and_from (set r y) (over set (rs ++ s ∷ []) (ys ++ x ∷ [])) both.0 (over_end set rs ys s x both.1 e)

pub over_reverse : (set : SortId → ℕ → Bool) (ss : List SortId) (xs : List ℕ) → over set ss xs ≡ true → over set (reverse ss) (reverse xs) ≡ true
over_reverse set [] [] h = refl
over_reverse set [] (y ∷ ys) h = cc
over_reverse set (r ∷ rs) [] h = cc
over_reverse set (r ∷ rs) (y ∷ ys) h = let both = and_parts (set r y) (over set rs ys) h in
    ap₂ (λ a b. over set a b) (reverse-append (r ∷ []) rs) (reverse-append (y ∷ []) ys) ∙ over_end set (reverse rs) (reverse ys) r y (over_reverse set rs ys both.1) both.0

abbrev own_voc : Tables → Vocabulary
own_voc w = record { sorts = length w.sizes; relations = map relation_shape w.relations; constants = map constant_shape w.constants; order = [] }

-- a structure is one of its own vocabulary
of_its_own : (w : Tables) → IsSound w → IsStructureOf (own_voc w) (meaning w)
of_its_own w sound = structure_of (own_voc w) w sound (record { sorts = refl; relations = refl; constants = refl })

module _ (p : Parts) (params : List SortId) (elements : List ℕ) (m next : Tables) (has : HasSymbols (own_vocabulary p) m) (same : SameSymbols m next) where
  term_below : (t : Term) (s : SortId) → sort_of (own_vocabulary p) (reverse params) t ≡ Some s → IsSound m → in_range (meaning m) params elements ≡ true
      → value_of (meaning m) (reverse elements) t < size_in m s
  term_below (Var i) s is sound range =
      ltb-true _ _ (element_of (meaning m) (reverse params) (reverse elements) i s is (over_reverse (is_element (meaning m)) params elements range))
  term_below (Const c) s is sound range = (of_its_own m sound).constants c s (has.constants c s is)

  next_sorts : (r : Sym) → sorts_in next r ≡ sorts_in m r
  next_sorts r = ap (λ shapes. relation_in shapes r) same.relations

  next_sort : (c : Sym) → sort_in next c ≡ sort_in m c
  next_sort c = ap (λ shapes. constant_in shapes c) same.constants

  -- the tuples on which a body is true are in range
  pub relation_in_range : (symbol : ℕ) (body : Formula) (tuples : List (List ℕ)) → update_fits p params (Relation symbol body) ≡ true
      → tuples ≡ filter (is_true_with (meaning m) elements body) (tuples_over (size_in m) (sorts_at p symbol))
      → ForSome (sorts_in next (Own symbol)) (λ sorts. All (IsInRange next.sizes sorts) tuples)
  relation_in_range symbol body tuples h e x is =
      let f = fit_relation p params symbol body h in
      let known : sorts_in m (Own symbol) ≡ Some f.sorts = has.relations (Own symbol) f.sorts (own_sorts p symbol f.sorts f.changing f.is) in
      let found : Some x ≡ Some f.sorts = sym is ∙ next_sorts (Own symbol) ∙ known in
      let it : x ≡ f.sorts = cc in
      let at : sorts_at p symbol ≡ f.sorts = ap sorts_or_none f.is in
      let all : All (IsInRange m.sizes f.sorts) (filter (is_true_with (meaning m) elements body) (tuples_over (size_in m) f.sorts)) = filtered m f.sorts (is_true_with (meaning m) elements body) in
      rw (same.sizes, it, e, at) all

  -- the element that a constant is set to is in its sort
  pub constant_in_range : (symbol : ℕ) (term : Term) → update_fits p params (Constant symbol term) ≡ true → IsSound m → in_range (meaning m) params elements ≡ true
      → ForSome (sort_in next (Own symbol)) (λ sort. value_of (meaning m) (reverse elements) term < size_in next sort)
  constant_in_range symbol term h sound range x is =
      let f = fit_constant p params symbol term h in
      let known : sort_in m (Own symbol) ≡ Some f.sort = has.constants (Own symbol) f.sort (own_sort p symbol f.sort f.changing f.is) in
      let found : Some x ≡ Some f.sort = sym is ∙ next_sort (Own symbol) ∙ known in
      let it : x ≡ f.sort = cc in
      let below : value_of (meaning m) (reverse elements) term < size_in m f.sort = term_below term f.sort (same_sort (sort_of (own_vocabulary p) (reverse params) term) f.sort f.fits) sound range in
      rw (it) (subst (λ sizes. value_of (meaning m) (reverse elements) term < size_of sizes f.sort) (sym same.sizes) below)

-- the binders of a body that fits are counted in a `u32`
pub few_binders : (p : Parts) (params : List SortId) (symbol : ℕ) (body : Formula) → update_fits p params (Relation symbol body) ≡ true → depth_of body < 2 ^ 32
few_binders p params symbol body h =
    let small = (fit_relation p params symbol body h).small in
    let nodes : nodes_of body ≤ 1024 = leb-true _ _ (and_parts (leb (nodes_of body) 1024) _ small).0 in
    let depth = depth-le-nodes body in
    omega (arith, nodes, depth)

-- a structure with one update made has the same symbols
pub symbols_kept_by_tuples : (m next : Tables) (r : Sym) (tuples : List (List ℕ)) → SameSymbols m next → SameSymbols m (with_tuples next r tuples)
symbols_kept_by_tuples m next r tuples same = let kept = vocabulary-with_tuples (own_voc next) next r tuples (record { sorts = refl; relations = refl; constants = refl }) in
    record { sizes = same.sizes; relations = kept.relations ∙ same.relations; constants = kept.constants ∙ same.constants }

pub symbols_kept_by_element : (m next : Tables) (c : Sym) (element : ℕ) → SameSymbols m next → SameSymbols m (with_element next c element)
symbols_kept_by_element m next c element same = let kept = vocabulary-with_element (own_voc next) next c element (record { sorts = refl; relations = refl; constants = refl }) in
    record { sizes = same.sizes; relations = kept.relations ∙ same.relations; constants = kept.constants ∙ same.constants }
