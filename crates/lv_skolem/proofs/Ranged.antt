-- What holds of the sentences of a pair: they fit the symbols that occur, and their sorts are in range.
use Rattle.std.proofs.Common.{◌≡◌, ◌≢◌, ℕ, zero, suc, ◌<◌, Bool, true, false, ◌&&◌, cond, List, [], ◌∷◌, ◌++◌, map, Option, Some, None, refl, sym, ap, ap₂, ◌∙◌, subst, arith}
use Rattle.std.specs.Prelude.{slice_get}
use Rattle.std.specs.List.{All, AllPairs}
use Rattle.std.proofs.lemmas.Bool.{cases_Bool, cond-true, cond-false}
use Rattle.std.proofs.lemmas.Option.{get_or_from_slice_get}
use Rattle.lv_formula.specs.declared.symbols.SortId.{SortId}
use Rattle.lv_formula.specs.declared.symbols.Sym.{Sym}
use Rattle.lv_formula.specs.declared.vocabulary.ConShape.{ConShape}
use Rattle.lv_formula.specs.declared.vocabulary.RelShape.{RelShape}
use Rattle.lv_formula.specs.declared.vocabulary.Sentences.{Sentences}
use Rattle.lv_formula.specs.declared.vocabulary.Vocabulary.{Vocabulary}
use Rattle.lv_formula.specs.declared.formula.Formula.{Formula}
use Rattle.lv_formula.specs.Symbols.{sym_eq}
use Rattle.lv_formula.specs.Vocabulary.{relation_in, constant_in, IsSound}
use Rattle.lv_formula.proofs.SymbolLaws.{sym_eq-true, sym_eq-refl}
use Rattle.lv_formula.specs.Meaning.{Meaning, IsStructureOf}
use Rattle.lv_rewrite.specs.Normal.{nnf_of, nnf_of_all}
use Rattle.lv_places.specs.declared.skolem.Place.{Place}
use Rattle.lv_places.specs.declared.skolem.Skolem.{Skolem}
use Rattle.lv_places.specs.Forms.{Form, Yes, No, Lit, And, Or, All as AllForm, Any, Forms, Nil, Cons, form_of, forms_of, occurs_some}
use Rattle.lv_places.specs.Places.{Binder, Every, Chosen, sort_of, Site, place_of, sites, sites_all}
use Rattle.lv_skolem.specs.Skolems.{normal_forms, IsSkolem}
use Rattle.lv_places.specs.Occurring.{constants_in}
use Rattle.lv_formula.specs.Pairs.{breaks, SentencesFit}
use Rattle.lv_places.proofs.Tests.{either, by_cases}
use Rattle.lv_skolem.proofs.Meets.{meets, meets_all, right, all_right}
use Rattle.lv_skolem.proofs.Sorted.{vocabulary_of, FormFits, FormsFit, normal_fits, normals_fit, constants_kept, relations_kept, forms_keep}
use Rattle.lv_places.proofs.Universes.{IsRanged, get_map, get_unmap, get_below, Every_in, every_append, every_at}
use Rattle.lv_places.proofs.Sites.{HasAt, has_self}

-- ---- lists of forms with one more

forms_append : (fs : List Formula) (f : Formula) → List Formula
forms_append fs f = fs ++ f ∷ []

pub fit_last : (voc : Vocabulary) (fs : List Formula) (f : Formula) → FormsFit voc [] (forms_of fs) → FormFits voc [] (form_of f)
    → FormsFit voc [] (forms_of (fs ++ f ∷ []))
fit_last voc [] f h k = (k, tt)
fit_last voc (g ∷ fs) f h k = (h.0, fit_last voc fs f h.1 k)

and-true : (a : Bool) → (a && true) ≡ a
and-true true = refl
and-true false = refl

and_regroup : (a b c : Bool) → (a && (b && c)) ≡ ((a && b) && c)
and_regroup true b c = refl
and_regroup false b c = refl

meets_last : (m : Meaning) (fs : List Formula) (f : Formula)
    → meets_all m [] (forms_of (fs ++ f ∷ [])) ≡ (meets_all m [] (forms_of fs) && meets m [] (form_of f))
meets_last m [] f = and-true (meets m [] (form_of f))
meets_last m (g ∷ fs) f = ap (λ b. meets m [] (form_of g) && b) (meets_last m fs f)
    ∙ and_regroup (meets m [] (form_of g)) (meets_all m [] (forms_of fs)) (meets m [] (form_of f))

-- ---- ranges

not_same : (a b : Sym) → a ≢ b → sym_eq a b ≡ false
not_same a b h = either (cases_Bool (sym_eq a b)) (λ e. absurd (h (sym_eq-true a b e))) (λ e. e)

later_differ : {X : Type 0} (xs ys : List X) → AllPairs (λ a b. a ≢ b) (xs ++ ys) → AllPairs (λ a b. a ≢ b) ys
later_differ [] ys h = h
later_differ (x ∷ xs) ys h = later_differ xs ys (λ i j d before lt. h (suc i) (suc j) d (omega arith) (omega arith))

-- where no two constants have one name, each is found under its name
each_found : (cs : List ConShape) → AllPairs (λ a b. a ≢ b) (map (λ (c : ConShape). c.sym) cs) → (i : ℕ) (x : ConShape) → slice_get cs i ≡ Some x
    → constant_in cs x.sym ≡ Some x.sort
each_found [] h i x e = absurd (cc)
each_found (c ∷ cs) h zero x e =
    let is : c ≡ x = cc in
    subst (λ (y : ConShape). constant_in (c ∷ cs) y.sym ≡ Some y.sort) is (cond-true (sym_eq c.sym c.sym) _ _ (sym_eq-refl c.sym))
each_found (c ∷ cs) h (suc i) x e =
    let at = get_map (λ (c : ConShape). c.sym) cs i x e in
    let l = get_below (map (λ (c : ConShape). c.sym) cs) i x.sym at in
    let ne : c.sym ≢ x.sym = λ q. h 0 (suc i) x.sym (omega arith) (omega (arith, l)) (q
    ∙ sym (get_or_from_slice_get (map (λ (c : ConShape). c.sym) cs) i x.sym x.sym at)) in
    cond-false (sym_eq c.sym x.sym) _ _ (not_same c.sym x.sym ne) ∙ each_found cs (λ i j d before lt. h (suc i) (suc j) d (omega arith) (omega arith)) i x e

found_in_range : (n : ℕ) (cs : List ConShape) (c : Sym) (s : SortId) → All (λ (x : ConShape). x.sort.0 < n) cs → constant_in cs c ≡ Some s → s.0 < n
found_in_range n [] c s h e = absurd (cc)
found_in_range n (x ∷ cs) c s h e = by_cases (sym_eq x.sym c)
    (λ q. let w : Some x.sort ≡ Some s = sym (cond-true (sym_eq x.sym c) (Some x.sort) (constant_in cs c) q) ∙ e in
    let is : x.sort ≡ s = cc in subst (λ (z : SortId). z.0 < n) is (h 0 x (omega arith)))
    (λ q. found_in_range n cs c s (λ k d l. h (suc k) d (omega arith)) (sym (cond-false (sym_eq x.sym c) (Some x.sort) (constant_in cs c) q) ∙ e))

-- what is kept was there, and occurs
kept_there : (fs : Forms) (cs : List ConShape) (i : ℕ) (x : ConShape) → slice_get (constants_in fs cs) i ≡ Some x
    → (j : ℕ) × (slice_get cs j ≡ Some x) × (occurs_some x.sym fs ≡ true)
kept_there fs [] i x e = absurd (cc)
kept_there fs (c ∷ cs) i x e = step (occurs_some c.sym fs) refl i e (kept_there fs cs)
  where
    step : (b : Bool) → occurs_some c.sym fs ≡ b → (i : ℕ) → slice_get (cond b (c ∷ constants_in fs cs) (constants_in fs cs)) i ≡ Some x
        → ((i : ℕ) (x : ConShape) → slice_get (constants_in fs cs) i ≡ Some x → (j : ℕ) × (slice_get cs j ≡ Some x) × (occurs_some x.sym fs ≡ true))
        → (j : ℕ) × (slice_get (c ∷ cs) j ≡ Some x) × (occurs_some x.sym fs ≡ true)
    step true q zero e ih = (0, e, (let is : c ≡ x = cc in subst (λ (y : ConShape). occurs_some y.sym fs ≡ true) is q))
    step true q (suc i) e ih = let r = ih i x e in (suc r.0, r.1, r.2)
    step false q i e ih = let r = ih i x e in (suc r.0, r.1, r.2)

mutual
  sites_ranged : (voc : Vocabulary) (f : Form) (g : List Binder) → FormFits voc (map sort_of g) f → Every_in (λ (p : Site). p.sort.0 < voc.sorts) (sites g f)
  sites_ranged voc Yes g h = tt
  sites_ranged voc No g h = tt
  sites_ranged voc (Lit b a) g h = tt
  sites_ranged voc (And fs) g h = all_sites_ranged voc fs g h
  sites_ranged voc (Or fs) g h = all_sites_ranged voc fs g h
  sites_ranged voc (AllForm s f) g h = sites_ranged voc f (Every s ∷ g) h.1
  sites_ranged voc (Any s f) g h = (h.0, sites_ranged voc f (Chosen s f ∷ g) h.1)

  all_sites_ranged : (voc : Vocabulary) (fs : Forms) (g : List Binder) → FormsFit voc (map sort_of g) fs
      → Every_in (λ (p : Site). p.sort.0 < voc.sorts) (sites_all g fs)
  all_sites_ranged voc Nil g h = tt
  all_sites_ranged voc (Cons f fs) g h =
      every_append (λ (p : Site). p.sort.0 < voc.sorts) (sites g f) (sites_all g fs) (sites_ranged voc f g h.0) (all_sites_ranged voc fs g h.1)

-- what is known of a kept look-up
kept_was : (b : Bool) (o : Option SortId) (s : SortId) → cond b o None ≡ Some s → o ≡ Some s
kept_was true o s h = h
kept_was false o s h = absurd (cc)

module _ (voc : Vocabulary) (s : Sentences) (sk : Skolem) (sound : IsSound voc) (fit : SentencesFit voc s) (is : IsSkolem voc s sk) where
  abbrev fs : Forms
  fs = forms_of (normal_forms s)

  abbrev pub table : List Site
  table = sites_all [] fs

  forms_fit : FormsFit voc [] fs
  forms_fit = fit_last voc (nnf_of_all s.hypotheses true) (nnf_of s.conclusion false) (normals_fit voc s.hypotheses true [] fit.hypotheses)
      (normal_fits voc s.conclusion false [] fit.conclusion)

  constant_kept : (c : Sym) → constant_in sk.constants c ≡ cond (occurs_some c fs) (constant_in voc.constants c) None
  constant_kept c = ap (λ cs. constant_in cs c) is.constants ∙ constants_kept fs voc.constants c

  relation_kept : (r : Sym) → relation_in sk.relations r ≡ cond (occurs_some r fs) (relation_in voc.relations r) None
  relation_kept r = ap (λ rs. relation_in rs r) is.relations ∙ relations_kept fs voc.relations r

  pub constant_was : (c : Sym) (t : SortId) → constant_in sk.constants c ≡ Some t → constant_in voc.constants c ≡ Some t
  constant_was c t h = kept_was (occurs_some c fs) (constant_in voc.constants c) t (sym (constant_kept c) ∙ h)

  -- the sentences fit the symbols that occur
  pub sentences_fit : FormsFit (vocabulary_of sk) [] (forms_of sk.forms)
  sentences_fit = subst (λ l. FormsFit (vocabulary_of sk) [] (forms_of l)) (sym is.forms)
      (forms_keep voc (vocabulary_of sk) (λ c. occurs_some c fs) is.sorts
      (λ c h. constant_kept c ∙ cond-true (occurs_some c fs) _ _ h)
      (λ r h. relation_kept r ∙ cond-true (occurs_some r fs) _ _ h)
      fs [] (λ c h. h) forms_fit)

  pub sentences_meet : (m : Meaning) → meets_all m [] (forms_of sk.forms) ≡ breaks m s
  sentences_meet m =
      ap (λ l. meets_all m [] (forms_of l)) is.forms ∙ meets_last m (nnf_of_all s.hypotheses true) (nnf_of s.conclusion false)
      ∙ ap₂ (λ a b. a && b) (all_right m s.hypotheses []) (right m s.conclusion false [])

  pub places_are : sk.places ≡ map place_of table
  places_are = is.places

  pub table_has : HasAt table 0 (sites_all [] (forms_of sk.forms))
  table_has = subst (λ l. HasAt table 0 (sites_all [] (forms_of l))) (sym is.forms) (has_self [] table)

  pub is_ranged : IsRanged sk
  is_ranged = record { places = places; constants = constants; distinct = distinct }
    where
      places : (k : ℕ) (p : Place) → slice_get sk.places k ≡ Some p → p.sort.0 < sk.sorts
      places k p h =
          let q = get_unmap place_of table k p (sym (ap (λ l. slice_get l k) is.places) ∙ h) in
          let e = every_at (λ (z : Site). z.sort.0 < voc.sorts) table k (all_sites_ranged voc fs [] forms_fit) (get_below table k q.0 q.1) in
          let z : e.0 ≡ q.0 = (let w : Some e.0 ≡ Some q.0 = sym e.1 ∙ q.1 in cc) in
          let l : q.0.sort.0 < voc.sorts = subst (λ (z : Site). z.sort.0 < voc.sorts) z e.2 in
          let l' : p.sort.0 < voc.sorts = subst (λ (z : Place). z.sort.0 < voc.sorts) q.2 l in
          subst (λ n. p.sort.0 < n) (sym is.sorts) l'

      constants : (c : Sym) (t : SortId) → constant_in sk.constants c ≡ Some t → t.0 < sk.sorts
      constants c t h = subst (λ n. t.0 < n) (sym is.sorts) (found_in_range voc.sorts voc.constants c t sound.constants (constant_was c t h))

      distinct : (i : ℕ) (x : ConShape) → slice_get sk.constants i ≡ Some x → constant_in sk.constants x.sym ≡ Some x.sort
      distinct i x h =
          let r = kept_there fs voc.constants i x (sym (ap (λ l. slice_get l i) is.constants) ∙ h) in
          let d = later_differ (map (λ (r : RelShape). r.sym) voc.relations) (map (λ (c : ConShape). c.sym) voc.constants) sound.differ in
          constant_kept x.sym ∙ cond-true (occurs_some x.sym fs) _ _ r.2 ∙ each_found voc.constants d r.0 x r.1

  pub structure_kept : (m : Meaning) → IsStructureOf voc m → IsStructureOf (vocabulary_of sk) m
  structure_kept m h = record { sizes = h.sizes; constants = λ c t q. h.constants c t (constant_was c t q) }
