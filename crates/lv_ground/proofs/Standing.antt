-- What stands in the sentences: its parts stand there too, and its atoms are possible.
use Rattle.std.proofs.Common.{◌≡◌, ℕ, zero, suc, ◌+◌, ◌<◌, Bool, true, false, not, cond, List, [], ◌∷◌, length, map, get_or, set, Some, refl, sym, ap, ◌∙◌, subst, arith, add-one}
use Rattle.std.specs.Prelude.{slice_get}
use Rattle.std.proofs.lemmas.Bool.{cases_lt}
use Rattle.std.proofs.lemmas.List.{length-map, get_or_past}
use Rattle.std.proofs.lemmas.Option.{get_or_from_slice_get, slice_get-get_or}
use Rattle.lv_formula.specs.declared.symbols.SortId.{SortId}
use Rattle.lv_formula.specs.declared.terms.Term.{Term}
use Rattle.lv_formula.specs.declared.terms.Term.TheVariants.{Var, Const}
use Rattle.lv_places.specs.declared.skolem.Place.{Place}
use Rattle.lv_places.specs.declared.skolem.PlaceArg.{PlaceArg}
use Rattle.lv_places.specs.declared.terms.TermId.{TermId}
use Rattle.lv_places.specs.declared.grounded.GroundAtom.TheVariants.{Equal}
use Rattle.lv_places.specs.Forms.{Atom, Rel, Same, Form, Yes, No, Lit, And, Or, All, Any, Forms, Cons, turned}
use Rattle.lv_places.specs.Places.{Binder, Every, Chosen, sort_of, Site, place_of, chosen_of, sites, places_in, places_in_all}
use Rattle.lv_places.specs.Universes.{term, tuples, place_id, argument_sorts}
use Rattle.lv_places.specs.GroundForms.{term_id, ground_atom, ground_form}
use Rattle.lv_places.proofs.Tests.{either}
use Rattle.lv_places.proofs.Universes.{IsTerm, AreTerms, same_length, get_below, every_at, tuples_are}
use Rattle.lv_places.proofs.Marks.{places_append}
use Rattle.lv_places.proofs.Sites.{HasAt, has_front, has_back, found_below, term_at, are_chosen}
use Rattle.lv_places.proofs.Arguments.{arguments_looked_up, argument_sorts_are}
use Rattle.lv_skolem.proofs.Sorted.{vocabulary_of, TermFits, TermsFit, AtomFits}
use Rattle.lv_ground.specs.declared.setting.Setting.{Setting}
use Rattle.lv_ground.specs.Positions.{sort, IsPossible}
use Rattle.lv_ground.specs.Settings.{IsReady, numbers, naming}
use Rattle.lv_ground.specs.Instances.{signed_form, place_with, place_number, Stands, AllStand}

-- ---- signs

pub signed_true : (f : Form) → signed_form true f ≡ f
signed_true Yes = refl
signed_true No = refl
signed_true (Lit b a) = ap (λ s. Lit s a) (step b)
  where
    step : (b : Bool) → cond b true false ≡ b
    step true = refl
    step false = refl
signed_true (And fs) = refl
signed_true (Or fs) = refl
signed_true (All s f) = refl
signed_true (Any s f) = refl

pub signed_turned : (s : Bool) (f : Form) → signed_form (not s) f ≡ signed_form s (turned f)
signed_turned s Yes = refl
signed_turned s No = refl
signed_turned s (Lit b a) = ap (λ s. Lit s a) (step b s)
  where
    step : (b s : Bool) → cond b (not s) (not (not s)) ≡ cond (not b) s (not s)
    step true true = refl
    step true false = refl
    step false true = refl
    step false false = refl
signed_turned s (And fs) = refl
signed_turned s (Or fs) = refl
signed_turned s (All sort f) = refl
signed_turned s (Any sort f) = refl

-- ---- parts

length-places : (g : List Binder) (f : Form) → length (places_in g f) ≡ length (sites g f)
length-places g f = length-map (sites g f) place_of

pub first_stands : (st : Setting) (g : List Binder) (env : List TermId) (k : ℕ) (f : Form) (fs : Forms) → AllStand st g env k (Cons f fs)
    → Stands st g env k f
first_stands st g env k f fs h = record {
  places = has_front st.sk.now.places k (places_in g f) (places_in_all g fs) (subst (HasAt st.sk.now.places k) (places_append g f fs) h.places);
  terms = h.terms;
  fits = h.fits.0;
}

pub rest_stand : (st : Setting) (g : List Binder) (env : List TermId) (k : ℕ) (f : Form) (fs : Forms) → AllStand st g env k (Cons f fs)
    → AllStand st g env (k + length (sites g f)) fs
rest_stand st g env k f fs h = record {
  places = subst (λ n. HasAt st.sk.now.places (k + n) (places_in_all g fs)) (length-places g f)
      (has_back st.sk.now.places k (places_in g f) (places_in_all g fs) (subst (HasAt st.sk.now.places k) (places_append g f fs) h.places));
  terms = h.terms;
  fits = h.fits.1;
}

pub body_stands : (st : Setting) (g : List Binder) (env : List TermId) (k : ℕ) (s : SortId) (f : Form) (i : ℕ) → i < numbers st s
    → Stands st g env k (All s f) → Stands st (Every s ∷ g) (term s i ∷ env) k f
body_stands st g env k s f i l h = record {
  places = h.places;
  terms = (record { sort_is = refl; within = l }, h.terms);
  fits = h.fits.1;
}

-- the first place of an `Any` node
module _ (st : Setting) (ready : IsReady st) (g : List Binder) (env : List TermId) (k : ℕ) (s : SortId) (f : Form) (h : Stands st g env k (Any s f)) where
  abbrev site : Site
  site = record { around = g; sort = s; body = f }

  at_place : slice_get st.sk.now.places k ≡ Some (place_of site)
  at_place = h.places.0

  is_place : place_with st k ≡ place_of site
  is_place = get_or_from_slice_get st.sk.now.places k (place_of site) _ at_place

  pub place_there : k < length st.sk.now.places
  place_there = get_below st.sk.now.places k (place_of site) at_place

  looked_up : map (λ (a : PlaceArg). get_or env a.var (term (sort 0) 0)) (place_with st k).arguments ≡ chosen_of g f env
  looked_up =
      ap (λ (p : Place). map (λ (a : PlaceArg). get_or env a.var (term (sort 0) 0)) p.arguments) is_place
      ∙ arguments_looked_up (term (sort 0) 0) site env (same_length (numbers st) (map sort_of g) env h.terms)

  abbrev chosen : TermId
  chosen = place_id st.sk.now (numbers st) s k (chosen_of g f env)

  pub place_is : (t : TermId) → t ≡ place_number st k (map (λ (a : PlaceArg). get_or env a.var (term (sort 0) 0)) (place_with st k).arguments) → t ≡ chosen
  place_is t e =
      e ∙ ap (λ ts. place_number st k ts) looked_up
      ∙ ap (λ (p : Place). place_id st.sk.now (numbers st) p.sort k (chosen_of g f env)) is_place

  is_term : IsTerm (numbers st) s chosen
  is_term =
      ready.places k (place_of site) (chosen_of g f env) at_place
      (subst (λ ss. AreTerms (numbers st) ss (chosen_of g f env)) (sym (argument_sorts_are site)) (are_chosen (numbers st) g f (map sort_of g) env h.terms))

  pub inside_stands : (t : TermId) → t ≡ chosen → Stands st (Chosen t.sort f ∷ g) (t ∷ env) (k + 1) f
  inside_stands t e = subst (λ (u : TermId). Stands st (Chosen u.sort f ∷ g) (u ∷ env) (k + 1) f) (sym e) (record {
    places = subst (λ j. HasAt st.sk.now.places j (places_in (Chosen s f ∷ g) f)) (sym (add-one k)) h.places.1;
    terms = (is_term, h.terms);
    fits = h.fits.1;
  })

  pub inside_is : (t : TermId) → t ≡ chosen → ground_form (naming st) (k + 1) (Chosen t.sort f ∷ g) (t ∷ env) f ≡ ground_form (naming st) k g env (Any s f)
  inside_is t e =
      ap (λ (u : TermId). ground_form (naming st) (k + 1) (Chosen u.sort f ∷ g) (u ∷ env) f) e
      ∙ ap (λ j. ground_form (naming st) j (Chosen s f ∷ g) (chosen ∷ env) f) (add-one k)

  pub inside_places : (t : TermId) → t ≡ chosen → (k + 1) + length (sites (Chosen t.sort f ∷ g) f) ≡ k + length (sites g (Any s f))
  inside_places t e = let q = ap (λ (u : TermId). length (sites (Chosen u.sort f ∷ g) f)) e in omega arith

-- ---- atoms

module _ (st : Setting) (ready : IsReady st) where
  pub in_range : (s : SortId) (t : TermId) → IsTerm (numbers st) s t → s.0 < st.sk.now.sorts
  in_range s t h =
      either (cases_lt s.0 st.sk.now.sorts) (λ l. l)
      (λ l. let e = get_or_past st.counts.items s.0 0 (omega (arith, ready.len)) in
      let w = h.within in
      absurd (omega arith))

  instance_is_term : (ss : List SortId) (env : List TermId) (s : SortId) (t : Term) → AreTerms (numbers st) ss env
      → TermFits (vocabulary_of st.sk.now) ss s t → IsTerm (numbers st) s (term_id (naming st) env t)
  instance_is_term ss env s (Var x) are fits =
      let d : SortId = sort 0 in
      let is = term_at (numbers st) ss env x d (term d 0) are (found_below ss x s fits) in
      subst (λ z. IsTerm (numbers st) z (get_or env x (term d 0))) (get_or_from_slice_get ss x s d fits) is
  instance_is_term ss env s (Const c) are fits = ready.constants c s fits

  instances_are_terms : (ss : List SortId) (env : List TermId) (more : List SortId) (ts : List Term) → AreTerms (numbers st) ss env
      → TermsFit (vocabulary_of st.sk.now) ss more ts → AreTerms (numbers st) more (map (term_id (naming st) env) ts)
  instances_are_terms ss env [] [] are fits = tt
  instances_are_terms ss env [] (t ∷ ts) are fits = absurd fits
  instances_are_terms ss env (s ∷ more) [] are fits = absurd fits
  instances_are_terms ss env (s ∷ more) (t ∷ ts) are fits = (instance_is_term ss env s t are fits.0, instances_are_terms ss env more ts are fits.1)

  atom_possible : (ss : List SortId) (env : List TermId) (a : Atom) → AreTerms (numbers st) ss env → AtomFits (vocabulary_of st.sk.now) ss a
      → IsPossible st.sk.now (numbers st) (ground_atom (naming st) env a)
  atom_possible ss env (Rel r ts) are fits = (fits.0, fits.1, instances_are_terms ss env fits.0 ts are fits.2)
  atom_possible ss env (Same a b) are fits =
      let p = instance_is_term ss env fits.0 a are fits.1 in
      let q = instance_is_term ss env fits.0 b are fits.2 in
      (fits.0, in_range fits.0 _ p, p, q)

  pub literal_possible : (g : List Binder) (env : List TermId) (k : ℕ) (b : Bool) (a : Atom) → Stands st g env k (Lit b a) → IsPossible st.sk.now
      (numbers st) (ground_atom (naming st) env a)
  literal_possible g env k b a h = atom_possible (map sort_of g) env a h.terms h.fits

  -- two terms of a sort
  pub pair_possible : (s : SortId) (a b : ℕ) → s.0 < st.sk.now.sorts → a < numbers st s → b < numbers st s → IsPossible st.sk.now (numbers st)
      (Equal (term s a) (term s b))
  pair_possible s a b l la lb = (s, l, record { sort_is = refl; within = la }, record { sort_is = refl; within = lb })

  -- the terms of a place at tuples of its arguments
  pub place_pair_possible : (k : ℕ) (ss : List SortId) (ts us : List TermId) → k < length st.sk.now.places → argument_sorts (place_with st k) ≡ ss
      → AreTerms (numbers st) ss ts → AreTerms (numbers st) ss us
      → IsPossible st.sk.now (numbers st) (Equal (place_number st k ts) (place_number st k us))
  place_pair_possible k ss ts us l e h1 h2 =
      let p = place_with st k in
      let at : slice_get st.sk.now.places k ≡ Some p = slice_get-get_or st.sk.now.places k _ l in
      let a = ready.places k p ts at (subst (λ zs. AreTerms (numbers st) zs ts) (sym e) h1) in
      let b = ready.places k p us at (subst (λ zs. AreTerms (numbers st) zs us) (sym e) h2) in
      (p.sort, in_range p.sort _ a, a, b)

-- ---- tuples

pub are_set : (n : SortId → ℕ) (ss : List SortId) (ts : List TermId) (j : ℕ) (t : TermId) → AreTerms n ss ts → j < length ss
    → IsTerm n (get_or ss j (sort 0)) t → AreTerms n ss (set ts j t)
are_set n [] ts j t h l is = absurd (omega arith)
are_set n (s ∷ ss) [] j t h l is = absurd h
are_set n (s ∷ ss) (x ∷ ts) zero t h l is = (is, h.1)
are_set n (s ∷ ss) (x ∷ ts) (suc j) t h l is = (h.0, are_set n ss ts j t h.1 (omega arith) is)

pub tuple_there : (n : SortId → ℕ) (ss : List SortId) (i : ℕ) (ts : List TermId) → i < length (tuples n ss) → get_or (tuples n ss) i ts ≡ ts
    → AreTerms n ss ts
tuple_there n ss i ts l e =
    let r = every_at (AreTerms n ss) (tuples n ss) i (tuples_are n ss) l in
    let same : r.0 ≡ ts = sym (get_or_from_slice_get (tuples n ss) i r.0 ts r.1) ∙ e in
    subst (AreTerms n ss) same r.2

pub place_with_is : (st : Setting) (k : ℕ) (p : Place) → k < length st.sk.now.places → get_or st.sk.now.places k p ≡ p → place_with st k ≡ p
place_with_is st k p l e = get_or_from_slice_get st.sk.now.places k p _ (slice_get-get_or st.sk.now.places k p l ∙ ap Some e)
