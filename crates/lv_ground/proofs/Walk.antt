-- The steps of the walk through the sentences.
use Rattle.std.proofs.Common.{◌≡◌, ℕ, ◌+◌, ◌-◌, ◌<◌, Bool, true, List, [], ◌∷◌, ◌++◌, length, get_or, drop, refl, sym, ap, ◌∙◌, subst, arith, length-append}
use Rattle.std.proofs.lemmas.List.{drop_more}
use Rattle.std.proofs.Math.Seq.{drop-length}
use Rattle.lv_formula.specs.declared.symbols.SortId.{SortId}
use Rattle.lv_formula.specs.declared.formula.Formula.{Formula}
use Rattle.lv_cnf.specs.declared.prop.Prop.{Prop}
use Rattle.lv_cnf.specs.declared.prop.Prop.TheVariants as prop
use Rattle.lv_cnf.specs.Nodes.{PLit, PAnd, POr, plain, plains}
use Rattle.lv_places.specs.declared.terms.TermId.{TermId}
use Rattle.lv_places.specs.declared.grounded.GroundAtom.{GroundAtom}
use Rattle.lv_places.specs.Forms.{Form, Forms, Cons, Yes, No, And, Or, All, form_of, forms_of}
use Rattle.lv_places.specs.Places.{Binder, Every, sites, sites_all}
use Rattle.lv_places.specs.Universes.{term}
use Rattle.lv_places.specs.Grounds.{find_atom, with_atom}
use Rattle.lv_places.specs.GroundForms.{Tree, Trees, TLit, each, ground_form, ground_all}
use Rattle.lv_ground.specs.declared.setting.Setting.{Setting}
use Rattle.lv_ground.specs.Settings.{naming, numbers}
use Rattle.lv_ground.specs.Growth.{Grown, AllGrown, Awaits}
use Rattle.lv_ground.specs.Instances.{signed_form, Stands, AllStand}
use Rattle.lv_ground.proofs.Loops.{each_next}
use Rattle.lv_ground.proofs.Growing.{awaits_next, awaits_end}
use Rattle.lv_ground.proofs.Props.{plain_true, plain_false, plain_lit, plain_and, plain_or}
use Rattle.lv_ground.proofs.Standing.{signed_true, first_stands, rest_stand, body_stands}

none_left : (fs : List Formula) (i : ℕ) → i ≡ length fs → drop i fs ≡ []
none_left fs i e = ap (λ j. drop j fs) e ∙ drop-length fs

forms_more : (fs : List Formula) (i : ℕ) (f : Formula) → i < length fs → get_or fs i f ≡ f → forms_of (drop i fs) ≡ Cons (form_of f)
    (forms_of (drop (i + 1) fs))
forms_more fs i f l e = ap forms_of (drop_more fs i f l) ∙ ap (λ g. Cons (form_of g) (forms_of (drop (i + 1) fs))) e

sites_both : (g : List Binder) (f : Form) (fs : Forms) → length (sites_all g (Cons f fs)) ≡ length (sites g f) + length (sites_all g fs)
sites_both g f fs = length-append (sites g f) (sites_all g fs)

-- one of several forms
module _ (st : Setting) (g : List Binder) (env : List TermId) (fs : List Formula) (i : ℕ) (f : Formula) (l : i < length fs) (e : get_or fs i f ≡ f)
    (k : ℕ) where
  abbrev rest : Forms
  rest = forms_of (drop (i + 1) fs)

  more : forms_of (drop i fs) ≡ Cons (form_of f) rest
  more = forms_more fs i f l e

  pub stands_now : AllStand st g env k (forms_of (drop i fs)) → Stands st g env k (signed_form true (form_of f))
  stands_now h = subst (Stands st g env k) (sym (signed_true (form_of f))) (first_stands st g env k (form_of f) rest (subst (AllStand st g env k) more h))

  module _ (k1 : ℕ) (step : k1 ≡ k + length (sites g (signed_form true (form_of f)))) where
    next_is : k1 ≡ k + length (sites g (form_of f))
    next_is = step ∙ ap (λ q. k + length (sites g q)) (signed_true (form_of f))

    pub stand_then : AllStand st g env k (forms_of (drop i fs)) → AllStand st g env k1 rest
    stand_then h = subst (λ j. AllStand st g env j rest) (sym next_is) (rest_stand st g env k (form_of f) rest (subst (AllStand st g env k) more h))

    pub places_then : (all : ℕ) → k + length (sites_all g (forms_of (drop i fs))) ≡ all → k1 + length (sites_all g rest) ≡ all
    places_then all h =
        let p = ap (λ q. length (sites_all g q)) more ∙ sites_both g (form_of f) rest in
        let q = next_is in
        omega arith

    pub awaits_then : (xs0 : List GroundAtom) (whole : Trees) (xs xs1 : List GroundAtom) (ps : List Prop) (p : Prop)
        → Awaits xs0 whole xs ps (ground_all (naming st) k g env (forms_of (drop i fs)))
        → Grown xs (ground_form (naming st) k g env (signed_form true (form_of f))) xs1 (plain p)
        → Awaits xs0 whole xs1 (ps ++ p ∷ []) (ground_all (naming st) k1 g env rest)
    awaits_then xs0 whole xs xs1 ps p h grown =
        let h' = subst (λ q. Awaits xs0 whole xs ps (ground_all (naming st) k g env q)) more h in
        let grown' = subst (λ q. Grown xs (ground_form (naming st) k g env q) xs1 (plain p)) (signed_true (form_of f)) grown in
        subst (λ j. Awaits xs0 whole xs1 (ps ++ p ∷ []) (ground_all (naming st) j g env rest)) (sym next_is)
        (awaits_next xs0 whole xs ps (ground_form (naming st) k g env (form_of f)) _ xs1 p h' grown')

-- one of the instances of an `All`
module _ (st : Setting) (g : List Binder) (env : List TermId) (k : ℕ) (s : SortId) (f : Form) (i : ℕ) (l : i < numbers st s) where
  pub body_now : Stands st g env k (All s f) → Stands st (Every s ∷ g) (term s i ∷ env) k (signed_form true f)
  body_now h = subst (Stands st (Every s ∷ g) (term s i ∷ env) k) (sym (signed_true f)) (body_stands st g env k s f i l h)

  pub instance_then : (xs0 : List GroundAtom) (whole : Trees) (xs xs1 : List GroundAtom) (ps : List Prop) (p : Prop) (h : ℕ → Tree)
      → h i ≡ ground_form (naming st) k (Every s ∷ g) (term s i ∷ env) f
      → Awaits xs0 whole xs ps (each i (numbers st s - i) h)
      → Grown xs (ground_form (naming st) k (Every s ∷ g) (term s i ∷ env) (signed_form true f)) xs1 (plain p)
      → Awaits xs0 whole xs1 (ps ++ p ∷ []) (each (i + 1) (numbers st s - (i + 1)) h)
  instance_then xs0 whole xs xs1 ps p h is awaits grown =
      let awaits' = subst (Awaits xs0 whole xs ps) (each_next i (numbers st s) h l) awaits in
      let grown' = subst (λ q. Grown xs q xs1 (plain p)) (ap (ground_form (naming st) k (Every s ∷ g) (term s i ∷ env)) (signed_true f) ∙ sym is) grown in
      awaits_next xs0 whole xs ps (h i) _ xs1 p awaits' grown'

  pub places_now : (k1 : ℕ) → k1 ≡ k + length (sites (Every s ∷ g) (signed_form true f)) → k1 ≡ k + length (sites g (All s f))
  places_now k1 e = e ∙ ap (λ q. k + length (sites (Every s ∷ g) q)) (signed_true f)

-- ---- nodes

pub and_stand : (st : Setting) (g : List Binder) (env : List TermId) (k : ℕ) (fs : Forms) → Stands st g env k (And fs) → AllStand st g env k fs
and_stand st g env k fs h = record { places = h.places; terms = h.terms; fits = h.fits }

pub or_stand : (st : Setting) (g : List Binder) (env : List TermId) (k : ℕ) (fs : Forms) → Stands st g env k (Or fs) → AllStand st g env k fs
or_stand st g env k fs h = record { places = h.places; terms = h.terms; fits = h.fits }

module _ (st : Setting) (g : List Binder) (env : List TermId) (k : ℕ) (f : Form) (xs xs1 : List GroundAtom) where
  pub grown_and : (fs : Forms) (ps : List Prop) → f ≡ And fs → AllGrown xs (ground_all (naming st) k g env fs) xs1 (plains ps)
      → Grown xs (ground_form (naming st) k g env f) xs1 (plain (prop.And ps))
  grown_and fs ps e h = subst (λ q. Grown xs (ground_form (naming st) k g env q) xs1 (plain (prop.And ps))) (sym e)
      (record { atoms = h.atoms; prop = plain_and ps ∙ ap PAnd h.props })

  pub grown_or : (fs : Forms) (ps : List Prop) → f ≡ Or fs → AllGrown xs (ground_all (naming st) k g env fs) xs1 (plains ps)
      → Grown xs (ground_form (naming st) k g env f) xs1 (plain (prop.Or ps))
  grown_or fs ps e h = subst (λ q. Grown xs (ground_form (naming st) k g env q) xs1 (plain (prop.Or ps))) (sym e)
      (record { atoms = h.atoms; prop = plain_or ps ∙ ap POr h.props })

  pub grown_all : (s : SortId) (body : Form) (ps : List Prop) → f ≡ All s body
      → AllGrown xs (each 0 (numbers st s) (λ i. ground_form (naming st) k (Every s ∷ g) (term s i ∷ env) body)) xs1 (plains ps)
      → Grown xs (ground_form (naming st) k g env f) xs1 (plain (prop.And ps))
  grown_all s body ps e h = subst (λ q. Grown xs (ground_form (naming st) k g env q) xs1 (plain (prop.And ps))) (sym e)
      (record { atoms = h.atoms; prop = plain_and ps ∙ ap PAnd h.props })

  pub grown_true : f ≡ Yes → Grown xs (ground_form (naming st) k g env f) xs (plain prop.True)
  grown_true e = subst (λ q. Grown xs (ground_form (naming st) k g env q) xs (plain prop.True)) (sym e) (record { atoms = refl; prop = plain_true })

  pub grown_false : f ≡ No → Grown xs (ground_form (naming st) k g env f) xs (plain prop.False)
  grown_false e = subst (λ q. Grown xs (ground_form (naming st) k g env q) xs (plain prop.False)) (sym e) (record { atoms = refl; prop = plain_false })

-- a literal
pub grown_literal : (xs xs1 : List GroundAtom) (s : Bool) (a : GroundAtom) (k : ℕ) → xs1 ≡ with_atom xs a → k ≡ find_atom xs1 a → Grown xs (TLit s a) xs1
    (plain (prop.Lit (record { var = k; positive = s })))
grown_literal xs xs1 s a k e h = record { atoms = e; prop = plain_lit _ ∙ ap (λ j. PLit (record { var = j; positive = s })) h }

-- no form is left
pub trees_end : (st : Setting) (g : List Binder) (env : List TermId) (fs : List Formula) (i k : ℕ) (xs0 xs : List GroundAtom) (whole : Trees)
    (ps : List Prop) → i ≡ length fs
    → Awaits xs0 whole xs ps (ground_all (naming st) k g env (forms_of (drop i fs))) → AllGrown xs0 whole xs (plains ps)
trees_end st g env fs i k xs0 xs whole ps e h = awaits_end xs0 whole xs ps
    (subst (λ l. Awaits xs0 whole xs ps (ground_all (naming st) k g env (forms_of l))) (none_left fs i e) h)

pub places_end : (g : List Binder) (fs : List Formula) (i k all : ℕ) → i ≡ length fs → k + length (sites_all g (forms_of (drop i fs))) ≡ all → k ≡ all
places_end g fs i k all e h = let q = ap (λ l. length (sites_all g (forms_of l))) (none_left fs i e) in omega arith

pub instances_end : (xs0 xs : List GroundAtom) (whole : Trees) (ps : List Prop) (i n : ℕ) (h : ℕ → Tree) → i ≡ n → Awaits xs0 whole xs ps
    (each i (n - i) h) → AllGrown xs0 whole xs (plains ps)
instances_end xs0 xs whole ps i n h e awaits = awaits_end xs0 whole xs ps
    (let z : n - i ≡ 0 = omega arith in subst (λ j. Awaits xs0 whole xs ps (each i j h)) z awaits)
