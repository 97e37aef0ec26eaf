-- Normal forms of formulas that fit a vocabulary fit it, and need only the symbols that occur.
use Rattle.std.proofs.Common.{◌≡◌, ◌<◌, Bool, true, false, cond, ltb, List, [], ◌∷◌, slice_get, Option, Some, None, refl, sym, ap, ◌∙◌, subst, ltb-true}
use Rattle.std.proofs.lemmas.Bool.{and_parts, or_left, or_right}
use Rattle.lv_formula.specs.declared.symbols.SortId.{SortId}
use Rattle.lv_formula.specs.declared.symbols.Sym.{Sym}
use Rattle.lv_formula.specs.declared.terms.Term.{Term}
use Rattle.lv_formula.specs.declared.terms.Term.TheVariants.{Var, Const}
use Rattle.lv_formula.specs.declared.vocabulary.ConShape.{ConShape}
use Rattle.lv_formula.specs.declared.vocabulary.RelShape.{RelShape}
use Rattle.lv_formula.specs.declared.vocabulary.Vocabulary.{Vocabulary}
use Rattle.lv_formula.specs.declared.formula.Formula.{Formula}
use Rattle.lv_formula.specs.declared.formula.Formula.TheVariants as make
use Rattle.lv_formula.specs.Symbols.{sym_eq}
use Rattle.lv_formula.specs.Vocabulary.{relation_in, constant_in}
use Rattle.lv_formula.specs.Fits.{sort_of, is_sort, agree, have_sorts, are_arguments, fits_in, all_fit_in}
use Rattle.lv_formula.proofs.Folds.{folds, folds_at}
use Rattle.lv_formula.proofs.Induction.{Each, by_cases}
use Rattle.lv_formula.proofs.SymbolLaws.{sym_eq-true, sym_eq-refl}
use Rattle.lv_formula.proofs.AgreeLaw.{same_sort}
use Rattle.lv_rewrite.specs.Normal.{nnf_of, nnf_of_all}
use Rattle.lv_places.specs.declared.skolem.Skolem.{Skolem}
use Rattle.lv_places.specs.Forms.{Atom, Rel, Same, Form, Yes, No, Lit, And, Or, All, Any, Forms, Nil, Cons, form_of, forms_of, is_term, names, occurs, occurs_some}
use Rattle.lv_places.specs.Occurring.{constants_in, relations_in}
use Rattle.std.specs.List.{list_any}

-- the symbols that occur in the sentences, as a vocabulary
abbrev pub vocabulary_of : Skolem → Vocabulary
vocabulary_of sk = record { sorts = sk.sorts; relations = sk.relations; constants = sk.constants; order = [] }

abbrev pub TermFits : Vocabulary → List SortId → SortId → Term → Type 0
TermFits voc ss s (Var x) = slice_get ss x ≡ Some s
TermFits voc ss s (Const c) = constant_in voc.constants c ≡ Some s

abbrev pub TermsFit : Vocabulary → List SortId → List SortId → List Term → Type 0
TermsFit voc ss [] [] = Unit {0}
TermsFit voc ss [] (t ∷ ts) = ⊥
TermsFit voc ss (s ∷ more) [] = ⊥
TermsFit voc ss (s ∷ more) (t ∷ ts) = TermFits voc ss s t × TermsFit voc ss more ts

abbrev pub AtomFits : Vocabulary → List SortId → Atom → Type 0
AtomFits voc ss (Rel r ts) = (sorts : List SortId) × (relation_in voc.relations r ≡ Some sorts) × TermsFit voc ss sorts ts
AtomFits voc ss (Same a b) = (s : SortId) × TermFits voc ss s a × TermFits voc ss s b

abbrev mutual
  pub FormFits : Vocabulary → List SortId → Form → Type 0
  FormFits voc ss Yes = Unit {0}
  FormFits voc ss No = Unit {0}
  FormFits voc ss (Lit b a) = AtomFits voc ss a
  FormFits voc ss (And fs) = FormsFit voc ss fs
  FormFits voc ss (Or fs) = FormsFit voc ss fs
  FormFits voc ss (All s f) = (s.0 < voc.sorts) × FormFits voc (s ∷ ss) f
  FormFits voc ss (Any s f) = (s.0 < voc.sorts) × FormFits voc (s ∷ ss) f

  pub FormsFit : Vocabulary → List SortId → Forms → Type 0
  FormsFit voc ss Nil = Unit {0}
  FormsFit voc ss (Cons f fs) = FormFits voc ss f × FormsFit voc ss fs

-- ---- from the test

term_fits : (voc : Vocabulary) (ss : List SortId) (t : Term) (s : SortId) → sort_of voc ss t ≡ Some s → TermFits voc ss s t
term_fits voc ss (Var x) s h = h
term_fits voc ss (Const c) s h = h

terms_fit : (voc : Vocabulary) (ss : List SortId) (ts : List Term) (sorts : List SortId) → have_sorts voc ss ts sorts ≡ true → TermsFit voc ss sorts ts
terms_fit voc ss [] [] h = tt
terms_fit voc ss [] (s ∷ more) h = absurd (cc)
terms_fit voc ss (t ∷ ts) [] h = absurd (cc)
terms_fit voc ss (t ∷ ts) (s ∷ more) h =
    let both = and_parts (is_sort (sort_of voc ss t) s) (have_sorts voc ss ts more) h in
    (term_fits voc ss t s (same_sort (sort_of voc ss t) s both.0), terms_fit voc ss ts more both.1)

atom_fits : (voc : Vocabulary) (ss : List SortId) (r : Sym) (ts : List Term) (o : Option (List SortId)) → relation_in voc.relations r ≡ o
    → are_arguments voc ss ts o ≡ true → AtomFits voc ss (Rel r ts)
atom_fits voc ss r ts None is h = absurd (cc)
atom_fits voc ss r ts (Some sorts) is h = (sorts, is, terms_fit voc ss ts sorts h)

same_fits : (voc : Vocabulary) (ss : List SortId) (a b : Term) (o : Option SortId) → sort_of voc ss b ≡ o → agree (sort_of voc ss a) o ≡ true
    → AtomFits voc ss (Same a b)
same_fits voc ss a b None is h = absurd (cc)
same_fits voc ss a b (Some s) is h = (s, term_fits voc ss a s (same_sort (sort_of voc ss a) s h), term_fits voc ss b s is)

module _ (voc : Vocabulary) where
  abbrev Fits : Formula → Type 0
  Fits f = (sign : Bool) (ss : List SortId) → fits_in voc ss f ≡ true → FormFits voc ss (form_of (nnf_of f sign))

  all_fit : (fs : List Formula) → Each Fits fs → (sign : Bool) (ss : List SortId) → all_fit_in voc ss fs ≡ true
      → FormsFit voc ss (forms_of (nnf_of_all fs sign))
  all_fit [] each sign ss h = tt
  all_fit (f ∷ fs) each sign ss h =
      let both = and_parts (fits_in voc ss f) (all_fit_in voc ss fs) h in
      (each.0 sign ss both.0, all_fit fs each.1 sign ss both.1)

  at_true : Fits make.True
  at_true true ss h = simp (folds, folds_at) tt
  at_true false ss h = simp (folds, folds_at) tt

  at_false : Fits make.False
  at_false true ss h = simp (folds, folds_at) tt
  at_false false ss h = simp (folds, folds_at) tt

  at_atom : (r : Sym) (ts : List Term) → Fits (make.Atom r ts)
  at_atom r ts true ss h = simp (folds, folds_at) (atom_fits voc ss r ts (relation_in voc.relations r) refl (simp folds_at at h))
  at_atom r ts false ss h = simp (folds, folds_at) (atom_fits voc ss r ts (relation_in voc.relations r) refl (simp folds_at at h))

  at_same : (a b : Term) → Fits (make.Same a b)
  at_same a b true ss h = simp (folds, folds_at) (same_fits voc ss a b (sort_of voc ss b) refl (simp folds_at at h))
  at_same a b false ss h = simp (folds, folds_at) (same_fits voc ss a b (sort_of voc ss b) refl (simp folds_at at h))

  at_not : (f : Formula) → Fits f → Fits (make.Not f)
  at_not f ih true ss h = simp folds_at (ih false ss (simp folds_at at h))
  at_not f ih false ss h = simp folds_at (ih true ss (simp folds_at at h))

  at_and : (fs : List Formula) → Each Fits fs → Fits (make.And fs)
  at_and fs each true ss h = simp (folds, folds_at) (all_fit fs each true ss (simp folds_at at h))
  at_and fs each false ss h = simp (folds, folds_at) (all_fit fs each false ss (simp folds_at at h))

  at_or : (fs : List Formula) → Each Fits fs → Fits (make.Or fs)
  at_or fs each true ss h = simp (folds, folds_at) (all_fit fs each true ss (simp folds_at at h))
  at_or fs each false ss h = simp (folds, folds_at) (all_fit fs each false ss (simp folds_at at h))

  at_implies : (f g : Formula) → Fits f → Fits g → Fits (make.Implies f g)
  at_implies f g ihf ihg true ss h = let both = and_parts (fits_in voc ss f) (fits_in voc ss g) (simp folds_at at h) in
      simp (folds, folds_at) (ihf false ss both.0, (ihg true ss both.1, tt))
  at_implies f g ihf ihg false ss h = let both = and_parts (fits_in voc ss f) (fits_in voc ss g) (simp folds_at at h) in
      simp (folds, folds_at) (ihf true ss both.0, (ihg false ss both.1, tt))

  at_iff : (f g : Formula) → Fits f → Fits g → Fits (make.Iff f g)
  at_iff f g ihf ihg true ss h = let both = and_parts (fits_in voc ss f) (fits_in voc ss g) (simp folds_at at h) in
      simp (folds, folds_at) ((ihf false ss both.0, (ihg true ss both.1, tt)), ((ihg false ss both.1, (ihf true ss both.0, tt)), tt))
  at_iff f g ihf ihg false ss h = let both = and_parts (fits_in voc ss f) (fits_in voc ss g) (simp folds_at at h) in
      simp (folds, folds_at) ((ihf true ss both.0, (ihg true ss both.1, tt)), ((ihf false ss both.0, (ihg false ss both.1, tt)), tt))

  at_all : (s : SortId) (f : Formula) → Fits f → Fits (make.All s f)
  at_all s f ih true ss h = let both = and_parts (ltb s.0 voc.sorts) (fits_in voc (s ∷ ss) f) (simp folds_at at h) in
      simp (folds, folds_at) (ltb-true s.0 voc.sorts both.0, ih true (s ∷ ss) both.1)
  at_all s f ih false ss h = let both = and_parts (ltb s.0 voc.sorts) (fits_in voc (s ∷ ss) f) (simp folds_at at h) in
      simp (folds, folds_at) (ltb-true s.0 voc.sorts both.0, ih false (s ∷ ss) both.1)

  at_any : (s : SortId) (f : Formula) → Fits f → Fits (make.Any s f)
  at_any s f ih true ss h = let both = and_parts (ltb s.0 voc.sorts) (fits_in voc (s ∷ ss) f) (simp folds_at at h) in
      simp (folds, folds_at) (ltb-true s.0 voc.sorts both.0, ih true (s ∷ ss) both.1)
  at_any s f ih false ss h = let both = and_parts (ltb s.0 voc.sorts) (fits_in voc (s ∷ ss) f) (simp folds_at at h) in
      simp (folds, folds_at) (ltb-true s.0 voc.sorts both.0, ih false (s ∷ ss) both.1)

  pub normal_fits : (f : Formula) → Fits f
  normal_fits = by_cases Fits (record {
    at_true = at_true;
    at_false = at_false;
    at_atom = at_atom;
    at_same = at_same;
    at_not = at_not;
    at_and = at_and;
    at_or = at_or;
    at_implies = at_implies;
    at_iff = at_iff;
    at_all = at_all;
    at_any = at_any;
  })

  pub normals_fit : (fs : List Formula) (sign : Bool) (ss : List SortId) → all_fit_in voc ss fs ≡ true → FormsFit voc ss (forms_of (nnf_of_all fs sign))
  normals_fit [] sign ss h = tt
  normals_fit (f ∷ fs) sign ss h =
      let both = and_parts (fits_in voc ss f) (all_fit_in voc ss fs) h in
      (normal_fits f sign ss both.0, normals_fit fs sign ss both.1)

-- ---- the symbols that occur are enough

either_same : {A : Type 0} (b : Bool) (x : A) → x ≡ cond b x x
either_same true x = refl
either_same false x = refl

-- a look-up in what is kept of a list, where a test of the name says what is kept
module _ {X Y : Type 0} (name : X → Sym) (value : X → Y) (look : List X → Option Y) (kept : List X → List X) (c : Sym) (p : Sym
    → Bool) (look_none : look [] ≡ None) (look_at : (x : X) (xs : List X) → look (x ∷ xs) ≡ cond (sym_eq (name x) c) (Some (value x)) (look xs))
    (kept_none : kept [] ≡ []) (kept_at : (x : X) (xs : List X) → kept (x ∷ xs) ≡ cond (p (name x)) (x ∷ kept xs) (kept xs)) where
  look_kept : (xs : List X) → look (kept xs) ≡ cond (p c) (look xs) None
  look_kept [] = ap look kept_none ∙ look_none ∙ either_same (p c) None ∙ ap (λ o. cond (p c) o None) (sym look_none)
  look_kept (x ∷ xs) = ap look (kept_at x xs) ∙ step (sym_eq (name x) c) (p (name x)) refl refl (look_kept xs)
      ∙ ap (λ o. cond (p c) o None) (sym (look_at x xs))
    where
      same : (o : Bool) → sym_eq (name x) c ≡ true → p (name x) ≡ o → p c ≡ o
      same o e q = ap p (sym (sym_eq-true (name x) c e)) ∙ q

      step : (b o : Bool) → sym_eq (name x) c ≡ b → p (name x) ≡ o → look (kept xs) ≡ cond (p c) (look xs) None
          → look (cond o (x ∷ kept xs) (kept xs)) ≡ cond (p c) (cond (sym_eq (name x) c) (Some (value x)) (look xs)) None
      step true true e q ih = look_at x (kept xs) ∙ ap (λ t. cond t (Some (value x)) (look (kept xs))) e
          ∙ sym (ap (λ t. cond t (cond (sym_eq (name x) c) (Some (value x)) (look xs)) None) (same true e q) ∙ ap (λ t. cond t (Some (value x)) (look xs)) e)
      step true false e q ih = ih ∙ ap (λ t. cond t (look xs) None) (same false e q)
          ∙ sym (ap (λ t. cond t (cond (sym_eq (name x) c) (Some (value x)) (look xs)) None) (same false e q))
      step false true e q ih = look_at x (kept xs) ∙ ap (λ t. cond t (Some (value x)) (look (kept xs))) e ∙ ih
          ∙ sym (ap (λ t. cond (p c) (cond t (Some (value x)) (look xs)) None) e)
      step false false e q ih = ih ∙ sym (ap (λ t. cond (p c) (cond t (Some (value x)) (look xs)) None) e)

pub constants_kept : (fs : Forms) (cs : List ConShape) (c : Sym) → constant_in (constants_in fs cs) c ≡ cond (occurs_some c fs) (constant_in cs c) None
constants_kept fs cs c = look_kept (λ (x : ConShape). x.sym) (λ (x : ConShape). x.sort) (λ xs. constant_in xs c) (constants_in fs) c
    (λ d. occurs_some d fs) refl (λ x xs. refl) refl (λ x xs. refl) cs

pub relations_kept : (fs : Forms) (rs : List RelShape) (r : Sym) → relation_in (relations_in fs rs) r ≡ cond (occurs_some r fs) (relation_in rs r) None
relations_kept fs rs r = look_kept (λ (x : RelShape). x.sym) (λ (x : RelShape). x.sorts) (λ xs. relation_in xs r) (relations_in fs) r
    (λ d. occurs_some d fs) refl (λ x xs. refl) refl (λ x xs. refl) rs

-- a form fits what a vocabulary keeps of the symbols that occur in it
module _ (voc low : Vocabulary) (p : Sym → Bool) (sorts : low.sorts ≡ voc.sorts) (constants : (c : Sym) → p c ≡ true
    → constant_in low.constants c ≡ constant_in voc.constants c) (relations : (r : Sym) → p r ≡ true
    → relation_in low.relations r ≡ relation_in voc.relations r) where
  term_keeps : (ss : List SortId) (s : SortId) (t : Term) → ((c : Sym) → is_term c t ≡ true → p c ≡ true) → TermFits voc ss s t → TermFits low ss s t
  term_keeps ss s (Var x) h fits = fits
  term_keeps ss s (Const c) h fits = constants c (h c (sym_eq-refl c)) ∙ fits

  terms_keep : (ss more : List SortId) (ts : List Term) → ((c : Sym) → list_any (is_term c) ts ≡ true → p c ≡ true) → TermsFit voc ss more ts
      → TermsFit low ss more ts
  terms_keep ss [] [] h fits = tt
  terms_keep ss [] (t ∷ ts) h fits = absurd fits
  terms_keep ss (s ∷ more) [] h fits = absurd fits
  terms_keep ss (s ∷ more) (t ∷ ts) h fits = (term_keeps ss s t (λ c q. h c (or_left _ _ q)) fits.0, terms_keep ss more ts (λ c q. h c (or_right _ _ q)) fits.1)

  atom_keeps : (ss : List SortId) (a : Atom) → ((c : Sym) → names c a ≡ true → p c ≡ true) → AtomFits voc ss a → AtomFits low ss a
  atom_keeps ss (Rel r ts) h fits =
      (fits.0, relations r (h r (or_left _ _ (sym_eq-refl r))) ∙ fits.1, terms_keep ss fits.0 ts (λ c q. h c (or_right _ _ q)) fits.2)
  atom_keeps ss (Same a b) h fits =
      (fits.0, term_keeps ss fits.0 a (λ c q. h c (or_left _ _ q)) fits.1, term_keeps ss fits.0 b (λ c q. h c (or_right _ _ q)) fits.2)

  mutual
    pub form_keeps : (f : Form) (ss : List SortId) → ((c : Sym) → occurs c f ≡ true → p c ≡ true) → FormFits voc ss f → FormFits low ss f
    form_keeps Yes ss h fits = tt
    form_keeps No ss h fits = tt
    form_keeps (Lit b a) ss h fits = atom_keeps ss a h fits
    form_keeps (And fs) ss h fits = forms_keep fs ss h fits
    form_keeps (Or fs) ss h fits = forms_keep fs ss h fits
    form_keeps (All s f) ss h fits = (subst (λ n. s.0 < n) (sym sorts) fits.0, form_keeps f (s ∷ ss) h fits.1)
    form_keeps (Any s f) ss h fits = (subst (λ n. s.0 < n) (sym sorts) fits.0, form_keeps f (s ∷ ss) h fits.1)

    pub forms_keep : (fs : Forms) (ss : List SortId) → ((c : Sym) → occurs_some c fs ≡ true → p c ≡ true) → FormsFit voc ss fs → FormsFit low ss fs
    forms_keep Nil ss h fits = tt
    forms_keep (Cons f fs) ss h fits = (form_keeps f ss (λ c q. h c (or_left _ _ q)) fits.0, forms_keep fs ss (λ c q. h c (or_right _ _ q)) fits.1)
