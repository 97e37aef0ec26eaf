-- An instance and a rewritten formula stand over a vocabulary where the formula, the terms and the updates do.
use Rattle.std.proofs.Common.{◌≡◌, ℕ, zero, suc, ◌+◌, ◌-◌, ◌<◌, ◌≤◌, Bool, true, ◌&&◌, ltb, List, [], ◌∷◌, ◌++◌, length, get_or, reverse, All, slice_get, Option, Some, None, refl, sym, ap, subst, ◌∙◌, arith, ⊎_elim, eq-eqb}
use Rattle.std.proofs.lemmas.Bool.{and_from, and_parts, false≢true, le-leb, lt-ltb}
use Rattle.std.proofs.lemmas.List.{append_assoc, length-reverse, reverse-append}
use Rattle.std.proofs.lemmas.List.Elements.{All-head, All-tail}
use Rattle.std.proofs.lemmas.Option.{slice_get_within}
use Rattle.lv_formula.specs.declared.symbols.SortId.{SortId}
use Rattle.lv_formula.specs.declared.symbols.Sym.{Sym}
use Rattle.lv_formula.specs.declared.terms.Term.{Term}
use Rattle.lv_formula.specs.declared.terms.Term.TheVariants.{Var, Const}
use Rattle.lv_formula.specs.declared.update.Update.{Update}
use Rattle.lv_formula.specs.declared.vocabulary.Vocabulary.{Vocabulary}
use Rattle.lv_formula.specs.declared.formula.Formula.{Formula}
use Rattle.lv_formula.specs.Fits.{agree, all_fit_in, are_arguments, fits_in, fits_step, have_sorts, is_sort, sort_of}
use Rattle.lv_formula.specs.Measures.{free_bound_of}
use Rattle.lv_formula.specs.Updated.{body_in, term_in}
use Rattle.lv_formula.specs.Vocabulary.{constant_in, relation_in}
use Rattle.lv_formula.proofs.AgreeLaw.{same_sort}
use Rattle.lv_formula.proofs.Folds.{fold_at-All, fold_at-Atom, folds, folds_at}
use Rattle.lv_formula.proofs.Induction.{Cases, Each, by_cases}
use Rattle.lv_rewrite.specs.Instantiate.{put_in, put_in_all, put_term, put_terms, put_var, raise}
use Rattle.lv_rewrite.specs.Replace.{new_atom, new_constant, replace_of, replace_of_all, replace_term, replace_terms}
use Rattle.lv_rewrite.proofs.InstantiateLaw.{ltb_tells}
use Rattle.lv_rewrite.proofs.ScopeLaw.{bound_in}
use Rattle.lv_rewrite.proofs.TableLaw.{reaches, same_length, suits, suits_where}
use Rattle.lv_labels.specs.Closing.{all_over, numbered}
use Rattle.lv_labels.specs.Problem.{tuple_variables}
use Rattle.lv_footprint.specs.Gathered.{gathered}
use Rattle.lv_monitor.specs.Updates.{at_places}

-- ---- elements of two lists

slice_left : {X : Type 0} (xs ys : List X) (i : ℕ) → i < length xs → slice_get (xs ++ ys) i ≡ slice_get xs i
slice_left [] ys i l = absurd (omega (arith, l))
slice_left (x ∷ xs) ys zero l = refl
slice_left (x ∷ xs) ys (suc i) l = slice_left xs ys i (omega (arith, l))

slice_behind : {X : Type 0} (xs ys : List X) (i : ℕ) → slice_get (xs ++ ys) (i + length xs) ≡ slice_get ys i
slice_behind [] ys i = let z : i + 0 ≡ i = omega arith in ap (slice_get ys) z
slice_behind (x ∷ xs) ys i = let on : i + suc (length xs) ≡ suc (i + length xs) = omega arith in ap (slice_get (x ∷ (xs ++ ys))) on ∙ slice_behind xs ys i

slice_past : {X : Type 0} (xs ys : List X) (i : ℕ) → length xs ≤ i → slice_get (xs ++ ys) i ≡ slice_get ys (i - length xs)
slice_past xs ys i l = let back : i ≡ (i - length xs) + length xs = omega (arith, l) in ap (slice_get (xs ++ ys)) back ∙ slice_behind xs ys (i - length xs)

-- the innermost first, as contexts list them
reversed : {X : Type 0} (x : X) (xs rest : List X) → reverse (x ∷ xs) ++ rest ≡ reverse xs ++ (x ∷ rest)
reversed x xs rest = ap (λ ys. ys ++ rest) (reverse-append (x ∷ []) xs) ∙ append_assoc (reverse xs) (x ∷ []) rest

-- ---- terms

pub sort_is : (o : Option SortId) (s : SortId) → o ≡ Some s → is_sort o s ≡ true
sort_is o s h = ap (λ x. is_sort x s) h ∙ eq-eqb s.0 s.0 refl

pub sorts_agree : (o p : Option SortId) (s : SortId) → o ≡ Some s → p ≡ Some s → agree o p ≡ true
sorts_agree o p s h k = ap (λ x. agree o x) k ∙ sort_is o s h

module _ (voc : Vocabulary) where
  pub have_append : (context : List SortId) (ts us : List Term) (ss vs : List SortId) → have_sorts voc context ts ss ≡ true → have_sorts voc context us vs ≡ true
      → have_sorts voc context (ts ++ us) (ss ++ vs) ≡ true
  have_append c [] us [] vs h k = k
  have_append c [] us (s ∷ ss) vs h k = absurd (false≢true h)
  have_append c (t ∷ ts) us [] vs h k = absurd (false≢true h)
  have_append c (t ∷ ts) us (s ∷ ss) vs h k =
      let both = and_parts (is_sort (sort_of voc c t) s) (have_sorts voc c ts ss) h in
      and_from (is_sort (sort_of voc c t) s) (have_sorts voc c (ts ++ us) (ss ++ vs)) both.0 (have_append c ts us ss vs both.1 k)

  pub have_reverse : (context : List SortId) (ts : List Term) (ss : List SortId) → have_sorts voc context ts ss ≡ true → have_sorts voc context (reverse ts) (reverse ss) ≡ true
  have_reverse c [] [] h = refl
  have_reverse c [] (s ∷ ss) h = absurd (false≢true h)
  have_reverse c (t ∷ ts) [] h = absurd (false≢true h)
  have_reverse c (t ∷ ts) (s ∷ ss) h =
      let both = and_parts (is_sort (sort_of voc c t) s) (have_sorts voc c ts ss) h in
      let last : have_sorts voc c (t ∷ []) (s ∷ []) ≡ true = and_from (is_sort (sort_of voc c t) s) true both.0 refl in
      rw (reverse-append (t ∷ []) ts, reverse-append (s ∷ []) ss) (have_append c (reverse ts) (t ∷ []) (reverse ss) (s ∷ []) (have_reverse c ts ss both.1) last)

  term_at : (context : List SortId) (ts : List Term) (ss : List SortId) → have_sorts voc context ts ss ≡ true → (i : ℕ) (s : SortId) → slice_get ss i ≡ Some s
      → sort_of voc context (get_or ts i (Var 0)) ≡ Some s
  term_at c [] [] h i s is = cc
  term_at c [] (x ∷ xs) h i s is = absurd (false≢true h)
  term_at c (t ∷ ts) [] h i s is = absurd (false≢true h)
  term_at c (t ∷ ts) (x ∷ xs) h zero s is =
      let both = and_parts (is_sort (sort_of voc c t) x) (have_sorts voc c ts xs) h in same_sort (sort_of voc c t) x both.0 ∙ is
  term_at c (t ∷ ts) (x ∷ xs) h (suc i) s is =
      let both = and_parts (is_sort (sort_of voc c t) x) (have_sorts voc c ts xs) h in term_at c ts xs both.1 i s is

  -- the variables of a tuple have its sorts
  pub variables_have : (ss rest : List SortId) → have_sorts voc (reverse ss ++ rest) (tuple_variables (length ss)) ss ≡ true
  variables_have [] rest = refl
  variables_have (s ∷ ss) rest =
      let past : length (reverse ss) ≡ length ss = length-reverse ss in
      let here : length ss ≡ 0 + length (reverse ss) = omega (arith, past) in
      let first : slice_get (reverse ss ++ (s ∷ rest)) (length ss) ≡ Some s = ap (slice_get (reverse ss ++ (s ∷ rest))) here ∙ slice_behind (reverse ss) (s ∷ rest) 0 in
      ap (λ c. have_sorts voc c (tuple_variables (suc (length ss))) (s ∷ ss)) (reversed s ss rest)
      ∙ and_from (is_sort (slice_get (reverse ss ++ (s ∷ rest)) (length ss)) s) (have_sorts voc (reverse ss ++ (s ∷ rest)) (tuple_variables (length ss)) ss)
      (sort_is _ s first) (variables_have ss (s ∷ rest))

  -- ---- lists of formulas

  pub all_fit-append : (context : List SortId) (fs gs : List Formula) → all_fit_in voc context fs ≡ true → all_fit_in voc context gs ≡ true → all_fit_in voc context (fs ++ gs) ≡ true
  all_fit-append c [] gs h k = k
  all_fit-append c (f ∷ fs) gs h k =
      let both = and_parts (fits_in voc c f) (all_fit_in voc c fs) h in
      and_from (fits_in voc c f) (all_fit_in voc c (fs ++ gs)) both.0 (all_fit-append c fs gs both.1 k)

  module _ {X : Type 0} (d : X) (context : List SortId) where
    gathered_from : (f : ℕ → X → List Formula) (n : ℕ) (xs : List X) → ((i : ℕ) → i < length xs → all_fit_in voc context (f (n + i) (get_or xs i d)) ≡ true) → all_fit_in voc context (gathered f n xs) ≡ true
    gathered_from f n [] h = refl
    gathered_from f n (x ∷ xs) h = all_fit-append context (f n x) (gathered f (suc n) xs)
        (let here : n + 0 ≡ n = omega arith in subst (λ k. all_fit_in voc context (f k x) ≡ true) here (h 0 (omega arith)))
        (gathered_from f (suc n) xs (λ i l. let on : n + suc i ≡ suc n + i = omega arith in subst (λ k. all_fit_in voc context (f k (get_or xs i d)) ≡ true) on (h (suc i) (omega (arith, l)))))

    pub all_gathered_fit : (f : ℕ → X → List Formula) (xs : List X) → ((i : ℕ) → i < length xs → all_fit_in voc context (f i (get_or xs i d)) ≡ true) → all_fit_in voc context (gathered f 0 xs) ≡ true
    all_gathered_fit f xs h = gathered_from f 0 xs (λ i l. let z : i ≡ 0 + i = omega arith in subst (λ k. all_fit_in voc context (f k (get_or xs i d)) ≡ true) z (h i l))

    numbered_from : (f : ℕ → X → Formula) (n : ℕ) (xs : List X) → ((i : ℕ) → i < length xs → fits_in voc context (f (n + i) (get_or xs i d)) ≡ true) → all_fit_in voc context (numbered f n xs) ≡ true
    numbered_from f n [] h = refl
    numbered_from f n (x ∷ xs) h = and_from (fits_in voc context (f n x)) (all_fit_in voc context (numbered f (suc n) xs))
        (let here : n + 0 ≡ n = omega arith in subst (λ k. fits_in voc context (f k x) ≡ true) here (h 0 (omega arith)))
        (numbered_from f (suc n) xs (λ i l. let on : n + suc i ≡ suc n + i = omega arith in subst (λ k. fits_in voc context (f k (get_or xs i d)) ≡ true) on (h (suc i) (omega (arith, l)))))

    pub all_numbered_fit : (f : ℕ → X → Formula) (xs : List X) → ((i : ℕ) → i < length xs → fits_in voc context (f i (get_or xs i d)) ≡ true) → all_fit_in voc context (numbered f 0 xs) ≡ true
    all_numbered_fit f xs h = numbered_from f 0 xs (λ i l. let z : i ≡ 0 + i = omega arith in subst (λ k. fits_in voc context (f k (get_or xs i d)) ≡ true) z (h i l))

  -- ---- tuples

  abbrev pub IsThere : SortId → Type 0
  IsThere s = s.0 < voc.sorts

  -- for each tuple
  pub over_fits : (ss context : List SortId) (f : Formula) → All IsThere ss → fits_in voc (reverse ss ++ context) f ≡ true → fits_in voc context (all_over ss f) ≡ true
  over_fits [] c f there h = h
  over_fits (s ∷ ss) c f there h = fold_at-All Bool (List SortId) (fits_step voc) s (all_over ss f) c
      ∙ and_from (ltb s.0 voc.sorts) (fits_in voc (s ∷ c) (all_over ss f)) (lt-ltb s.0 voc.sorts (All-head IsThere s ss there))
      (over_fits ss (s ∷ c) f (All-tail IsThere s ss there) (subst (λ x. fits_in voc x f ≡ true) (reversed s ss c) h))

  -- of each place
  pub places_fit : (g : SortId → Term → Formula) → ((context : List SortId) (s : SortId) (t : Term) → IsThere s → sort_of voc context t ≡ Some s → fits_in voc context (g s t) ≡ true)
      → (ss rest : List SortId) → All IsThere ss → all_fit_in voc (reverse ss ++ rest) (at_places g ss) ≡ true
  places_fit g each [] rest there = refl
  places_fit g each (s ∷ ss) rest there =
      let past : length (reverse ss) ≡ length ss = length-reverse ss in
      let here : length ss ≡ 0 + length (reverse ss) = omega (arith, past) in
      let first : slice_get (reverse ss ++ (s ∷ rest)) (length ss) ≡ Some s = ap (slice_get (reverse ss ++ (s ∷ rest))) here ∙ slice_behind (reverse ss) (s ∷ rest) 0 in
      ap (λ c. all_fit_in voc c (at_places g (s ∷ ss))) (reversed s ss rest)
      ∙ and_from (fits_in voc (reverse ss ++ (s ∷ rest)) (g s (Var (length ss)))) (all_fit_in voc (reverse ss ++ (s ∷ rest)) (at_places g ss))
      (each (reverse ss ++ (s ∷ rest)) s (Var (length ss)) (All-head IsThere s ss there) first) (places_fit g each ss (s ∷ rest) (All-tail IsThere s ss there))

  -- ---- instances

  module _ (ts : List Term) (inner outer : List SortId) (have : have_sorts voc outer ts inner ≡ true) where
    raised : (near : List SortId) (t : Term) (s : SortId) → sort_of voc outer t ≡ Some s → sort_of voc (near ++ outer) (raise (length near) t) ≡ Some s
    raised near (Var j) s h = slice_behind near outer j ∙ h
    raised near (Const c) s h = h

    var_put : (near : List SortId) (i : ℕ) (s : SortId) → slice_get (near ++ inner) i ≡ Some s → sort_of voc (near ++ outer) (put_var ts (length near) i) ≡ Some s
    var_put near i s is = ⊎_elim
        (λ e. let l : i < length near = e.1 in rw (e.0) (slice_left near outer i l ∙ (sym (slice_left near inner i l) ∙ is)))
        (λ e. let behind : slice_get inner (i - length near) ≡ Some s = sym (slice_past near inner i e.1) ∙ is in
        let within : i - length near < length inner = slice_get_within inner (i - length near) s behind in
        let long : length ts ≡ length inner = same_length voc outer ts inner have in
        ⊎_elim
        (λ k. rw (e.0, k.0) (raised near (get_or ts (i - length near) (Var 0)) s (term_at outer ts inner have (i - length near) s behind)))
        (λ k. let past : length ts ≤ i - length near = k.1 in absurd (omega (arith, within, long, past)))
        (ltb_tells (i - length near) (length ts)))
        (ltb_tells i (length near))

    term_put : (near : List SortId) (t : Term) (s : SortId) → sort_of voc (near ++ inner) t ≡ Some s → sort_of voc (near ++ outer) (put_term ts (length near) t) ≡ Some s
    term_put near (Var i) s h = var_put near i s h
    term_put near (Const c) s h = h

    terms_put : (near : List SortId) (us : List Term) (ss : List SortId) → have_sorts voc (near ++ inner) us ss ≡ true → have_sorts voc (near ++ outer) (put_terms ts (length near) us) ss ≡ true
    terms_put near [] [] h = refl
    terms_put near [] (s ∷ ss) h = absurd (false≢true h)
    terms_put near (u ∷ us) [] h = absurd (false≢true h)
    terms_put near (u ∷ us) (s ∷ ss) h =
        let both = and_parts (is_sort (sort_of voc (near ++ inner) u) s) (have_sorts voc (near ++ inner) us ss) h in
        and_from (is_sort (sort_of voc (near ++ outer) (put_term ts (length near) u)) s) (have_sorts voc (near ++ outer) (put_terms ts (length near) us) ss)
        (sort_is _ s (term_put near u s (same_sort (sort_of voc (near ++ inner) u) s both.0))) (terms_put near us ss both.1)

    arguments_put : (near : List SortId) (us : List Term) (o : Option (List SortId)) → are_arguments voc (near ++ inner) us o ≡ true → are_arguments voc (near ++ outer) (put_terms ts (length near) us) o ≡ true
    arguments_put near us None h = absurd (false≢true h)
    arguments_put near us (Some ss) h = terms_put near us ss h

    agree_put : (near : List SortId) (a b : Term) → agree (sort_of voc (near ++ inner) a) (sort_of voc (near ++ inner) b) ≡ true
        → agree (sort_of voc (near ++ outer) (put_term ts (length near) a)) (sort_of voc (near ++ outer) (put_term ts (length near) b)) ≡ true
    agree_put near a b h = by (sort_of voc (near ++ inner) b) refl h
      where
        by : (o : Option SortId) → sort_of voc (near ++ inner) b ≡ o → agree (sort_of voc (near ++ inner) a) o ≡ true
            → agree (sort_of voc (near ++ outer) (put_term ts (length near) a)) (sort_of voc (near ++ outer) (put_term ts (length near) b)) ≡ true
        by None is k = absurd (false≢true k)
        by (Some s) is k = sorts_agree _ _ s (term_put near a s (same_sort (sort_of voc (near ++ inner) a) s k)) (term_put near b s is)

    abbrev Put : Formula → Type 0
    Put f = (near : List SortId) → fits_in voc (near ++ inner) f ≡ true → fits_in voc (near ++ outer) (put_in ts f (length near)) ≡ true

    all_put : (fs : List Formula) → Each Put fs → (near : List SortId) → all_fit_in voc (near ++ inner) fs ≡ true → all_fit_in voc (near ++ outer) (put_in_all ts fs (length near)) ≡ true
    all_put [] each near h = refl
    all_put (f ∷ fs) each near h =
        let both = and_parts (fits_in voc (near ++ inner) f) (all_fit_in voc (near ++ inner) fs) h in
        and_from (fits_in voc (near ++ outer) (put_in ts f (length near))) (all_fit_in voc (near ++ outer) (put_in_all ts fs (length near))) (each.0 near both.0) (all_put fs each.1 near both.1)

    both_put : (f g : Formula) → Put f → Put g → (near : List SortId) → (fits_in voc (near ++ inner) f && fits_in voc (near ++ inner) g) ≡ true
        → (fits_in voc (near ++ outer) (put_in ts f (length near)) && fits_in voc (near ++ outer) (put_in ts g (length near))) ≡ true
    both_put f g ihf ihg near h =
        let both = and_parts (fits_in voc (near ++ inner) f) (fits_in voc (near ++ inner) g) h in
        and_from (fits_in voc (near ++ outer) (put_in ts f (length near))) (fits_in voc (near ++ outer) (put_in ts g (length near))) (ihf near both.0) (ihg near both.1)

    under_put : (s : SortId) (f : Formula) → Put f → (near : List SortId) → (ltb s.0 voc.sorts && fits_in voc (s ∷ (near ++ inner)) f) ≡ true
        → (ltb s.0 voc.sorts && fits_in voc (s ∷ (near ++ outer)) (put_in ts f (length near + 1))) ≡ true
    under_put s f ih near h =
        let both = and_parts (ltb s.0 voc.sorts) (fits_in voc (s ∷ (near ++ inner)) f) h in
        let next : suc (length near) ≡ length near + 1 = omega arith in
        and_from (ltb s.0 voc.sorts) (fits_in voc (s ∷ (near ++ outer)) (put_in ts f (length near + 1))) both.0
        (subst (λ d. fits_in voc (s ∷ (near ++ outer)) (put_in ts f d) ≡ true) next (ih (s ∷ near) both.1))

    puts : Cases Put
    puts = record {
      at_true = λ near h. simp folds_at refl;
      at_false = λ near h. simp folds_at refl;
      at_atom = λ r us near h. simp folds_at (arguments_put near us (relation_in voc.relations r) (simp folds_at at h));
      at_same = λ a b near h. simp folds_at (agree_put near a b (simp folds_at at h));
      at_not = λ f ih near h. simp folds_at (ih near (simp folds_at at h));
      at_and = λ fs each near h. simp folds_at (all_put fs each near (simp folds_at at h));
      at_or = λ fs each near h. simp folds_at (all_put fs each near (simp folds_at at h));
      at_implies = λ f g ihf ihg near h. simp folds_at (both_put f g ihf ihg near (simp folds_at at h));
      at_iff = λ f g ihf ihg near h. simp folds_at (both_put f g ihf ihg near (simp folds_at at h));
      at_all = λ s f ih near h. simp folds_at (under_put s f ih near (simp folds_at at h));
      at_any = λ s f ih near h. simp folds_at (under_put s f ih near (simp folds_at at h));
    }

    -- a formula stands where its variables stand for terms of their sorts
    pub instance_fits : (f : Formula) → fits_in voc inner f ≡ true → fits_in voc outer (put_in ts f 0) ≡ true
    instance_fits f h = by_cases Put puts f [] h

-- ---- updates

-- what becomes of a relation of these sorts: a body that stands over them, or it stays
abbrev pub BodyFits : Vocabulary → Sym → List SortId → Option Formula → Type 0
BodyFits into r ss None = relation_in into.relations r ≡ Some ss
BodyFits into r ss (Some body) = fits_in into (reverse ss) body ≡ true

module _ (from into : Vocabulary) (us : List Update) (same : from.sorts ≡ into.sorts) where
  module _ (relations : (r : Sym) (ss : List SortId) → relation_in from.relations r ≡ Some ss → BodyFits into r ss (body_in us r))
      (constants : (context : List SortId) (c : Sym) (s : SortId) → constant_in from.constants c ≡ Some s → sort_of into context (new_constant c (term_in us c)) ≡ Some s) where
    term_replaced : (context : List SortId) (t : Term) (s : SortId) → sort_of from context t ≡ Some s → sort_of into context (replace_term us t) ≡ Some s
    term_replaced c (Var i) s h = h
    term_replaced c (Const k) s h = constants c k s h

    terms_replaced : (context : List SortId) (ts : List Term) (ss : List SortId) → have_sorts from context ts ss ≡ true → have_sorts into context (replace_terms us ts) ss ≡ true
    terms_replaced c [] [] h = refl
    terms_replaced c [] (s ∷ ss) h = absurd (false≢true h)
    terms_replaced c (t ∷ ts) [] h = absurd (false≢true h)
    terms_replaced c (t ∷ ts) (s ∷ ss) h =
        let both = and_parts (is_sort (sort_of from c t) s) (have_sorts from c ts ss) h in
        and_from (is_sort (sort_of into c (replace_term us t)) s) (have_sorts into c (replace_terms us ts) ss)
        (sort_is _ s (term_replaced c t s (same_sort (sort_of from c t) s both.0))) (terms_replaced c ts ss both.1)

    agree_replaced : (context : List SortId) (a b : Term) → agree (sort_of from context a) (sort_of from context b) ≡ true → agree (sort_of into context (replace_term us a)) (sort_of into context (replace_term us b)) ≡ true
    agree_replaced c a b h = by (sort_of from c b) refl h
      where
        by : (o : Option SortId) → sort_of from c b ≡ o → agree (sort_of from c a) o ≡ true → agree (sort_of into c (replace_term us a)) (sort_of into c (replace_term us b)) ≡ true
        by None is k = absurd (false≢true k)
        by (Some s) is k = sorts_agree _ _ s (term_replaced c a s (same_sort (sort_of from c a) s k)) (term_replaced c b s is)

    atom_new : (context : List SortId) (r : Sym) (ts : List Term) (ss : List SortId) → have_sorts into context ts ss ≡ true → (o : Option Formula) → BodyFits into r ss o → fits_in into context (new_atom r ts o) ≡ true
    atom_new c r ts ss have None stays = fold_at-Atom Bool (List SortId) (fits_step into) r ts c ∙ (ap (λ o. are_arguments into c ts o) stays ∙ have)
    atom_new c r ts ss have (Some body) fits = instance_fits into (reverse ts) (reverse ss) c (have_reverse into c ts ss have) body fits

    atom_replaced : (context : List SortId) (r : Sym) (ts : List Term) (o : Option (List SortId)) → relation_in from.relations r ≡ o → are_arguments from context ts o ≡ true
        → fits_in into context (new_atom r (replace_terms us ts) (body_in us r)) ≡ true
    atom_replaced c r ts None is h = absurd (false≢true h)
    atom_replaced c r ts (Some ss) is h = atom_new c r (replace_terms us ts) ss (terms_replaced c ts ss h) (body_in us r) (relations r ss is)

    abbrev Replaced : Formula → Type 0
    Replaced f = (context : List SortId) → fits_in from context f ≡ true → fits_in into context (replace_of us f) ≡ true

    all_replaced : (fs : List Formula) → Each Replaced fs → (context : List SortId) → all_fit_in from context fs ≡ true → all_fit_in into context (replace_of_all us fs) ≡ true
    all_replaced [] each c h = refl
    all_replaced (f ∷ fs) each c h =
        let both = and_parts (fits_in from c f) (all_fit_in from c fs) h in
        and_from (fits_in into c (replace_of us f)) (all_fit_in into c (replace_of_all us fs)) (each.0 c both.0) (all_replaced fs each.1 c both.1)

    both_replaced : (f g : Formula) → Replaced f → Replaced g → (context : List SortId) → (fits_in from context f && fits_in from context g) ≡ true
        → (fits_in into context (replace_of us f) && fits_in into context (replace_of us g)) ≡ true
    both_replaced f g ihf ihg c h =
        let both = and_parts (fits_in from c f) (fits_in from c g) h in
        and_from (fits_in into c (replace_of us f)) (fits_in into c (replace_of us g)) (ihf c both.0) (ihg c both.1)

    under_replaced : (s : SortId) (f : Formula) → Replaced f → (context : List SortId) → (ltb s.0 from.sorts && fits_in from (s ∷ context) f) ≡ true
        → (ltb s.0 into.sorts && fits_in into (s ∷ context) (replace_of us f)) ≡ true
    under_replaced s f ih c h =
        let both = and_parts (ltb s.0 from.sorts) (fits_in from (s ∷ c) f) h in
        and_from (ltb s.0 into.sorts) (fits_in into (s ∷ c) (replace_of us f)) (subst (λ n. ltb s.0 n ≡ true) same both.0) (ih (s ∷ c) both.1)

    -- a formula stands over the vocabulary in which its relations and constants are told by the updates
    pub replaced_fits : (f : Formula) → Replaced f
    replaced_fits = by_cases Replaced record {
      at_true = λ c h. simp (folds, folds_at) refl;
      at_false = λ c h. simp (folds, folds_at) refl;
      at_atom = λ r ts c h. simp folds (atom_replaced c r ts (relation_in from.relations r) refl (simp folds_at at h));
      at_same = λ a b c h. simp (folds, folds_at) (agree_replaced c a b (simp folds_at at h));
      at_not = λ f ih c h. simp (folds, folds_at) (ih c (simp folds_at at h));
      at_and = λ fs each c h. simp (folds, folds_at) (all_replaced fs each c (simp folds_at at h));
      at_or = λ fs each c h. simp (folds, folds_at) (all_replaced fs each c (simp folds_at at h));
      at_implies = λ f g ihf ihg c h. simp (folds, folds_at) (both_replaced f g ihf ihg c (simp folds_at at h));
      at_iff = λ f g ihf ihg c h. simp (folds, folds_at) (both_replaced f g ihf ihg c (simp folds_at at h));
      at_all = λ s f ih c h. simp (folds, folds_at) (under_replaced s f ih c (simp folds_at at h));
      at_any = λ s f ih c h. simp (folds, folds_at) (under_replaced s f ih c (simp folds_at at h));
    }

    -- and each of its atoms has a term for each free variable of what it becomes
    pub replaced_suits : (f : Formula) (context : List SortId) → fits_in from context f ≡ true → suits us f ≡ true
    replaced_suits = suits_where from us reach
      where
        body_reaches : (r : Sym) (ts : List Term) (ss : List SortId) → length ts ≡ length ss → (o : Option Formula) → BodyFits into r ss o → reaches ts o ≡ true
        body_reaches r ts ss long None stays = refl
        body_reaches r ts ss long (Some body) fits =
            let bound : free_bound_of body ≤ length (reverse ss) = bound_in into body (reverse ss) fits in
            let same_long : length (reverse ss) ≡ length ss = length-reverse ss in
            le-leb (free_bound_of body) (length ts) (omega (arith, bound, same_long, long))

        reach : (context : List SortId) (r : Sym) (ts : List Term) → are_arguments from context ts (relation_in from.relations r) ≡ true → reaches ts (body_in us r) ≡ true
        reach c r ts h = by (relation_in from.relations r) refl h
          where
            by : (o : Option (List SortId)) → relation_in from.relations r ≡ o → are_arguments from c ts o ≡ true → reaches ts (body_in us r) ≡ true
            by None is k = absurd (false≢true k)
            by (Some ss) is k = body_reaches r ts ss (same_length from c ts ss k) (body_in us r) (relations r ss is)
