-- Which variables occur in a renamed formula, and one renaming after another.
use Rattle.std.proofs.Common.{◌≡◌, ℕ, zero, suc, ◌+◌, ◌-◌, ◌<◌, Bool, true, false, eqb, cond, List, [], ◌∷◌, ◌++◌, map, length, get_or, reverse, refl, sym, ap, ap₂, ◌∙◌, arith, eqb-true, eq-eqb}
use Rattle.std.proofs.lemmas.List.{get_or-reverse, get_or-map, length-map}
use Rattle.lv_formula.specs.declared.terms.Term.{Term}
use Rattle.lv_formula.specs.declared.terms.Term.TheVariants.{Var, Const}
use Rattle.lv_formula.specs.declared.temporal.Temporal.{Temporal}
use Rattle.lv_formula.specs.declared.temporal.Temporal.TheVariants as T
use Rattle.lv_formula.proofs.Induction.{Each}
use Rattle.lv_formula.proofs.TemporalFolds.{folds, folds_at}
use Rattle.lv_formula.proofs.TemporalInduction.{Cases, by_cases}
use Rattle.lv_labels.specs.Once.{is_among, each_once, place_of}
use Rattle.lv_labels.specs.Renaming.{term_variables, terms_variables, joined, outside, occurrences_of, free_variables, under, renamed_term, renamed, rename_each, renumbered}
use Rattle.lv_labels.proofs.Once.{Decides, append_mapped, each_first, each_second, once_has, once_mapped, among_mapped, place_mapped, placed, each_kept}
use Rattle.lv_labels.proofs.Later.{bool_iff}

-- ---- occurrences of a renamed formula

module _ (to : ℕ → ℕ) where
  term_mapped : (t : Term) → term_variables (renamed_term to t) ≡ map to (term_variables t)
  term_mapped (Var v) = refl
  term_mapped (Const c) = refl

  terms_mapped : (ts : List Term) → terms_variables (map (renamed_term to) ts) ≡ map to (terms_variables ts)
  terms_mapped [] = refl
  terms_mapped (t ∷ ts) = ap₂ (λ a b. a ++ b) (term_mapped t) (terms_mapped ts) ∙ sym (append_mapped to (term_variables t) (terms_variables ts))

  outside_mapped : (vs : List ℕ) → outside (map (under to) vs) ≡ map to (outside vs)
  outside_mapped [] = refl
  outside_mapped (zero ∷ vs) = outside_mapped vs
  outside_mapped (suc v ∷ vs) = ap (λ us. to v ∷ us) (outside_mapped vs)

abbrev Mapped : Temporal → Type 0
Mapped f = (to : ℕ → ℕ) → occurrences_of (renamed f to) ≡ map to (occurrences_of f)

all_mapped : (fs : List Temporal) → Each Mapped fs → (to : ℕ → ℕ) → joined (map occurrences_of (rename_each (map renamed fs) to)) ≡ map to (joined (map occurrences_of fs))
all_mapped [] each to = refl
all_mapped (f ∷ fs) each to = ap₂ (λ a b. a ++ b) (each.0 to) (all_mapped fs each.1 to) ∙ sym (append_mapped to (occurrences_of f) (joined (map occurrences_of fs)))

both_mapped : (f g : Temporal) → Mapped f → Mapped g → (to : ℕ → ℕ) → occurrences_of (renamed f to) ++ occurrences_of (renamed g to) ≡ map to (occurrences_of f ++ occurrences_of g)
both_mapped f g a b to = ap₂ (λ x y. x ++ y) (a to) (b to) ∙ sym (append_mapped to (occurrences_of f) (occurrences_of g))

mapped_cases : Cases Mapped
mapped_cases = record {
  at_true = λ to. simp (folds_at, folds) refl;
  at_false = λ to. simp (folds_at, folds) refl;
  at_atom = λ s ts to. simp (folds_at, folds) (terms_mapped to ts);
  at_same = λ a b to. simp (folds_at, folds) (ap₂ (λ x y. x ++ y) (term_mapped to a) (term_mapped to b) ∙ sym (append_mapped to (term_variables a) (term_variables b)));
  at_not = λ f ih to. simp (folds_at, folds) (ih to);
  at_and = λ fs each to. simp (folds_at, folds) (all_mapped fs each to);
  at_or = λ fs each to. simp (folds_at, folds) (all_mapped fs each to);
  at_implies = λ f g ihf ihg to. simp (folds_at, folds) (both_mapped f g ihf ihg to);
  at_iff = λ f g ihf ihg to. simp (folds_at, folds) (both_mapped f g ihf ihg to);
  at_all = λ s f ih to. simp (folds_at, folds) (ap outside (ih (under to)) ∙ outside_mapped to (occurrences_of f));
  at_any = λ s f ih to. simp (folds_at, folds) (ap outside (ih (under to)) ∙ outside_mapped to (occurrences_of f));
  at_always = λ f ih to. simp (folds_at, folds) (ih to);
  at_eventually = λ f ih to. simp (folds_at, folds) (ih to);
}

-- the variables of a renamed formula are the new names of the formula's variables
pub occurrences_renamed : (f : Temporal) → Mapped f
occurrences_renamed = by_cases Mapped mapped_cases

-- ---- numbers as items

-- equality of numbers decides
pub numbers : Decides eqb
numbers = record { sound = λ x y h. eqb-true x y h; reflexive = λ x. eq-eqb x x refl }

-- no two variables get one name
abbrev pub Injective : (ℕ → ℕ) → Type 0
Injective to = (u v : ℕ) → to u ≡ to v → u ≡ v

-- a renaming that keeps variables apart does so under a binder
pub under_injective : (to : ℕ → ℕ) → Injective to → Injective (under to)
under_injective to h zero zero e = refl
under_injective to h zero (suc v) e = absurd (omega (arith, e))
under_injective to h (suc u) zero e = absurd (omega (arith, e))
under_injective to h (suc u) (suc v) e = ap suc (h u v (omega (arith, e)))

-- two variables have one name only if they are one
pub same_number : (to : ℕ → ℕ) → Injective to → (u v : ℕ) → eqb (to u) (to v) ≡ eqb u v
same_number to inj u v = bool_iff (eqb (to u) (to v)) (eqb u v) (λ h. eq-eqb u v (inj u v (eqb-true (to u) (to v) h))) (λ h. eq-eqb (to u) (to v) (ap to (eqb-true u v h)))

-- the free variables of a renamed formula are the new names of the free variables
pub free_renamed : (f : Temporal) (to : ℕ → ℕ) → Injective to → free_variables (renamed f to) ≡ map to (free_variables f)
free_renamed f to inj = ap (each_once eqb) (occurrences_renamed f to) ∙ once_mapped eqb eqb to (same_number to inj) (occurrences_of f)

-- each variable that occurs is among the free variables
pub free_has : (f : Temporal) → Each (λ v. is_among eqb v (free_variables f) ≡ true) (occurrences_of f)
free_has f = once_has eqb numbers (occurrences_of f)

-- what holds of each variable that occurs holds of each free variable
pub free_each : (P : ℕ → Type 0) (f : Temporal) → Each P (occurrences_of f) → Each P (free_variables f)
free_each P f = each_kept eqb P (occurrences_of f)

-- ---- one renaming after another

abbrev After : (g to h : ℕ → ℕ) → List ℕ → Type 0
After g to h vs = Each (λ v. g (to v) ≡ h v) vs

after_under : (g to h : ℕ → ℕ) (vs : List ℕ) → After g to h (outside vs) → After (under g) (under to) (under h) vs
after_under g to h [] a = tt
after_under g to h (zero ∷ vs) a = (refl, after_under g to h vs a)
after_under g to h (suc v ∷ vs) a = (ap suc a.0, after_under g to h vs a.1)

term_after : (g to h : ℕ → ℕ) (t : Term) → After g to h (term_variables t) → renamed_term g (renamed_term to t) ≡ renamed_term h t
term_after g to h (Var v) a = ap Var a.0
term_after g to h (Const c) a = refl

terms_after : (g to h : ℕ → ℕ) (ts : List Term) → After g to h (terms_variables ts) → map (renamed_term g) (map (renamed_term to) ts) ≡ map (renamed_term h) ts
terms_after g to h [] a = refl
terms_after g to h (t ∷ ts) a = ap₂ (λ x xs. x ∷ xs) (term_after g to h t (each_first _ (term_variables t) (terms_variables ts) a)) (terms_after g to h ts (each_second _ (term_variables t) (terms_variables ts) a))

abbrev Twice : Temporal → Type 0
Twice f = (g to h : ℕ → ℕ) → After g to h (occurrences_of f) → renamed (renamed f to) g ≡ renamed f h

all_twice : (fs : List Temporal) → Each Twice fs → (g to h : ℕ → ℕ) → After g to h (joined (map occurrences_of fs)) → rename_each (map renamed (rename_each (map renamed fs) to)) g ≡ rename_each (map renamed fs) h
all_twice [] each g to h a = refl
all_twice (f ∷ fs) each g to h a = ap₂ (λ x xs. x ∷ xs) (each.0 g to h (each_first _ (occurrences_of f) (joined (map occurrences_of fs)) a)) (all_twice fs each.1 g to h (each_second _ (occurrences_of f) (joined (map occurrences_of fs)) a))

twice_cases : Cases Twice
twice_cases = record {
  at_true = λ g to h a. simp folds_at refl;
  at_false = λ g to h a. simp folds_at refl;
  at_atom = λ s ts g to h a. simp folds_at (ap (T.Atom s) (terms_after g to h ts (simp folds at a)));
  at_same = λ x y g to h a. let k : After g to h (term_variables x ++ term_variables y) = simp folds at a in
      simp folds_at (ap₂ T.Same (term_after g to h x (each_first _ (term_variables x) (term_variables y) k)) (term_after g to h y (each_second _ (term_variables x) (term_variables y) k)));
  at_not = λ f ih g to h a. simp folds_at (ap T.Not (ih g to h (simp folds at a)));
  at_and = λ fs each g to h a. simp folds_at (ap T.And (all_twice fs each g to h (simp folds at a)));
  at_or = λ fs each g to h a. simp folds_at (ap T.Or (all_twice fs each g to h (simp folds at a)));
  at_implies = λ x y ihx ihy g to h a. let k : After g to h (occurrences_of x ++ occurrences_of y) = simp folds at a in
      simp folds_at (ap₂ T.Implies (ihx g to h (each_first _ (occurrences_of x) (occurrences_of y) k)) (ihy g to h (each_second _ (occurrences_of x) (occurrences_of y) k)));
  at_iff = λ x y ihx ihy g to h a. let k : After g to h (occurrences_of x ++ occurrences_of y) = simp folds at a in
      simp folds_at (ap₂ T.Iff (ihx g to h (each_first _ (occurrences_of x) (occurrences_of y) k)) (ihy g to h (each_second _ (occurrences_of x) (occurrences_of y) k)));
  at_all = λ s f ih g to h a. simp folds_at (ap (T.All s) (ih (under g) (under to) (under h) (after_under g to h (occurrences_of f) (simp folds at a))));
  at_any = λ s f ih g to h a. simp folds_at (ap (T.Any s) (ih (under g) (under to) (under h) (after_under g to h (occurrences_of f) (simp folds at a))));
  at_always = λ f ih g to h a. simp folds_at (ap T.Always (ih g to h (simp folds at a)));
  at_eventually = λ f ih g to h a. simp folds_at (ap T.Eventually (ih g to h (simp folds at a)));
}

-- two renamings in a row are one, if they are on the variables that occur
pub renamed_after : (f : Temporal) → Twice f
renamed_after = by_cases Twice twice_cases

-- ---- numbering by first occurrence

-- a tuple of what a function gives for the listed variables, read back under the new names
pub renumbered_reads : {X : Type 0} (g : ℕ → X) (d : X) (vs : List ℕ) (v : ℕ) → is_among eqb v vs ≡ true → get_or (reverse (map g vs)) (renumbered vs v) d ≡ g v
renumbered_reads g d vs v h =
    let w : (place_of eqb v vs < length vs) × (get_or vs (place_of eqb v vs) 0 ≡ v) = placed eqb numbers 0 v vs h in
    let n : length (map g vs) ≡ length vs = length-map vs g in
    ap (λ b. get_or (reverse (map g vs)) (cond b (length vs - suc (place_of eqb v vs)) (length vs + v)) d) h
    ∙ (get_or-reverse (map g vs) (length vs - suc (place_of eqb v vs)) d (omega (arith, w.0, n))
    ∙ (ap (λ k. get_or (map g vs) k d) (back w.0 n)
    ∙ (get_or-map g vs (place_of eqb v vs) 0 d w.0
    ∙ ap g w.1)))
  where
    back : place_of eqb v vs < length vs → length (map g vs) ≡ length vs → length (map g vs) - 1 - (length vs - suc (place_of eqb v vs)) ≡ place_of eqb v vs
    back l n = omega (arith, l, n)

renumbered_split : (vs : List ℕ) (u v : ℕ) (a b : Bool) → is_among eqb u vs ≡ a → is_among eqb v vs ≡ b → cond a (length vs - suc (place_of eqb u vs)) (length vs + u) ≡ cond b (length vs - suc (place_of eqb v vs)) (length vs + v) → u ≡ v
renumbered_split vs u v true true h k e =
    let p : (place_of eqb u vs < length vs) × (get_or vs (place_of eqb u vs) 0 ≡ u) = placed eqb numbers 0 u vs h in
    let q : (place_of eqb v vs < length vs) × (get_or vs (place_of eqb v vs) 0 ≡ v) = placed eqb numbers 0 v vs k in
    let same : place_of eqb u vs ≡ place_of eqb v vs = omega (arith, e, p.0, q.0) in
    sym p.1 ∙ (ap (λ n. get_or vs n 0) same ∙ q.1)
renumbered_split vs u v true false h k e = let p : (place_of eqb u vs < length vs) × (get_or vs (place_of eqb u vs) 0 ≡ u) = placed eqb numbers 0 u vs h in absurd (omega (arith, e, p.0))
renumbered_split vs u v false true h k e = let q : (place_of eqb v vs < length vs) × (get_or vs (place_of eqb v vs) 0 ≡ v) = placed eqb numbers 0 v vs k in absurd (omega (arith, e, q.0))
renumbered_split vs u v false false h k e = omega (arith, e)

-- the numbering keeps variables apart
pub renumbered_injective : (vs : List ℕ) → Injective (renumbered vs)
renumbered_injective vs u v e = renumbered_split vs u v (is_among eqb u vs) (is_among eqb v vs) refl refl e

-- the numbering of renamed variables is that of the variables
pub renumbered_mapped : (to : ℕ → ℕ) → Injective to → (vs : List ℕ) (v : ℕ) → is_among eqb v vs ≡ true → renumbered (map to vs) (to v) ≡ renumbered vs v
renumbered_mapped to inj vs v h =
    ap (λ b. cond b (length (map to vs) - suc (place_of eqb (to v) (map to vs))) (length (map to vs) + to v)) (among_mapped eqb eqb to (same_number to inj) v vs ∙ h)
    ∙ (ap₂ (λ n k. n - suc k) (length-map vs to) (place_mapped eqb eqb to (same_number to inj) v vs)
    ∙ sym (ap (λ b. cond b (length vs - suc (place_of eqb v vs)) (length vs + v)) h))
