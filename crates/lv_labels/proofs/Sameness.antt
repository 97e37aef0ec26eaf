-- The test of temporal formulas, and that of labels, is equality.
use Rattle.std.proofs.Common.{◌≡◌, ◌≢◌, ◌↔◌, IsTrue, suc, Bool, true, false, ◌&&◌, eqb, List, [], ◌∷◌, length, map, refl, sym, ap, ap₂, ◌∙◌}
use Rattle.std.proofs.lemmas.Bool.{and_parts, and_from, false≢true, eqb-true, eq-eqb}
use Rattle.lv_formula.specs.declared.symbols.SortId.{SortId}
use Rattle.lv_formula.specs.declared.symbols.Sym.{Sym}
use Rattle.lv_formula.specs.declared.terms.Term.{Term}
use Rattle.lv_formula.specs.declared.terms.Term.TheVariants.{Var, Const}
use Rattle.lv_formula.specs.declared.temporal.Temporal.{Temporal}
use Rattle.lv_formula.specs.declared.temporal.Temporal.TheOpen.{Temporal-F}
use Rattle.lv_formula.specs.declared.temporal.Temporal.TheViews.{roll-Temporal, out-Temporal, roll-out-Temporal, out-roll-Temporal}
use Rattle.lv_formula.specs.declared.temporal.Temporal.TheVariants as T
use Rattle.lv_formula.specs.declared.temporal.Temporal.TheVariants.{rolls-True, rolls-False, rolls-Atom, rolls-Same, rolls-Not, rolls-And, rolls-Or, rolls-Implies, rolls-Iff, rolls-All, rolls-Any, rolls-Always, rolls-Eventually}
use Rattle.lv_formula.specs.Symbols.{sym_eq, sorts_eq}
use Rattle.lv_formula.proofs.Induction.{Each}
use Rattle.lv_formula.proofs.SymbolLaws.{sym_eq-true, sym_eq-refl}
use Rattle.lv_formula.proofs.TemporalFolds.{folds_at}
use Rattle.lv_formula.proofs.TemporalInduction.{by_cases}
use Rattle.lv_formula.specs.Tuples.{pairwise}
use Rattle.lv_labels.specs.declared.key.Key.{Key}
use Rattle.lv_labels.specs.Labels.{key_eq}
use Rattle.lv_labels.specs.Sameness.{term_eq, each_eq, eq_step, temporal_eq}
use Rattle.lv_labels.proofs.Later.{bool_iff}
use Rattle.lv_labels.proofs.Once.{Decides}

-- ---- terms and sorts

term_true : (a b : Term) → term_eq a b ≡ true → a ≡ b
term_true (Var v) (Var w) h = ap Var (eqb-true v w h)
term_true (Var v) (Const d) h = absurd (false≢true h)
term_true (Const c) (Var w) h = absurd (false≢true h)
term_true (Const c) (Const d) h = ap Const (sym_eq-true c d h)

term_refl : (a : Term) → term_eq a a ≡ true
term_refl (Var v) = eq-eqb v v refl
term_refl (Const c) = sym_eq-refl c

terms_true : (ts us : List Term) → pairwise term_eq ts us ≡ true → ts ≡ us
terms_true [] [] h = refl
terms_true [] (u ∷ us) h = absurd (false≢true h)
terms_true (t ∷ ts) [] h = absurd (false≢true h)
terms_true (t ∷ ts) (u ∷ us) h = let both = and_parts (term_eq t u) (pairwise term_eq ts us) h in ap₂ (λ x xs. x ∷ xs) (term_true t u both.0) (terms_true ts us both.1)

terms_refl : (ts : List Term) → pairwise term_eq ts ts ≡ true
terms_refl [] = refl
terms_refl (t ∷ ts) = and_from (term_eq t t) (pairwise term_eq ts ts) (term_refl t) (terms_refl ts)

-- sorts that the test takes for the same are equal
pub sort_true : (s t : SortId) → eqb s.0 t.0 ≡ true → s ≡ t
sort_true s t h = let e : s.0 ≡ t.0 = eqb-true s.0 t.0 h in λ i. record { 0 = e i }

sorts_true : (ss ts : List SortId) → sorts_eq ss ts ≡ true → ss ≡ ts
sorts_true [] [] h = refl
sorts_true [] (t ∷ ts) h = absurd (false≢true h)
sorts_true (s ∷ ss) [] h = absurd (false≢true h)
sorts_true (s ∷ ss) (t ∷ ts) h = let both = and_parts (eqb s.0 t.0) (sorts_eq ss ts) h in ap₂ (λ x xs. x ∷ xs) (sort_true s t both.0) (sorts_true ss ts both.1)

sorts_refl : (ss : List SortId) → sorts_eq ss ss ≡ true
sorts_refl [] = refl
sorts_refl (s ∷ ss) = and_from (eqb s.0 s.0) (sorts_eq ss ss) (eq-eqb s.0 s.0 refl) (sorts_refl ss)

-- ---- what passes the test is equal

abbrev Sound : Temporal → Type 0
Sound f = (g : Temporal) → temporal_eq f g ≡ true → f ≡ g

abbrev Test : Type 0
Test = Temporal-F (Temporal → Bool)

-- a formula to which each layer that passes rolls up is each formula that passes
by_layer : (f : Temporal) (test : Test) → ((y : Temporal-F Temporal) → eq_step test y ≡ true → f ≡ roll-Temporal y) → (g : Temporal) → eq_step test (out-Temporal g) ≡ true → f ≡ g
by_layer f test h g e = h (out-Temporal g) e ∙ roll-out-Temporal g

each_true : (fs : List Temporal) → Each Sound fs → (gs : List Temporal) → each_eq (map temporal_eq fs) gs ≡ true → fs ≡ gs
each_true [] each [] h = refl
each_true [] each (g ∷ gs) h = absurd (false≢true h)
each_true (f ∷ fs) each [] h = absurd (false≢true h)
each_true (f ∷ fs) each (g ∷ gs) h = let both = and_parts (temporal_eq f g) (each_eq (map temporal_eq fs) gs) h in ap₂ (λ x xs. x ∷ xs) (each.0 g both.0) (each_true fs each.1 gs both.1)

true_layer : (y : Temporal-F Temporal) → eq_step Temporal-F.True y ≡ true → T.True ≡ roll-Temporal y
true_layer Temporal-F.True h = sym rolls-True
true_layer _ h = absurd (false≢true h)

false_layer : (y : Temporal-F Temporal) → eq_step Temporal-F.False y ≡ true → T.False ≡ roll-Temporal y
false_layer Temporal-F.False h = sym rolls-False
false_layer _ h = absurd (false≢true h)

atom_layer : (s : Sym) (ts : List Term) (y : Temporal-F Temporal) → eq_step (Temporal-F.Atom s ts) y ≡ true → T.Atom s ts ≡ roll-Temporal y
atom_layer s ts (Temporal-F.Atom r us) h = let both = and_parts (sym_eq s r) (pairwise term_eq ts us) h in ap₂ T.Atom (sym_eq-true s r both.0) (terms_true ts us both.1) ∙ sym (rolls-Atom r us)
atom_layer s ts _ h = absurd (false≢true h)

same_layer : (a b : Term) (y : Temporal-F Temporal) → eq_step (Temporal-F.Same a b) y ≡ true → T.Same a b ≡ roll-Temporal y
same_layer a b (Temporal-F.Same c d) h = let both = and_parts (term_eq a c) (term_eq b d) h in ap₂ T.Same (term_true a c both.0) (term_true b d both.1) ∙ sym (rolls-Same c d)
same_layer a b _ h = absurd (false≢true h)

not_layer : (f : Temporal) → Sound f → (y : Temporal-F Temporal) → eq_step (Temporal-F.Not (temporal_eq f)) y ≡ true → T.Not f ≡ roll-Temporal y
not_layer f ih (Temporal-F.Not g) h = ap T.Not (ih g h) ∙ sym (rolls-Not g)
not_layer f ih _ h = absurd (false≢true h)

and_layer : (fs : List Temporal) → Each Sound fs → (y : Temporal-F Temporal) → eq_step (Temporal-F.And (map temporal_eq fs)) y ≡ true → T.And fs ≡ roll-Temporal y
and_layer fs each (Temporal-F.And gs) h = ap T.And (each_true fs each gs h) ∙ sym (rolls-And gs)
and_layer fs each _ h = absurd (false≢true h)

or_layer : (fs : List Temporal) → Each Sound fs → (y : Temporal-F Temporal) → eq_step (Temporal-F.Or (map temporal_eq fs)) y ≡ true → T.Or fs ≡ roll-Temporal y
or_layer fs each (Temporal-F.Or gs) h = ap T.Or (each_true fs each gs h) ∙ sym (rolls-Or gs)
or_layer fs each _ h = absurd (false≢true h)

implies_layer : (f g : Temporal) → Sound f → Sound g → (y : Temporal-F Temporal) → eq_step (Temporal-F.Implies (temporal_eq f) (temporal_eq g)) y ≡ true → T.Implies f g ≡ roll-Temporal y
implies_layer f g ihf ihg (Temporal-F.Implies h k) e = let both = and_parts (temporal_eq f h) (temporal_eq g k) e in ap₂ T.Implies (ihf h both.0) (ihg k both.1) ∙ sym (rolls-Implies h k)
implies_layer f g ihf ihg _ e = absurd (false≢true e)

iff_layer : (f g : Temporal) → Sound f → Sound g → (y : Temporal-F Temporal) → eq_step (Temporal-F.Iff (temporal_eq f) (temporal_eq g)) y ≡ true → T.Iff f g ≡ roll-Temporal y
iff_layer f g ihf ihg (Temporal-F.Iff h k) e = let both = and_parts (temporal_eq f h) (temporal_eq g k) e in ap₂ T.Iff (ihf h both.0) (ihg k both.1) ∙ sym (rolls-Iff h k)
iff_layer f g ihf ihg _ e = absurd (false≢true e)

all_layer : (s : SortId) (f : Temporal) → Sound f → (y : Temporal-F Temporal) → eq_step (Temporal-F.All s (temporal_eq f)) y ≡ true → T.All s f ≡ roll-Temporal y
all_layer s f ih (Temporal-F.All t g) h = let both = and_parts (eqb s.0 t.0) (temporal_eq f g) h in ap₂ T.All (sort_true s t both.0) (ih g both.1) ∙ sym (rolls-All t g)
all_layer s f ih _ h = absurd (false≢true h)

any_layer : (s : SortId) (f : Temporal) → Sound f → (y : Temporal-F Temporal) → eq_step (Temporal-F.Any s (temporal_eq f)) y ≡ true → T.Any s f ≡ roll-Temporal y
any_layer s f ih (Temporal-F.Any t g) h = let both = and_parts (eqb s.0 t.0) (temporal_eq f g) h in ap₂ T.Any (sort_true s t both.0) (ih g both.1) ∙ sym (rolls-Any t g)
any_layer s f ih _ h = absurd (false≢true h)

always_layer : (f : Temporal) → Sound f → (y : Temporal-F Temporal) → eq_step (Temporal-F.Always (temporal_eq f)) y ≡ true → T.Always f ≡ roll-Temporal y
always_layer f ih (Temporal-F.Always g) h = ap T.Always (ih g h) ∙ sym (rolls-Always g)
always_layer f ih _ h = absurd (false≢true h)

eventually_layer : (f : Temporal) → Sound f → (y : Temporal-F Temporal) → eq_step (Temporal-F.Eventually (temporal_eq f)) y ≡ true → T.Eventually f ≡ roll-Temporal y
eventually_layer f ih (Temporal-F.Eventually g) h = ap T.Eventually (ih g h) ∙ sym (rolls-Eventually g)
eventually_layer f ih _ h = absurd (false≢true h)

-- temporal formulas that the test takes for the same are equal
pub temporal_true : (f : Temporal) → Sound f
temporal_true = by_cases Sound record {
  at_true = λ g h. by_layer T.True Temporal-F.True true_layer g (simp folds_at at h);
  at_false = λ g h. by_layer T.False Temporal-F.False false_layer g (simp folds_at at h);
  at_atom = λ s ts g h. by_layer (T.Atom s ts) (Temporal-F.Atom s ts) (atom_layer s ts) g (simp folds_at at h);
  at_same = λ a b g h. by_layer (T.Same a b) (Temporal-F.Same a b) (same_layer a b) g (simp folds_at at h);
  at_not = λ f ih g h. by_layer (T.Not f) (Temporal-F.Not (temporal_eq f)) (not_layer f ih) g (simp folds_at at h);
  at_and = λ fs each g h. by_layer (T.And fs) (Temporal-F.And (map temporal_eq fs)) (and_layer fs each) g (simp folds_at at h);
  at_or = λ fs each g h. by_layer (T.Or fs) (Temporal-F.Or (map temporal_eq fs)) (or_layer fs each) g (simp folds_at at h);
  at_implies = λ f k ihf ihk g h. by_layer (T.Implies f k) (Temporal-F.Implies (temporal_eq f) (temporal_eq k)) (implies_layer f k ihf ihk) g (simp folds_at at h);
  at_iff = λ f k ihf ihk g h. by_layer (T.Iff f k) (Temporal-F.Iff (temporal_eq f) (temporal_eq k)) (iff_layer f k ihf ihk) g (simp folds_at at h);
  at_all = λ s f ih g h. by_layer (T.All s f) (Temporal-F.All s (temporal_eq f)) (all_layer s f ih) g (simp folds_at at h);
  at_any = λ s f ih g h. by_layer (T.Any s f) (Temporal-F.Any s (temporal_eq f)) (any_layer s f ih) g (simp folds_at at h);
  at_always = λ f ih g h. by_layer (T.Always f) (Temporal-F.Always (temporal_eq f)) (always_layer f ih) g (simp folds_at at h);
  at_eventually = λ f ih g h. by_layer (T.Eventually f) (Temporal-F.Eventually (temporal_eq f)) (eventually_layer f ih) g (simp folds_at at h);
}

-- ---- what is equal passes the test

-- the layer that stands under a formula
opened : (f : Temporal) (y : Temporal-F Temporal) → roll-Temporal y ≡ f → out-Temporal f ≡ y
opened f y e = ap out-Temporal (sym e) ∙ out-roll-Temporal y

passes : (f : Temporal) (y : Temporal-F Temporal) (test : Test) → roll-Temporal y ≡ f → eq_step test y ≡ true → eq_step test (out-Temporal f) ≡ true
passes f y test e h = ap (eq_step test) (opened f y e) ∙ h

abbrev Reflexive : Temporal → Type 0
Reflexive f = temporal_eq f f ≡ true

each_refl : (fs : List Temporal) → Each Reflexive fs → each_eq (map temporal_eq fs) fs ≡ true
each_refl [] each = refl
each_refl (f ∷ fs) each = and_from (temporal_eq f f) (each_eq (map temporal_eq fs) fs) each.0 (each_refl fs each.1)

-- each temporal formula passes the test with itself
pub temporal_refl : (f : Temporal) → Reflexive f
temporal_refl = by_cases Reflexive record {
  at_true = simp folds_at (passes T.True Temporal-F.True Temporal-F.True rolls-True refl);
  at_false = simp folds_at (passes T.False Temporal-F.False Temporal-F.False rolls-False refl);
  at_atom = λ s ts. simp folds_at (passes (T.Atom s ts) (Temporal-F.Atom s ts) (Temporal-F.Atom s ts) (rolls-Atom s ts) (and_from (sym_eq s s) (pairwise term_eq ts ts) (sym_eq-refl s) (terms_refl ts)));
  at_same = λ a b. simp folds_at (passes (T.Same a b) (Temporal-F.Same a b) (Temporal-F.Same a b) (rolls-Same a b) (and_from (term_eq a a) (term_eq b b) (term_refl a) (term_refl b)));
  at_not = λ f ih. simp folds_at (passes (T.Not f) (Temporal-F.Not f) (Temporal-F.Not (temporal_eq f)) (rolls-Not f) ih);
  at_and = λ fs each. simp folds_at (passes (T.And fs) (Temporal-F.And fs) (Temporal-F.And (map temporal_eq fs)) (rolls-And fs) (each_refl fs each));
  at_or = λ fs each. simp folds_at (passes (T.Or fs) (Temporal-F.Or fs) (Temporal-F.Or (map temporal_eq fs)) (rolls-Or fs) (each_refl fs each));
  at_implies = λ f g ihf ihg. simp folds_at (passes (T.Implies f g) (Temporal-F.Implies f g) (Temporal-F.Implies (temporal_eq f) (temporal_eq g)) (rolls-Implies f g) (and_from (temporal_eq f f) (temporal_eq g g) ihf ihg));
  at_iff = λ f g ihf ihg. simp folds_at (passes (T.Iff f g) (Temporal-F.Iff f g) (Temporal-F.Iff (temporal_eq f) (temporal_eq g)) (rolls-Iff f g) (and_from (temporal_eq f f) (temporal_eq g g) ihf ihg));
  at_all = λ s f ih. simp folds_at (passes (T.All s f) (Temporal-F.All s f) (Temporal-F.All s (temporal_eq f)) (rolls-All s f) (and_from (eqb s.0 s.0) (temporal_eq f f) (eq-eqb s.0 s.0 refl) ih));
  at_any = λ s f ih. simp folds_at (passes (T.Any s f) (Temporal-F.Any s f) (Temporal-F.Any s (temporal_eq f)) (rolls-Any s f) (and_from (eqb s.0 s.0) (temporal_eq f f) (eq-eqb s.0 s.0 refl) ih));
  at_always = λ f ih. simp folds_at (passes (T.Always f) (Temporal-F.Always f) (Temporal-F.Always (temporal_eq f)) (rolls-Always f) ih);
  at_eventually = λ f ih. simp folds_at (passes (T.Eventually f) (Temporal-F.Eventually f) (Temporal-F.Eventually (temporal_eq f)) (rolls-Eventually f) ih);
}

-- a test that tells whether two temporal formulas are equal is this one
pub temporal_test : (b : Bool) (f g : Temporal) → IsTrue b ↔ (f ≡ g) → b ≡ temporal_eq f g
temporal_test b f g h = bool_iff b (temporal_eq f g) (λ t. ap (temporal_eq f) (sym (h.0 t)) ∙ temporal_refl f) (λ t. h.1 (temporal_true f g t))

-- lists of different lengths are not the same
pub sorts_lengths : (ss ts : List SortId) → length ss ≢ length ts → sorts_eq ss ts ≡ false
sorts_lengths [] [] differ = absurd (differ refl)
sorts_lengths [] (t ∷ ts) differ = refl
sorts_lengths (s ∷ ss) [] differ = refl
sorts_lengths (s ∷ ss) (t ∷ ts) differ = ap (λ b. eqb s.0 t.0 && b) (sorts_lengths ss ts (λ e. differ (ap suc e))) ∙ and_no (eqb s.0 t.0)
  where
    and_no : (b : Bool) → (b && false) ≡ false
    and_no true = refl
    and_no false = refl

-- ---- labels

make_key : List SortId → Temporal → Key
make_key sorts inner = record { sorts = sorts; inner = inner }

key_true : (a b : Key) → key_eq a b ≡ true → a ≡ b
unfolding make_key
key_true a b h = let both = and_parts (sorts_eq a.sorts b.sorts) (temporal_eq a.inner b.inner) h in ap₂ make_key (sorts_true a.sorts b.sorts both.0) (temporal_true a.inner b.inner both.1)

key_refl : (a : Key) → key_eq a a ≡ true
key_refl a = and_from (sorts_eq a.sorts a.sorts) (temporal_eq a.inner a.inner) (sorts_refl a.sorts) (temporal_refl a.inner)

-- the test of labels is equality
pub key_decides : Decides key_eq
key_decides = record { sound = key_true; reflexive = key_refl }
