-- The truth of normal forms, and that it is the truth of what they are normal forms of.
use Rattle.std.proofs.Common.{◌≡◌, Bool, true, false, ◌&&◌, ◌||◌, eqb, List, [], ◌∷◌, refl, ap₂, ◌∙◌}
use Rattle.lv_formula.specs.declared.symbols.SortId.{SortId}
use Rattle.lv_formula.specs.declared.symbols.Sym.{Sym}
use Rattle.lv_formula.specs.declared.terms.Term.{Term}
use Rattle.lv_formula.specs.declared.formula.Formula.{Formula}
use Rattle.lv_formula.specs.declared.formula.Formula.TheVariants as make
use Rattle.lv_formula.proofs.Folds.{folds, folds_at}
use Rattle.lv_formula.proofs.Induction.{Each, by_cases}
use Rattle.lv_formula.specs.Meaning.{Meaning}
use Rattle.lv_formula.specs.Truth.{Env, value_of, values_of, truth_in, all_true_in, any_true_in, all_below, any_below}
use Rattle.lv_cnf.specs.Literals.{signed}
use Rattle.lv_rewrite.specs.Normal.{nnf_of, nnf_of_all}
use Rattle.lv_rewrite.proofs.NormalLaw.{truth_nnf}
use Rattle.lv_places.specs.Forms.{Atom, Rel, Same, Form, Yes, No, Lit, And, Or, All, Any, Forms, Nil, Cons, form_of, forms_of}

abbrev pub atom_true : Meaning → Env → Atom → Bool
atom_true m env (Rel r ts) = m.holds r (values_of m env ts)
atom_true m env (Same a b) = eqb (value_of m env a) (value_of m env b)

abbrev mutual
  pub meets : Meaning → Env → Form → Bool
  meets m env Yes = true
  meets m env No = false
  meets m env (Lit b a) = signed b (atom_true m env a)
  meets m env (And fs) = meets_all m env fs
  meets m env (Or fs) = meets_any m env fs
  meets m env (All s f) = all_below (m.size s) (λ x. meets m (x ∷ env) f)
  meets m env (Any s f) = any_below (m.size s) (λ x. meets m (x ∷ env) f)

  pub meets_all : Meaning → Env → Forms → Bool
  meets_all m env Nil = true
  meets_all m env (Cons f fs) = meets m env f && meets_all m env fs

  pub meets_any : Meaning → Env → Forms → Bool
  meets_any m env Nil = false
  meets_any m env (Cons f fs) = meets m env f || meets_any m env fs

module _ (m : Meaning) where
  -- the tree of a normal form is true where the normal form is
  abbrev Same_truth : Formula → Type 0
  Same_truth g = (env : Env) → meets m env (form_of g) ≡ truth_in m g env

  abbrev Alike : Formula → Type 0
  Alike f = (sign : Bool) → Same_truth (nnf_of f sign)

  alls : (fs : List Formula) → Each Alike fs → (sign : Bool) (env : Env) → meets_all m env (forms_of (nnf_of_all fs sign))
      ≡ all_true_in m (nnf_of_all fs sign) env
  alls [] each sign env = refl
  alls (f ∷ fs) each sign env = ap₂ (λ a b. a && b) (each.0 sign env) (alls fs each.1 sign env)

  anys : (fs : List Formula) → Each Alike fs → (sign : Bool) (env : Env) → meets_any m env (forms_of (nnf_of_all fs sign))
      ≡ any_true_in m (nnf_of_all fs sign) env
  anys [] each sign env = refl
  anys (f ∷ fs) each sign env = ap₂ (λ a b. a || b) (each.0 sign env) (anys fs each.1 sign env)

  at_true : Alike make.True
  at_true true env = simp (folds, folds_at) refl
  at_true false env = simp (folds, folds_at) refl

  at_false : Alike make.False
  at_false true env = simp (folds, folds_at) refl
  at_false false env = simp (folds, folds_at) refl

  at_atom : (r : Sym) (ts : List Term) → Alike (make.Atom r ts)
  at_atom r ts true env = simp (folds, folds_at) refl
  at_atom r ts false env = simp (folds, folds_at) refl

  at_same : (a b : Term) → Alike (make.Same a b)
  at_same a b true env = simp (folds, folds_at) refl
  at_same a b false env = simp (folds, folds_at) refl

  at_not : (f : Formula) → Alike f → Alike (make.Not f)
  at_not f ih true env = simp folds_at (ih false env)
  at_not f ih false env = simp folds_at (ih true env)

  at_and : (fs : List Formula) → Each Alike fs → Alike (make.And fs)
  at_and fs each true env = simp (folds, folds_at) (alls fs each true env)
  at_and fs each false env = simp (folds, folds_at) (anys fs each false env)

  at_or : (fs : List Formula) → Each Alike fs → Alike (make.Or fs)
  at_or fs each true env = simp (folds, folds_at) (anys fs each true env)
  at_or fs each false env = simp (folds, folds_at) (alls fs each false env)

  at_implies : (f g : Formula) → Alike f → Alike g → Alike (make.Implies f g)
  at_implies f g ihf ihg true env = simp (folds, folds_at) (ap₂ (λ a b. a || (b || false)) (ihf false env) (ihg true env))
  at_implies f g ihf ihg false env = simp (folds, folds_at) (ap₂ (λ a b. a && (b && true)) (ihf true env) (ihg false env))

  at_iff : (f g : Formula) → Alike f → Alike g → Alike (make.Iff f g)
  at_iff f g ihf ihg true env = simp (folds, folds_at) (
      ap₂ (λ a b. a && (b && true)) (ap₂ (λ a b. a || (b || false)) (ihf false env) (ihg true env))
      (ap₂ (λ a b. a || (b || false)) (ihg false env) (ihf true env)))
  at_iff f g ihf ihg false env = simp (folds, folds_at) (
      ap₂ (λ a b. a && (b && true)) (ap₂ (λ a b. a || (b || false)) (ihf true env) (ihg true env))
      (ap₂ (λ a b. a || (b || false)) (ihf false env) (ihg false env)))

  at_all : (s : SortId) (f : Formula) → Alike f → Alike (make.All s f)
  at_all s f ih true env = simp (folds, folds_at) (λ i. all_below (m.size s) (λ x. ih true (x ∷ env) i))
  at_all s f ih false env = simp (folds, folds_at) (λ i. any_below (m.size s) (λ x. ih false (x ∷ env) i))

  at_any : (s : SortId) (f : Formula) → Alike f → Alike (make.Any s f)
  at_any s f ih true env = simp (folds, folds_at) (λ i. any_below (m.size s) (λ x. ih true (x ∷ env) i))
  at_any s f ih false env = simp (folds, folds_at) (λ i. all_below (m.size s) (λ x. ih false (x ∷ env) i))

  alike : (f : Formula) → Alike f
  alike = by_cases Alike (record {
    at_true = at_true;
    at_false = at_false;
    at_atom = at_atom;
    at_same = at_same;
    at_not = at_not;
    at_and = at_and;
    at_or = at_or;
    at_implies = at_implies;
    at_iff = at_iff;
    at_all = at_all;
    at_any = at_any;
  })

  -- the tree of a normal form is true where the formula is, or where it is not
  pub right : (f : Formula) (sign : Bool) (env : Env) → meets m env (form_of (nnf_of f sign)) ≡ signed sign (truth_in m f env)
  right f true env = alike f true env ∙ truth_nnf m f true env
  right f false env = alike f false env ∙ truth_nnf m f false env

  pub all_right : (fs : List Formula) (env : Env) → meets_all m env (forms_of (nnf_of_all fs true)) ≡ all_true_in m fs env
  all_right [] env = refl
  all_right (f ∷ fs) env = ap₂ (λ a b. a && b) (right f true env) (all_right fs env)
