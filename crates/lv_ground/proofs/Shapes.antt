-- Formulas as forms, by their outermost connective.
use Rattle.std.proofs.Common.{◌≡◌, ℕ, zero, suc, ◌+◌, ◌<◌, ◌≤◌, Bool, true, not, List, [], ◌∷◌, length, get_or, sym, ap, ◌∙◌, arith}
use Rattle.lv_formula.specs.declared.symbols.SortId.{SortId}
use Rattle.lv_formula.specs.declared.symbols.Sym.{Sym}
use Rattle.lv_formula.specs.declared.terms.Term.{Term}
use Rattle.lv_formula.specs.declared.formula.Formula.{Formula}
use Rattle.lv_formula.specs.declared.formula.Formula.TheVariants as make
use Rattle.lv_formula.specs.Measures.{nodes_step, nodes_of, nodes_of_all}
use Rattle.lv_formula.proofs.Folds.{fold-True, fold-False, fold-Atom, fold-Same, fold-Not, fold-And, fold-Or, fold-Implies, fold-Iff, fold-All, fold-Any}
use Rattle.lv_places.specs.Forms.{Rel, Same, Form, Yes, No, Lit, And, Or, All, Any, form_step, form_of, forms_of}
use Rattle.lv_ground.specs.Instances.{signed_form}
use Rattle.lv_ground.proofs.Standing.{signed_turned}

module _ (s : Bool) (x : Formula) where
  along : (y : Formula) (g : Form) → x ≡ y → form_of y ≡ g → signed_form s (form_of x) ≡ signed_form s g
  along y g e h = ap (λ z. signed_form s (form_of z)) e ∙ ap (signed_form s) h

  pub shape_true : x ≡ make.True → signed_form s (form_of x) ≡ Yes
  shape_true e = along make.True Yes e (fold-True Form form_step)

  pub shape_false : x ≡ make.False → signed_form s (form_of x) ≡ No
  shape_false e = along make.False No e (fold-False Form form_step)

  pub shape_atom : (r : Sym) (ts : List Term) → x ≡ make.Atom r ts → signed_form s (form_of x) ≡ Lit s (Rel r ts)
  shape_atom r ts e = along (make.Atom r ts) (Lit true (Rel r ts)) e (fold-Atom Form form_step r ts)

  pub shape_same : (a b : Term) → x ≡ make.Same a b → signed_form s (form_of x) ≡ Lit s (Same a b)
  shape_same a b e = along (make.Same a b) (Lit true (Same a b)) e (fold-Same Form form_step a b)

  pub shape_not : (f : Formula) → x ≡ make.Not f → signed_form s (form_of x) ≡ signed_form (not s) (form_of f)
  shape_not f e = along (make.Not f) _ e (fold-Not Form form_step f) ∙ sym (signed_turned s (form_of f))

  pub shape_and : (fs : List Formula) → x ≡ make.And fs → signed_form s (form_of x) ≡ And (forms_of fs)
  shape_and fs e = along (make.And fs) (And (forms_of fs)) e (fold-And Form form_step fs)

  pub shape_or : (fs : List Formula) → x ≡ make.Or fs → signed_form s (form_of x) ≡ Or (forms_of fs)
  shape_or fs e = along (make.Or fs) (Or (forms_of fs)) e (fold-Or Form form_step fs)

  pub shape_implies : (f g : Formula) → x ≡ make.Implies f g → signed_form s (form_of x) ≡ No
  shape_implies f g e = along (make.Implies f g) No e (fold-Implies Form form_step f g)

  pub shape_iff : (f g : Formula) → x ≡ make.Iff f g → signed_form s (form_of x) ≡ No
  shape_iff f g e = along (make.Iff f g) No e (fold-Iff Form form_step f g)

  pub shape_all : (t : SortId) (f : Formula) → x ≡ make.All t f → signed_form s (form_of x) ≡ All t (form_of f)
  shape_all t f e = along (make.All t f) (All t (form_of f)) e (fold-All Form form_step t f)

  pub shape_any : (t : SortId) (f : Formula) → x ≡ make.Any t f → signed_form s (form_of x) ≡ Any t (form_of f)
  shape_any t f e = along (make.Any t f) (Any t (form_of f)) e (fold-Any Form form_step t f)

-- ---- nodes

module _ (x : Formula) where
  pub nodes_not : (f : Formula) → x ≡ make.Not f → nodes_of x ≡ nodes_of f + 1
  nodes_not f e = ap nodes_of e ∙ fold-Not ℕ nodes_step f

  pub nodes_and : (fs : List Formula) → x ≡ make.And fs → nodes_of x ≡ nodes_of_all fs + 1
  nodes_and fs e = ap nodes_of e ∙ fold-And ℕ nodes_step fs

  pub nodes_or : (fs : List Formula) → x ≡ make.Or fs → nodes_of x ≡ nodes_of_all fs + 1
  nodes_or fs e = ap nodes_of e ∙ fold-Or ℕ nodes_step fs

  pub nodes_all : (t : SortId) (f : Formula) → x ≡ make.All t f → nodes_of x ≡ nodes_of f + 1
  nodes_all t f e = ap nodes_of e ∙ fold-All ℕ nodes_step t f

  pub nodes_any : (t : SortId) (f : Formula) → x ≡ make.Any t f → nodes_of x ≡ nodes_of f + 1
  nodes_any t f e = ap nodes_of e ∙ fold-Any ℕ nodes_step t f

pub nodes_at : (fs : List Formula) (i : ℕ) (f : Formula) → i < length fs → get_or fs i f ≡ f → nodes_of f ≤ nodes_of_all fs
nodes_at [] i f l e = absurd (omega arith)
nodes_at (g ∷ fs) zero f l e = let q = ap nodes_of e in omega arith
nodes_at (g ∷ fs) (suc i) f l e = let r = nodes_at fs i f (omega arith) e in omega arith
