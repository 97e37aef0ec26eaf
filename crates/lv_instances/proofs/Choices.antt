-- The least element that makes a place's body true depends on the place's arguments alone.
use mathlib.Core.Path.{fun_ext}
use Rattle.std.proofs.Common.{◌≡◌, ℕ, zero, suc, ◌+◌, ◌<◌, Bool, true, false, cond, List, [], ◌∷◌, length, get_or, map, reverse, refl, ap, ◌∙◌, arith, ◌&&◌}
use Rattle.std.specs.List.{list_any}
use Rattle.std.proofs.lemmas.List.{reverse-reverse}
use Rattle.std.proofs.lemmas.Bool.{and_from, or_left, or_right, eq-eqb}
use Rattle.lv_formula.specs.declared.symbols.SortId.{SortId}
use Rattle.lv_formula.specs.declared.terms.Term.{Term}
use Rattle.lv_formula.specs.declared.terms.Term.TheVariants.{Var, Const}
use Rattle.lv_formula.specs.Meaning.{Meaning}
use Rattle.lv_formula.specs.Truth.{Env, value_of, values_of, all_below, any_below}
use Rattle.lv_formula.proofs.Below.{any_below-holds}
use Rattle.lv_cnf.specs.Literals.{signed}
use Rattle.lv_places.specs.Forms.{Rel, Same, Form, Yes, No, Lit, And, Or, All, Any, Forms, Nil, Cons, in_term, free, free_some}
use Rattle.lv_places.specs.Places.{Binder, Every, Chosen, needs, place_needs, keep, Site, chosen_of}
use Rattle.lv_places.specs.Least.{least_below}
use Rattle.lv_places.specs.declared.terms.TermId.{TermId}
use Rattle.lv_skolem.proofs.Meets.{meets, meets_all, meets_any}
use Rattle.lv_places.proofs.Marks.{needs_below}
use Rattle.lv_places.proofs.Arguments.{chosen_map}
use Rattle.lv_places.proofs.Tests.{least_same}

-- truth depends on the free variables alone
abbrev pub Agree : (ℕ → Bool) → Env → Env → Type 0
Agree p a b = (x : ℕ) → p x ≡ true → get_or a x 0 ≡ get_or b x 0

pub agree_more : (p : ℕ → Bool) (a b : Env) (e : ℕ) → Agree (λ x. p (x + 1)) a b → Agree p (e ∷ a) (e ∷ b)
agree_more p a b e h zero q = refl
agree_more p a b e h (suc x) q = h x (let z : x + 1 ≡ suc x = omega arith in ap p z ∙ q)

term_same : (m : Meaning) (t : Term) (a b : Env) → Agree (λ x. in_term x t) a b → value_of m a t ≡ value_of m b t
term_same m (Var y) a b h = h y (eq-eqb y y refl)
term_same m (Const c) a b h = refl

terms_same : (m : Meaning) (ts : List Term) (a b : Env) → Agree (λ x. list_any (in_term x) ts) a b → values_of m a ts ≡ values_of m b ts
terms_same m [] a b h = refl
terms_same m (t ∷ ts) a b h =
    let p = term_same m t a b (λ i q. h i (or_left _ _ q)) in
    let q = terms_same m ts a b (λ i q. h i (or_right _ _ q)) in
    cc

mutual
  pub meets_same : (m : Meaning) (f : Form) (a b : Env) → Agree (λ x. free x f) a b → meets m a f ≡ meets m b f
  meets_same m Yes a b h = refl
  meets_same m No a b h = refl
  meets_same m (Lit s (Rel r ts)) a b h = ap (λ l. signed s (m.holds r l)) (terms_same m ts a b h)
  meets_same m (Lit s (Same x y)) a b h =
      let p = term_same m x a b (λ i q. h i (or_left _ _ q)) in
      let q = term_same m y a b (λ i q. h i (or_right _ _ q)) in
      cc
  meets_same m (And fs) a b h = all_same m fs a b h
  meets_same m (Or fs) a b h = any_same m fs a b h
  meets_same m (All s f) a b h = ap (all_below (m.size s)) (fun_ext (λ e. meets_same m f (e ∷ a) (e ∷ b) (agree_more (λ x. free x f) a b e h)))
  meets_same m (Any s f) a b h = ap (any_below (m.size s)) (fun_ext (λ e. meets_same m f (e ∷ a) (e ∷ b) (agree_more (λ x. free x f) a b e h)))

  all_same : (m : Meaning) (fs : Forms) (a b : Env) → Agree (λ x. free_some x fs) a b → meets_all m a fs ≡ meets_all m b fs
  all_same m Nil a b h = refl
  all_same m (Cons f fs) a b h =
      let p = meets_same m f a b (λ i q. h i (or_left _ _ q)) in
      let q = all_same m fs a b (λ i q. h i (or_right _ _ q)) in
      cc

  any_same : (m : Meaning) (fs : Forms) (a b : Env) → Agree (λ x. free_some x fs) a b → meets_any m a fs ≡ meets_any m b fs
  any_same m Nil a b h = refl
  any_same m (Cons f fs) a b h =
      let p = meets_same m f a b (λ i q. h i (or_left _ _ q)) in
      let q = any_same m fs a b (λ i q. h i (or_right _ _ q)) in
      cc

-- the least element that makes a place's body true
abbrev pub choice : Meaning → SortId → Form → Env → ℕ
choice m s f env = least_below (m.size s) (λ e. meets m (e ∷ env) f)

-- the elements of all variables, from those of the `All` variables
abbrev pub complete : Meaning → List Binder → (ℕ → ℕ) → Env
complete m [] w = []
complete m (Every s ∷ g) w = w 0 ∷ complete m g (λ i. w (suc i))
complete m (Chosen s f ∷ g) w = choice m s f (complete m g (λ i. w (suc i))) ∷ complete m g (λ i. w (suc i))

-- where a variable's element stands among those that are kept
abbrev pub rank_of : (ℕ → Bool) → ℕ → ℕ
rank_of p zero = 0
rank_of p (suc y) = cond (p 0) (suc (rank_of (λ i. p (suc i)) y)) (rank_of (λ i. p (suc i)) y)

abbrev pub spread : (ℕ → Bool) → List ℕ → ℕ → ℕ
spread p vs y = get_or vs (rank_of p y) 0

-- a place's element at the elements of its arguments
abbrev pub skolem : Meaning → Site → List ℕ → ℕ
skolem m p vs = choice m p.sort p.body (complete m p.around (spread (place_needs p.around p.body) (reverse vs)))

-- a variable's element depends on the variables that it needs alone
abbrev Depends : Meaning → List Binder → Type 0
Depends m g = (w v : ℕ → ℕ) (x : ℕ) → ((y : ℕ) → needs g x y ≡ true → w y ≡ v y) → get_or (complete m g w) x 0 ≡ get_or (complete m g v) x 0

pub length-complete : (m : Meaning) (g : List Binder) (w : ℕ → ℕ) → length (complete m g w) ≡ length g
length-complete m [] w = refl
length-complete m (Every s ∷ g) w = ap suc (length-complete m g _)
length-complete m (Chosen s f ∷ g) w = ap suc (length-complete m g _)

choice_same_by : (m : Meaning) (g : List Binder) (s : SortId) (f : Form) (w v : ℕ → ℕ) → Depends m g → ((y : ℕ) → place_needs g f y ≡ true → w y ≡ v y)
    → choice m s f (complete m g w) ≡ choice m s f (complete m g v)
choice_same_by m g s f w v dep h = least_same (m.size s) _ _
    (λ e. meets_same m f (e ∷ complete m g w) (e ∷ complete m g v) (agree_more (λ x. free x f) _ _ e at))
  where
    at : Agree (λ x. free (x + 1) f) (complete m g w) (complete m g v)
    at x q = dep w v x (λ y n. h y (any_below-holds (length g) (λ x. free (x + 1) f && needs g x y) x (needs_below g x y n).0 (and_from _ _ q n)))

depends : (m : Meaning) (g : List Binder) → Depends m g
depends m [] w v x h = refl
depends m (Every s ∷ g) w v zero h = h 0 refl
depends m (Every s ∷ g) w v (suc x) h = depends m g _ _ x (λ y. h (suc y))
depends m (Chosen s f ∷ g) w v zero h = choice_same_by m g s f _ _ (depends m g) (λ y. h (suc y))
depends m (Chosen s f ∷ g) w v (suc x) h = depends m g _ _ x (λ y. h (suc y))

pub choice_same : (m : Meaning) (g : List Binder) (s : SortId) (f : Form) (w v : ℕ → ℕ) → ((y : ℕ) → place_needs g f y ≡ true → w y ≡ v y)
    → choice m s f (complete m g w) ≡ choice m s f (complete m g v)
choice_same m g s f w v h = choice_same_by m g s f w v (depends m g) h

spread_step : (b : Bool) (e : ℕ) (rest : List ℕ) (r z : ℕ) → get_or rest r 0 ≡ z → get_or (cond b (e ∷ rest) rest) (cond b (suc r) r) 0 ≡ z
spread_step true e rest r z h = h
spread_step false e rest r z h = h

pub spread_keep : (p : ℕ → Bool) (env : List ℕ) (y : ℕ) → y < length env → p y ≡ true → spread p (keep p env) y ≡ get_or env y 0
spread_keep p [] y l h = absurd (omega arith)
spread_keep p (e ∷ env) zero l h = ap (λ b. get_or (cond b (e ∷ keep (λ i. p (suc i)) env) (keep (λ i. p (suc i)) env)) 0 0) h
spread_keep p (e ∷ env) (suc y) l h = spread_step (p 0) e _ _ _ (spread_keep (λ i. p (suc i)) env y (omega arith) h)

-- the elements of a place's arguments, innermost first
pub arguments_back : (I : TermId → ℕ) (g : List Binder) (f : Form) (ts : List TermId) → reverse (map I (chosen_of g f ts)) ≡ keep (place_needs g f)
    (map I ts)
arguments_back I g f ts = ap reverse (chosen_map I g f ts) ∙ reverse-reverse (keep (place_needs g f) (map I ts))
