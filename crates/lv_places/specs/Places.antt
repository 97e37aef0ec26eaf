-- Places: each `Any` node of normal forms, with what stands around it.
use Rattle.std.specs.Prelude.{ℕ, zero, suc, ◌+◌, get_or, Bool, true, false, cond, ◌&&◌, List, [], ◌∷◌, ◌++◌, map, reverse, length}
use Rattle.lv_formula.specs.declared.symbols.SortId.{SortId}
use Rattle.lv_formula.specs.Truth.{any_below}
use Rattle.lv_places.specs.declared.skolem.Place.{Place}
use Rattle.lv_places.specs.declared.skolem.PlaceArg.{PlaceArg}
use Rattle.lv_formula.specs.declared.formula.Formula.{Formula}
use Rattle.lv_places.specs.Forms.{Form, Yes, No, Lit, And, Or, All, Any, Forms, Nil, Cons, forms_of, free}

-- A binder that stands around a node. A place keeps its body. Lists of binders have the innermost first.
pub data Binder : Type 0 where
  Every : SortId → Binder
  Chosen : SortId → Form → Binder

abbrev pub sort_of : Binder → SortId
sort_of (Every s) = s
sort_of (Chosen s f) = s

-- Whether the variable x depends on the `All` variable y. An `All` variable depends on itself, and a place's on
-- what the free variables of its node depend on.
abbrev pub needs : List Binder → ℕ → ℕ → Bool
needs [] x y = false
needs (Every s ∷ g) zero zero = true
needs (Every s ∷ g) zero (suc y) = false
needs (Every s ∷ g) (suc x) zero = false
needs (Every s ∷ g) (suc x) (suc y) = needs g x y
needs (Chosen s f ∷ g) zero zero = false
needs (Chosen s f ∷ g) zero (suc y) = any_below (length g) (λ x. free (x + 1) f && needs g x y)
needs (Chosen s f ∷ g) (suc x) zero = false
needs (Chosen s f ∷ g) (suc x) (suc y) = needs g x y

-- whether a place with this body depends on the `All` variable y
abbrev pub place_needs : List Binder → Form → ℕ → Bool
place_needs g f y = any_below (length g) (λ x. free (x + 1) f && needs g x y)

-- the elements at the numbers that pass
abbrev pub keep : {A : Type 0} → (ℕ → Bool) → List A → List A
keep p [] = []
keep p (x ∷ xs) = cond (p 0) (x ∷ keep (λ i. p (suc i)) xs) (keep (λ i. p (suc i)) xs)

-- what stands around a place for its arguments, the outermost first
abbrev pub chosen_of : {A : Type 0} → List Binder → Form → List A → List A
chosen_of g f xs = reverse (keep (place_needs g f) xs)

pub record Site : Type 0 where
  pub around : List Binder
  pub sort : SortId
  pub body : Form

abbrev pub site_sorts : Site → List SortId
site_sorts p = chosen_of p.around p.body (map sort_of p.around)

abbrev pub numbered_from : ℕ → List SortId → List PlaceArg
numbered_from k [] = []
numbered_from k (s ∷ ss) = record { sort = s; var = k } ∷ numbered_from (suc k) ss

-- the place with the sorts and numbers of the variables on which it depends
abbrev pub place_of : Site → Place
place_of p = record { sort = p.sort; arguments = chosen_of p.around p.body (numbered_from 0 (map sort_of p.around)) }

-- the places of a form, in preorder
abbrev mutual
  pub sites : List Binder → Form → List Site
  sites g Yes = []
  sites g No = []
  sites g (Lit b a) = []
  sites g (And fs) = sites_all g fs
  sites g (Or fs) = sites_all g fs
  sites g (All s f) = sites (Every s ∷ g) f
  sites g (Any s f) = record { around = g; sort = s; body = f } ∷ sites (Chosen s f ∷ g) f

  pub sites_all : List Binder → Forms → List Site
  sites_all g Nil = []
  sites_all g (Cons f fs) = sites g f ++ sites_all g fs

abbrev pub places_in : List Binder → Form → List Place
places_in g f = map place_of (sites g f)

abbrev pub places_in_all : List Binder → Forms → List Place
places_in_all g fs = map place_of (sites_all g fs)

-- the places of normal forms
abbrev pub places_of : List Formula → List Place
places_of fs = places_in_all [] (forms_of fs)

-- ---- how code keeps what places depend on

-- whether each number below n passes, in order
abbrev pub marks_to : ℕ → (ℕ → Bool) → List Bool
marks_to zero p = []
marks_to (suc n) p = marks_to n p ++ p n ∷ []

-- the variables with a mark, the outermost first, where the innermost has the number k
abbrev pub marked_from : List Bool → ℕ → List SortId → List PlaceArg
marked_from marks k [] = []
marked_from marks k (s ∷ ss) = marked_from marks (k + 1) ss ++ cond (get_or marks k false) (record { sort = s; var = k } ∷ []) []

-- the place of an `Any` node
abbrev pub place_at : List Binder → SortId → Form → Place
place_at g s f = place_of (record { around = g; sort = s; body = f })
