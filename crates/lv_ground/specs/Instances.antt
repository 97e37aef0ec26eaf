-- Instances of normal forms.
use Rattle.std.specs.Prelude.{ℕ, not, Bool, cond, List, [], ◌∷◌, map, get_or}
use Rattle.lv_formula.specs.declared.symbols.SortId.{SortId}
use Rattle.lv_places.specs.declared.skolem.Place.{Place}
use Rattle.lv_places.specs.declared.terms.TermId.{TermId}
use Rattle.lv_places.specs.Forms.{Form, Yes, No, Lit, And, Or, All, Any, Forms, form_of}
use Rattle.lv_places.specs.Places.{Binder, Every, Chosen, sort_of, places_in, places_in_all}
use Rattle.lv_places.specs.Universes.{term, place_id}
use Rattle.lv_places.specs.GroundForms.{Tree, Trees, ground_form, ground_all}
use Rattle.lv_places.proofs.Universes.{AreTerms}
use Rattle.lv_places.proofs.Sites.{HasAt}
use Rattle.lv_skolem.proofs.Sorted.{vocabulary_of, FormFits, FormsFit}
use Rattle.lv_ground.specs.declared.setting.Setting.{Setting}
use Rattle.lv_ground.specs.declared.terms.Around.{Around, Outside, Every', Chosen'}
use Rattle.lv_ground.specs.Positions.{sort}
use Rattle.lv_ground.specs.Settings.{numbers, naming}

-- the binders around a node, and the terms of their variables
abbrev pub binders_around : Around → List Binder
binders_around Outside = []
binders_around (Every' t outer around) = Every t.sort ∷ binders_around around
binders_around (Chosen' t body outer around) = Chosen t.sort (form_of body.now) ∷ binders_around around

abbrev pub terms_around : Around → List TermId
terms_around Outside = []
terms_around (Every' t outer around) = t ∷ terms_around around
terms_around (Chosen' t body outer around) = t ∷ terms_around around

-- the place with this number
abbrev pub place_with : Setting → ℕ → Place
place_with st k = get_or st.sk.now.places k (record { sort = sort 0; arguments = [] })

-- the terms of a place's arguments
abbrev pub arguments_around : Setting → Around → ℕ → List TermId
arguments_around st around k = map (λ a. get_or (terms_around around) a.var (term (sort 0) 0)) (place_with st k).arguments

-- the term of a place at a tuple
abbrev pub place_number : Setting → ℕ → List TermId → TermId
place_number st k ts = place_id st.sk.now (numbers st) (place_with st k).sort k ts

-- a form, or what its negation is
abbrev pub signed_form : Bool → Form → Form
signed_form s Yes = Yes
signed_form s No = No
signed_form s (Lit b a) = Lit (cond b s (not s)) a
signed_form s (And fs) = And fs
signed_form s (Or fs) = Or fs
signed_form s (All sort f) = All sort f
signed_form s (Any sort f) = Any sort f

abbrev pub ground_at : Setting → Around → ℕ → Form → Tree
ground_at st around k f = ground_form (naming st) k (binders_around around) (terms_around around) f

abbrev pub ground_all_at : Setting → Around → ℕ → Forms → Trees
ground_all_at st around k fs = ground_all (naming st) k (binders_around around) (terms_around around) fs

-- The form stands in the sentences below these binders, with these terms for their variables: its places are those from
-- the number k on, the terms are of the sorts of their variables, and the symbols occur.
pub record Stands (st : Setting) (g : List Binder) (env : List TermId) (k : ℕ) (f : Form) : Type 0 where
  pub places : HasAt st.sk.now.places k (places_in g f)
  pub terms : AreTerms (numbers st) (map sort_of g) env
  pub fits : FormFits (vocabulary_of st.sk.now) (map sort_of g) f

pub record AllStand (st : Setting) (g : List Binder) (env : List TermId) (k : ℕ) (fs : Forms) : Type 0 where
  pub places : HasAt st.sk.now.places k (places_in_all g fs)
  pub terms : AreTerms (numbers st) (map sort_of g) env
  pub fits : FormsFit (vocabulary_of st.sk.now) (map sort_of g) fs

-- the instance of the body of an `All` at a term
abbrev pub instances_at : Setting → Around → ℕ → SortId → Form → ℕ → Tree
instances_at st around k s f i = ground_form (naming st) k (Every s ∷ binders_around around) (term s i ∷ terms_around around) f
