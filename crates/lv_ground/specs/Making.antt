-- The equality clauses one by one.
use Rattle.std.specs.Prelude.{ℕ, ◌<◌, ◌≡◌, cond, eqb, ◌||◌, List, [], ◌∷◌, get_or, slice_set, length}
use Rattle.lv_formula.specs.declared.symbols.SortId.{SortId}
use Rattle.lv_places.specs.declared.terms.TermId.{TermId}
use Rattle.lv_places.specs.declared.grounded.GroundAtom.TheVariants as make
use Rattle.lv_places.specs.Universes.{term, argument_sorts}
use Rattle.lv_places.specs.Equality.{GroundClause, is, is_not, relation_change, place_change}
use Rattle.lv_formula.specs.Vocabulary.{relation_in}
use Rattle.std.specs.Prelude.{Some}
use Rattle.lv_ground.specs.declared.setting.Setting.{Setting}
use Rattle.lv_ground.specs.declared.equalities.Equalities.{Equalities}
use Rattle.lv_ground.specs.declared.replacing.Applied.{Applied}
use Rattle.lv_ground.specs.declared.replacing.Applied.TheVariants.{Relation, Place}
use Rattle.lv_ground.specs.Growth.{Made}
use Rattle.lv_ground.specs.Marked.{AreMarked}
use Rattle.lv_ground.specs.Positions.{sort}
use Rattle.lv_ground.specs.Settings.{numbers}
use Rattle.lv_ground.specs.Instances.{place_with}

-- the clauses were added, and their atoms
pub record Makes (st : Setting) (before : Equalities) (cs : List GroundClause) (after : Equalities) : Type 0 where
  pub made : Made before.atoms.list.items before.clauses.items cs after.atoms.list.items after.clauses.items
  pub marked : AreMarked st after.atoms

abbrev pub reflexive_at : SortId → ℕ → List GroundClause
reflexive_at s a = (is (make.Equal (term s a) (term s a)) ∷ []) ∷ []

abbrev pub symmetric_at : SortId → ℕ → ℕ → List GroundClause
symmetric_at s a b = cond (eqb a b) [] ((is_not (make.Equal (term s a) (term s b)) ∷ is (make.Equal (term s b) (term s a)) ∷ []) ∷ [])

abbrev pub transitive_at : SortId → ℕ → ℕ → ℕ → List GroundClause
transitive_at s a b c =
    cond (eqb a b || (eqb b c || eqb a c)) []
    ((is_not (make.Equal (term s a) (term s b)) ∷ is_not (make.Equal (term s b) (term s c)) ∷ is (make.Equal (term s a) (term s c)) ∷ []) ∷ [])

-- what a relation or a place keeps as one of its arguments is replaced
abbrev pub change_of : Setting → Applied → List TermId → TermId → TermId → List TermId → GroundClause
change_of st (Relation r) = relation_change r
change_of st (Place k) = place_change st.sk.now (numbers st) (place_with st k).sort k

-- the sorts are those of its arguments
abbrev pub IsApplied : Setting → Applied → List SortId → Type 0
IsApplied st (Relation r) ss = relation_in st.sk.now.relations r ≡ Some ss
IsApplied st (Place k) ss = (k < length st.sk.now.places) × (argument_sorts (place_with st k) ≡ ss)

abbrev pub other_at : Setting → Applied → List SortId → ℕ → List TermId → ℕ → List GroundClause
other_at st head ss j ts i =
    cond (eqb (get_or ts j (term (sort 0) 0)).place i) []
    (change_of st head ts (get_or ts j (term (sort 0) 0)) (term (get_or ss j (sort 0)) i) (slice_set ts j (term (get_or ss j (sort 0)) i)) ∷ [])
