-- The size: the nodes of the ground forms and the number of equality clauses, from the numbers of terms alone.
use Rattle.std.specs.Prelude.{◌≡◌, ℕ, zero, suc, ◌+◌, ◌-◌, ◌*◌, ◌<◌, ◌≤◌, List, [], ◌∷◌, length, Option, Some, None}
use Rattle.lv_formula.specs.declared.symbols.SortId.{SortId}
use Rattle.lv_formula.specs.declared.vocabulary.RelShape.{RelShape}
use Rattle.lv_places.specs.declared.skolem.Place.{Place}
use Rattle.lv_places.specs.declared.skolem.Skolem.{Skolem}
use Rattle.lv_places.specs.Forms.{Form, Yes, No, Lit, And, Or, All, Any, Forms, Nil, Cons, forms_of}
use Rattle.lv_places.specs.Universes.{argument_sorts, constant_terms, product, place_count}

-- the nodes of a ground form, where a literal, `true` or `false` is one node
abbrev mutual
  pub form_nodes : (SortId → ℕ) → Form → ℕ
  form_nodes n Yes = 1
  form_nodes n No = 1
  form_nodes n (Lit b a) = 1
  form_nodes n (And fs) = suc (forms_nodes n fs)
  form_nodes n (Or fs) = suc (forms_nodes n fs)
  form_nodes n (All s f) = suc (n s * form_nodes n f)
  form_nodes n (Any s f) = form_nodes n f

  pub forms_nodes : (SortId → ℕ) → Forms → ℕ
  forms_nodes n Nil = 0
  forms_nodes n (Cons f fs) = form_nodes n f + forms_nodes n fs

-- reflexive, symmetric and transitive clauses of a sort
abbrev pub sort_count : ℕ → ℕ
sort_count n = n + (n * (n - 1) + n * ((n - 1) * (n - 2)))

-- the sum over the arguments of the other terms there
abbrev pub others : (SortId → ℕ) → List SortId → ℕ
others n [] = 0
others n (s ∷ ss) = (n s - 1) + others n ss

abbrev pub replacement_count : (SortId → ℕ) → List SortId → ℕ
replacement_count n ss = others n ss * product n ss

abbrev pub at_least_one : ℕ → ℕ
at_least_one zero = 1
at_least_one (suc n) = suc n

-- n s is the number of terms of the sort s; with no cycle there is one such n on the sorts of the vocabulary
abbrev pub IsCount : Skolem → (SortId → ℕ) → Type 0
IsCount sk n = (s : SortId) → s.0 < sk.sorts → n s ≡ at_least_one (length (constant_terms s sk.constants) + place_count n s sk.places)

abbrev pub sum_to : ℕ → ℕ → (ℕ → ℕ) → ℕ
sum_to k zero f = 0
sum_to k (suc n) f = f k + sum_to (suc k) n f

abbrev pub relations_count : (SortId → ℕ) → List RelShape → ℕ
relations_count n [] = 0
relations_count n (r ∷ rs) = replacement_count n r.sorts + relations_count n rs

abbrev pub places_count : (SortId → ℕ) → List Place → ℕ
places_count n [] = 0
places_count n (p ∷ ps) = replacement_count n (argument_sorts p) + places_count n ps

abbrev pub size_of : Skolem → (SortId → ℕ) → ℕ
size_of sk n = forms_nodes n (forms_of sk.forms) +
    (sum_to 0 sk.sorts (λ i. sort_count (n (record { 0 = i }))) + (relations_count n sk.relations + places_count n sk.places))

-- the greatest size of sentences that are ground
abbrev pub limit : ℕ
limit = 4000000

-- the size where it is within the limit, for each n that counts the terms
abbrev pub SizeIs : Skolem → Option ℕ → Type 0
SizeIs sk None = (n : SortId → ℕ) → IsCount sk n → limit < size_of sk n
SizeIs sk (Some size) = (n : SortId → ℕ) × IsCount sk n × (size ≡ size_of sk n) × (size ≤ limit)

-- the terms can be counted, and the size is within the limit
abbrev pub IsWithin : Skolem → Type 0
IsWithin sk = (n : SortId → ℕ) × IsCount sk n × (size_of sk n ≤ limit)
