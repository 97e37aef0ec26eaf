-- Structures with the same own symbols, with the same fixed symbols, or with the same state, agree on the vocabularies of these.
use Rattle.std.proofs.Common.{◌≡◌, ℕ, ◌+◌, ◌<◌, Bool, true, List, [], ◌∷◌, length, take, Some, refl, sym, subst, zero-add}
use Rattle.std.specs.List.{All}
use Rattle.std.proofs.lemmas.List.Elements.{All-append, All-cons, All-nil}
use Rattle.lv_formula.specs.declared.symbols.SortId.{SortId}
use Rattle.lv_formula.specs.declared.symbols.Sym.{Sym}
use Rattle.lv_formula.specs.declared.symbols.Sym.TheVariants.{Own, Label, Frozen, Saved, Touched, Kept, Due, Copy, CopyLabel}
use Rattle.lv_formula.specs.declared.vocabulary.RelShape.{RelShape}
use Rattle.lv_formula.specs.declared.vocabulary.ConShape.{ConShape}
use Rattle.lv_formula.specs.Meaning.{IsStructureOf, Meaning}
use Rattle.lv_struct.proofs.Tabulate.{constant_found, relation_found}
use Rattle.lv_system.specs.declared.parts.Parts.{Parts}
use Rattle.lv_system.specs.Step.{symbol_at}
use Rattle.lv_system.specs.Vocabularies.{any_symbol, constant_sort, constants_from, fixed_vocabulary, is_fixed, own_vocabulary, relations_from, witnesses_from}
use Rattle.lv_labels.specs.Problem.{Problem, shapes_from, state_vocabulary}
use Rattle.lv_system.specs.InvariantWords.{is_changing, sets_from}
use Rattle.lv_labels.specs.Vocabularies.{catch_vocabulary, mark}
use Rattle.lv_temporal.proofs.Found.{own-constant_state}
use Rattle.lv_temporal.proofs.Words.{constants_from-all, relations_from-all, sets_from-all, shapes_from-all, witnesses_from-all}
use Rattle.lv_temporal.specs.Walk.{IsAt, beside}
use Rattle.lv_temporal.proofs.Agreement.{SameOn}

-- both have the same elements and the same own symbols
pub record SameOwn (m n : Meaning) : Type 0 where
  pub sizes : (s : SortId) → m.size s ≡ n.size s
  pub relations : (r : ℕ) (tuple : List ℕ) → m.holds (Own r) tuple ≡ n.holds (Own r) tuple
  pub constants : (c : ℕ) → m.value (Own c) ≡ n.value (Own c)

-- both have the same elements and the same fixed symbols
pub record SameFixed (p : Parts) (m n : Meaning) : Type 0 where
  pub sizes : (s : SortId) → m.size s ≡ n.size s
  pub relations : (r : ℕ) → (symbol_at p r).fixed ≡ true → (tuple : List ℕ) → m.holds (Own r) tuple ≡ n.holds (Own r) tuple
  pub constants : (c : ℕ) → (symbol_at p c).fixed ≡ true → m.value (Own c) ≡ n.value (Own c)

abbrev SameRelation : Meaning → Meaning → Sym → List SortId → Type 0
SameRelation m n r sorts = (tuple : List ℕ) → m.holds r tuple ≡ n.holds r tuple

abbrev SameConstant : Meaning → Meaning → Sym → SortId → Type 0
SameConstant m n c s = m.value c ≡ n.value c

abbrev EachRelation : (Sym → List SortId → Type 0) → RelShape → Type 0
EachRelation P r = P r.sym r.sorts

abbrev EachConstant : (Sym → SortId → Type 0) → ConShape → Type 0
EachConstant P c = P c.sym c.sort

-- structures with the same own symbols agree on the vocabulary of these
pub own_same : (p : Parts) (m n : Meaning) → SameOwn m n → SameOn (own_vocabulary p) m n
own_same p m n h = record {
  sizes = h.sizes;
  relations = relation_found (SameRelation m n) (own_vocabulary p).relations (relations_from-all (SameRelation m n) any_symbol Own 0 p.symbols (λ i sorts l t is. h.relations (0 + i)));
  constants = constant_found (SameConstant m n) (own_vocabulary p).constants (constants_from-all (SameConstant m n) any_symbol Own 0 p.symbols (λ i sort l t is. h.constants (0 + i)));
}

-- structures with the same fixed symbols agree on the vocabulary of these
pub fixed_same : (p : Parts) (m n : Meaning) → SameFixed p m n → SameOn (fixed_vocabulary p) m n
fixed_same p m n h = record {
  sizes = h.sizes;
  relations = relation_found (SameRelation m n) (fixed_vocabulary p).relations (relations_from-all (SameRelation m n) is_fixed Own 0 p.symbols
      (λ i sorts l t is. subst (λ x. SameRelation m n (Own x) sorts) (sym (zero-add i)) (h.relations i t)));
  constants = constant_found (SameConstant m n) (fixed_vocabulary p).constants (constants_from-all (SameConstant m n) is_fixed Own 0 p.symbols
      (λ i sort l t is. subst (λ x. SameConstant m n (Own x) sort) (sym (zero-add i)) (h.constants i t)));
}

-- structures with the same own symbols, labels and witnesses are the same at each word of the state
module _ (q : Problem) (m n : Meaning) (h : IsAt m n) where
  state_relations : All (EachRelation (SameRelation m n)) (state_vocabulary q).relations
  state_relations = All-append (EachRelation (SameRelation m n)) (relations_from any_symbol Own 0 q.parts.symbols) (shapes_from Label 0 q.labels)
      (relations_from-all (SameRelation m n) any_symbol Own 0 q.parts.symbols (λ i sorts l t is. h.relations (0 + i)))
      (shapes_from-all (SameRelation m n) Label 0 q.labels (λ i l. h.labels (0 + i)))

  state_constants : All (EachConstant (SameConstant m n)) (state_vocabulary q).constants
  state_constants = All-append (EachConstant (SameConstant m n)) (constants_from any_symbol Own 0 q.parts.symbols) (witnesses_from 0 (take (length q.parts.witnesses) q.parts.witnesses))
      (constants_from-all (SameConstant m n) any_symbol Own 0 q.parts.symbols (λ i sort l t is. h.constants (0 + i)))
      (witnesses_from-all (SameConstant m n) 0 (take (length q.parts.witnesses) q.parts.witnesses) (λ i l. h.witnesses (0 + i)))

  -- structures at the same state agree on the vocabulary of the state
  pub state_same : SameOn (state_vocabulary q) m n
  state_same = record {
    sizes = h.sizes;
    relations = relation_found (SameRelation m n) (state_vocabulary q).relations state_relations;
    constants = constant_found (SameConstant m n) (state_vocabulary q).constants state_constants;
  }

-- a structure is at its own state
pub at_itself : (m : Meaning) → IsAt m m
at_itself m = record { sizes = λ s. refl; relations = λ r tuple. refl; labels = λ l tuple. refl; constants = λ c. refl; witnesses = λ k. refl }

-- and so it is with a step put beside it
pub beside_at : (m n : Meaning) (es : List ℕ) (next : ℕ → List ℕ → Bool) → IsAt m n → IsAt (beside m es next) n
beside_at m n es next h = record { sizes = h.sizes; relations = h.relations; labels = h.labels; constants = h.constants; witnesses = h.witnesses }

-- structures at the same state have the same own symbols
pub own_at : (m n : Meaning) → IsAt m n → SameOwn m n
own_at m n h = record { sizes = h.sizes; relations = h.relations; constants = h.constants }

-- and the same fixed symbols
pub fixed_at : (p : Parts) (m n : Meaning) → IsAt m n → SameFixed p m n
fixed_at p m n h = record { sizes = h.sizes; relations = λ r f. h.relations r; constants = λ c f. h.constants c }

-- what is put beside a structure changes no word of the monitored structure
module _ (q : Problem) (m : Meaning) (es : List ℕ) (next : ℕ → List ℕ → Bool) where
  abbrev P : Sym → List SortId → Type 0
  P = SameRelation (beside m es next) m

  abbrev C : Sym → SortId → Type 0
  C = SameConstant (beside m es next) m

  beside_relations : All (EachRelation P) (catch_vocabulary q).relations
  beside_relations =
      All-append (EachRelation P) (state_vocabulary q).relations _ (state_relations q (beside m es next) m (beside_at m m es next (at_itself m)))
      (All-append (EachRelation P) (mark Frozen ∷ mark Saved ∷ []) _ (All-cons (EachRelation P) (mark Frozen) (mark Saved ∷ []) (λ tuple. refl) (All-cons (EachRelation P) (mark Saved) [] (λ tuple. refl) (All-nil (EachRelation P))))
      (All-append (EachRelation P) (sets_from Touched 0 q.parts.sorts) _ (sets_from-all P Touched 0 q.parts.sorts (λ i l tuple. refl))
      (All-append (EachRelation P) (sets_from Kept 0 q.parts.sorts) _ (sets_from-all P Kept 0 q.parts.sorts (λ i l tuple. refl))
      (All-append (EachRelation P) (shapes_from Due 0 q.justice) _ (shapes_from-all P Due 0 q.justice (λ i l tuple. refl))
      (All-append (EachRelation P) (relations_from is_changing Copy 0 q.parts.symbols) (shapes_from CopyLabel 0 q.labels)
      (relations_from-all P is_changing Copy 0 q.parts.symbols (λ i sorts l t is tuple. refl))
      (shapes_from-all P CopyLabel 0 q.labels (λ i l tuple. refl)))))))

  beside_constants : All (EachConstant C) (catch_vocabulary q).constants
  beside_constants = All-append (EachConstant C) (state_vocabulary q).constants (constants_from is_changing Copy 0 q.parts.symbols)
      (state_constants q (beside m es next) m (beside_at m m es next (at_itself m)))
      (constants_from-all C is_changing Copy 0 q.parts.symbols (λ i sort l t is. refl))

  -- a structure and the same with a step put beside it agree on the words of the monitored structure
  pub beside_same : SameOn (catch_vocabulary q) (beside m es next) m
  beside_same = record {
    sizes = λ s. refl;
    relations = relation_found P (catch_vocabulary q).relations beside_relations;
    constants = constant_found C (catch_vocabulary q).constants beside_constants;
  }

-- an own constant is an element of its sort
pub own_constant_in_range : (q : Problem) (m : Meaning) → IsStructureOf (state_vocabulary q) m → (c : ℕ) (s : SortId) → c < length q.parts.symbols → constant_sort (symbol_at q.parts c).shape ≡ Some s → m.value (Own c) < m.size s
own_constant_in_range q m st c s l e = st.constants (Own c) s (own-constant_state q c s l e)
