-- Every ground atom that may occur has a number of its own: first the relations at all tuples of terms, then for each
-- sort the pairs of its terms.
use Rattle.std.specs.Prelude.{◌≡◌, ℕ, suc, ◌+◌, ◌<◌, cond, List, [], ◌∷◌, ◌++◌, map, get_or, length, Some, ◌^◌, zero}
use Rattle.std.specs.List.{list_any}
use Rattle.lv_formula.specs.declared.symbols.SortId.{SortId}
use Rattle.lv_formula.specs.declared.symbols.Sym.{Sym}
use Rattle.lv_formula.specs.declared.vocabulary.RelShape.{RelShape}
use Rattle.lv_formula.specs.Symbols.{sym_eq}
use Rattle.lv_formula.specs.Vocabulary.{relation_in}
use Rattle.lv_places.specs.declared.skolem.Skolem.{Skolem}
use Rattle.lv_places.specs.declared.terms.TermId.{TermId}
use Rattle.lv_places.specs.declared.grounded.GroundAtom.{GroundAtom}
use Rattle.lv_places.specs.declared.grounded.GroundAtom.TheVariants.{Relation, Equal}
use Rattle.lv_places.specs.Universes.{term, tuples, product, tuple_number}
use Rattle.lv_places.specs.Sizes.{sum_to}
use Rattle.lv_places.specs.Equality.{each_of}
use Rattle.lv_places.specs.Grounds.{same_atom, find_atom}
use Rattle.lv_places.proofs.Universes.{IsTerm, AreTerms}

abbrev pub sort : ℕ → SortId
sort i = record { 0 = i }

-- how many atoms the relations have
abbrev pub relation_rows : (SortId → ℕ) → List RelShape → ℕ
relation_rows n [] = 0
relation_rows n (r ∷ rs) = product n r.sorts + relation_rows n rs

-- how many atoms the relations before this one have
abbrev pub relation_start : (SortId → ℕ) → List RelShape → Sym → ℕ
relation_start n [] r = 0
relation_start n (x ∷ xs) r = cond (sym_eq x.sym r) 0 (product n x.sorts + relation_start n xs r)

-- how many pairs of terms a sort has
abbrev pub pairs : (SortId → ℕ) → SortId → ℕ
pairs n s = product n (s ∷ s ∷ [])

-- how many atoms the relations and the first k sorts have
abbrev pub rows_to : Skolem → (SortId → ℕ) → ℕ → ℕ
rows_to sk n k = relation_rows n sk.relations + sum_to 0 k (λ i. pairs n (sort i))

-- the number of an atom
abbrev pub position : Skolem → (SortId → ℕ) → GroundAtom → ℕ
position sk n (Relation r ts) = relation_start n sk.relations r + tuple_number n ts
position sk n (Equal a b) = rows_to sk n a.sort.0 + tuple_number n (a ∷ b ∷ [])

-- the atoms in the order of their numbers
abbrev pub relation_atoms : (SortId → ℕ) → List RelShape → List GroundAtom
relation_atoms n [] = []
relation_atoms n (r ∷ rs) = map (Relation r.sym) (tuples n r.sorts) ++ relation_atoms n rs

abbrev pub pair_of : List TermId → GroundAtom
pair_of ts = Equal (get_or ts 0 (term (sort 0) 0)) (get_or ts 1 (term (sort 0) 0))

abbrev pub pair_atoms : (SortId → ℕ) → SortId → List GroundAtom
pair_atoms n s = map pair_of (tuples n (s ∷ s ∷ []))

abbrev pub possible_atoms : Skolem → (SortId → ℕ) → List GroundAtom
possible_atoms sk n = relation_atoms n sk.relations ++ each_of 0 sk.sorts (λ i. pair_atoms n (sort i))

-- an atom over the relations and sorts that there are, with terms that there are
abbrev pub IsPossible : Skolem → (SortId → ℕ) → GroundAtom → Type 0
IsPossible sk n (Relation r ts) = (ss : List SortId) × (relation_in sk.relations r ≡ Some ss) × AreTerms n ss ts
IsPossible sk n (Equal a b) = (s : SortId) × (s.0 < sk.sorts) × IsTerm n s a × IsTerm n s b

-- ---- the table of the atoms that have occurred

-- one more than the place of the atom in the list, or 0 where it does not stand there
abbrev pub mark : List GroundAtom → GroundAtom → ℕ
mark atoms a = cond (list_any (same_atom a) atoms) (suc (find_atom atoms a)) 0

-- how many are 0
abbrev pub zeros : List ℕ → ℕ
zeros [] = 0
zeros (zero ∷ ns) = suc (zeros ns)
zeros (suc n ∷ ns) = zeros ns

-- each atom that may occur is marked at its number
pub record IsTable (sk : Skolem) (n : SortId → ℕ) (atoms : List GroundAtom) (table : List ℕ) : Type 0 where
  pub len : length table ≡ length (possible_atoms sk n)
  pub few : length table < 2 ^ 32
  pub rest : length atoms + zeros table ≡ length table
  pub marks : (a : GroundAtom) → IsPossible sk n a → get_or table (position sk n a) 0 ≡ mark atoms a
