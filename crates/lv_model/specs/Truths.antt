-- The truth of ground atoms, as tables that are read by the numbers of tuples.
use Rattle.std.specs.Prelude.{◌≡◌, ℕ, zero, suc, ◌+◌, Bool, true, false, eqb, ltb, ◌&&◌, List, [], ◌∷◌, length, drop, get_or, Option, Some, None}
use Rattle.lv_formula.specs.declared.symbols.SortId.{SortId}
use Rattle.lv_formula.specs.declared.symbols.Sym.{Sym}
use Rattle.lv_formula.specs.Symbols.{sym_eq}
use Rattle.lv_formula.specs.Tuples.{pairwise}
use Rattle.lv_cnf.specs.Literals.{assignment_of}
use Rattle.lv_places.specs.declared.terms.TermId.{TermId}
use Rattle.lv_places.specs.declared.grounded.GroundAtom.{GroundAtom}
use Rattle.lv_places.specs.declared.grounded.GroundAtom.TheVariants as make
use Rattle.lv_places.specs.Universes.{term, counts, product, tuple_number}
use Rattle.lv_places.specs.Grounds.{same_atom, atom_truth}
use Rattle.lv_places.proofs.Universes.{AreTerms}
use Rattle.lv_model.specs.declared.assigned.Assigned.{Assigned}
use Rattle.lv_model.specs.declared.truths.Head.{Head}
use Rattle.lv_model.specs.declared.truths.Head.TheVariants.{Relation, Equal}

abbrev pub sort : ℕ → SortId
sort i = record { 0 = i }

-- how many terms each sort has
abbrev pub numbers : Assigned → SortId → ℕ
numbers st = counts st.u.now.terms

-- which ground atoms are true
abbrev pub truth : Assigned → GroundAtom → Bool
truth st = atom_truth st.g.now.atoms (assignment_of st.a.now)

-- which are, by the atoms from the number k on
abbrev pub truth_from : Assigned → ℕ → GroundAtom → Bool
truth_from st k = atom_truth (drop k st.g.now.atoms) (λ i. assignment_of st.a.now (k + i))

abbrev pub is_term : (SortId → ℕ) → SortId → TermId → Bool
is_term n s t = eqb t.sort.0 s.0 && ltb t.place (n s)

abbrev pub are_terms : (SortId → ℕ) → List SortId → List TermId → Bool
are_terms n = pairwise (is_term n)

-- ---- heads

abbrev pub atom_of : Head → List TermId → GroundAtom
atom_of (Relation r) ts = make.Relation r ts
atom_of Equal ts = make.Equal (get_or ts 0 (term (sort 0) 0)) (get_or ts 1 (term (sort 0) 0))

-- equality takes two terms
abbrev pub is_head_of : Head → List SortId → Bool
is_head_of (Relation r) ss = true
is_head_of Equal ss = eqb (length ss) 2

abbrev pub is_named : Head → Sym → Bool
is_named (Relation r) c = sym_eq r c
is_named Equal c = false

abbrev pub is_equality : Head → Bool
is_equality (Relation r) = false
is_equality Equal = true

-- ---- tables

-- the number of a tuple of these sorts
abbrev pub TupleNumberIs : (SortId → ℕ) → List SortId → List TermId → Option ℕ → Type 0
TupleNumberIs n ss ts None = are_terms n ss ts ≡ false
TupleNumberIs n ss ts (Some k) = (are_terms n ss ts ≡ true) × (k ≡ tuple_number n ts)

-- the number of the atom's tuple, or that it is none with this head over these sorts
abbrev pub NumberIs : (SortId → ℕ) → Head → List SortId → GroundAtom → Option ℕ → Type 0
NumberIs n head ss x None = (ts : List TermId) → AreTerms n ss ts → same_atom (atom_of head ts) x ≡ false
NumberIs n head ss x (Some k) = (ts : List TermId) × AreTerms n ss ts × (x ≡ atom_of head ts) × (k ≡ tuple_number n ts)

-- which atoms with this head over these sorts are true, by the numbers of their tuples
pub record AreTruths (n : SortId → ℕ) (v : GroundAtom → Bool) (head : Head) (ss : List SortId) (truths : List Bool) : Type 0 where
  pub len : length truths ≡ product n ss
  pub each : (ts : List TermId) → AreTerms n ss ts → get_or truths (tuple_number n ts) false ≡ v (atom_of head ts)
