-- The limits on formulas, and on how many items a system has.
use Rattle.std.specs.Prelude.{ℕ, ◌+◌, max, Bool, ◌&&◌, leb, List, [], ◌∷◌, length, map}
use Rattle.lv_formula.specs.declared.terms.Term.{Term}
use Rattle.lv_formula.specs.declared.formula.Formula.{Formula}
use Rattle.lv_formula.specs.declared.formula.Formula.TheOpen.{Formula-F, True, False, Atom, Same, Not, And, Or, Implies, Iff, All, Any}
use Rattle.lv_formula.specs.declared.formula.Formula.TheFolds.{fold-Formula}
use Rattle.lv_formula.specs.Measures.{largest, nodes_of}
use Rattle.lv_system.specs.declared.parts.Parts.{Parts}

-- the lists that an atom is written with: a relation without terms is a bare word
abbrev pub lists_of_atom : List Term → ℕ
lists_of_atom [] = 0
lists_of_atom (t ∷ ts) = 1

abbrev pub lists_step : Formula-F ℕ → ℕ
lists_step True = 0
lists_step False = 0
lists_step (Atom sym terms) = lists_of_atom terms
lists_step (Same a b) = 1
lists_step (Not f) = f + 1
lists_step (And fs) = largest fs + 1
lists_step (Or fs) = largest fs + 1
lists_step (Implies a b) = max a b + 1
lists_step (Iff a b) = max a b + 1
lists_step (All sort f) = f + 1
lists_step (Any sort f) = f + 1

-- how deep lists nest where the formula is written
abbrev pub lists_of : Formula → ℕ
lists_of = fold-Formula ℕ lists_step

abbrev pub lists_of_all : List Formula → ℕ
lists_of_all fs = largest (map lists_of fs)

abbrev pub iffs_step : Formula-F ℕ → ℕ
iffs_step True = 0
iffs_step False = 0
iffs_step (Atom sym terms) = 0
iffs_step (Same a b) = 0
iffs_step (Not f) = f
iffs_step (And fs) = largest fs
iffs_step (Or fs) = largest fs
iffs_step (Implies a b) = max a b
iffs_step (Iff a b) = max a b + 1
iffs_step (All sort f) = f
iffs_step (Any sort f) = f

-- the greatest number of equivalences that stand inside one another
abbrev pub iffs_of : Formula → ℕ
iffs_of = fold-Formula ℕ iffs_step

abbrev pub iffs_of_all : List Formula → ℕ
iffs_of_all fs = largest (map iffs_of fs)

-- the formula has at most 1,024 nodes, an equivalence stands inside at most one other, and lists nest at most so deep
abbrev pub is_small : ℕ → Formula → Bool
is_small lists f = leb (nodes_of f) 1024 && (leb (iffs_of f) 2 && leb (lists_of f) lists)

-- In a whole text lists nest at most 60 deep, the system's own list and the item's among them. So it is 58 in a formula that is
-- an item's own, and 57 in a guard or the body of an update, which stands in one more list.
abbrev pub in_item : ℕ
in_item = 58

abbrev pub in_part : ℕ
in_part = 57

-- how many items of each kind there are at most
abbrev pub counts_fit : Parts → Bool
counts_fit p =
    leb (length p.sorts) 16 && (leb (length p.symbols) 256 && (leb (length p.axioms) 64 && (leb (length p.inits) 64 && (leb (length p.actions) 32
    && (leb (length p.fairs) 16 && (leb (length p.labels) 32 && (leb (length p.witnesses) 16 && leb (length p.invariants) 256)))))))
