-- Equality of symbols, sorts and lists of these as tests.
use Rattle.std.specs.Prelude.{ℕ, Bool, true, false, ◌&&◌, eqb, List, [], ◌∷◌}
use Rattle.lv_formula.specs.declared.symbols.SortId.{SortId}
use Rattle.lv_formula.specs.declared.symbols.Sym.{Sym}
use Rattle.lv_formula.specs.declared.symbols.Sym.TheVariants.{Own, Witness, Label, Frozen, Saved, Touched, Kept, Due, Copy, CopyLabel, Next, Param}

abbrev pub sym_kind : Sym → ℕ
sym_kind (Own n) = 0
sym_kind (Witness n) = 1
sym_kind (Label n) = 2
sym_kind Frozen = 3
sym_kind Saved = 4
sym_kind (Touched s) = 5
sym_kind (Kept s) = 6
sym_kind (Due n) = 7
sym_kind (Copy n) = 8
sym_kind (CopyLabel n) = 9
sym_kind (Next n) = 10
sym_kind (Param n) = 11

abbrev pub sym_number : Sym → ℕ
sym_number (Own n) = n
sym_number (Witness n) = n
sym_number (Label n) = n
sym_number Frozen = 0
sym_number Saved = 0
sym_number (Touched s) = s.0
sym_number (Kept s) = s.0
sym_number (Due n) = n
sym_number (Copy n) = n
sym_number (CopyLabel n) = n
sym_number (Next n) = n
sym_number (Param n) = n

unfoldable pub sym_eq : Sym → Sym → Bool
sym_eq a b = eqb (sym_kind a) (sym_kind b) && eqb (sym_number a) (sym_number b)

abbrev pub sorts_eq : List SortId → List SortId → Bool
sorts_eq [] [] = true
sorts_eq [] (y ∷ ys) = false
sorts_eq (x ∷ xs) [] = false
sorts_eq (x ∷ xs) (y ∷ ys) = eqb x.0 y.0 && sorts_eq xs ys
