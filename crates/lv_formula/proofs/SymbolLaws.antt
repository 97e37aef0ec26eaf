-- The test of symbols is equality.
use Rattle.std.proofs.Common.{◌≡◌, ℕ, true, cond, eqb, refl, sym, ap₂, ◌∙◌}
use Rattle.std.proofs.lemmas.Bool.{and_parts, eqb-true, eq-eqb}
use Rattle.lv_formula.specs.declared.symbols.Sym.{Sym}
use Rattle.lv_formula.specs.declared.symbols.Sym.TheVariants.{Own, Witness, Label, Frozen, Saved, Touched, Kept, Due, Copy, CopyLabel, Next, Param}
use Rattle.lv_formula.specs.Symbols.{sym_kind, sym_number, sym_eq}

-- the symbol of that kind and number
sym_from : ℕ → ℕ → Sym
sym_from k n =
    cond (eqb k 0) (Own n) (cond (eqb k 1) (Witness n) (cond (eqb k 2) (Label n) (cond (eqb k 3) Frozen (cond (eqb k 4) Saved
    (cond (eqb k 5) (Touched (record { 0 = n })) (cond (eqb k 6) (Kept (record { 0 = n })) (cond (eqb k 7) (Due n) (cond (eqb k 8) (Copy n)
    (cond (eqb k 9) (CopyLabel n) (cond (eqb k 10) (Next n) (Param n)))))))))))

sym_back : (a : Sym) → sym_from (sym_kind a) (sym_number a) ≡ a
unfolding sym_from
sym_back (Own n) = refl
sym_back (Witness n) = refl
sym_back (Label n) = refl
sym_back Frozen = refl
sym_back Saved = refl
sym_back (Touched s) = refl
sym_back (Kept s) = refl
sym_back (Due n) = refl
sym_back (Copy n) = refl
sym_back (CopyLabel n) = refl
sym_back (Next n) = refl
sym_back (Param n) = refl

pub sym_eq-true : (a b : Sym) → sym_eq a b ≡ true → a ≡ b
unfolding sym_eq
sym_eq-true a b h = let both = and_parts (eqb (sym_kind a) (sym_kind b)) (eqb (sym_number a) (sym_number b)) h in
    sym (sym_back a) ∙ ap₂ sym_from (eqb-true _ _ both.0) (eqb-true _ _ both.1) ∙ sym_back b

pub sym_eq-refl : (a : Sym) → sym_eq a a ≡ true
unfolding sym_eq
sym_eq-refl a = rw (eq-eqb (sym_kind a) (sym_kind a) refl, eq-eqb (sym_number a) (sym_number a) refl) refl
