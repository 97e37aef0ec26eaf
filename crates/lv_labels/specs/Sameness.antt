-- When two temporal formulas are the same. Bound variables have no names, so nothing is said of them.
use Rattle.std.specs.Prelude.{Bool, true, false, ◌&&◌, eqb, List, [], ◌∷◌}
use Rattle.lv_formula.specs.declared.terms.Term.{Term}
use Rattle.lv_formula.specs.declared.terms.Term.TheVariants.{Var, Const}
use Rattle.lv_formula.specs.declared.temporal.Temporal.{Temporal, out-Temporal}
use Rattle.lv_formula.specs.declared.temporal.Temporal.TheOpen.{Temporal-F, True, False, Atom, Same, Not, And, Or, Implies, Iff, All, Any, Always, Eventually}
use Rattle.lv_formula.specs.declared.temporal.Temporal.TheFolds.{fold-Temporal}
use Rattle.lv_formula.specs.Symbols.{sym_eq}
use Rattle.lv_formula.specs.Tuples.{pairwise}

abbrev pub term_eq : Term → Term → Bool
term_eq (Var v) (Var w) = eqb v w
term_eq (Var v) (Const sym) = false
term_eq (Const sym) (Var w) = false
term_eq (Const a) (Const b) = sym_eq a b

abbrev pub each_eq : List (Temporal → Bool) → List Temporal → Bool
each_eq [] [] = true
each_eq [] (g ∷ gs) = false
each_eq (p ∷ ps) [] = false
each_eq (p ∷ ps) (g ∷ gs) = p g && each_eq ps gs

abbrev pub eq_step : Temporal-F (Temporal → Bool) → Temporal-F Temporal → Bool
eq_step True True = true
eq_step False False = true
eq_step (Atom r ts) (Atom s us) = sym_eq r s && pairwise term_eq ts us
eq_step (Same a b) (Same c d) = term_eq a c && term_eq b d
eq_step (Not p) (Not g) = p g
eq_step (And ps) (And gs) = each_eq ps gs
eq_step (Or ps) (Or gs) = each_eq ps gs
eq_step (Implies p q) (Implies g h) = p g && q h
eq_step (Iff p q) (Iff g h) = p g && q h
eq_step (All s p) (All t g) = eqb s.0 t.0 && p g
eq_step (Any s p) (Any t g) = eqb s.0 t.0 && p g
eq_step (Always p) (Always g) = p g
eq_step (Eventually p) (Eventually g) = p g
eq_step _ _ = false

abbrev pub temporal_eq : Temporal → Temporal → Bool
temporal_eq = fold-Temporal (Temporal → Bool) (λ layer g. eq_step layer (out-Temporal g))
