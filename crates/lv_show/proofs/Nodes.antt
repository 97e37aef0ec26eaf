-- A part of a list of temporal formulas has no more nodes than the list.
use Rattle.std.proofs.Common.{◌≡◌, ℕ, zero, suc, ◌+◌, ◌<◌, ◌≤◌, List, [], ◌∷◌, length, get_or, sym, subst, arith}
use Rattle.lv_formula.specs.declared.temporal.Temporal.{Temporal}
use Rattle.lv_formula.specs.TemporalMeasures.{temporal_nodes_of, temporal_nodes_of_all}

pub part_below : (fs : List Temporal) (i : ℕ) (f : Temporal) → i < length fs → f ≡ get_or fs i f → temporal_nodes_of f ≤ temporal_nodes_of_all fs
part_below [] i f lt e = absurd (omega (arith, lt))
part_below (g ∷ gs) zero f lt e = subst (λ x. temporal_nodes_of x ≤ temporal_nodes_of_all (g ∷ gs)) (sym e) (omega arith)
part_below (g ∷ gs) (suc i) f lt e = let le = part_below gs i f (omega (arith, lt)) e in omega (arith, le)
