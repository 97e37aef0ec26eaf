-- The truth of a temporal formula at all positions of a lasso at once: one truth value for each position, in order.
use Rattle.std.specs.Prelude.{ℕ, zero, suc, min, Bool, true, false, not, ◌&&◌, ◌||◌, eqb, List, [], ◌∷◌, map, drop, get_or}
use Rattle.lv_formula.specs.declared.symbols.Sym.{Sym}
use Rattle.lv_formula.specs.declared.terms.Term.{Term}
use Rattle.lv_formula.specs.declared.temporal.Temporal.{Temporal}
use Rattle.lv_formula.specs.declared.temporal.Temporal.TheOpen.{Temporal-F, True, False, Atom, Same, Not, And, Or, Implies, Iff, All, Any, Always, Eventually}
use Rattle.lv_formula.specs.declared.temporal.Temporal.TheFolds.{fold-Temporal}
use Rattle.lv_formula.specs.Meaning.{Meaning}
use Rattle.lv_formula.specs.Truth.{Env, value_of, values_of, iff}
use Rattle.lv_system.specs.Lasso.{no_stop}
use Rattle.lv_system.specs.TemporalTruth.{with_witnesses}
use Rattle.lv_replay.specs.declared.joins.Join.{Join}
use Rattle.lv_replay.specs.declared.joins.Join.TheVariants as J

abbrev pub join : Join → Bool → Bool → Bool
join J.And a b = a && b
join J.Or a b = a || b
join J.Implies a b = not a || b
join J.Iff a b = iff a b

-- position by position
abbrev pub joined : Join → List Bool → List Bool → List Bool
joined how [] bs = []
joined how (a ∷ as') [] = []
joined how (a ∷ as') (b ∷ bs) = join how a b ∷ joined how as' bs

-- the row with those of the formulas joined to it, one after the other
abbrev pub joined_all : Join → List Bool → List (Env → List Bool) → Env → List Bool
joined_all how row [] env = row
joined_all how row (f ∷ fs) env = joined_all how (joined how row (f env)) fs env

-- the row with those of the formula joined to it, whose innermost variable is each number below n
abbrev pub joined_below : Join → List Bool → ℕ → (Env → List Bool) → Env → List Bool
joined_below how row zero f env = row
joined_below how row (suc n) f env = joined how (joined_below how row n f env) (f (n ∷ env))

abbrev pub are_true : List Bool → Bool
are_true [] = true
are_true (b ∷ bs) = b && are_true bs

-- for each position from n on, whether the row is true at each later one
abbrev pub later_from : ℕ → List Bool → ℕ → List Bool → List Bool
later_from stem row n [] = []
later_from stem row n (b ∷ bs) = are_true (drop (min n stem) row) ∷ later_from stem row (suc n) bs

abbrev pub later : ℕ → List Bool → List Bool
later stem row = later_from stem row 0 row

-- no temporal formula of a property has a witness; there it is element 0
abbrev pub plain : Meaning → Meaning
plain m = with_witnesses m (λ k. 0)

abbrev pub first_state : List Meaning → Meaning
first_state ms = get_or ms 0 no_stop.state

abbrev pub each_true : List Meaning → List Bool
each_true ms = map (λ m. true) ms

abbrev pub each_false : List Meaning → List Bool
each_false ms = map (λ m. false) ms

abbrev pub has_terms : Sym → List Term → Env → Meaning → Bool
has_terms sym terms env m = m.holds sym (values_of (plain m) env terms)

abbrev pub row_step : List Meaning → ℕ → Temporal-F (Env → List Bool) → Env → List Bool
row_step ms stem True env = each_true ms
row_step ms stem False env = each_false ms
row_step ms stem (Atom sym terms) env = map (has_terms sym terms env) ms
row_step ms stem (Same a b) env = map (λ m. eqb (value_of (plain m) env a) (value_of (plain m) env b)) ms
row_step ms stem (Not f) env = map not (f env)
row_step ms stem (And fs) env = joined_all J.And (each_true ms) fs env
row_step ms stem (Or fs) env = joined_all J.Or (each_false ms) fs env
row_step ms stem (Implies f g) env = joined J.Implies (f env) (g env)
row_step ms stem (Iff f g) env = joined J.Iff (f env) (g env)
row_step ms stem (All sort f) env = joined_below J.And (each_true ms) ((first_state ms).size sort) f env
row_step ms stem (Any sort f) env = joined_below J.Or (each_false ms) ((first_state ms).size sort) f env
row_step ms stem (Always f) env = later stem (f env)
row_step ms stem (Eventually f) env = map not (later stem (map not (f env)))

-- the states of the stem and of the loop, and where the loop begins
abbrev pub row_of : List Meaning → ℕ → Temporal → Env → List Bool
row_of ms stem = fold-Temporal (Env → List Bool) (row_step ms stem)
