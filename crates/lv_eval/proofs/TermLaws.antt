-- The elements that terms stand for, place by place.
use Rattle.std.proofs.Common.{◌≡◌, ℕ, zero, suc, ◌<◌, List, [], ◌∷◌, length, get_or, refl, ap, arith}
use Rattle.lv_formula.specs.declared.terms.Term.{Term}
use Rattle.lv_formula.specs.Meaning.{Meaning}
use Rattle.lv_formula.specs.Truth.{Env, value_of, values_of}

pub as_many_values : (m : Meaning) (env : Env) (ts : List Term) → length (values_of m env ts) ≡ length ts
as_many_values m env [] = refl
as_many_values m env (t ∷ ts) = ap suc (as_many_values m env ts)

pub value_at : (m : Meaning) (env : Env) (ts : List Term) (i : ℕ) (t : Term) → i < length ts → get_or (values_of m env ts) i 0 ≡ value_of m env (get_or ts i t)
value_at m env [] i t lt = absurd (omega (arith, lt))
value_at m env (x ∷ ts) zero t lt = refl
value_at m env (x ∷ ts) (suc i) t lt = value_at m env ts i t (omega (arith, lt))
