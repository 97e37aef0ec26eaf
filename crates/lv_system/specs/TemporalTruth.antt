-- Lassos, and the truth of a temporal formula on them.
use Rattle.std.specs.Prelude.{ℕ, zero, suc, ◌+◌, ◌-◌, min, Bool, true, false, not, ◌&&◌, ◌||◌, eqb, leb, cond, List, [], ◌∷◌}
use Rattle.lv_formula.specs.declared.symbols.Sym.{Sym}
use Rattle.lv_formula.specs.declared.symbols.Sym.TheVariants.{Witness}
use Rattle.lv_formula.specs.declared.temporal.Temporal.{Temporal}
use Rattle.lv_formula.specs.declared.temporal.Temporal.TheOpen.{Temporal-F, True, False, Atom, Same, Not, And, Or, Implies, Iff, All, Any, Always, Eventually}
use Rattle.lv_formula.specs.declared.temporal.Temporal.TheFolds.{fold-Temporal}
use Rattle.lv_formula.specs.Meaning.{Meaning}
use Rattle.lv_formula.specs.Truth.{Env, value_of, values_of, all_below, any_below, iff}

-- A lasso as functions of the position: positions 0 to stem - 1 are the stem, and the loop has one position and
-- so many further ones. At each position stand its structure, and the step that leads on with its elements.
pub record Lasso : Type 0 where
  pub stem : ℕ
  pub further : ℕ
  pub state : ℕ → Meaning
  pub action : ℕ → ℕ
  pub elements : ℕ → List ℕ

-- the loop's last position
abbrev pub end_of : Lasso → ℕ
end_of l = l.stem + l.further

-- the position after this one: behind the loop's last stands its first
abbrev pub next_of : Lasso → ℕ → ℕ
next_of l i = cond (eqb i (end_of l)) l.stem (suc i)

-- the test passes at each later position: from i on where i is in the stem, everywhere in the loop where it is there
abbrev pub at_each_later : Lasso → ℕ → (ℕ → Bool) → Bool
at_each_later l i test = all_below (suc (end_of l)) (λ j. not (leb (min i l.stem) j) || test j)

abbrev pub value_with : Meaning → (ℕ → ℕ) → Sym → ℕ
value_with m witnesses (Witness k) = witnesses k
value_with m witnesses sym = m.value sym

-- the structure with these elements for the witnesses
abbrev pub with_witnesses : Meaning → (ℕ → ℕ) → Meaning
with_witnesses m witnesses = record { size = m.size; holds = m.holds; value = value_with m witnesses }

abbrev pub all_hold : List (ℕ → Env → Bool) → ℕ → Env → Bool
all_hold [] i env = true
all_hold (f ∷ fs) i env = f i env && all_hold fs i env

abbrev pub any_holds : List (ℕ → Env → Bool) → ℕ → Env → Bool
any_holds [] i env = false
any_holds (f ∷ fs) i env = f i env || any_holds fs i env

abbrev pub holds_step : Lasso → (ℕ → ℕ) → Temporal-F (ℕ → Env → Bool) → ℕ → Env → Bool
holds_step l witnesses True i env = true
holds_step l witnesses False i env = false
holds_step l witnesses (Atom sym terms) i env = (l.state i).holds sym (values_of (with_witnesses (l.state i) witnesses) env terms)
holds_step l witnesses (Same a b) i env = eqb (value_of (with_witnesses (l.state i) witnesses) env a) (value_of (with_witnesses (l.state i) witnesses) env b)
holds_step l witnesses (Not f) i env = not (f i env)
holds_step l witnesses (And fs) i env = all_hold fs i env
holds_step l witnesses (Or fs) i env = any_holds fs i env
holds_step l witnesses (Implies f g) i env = not (f i env) || g i env
holds_step l witnesses (Iff f g) i env = iff (f i env) (g i env)
holds_step l witnesses (All sort f) i env = all_below ((l.state i).size sort) (λ x. f i (x ∷ env))
holds_step l witnesses (Any sort f) i env = any_below ((l.state i).size sort) (λ x. f i (x ∷ env))
holds_step l witnesses (Always f) i env = at_each_later l i (λ j. f j env)
holds_step l witnesses (Eventually f) i env = not (at_each_later l i (λ j. not (f j env)))

-- the temporal formula holds at a position of the lasso, with these elements for the witnesses and the variables
abbrev pub holds : Lasso → (ℕ → ℕ) → Temporal → ℕ → Env → Bool
holds l witnesses = fold-Temporal (ℕ → Env → Bool) (holds_step l witnesses)
