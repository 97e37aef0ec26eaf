-- A lasso run that violates the property, unrolled, with the true tables of the labels and chosen witnesses.
use Rattle.std.specs.Prelude.{◌≡◌, ℕ, zero, suc, ◌<◌, ◌≤◌, ◌+◌, Bool, false, ◌&&◌, eqb, ltb, cond, List, [], ◌∷◌, length, get_or, reverse}
use Rattle.lv_formula.specs.declared.temporal.Temporal.TheVariants.{True, Always}
use Rattle.lv_formula.specs.Meaning.{in_range}
use Rattle.lv_system.specs.declared.parts.Parts.{Parts}
use Rattle.lv_system.specs.declared.parts.WitnessDecl.{WitnessDecl}
use Rattle.lv_system.specs.Lasso.{IsFair, IsLassoRun, Stop, lasso_of}
use Rattle.lv_system.specs.TemporalTruth.{Lasso, holds, next_of}
use Rattle.lv_labels.specs.declared.key.Key.{Key}
use Rattle.lv_labels.specs.Labels.{labels_of}
pub use Rattle.lv_labels.specs.Labels.{no_key}
use Rattle.lv_labels.specs.Positions.{Position, run_of}
use Rattle.lv_labels.specs.Problem.{problem_of}
use Rattle.lv_labels.specs.Rounds.{IsRound}
use Rattle.lv_labels.specs.Runs.{IsLabelledRun}

abbrev pub key_at : Parts → ℕ → Key
key_at p l = get_or (labels_of p) l no_key

abbrev pub no_witness : WitnessDecl
no_witness = record { name = []; sort = record { 0 = 0 }; formula = True }

abbrev pub witness_at : Parts → ℕ → WitnessDecl
witness_at p k = get_or p.witnesses k no_witness

-- where the i-th position of the unrolled run lies on the lasso
abbrev pub position_on : Lasso → ℕ → ℕ
position_on l zero = 0
position_on l (suc i) = next_of l (position_on l i)

-- the greatest number below n that passes the test, or 0
abbrev pub pick : ℕ → (ℕ → Bool) → ℕ
pick zero test = 0
pick (suc n) test = cond (test n) n (pick n test)

-- elements for the first n witnesses, in order of declaration: each meets its formula at the start if any element does
unfoldable pub chosen : Parts → Lasso → ℕ → ℕ → ℕ
chosen p l zero = λ k. 0
chosen p l (suc n) = λ k. cond (eqb k n) (pick ((l.state 0).size (witness_at p n).sort) (λ x. holds l (chosen p l n) (witness_at p n).formula 0 (x ∷ []))) (chosen p l n k)

-- the true table of each label at a position of the lasso
abbrev pub true_table : Parts → Lasso → (ℕ → ℕ) → ℕ → ℕ → List ℕ → Bool
true_table p l witnesses i n tuple = ltb n (length (labels_of p)) && (in_range (l.state i) (key_at p n).sorts tuple && holds l witnesses (Always (key_at p n).inner) i (reverse tuple))

-- the list of what the function gives below n
abbrev pub listed : {X : Type 0} → ℕ → (ℕ → X) → List X
listed zero f = []
listed (suc n) f = f 0 ∷ listed n (λ i. f (suc i))

abbrev pub position_of : Parts → Lasso → (ℕ → ℕ) → ℕ → Position
position_of p l witnesses i = record { state = l.state i; labels = true_table p l witnesses i; action = l.action i; elements = l.elements i }

abbrev pub chosen_witnesses : Parts → Lasso → List ℕ
chosen_witnesses p l = listed (length p.witnesses) (chosen p l (length p.witnesses))

-- the lasso unrolled to so many steps
abbrev pub unrolled : Parts → Lasso → ℕ → List Position
unrolled p l last = listed (suc last) (λ i. position_of p l (chosen p l (length p.witnesses)) (position_on l i))

-- unrolled to any length, a violating lasso run is a labelled run, and each turn of a fair loop is a round
pub record TrueLabels (p : Parts) : Type 0 where
  pub labelled : (stem loop : List Stop) → 0 < length loop → IsLassoRun p (lasso_of stem loop) → holds (lasso_of stem loop) (λ k. 0) p.property 0 [] ≡ false
      → (last : ℕ) → IsLabelledRun (problem_of p) (run_of (chosen_witnesses p (lasso_of stem loop)) (unrolled p (lasso_of stem loop) last))
  pub rounds : (stem loop : List Stop) → 0 < length loop → IsLassoRun p (lasso_of stem loop) → IsFair p (lasso_of stem loop)
      → (last i : ℕ) → length stem ≤ i → i + length loop ≤ last → IsRound (problem_of p) (run_of (chosen_witnesses p (lasso_of stem loop)) (unrolled p (lasso_of stem loop) last)) i (i + length loop)
