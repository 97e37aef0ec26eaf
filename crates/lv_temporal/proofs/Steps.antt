-- One step: what it reads, what it leaves, and the elements that it takes.
use Rattle.std.proofs.Common.{◌≡◌, ℕ, zero, suc, ◌+◌, ◌<◌, Bool, true, false, ◌&&◌, eqb, ltb, cond, refl, sym, ap, ap₂, ◌∙◌, List, [], ◌∷◌, ◌++◌, length, get_or, reverse, arith, zero-add, add-zero}
use Rattle.std.proofs.lemmas.Bool.{and_parts, eqb-true, false_from_ne_true, false≢true, true≢false}
use Rattle.lv_formula.specs.declared.symbols.SortId.{SortId}
use Rattle.lv_formula.specs.declared.symbols.Sym.TheVariants.{Own, Param}
use Rattle.lv_formula.specs.Meaning.{Meaning, is_element}
use Rattle.lv_formula.specs.Tuples.{over}
use Rattle.lv_system.specs.declared.parts.Parts.{Parts}
use Rattle.lv_system.specs.declared.parts.Action.{Action}
use Rattle.lv_system.specs.declared.parts.ActionUpdate.{ActionUpdate}
use Rattle.lv_system.specs.declared.parts.ActionUpdate.TheVariants.{Relation, Constant}
use Rattle.lv_system.specs.Step.{set_holds, set_value, sorts_at, symbol_at}
use Rattle.lv_system.specs.Vocabularies.{own_vocabulary}
use Rattle.lv_labels.proofs.Ranges.{over_same}
use Rattle.lv_labels.specs.Monitor.{elements_in, params_in}
use Rattle.lv_temporal.specs.Walk.{beside}
use Rattle.lv_temporal.proofs.Agreement.{truth_same, value_same}
use Rattle.lv_temporal.proofs.ClosedFits.{UpdatesFit}
use Rattle.lv_temporal.proofs.SameWords.{SameOwn, own_same}

module _ (p : Parts) (m n : Meaning) (same : SameOwn m n) where
  -- what updates make of a relation depends on nothing but the own symbols
  pub set_holds_same : (params : List SortId) (es : List ℕ) (us : List ActionUpdate) → UpdatesFit p params us → (r : ℕ) (tuple : List ℕ) → set_holds p es m us r tuple ≡ set_holds p es n us r tuple
  set_holds_same params es [] u r tuple = same.relations r tuple
  set_holds_same params es (Relation i f ∷ us) u r tuple = ap₂ (λ x y. cond (eqb i r) x y)
      (ap₂ (λ x y. x && y) (over_same (is_element m) (is_element n) (λ s x. ap (λ k. ltb x k) (same.sizes s)) (sorts_at p r) tuple)
      (truth_same (own_vocabulary p) m n (own_same p m n same) f (reverse (params ++ u.0.0)) (reverse (es ++ tuple)) u.0.4))
      (set_holds_same params es us u.1 r tuple)
  set_holds_same params es (Constant i t ∷ us) u r tuple = set_holds_same params es us u.1 r tuple

  -- and so what they make of a constant
  pub set_value_same : (params : List SortId) (es : List ℕ) (us : List ActionUpdate) → UpdatesFit p params us → (c : ℕ) → set_value es m us c ≡ set_value es n us c
  set_value_same params es [] u c = same.constants c
  set_value_same params es (Relation i f ∷ us) u c = set_value_same params es us u.1 c
  set_value_same params es (Constant i t ∷ us) u c = ap₂ (λ x y. cond (eqb i c) x y)
      (value_same (own_vocabulary p) m n (own_same p m n same) (reverse params) (reverse es) t u.0.0 u.0.4)
      (set_value_same params es us u.1 c)

not_fixed : (p : Parts) (i r : ℕ) → (symbol_at p i).fixed ≡ false → (symbol_at p r).fixed ≡ true → eqb i r ≡ false
not_fixed p i r u h = false_from_ne_true (eqb i r) (λ e. true≢false (sym h ∙ (ap (λ k. (symbol_at p k).fixed) (sym (eqb-true i r e)) ∙ u)))

-- updates leave a fixed relation as it was
pub set_holds_fixed : (p : Parts) (m : Meaning) (params : List SortId) (es : List ℕ) (us : List ActionUpdate) → UpdatesFit p params us → (r : ℕ) → (symbol_at p r).fixed ≡ true → (tuple : List ℕ) → set_holds p es m us r tuple ≡ m.holds (Own r) tuple
set_holds_fixed p m params es [] u r h tuple = refl
set_holds_fixed p m params es (Relation i f ∷ us) u r h tuple = rw (not_fixed p i r u.0.3 h) (set_holds_fixed p m params es us u.1 r h tuple)
set_holds_fixed p m params es (Constant i t ∷ us) u r h tuple = set_holds_fixed p m params es us u.1 r h tuple

-- and a fixed constant
pub set_value_fixed : (p : Parts) (m : Meaning) (params : List SortId) (es : List ℕ) (us : List ActionUpdate) → UpdatesFit p params us → (c : ℕ) → (symbol_at p c).fixed ≡ true → set_value es m us c ≡ m.value (Own c)
set_value_fixed p m params es [] u c h = refl
set_value_fixed p m params es (Relation i f ∷ us) u c h = set_value_fixed p m params es us u.1 c h
set_value_fixed p m params es (Constant i t ∷ us) u c h = rw (not_fixed p i c u.0.3 h) (set_value_fixed p m params es us u.1 c h)

params_read : (m : Meaning) (k : ℕ) (ss : List SortId) (xs : List ℕ) → length xs ≡ length ss → ((i : ℕ) → m.value (Param (k + i)) ≡ get_or xs i 0) → params_in m k ss ≡ xs
params_read m k [] [] e h = refl
params_read m k [] (x ∷ xs) e h = absurd (omega (arith, e))
params_read m k (s ∷ ss) [] e h = absurd (omega (arith, e))
params_read m k (s ∷ ss) (x ∷ xs) e h = ap₂ (λ y ys. y ∷ ys) (ap (λ j. m.value (Param j)) (sym (add-zero k)) ∙ h 0) (params_read m (suc k) ss xs (omega (arith, e)) (λ i. ap (λ j. m.value (Param j)) (shift i) ∙ h (suc i)))
  where
    shift : (i : ℕ) → suc k + i ≡ k + suc i
    shift i = omega arith

-- the elements that are put beside a structure are those with which the action is taken
pub elements_beside : (m : Meaning) (a : Action) (es : List ℕ) (next : ℕ → List ℕ → Bool) → length es ≡ length a.params → elements_in (beside m es next) a ≡ es
elements_beside m a es next e = params_read (beside m es next) 0 a.params es e (λ i. ap (λ j. get_or es j 0) (zero-add i))

-- an element of a tuple is in the set of its place
pub over_at : (set : SortId → ℕ → Bool) (ss : List SortId) (es : List ℕ) (d : SortId) (k : ℕ) → over set ss es ≡ true → k < length ss → set (get_or ss k d) (get_or es k 0) ≡ true
over_at set [] es d k h l = absurd (omega arith)
over_at set (s ∷ ss) [] d k h l = absurd (false≢true h)
over_at set (s ∷ ss) (e ∷ es) d zero h l = (and_parts (set s e) (over set ss es) h).0
over_at set (s ∷ ss) (e ∷ es) d (suc k) h l = over_at set ss es d k (and_parts (set s e) (over set ss es) h).1 (omega arith)
