-- How many obligations a system has.
use Rattle.std.proofs.Common.{◌≡◌, ℕ, suc, ◌+◌, ◌*◌, List, [], ◌∷◌, ◌++◌, length, refl, sym, ap, ap₂, ◌∙◌, arith}
use Rattle.std.proofs.Math.Nat.{suc-mul, zero-mul}
use Rattle.std.proofs.lemmas.List.{length-append}
use Rattle.lv_system.specs.declared.parts.Parts.{Parts}
use Rattle.lv_system.specs.declared.parts.Action.{Action}
use Rattle.lv_system.specs.declared.parts.Invariant.{Invariant}
use Rattle.lv_labels.specs.declared.moves.Move.{Move}
use Rattle.lv_labels.specs.declared.moves.Move.TheVariants.{Stay, Freeze, Save}
use Rattle.lv_labels.specs.declared.which.Which.TheVariants.{Catch}
use Rattle.lv_labels.specs.Obligations.{obligations_of, starts_from, steps_from, steps_of_move}

pub length-starts : (n : ℕ) (is : List Invariant) → length (starts_from n is) ≡ length is
length-starts n [] = refl
length-starts n (i ∷ is) = ap suc (length-starts (suc n) is)

pub length-moves : (a : ℕ) (mv : Move) (n : ℕ) (is : List Invariant) → length (steps_of_move a mv n is) ≡ length is
length-moves a mv n [] = refl
length-moves a mv n (i ∷ is) = ap suc (length-moves a mv (suc n) is)

length-steps : (is : List Invariant) (n : ℕ) (as' : List Action) → length (steps_from is n as') ≡ length as' * (3 * length is)
length-steps is n [] = sym (zero-mul (3 * length is))
length-steps is n (a ∷ as') =
    length-append (steps_of_move n Stay 0 is) _
    ∙ ap₂ (λ x y. x + y) (length-moves n Stay 0 is) (length-append (steps_of_move n Freeze 0 is) _
    ∙ ap₂ (λ x y. x + y) (length-moves n Freeze 0 is) (length-append (steps_of_move n Save 0 is) (steps_from is (suc n) as')
    ∙ ap₂ (λ x y. x + y) (length-moves n Save 0 is) (length-steps is (suc n) as')))
    ∙ sum (length is) (length as' * (3 * length is)) ∙ sym (suc-mul (length as') (3 * length is))
  where
    sum : (i r : ℕ) → i + (i + (i + r)) ≡ r + 3 * i
    sum i r = omega arith

-- one start for each invariant, three steps for each action and invariant, and the catch
pub number : (p : Parts) → length (obligations_of p) ≡ length p.invariants + length p.actions * (3 * length p.invariants) + 1
number p =
    length-append (starts_from 0 p.invariants) (steps_from p.invariants 0 p.actions ++ Catch ∷ [])
    ∙ ap₂ (λ x y. x + y) (length-starts 0 p.invariants) (length-append (steps_from p.invariants 0 p.actions) (Catch ∷ []) ∙ ap (λ x. x + 1) (length-steps p.invariants 0 p.actions))
    ∙ omega arith
