-- The number of an obligation in its list.
use Rattle.std.proofs.Common.{◌≡◌, ℕ, zero, suc, ◌+◌, ◌*◌, ◌-◌, ◌<◌, ◌≤◌, true, List, [], ◌∷◌, ◌++◌, length, get_or, drop, take, sym, ap, ◌∙◌, arith}
use Rattle.std.proofs.lemmas.List.{append_assoc, get_or-append_right}
use Rattle.std.proofs.Math.Nat.{mul-le-mul_left}
use Rattle.lv_system.specs.declared.parts.Parts.{Parts}
use Rattle.lv_system.specs.declared.parts.Action.{Action}
use Rattle.lv_system.specs.declared.parts.Invariant.{Invariant}
use Rattle.lv_system.specs.Fits.{fits_parts}
use Rattle.lv_system.proofs.FitsFacts.{fitting}
use Rattle.lv_labels.specs.declared.moves.Move.{Move}
use Rattle.lv_labels.specs.declared.moves.Move.TheVariants.{Stay, Freeze, Save}
use Rattle.lv_labels.specs.declared.which.Which.{Which}
use Rattle.lv_labels.specs.declared.which.Which.TheVariants.{Start, Step, Catch}
use Rattle.lv_labels.specs.Obligations.{obligations_of, starts_from, steps_from, steps_of_move}
use Rattle.lv_labels.specs.Problem.{problem_of}
use Rattle.lv_oblig.specs.Numbers.{IsBelow, IsThere, from_action}
use Rattle.std.proofs.Math.Seq.{take-length}
use Rattle.lv_temporal.proofs.Order.{length-moves, length-starts}
use Rattle.lv_temporal.proofs.Order.{number}

pub few_invariants : (p : Parts) → fits_parts p ≡ true → length p.invariants ≤ 256
few_invariants p h = (fitting p h).few.invariants

pub few_actions : (p : Parts) → fits_parts p ≡ true → length p.actions ≤ 32
few_actions p h = (fitting p h).few.actions

pub few_obligations : (p : Parts) → fits_parts p ≡ true → length p.actions * (3 * length p.invariants) ≤ 24576
few_obligations p h =
    let few : length p.invariants ≤ 256 = few_invariants p h in
    let wide : 3 * length p.invariants ≤ 768 = omega (arith, few) in
    let first : length p.actions * (3 * length p.invariants) ≤ length p.actions * 768 = mul-le-mul_left (length p.actions) wide in
    let acts : length p.actions ≤ 32 = few_actions p h in
    omega (arith, first, acts)

pub number_is : (p : Parts) → length (obligations_of p) ≡ length p.invariants + length p.actions * (3 * length p.invariants) + 1
number_is = number

start_here : (n : ℕ) (is : List Invariant) (rest : List Which) (i : ℕ) → i < length is → get_or (starts_from n is ++ rest) i Catch ≡ Start (n + i)
start_here n [] rest i l = absurd (omega (arith, l))
start_here n (x ∷ xs) rest zero l = let here : n ≡ n + 0 = omega arith in ap Start here
start_here n (x ∷ xs) rest (suc i) l = let there : suc n + i ≡ n + suc i = omega arith in start_here (suc n) xs rest i (omega (arith, l)) ∙ ap Start there

move_here : (a : ℕ) (mv : Move) (n : ℕ) (is : List Invariant) (rest : List Which) (i : ℕ) → i < length is → get_or (steps_of_move a mv n is ++ rest) i Catch ≡ Step a mv (n + i)
move_here a mv n [] rest i l = absurd (omega (arith, l))
move_here a mv n (x ∷ xs) rest zero l = let here : n ≡ n + 0 = omega arith in ap (Step a mv) here
move_here a mv n (x ∷ xs) rest (suc i) l = let there : suc n + i ≡ n + suc i = omega arith in move_here a mv (suc n) xs rest i (omega (arith, l)) ∙ ap (Step a mv) there

move_first : (a : ℕ) (mv : Move) (is : List Invariant) (rest : List Which) (i : ℕ) → i < length is → get_or (steps_of_move a mv 0 is ++ rest) i Catch ≡ Step a mv i
move_first a mv is rest i l = let z : 0 + i ≡ i = omega arith in move_here a mv 0 is rest i l ∙ ap (Step a mv) z

move_past : (a : ℕ) (mv : Move) (is : List Invariant) (rest : List Which) (i : ℕ) → length is ≤ i → get_or (steps_of_move a mv 0 is ++ rest) i Catch ≡ get_or rest (i - length is) Catch
move_past a mv is rest i l = get_or-append_right (steps_of_move a mv 0 is) rest (length is) i Catch (length-moves a mv 0 is) l

pub start_at : (p : Parts) (i : ℕ) → i < length p.invariants → get_or (obligations_of p) i Catch ≡ Start i
start_at p i l = let z : 0 + i ≡ i = omega arith in start_here 0 p.invariants (from_action p.invariants 0 p.actions) i l ∙ ap Start z

pub past_starts : (p : Parts) (i : ℕ) → length p.invariants ≤ i → get_or (obligations_of p) i Catch ≡ get_or (from_action p.invariants 0 p.actions) (i - length p.invariants) Catch
past_starts p i l = get_or-append_right (starts_from 0 p.invariants) (from_action p.invariants 0 p.actions) (length p.invariants) i Catch (length-starts 0 p.invariants) l

module _ (is : List Invariant) (n : ℕ) (a : Action) (as' : List Action) where
  abbrev frozen : List Which
  frozen = steps_of_move n Freeze 0 is ++ (steps_of_move n Save 0 is ++ (steps_from is (suc n) as' ++ Catch ∷ []))

  abbrev saved : List Which
  saved = steps_of_move n Save 0 is ++ (steps_from is (suc n) as' ++ Catch ∷ [])

  nested : from_action is n (a ∷ as') ≡ steps_of_move n Stay 0 is ++ frozen
  nested = append_assoc (steps_of_move n Stay 0 is) (steps_of_move n Freeze 0 is ++ (steps_of_move n Save 0 is ++ steps_from is (suc n) as')) (Catch ∷ [])
      ∙ ap (λ ws. steps_of_move n Stay 0 is ++ ws) (append_assoc (steps_of_move n Freeze 0 is) (steps_of_move n Save 0 is ++ steps_from is (suc n) as') (Catch ∷ [])
      ∙ ap (λ ws. steps_of_move n Freeze 0 is ++ ws) (append_assoc (steps_of_move n Save 0 is) (steps_from is (suc n) as') (Catch ∷ [])))

  pub stay_at : (i : ℕ) → i < length is → get_or (from_action is n (a ∷ as')) i Catch ≡ Step n Stay i
  stay_at i l = ap (λ ws. get_or ws i Catch) nested ∙ move_first n Stay is frozen i l

  past_stay : (i : ℕ) → length is ≤ i → get_or (from_action is n (a ∷ as')) i Catch ≡ get_or frozen (i - length is) Catch
  past_stay i l = ap (λ ws. get_or ws i Catch) nested ∙ move_past n Stay is frozen i l

  pub freeze_at : (i : ℕ) → length is ≤ i → i - length is < length is → get_or (from_action is n (a ∷ as')) i Catch ≡ Step n Freeze (i - length is)
  freeze_at i l k = past_stay i l ∙ move_first n Freeze is saved (i - length is) k

  pub save_at : (i : ℕ) → length is ≤ i → length is ≤ i - length is → i - length is - length is < length is → get_or (from_action is n (a ∷ as')) i Catch ≡ Step n Save (i - length is - length is)
  save_at i l k j = past_stay i l ∙ move_past n Freeze is saved (i - length is) k ∙ move_first n Save is (from_action is (suc n) as') (i - length is - length is) j

  pub rest_at : (i : ℕ) → length is ≤ i → length is ≤ i - length is → length is ≤ i - length is - length is
      → get_or (from_action is n (a ∷ as')) i Catch ≡ get_or (from_action is (suc n) as') (i - length is - length is - length is) Catch
  rest_at i l k j = past_stay i l ∙ move_past n Freeze is saved (i - length is) k ∙ move_past n Save is (from_action is (suc n) as') (i - length is - length is) j

pub there : (p : Parts) (w : Which) → IsBelow (0 + length p.actions) w → IsThere (problem_of p) w
there p (Start i) h = tt
there p (Step a mv i) h = omega (arith, h)
there p Catch h = tt

-- the same of a list of actions that isn't empty
pub stay_of : (is : List Invariant) (n : ℕ) (as' : List Action) (i : ℕ) → 1 ≤ length as' → i < length is → get_or (from_action is n as') i Catch ≡ Step n Stay i
stay_of is n [] i some l = absurd (omega (arith, some))
stay_of is n (a ∷ as') i some l = stay_at is n a as' i l

pub freeze_of : (is : List Invariant) (n : ℕ) (as' : List Action) (i : ℕ) → 1 ≤ length as' → length is ≤ i → i - length is < length is → get_or (from_action is n as') i Catch ≡ Step n Freeze (i - length is)
freeze_of is n [] i some l k = absurd (omega (arith, some))
freeze_of is n (a ∷ as') i some l k = freeze_at is n a as' i l k

pub save_of : (is : List Invariant) (n : ℕ) (as' : List Action) (i : ℕ) → 1 ≤ length as' → length is ≤ i → length is ≤ i - length is → i - length is - length is < length is
    → get_or (from_action is n as') i Catch ≡ Step n Save (i - length is - length is)
save_of is n [] i some l k j = absurd (omega (arith, some))
save_of is n (a ∷ as') i some l k j = save_at is n a as' i l k j

pub rest_of : (is : List Invariant) (n : ℕ) (as' : List Action) (i : ℕ) → 1 ≤ length as' → length is ≤ i → length is ≤ i - length is → length is ≤ i - length is - length is
    → get_or (from_action is n as') i Catch ≡ get_or (from_action is (n + 1) (take (length as' - 1) (drop 1 as'))) (i - length is - length is - length is) Catch
rest_of is n [] i some l k j = absurd (omega (arith, some))
rest_of is n (a ∷ as') i some l k j =
    let next : suc n ≡ n + 1 = omega arith in
    let long : length as' ≡ suc (length as') - 1 = omega arith in
    rest_at is n a as' i l k j ∙ ap (λ x. get_or (from_action is x as') (i - length is - length is - length is) Catch) next
    ∙ ap (λ bs. get_or (from_action is (n + 1) bs) (i - length is - length is - length is) Catch) (sym (take-length as') ∙ ap (λ m. take m as') long)
