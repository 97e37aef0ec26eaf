-- Counting up to a bound.
use Rattle.std.proofs.Common.{◌≡◌, ℕ, zero, suc, ◌+◌, ◌-◌, ◌*◌, ◌<◌, ◌≤◌, min, max, List, ◌∷◌, refl, sym, ap, ap₂, ◌∙◌, arith, add-one}
use Rattle.std.proofs.lemmas.Bool.{cases_lt}
use Rattle.std.proofs.Math.Nat.{mul-le-mul}
use Rattle.lv_formula.specs.declared.symbols.SortId.{SortId}
use Rattle.lv_places.specs.Forms.{Form, Yes, No, Lit, And, Or, All, Any, turned}
use Rattle.lv_places.specs.Universes.{product}
use Rattle.lv_places.specs.Sizes.{form_nodes, sort_count, sum_to, at_least_one}
use Rattle.lv_skolem.specs.Counting.{capped}
use Rattle.lv_places.proofs.Tests.{either}

pub nodes_turned : (n : SortId → ℕ) (f : Form) → form_nodes n (turned f) ≡ form_nodes n f
nodes_turned n Yes = refl
nodes_turned n No = refl
nodes_turned n (Lit b a) = refl
nodes_turned n (And fs) = refl
nodes_turned n (Or fs) = refl
nodes_turned n (All s f) = refl
nodes_turned n (Any s f) = refl

pub capped_small : (n : ℕ) → capped n ≤ 4000001
capped_small n = omega arith

pub capped_next : (n : ℕ) → capped (1 + capped n) ≡ capped (suc n)
capped_next n = omega arith

pub capped_sum : (a b c : ℕ) → capped (capped (a + capped b) + c) ≡ capped (a + (b + c))
capped_sum a b c = omega arith

pub capped_others : (a b : ℕ) → capped (min a 4000001 + capped b) ≡ capped (a + b)
capped_others a b = omega arith

capped_large : (a b : ℕ) → 4000001 ≤ a → 0 < b → capped (a * b) ≡ 4000001
capped_large a b l p = let m : 4000001 * 1 ≤ a * b = mul-le-mul l p in omega arith

pub capped_both : (a b : ℕ) → capped (capped a * capped b) ≡ capped (a * b)
capped_both a zero = let x : a * 0 ≡ 0 = omega arith in let y : capped a * 0 ≡ 0 = omega arith in ap capped (y ∙ sym x)
capped_both zero (suc b) = let x : 0 * suc b ≡ 0 = omega arith in let y : 0 * capped (suc b) ≡ 0 = omega arith in ap capped (y ∙ sym x)
capped_both (suc a) (suc b) =
    either (cases_lt (suc a) 4000001)
    (λ la. let ea : capped (suc a) ≡ suc a = omega arith in
    either (cases_lt (suc b) 4000001)
    (λ lb. let eb : capped (suc b) ≡ suc b = omega arith in ap capped (ap₂ (λ x y. x * y) ea eb))
    (λ gb. let eb : capped (suc b) ≡ 4000001 = omega arith in
    let one : capped (4000001 * suc a) ≡ 4000001 = capped_large 4000001 (suc a) (omega arith) (omega arith) in
    let two : capped (suc b * suc a) ≡ 4000001 = capped_large (suc b) (suc a) gb (omega arith) in
    let z1 : capped (suc a) * capped (suc b) ≡ 4000001 * suc a = ap₂ (λ x y. x * y) ea eb ∙ omega arith in
    let z2 : suc b * suc a ≡ suc a * suc b = omega arith in
    ap capped z1 ∙ one ∙ sym two ∙ ap capped z2))
    (λ ga. let ea : capped (suc a) ≡ 4000001 = omega arith in
    let pb : 0 < capped (suc b) = omega arith in
    let one = capped_large 4000001 (capped (suc b)) (omega arith) pb in
    let two = capped_large (suc a) (suc b) ga (omega arith) in
    ap (λ x. capped (x * capped (suc b))) ea ∙ one ∙ sym two)

pub capped_product : (n : SortId → ℕ) (s : SortId) (ss : List SortId) → capped (capped (n s) * capped (product n ss)) ≡ capped (product n (s ∷ ss))
capped_product n s ss = capped_both (n s) (product n ss)

pub capped_each : (a b : ℕ) → capped (1 + capped (capped a * capped b)) ≡ capped (suc (a * b))
capped_each a b = ap (λ x. capped (1 + x)) (capped_both a b) ∙ capped_next (a * b)

sort_sum : (x y z : ℕ) → capped (capped x + capped (capped y + capped z)) ≡ capped (x + (y + z))
sort_sum x y z = omega arith

pub capped_sort : (n : ℕ) → capped (capped n + capped (capped (capped n * capped (n - 1)) + capped (capped n * capped (capped (n - 1) * capped (n - 2)))))
    ≡ capped (sort_count n)
capped_sort n =
    let a = capped_both n (n - 1) in
    let b = capped_both (n - 1) (n - 2) in
    let c = ap (λ x. capped (capped n * x)) b ∙ capped_both n ((n - 1) * (n - 2)) in
    ap₂ (λ x y. capped (capped n + capped (x + y))) a c ∙ sort_sum n (n * (n - 1)) (n * ((n - 1) * (n - 2)))

pub capped_all : (f s r p : ℕ) → capped (capped f + capped (capped s + capped (capped r + capped p))) ≡ capped (f + (s + (r + p)))
capped_all f s r p = omega arith

sum_both : (a b : ℕ) → capped (capped a + capped b) ≡ capped (a + b)
sum_both a b = omega arith

-- the last of a sum
sum_to_last : (k n : ℕ) (f : ℕ → ℕ) → sum_to k (suc n) f ≡ sum_to k n f + f (k + n)
sum_to_last k zero f = let z : k + 0 ≡ k = omega arith in let e = ap f z in omega arith
sum_to_last k (suc n) f = let z : suc k + n ≡ k + suc n = omega arith in let e = ap f z in let r = sum_to_last (suc k) n f in omega arith

pub sum_next : (n : ℕ) (f : ℕ → ℕ) → capped (capped (sum_to 0 n f) + capped (f n)) ≡ capped (sum_to 0 (n + 1) f)
sum_next n f =
    let e = sum_to_last 0 n f in
    let z : f (0 + n) ≡ f n = (let y : 0 + n ≡ n = omega arith in ap f y) in
    let w : sum_to 0 (n + 1) f ≡ sum_to 0 (suc n) f = rw add-one refl in
    let t : sum_to 0 (n + 1) f ≡ sum_to 0 n f + f n = w ∙ e ∙ ap (λ x. sum_to 0 n f + x) z in
    sum_both (sum_to 0 n f) (f n) ∙ ap capped (sym t)

pub capped_more : (a b : ℕ) → capped (capped (a + 1) + b) ≡ capped (a + suc b)
capped_more a b = omega arith

one_at_least : (a : ℕ) → max (capped a) 1 ≡ capped (at_least_one a)
one_at_least zero = refl
one_at_least (suc a) = omega arith

pub capped_number : (a b : ℕ) → max (capped (capped a + capped b)) 1 ≡ capped (at_least_one (a + b))
capped_number a b = ap (λ x. max x 1) (sum_both a b) ∙ one_at_least (a + b)
