-- More terms make the size no smaller, and a sort with too many terms makes it too large.
use Rattle.std.proofs.Common.{◌≡◌, ℕ, zero, suc, ◌+◌, ◌-◌, ◌*◌, ◌<◌, ◌≤◌, List, [], ◌∷◌, Some, Option, None, ap, sym, ◌∙◌, subst, arith}
use Rattle.std.proofs.lemmas.Bool.{cases_eq, cases_lt}
use Rattle.std.proofs.Math.Nat.{mul-le-mul}
use Rattle.lv_formula.specs.declared.symbols.SortId.{SortId}
use Rattle.lv_formula.specs.declared.vocabulary.RelShape.{RelShape}
use Rattle.lv_formula.specs.declared.vocabulary.Sentences.{Sentences}
use Rattle.lv_formula.specs.declared.vocabulary.Vocabulary.{Vocabulary}
use Rattle.lv_places.specs.declared.skolem.Place.{Place}
use Rattle.lv_places.specs.declared.skolem.Skolem.{Skolem}
use Rattle.lv_places.specs.Forms.{Form, Yes, No, Lit, And, Or, All, Any, Forms, Nil, Cons, forms_of}
use Rattle.lv_places.specs.Universes.{argument_sorts}
use Rattle.lv_places.specs.Sizes.{form_nodes, forms_nodes, sort_count, others, replacement_count, sum_to, relations_count, places_count, size_of, IsCount, limit, SizeIs, IsWithin}
use Rattle.lv_skolem.specs.Counting.{capped, IsLarge, IsLeast, CountsAre}
use Rattle.lv_skolem.specs.Skolems.{IsSkolem, SizeUnless}
use Rattle.lv_places.proofs.Tests.{either}
use Rattle.lv_skolem.proofs.Counts.{few_terms}
use Rattle.lv_skolem.proofs.Rising.{product_rises}

sorts_rise : (a b : ℕ) → a ≤ b → sort_count a ≤ sort_count b
sorts_rise a b l =
    let one : a - 1 ≤ b - 1 = omega arith in
    let two : a - 2 ≤ b - 2 = omega arith in
    let x : a * (a - 1) ≤ b * (b - 1) = mul-le-mul l one in
    let y : (a - 1) * (a - 2) ≤ (b - 1) * (b - 2) = mul-le-mul one two in
    let z : a * ((a - 1) * (a - 2)) ≤ b * ((b - 1) * (b - 2)) = mul-le-mul l y in
    omega arith

sum_rises : (k n : ℕ) (f g : ℕ → ℕ) → ((i : ℕ) → f i ≤ g i) → sum_to k n f ≤ sum_to k n g
sum_rises k zero f g h = omega arith
sum_rises k (suc n) f g h = let r = sum_rises (suc k) n f g h in omega (arith, h k, r)

sum_at_least : (k n i : ℕ) (f : ℕ → ℕ) → k ≤ i → i < k + n → f i ≤ sum_to k n f
sum_at_least k zero i f lo hi = absurd (omega arith)
sum_at_least k (suc n) i f lo hi =
    either (cases_eq i k)
    (λ e. let z = ap f e in omega arith)
    (λ ne. let r = sum_at_least (suc k) n i f (omega arith) (omega arith) in omega arith)

module _ (n m : SortId → ℕ) (h : (s : SortId) → n s ≤ m s) where
  mutual
    nodes_rise : (f : Form) → form_nodes n f ≤ form_nodes m f
    nodes_rise Yes = omega arith
    nodes_rise No = omega arith
    nodes_rise (Lit b a) = omega arith
    nodes_rise (And fs) = let r = all_nodes_rise fs in omega arith
    nodes_rise (Or fs) = let r = all_nodes_rise fs in omega arith
    nodes_rise (All s f) = let r : n s * form_nodes n f ≤ m s * form_nodes m f = mul-le-mul (h s) (nodes_rise f) in omega arith
    nodes_rise (Any s f) = nodes_rise f

    all_nodes_rise : (fs : Forms) → forms_nodes n fs ≤ forms_nodes m fs
    all_nodes_rise Nil = omega arith
    all_nodes_rise (Cons f fs) = let a = nodes_rise f in let b = all_nodes_rise fs in omega arith

  others_rise : (ss : List SortId) → others n ss ≤ others m ss
  others_rise [] = omega arith
  others_rise (s ∷ ss) = let a = h s in let b = others_rise ss in omega arith

  replacements_rise : (ss : List SortId) → replacement_count n ss ≤ replacement_count m ss
  replacements_rise ss = mul-le-mul (others_rise ss) (product_rises n m h ss)

  relations_rise : (rs : List RelShape) → relations_count n rs ≤ relations_count m rs
  relations_rise [] = omega arith
  relations_rise (r ∷ rs) = let a = replacements_rise r.sorts in let b = relations_rise rs in omega arith

  places_rise : (ps : List Place) → places_count n ps ≤ places_count m ps
  places_rise [] = omega arith
  places_rise (p ∷ ps) = let a = replacements_rise (argument_sorts p) in let b = places_rise ps in omega arith

  size_rises : (sk : Skolem) → size_of sk n ≤ size_of sk m
  size_rises sk =
      let a = all_nodes_rise (forms_of sk.forms) in
      let b = sum_rises 0 sk.sorts (λ i. sort_count (n (record { 0 = i }))) (λ i. sort_count (m (record { 0 = i })))
      (λ i. sorts_rise _ _ (h (record { 0 = i }))) in
      let c = relations_rise sk.relations in
      let d = places_rise sk.places in
      omega arith

large_size : (sk : Skolem) (n : SortId → ℕ) → IsLarge sk n → limit < size_of sk n
large_size sk n h =
    let f = λ (i : ℕ). sort_count (n (record { 0 = i })) in
    let a : f h.0.0 ≤ sum_to 0 sk.sorts f = sum_at_least 0 sk.sorts h.0.0 f (omega arith) (omega (arith, h.1)) in
    either (cases_lt 4000000 (f h.0.0))
    (λ l. omega arith)
    (λ le. let few = few_terms (n h.0) (omega arith) in let big = h.2 in absurd (omega arith))

-- too many terms to count: the size is above the limit
pub none_counted : (sk : Skolem) → CountsAre sk None → SizeIs sk None
none_counted sk h n solves = large_size sk n (h n solves)

pub within_counted : (sk : Skolem) → IsWithin sk → CountsAre sk None → ⊥
within_counted sk w h = let a = large_size sk w.0 (h w.0 w.1) in let b = w.2 in omega arith

-- the size by the least numbers, if it is above the limit, is so by all
pub size_none : (sk : Skolem) (n : SortId → ℕ) (size : ℕ) → IsLeast sk n → size ≡ capped (size_of sk n) → limit < size → SizeIs sk None
size_none sk n size least e l m solves = let r = size_rises n m (least m solves) sk in omega arith

pub size_some : (sk : Skolem) (n : SortId → ℕ) (size : ℕ) → IsCount sk n → size ≡ capped (size_of sk n) → size ≤ limit → SizeIs sk (Some size)
size_some sk n size is e l = let z : size ≡ size_of sk n = omega arith in (n, is, z, l)

-- sentences whose size was found are within the limit
within_unless : (sk : Skolem) (cycle : Option (List SortId)) (size : ℕ) → SizeUnless cycle sk → sk.size ≡ Some size → IsWithin sk
within_unless sk None size h sized =
    let found = subst (SizeIs sk) sized h in
    let bound : size_of sk found.0 ≤ limit = omega (arith, found.2, found.3) in
    (found.0, found.1, bound)
within_unless sk (Some sorts) size h sized = absurd (let e : None ≡ Some size = sym h ∙ sized in cc)

pub within_where_sized : (voc : Vocabulary) (s : Sentences) (sk : Skolem) (size : ℕ) → IsSkolem voc s sk → sk.size ≡ Some size → IsWithin sk
within_where_sized voc s sk size is sized = within_unless sk sk.cycle size is.size sized
