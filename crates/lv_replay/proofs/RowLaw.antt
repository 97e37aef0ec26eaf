-- The rows of a temporal formula have, at each position, whether it holds there.
use Rattle.std.proofs.Common.{◌≡◌, ℕ, zero, suc, ◌+◌, ◌-◌, ◌<◌, ◌≤◌, min, max, Bool, true, false, not, ◌&&◌, ◌||◌, eqb, leb, List, [], ◌∷◌, ◌++◌, length, map, drop, get_or, refl, sym, ap, ap₂, ◌∙◌, arith}
use Rattle.std.proofs.Math.Bool as bool_laws
use Rattle.std.proofs.lemmas.Bool.{and_parts, and_from, le-leb, leb-false, leb-true, lt-leb}
use Rattle.std.proofs.lemmas.List.{append_assoc, drop_all, drop_more, get_or-drop, get_or-map, length-drop, length-map}
use Rattle.lv_formula.specs.declared.symbols.SortId.{SortId}
use Rattle.lv_formula.specs.declared.temporal.Temporal.{Temporal}
use Rattle.lv_formula.proofs.Induction.{Each}
use Rattle.lv_formula.proofs.TemporalFolds.{fold_at-All, fold_at-Any, fold_at-True, fold_at-False, fold_at-Atom, fold_at-Same, fold_at-Not, fold_at-And, fold_at-Or, fold_at-Implies, fold_at-Iff, fold_at-Always, fold_at-Eventually}
use Rattle.lv_formula.proofs.TemporalInduction.{by_cases}
use Rattle.lv_formula.specs.Meaning.{Meaning}
use Rattle.lv_struct.specs.Tables.{Tables, meaning}
use Rattle.lv_formula.specs.Truth.{Env, value_of, all_below, any_below}
use Rattle.lv_system.specs.TemporalTruth.{Lasso, end_of, holds, at_each_later, all_hold, any_holds}
use Rattle.lv_system.specs.Lasso.{no_stop}
use Rattle.lv_labels.proofs.HoldsAt.{holds-True, holds-False, holds-Atom, holds-Same, holds-Not, holds-And, holds-Or, holds-Implies, holds-Iff, holds-All, holds-Any, holds-Always, holds-Eventually}
use Rattle.lv_labels.proofs.Later.{bool_iff}
use Rattle.lv_labels.proofs.Later as later_law
use Rattle.lv_replay.specs.declared.joins.Join.{Join}
use Rattle.lv_replay.specs.declared.joins.Join.TheVariants as J
use Rattle.lv_replay.specs.Rows.{are_true, each_false, each_true, first_state, has_terms, join, joined, joined_all, joined_below, later, later_from, plain, row_of, row_step}

-- a step of the loop that fills a row
pub row_step_made : (out items : List Bool) (b : Bool) (rest rest' total : List Bool) → items ≡ out ++ b ∷ [] → rest ≡ b ∷ rest' → out ++ rest ≡ total → items ++ rest' ≡ total
row_step_made out items b rest rest' total pushed more before = ap (λ xs. xs ++ rest') pushed ∙ (append_assoc out (b ∷ []) rest' ∙ (ap (λ xs. out ++ xs) (sym more) ∙ before))

pub mapped_step : (f : Meaning → Bool) (ws : List Tables) (i : ℕ) (w : Tables) → i < length ws → w ≡ get_or ws i w
    → map f (map meaning (drop i ws)) ≡ f (meaning w) ∷ map f (map meaning (drop (i + 1) ws))
mapped_step f ws i w lt is = ap (λ vs. map f (map meaning vs)) (drop_more ws i w lt) ∙ ap (λ v. f (meaning v) ∷ map f (map meaning (drop (i + 1) ws))) (sym is)

pub joined_end : (how : Join) (as' bs : List Bool) (n : ℕ) → min (length as') (length bs) ≤ n → joined how (drop n as') (drop n bs) ≡ []
joined_end how [] bs n h = ap (λ xs. joined how xs (drop n bs)) (drop_all n [] (omega arith))
joined_end how (a ∷ as') [] n h = nothing how (drop n (a ∷ as')) (drop n []) (drop_all n [] (omega arith))
  where
    nothing : (how : Join) (xs ys : List Bool) → ys ≡ [] → joined how xs ys ≡ []
    nothing how [] ys e = refl
    nothing how (x ∷ xs) [] e = refl
    nothing how (x ∷ xs) (y ∷ ys) e = cc
joined_end how (a ∷ as') (b ∷ bs) zero h = absurd (omega (arith, h))
joined_end how (a ∷ as') (b ∷ bs) (suc n) h = joined_end how as' bs n (omega (arith, h))

pub later_more : (stem : ℕ) (row : List Bool) (n : ℕ) → n < length row → later_from stem row n (drop n row) ≡ are_true (drop (min n stem) row) ∷ later_from stem row (n + 1) (drop (n + 1) row)
later_more stem row n lt = ap (later_from stem row n) (drop_more row n false lt) ∙ ap (λ k. are_true (drop (min n stem) row) ∷ later_from stem row k (drop (n + 1) row)) (omega arith)

-- the place from which on all is true, with the values told so far
pub record TrueFrom (row : List Bool) (n from : ℕ) : Type 0 where
  pub within : from ≤ n
  pub at : (k : ℕ) → are_true (drop k row) ≡ (leb from k && are_true (drop (max k n) row))

pub true_from-begins : (row : List Bool) → TrueFrom row 0 0
true_from-begins row = record { within = omega arith; at = λ k. let e : k ≡ max k 0 = omega arith in ap (λ n. are_true (drop n row)) e ∙ ap (λ b. b && are_true (drop (max k 0) row)) (sym (le-leb 0 k (omega arith))) }

pub true_from-more : (row : List Bool) (n from : ℕ) → n < length row → get_or row n false ≡ true → TrueFrom row n from → TrueFrom row (n + 1) from
true_from-more row n from lt is before = record { within = let w = before.within in omega (arith, w); at = λ k. before.at k ∙ ap (λ b. leb from k && b) (same k (leb k n) refl) }
  where
    same : (k : ℕ) (b : Bool) → leb k n ≡ b → are_true (drop (max k n) row) ≡ are_true (drop (max k (n + 1)) row)
    same k true le = let h : k ≤ n = leb-true k n le in let one : max k n ≡ n = omega (arith, h) in let more : max k (n + 1) ≡ n + 1 = omega (arith, h) in
        ap (λ i. are_true (drop i row)) one ∙ (ap are_true (drop_more row n false lt) ∙ (ap (λ b. b && are_true (drop (n + 1) row)) is ∙ ap (λ i. are_true (drop i row)) (sym more)))
    same k false gt = let h : n < k = leb-false k n gt in let e : max k n ≡ max k (n + 1) = omega (arith, h) in ap (λ i. are_true (drop i row)) e

pub true_from-anew : (row : List Bool) (n from : ℕ) → n < length row → get_or row n false ≡ false → TrueFrom row n from → TrueFrom row (n + 1) (n + 1)
true_from-anew row n from lt is before = record { within = omega arith; at = λ k. at k (leb k n) refl }
  where
    at : (k : ℕ) (b : Bool) → leb k n ≡ b → are_true (drop k row) ≡ (leb (n + 1) k && are_true (drop (max k (n + 1)) row))
    at k true le = let h : k ≤ n = leb-true k n le in let one : max k n ≡ n = omega (arith, h) in
        before.at k ∙ (ap (λ i. leb from k && are_true (drop i row)) one ∙ (ap (λ b. leb from k && b) (ap are_true (drop_more row n false lt) ∙ ap (λ b. b && are_true (drop (n + 1) row)) is)
        ∙ (bool_laws.and-false (leb from k) ∙ ap (λ b. b && are_true (drop (max k (n + 1)) row)) (sym (lt-leb (n + 1) k (omega (arith, h)))))))
    at k false gt = let h : n < k = leb-false k n gt in let e : max k (n + 1) ≡ k = omega (arith, h) in
        sym (ap (λ b. b && are_true (drop (max k (n + 1)) row)) (le-leb (n + 1) k (omega (arith, h))) ∙ ap (λ i. are_true (drop i row)) e)

pub true_from-ends : (row : List Bool) (n from : ℕ) → length row ≤ n → TrueFrom row n from → (k : ℕ) → are_true (drop k row) ≡ leb from k
true_from-ends row n from end all k = all.at k ∙ (ap (λ xs. leb from k && are_true xs) (drop_all (max k n) row (omega (arith, end))) ∙ bool_laws.and-true (leb from k))

-- ---- what the rows say

length_joined : (how : Join) (r q : List Bool) (n : ℕ) → length r ≡ n → length q ≡ n → length (joined how r q) ≡ n
length_joined how [] q n a b = a
length_joined how (x ∷ r) [] n a b = b
length_joined how (x ∷ r) (y ∷ q) n a b = ap suc (length_joined how r q (length r) refl (omega (arith, a, b))) ∙ a

at_joined : (how : Join) (r q : List Bool) (i : ℕ) → i < length r → i < length q → get_or (joined how r q) i false ≡ join how (get_or r i false) (get_or q i false)
at_joined how [] q i a b = absurd (omega (arith, a))
at_joined how (x ∷ r) [] i a b = absurd (omega (arith, b))
at_joined how (x ∷ r) (y ∷ q) zero a b = refl
at_joined how (x ∷ r) (y ∷ q) (suc i) a b = at_joined how r q i (omega (arith, a)) (omega (arith, b))

length_later : (stem : ℕ) (row : List Bool) (n : ℕ) (rest : List Bool) → length (later_from stem row n rest) ≡ length rest
length_later stem row n [] = refl
length_later stem row n (b ∷ rest) = ap suc (length_later stem row (suc n) rest)

at_later : (stem : ℕ) (row : List Bool) (n : ℕ) (rest : List Bool) (i k : ℕ) → k ≡ n + i → i < length rest → get_or (later_from stem row n rest) i false ≡ are_true (drop (min k stem) row)
at_later stem row n [] i k e lt = absurd (omega (arith, lt))
at_later stem row n (b ∷ rest) zero k e lt = let same : n ≡ k = omega (arith, e) in ap (λ j. are_true (drop (min j stem) row)) same
at_later stem row n (b ∷ rest) (suc i) k e lt = at_later stem row (suc n) rest i k (omega (arith, e)) (omega (arith, lt))

each_is_true : (xs : List Bool) → are_true xs ≡ true → (j : ℕ) → j < length xs → get_or xs j false ≡ true
each_is_true [] h j lt = absurd (omega (arith, lt))
each_is_true (x ∷ xs) h zero lt = (and_parts x (are_true xs) h).0
each_is_true (x ∷ xs) h (suc j) lt = each_is_true xs (and_parts x (are_true xs) h).1 j (omega (arith, lt))

all_are_true : (xs : List Bool) → ((j : ℕ) → j < length xs → get_or xs j false ≡ true) → are_true xs ≡ true
all_are_true [] h = refl
all_are_true (x ∷ xs) h = and_from x (are_true xs) (h zero (omega arith)) (all_are_true xs (λ j lt. h (suc j) (omega (arith, lt))))

and_nested : (a b c : Bool) → ((a && b) && c) ≡ (a && (b && c))
and_nested true b c = refl
and_nested false b c = refl

or_nested : (a b c : Bool) → ((a || b) || c) ≡ (a || (b || c))
or_nested true b c = refl
or_nested false b c = refl

and-true : (a : Bool) → a ≡ (a && true)
and-true true = refl
and-true false = refl

or-false : (a : Bool) → a ≡ (a || false)
or-false true = refl
or-false false = refl

abbrev pub no_witness : ℕ → ℕ
no_witness k = 0

module _ (ms : List Meaning) (l : Lasso) (long : length ms ≡ suc (end_of l)) (states : (i : ℕ) → i ≤ end_of l → l.state i ≡ get_or ms i no_stop.state)
    (sizes : (i : ℕ) → i ≤ end_of l → (l.state i).size ≡ (l.state 0).size) where
  -- one truth value for each position
  pub record IsRow (r : List Bool) (g : ℕ → Bool) : Type 0 where
    pub count : length r ≡ suc (end_of l)
    pub at : (i : ℕ) → i ≤ end_of l → get_or r i false ≡ g i

  as_row : (r q : List Bool) (g h : ℕ → Bool) → r ≡ q → ((i : ℕ) → i ≤ end_of l → g i ≡ h i) → IsRow q h → IsRow r g
  as_row r q g h e same row = record { count = ap length e ∙ row.count; at = λ i b. ap (λ xs. get_or xs i false) e ∙ (row.at i b ∙ sym (same i b)) }

  state_row : (f : Meaning → Bool) → IsRow (map f ms) (λ i. f (l.state i))
  state_row f = record {
    count = length-map ms f ∙ long;
    at = λ i b. get_or-map f ms i no_stop.state false (omega (arith, b, long)) ∙ ap f (sym (states i b));
  }

  not_row : (r : List Bool) (g : ℕ → Bool) → IsRow r g → IsRow (map not r) (λ i. not (g i))
  not_row r g row = record {
    count = length-map r not ∙ row.count;
    at = λ i b. get_or-map not r i false false (let c = row.count in omega (arith, b, c)) ∙ ap not (row.at i b);
  }

  join_row : (how : Join) (r q : List Bool) (g h : ℕ → Bool) → IsRow r g → IsRow q h → IsRow (joined how r q) (λ i. join how (g i) (h i))
  join_row how r q g h a b = record {
    count = length_joined how r q (suc (end_of l)) a.count b.count;
    at = λ i le. at_joined how r q i (let c = a.count in omega (arith, le, c)) (let c = b.count in omega (arith, le, c)) ∙ ap₂ (join how) (a.at i le) (b.at i le);
  }

  later_row : (r : List Bool) (g : ℕ → Bool) → IsRow r g → IsRow (later l.stem r) (λ i. at_each_later l i g)
  later_row r g row = record {
    count = length_later l.stem r 0 r ∙ row.count;
    at = λ i b. at_later l.stem r 0 r i i (omega arith) (let c = row.count in omega (arith, b, c)) ∙ bool_iff _ _ (there i) (back i);
  }
    where
      there : (i : ℕ) → are_true (drop (min i l.stem) r) ≡ true → at_each_later l i g ≡ true
      there i h = later_law.later_from l i g (λ j b m. sym (row.at j b) ∙ (ap (λ n. get_or r n false) (let e : j ≡ min i l.stem + (j - min i l.stem) = omega (arith, m) in e)
          ∙ (sym (get_or-drop (min i l.stem) r (j - min i l.stem) false)
          ∙ each_is_true (drop (min i l.stem) r) h (j - min i l.stem) (let c = row.count in let d = length-drop (min i l.stem) r in omega (arith, b, m, c, d)))))

      back : (i : ℕ) → at_each_later l i g ≡ true → are_true (drop (min i l.stem) r) ≡ true
      back i h = all_are_true (drop (min i l.stem) r) (λ j lt. get_or-drop (min i l.stem) r j false
          ∙ (let c = row.count in let d = length-drop (min i l.stem) r in let b : min i l.stem + j ≤ end_of l = omega (arith, lt, c, d) in
          row.at (min i l.stem + j) b ∙ later_law.later_at l i g h (min i l.stem + j) b (omega arith)))

  abbrev pub row : Temporal → Env → List Bool
  row = row_of ms l.stem

  abbrev pub Says : Temporal → Type 0
  Says f = (env : Env) → IsRow (row f env) (λ i. holds l no_witness f i env)

  all_row : (fs : List Temporal) → Each Says fs → (r : List Bool) (g : ℕ → Bool) (env : Env) → IsRow r g → IsRow (joined_all J.And r (map row fs) env) (λ i. g i && all_hold (map (holds l no_witness) fs) i env)
  all_row [] each r g env h = as_row r r _ g refl (λ i b. sym (and-true (g i))) h
  all_row (f ∷ fs) each r g env h = as_row _ _ _ _ refl (λ i b. sym (and_nested (g i) (holds l no_witness f i env) (all_hold (map (holds l no_witness) fs) i env)))
      (all_row fs each.1 (joined J.And r (row f env)) (λ i. g i && holds l no_witness f i env) env (join_row J.And r (row f env) g (λ i. holds l no_witness f i env) h (each.0 env)))

  any_row : (fs : List Temporal) → Each Says fs → (r : List Bool) (g : ℕ → Bool) (env : Env) → IsRow r g → IsRow (joined_all J.Or r (map row fs) env) (λ i. g i || any_holds (map (holds l no_witness) fs) i env)
  any_row [] each r g env h = as_row r r _ g refl (λ i b. sym (or-false (g i))) h
  any_row (f ∷ fs) each r g env h = as_row _ _ _ _ refl (λ i b. sym (or_nested (g i) (holds l no_witness f i env) (any_holds (map (holds l no_witness) fs) i env)))
      (any_row fs each.1 (joined J.Or r (row f env)) (λ i. g i || holds l no_witness f i env) env (join_row J.Or r (row f env) g (λ i. holds l no_witness f i env) h (each.0 env)))

  below_row : (f : Temporal) → Says f → (n : ℕ) (env : Env) → IsRow (joined_below J.And (each_true ms) n (row f) env) (λ i. all_below n (λ x. holds l no_witness f i (x ∷ env)))
  below_row f says zero env = state_row (λ m. true)
  below_row f says (suc n) env = join_row J.And _ _ _ _ (below_row f says n env) (says (n ∷ env))

  some_row : (f : Temporal) → Says f → (n : ℕ) (env : Env) → IsRow (joined_below J.Or (each_false ms) n (row f) env) (λ i. any_below n (λ x. holds l no_witness f i (x ∷ env)))
  some_row f says zero env = state_row (λ m. false)
  some_row f says (suc n) env = join_row J.Or _ _ _ _ (some_row f says n env) (says (n ∷ env))

  size_is : (s : SortId) (i : ℕ) → i ≤ end_of l → (l.state i).size s ≡ (first_state ms).size s
  size_is s i b = ap (λ size. size s) (sizes i b) ∙ ap (λ m. m.size s) (states 0 (omega arith))

  -- a row has whether the formula holds at each position
  pub rows_say : (f : Temporal) → Says f
  rows_say = by_cases Says record {
    at_true = λ env. as_row _ _ _ _ (fold_at-True (List Bool) Env (row_step ms l.stem) env) (λ i b. holds-True l no_witness i env) (state_row (λ m. true));
    at_false = λ env. as_row _ _ _ _ (fold_at-False (List Bool) Env (row_step ms l.stem) env) (λ i b. holds-False l no_witness i env) (state_row (λ m. false));
    at_atom = λ s ts env. as_row _ _ _ _ (fold_at-Atom (List Bool) Env (row_step ms l.stem) s ts env) (λ i b. holds-Atom l no_witness s ts i env) (state_row (has_terms s ts env));
    at_same = λ x y env. as_row _ _ _ _ (fold_at-Same (List Bool) Env (row_step ms l.stem) x y env) (λ i b. holds-Same l no_witness x y i env) (state_row (λ m. eqb (value_of (plain m) env x) (value_of (plain m) env y)));
    at_not = λ f ih env. as_row _ _ _ _ (fold_at-Not (List Bool) Env (row_step ms l.stem) f env) (λ i b. holds-Not l no_witness f i env) (not_row _ _ (ih env));
    at_and = λ fs each env. as_row _ _ _ _ (fold_at-And (List Bool) Env (row_step ms l.stem) fs env) (λ i b. holds-And l no_witness fs i env) (all_row fs each (each_true ms) (λ i. true) env (state_row (λ m. true)));
    at_or = λ fs each env. as_row _ _ _ _ (fold_at-Or (List Bool) Env (row_step ms l.stem) fs env) (λ i b. holds-Or l no_witness fs i env) (any_row fs each (each_false ms) (λ i. false) env (state_row (λ m. false)));
    at_implies = λ f h ihf ihh env. as_row _ _ _ _ (fold_at-Implies (List Bool) Env (row_step ms l.stem) f h env) (λ i b. holds-Implies l no_witness f h i env) (join_row J.Implies _ _ _ _ (ihf env) (ihh env));
    at_iff = λ f h ihf ihh env. as_row _ _ _ _ (fold_at-Iff (List Bool) Env (row_step ms l.stem) f h env) (λ i b. holds-Iff l no_witness f h i env) (join_row J.Iff _ _ _ _ (ihf env) (ihh env));
    at_all = λ s f ih env. as_row _ _ _ _ (fold_at-All (List Bool) Env (row_step ms l.stem) s f env)
        (λ i b. holds-All l no_witness s f i env ∙ ap (λ n. all_below n (λ x. holds l no_witness f i (x ∷ env))) (size_is s i b)) (below_row f ih ((first_state ms).size s) env);
    at_any = λ s f ih env. as_row _ _ _ _ (fold_at-Any (List Bool) Env (row_step ms l.stem) s f env)
        (λ i b. holds-Any l no_witness s f i env ∙ ap (λ n. any_below n (λ x. holds l no_witness f i (x ∷ env))) (size_is s i b)) (some_row f ih ((first_state ms).size s) env);
    at_always = λ f ih env. as_row _ _ _ _ (fold_at-Always (List Bool) Env (row_step ms l.stem) f env) (λ i b. holds-Always l no_witness f i env) (later_row _ _ (ih env));
    at_eventually = λ f ih env. as_row _ _ _ _ (fold_at-Eventually (List Bool) Env (row_step ms l.stem) f env) (λ i b. holds-Eventually l no_witness f i env)
        (not_row _ _ (later_row _ _ (not_row _ _ (ih env))));
  }

  pub row_at_start : (f : Temporal) → get_or (row f []) 0 false ≡ holds l no_witness f 0 []
  row_at_start f = (rows_say f []).at 0 (omega arith)
