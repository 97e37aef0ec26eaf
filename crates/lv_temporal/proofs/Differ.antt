-- The symbols of each vocabulary differ, and all of its sorts are there.
use Rattle.std.proofs.Common.{◌≡◌, ◌≢◌, ℕ, suc, ◌<◌, ◌≤◌, Bool, true, false, List, [], ◌∷◌, ◌++◌, length, map, get_or, take, Option, Some, None, inl, inr, ◌⊎◌, refl, sym, ap, subst, arith}
use Rattle.std.specs.List.{All, AllPairs}
use Rattle.std.proofs.lemmas.List.Elements.{All-nil, All-cons, All-head, All-tail, All-append, All-weaker}
use Rattle.std.proofs.lemmas.List.Kept.{AllPairs-cons}
use Rattle.lv_formula.specs.declared.symbols.SortId.{SortId}
use Rattle.lv_formula.specs.declared.symbols.Sym.{Sym}
use Rattle.lv_formula.specs.declared.symbols.Sym.TheVariants.{Own, Witness, Label, Frozen, Saved, Touched, Kept, Due, Copy, CopyLabel, Next, Param}
use Rattle.lv_formula.specs.declared.vocabulary.RelShape.{RelShape}
use Rattle.lv_formula.specs.declared.vocabulary.ConShape.{ConShape}
use Rattle.lv_formula.specs.declared.vocabulary.Vocabulary.{Vocabulary}
use Rattle.lv_formula.specs.Symbols.{sym_kind, sym_number}
use Rattle.lv_struct.proofs.Tabulate.{IsProper}
use Rattle.lv_system.specs.declared.parts.Shape.{Shape}
use Rattle.lv_system.specs.declared.parts.Shape.TheVariants as S
use Rattle.lv_system.specs.declared.parts.Symbol.{Symbol}
use Rattle.lv_system.specs.declared.parts.Sort.{Sort}
use Rattle.lv_system.specs.declared.parts.Action.{Action}
use Rattle.lv_system.specs.declared.parts.WitnessDecl.{WitnessDecl}
use Rattle.lv_system.specs.Step.{action_at, symbol_at}
use Rattle.lv_system.specs.Vocabularies.{any_symbol, constant_if, constant_sort, constants_from, relation_if, relation_sorts, relations_from, witnesses_from}
use Rattle.lv_labels.specs.Problem.{Condition, Problem, justice_at, label_at, shapes_from, state_vocabulary}
use Rattle.lv_system.specs.InvariantWords.{is_changing, sets_from}
use Rattle.lv_labels.specs.Vocabularies.{catch_vocabulary, mark, params_from, step_vocabulary}
use Rattle.lv_temporal.proofs.Found.{IsConstantWord, IsRelationWord, catch-constants, catch-words, state-constants, state-words, step-constants, step-words}
use Rattle.lv_temporal.proofs.Words.{no_sort_id, no_witness_decl}

-- ---- symbols in ascending order differ

-- the symbol comes from kind k and number n on
abbrev IsFrom : ℕ → ℕ → Sym → Type 0
IsFrom k n s = (k < sym_kind s) ⊎ ((k ≡ sym_kind s) × (n ≤ sym_number s))

-- the symbols ascend, by kind and then by number, from kind k and number n on
abbrev Ascends : ℕ → ℕ → List Sym → Type 0
Ascends k n [] = Unit {0}
Ascends k n (s ∷ ss) = IsFrom k n s × Ascends (sym_kind s) (suc (sym_number s)) ss

from_less : (k n j m : ℕ) (s : Sym) → (k < j) ⊎ ((k ≡ j) × (n ≤ m)) → IsFrom j m s → IsFrom k n s
from_less k n j m s (inl a) (inl b) = inl (omega (arith, a, b))
from_less k n j m s (inl a) (inr b) = inl (omega (arith, a, b.0))
from_less k n j m s (inr a) (inl b) = inl (omega (arith, a.0, b))
from_less k n j m s (inr a) (inr b) = inr (omega (arith, a.0, b.0), omega (arith, a.1, b.1))

ascends_less : (k n j m : ℕ) (ss : List Sym) → (k < j) ⊎ ((k ≡ j) × (n ≤ m)) → Ascends j m ss → Ascends k n ss
ascends_less k n j m [] h a = tt
ascends_less k n j m (s ∷ ss) h a = (from_less k n j m s h a.0, a.1)

all_from : (k n : ℕ) (ss : List Sym) → Ascends k n ss → All (IsFrom k n) ss
all_from k n [] a = All-nil (IsFrom k n)
all_from k n (s ∷ ss) a = All-cons (IsFrom k n) s ss a.0
    (all_from k n ss (ascends_less k n (sym_kind s) (suc (sym_number s)) ss (up a.0) a.1))
  where
    up : IsFrom k n s → (k < sym_kind s) ⊎ ((k ≡ sym_kind s) × (n ≤ suc (sym_number s)))
    up (inl b) = inl b
    up (inr b) = inr (b.0, omega (arith, b.1))

not_itself : (s t : Sym) → IsFrom (sym_kind s) (suc (sym_number s)) t → s ≢ t
not_itself s t (inl b) e = let same : sym_kind s ≡ sym_kind t = ap sym_kind e in omega (arith, b, same)
not_itself s t (inr b) e = let same : sym_number s ≡ sym_number t = ap sym_number e in omega (arith, b.1, same)

ascending_differ : (k n : ℕ) (ss : List Sym) → Ascends k n ss → AllPairs (λ a b. a ≢ b) ss
ascending_differ k n [] a = λ i j d before lt. absurd (omega arith)
ascending_differ k n (s ∷ ss) a = AllPairs-cons (λ a b. a ≢ b) s ss
    (All-weaker (IsFrom (sym_kind s) (suc (sym_number s))) (λ t. s ≢ t) (not_itself s) ss (all_from (sym_kind s) (suc (sym_number s)) ss a.1))
    (ascending_differ (sym_kind s) (suc (sym_number s)) ss a.1)

-- the kinds of all are at most k
abbrev IsUpTo : ℕ → Sym → Type 0
IsUpTo k s = sym_kind s ≤ k

ascends-append : (k n j : ℕ) (xs ys : List Sym) → k ≤ j → Ascends k n xs → All (IsUpTo j) xs → Ascends (suc j) 0 ys → Ascends k n (xs ++ ys)
ascends-append k n j [] ys le a up b = ascends_less k n (suc j) 0 ys (inl (omega (arith, le))) b
ascends-append k n j (x ∷ xs) ys le a up b = (a.0, ascends-append (sym_kind x) (suc (sym_number x)) j xs ys (All-head (IsUpTo j) x xs up) a.1 (All-tail (IsUpTo j) x xs up) b)

-- ---- the parts of the vocabularies ascend

abbrev names : List RelShape → List Sym
names rs = map (λ r. r.sym) rs

abbrev constant_names : List ConShape → List Sym
constant_names cs = map (λ c. c.sym) cs

-- the name of a number has this kind and that number
abbrev IsNumbering : ℕ → (ℕ → Sym) → Type 0
IsNumbering k name = (n : ℕ) → (sym_kind (name n) ≡ k) × (sym_number (name n) ≡ n)

ascends_at : (k n : ℕ) (s : Sym) (rest : List Sym) → sym_kind s ≡ k → sym_number s ≡ n → Ascends k (suc n) rest → Ascends k n (s ∷ rest)
ascends_at k n s rest a b h = (inr (sym a, omega (arith, b)), subst (λ j. Ascends j (suc (sym_number s)) rest) (sym a) (subst (λ m. Ascends k (suc m) rest) (sym b) h))

relations-ascend : (k : ℕ) (test : Symbol → Bool) (name : ℕ → Sym) → IsNumbering k name → (n : ℕ) (ss : List Symbol) → Ascends k n (names (relations_from test name n ss))
relations-ascend k test name is n [] = tt
relations-ascend k test name is n (s ∷ ss) = go (test s) (relation_sorts s.shape) (relations-ascend k test name is (suc n) ss)
  where
    go : (b : Bool) (o : Option (List SortId)) → Ascends k (suc n) (names (relations_from test name (suc n) ss)) → Ascends k n (names (relation_if b (name n) o (relations_from test name (suc n) ss)))
    go b None h = ascends_less k n k (suc n) _ (inr (refl, omega arith)) h
    go true (Some sorts) h = ascends_at k n (name n) _ (is n).0 (is n).1 h
    go false (Some sorts) h = ascends_less k n k (suc n) _ (inr (refl, omega arith)) h

constants-ascend : (k : ℕ) (test : Symbol → Bool) (name : ℕ → Sym) → IsNumbering k name → (n : ℕ) (ss : List Symbol) → Ascends k n (constant_names (constants_from test name n ss))
constants-ascend k test name is n [] = tt
constants-ascend k test name is n (s ∷ ss) = go (test s) (constant_sort s.shape) (constants-ascend k test name is (suc n) ss)
  where
    go : (b : Bool) (o : Option SortId) → Ascends k (suc n) (constant_names (constants_from test name (suc n) ss)) → Ascends k n (constant_names (constant_if b (name n) o (constants_from test name (suc n) ss)))
    go b None h = ascends_less k n k (suc n) _ (inr (refl, omega arith)) h
    go true (Some sort) h = ascends_at k n (name n) _ (is n).0 (is n).1 h
    go false (Some sort) h = ascends_less k n k (suc n) _ (inr (refl, omega arith)) h

shapes-ascend : (k : ℕ) (name : ℕ → Sym) → IsNumbering k name → (n : ℕ) (cs : List Condition) → Ascends k n (names (shapes_from name n cs))
shapes-ascend k name is n [] = tt
shapes-ascend k name is n (c ∷ cs) = ascends_at k n (name n) _ (is n).0 (is n).1 (shapes-ascend k name is (suc n) cs)

sets-ascend : (k : ℕ) (name : SortId → Sym) → IsNumbering k (λ n. name (record { 0 = n })) → (n : ℕ) (ss : List Sort) → Ascends k n (names (sets_from name n ss))
sets-ascend k name is n [] = tt
sets-ascend k name is n (s ∷ ss) = ascends_at k n (name (record { 0 = n })) _ (is n).0 (is n).1 (sets-ascend k name is (suc n) ss)

witnesses-ascend : (n : ℕ) (ws : List WitnessDecl) → Ascends 1 n (constant_names (witnesses_from n ws))
witnesses-ascend n [] = tt
witnesses-ascend n (w ∷ ws) = ascends_at 1 n (Witness n) _ refl refl (witnesses-ascend (suc n) ws)

params-ascend : (n : ℕ) (ss : List SortId) → Ascends 11 n (constant_names (params_from n ss))
params-ascend n [] = tt
params-ascend n (s ∷ ss) = ascends_at 11 n (Param n) _ refl refl (params-ascend (suc n) ss)

-- ---- no part has kinds above its own

relations-up_to : (j : ℕ) (test : Symbol → Bool) (name : ℕ → Sym) → ((n : ℕ) → sym_kind (name n) ≤ j) → (n : ℕ) (ss : List Symbol) → All (IsUpTo j) (names (relations_from test name n ss))
relations-up_to j test name h n [] = All-nil (IsUpTo j)
relations-up_to j test name h n (s ∷ ss) = go (test s) (relation_sorts s.shape) (relations-up_to j test name h (suc n) ss)
  where
    go : (b : Bool) (o : Option (List SortId)) → All (IsUpTo j) (names (relations_from test name (suc n) ss)) → All (IsUpTo j) (names (relation_if b (name n) o (relations_from test name (suc n) ss)))
    go b None all = all
    go true (Some sorts) all = All-cons (IsUpTo j) (name n) _ (h n) all
    go false (Some sorts) all = all

constants-up_to : (j : ℕ) (test : Symbol → Bool) (name : ℕ → Sym) → ((n : ℕ) → sym_kind (name n) ≤ j) → (n : ℕ) (ss : List Symbol) → All (IsUpTo j) (constant_names (constants_from test name n ss))
constants-up_to j test name h n [] = All-nil (IsUpTo j)
constants-up_to j test name h n (s ∷ ss) = go (test s) (constant_sort s.shape) (constants-up_to j test name h (suc n) ss)
  where
    go : (b : Bool) (o : Option SortId) → All (IsUpTo j) (constant_names (constants_from test name (suc n) ss)) → All (IsUpTo j) (constant_names (constant_if b (name n) o (constants_from test name (suc n) ss)))
    go b None all = all
    go true (Some sort) all = All-cons (IsUpTo j) (name n) _ (h n) all
    go false (Some sort) all = all

shapes-up_to : (j : ℕ) (name : ℕ → Sym) → ((n : ℕ) → sym_kind (name n) ≤ j) → (n : ℕ) (cs : List Condition) → All (IsUpTo j) (names (shapes_from name n cs))
shapes-up_to j name h n [] = All-nil (IsUpTo j)
shapes-up_to j name h n (c ∷ cs) = All-cons (IsUpTo j) (name n) _ (h n) (shapes-up_to j name h (suc n) cs)

sets-up_to : (j : ℕ) (name : SortId → Sym) → ((s : SortId) → sym_kind (name s) ≤ j) → (n : ℕ) (ss : List Sort) → All (IsUpTo j) (names (sets_from name n ss))
sets-up_to j name h n [] = All-nil (IsUpTo j)
sets-up_to j name h n (s ∷ ss) = All-cons (IsUpTo j) (name (record { 0 = n })) _ (h _) (sets-up_to j name h (suc n) ss)

witnesses-up_to : (n : ℕ) (ws : List WitnessDecl) → All (IsUpTo 1) (constant_names (witnesses_from n ws))
witnesses-up_to n [] = All-nil (IsUpTo 1)
witnesses-up_to n (w ∷ ws) = All-cons (IsUpTo 1) (Witness n) _ (omega arith) (witnesses-up_to (suc n) ws)

-- ---- names of lists that stand behind one another

names-append : (xs ys : List RelShape) → names (xs ++ ys) ≡ names xs ++ names ys
names-append [] ys = refl
names-append (x ∷ xs) ys = ap (λ ss. x.sym ∷ ss) (names-append xs ys)

constant_names-append : (xs ys : List ConShape) → constant_names (xs ++ ys) ≡ constant_names xs ++ constant_names ys
constant_names-append [] ys = refl
constant_names-append (x ∷ xs) ys = ap (λ ss. x.sym ∷ ss) (constant_names-append xs ys)

then : (k j : ℕ) (xs ys : List RelShape) → k ≤ j → Ascends k 0 (names xs) → All (IsUpTo j) (names xs) → Ascends (suc j) 0 (names ys) → Ascends k 0 (names (xs ++ ys))
then k j xs ys le a up b = subst (λ ss. Ascends k 0 ss) (sym (names-append xs ys)) (ascends-append k 0 j (names xs) (names ys) le a up b)

constants-then : (k j : ℕ) (xs ys : List ConShape) → k ≤ j → Ascends k 0 (constant_names xs) → All (IsUpTo j) (constant_names xs) → Ascends (suc j) 0 (constant_names ys) → Ascends k 0 (constant_names (xs ++ ys))
constants-then k j xs ys le a up b = subst (λ ss. Ascends k 0 ss) (sym (constant_names-append xs ys)) (ascends-append k 0 j (constant_names xs) (constant_names ys) le a up b)

up_to-append : (j : ℕ) (xs ys : List RelShape) → All (IsUpTo j) (names xs) → All (IsUpTo j) (names ys) → All (IsUpTo j) (names (xs ++ ys))
up_to-append j xs ys a b = subst (λ ss. All (IsUpTo j) ss) (sym (names-append xs ys)) (All-append (IsUpTo j) (names xs) (names ys) a b)

constants-up_to-append : (j : ℕ) (xs ys : List ConShape) → All (IsUpTo j) (constant_names xs) → All (IsUpTo j) (constant_names ys) → All (IsUpTo j) (constant_names (xs ++ ys))
constants-up_to-append j xs ys a b = subst (λ ss. All (IsUpTo j) ss) (sym (constant_names-append xs ys)) (All-append (IsUpTo j) (constant_names xs) (constant_names ys) a b)

-- ---- no relation is a constant

one_family : (q : Problem) (params : List SortId) (s : Sym) (sorts : List SortId) (sort : SortId) → IsRelationWord q s sorts → IsConstantWord q params s sort → ⊥
one_family q params (Own n) sorts sort a b = only_one (symbol_at q.parts n).shape a.1 b.1
  where
    only_one : (shape : Shape) → relation_sorts shape ≡ Some sorts → constant_sort shape ≡ Some sort → ⊥
    only_one (S.Relation ss) h k = cc
    only_one (S.Constant t) h k = cc
one_family q params (Copy n) sorts sort a b = only_one (symbol_at q.parts n).shape a.2 b.2
  where
    only_one : (shape : Shape) → relation_sorts shape ≡ Some sorts → constant_sort shape ≡ Some sort → ⊥
    only_one (S.Relation ss) h k = cc
    only_one (S.Constant t) h k = cc
one_family q params (Witness k) sorts sort a b = absurd a
one_family q params (Param k) sorts sort a b = absurd a
one_family q params _ sorts sort a b = absurd b

differ_from : (q : Problem) (params : List SortId) (s : Sym) (sorts : List SortId) → IsRelationWord q s sorts → (cs : List ConShape) → All (λ c. IsConstantWord q params c.sym c.sort) cs → All (λ c. s ≢ c) (constant_names cs)
differ_from q params s sorts is [] all = All-nil (λ c. s ≢ c)
differ_from q params s sorts is (c ∷ cs) all = All-cons (λ c. s ≢ c) c.sym _
    (λ e. one_family q params s sorts c.sort is (subst (λ t. IsConstantWord q params t c.sort) (sym e) (All-head (λ c. IsConstantWord q params c.sym c.sort) c cs all)))
    (differ_from q params s sorts is cs (All-tail (λ c. IsConstantWord q params c.sym c.sort) c cs all))

all_differ : (q : Problem) (params : List SortId) (rs : List RelShape) (cs : List ConShape) → All (λ r. IsRelationWord q r.sym r.sorts) rs → All (λ c. IsConstantWord q params c.sym c.sort) cs
    → AllPairs (λ a b. a ≢ b) (names rs) → AllPairs (λ a b. a ≢ b) (constant_names cs) → AllPairs (λ a b. a ≢ b) (names rs ++ constant_names cs)
all_differ q params [] cs words constants a b = b
all_differ q params (r ∷ rs) cs words constants a b = AllPairs-cons (λ a b. a ≢ b) r.sym _
    (All-append (λ t. r.sym ≢ t) (names rs) (constant_names cs) (λ k d lt. a 0 (suc k) d (omega arith) (omega arith))
    (differ_from q params r.sym r.sorts (All-head (λ r. IsRelationWord q r.sym r.sorts) r rs words) cs constants))
    (all_differ q params rs cs (All-tail (λ r. IsRelationWord q r.sym r.sorts) r rs words) constants (λ i j d before lt. a (suc i) (suc j) d (omega arith) (omega arith)) b)

-- ---- all sorts are there

-- the sorts of symbols, parameters, witnesses, labels and justice conditions are the system's
pub record AreSortsThere (q : Problem) : Type 0 where
  pub params : (n : ℕ) → n < length q.parts.actions → All (λ s. s.0 < length q.parts.sorts) (action_at q.parts n).params
  pub relations : (n : ℕ) (sorts : List SortId) → n < length q.parts.symbols → relation_sorts (symbol_at q.parts n).shape ≡ Some sorts → All (λ s. s.0 < length q.parts.sorts) sorts
  pub constants : (n : ℕ) (sort : SortId) → n < length q.parts.symbols → constant_sort (symbol_at q.parts n).shape ≡ Some sort → sort.0 < length q.parts.sorts
  pub witnesses : (k : ℕ) → k < length q.parts.witnesses → (get_or q.parts.witnesses k no_witness_decl).sort.0 < length q.parts.sorts
  pub labels : (l : ℕ) → l < length q.labels → All (λ s. s.0 < length q.parts.sorts) (label_at q l).sorts
  pub justice : (j : ℕ) → j < length q.justice → All (λ s. s.0 < length q.parts.sorts) (justice_at q j).sorts

module _ (q : Problem) (there : AreSortsThere q) where
  abbrev IsThere : SortId → Type 0
  IsThere s = s.0 < length q.parts.sorts

  relation_sorts-there : (s : Sym) (sorts : List SortId) → IsRelationWord q s sorts → All IsThere sorts
  relation_sorts-there (Own n) sorts w = there.relations n sorts w.0 w.1
  relation_sorts-there (Witness k) sorts w = absurd w
  relation_sorts-there (Label l) sorts w = subst (λ ss. All IsThere ss) w.1 (there.labels l w.0)
  relation_sorts-there Frozen sorts w = subst (λ ss. All IsThere ss) w (All-nil IsThere)
  relation_sorts-there Saved sorts w = subst (λ ss. All IsThere ss) w (All-nil IsThere)
  relation_sorts-there (Touched s) sorts w = subst (λ ss. All IsThere ss) w.1 (All-cons IsThere s [] w.0 (All-nil IsThere))
  relation_sorts-there (Kept s) sorts w = subst (λ ss. All IsThere ss) w.1 (All-cons IsThere s [] w.0 (All-nil IsThere))
  relation_sorts-there (Due j) sorts w = subst (λ ss. All IsThere ss) w.1 (there.justice j w.0)
  relation_sorts-there (Copy n) sorts w = there.relations n sorts w.0 w.2
  relation_sorts-there (CopyLabel l) sorts w = subst (λ ss. All IsThere ss) w.1 (there.labels l w.0)
  relation_sorts-there (Next l) sorts w = subst (λ ss. All IsThere ss) w.1 (there.labels l w.0)
  relation_sorts-there (Param k) sorts w = absurd w

  constant_sort-there : (params : List SortId) → All IsThere params → (s : Sym) (sort : SortId) → IsConstantWord q params s sort → IsThere sort
  constant_sort-there params inside (Own n) sort w = there.constants n sort w.0 w.1
  constant_sort-there params inside (Witness k) sort w = subst IsThere w.1 (there.witnesses k w.0)
  constant_sort-there params inside (Copy n) sort w = there.constants n sort w.0 w.2
  constant_sort-there params inside (Param k) sort w = subst IsThere w.1 (inside k no_sort_id w.0)
  constant_sort-there params inside _ sort w = absurd w

  state_relations-ascend : Ascends 0 0 (names (state_vocabulary q).relations)
  state_relations-ascend = then 0 1 (relations_from any_symbol Own 0 q.parts.symbols) _ (omega arith) (relations-ascend 0 any_symbol Own (λ n. (refl, refl)) 0 q.parts.symbols)
      (relations-up_to 1 any_symbol Own (λ n. omega arith) 0 q.parts.symbols) (shapes-ascend 2 Label (λ n. (refl, refl)) 0 q.labels)

  state_relations-up_to : All (IsUpTo 2) (names (state_vocabulary q).relations)
  state_relations-up_to = up_to-append 2 (relations_from any_symbol Own 0 q.parts.symbols) _ (relations-up_to 2 any_symbol Own (λ n. omega arith) 0 q.parts.symbols) (shapes-up_to 2 Label (λ n. omega arith) 0 q.labels)

  behind_state : List RelShape
  behind_state = (mark Frozen ∷ mark Saved ∷ []) ++ (sets_from Touched 0 q.parts.sorts ++ (sets_from Kept 0 q.parts.sorts ++ (shapes_from Due 0 q.justice ++ (relations_from is_changing Copy 0 q.parts.symbols ++ shapes_from CopyLabel 0 q.labels))))

  behind_state-ascend : Ascends 3 0 (names behind_state)
  unfolding behind_state
  behind_state-ascend = (
    inr (refl, omega arith),
    (
      inl (omega arith),
      ascends_less 4 1 5 0 _ (inl (omega arith))
          (then 5 5 (sets_from Touched 0 q.parts.sorts) _ (omega arith) (sets-ascend 5 Touched (λ n. (refl, refl)) 0 q.parts.sorts) (sets-up_to 5 Touched (λ s. omega arith) 0 q.parts.sorts)
          (then 6 6 (sets_from Kept 0 q.parts.sorts) _ (omega arith) (sets-ascend 6 Kept (λ n. (refl, refl)) 0 q.parts.sorts) (sets-up_to 6 Kept (λ s. omega arith) 0 q.parts.sorts)
          (then 7 7 (shapes_from Due 0 q.justice) _ (omega arith) (shapes-ascend 7 Due (λ n. (refl, refl)) 0 q.justice) (shapes-up_to 7 Due (λ n. omega arith) 0 q.justice)
          (then 8 8 (relations_from is_changing Copy 0 q.parts.symbols) _ (omega arith) (relations-ascend 8 is_changing Copy (λ n. (refl, refl)) 0 q.parts.symbols) (relations-up_to 8 is_changing Copy (λ n. omega arith) 0 q.parts.symbols)
          (shapes-ascend 9 CopyLabel (λ n. (refl, refl)) 0 q.labels))))),
    ),
  )

  behind_state-up_to : All (IsUpTo 9) (names behind_state)
  unfolding behind_state
  behind_state-up_to = up_to-append 9 (mark Frozen ∷ mark Saved ∷ []) _
      (All-cons (IsUpTo 9) Frozen (Saved ∷ []) (omega arith) (All-cons (IsUpTo 9) Saved [] (omega arith) (All-nil (IsUpTo 9))))
      (up_to-append 9 (sets_from Touched 0 q.parts.sorts) _ (sets-up_to 9 Touched (λ s. omega arith) 0 q.parts.sorts)
      (up_to-append 9 (sets_from Kept 0 q.parts.sorts) _ (sets-up_to 9 Kept (λ s. omega arith) 0 q.parts.sorts)
      (up_to-append 9 (shapes_from Due 0 q.justice) _ (shapes-up_to 9 Due (λ n. omega arith) 0 q.justice)
      (up_to-append 9 (relations_from is_changing Copy 0 q.parts.symbols) _ (relations-up_to 9 is_changing Copy (λ n. omega arith) 0 q.parts.symbols)
      (shapes-up_to 9 CopyLabel (λ n. omega arith) 0 q.labels)))))

  catch_relations-ascend : Ascends 0 0 (names (catch_vocabulary q).relations)
  unfolding behind_state
  catch_relations-ascend = then 0 2 (state_vocabulary q).relations behind_state (omega arith) state_relations-ascend state_relations-up_to behind_state-ascend

  catch_relations-up_to : All (IsUpTo 9) (names (catch_vocabulary q).relations)
  unfolding behind_state
  catch_relations-up_to = up_to-append 9 (state_vocabulary q).relations behind_state (All-weaker (IsUpTo 2) (IsUpTo 9) (λ s h. omega (arith, h)) (names (state_vocabulary q).relations) state_relations-up_to) behind_state-up_to

  step_relations-ascend : (a : Action) → Ascends 0 0 (names (step_vocabulary q a).relations)
  step_relations-ascend a = then 0 9 (catch_vocabulary q).relations (shapes_from Next 0 q.labels) (omega arith) catch_relations-ascend catch_relations-up_to (shapes-ascend 10 Next (λ n. (refl, refl)) 0 q.labels)

  abbrev own_and_witnesses : List ConShape
  own_and_witnesses = (state_vocabulary q).constants

  state_constants-ascend : Ascends 0 0 (constant_names (state_vocabulary q).constants)
  state_constants-ascend = constants-then 0 0 (constants_from any_symbol Own 0 q.parts.symbols) _ (omega arith) (constants-ascend 0 any_symbol Own (λ n. (refl, refl)) 0 q.parts.symbols)
      (constants-up_to 0 any_symbol Own (λ n. omega arith) 0 q.parts.symbols) (witnesses-ascend 0 (take (length q.parts.witnesses) q.parts.witnesses))

  state_constants-up_to : All (IsUpTo 7) (constant_names (state_vocabulary q).constants)
  state_constants-up_to = constants-up_to-append 7 (constants_from any_symbol Own 0 q.parts.symbols) _ (constants-up_to 7 any_symbol Own (λ n. omega arith) 0 q.parts.symbols)
      (All-weaker (IsUpTo 1) (IsUpTo 7) (λ s h. omega (arith, h)) _ (witnesses-up_to 0 (take (length q.parts.witnesses) q.parts.witnesses)))

  catch_constants-ascend : Ascends 0 0 (constant_names (catch_vocabulary q).constants)
  catch_constants-ascend = constants-then 0 7 (state_vocabulary q).constants (constants_from is_changing Copy 0 q.parts.symbols) (omega arith) state_constants-ascend state_constants-up_to
      (constants-ascend 8 is_changing Copy (λ n. (refl, refl)) 0 q.parts.symbols)

  catch_constants-up_to : All (IsUpTo 10) (constant_names (catch_vocabulary q).constants)
  catch_constants-up_to = constants-up_to-append 10 (state_vocabulary q).constants (constants_from is_changing Copy 0 q.parts.symbols)
      (All-weaker (IsUpTo 7) (IsUpTo 10) (λ s h. omega (arith, h)) _ state_constants-up_to) (constants-up_to 10 is_changing Copy (λ n. omega arith) 0 q.parts.symbols)

  step_constants-ascend : (a : Action) → Ascends 0 0 (constant_names (step_vocabulary q a).constants)
  step_constants-ascend a = constants-then 0 10 (catch_vocabulary q).constants (params_from 0 a.params) (omega arith) catch_constants-ascend catch_constants-up_to (params-ascend 0 a.params)

  proper-of : (params : List SortId) → All IsThere params → (voc : Vocabulary) → voc.sorts ≡ length q.parts.sorts
      → All (λ r. IsRelationWord q r.sym r.sorts) voc.relations → All (λ c. IsConstantWord q params c.sym c.sort) voc.constants
      → Ascends 0 0 (names voc.relations) → Ascends 0 0 (constant_names voc.constants) → IsProper voc
  proper-of params inside voc same words constants a b = record {
    differ = all_differ q params voc.relations voc.constants words constants (ascending_differ 0 0 (names voc.relations) a) (ascending_differ 0 0 (constant_names voc.constants) b);
    relations = All-weaker (λ r. IsRelationWord q r.sym r.sorts) (λ r. All (λ s. s.0 < voc.sorts) r.sorts)
        (λ r w. subst (λ n. All (λ s. s.0 < n) r.sorts) (sym same) (relation_sorts-there r.sym r.sorts w)) voc.relations words;
    constants = All-weaker (λ c. IsConstantWord q params c.sym c.sort) (λ c. c.sort.0 < voc.sorts)
        (λ c w. subst (λ n. c.sort.0 < n) (sym same) (constant_sort-there params inside c.sym c.sort w)) voc.constants constants;
  }

  -- in each vocabulary no two symbols are the same, and all sorts are there
  pub state-proper : IsProper (state_vocabulary q)
  state-proper = proper-of [] (All-nil IsThere) (state_vocabulary q) refl (state-words q) (state-constants q []) state_relations-ascend state_constants-ascend

  pub catch-proper : IsProper (catch_vocabulary q)
  catch-proper = proper-of [] (All-nil IsThere) (catch_vocabulary q) refl (catch-words q) (catch-constants q []) catch_relations-ascend catch_constants-ascend

  pub step-proper : (a : Action) → All IsThere a.params → IsProper (step_vocabulary q a)
  step-proper a inside = proper-of a.params inside (step_vocabulary q a) refl (step-words q a) (step-constants q a) (step_relations-ascend a) (step_constants-ascend a)
