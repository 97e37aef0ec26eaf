-- The vocabularies of obligations are sound, where labels have at most four arguments.
use Rattle.std.proofs.Common.{◌≡◌, ℕ, zero, suc, ◌<◌, ◌≤◌, Bool, true, false, cond, leb, List, [], ◌∷◌, ◌++◌, length, get_or, map, take, All, IsPermutation, Some, refl, sym, ap, ap₂, subst, ◌∙◌, arith}
use Rattle.std.proofs.lemmas.Bool.{and_parts, leb-true}
use Rattle.std.proofs.lemmas.List.{append_assoc, length-map, map-append}
use Rattle.std.proofs.lemmas.List.Elements.{All-cons, All-head, All-nil, All-tail, All-weaker}
use Rattle.std.proofs.lemmas.List.Sorted.{IsPermutation-append, IsPermutation-append_comm, IsPermutation-append_left, IsPermutation-append_right, IsPermutation-cons, IsPermutation-middle, IsPermutation-refl, IsPermutation-trans}
use Rattle.lv_formula.specs.declared.symbols.SortId.{SortId}
use Rattle.lv_formula.specs.declared.symbols.Sym.{Sym}
use Rattle.lv_formula.specs.declared.symbols.Sym.TheVariants.{Own, Witness, Label, Frozen, Saved, Touched, Kept, Due, Copy, CopyLabel, Next, Param}
use Rattle.lv_formula.specs.declared.vocabulary.RelShape.{RelShape}
use Rattle.lv_formula.specs.declared.vocabulary.ConShape.{ConShape}
use Rattle.lv_formula.specs.declared.vocabulary.Vocabulary.{Vocabulary}
use Rattle.lv_formula.specs.Vocabulary.{IsSound, symbols_of}
use Rattle.lv_struct.proofs.Tabulate.{IsProper}
use Rattle.lv_system.specs.declared.parts.Parts.{Parts}
use Rattle.lv_system.specs.declared.parts.Action.{Action}
use Rattle.lv_system.specs.declared.parts.Shape.{Shape}
use Rattle.lv_system.specs.declared.parts.Shape.TheVariants.{Relation, Constant}
use Rattle.lv_system.specs.declared.parts.Sort.{Sort}
use Rattle.lv_system.specs.declared.parts.Symbol.{Symbol}
use Rattle.lv_system.specs.declared.parts.WitnessDecl.{WitnessDecl}
use Rattle.lv_system.specs.Fits.{fits_parts, shape_fits}
use Rattle.lv_system.specs.InvariantWords.{is_changing, sets_from}
use Rattle.lv_system.specs.Step.{action_at, symbol_at}
use Rattle.lv_system.specs.Vocabularies.{any_symbol, constant_if, constant_sort, constants_from, names_from, relation_if, relation_sorts, relations_from, witness_names, witnesses_from}
use Rattle.lv_system.proofs.FitsFacts.{Fitting, fitting}
use Rattle.lv_labels.specs.declared.which.Which.{Which}
use Rattle.lv_labels.specs.declared.which.Which.TheVariants.{Start, Step, Catch}
use Rattle.lv_labels.specs.Labels.{labels_of, no_key}
use Rattle.lv_labels.specs.Obligations.{vocabulary_of}
use Rattle.lv_labels.specs.Problem.{Condition, Problem, justice_at, label_at, label_condition, names_for, problem_of, shapes_from, state_vocabulary}
use Rattle.lv_labels.specs.Vocabularies.{catch_vocabulary, mark, params_from, step_vocabulary}
use Rattle.lv_temporal.proofs.Differ.{AreSortsThere, catch-proper, state-proper, step-proper}
use Rattle.lv_temporal.proofs.Found.{IsRelationWord, catch-words, state-words, step-words}
use Rattle.lv_temporal.proofs.SortsThere.{sorts_there}
use Rattle.lv_temporal.proofs.Turns.{justice_conditions}
use Rattle.lv_temporal.proofs.Unrolled.{label_at_is}
use Rattle.lv_temporal.specs.TrueLabels.{key_at}
use Rattle.lv_oblig.specs.Numbers.{AreNarrow, IsThere}

-- ---- orders

abbrev relation_name : RelShape → Sym
relation_name r = r.sym

abbrev constant_name : ConShape → Sym
constant_name c = c.sym

abbrev names : List RelShape → List Sym
names rs = map relation_name rs

abbrev constant_names : List ConShape → List Sym
constant_names cs = map constant_name cs

exchange : {X : Type 0} (a b c d : List X) → IsPermutation ((a ++ b) ++ (c ++ d)) ((a ++ c) ++ (b ++ d))
exchange a b c d = subst (λ xs. IsPermutation xs ((a ++ c) ++ (b ++ d))) (sym (append_assoc a b (c ++ d)))
    (subst (λ ys. IsPermutation (a ++ (b ++ (c ++ d))) ys) (sym (append_assoc a c (b ++ d)))
    (IsPermutation-append_right a (b ++ (c ++ d)) (c ++ (b ++ d))
    (subst (λ xs. IsPermutation xs (c ++ (b ++ d))) (append_assoc b c d) (subst (λ ys. IsPermutation ((b ++ c) ++ d) ys) (append_assoc c b d)
    (IsPermutation-append_left d (b ++ c) (c ++ b) (IsPermutation-append_comm b c))))))

-- relations and constants together are the symbols
symbols_permute : (test : Symbol → Bool) (name : ℕ → Sym) (n : ℕ) (ss : List Symbol)
    → IsPermutation (names (relations_from test name n ss) ++ constant_names (constants_from test name n ss)) (names_from test name n ss)
symbols_permute test name n [] = IsPermutation-refl []
symbols_permute test name n (s ∷ ss) = by (test s) s.shape (symbols_permute test name (suc n) ss)
  where
    by : (b : Bool) (shape : Shape) → IsPermutation (names (relations_from test name (suc n) ss) ++ constant_names (constants_from test name (suc n) ss)) (names_from test name (suc n) ss)
        → IsPermutation (names (relation_if b (name n) (relation_sorts shape) (relations_from test name (suc n) ss)) ++ constant_names (constant_if b (name n) (constant_sort shape) (constants_from test name (suc n) ss)))
        (cond b (name n ∷ names_from test name (suc n) ss) (names_from test name (suc n) ss))
    by true (Relation sorts) rest = IsPermutation-cons (name n) _ _ rest
    by true (Constant sort) rest = IsPermutation-trans _ _ _
        (IsPermutation-middle (names (relations_from test name (suc n) ss)) (name n) (constant_names (constants_from test name (suc n) ss))) (IsPermutation-cons (name n) _ _ rest)
    by false (Relation sorts) rest = rest
    by false (Constant sort) rest = rest

shape_names : (name : ℕ → Sym) (n : ℕ) (cs : List Condition) → names (shapes_from name n cs) ≡ names_for name n cs
shape_names name n [] = refl
shape_names name n (c ∷ cs) = ap (λ ns. name n ∷ ns) (shape_names name (suc n) cs)

set_names : (name : SortId → Sym) (n : ℕ) (ss : List Sort) → names (sets_from name n ss) ≡ names_for (λ k. name (record { 0 = k })) n ss
set_names name n [] = refl
set_names name n (s ∷ ss) = ap (λ ns. name (record { 0 = n }) ∷ ns) (set_names name (suc n) ss)

param_names : (n : ℕ) (ss : List SortId) → constant_names (params_from n ss) ≡ names_for Param n ss
param_names n [] = refl
param_names n (s ∷ ss) = ap (λ ns. Param n ∷ ns) (param_names (suc n) ss)

declared_names : (n : ℕ) (ws : List WitnessDecl) → constant_names (witnesses_from n ws) ≡ witness_names n ws
declared_names n [] = refl
declared_names n (w ∷ ws) = ap (λ ns. Witness n ∷ ns) (declared_names (suc n) ws)

relation_names : (rs ss : List RelShape) → names (rs ++ ss) ≡ names rs ++ names ss
relation_names rs ss = map-append relation_name rs ss

constant_both : (cs ds : List ConShape) → constant_names (cs ++ ds) ≡ constant_names cs ++ constant_names ds
constant_both cs ds = map-append constant_name cs ds

module _ (q : Problem) where
  abbrev own : List Sym
  own = names_from any_symbol Own 0 q.parts.symbols

  abbrev changing : List Sym
  changing = names_from is_changing Copy 0 q.parts.symbols

  abbrev witnesses : List WitnessDecl
  witnesses = take (length q.parts.witnesses) q.parts.witnesses

  abbrev relations_own : List RelShape
  relations_own = relations_from any_symbol Own 0 q.parts.symbols

  abbrev constants_own : List ConShape
  constants_own = constants_from any_symbol Own 0 q.parts.symbols

  abbrev relations_copied : List RelShape
  relations_copied = relations_from is_changing Copy 0 q.parts.symbols

  abbrev constants_copied : List ConShape
  constants_copied = constants_from is_changing Copy 0 q.parts.symbols

  abbrev labels : List Sym
  labels = names_for Label 0 q.labels

  state_symbols : symbols_of (state_vocabulary q) ≡ (names relations_own ++ labels) ++ (constant_names constants_own ++ witness_names 0 witnesses)
  state_symbols = ap₂ (λ rs cs. rs ++ cs)
      (relation_names relations_own (shapes_from Label 0 q.labels) ∙ ap (λ ns. names relations_own ++ ns) (shape_names Label 0 q.labels))
      (constant_both constants_own (witnesses_from 0 witnesses) ∙ ap (λ ns. constant_names constants_own ++ ns) (declared_names 0 witnesses))

  state_order : IsPermutation (symbols_of (state_vocabulary q)) (state_vocabulary q).order
  state_order = subst (λ xs. IsPermutation xs ((own ++ witness_names 0 witnesses) ++ labels)) (sym state_symbols)
      (subst (λ ys. IsPermutation ((names relations_own ++ labels) ++ (constant_names constants_own ++ witness_names 0 witnesses)) ys) (sym (append_assoc own (witness_names 0 witnesses) labels))
      (IsPermutation-trans _ _ _ (exchange (names relations_own) labels (constant_names constants_own) (witness_names 0 witnesses))
      (IsPermutation-append _ _ _ _ (symbols_permute any_symbol Own 0 q.parts.symbols) (IsPermutation-append_comm labels (witness_names 0 witnesses)))))

  -- what the monitor adds
  abbrev sets : List RelShape
  sets = sets_from Touched 0 q.parts.sorts

  abbrev kept : List RelShape
  kept = sets_from Kept 0 q.parts.sorts

  abbrev due : List RelShape
  due = shapes_from Due 0 q.justice

  abbrev copies : List RelShape
  copies = relations_copied ++ shapes_from CopyLabel 0 q.labels

  abbrev copies_named : List Sym
  copies_named = changing ++ names_for CopyLabel 0 q.labels

  copies_order : IsPermutation (names copies ++ constant_names constants_copied) copies_named
  copies_order =
      let of_labels = names_for CopyLabel 0 q.labels in
      subst (λ xs. IsPermutation (xs ++ constant_names constants_copied) copies_named)
      (sym (relation_names relations_copied (shapes_from CopyLabel 0 q.labels) ∙ ap (λ ns. names relations_copied ++ ns) (shape_names CopyLabel 0 q.labels)))
      (subst (λ xs. IsPermutation xs copies_named) (sym (append_assoc (names relations_copied) of_labels (constant_names constants_copied)))
      (IsPermutation-trans _ _ _ (IsPermutation-append_right (names relations_copied) _ _ (IsPermutation-append_comm of_labels (constant_names constants_copied)))
      (subst (λ xs. IsPermutation xs copies_named) (append_assoc (names relations_copied) (constant_names constants_copied) of_labels)
      (IsPermutation-append_left of_labels _ _ (symbols_permute is_changing Copy 0 q.parts.symbols)))))

  -- the same behind other relations
  behind : (rs : List RelShape) (ns : List Sym) (more : List RelShape) (order : List Sym) → names rs ≡ ns → IsPermutation (names more ++ constant_names constants_copied) order
      → IsPermutation (names (rs ++ more) ++ constant_names constants_copied) (ns ++ order)
  behind rs ns more order same h = subst (λ xs. IsPermutation (xs ++ constant_names constants_copied) (ns ++ order)) (sym (relation_names rs more ∙ ap (λ xs. xs ++ names more) same))
      (subst (λ xs. IsPermutation xs (ns ++ order)) (sym (append_assoc ns (names more) (constant_names constants_copied))) (IsPermutation-append_right ns _ _ h))

  abbrev added : List RelShape
  added = (mark Frozen ∷ mark Saved ∷ []) ++ (sets ++ (kept ++ (due ++ copies)))

  abbrev added_named : List Sym
  added_named = (Frozen ∷ Saved ∷ []) ++ (names_for (λ n. Touched (record { 0 = n })) 0 q.parts.sorts ++ (names_for (λ n. Kept (record { 0 = n })) 0 q.parts.sorts ++ (names_for Due 0 q.justice ++ copies_named)))

  added_order : IsPermutation (names added ++ constant_names constants_copied) added_named
  added_order = behind (mark Frozen ∷ mark Saved ∷ []) (Frozen ∷ Saved ∷ []) (sets ++ (kept ++ (due ++ copies))) _ refl
      (behind sets (names_for (λ n. Touched (record { 0 = n })) 0 q.parts.sorts) (kept ++ (due ++ copies)) _ (set_names Touched 0 q.parts.sorts)
      (behind kept (names_for (λ n. Kept (record { 0 = n })) 0 q.parts.sorts) (due ++ copies) _ (set_names Kept 0 q.parts.sorts)
      (behind due (names_for Due 0 q.justice) copies copies_named (shape_names Due 0 q.justice) copies_order)))

  -- two vocabularies one behind the other
  both_orders : (rs ss : List RelShape) (cs ds : List ConShape) (first second : List Sym) → IsPermutation (names rs ++ constant_names cs) first → IsPermutation (names ss ++ constant_names ds) second
      → IsPermutation (names (rs ++ ss) ++ constant_names (cs ++ ds)) (first ++ second)
  both_orders rs ss cs ds first second h k = subst (λ xs. IsPermutation xs (first ++ second)) (sym (ap₂ (λ xs ys. xs ++ ys) (relation_names rs ss) (constant_both cs ds)))
      (IsPermutation-trans _ _ _ (exchange (names rs) (names ss) (constant_names cs) (constant_names ds)) (IsPermutation-append _ _ _ _ h k))

  catch_order : IsPermutation (symbols_of (catch_vocabulary q)) (catch_vocabulary q).order
  catch_order = both_orders (state_vocabulary q).relations added (state_vocabulary q).constants constants_copied (state_vocabulary q).order added_named state_order added_order

  step_order : (a : Action) → IsPermutation (symbols_of (step_vocabulary q a)) (step_vocabulary q a).order
  step_order a = both_orders (catch_vocabulary q).relations (shapes_from Next 0 q.labels) (catch_vocabulary q).constants (params_from 0 a.params) (catch_vocabulary q).order _ catch_order
      (subst (λ xs. IsPermutation xs (names_for Param 0 a.params ++ names_for Next 0 q.labels)) (sym (ap₂ (λ xs ys. xs ++ ys) (shape_names Next 0 q.labels) (param_names 0 a.params)))
      (IsPermutation-append_comm (names_for Next 0 q.labels) (names_for Param 0 a.params)))

-- ---- four arguments at most

narrow_shape : (n : ℕ) (shape : Shape) (ss : List SortId) → shape_fits n shape ≡ true → relation_sorts shape ≡ Some ss → length ss ≤ 4
narrow_shape n (Relation sorts) ss h is =
    let few : length sorts ≤ 4 = leb-true (length sorts) 4 (and_parts (leb (length sorts) 4) _ h).0 in
    let same : sorts ≡ ss = cc in
    subst (λ x. length x ≤ 4) same few
narrow_shape n (Constant sort) ss h is = cc

each_both : {X : Type 0} (P Q : X → Type 0) (xs : List X) → All P xs → All Q xs → All (λ x. P x × Q x) xs
each_both P Q [] h k = All-nil (λ x. P x × Q x)
each_both P Q (x ∷ xs) h k = All-cons (λ x. P x × Q x) x xs (All-head P x xs h, All-head Q x xs k) (each_both P Q xs (All-tail P x xs h) (All-tail Q x xs k))

all_at : {X : Type 0} (P : X → Type 0) (d : X) (xs : List X) → All P xs → (n : ℕ) → n < length xs → P (get_or xs n d)
all_at P d [] h n l = absurd (omega (arith, l))
all_at P d (x ∷ xs) h zero l = All-head P x xs h
all_at P d (x ∷ xs) h (suc n) l = all_at P d xs (All-tail P x xs h) n (omega (arith, l))

module _ (p : Parts) (fits : fits_parts p ≡ true) (narrow : AreNarrow p) where
  abbrev q : Problem
  q = problem_of p

  fit : Fitting p
  fit = fitting p fits

  there : AreSortsThere q
  there = sorts_there p fit

  narrow_key : (n : ℕ) → n < length (labels_of p) → length (key_at p n).sorts ≤ 4
  narrow_key n l = all_at (λ key. length key.sorts ≤ 4) no_key (labels_of p) narrow n l

  narrow_label : (n : ℕ) → n < length q.labels → length (label_at q n).sorts ≤ 4
  narrow_label n b =
      let l : n < length (labels_of p) = subst (λ k. n < k) (length-map (labels_of p) (label_condition (labels_of p))) b in
      subst (λ c. length c.sorts ≤ 4) (sym (label_at_is p n l)) (narrow_key n l)

  narrow_justice : (j : ℕ) → j < length q.justice → length (justice_at q j).sorts ≤ 4
  narrow_justice = justice_conditions (λ c. length c.sorts ≤ 4) p (λ j l. (fit.fairs j l).params.few) narrow_key

  narrow_word : (r : Sym) (ss : List SortId) → IsRelationWord q r ss → length ss ≤ 4
  narrow_word (Own n) ss w = narrow_shape (length p.sorts) (symbol_at p n).shape ss (fit.shapes n w.0) w.1
  narrow_word (Witness k) ss w = absurd w
  narrow_word (Label l) ss w = subst (λ x. length x ≤ 4) w.1 (narrow_label l w.0)
  narrow_word Frozen ss w = subst (λ x. length x ≤ 4) w (omega arith)
  narrow_word Saved ss w = subst (λ x. length x ≤ 4) w (omega arith)
  narrow_word (Touched s) ss w = subst (λ x. length x ≤ 4) w.1 (omega arith)
  narrow_word (Kept s) ss w = subst (λ x. length x ≤ 4) w.1 (omega arith)
  narrow_word (Due j) ss w = subst (λ x. length x ≤ 4) w.1 (narrow_justice j w.0)
  narrow_word (Copy n) ss w = narrow_shape (length p.sorts) (symbol_at p n).shape ss (fit.shapes n w.0) w.2
  narrow_word (CopyLabel l) ss w = subst (λ x. length x ≤ 4) w.1 (narrow_label l w.0)
  narrow_word (Next l) ss w = subst (λ x. length x ≤ 4) w.1 (narrow_label l w.0)
  narrow_word (Param k) ss w = absurd w

  sound_where : (voc : Vocabulary) → IsProper voc → All (λ r. IsRelationWord q r.sym r.sorts) voc.relations → IsPermutation (symbols_of voc) voc.order → IsSound voc
  sound_where voc proper words order = record {
    differ = proper.differ;
    relations = each_both (λ r. length r.sorts ≤ 4) (λ r. All (λ s. s.0 < voc.sorts) r.sorts) voc.relations
        (All-weaker (λ r. IsRelationWord q r.sym r.sorts) (λ r. length r.sorts ≤ 4) (λ r w. narrow_word r.sym r.sorts w) voc.relations words) proper.relations;
    constants = proper.constants;
    order = order;
  }

  -- no two symbols are the same, all sorts are in range, and the order has each symbol once
  pub sound_vocabulary : (which : Which) → IsThere q which → IsSound (vocabulary_of q which)
  sound_vocabulary (Start i) inside = sound_where (state_vocabulary q) (state-proper q there) (state-words q) (state_order q)
  sound_vocabulary (Step k mv i) inside = sound_where (step_vocabulary q (action_at p k)) (step-proper q there (action_at p k) (there.params k inside)) (step-words q (action_at p k)) (step_order q (action_at p k))
  sound_vocabulary Catch inside = sound_where (catch_vocabulary q) (catch-proper q there) (catch-words q) (catch_order q)
