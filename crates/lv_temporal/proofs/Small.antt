-- The small system fits, its obligations are valid, and it has a fair lasso run; with an invariant less a step breaks the other.
use Rattle.std.proofs.Common.{◌≡◌, ℕ, zero, suc, ◌<◌, ◌≤◌, Bool, true, false, not, ◌&&◌, cond, List, [], ◌∷◌, ◌++◌, reverse, refl, map, sym, ap, ap₂, subst, ◌∙◌, arith}
use Rattle.std.specs.List.{All}
use Rattle.std.proofs.Math.Bool.{and-false}
use Rattle.std.proofs.lemmas.Bool.{and_parts, false≢true, ne_eqb}
use Rattle.std.proofs.lemmas.List.Elements.{All-cons, All-nil, All-weaker}
use Rattle.lv_formula.specs.declared.symbols.SortId.{SortId}
use Rattle.lv_formula.specs.declared.symbols.Sym.TheVariants.{Own, Label, Due, Next}
use Rattle.lv_formula.specs.declared.terms.Term.TheVariants.{Var}
use Rattle.lv_formula.specs.declared.formula.Formula.{Formula}
use Rattle.lv_formula.specs.declared.formula.Formula.TheVariants as F
use Rattle.lv_formula.specs.declared.temporal.Temporal.TheVariants as T
use Rattle.lv_formula.specs.Fits.{all_fit_in}
use Rattle.lv_formula.specs.Symbols.{sym_eq}
use Rattle.lv_formula.proofs.Folds as FF
use Rattle.lv_formula.proofs.TemporalFolds as TF
use Rattle.lv_formula.specs.Meaning.{IsStructureOf, Meaning, in_range}
use Rattle.lv_struct.specs.Tabulation.{tables_of}
use Rattle.lv_struct.proofs.Tabulate.{vocabulary-tables_of}
use Rattle.lv_struct.specs.Tables.{meaning}
use Rattle.lv_formula.specs.Truth.{all_true_in, truth_in}
use Rattle.lv_system.specs.declared.parts.Invariant.{Invariant}
use Rattle.lv_system.specs.Fits.{fits_parts}
use Rattle.lv_system.specs.Names.{names_connective, names_item, names_of, names_operator, names_part, names_run}
use Rattle.lv_system.specs.Lasso.{IsFair, IsLassoRun, lasso_of}
use Rattle.lv_system.specs.Step.{IsAllowed, IsPerformed, action_at, set_holds, sorts_at}
use Rattle.lv_system.specs.TemporalTruth.{next_of}
use Rattle.lv_labels.specs.declared.key.Key.{Key}
use Rattle.lv_labels.specs.Labels.{key_eq, key_of, keys_of, label_atom, labels_of, number_of, reading}
use Rattle.lv_labels.specs.Once.{each_once}
use Rattle.lv_labels.specs.Problem.{Problem, problem_of, problem_over}
use Rattle.lv_labels.specs.Runs.{LabelEquation}
use Rattle.lv_labels.specs.Renaming.{free_variables}
use Rattle.lv_labels.proofs.LabelsAt.{keys-Always, keys-Atom, keys-Eventually, keys-Not, plain-Atom, plain-Not, read-Atom, read-Eventually, read-Not, whole-Atom}
use Rattle.lv_labels.proofs.Sameness.{key_decides}
use Rattle.lv_labels.specs.declared.moves.Move.{Move}
use Rattle.lv_labels.specs.declared.moves.Move.TheVariants.{Stay, Freeze, Save}
use Rattle.lv_labels.specs.Monitor.{is_due_then}
use Rattle.lv_labels.specs.Vocabularies.{catch_vocabulary, step_vocabulary}
use Rattle.lv_temporal.proofs.Differ.{AreSortsThere}
use Rattle.lv_system.proofs.FitsFacts.{fitting}
use Rattle.lv_labels.specs.declared.which.Which.{Which}
use Rattle.lv_labels.specs.declared.which.Which.TheVariants as W
use Rattle.lv_labels.specs.Obligations.{AreValid, Breaks, InvariantsFit, IsValid, invariants_of, obligations_of}
use Rattle.lv_temporal.proofs.ClosedFits.{IsFit}
use Rattle.lv_temporal.proofs.Numbered.{step_tables, step_tables_sound}
use Rattle.lv_temporal.proofs.ProblemFits.{choices, problem_fits}
use Rattle.lv_temporal.proofs.SortsThere.{sorts_there}
use Rattle.lv_temporal.specs.Small.{IsBroken, breaking, moved_is_due, p_holds, p_then, small, small_loop, small_stem, small_with, state_of, stuck_holds, unhelped}

-- ---- the label and the readings

abbrev stuck_key : Key
stuck_key = record { sorts = []; inner = T.Not p_then }

key-stuck : key_of [] (T.Not p_then) ≡ stuck_key
key-stuck = simp (TF.folds, TF.folds_at) refl

keys-always : keys_of (T.Always (T.Not p_then)) [] ≡ stuck_key ∷ []
keys-always = keys-Always (T.Not p_then) []
    ∙ ap (λ f. key_of [] f ∷ keys_of (T.Not p_then) []) (plain-Not p_then ∙ ap T.Not (plain-Atom (Own 0) []))
    ∙ ap (λ ks. key_of [] (T.Not p_then) ∷ ks) (keys-Not p_then [] ∙ keys-Atom (Own 0) [] [])
    ∙ ap (λ k. k ∷ []) key-stuck

keys-eventually : keys_of (T.Eventually p_then) [] ≡ stuck_key ∷ []
keys-eventually = keys-Eventually p_then []
    ∙ ap (λ f. key_of [] (T.Not f) ∷ keys_of p_then []) (plain-Atom (Own 0) [])
    ∙ ap (λ ks. key_of [] (T.Not p_then) ∷ ks) (keys-Atom (Own 0) [] [])
    ∙ ap (λ k. k ∷ []) key-stuck

once : each_once key_eq (stuck_key ∷ (stuck_key ∷ [])) ≡ stuck_key ∷ []
once = rw (key_decides.reflexive stuck_key) refl

labels-small : (is : List Invariant) → labels_of (small_with is) ≡ stuck_key ∷ []
labels-small is = ap (λ ks. each_once key_eq ((ks ++ []) ++ keys_of (T.Eventually p_then) [])) keys-always ∙ ap (λ ks. each_once key_eq (stuck_key ∷ ks)) keys-eventually ∙ once

abbrev stuck_atom : Formula
stuck_atom = F.Atom (Label 0) []

free-stuck : free_variables (T.Not p_then) ≡ []
free-stuck = simp (TF.folds) refl

number-stuck : number_of (stuck_key ∷ []) stuck_key ≡ 0
number-stuck = rw (key_decides.reflexive stuck_key) refl

atom-stuck : label_atom (stuck_key ∷ []) [] (T.Not p_then) ≡ stuck_atom
atom-stuck = ap (λ k. F.Atom (Label (number_of (stuck_key ∷ []) k)) (map Var (free_variables (T.Not p_then)))) key-stuck
    ∙ ap (λ n. F.Atom (Label n) (map Var (free_variables (T.Not p_then)))) number-stuck
    ∙ ap (λ vs. F.Atom (Label 0) (map Var vs)) free-stuck

reading-property : reading (stuck_key ∷ []) [] (T.Eventually p_then) ≡ F.Not stuck_atom
reading-property = read-Eventually (stuck_key ∷ []) p_then [] ∙ ap (λ f. F.Not (label_atom (stuck_key ∷ []) [] (T.Not f))) (whole-Atom (stuck_key ∷ []) (Own 0) []) ∙ ap F.Not atom-stuck

reading-body : reading (stuck_key ∷ []) [] (T.Not p_then) ≡ F.Not p_holds
reading-body = read-Not (stuck_key ∷ []) p_then [] ∙ ap F.Not (read-Atom (stuck_key ∷ []) (Own 0) [] [])

-- the system with its labels, written out
abbrev problem : List Invariant → Problem
problem is = record {
  parts = small_with is;
  denied = F.Not (F.Not stuck_atom);
  choices = [];
  labels = record { sorts = []; body = F.Not p_holds } ∷ [];
  justice = record { sorts = []; body = p_holds } ∷ (record { sorts = []; body = F.Or (stuck_atom ∷ (F.Not (F.Not p_holds) ∷ [])) } ∷ []);
}

written_out : (is : List Invariant) → problem_over (stuck_key ∷ []) (small_with is) ≡ problem is
written_out is = ap₂ (λ f g. record {
  parts = small_with is;
  denied = F.Not f;
  choices = [];
  labels = record { sorts = []; body = g } ∷ [];
  justice = record { sorts = []; body = p_holds } ∷ (record { sorts = []; body = F.Or (stuck_atom ∷ (F.Not g ∷ [])) } ∷ []);
}) reading-property reading-body

problem-small : (is : List Invariant) → problem_of (small_with is) ≡ problem is
problem-small is = ap (λ table. problem_over table (small_with is)) (labels-small is) ∙ written_out is

-- ---- the obligations are valid

not_not : (b : Bool) → not (not b) ≡ true → b ≡ true
not_not true h = refl
not_not false h = h

abbrev q : Problem
q = problem (stuck_holds ∷ (moved_is_due ∷ []))

stuck-true : (m : Meaning) → truth_in m (F.Not (F.Not stuck_atom)) [] ≡ true → m.holds (Label 0) [] ≡ true
stuck-true m h = not_not (m.holds (Label 0) []) (simp (FF.folds_at) at h)

-- what the invariants say
stuck-and-due : (m : Meaning) → all_true_in m (invariants_of small) [] ≡ true → (m.holds (Label 0) [] ≡ true) × (m.holds (Due 0) [] ≡ true)
stuck-and-due m h =
    let both = and_parts (truth_in m stuck_atom []) (truth_in m (F.Atom (Due 0) []) [] && true) h in
    (simp (FF.folds_at) at both.0, simp (FF.folds_at) at (and_parts (truth_in m (F.Atom (Due 0) []) []) true both.1).0)

-- what the label's equation says
p-false : (m : Meaning) → LabelEquation q m (λ l tuple. m.holds (Next l) tuple) → m.holds (Label 0) [] ≡ true → (m.holds (Own 0) [] ≡ false) × (m.holds (Next 0) [] ≡ true)
p-false m eq h =
    let both = and_parts (truth_in m (F.Not p_holds) []) (m.holds (Next 0) []) (sym (eq 0 (omega arith) [] refl) ∙ h) in
    (was_not (m.holds (Own 0) []) (simp (FF.folds_at) at both.0), both.1)
  where
    was_not : (b : Bool) → not b ≡ true → b ≡ false
    was_not true k = absurd (false≢true k)
    was_not false k = refl

due-stays : (mv : Move) (m : Meaning) → m.holds (Due 0) [] ≡ true → is_due_then q mv m 0 [] ≡ true
due-stays Stay m h = h
due-stays Freeze m h = refl
due-stays Save m h = refl

start-stuck : (m : Meaning) → Breaks q (W.Start 0) m → ⊥
start-stuck m b = false≢true (sym (simp (FF.folds_at) at b.fails) ∙ stuck-true m b.start.denied)

start-due : (m : Meaning) → Breaks q (W.Start 1) m → ⊥
start-due m b = false≢true (sym (simp (FF.folds_at) at b.fails))

step-stuck : (mv : Move) (m : Meaning) → Breaks q (W.Step 0 mv 0) m → ⊥
step-stuck mv m b = false≢true (sym (simp (FF.folds_at) at b.fails) ∙ (p-false m b.labels (stuck-and-due m b.invariants).0).1)

step-due : (mv : Move) (m : Meaning) → Breaks q (W.Step 0 mv 1) m → ⊥
step-due mv m b = false≢true (sym (simp (FF.folds_at) at b.fails)
    ∙ ap (λ c. c && not (m.holds (Own 0) [])) (due-stays mv m (stuck-and-due m b.invariants).1)
    ∙ ap not (p-false m b.labels (stuck-and-due m b.invariants).0).0)

catch : (m : Meaning) → Breaks q W.Catch m → ⊥
catch m b = false≢true (sym (b.caught.none_due 0 (omega arith) []) ∙ (stuck-and-due m b.invariants).1)

abbrev NotBroken : Problem → Which → Type 0
NotBroken r which = (m : Meaning) → Breaks r which m → ⊥

one_more : (which : Which) (rest : List Which) → NotBroken q which → All (NotBroken q) rest → All (NotBroken q) (which ∷ rest)
one_more which rest h all = All-cons (NotBroken q) which rest h all

-- the two steps with a move, before the rest
of_move : (mv : Move) (rest : List Which) → All (NotBroken q) rest → All (NotBroken q) (W.Step 0 mv 0 ∷ (W.Step 0 mv 1 ∷ rest))
of_move mv rest all = one_more (W.Step 0 mv 0) (W.Step 0 mv 1 ∷ rest) (step-stuck mv) (one_more (W.Step 0 mv 1) rest (step-due mv) all)

abbrev from_save : List Which
from_save = W.Step 0 Save 0 ∷ (W.Step 0 Save 1 ∷ (W.Catch ∷ []))

abbrev from_freeze : List Which
from_freeze = W.Step 0 Freeze 0 ∷ (W.Step 0 Freeze 1 ∷ from_save)

abbrev from_stay : List Which
from_stay = W.Step 0 Stay 0 ∷ (W.Step 0 Stay 1 ∷ from_freeze)

all_not_broken : All (NotBroken q) (obligations_of small)
all_not_broken = one_more (W.Start 0) (W.Start 1 ∷ from_stay) start-stuck (one_more (W.Start 1) from_stay start-due
    (of_move Stay from_freeze (of_move Freeze from_save (of_move Save (W.Catch ∷ []) (one_more W.Catch [] catch (All-nil (NotBroken q)))))))

pub small_valid : AreValid small
small_valid = All-weaker (NotBroken (problem_of small)) (IsValid (problem_of small)) (λ which h w sound has. h (meaning w)) (obligations_of small)
    (subst (λ r. All (NotBroken r) (obligations_of small)) (sym (problem-small (stuck_holds ∷ (moved_is_due ∷ [])))) all_not_broken)

-- ---- it fits

pub small_fits : fits_parts small ≡ true
unfolding sym_eq names_of names_item names_part names_connective names_operator names_run
small_fits = simp (FF.folds, FF.folds_at, TF.folds, TF.folds_at) refl

pub small_invariants_fit : InvariantsFit small
unfolding sym_eq
small_invariants_fit = subst (λ r. all_fit_in (catch_vocabulary r) [] (invariants_of small) ≡ true) (sym (problem-small (stuck_holds ∷ (moved_is_due ∷ [])))) (simp (FF.folds_at) refl)

-- ---- it has a fair run

performed-false : IsPerformed small (action_at small 0) [] (state_of false) (state_of true)
performed-false = record { sizes = λ s. refl; relations = λ r tuple. made r tuple; constants = λ c. refl }
  where
    made : (r : ℕ) (tuple : List ℕ) → (state_of true).holds (Own r) tuple ≡ set_holds small [] (state_of false) (action_at small 0).updates r tuple
    made zero [] = simp (FF.folds_at) refl
    made zero (x ∷ xs) = refl
    made (suc r) tuple = sym (ap (λ b. cond b (in_range (state_of false) (sorts_at small (suc r)) tuple && truth_in (state_of false) F.True (reverse ([] ++ tuple))) false) (ne_eqb 0 (suc r) (λ e. omega (arith, e))))

performed-true : IsPerformed small (action_at small 0) [] (state_of true) (state_of true)
performed-true = record { sizes = λ s. refl; relations = λ r tuple. made r tuple; constants = λ c. refl }
  where
    made : (r : ℕ) (tuple : List ℕ) → (state_of true).holds (Own r) tuple ≡ set_holds small [] (state_of true) (action_at small 0).updates r tuple
    made zero [] = simp (FF.folds_at) refl
    made zero (x ∷ xs) = refl
    made (suc r) tuple = sym (ap (λ b. cond b (in_range (state_of true) (sorts_at small (suc r)) tuple && truth_in (state_of true) F.True (reverse ([] ++ tuple))) false) (ne_eqb 0 (suc r) (λ e. omega (arith, e))))

-- what holds at both positions holds at each
both : (P : ℕ → Type 0) → P 0 → P 1 → (i : ℕ) → i ≤ 1 → P i
both P h k zero b = h
both P h k (suc zero) b = k
both P h k (suc (suc i)) b = absurd (omega arith)

pub small_run : IsLassoRun small (lasso_of small_stem small_loop)
small_run = record {
  structures = λ i b. record { sizes = both (λ j. (s : SortId) → 0 < ((lasso_of small_stem small_loop).state j).size s) (λ s. omega arith) (λ s. omega arith) i b; constants = λ c s h. cc };
  axioms = refl;
  inits = simp (FF.folds_at) refl;
  actions = both (λ j. (lasso_of small_stem small_loop).action j < 1) (omega arith) (omega arith);
  allowed = both (λ j. IsAllowed (action_at small ((lasso_of small_stem small_loop).action j)) ((lasso_of small_stem small_loop).elements j) ((lasso_of small_stem small_loop).state j))
      (record { in_sorts = refl; guard = simp (FF.folds_at) refl }) (record { in_sorts = refl; guard = simp (FF.folds_at) refl });
  steps = both (λ j. IsPerformed small (action_at small ((lasso_of small_stem small_loop).action j)) ((lasso_of small_stem small_loop).elements j) ((lasso_of small_stem small_loop).state j) ((lasso_of small_stem small_loop).state (next_of (lasso_of small_stem small_loop) j)))
      performed-false performed-true;
}

pub small_fair : IsFair small (lasso_of small_stem small_loop)
small_fair zero b [] h = (1, omega arith, omega arith, simp (FF.folds_at) refl)
small_fair zero b (x ∷ xs) h = cc
small_fair (suc j) b tuple h = absurd (omega arith)

-- ---- with an invariant less, a step breaks the other

unhelped_fits : fits_parts unhelped ≡ true
unfolding sym_eq names_of names_item names_part names_connective names_operator names_run
unhelped_fits = simp (FF.folds, FF.folds_at, TF.folds, TF.folds_at) refl

abbrev u : Problem
u = problem (moved_is_due ∷ [])

unhelped_invariants_fit : InvariantsFit unhelped
unfolding sym_eq
unhelped_invariants_fit = subst (λ r. all_fit_in (catch_vocabulary r) [] (invariants_of unhelped) ≡ true) (sym (problem-small (moved_is_due ∷ []))) (simp (FF.folds_at) refl)

breaking_labels : LabelEquation u breaking (λ l tuple. breaking.holds (Next l) tuple)
breaking_labels zero b tuple inside = sym (and-false (truth_in breaking (F.Not p_holds) (reverse tuple)))
breaking_labels (suc l) b tuple inside = absurd (omega arith)

breaking_breaks : Breaks u (W.Step 0 Stay 0) breaking
breaking_breaks = record {
  axioms = refl;
  invariants = simp (FF.folds_at) refl;
  allowed = record { in_sorts = refl; guard = simp (FF.folds_at) refl };
  may_move = tt;
  labels = breaking_labels;
  fails = simp (FF.folds_at) refl;
}

breaks_it : Breaks (problem_of unhelped) (W.Step 0 Stay 0) breaking
breaks_it = subst (λ r. Breaks r (W.Step 0 Stay 0) breaking) (sym (problem-small (moved_is_due ∷ []))) breaking_breaks

breaking_structure : IsStructureOf (step_vocabulary (problem_of unhelped) (action_at unhelped 0)) breaking
breaking_structure = record { sizes = λ s. omega arith; constants = λ c s h. omega arith }

abbrev fit : IsFit (problem_of unhelped)
fit = problem_fits unhelped unhelped_fits unhelped_invariants_fit

abbrev there : AreSortsThere (problem_of unhelped)
there = sorts_there unhelped (fitting unhelped unhelped_fits)

pub unhelped_broken : IsBroken unhelped (W.Step 0 Stay 0)
unhelped_broken = (
  tables_of (step_vocabulary (problem_of unhelped) (action_at unhelped 0)) breaking,
  step_tables_sound (problem_of unhelped) fit there (choices unhelped unhelped_fits) 0 (omega arith) breaking breaking_structure,
  vocabulary-tables_of (step_vocabulary (problem_of unhelped) (action_at unhelped 0)) breaking,
  step_tables (problem_of unhelped) fit there (choices unhelped unhelped_fits) 0 (omega arith) Stay breaking breaking_structure 0 (omega arith) breaks_it,
)
