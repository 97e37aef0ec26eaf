-- The labels, the readings and the problem of the sample system over a sort, written out; and that it fits.
use Rattle.std.proofs.Common.{◌≡◌, true, false, ◌||◌, cond, List, [], ◌∷◌, ◌++◌, refl, map, sym, ap, ap₂, subst, ◌∙◌}
use Rattle.lv_formula.specs.declared.symbols.Sym.TheVariants.{Label}
use Rattle.lv_formula.specs.declared.terms.Term.TheVariants.{Var}
use Rattle.lv_formula.specs.declared.formula.Formula.{Formula}
use Rattle.lv_formula.specs.declared.formula.Formula.TheVariants as F
use Rattle.lv_formula.specs.declared.temporal.Temporal.TheVariants as T
use Rattle.lv_formula.specs.Fits.{all_fit_in}
use Rattle.lv_formula.specs.Symbols.{sym_eq}
use Rattle.lv_formula.specs.declared.symbols.Sym.TheVariants.{Own}
use Rattle.lv_formula.proofs.Folds as FF
use Rattle.lv_formula.proofs.TemporalFolds as TF
use Rattle.lv_system.specs.declared.parts.Invariant.{Invariant}
use Rattle.lv_system.specs.Fits.{fits_parts}
use Rattle.lv_system.specs.Names.{names_connective, names_item, names_of, names_operator, names_part, names_run}
use Rattle.lv_labels.specs.declared.key.Key.{Key}
use Rattle.lv_labels.specs.Labels.{key_eq, key_of, keys_of, label_atom, labels_of, number_of, reading}
use Rattle.lv_labels.specs.Once.{each_once, once_behind}
use Rattle.lv_labels.specs.Problem.{Problem, problem_of, problem_over}
use Rattle.lv_labels.specs.Renaming.{free_variables}
use Rattle.lv_labels.proofs.LabelsAt.{keys-All, keys-Always, keys-Atom, keys-Eventually, keys-Not, plain-Atom, plain-Not, read-All, read-Always, read-Atom, read-Eventually, read-Not, whole, wholes}
use Rattle.lv_labels.proofs.Sameness.{key_decides}
use Rattle.lv_labels.specs.Vocabularies.{catch_vocabulary}
use Rattle.lv_labels.specs.Obligations.{InvariantsFit, invariants_of}
use Rattle.lv_temporal.specs.Samples.{node}
use Rattle.lv_examples.specs.Visits.{done_then, is_at, unguarded, visits, visits_with}

abbrev missed_key : Key
missed_key = record { sorts = node ∷ []; inner = T.Not done_then }

key-missed : key_of (node ∷ []) (T.Not done_then) ≡ missed_key
key-missed = simp (TF.folds, TF.folds_at) refl

keys-always : keys_of (T.Always (T.Not done_then)) (node ∷ []) ≡ missed_key ∷ []
keys-always = keys-Always (T.Not done_then) (node ∷ [])
    ∙ ap (λ f. key_of (node ∷ []) f ∷ keys_of (T.Not done_then) (node ∷ [])) (plain-Not done_then ∙ ap T.Not (plain-Atom (Own 2) (Var 0 ∷ [])))
    ∙ ap (λ ks. key_of (node ∷ []) (T.Not done_then) ∷ ks) (keys-Not done_then (node ∷ []) ∙ keys-Atom (Own 2) (Var 0 ∷ []) (node ∷ []))
    ∙ ap (λ k. k ∷ []) key-missed

keys-property : keys_of (T.All node (T.Eventually done_then)) [] ≡ missed_key ∷ []
keys-property = keys-All node (T.Eventually done_then) [] ∙ keys-Eventually done_then (node ∷ [])
    ∙ ap (λ f. key_of (node ∷ []) (T.Not f) ∷ keys_of done_then (node ∷ [])) (plain-Atom (Own 2) (Var 0 ∷ []))
    ∙ ap (λ ks. key_of (node ∷ []) (T.Not done_then) ∷ ks) (keys-Atom (Own 2) (Var 0 ∷ []) (node ∷ []))
    ∙ ap (λ k. k ∷ []) key-missed

-- a label that stands alone stays so, where it comes again
again : (k : Key) → key_eq k k ≡ true → (ks : List Key) → once_behind key_eq (k ∷ []) (k ∷ ks) ≡ once_behind key_eq (k ∷ []) ks
again k h ks = ap (λ b. once_behind key_eq (cond (b || false) (k ∷ []) ((k ∷ []) ++ (k ∷ []))) ks) h

thrice : (k : Key) → key_eq k k ≡ true → each_once key_eq (k ∷ (k ∷ (k ∷ []))) ≡ k ∷ []
thrice k h = again k h (k ∷ []) ∙ again k h []

once : each_once key_eq (missed_key ∷ (missed_key ∷ (missed_key ∷ []))) ≡ missed_key ∷ []
once = thrice missed_key (key_decides.reflexive missed_key)

labels-visits : (is : List Invariant) → labels_of (visits_with is) ≡ missed_key ∷ []
labels-visits is = ap₂ (λ ks ls. each_once key_eq ((ks ++ []) ++ ((ks ++ []) ++ ls))) keys-always keys-property ∙ once

abbrev table : List Key
table = missed_key ∷ []

-- the atom of the label
abbrev pub missed : Formula
missed = F.Atom (Label 0) (Var 0 ∷ [])

abbrev pub done : Formula
done = F.Atom (Own 2) (Var 0 ∷ [])

free-missed : free_variables (T.Not done_then) ≡ 0 ∷ []
free-missed = simp TF.folds refl

number-missed : number_of table missed_key ≡ 0
number-missed = rw (key_decides.reflexive missed_key) refl

atom-missed : label_atom table (node ∷ []) (T.Not done_then) ≡ missed
atom-missed = ap₂ (λ n vs. F.Atom (Label n) (map Var vs)) (ap (number_of table) key-missed ∙ number-missed) free-missed

whole-done : whole table done_then ≡ done_then
whole-done = simp wholes refl

whole-not : whole table (T.Not done_then) ≡ T.Not done_then
whole-not = simp wholes refl

reading-witness : reading table (node ∷ []) (T.Always (T.Not done_then)) ≡ missed
reading-witness = read-Always table (T.Not done_then) (node ∷ []) ∙ ap (label_atom table (node ∷ [])) whole-not ∙ atom-missed

reading-property : reading table [] (T.All node (T.Eventually done_then)) ≡ F.All node (F.Not missed)
reading-property = read-All table node (T.Eventually done_then) []
    ∙ ap (F.All node) (read-Eventually table done_then (node ∷ [])
    ∙ ap F.Not (ap (λ f. label_atom table (node ∷ []) (T.Not f)) whole-done ∙ atom-missed))

reading-body : reading table (node ∷ []) (T.Not done_then) ≡ F.Not done
reading-body = read-Not table done_then (node ∷ []) ∙ ap F.Not (read-Atom table (Own 2) (Var 0 ∷ []) (node ∷ []))

abbrev with_readings : List Invariant → Formula → Formula → Formula → Problem
with_readings is property witness body = record {
  parts = visits_with is;
  denied = F.Not property;
  choices = record { sort = node; body = witness } ∷ [];
  labels = record { sorts = node ∷ []; body = body } ∷ [];
  justice = record { sorts = node ∷ []; body = is_at 0 } ∷ (record { sorts = node ∷ []; body = F.Or (missed ∷ (F.Not body ∷ [])) } ∷ []);
}

-- the system with its labels, written out
abbrev pub problem : List Invariant → Problem
problem is = with_readings is (F.All node (F.Not missed)) missed (F.Not done)

written_out : (is : List Invariant) → problem_over table (visits_with is) ≡ problem is
written_out is = ap₂ (λ f g. with_readings is f g (reading table (node ∷ []) (T.Not done_then))) reading-property reading-witness
    ∙ ap (with_readings is (F.All node (F.Not missed)) missed) reading-body

pub problem-visits : (is : List Invariant) → problem_of (visits_with is) ≡ problem is
problem-visits is = ap (λ ks. problem_over ks (visits_with is)) (labels-visits is) ∙ written_out is

-- ---- it fits

pub visits_fit : fits_parts visits ≡ true
unfolding sym_eq names_of names_item names_part names_connective names_operator names_run
visits_fit = simp (FF.folds, FF.folds_at, TF.folds, TF.folds_at) refl

pub unguarded_fits : fits_parts unguarded ≡ true
unfolding sym_eq names_of names_item names_part names_connective names_operator names_run
unguarded_fits = simp (FF.folds, FF.folds_at, TF.folds, TF.folds_at) refl

pub visits_invariants_fit : InvariantsFit visits
unfolding sym_eq
visits_invariants_fit = subst (λ r. all_fit_in (catch_vocabulary r) [] (invariants_of visits) ≡ true)
    (sym (problem-visits visits.invariants)) (simp (FF.folds_at) refl)

pub unguarded_invariants_fit : InvariantsFit unguarded
unfolding sym_eq
unguarded_invariants_fit = subst (λ r. all_fit_in (catch_vocabulary r) [] (invariants_of unguarded) ≡ true)
    (sym (problem-visits unguarded.invariants)) (simp (FF.folds_at) refl)
