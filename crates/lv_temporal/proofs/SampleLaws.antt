-- What holds of the sample system and of its lasso run.
use Rattle.std.proofs.Common.{◌≡◌, ℕ, zero, suc, ◌<◌, ◌≤◌, true, false, ◌||◌, cond, [], ◌∷◌, length, map, refl, ap, ap₂, ◌∙◌, arith}
use Rattle.lv_formula.specs.declared.symbols.Sym.TheVariants.{Label}
use Rattle.lv_formula.specs.declared.terms.Term.TheVariants.{Var}
use Rattle.lv_formula.specs.declared.formula.Formula.TheVariants as F
use Rattle.lv_formula.specs.declared.temporal.Temporal.{Temporal}
use Rattle.lv_formula.specs.declared.temporal.Temporal.TheVariants as T
use Rattle.lv_formula.proofs.Folds.{folds as formulas, folds_at as formulas_at}
use Rattle.lv_formula.proofs.TemporalFolds.{folds, folds_at}
use Rattle.lv_formula.specs.Symbols.{sym_eq}
use Rattle.lv_formula.specs.Meaning.{IsStructureOf}
use Rattle.lv_system.specs.Fits.{fits_parts}
use Rattle.lv_system.specs.Names.{names_of, names_item, names_part, names_connective, names_operator, names_run}
use Rattle.lv_system.specs.Lasso.{IsFair, IsLassoRun, lasso_of}
use Rattle.lv_system.specs.Step.{IsAllowed, IsPerformed, action_at}
use Rattle.lv_system.specs.TemporalTruth.{Lasso, end_of, holds, next_of}
use Rattle.lv_system.specs.Vocabularies.{own_vocabulary}
use Rattle.lv_labels.specs.Once.{each_once}
use Rattle.lv_labels.specs.Renaming.{free_variables}
use Rattle.lv_labels.specs.declared.key.Key.{Key}
use Rattle.lv_labels.specs.Labels.{key_eq, key_of, keys_of, label_atom, labels_of, number_of, reading}
use Rattle.lv_temporal.specs.Samples.{link, link_atom, link_label, links, node, without_links}
use Rattle.lv_labels.proofs.HoldsAt.{held}
use Rattle.lv_labels.proofs.LabelsAt.{keys, read-All, read-Always, read-Or, whole, wholes}
use Rattle.lv_labels.proofs.Sameness.{key_decides}

-- the system fits
pub links_fit : fits_parts links ≡ true
unfolding names_of names_item names_part names_connective names_operator names_run sym_eq
links_fit = simp (formulas, formulas_at, folds, folds_at) refl

-- ---- labels

itself : key_eq link_label link_label ≡ true
itself = key_decides.reflexive link_label

-- an item that stands twice is left once
once_of_two : (k : Key) → key_eq k k ≡ true → each_once key_eq (k ∷ k ∷ []) ≡ k ∷ []
once_of_two k h = ap (λ b. cond (b || false) (k ∷ []) (k ∷ k ∷ [])) h

keys_of_both : keys_of links.property [] ≡ link_label ∷ link_label ∷ []
keys_of_both = simp (keys, folds, folds_at) refl

-- there is one label
pub links_labels : labels_of links ≡ link_label ∷ []
links_labels = ap (each_once key_eq) keys_of_both ∙ once_of_two link_label itself

first_key : key_of (node ∷ node ∷ []) (link 1 0) ≡ link_label
first_key = simp (folds, folds_at) refl

second_key : key_of (node ∷ node ∷ []) (link 0 1) ≡ link_label
second_key = simp (folds, folds_at) refl

number : number_of (link_label ∷ []) link_label ≡ 0
number = ap (λ b. cond b 0 1) itself

first_atom : label_atom (link_label ∷ []) (node ∷ node ∷ []) (link 1 0) ≡ link_atom 1 0
first_atom = ap₂ (λ n vs. F.Atom (Label n) (map Var vs)) (ap (number_of (link_label ∷ [])) first_key ∙ number) free
  where
    free : free_variables (link 1 0) ≡ 1 ∷ 0 ∷ []
    free = simp folds refl

second_atom : label_atom (link_label ∷ []) (node ∷ node ∷ []) (link 0 1) ≡ link_atom 0 1
second_atom = ap₂ (λ n vs. F.Atom (Label n) (map Var vs)) (ap (number_of (link_label ∷ [])) second_key ∙ number) free
  where
    free : free_variables (link 0 1) ≡ 0 ∷ 1 ∷ []
    free = simp folds refl

whole_link : (i j : ℕ) → whole (link_label ∷ []) (link i j) ≡ link i j
whole_link i j = simp wholes refl

always_link : (i j : ℕ) → reading (link_label ∷ []) (node ∷ node ∷ []) (T.Always (link i j)) ≡ label_atom (link_label ∷ []) (node ∷ node ∷ []) (link i j)
always_link i j = read-Always (link_label ∷ []) (link i j) (node ∷ node ∷ []) ∙ ap (label_atom (link_label ∷ []) (node ∷ node ∷ [])) (whole_link i j)

-- both parts are read as atoms of the one label
pub links_reading : reading (labels_of links) [] links.property ≡ F.All node (F.All node (F.Or (link_atom 1 0 ∷ link_atom 0 1 ∷ [])))
links_reading =
    ap (λ table. reading table [] links.property) links_labels
    ∙ (read-All (link_label ∷ []) node (T.All node both) []
    ∙ ap (F.All node) (read-All (link_label ∷ []) node both (node ∷ [])
    ∙ ap (F.All node) (read-Or (link_label ∷ []) (T.Always (link 1 0) ∷ T.Always (link 0 1) ∷ []) (node ∷ node ∷ [])
    ∙ ap₂ (λ f g. F.Or (f ∷ g ∷ [])) (always_link 1 0 ∙ first_atom) (always_link 0 1 ∙ second_atom))))
  where
    both : Temporal
    both = T.Or (T.Always (link 1 0) ∷ T.Always (link 0 1) ∷ [])

-- ---- the lasso run

-- standing still is a lasso run of the system
pub still_run : IsLassoRun links (lasso_of [] (without_links ∷ []))
still_run = record {
  structures = structures;
  axioms = refl;
  inits = refl;
  actions = actions;
  allowed = allowed;
  steps = steps;
}
  where
    still : Lasso
    still = lasso_of [] (without_links ∷ [])

    structures : (i : ℕ) → i ≤ end_of still → IsStructureOf (own_vocabulary links) (still.state i)
    structures zero b = record { sizes = λ s. omega arith; constants = λ c s h. cc }
    structures (suc i) b = absurd (omega (arith, b))

    actions : (i : ℕ) → i ≤ end_of still → still.action i < length links.actions
    actions zero b = omega arith
    actions (suc i) b = absurd (omega (arith, b))

    allowed : (i : ℕ) → i ≤ end_of still → IsAllowed (action_at links (still.action i)) (still.elements i) (still.state i)
    allowed zero b = record { in_sorts = refl; guard = simp formulas_at refl }
    allowed (suc i) b = absurd (omega (arith, b))

    steps : (i : ℕ) → i ≤ end_of still → IsPerformed links (action_at links (still.action i)) (still.elements i) (still.state i) (still.state (next_of still i))
    steps zero b = record { sizes = λ s. refl; relations = λ r tuple. refl; constants = λ c. refl }
    steps (suc i) b = absurd (omega (arith, b))

-- its loop is fair, since the system has no fairness condition
pub still_fair : IsFair links (lasso_of [] (without_links ∷ []))
still_fair = λ j b. absurd (omega (arith, b))

-- the property does not hold on it
pub still_violates : holds (lasso_of [] (without_links ∷ [])) (λ k. 0) links.property 0 [] ≡ false
still_violates = simp held refl
