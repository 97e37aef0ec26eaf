-- A lasso run that violates the property, unrolled, is a labelled run.
use Rattle.std.proofs.Common.{◌≡◌, ℕ, zero, suc, ◌<◌, ◌≤◌, Bool, true, false, not, ◌&&◌, ltb, List, [], ◌∷◌, length, reverse, Some, None, refl, sym, ap, ap₂, subst, ◌∙◌, inl, inr, lt-ltb, zero-le}
use Rattle.std.proofs.lemmas.Bool.{and_from}
use Rattle.std.proofs.lemmas.List.{get_or-map, length-map}
use Rattle.lv_formula.specs.declared.symbols.SortId.{SortId}
use Rattle.lv_formula.specs.declared.symbols.Sym.{Sym}
use Rattle.lv_formula.specs.declared.symbols.Sym.TheVariants.{Label, Witness}
use Rattle.lv_formula.specs.declared.formula.Formula.TheVariants.{Any}
use Rattle.lv_formula.specs.declared.temporal.Temporal.TheVariants as T
use Rattle.lv_formula.specs.Vocabulary.{constant_in}
use Rattle.lv_formula.proofs.Folds.{fold_at-Any, fold_at-Not}
use Rattle.lv_formula.specs.Meaning.{IsStructureOf, in_range, is_element}
use Rattle.lv_formula.specs.Truth.{Env, truth_in, truth_step}
use Rattle.lv_system.specs.declared.parts.Parts.{Parts}
use Rattle.lv_system.specs.Lasso.{IsLassoRun}
use Rattle.lv_system.specs.Step.{IsAllowed, IsPerformed, action_at}
use Rattle.lv_system.specs.TemporalTruth.{Lasso, end_of, holds, at_each_later}
use Rattle.lv_system.specs.Vocabularies.{own_vocabulary, witness_vocabulary}
use Rattle.lv_labels.specs.Labels.{labels_of, reading}
use Rattle.lv_labels.specs.Problem.{choice_at, choice_of, label_at, label_condition, no_choice, no_condition, problem_of}
use Rattle.lv_labels.specs.Runs.{IsLabelledRun, IsStart, IsState, LabelEquation, Run}
use Rattle.lv_temporal.specs.TrueLabels.{chosen, key_at, no_key, no_witness, position_on, true_table, witness_at}
use Rattle.lv_formula.proofs.Below.{any_below_same}
use Rattle.lv_labels.proofs.Later.{later_step, next_bound}
use Rattle.lv_temporal.proofs.FitsMore.{all_fit_more, fixed_extends}
use Rattle.lv_labels.proofs.HoldsAt.{holds-Always}
use Rattle.lv_temporal.proofs.OwnTruth.{own_agrees, own_element, own_holds, own_truth, own_truths}
use Rattle.lv_labels.proofs.Ranges.{over_reverse, over_same}
use Rattle.lv_temporal.proofs.ReadingTruth.{reading_true, shown}
use Rattle.lv_temporal.proofs.Scoped.{IsScoped}
use Rattle.lv_temporal.proofs.TableFits.{all_witnesses, key_inside, key_stands, property_inside, witness_inside}
use Rattle.lv_temporal.proofs.Vocabularies.{IsEarly, constant_cases, no_own_constant, witness_apart, witness_vocabulary_plain}
use Rattle.lv_temporal.proofs.Witnesses.{chosen_is, chosen_meets, holds_alike, pick_below}

-- the lasso unrolled, as functions of the position
abbrev pub unrolled_run : Parts → Lasso → (ℕ → ℕ) → ℕ → Run
unrolled_run p l witnesses last = record {
  at = λ i. shown p l witnesses (position_on l i);
  action = λ i. l.action (position_on l i);
  elements = λ i. l.elements (position_on l i);
  last = last;
}

-- the elements that are chosen for all witnesses
abbrev pub all_chosen : Parts → Lasso → ℕ → ℕ
all_chosen p l = chosen p l (length p.witnesses)

-- a label of the problem is made of the label in the table
pub label_at_is : (p : Parts) (n : ℕ) → n < length (labels_of p) → label_at (problem_of p) n ≡ label_condition (labels_of p) (key_at p n)
label_at_is p n lt = get_or-map (label_condition (labels_of p)) (labels_of p) n no_key no_condition lt

-- a choice of the problem is made of the witness
pub choice_at_is : (p : Parts) (k : ℕ) → k < length p.witnesses → choice_at (problem_of p) k ≡ choice_of (labels_of p) (witness_at p k)
choice_at_is p k lt = get_or-map (choice_of (labels_of p)) p.witnesses k no_witness no_choice lt

module _ (p : Parts) (l : Lasso) (run : IsLassoRun p l) where
  -- each position of the unrolled run is on the lasso
  pub position_bound : (i : ℕ) → position_on l i ≤ end_of l
  position_bound zero = zero-le
  position_bound (suc i) = next_bound l (position_on l i) (position_bound i)

  -- the sorts have one size at all positions
  pub size_at : (i : ℕ) (s : SortId) → (l.state (position_on l i)).size s ≡ (l.state 0).size s
  size_at zero s = refl
  size_at (suc i) s = (run.steps (position_on l i) (position_bound i)).sizes s ∙ size_at i s

  -- each state is a structure over the own symbols
  pub structure_at : (i : ℕ) → IsStructureOf (own_vocabulary p) (l.state (position_on l i))
  structure_at i = run.structures (position_on l i) (position_bound i)

  -- what is in range at one position is so at another
  pub range_moves : (i j : ℕ) (ss : List SortId) (es : List ℕ) → in_range (l.state (position_on l i)) ss es ≡ in_range (l.state (position_on l j)) ss es
  range_moves i j ss es = over_same (is_element (l.state (position_on l i))) (is_element (l.state (position_on l j))) (λ s e. ap (ltb e) (size_at i s ∙ sym (size_at j s))) ss es

  -- a chosen element is one of the witness's sort
  pub chosen_below : (k : ℕ) → k < length p.witnesses → all_chosen p l k < (l.state 0).size (witness_at p k).sort
  chosen_below k lt = rw (chosen_is p l (length p.witnesses) k lt) (pick_below ((l.state 0).size (witness_at p k).sort) _ ((structure_at 0).sizes (witness_at p k).sort))

  early_below : (i : ℕ) (c : Sym) (s : SortId) → IsEarly p (length p.witnesses) c s → (shown p l (all_chosen p l) (position_on l i)).value c < (l.state (position_on l i)).size s
  early_below i c s r = subst (λ x. (shown p l (all_chosen p l) (position_on l i)).value x < (l.state (position_on l i)).size s) (sym r.name)
      (subst (λ n. all_chosen p l r.number < n) (sym (size_at i s)) (subst (λ x. all_chosen p l r.number < (l.state 0).size x) (sym r.sort) (chosen_below r.number r.below)))

  -- each position has a structure over the own symbols and the witnesses
  pub state_at : (i : ℕ) → IsState (problem_of p) (shown p l (all_chosen p l) (position_on l i))
  state_at i = record {
    sizes = λ s. (structure_at i).sizes s;
    constants = λ c s h. elim (constant_cases p (length p.witnesses) c s h) [
      | inl e ↦ subst (λ x. x < (l.state (position_on l i)).size s) ((own_agrees p l (all_chosen p l) (position_on l i)).constants c s e) ((structure_at i).constants c s e)
      | inr r ↦ early_below i c s r
    ];
  }

  module _ (scoped : IsScoped p) where
    -- the body of a label is true where its formula holds
    pub body_true : (i n : ℕ) → n < length (labels_of p) → (tuple : List ℕ) → in_range (l.state (position_on l i)) (key_at p n).sorts tuple ≡ true
        → truth_in (shown p l (all_chosen p l) (position_on l i)) (reading (labels_of p) (reverse (key_at p n).sorts) (key_at p n).inner) (reverse tuple) ≡ holds l (all_chosen p l) (key_at p n).inner (position_on l i) (reverse tuple)
    body_true i n lt tuple range = reading_true (all_witnesses p) (witness_vocabulary_plain p (length p.witnesses)) p l (all_chosen p l) (key_at p n).inner (reverse (key_at p n).sorts) (position_on l i) (reverse tuple)
        (key_stands p scoped n lt) (key_inside p n lt) (over_reverse (is_element (l.state (position_on l i))) (key_at p n).sorts tuple range)

    -- a true table in range is what always holds of the label's formula
    pub table_is : (i n : ℕ) → n < length (labels_of p) → (tuple : List ℕ) → in_range (l.state (position_on l i)) (key_at p n).sorts tuple ≡ true
        → true_table p l (all_chosen p l) (position_on l i) n tuple ≡ at_each_later l (position_on l i) (λ j. holds l (all_chosen p l) (key_at p n).inner j (reverse tuple))
    table_is i n lt tuple range = ap₂ (λ x y. x && (y && holds l (all_chosen p l) (T.Always (key_at p n).inner) (position_on l i) (reverse tuple))) (lt-ltb n (length (labels_of p)) lt) range
        ∙ holds-Always l (all_chosen p l) (key_at p n).inner (position_on l i) (reverse tuple)

    equation_at : (i n : ℕ) → n < length (labels_of p) → (tuple : List ℕ) → in_range (l.state (position_on l i)) (key_at p n).sorts tuple ≡ true
        → true_table p l (all_chosen p l) (position_on l i) n tuple
        ≡ (truth_in (shown p l (all_chosen p l) (position_on l i)) (reading (labels_of p) (reverse (key_at p n).sorts) (key_at p n).inner) (reverse tuple) && true_table p l (all_chosen p l) (position_on l (suc i)) n tuple)
    equation_at i n lt tuple range =
        table_is i n lt tuple range
        ∙ (later_step l (position_on l i) (λ j. holds l (all_chosen p l) (key_at p n).inner j (reverse tuple)) (position_bound i)
        ∙ ap₂ (λ x y. x && y) (sym (body_true i n lt tuple range)) (sym (table_is (suc i) n lt tuple (range_moves (suc i) i (key_at p n).sorts tuple ∙ range))))

    labels_at : (i : ℕ) → LabelEquation (problem_of p) (shown p l (all_chosen p l) (position_on l i)) (λ n tuple. (shown p l (all_chosen p l) (position_on l (suc i))).holds (Label n) tuple)
    labels_at i n b tuple range =
        let lt : n < length (labels_of p) = rw (length-map (labels_of p) (label_condition (labels_of p))) at b in
        equation_at i n lt tuple (ap (λ c. in_range (l.state (position_on l i)) (c.sorts) tuple) (sym (label_at_is p n lt)) ∙ range)
        ∙ ap (λ c. truth_in (shown p l (all_chosen p l) (position_on l i)) (c.body) (reverse tuple) && true_table p l (all_chosen p l) (position_on l (suc i)) n tuple) (sym (label_at_is p n lt))

    step_at : (i : ℕ) → IsPerformed p (action_at p (l.action (position_on l i))) (l.elements (position_on l i)) (shown p l (all_chosen p l) (position_on l i)) (shown p l (all_chosen p l) (position_on l (suc i)))
    step_at i = let step : IsPerformed p (action_at p (l.action (position_on l i))) (l.elements (position_on l i)) (l.state (position_on l i)) (l.state (position_on l (suc i))) = run.steps (position_on l i) (position_bound i) in record {
      sizes = step.sizes;
      relations = λ r tuple. step.relations r tuple ∙ own_holds p l (all_chosen p l) (position_on l i) (structure_at i) (action_at p (l.action (position_on l i))).params (l.elements (position_on l i)) (run.allowed (position_on l i) (position_bound i)).in_sorts
          (action_at p (l.action (position_on l i))).updates (scoped.updates (l.action (position_on l i)) (run.actions (position_on l i) (position_bound i))) r tuple;
      constants = λ c. step.constants c ∙ own_element p l (all_chosen p l) (position_on l i) (structure_at i) (action_at p (l.action (position_on l i))).params (l.elements (position_on l i)) (run.allowed (position_on l i) (position_bound i)).in_sorts
          (action_at p (l.action (position_on l i))).updates (scoped.updates (l.action (position_on l i)) (run.actions (position_on l i) (position_bound i))) c;
    }

    allowed_at : (i : ℕ) → IsAllowed (action_at p (l.action (position_on l i))) (l.elements (position_on l i)) (shown p l (all_chosen p l) (position_on l i))
    allowed_at i = let allowed : IsAllowed (action_at p (l.action (position_on l i))) (l.elements (position_on l i)) (l.state (position_on l i)) = run.allowed (position_on l i) (position_bound i) in record {
      in_sorts = allowed.in_sorts;
      guard = sym (own_truth p l (all_chosen p l) (position_on l i) (structure_at i) (action_at p (l.action (position_on l i))).guard (reverse (action_at p (l.action (position_on l i))).params) (reverse (l.elements (position_on l i)))
          (scoped.guards (l.action (position_on l i)) (run.actions (position_on l i) (position_bound i))) (over_reverse (is_element (l.state (position_on l i))) (action_at p (l.action (position_on l i))).params (l.elements (position_on l i)) allowed.in_sorts)) ∙ allowed.guard;
    }

    witness_reading : (k : ℕ) → k < length p.witnesses → (x : ℕ) → x < (l.state 0).size (witness_at p k).sort
        → truth_in (shown p l (all_chosen p l) 0) (reading (labels_of p) ((witness_at p k).sort ∷ []) (witness_at p k).formula) (x ∷ []) ≡ holds l (all_chosen p l) (witness_at p k).formula 0 (x ∷ [])
    witness_reading k lt x below = reading_true (witness_vocabulary p k) (witness_vocabulary_plain p k) p l (all_chosen p l) (witness_at p k).formula ((witness_at p k).sort ∷ []) 0 (x ∷ [])
        (scoped.witnesses k lt) (witness_inside p k lt) (and_from (is_element (l.state 0) (witness_at p k).sort x) true (lt-ltb x ((l.state 0).size (witness_at p k).sort) below) refl)

    meets : (k : ℕ) → k < length p.witnesses → truth_in (shown p l (all_chosen p l) 0) (Any (witness_at p k).sort (reading (labels_of p) ((witness_at p k).sort ∷ []) (witness_at p k).formula)) [] ≡ true
        → truth_in (shown p l (all_chosen p l) 0) (reading (labels_of p) ((witness_at p k).sort ∷ []) (witness_at p k).formula) (all_chosen p l k ∷ []) ≡ true
    meets k lt h =
        witness_reading k lt (all_chosen p l k) (chosen_below k lt)
        ∙ chosen_meets p l (length p.witnesses) k lt (scoped.witnesses k lt)
        (sym (any_below_same ((l.state 0).size (witness_at p k).sort) (λ x. truth_in (shown p l (all_chosen p l) 0) (reading (labels_of p) ((witness_at p k).sort ∷ []) (witness_at p k).formula) (x ∷ []))
        (λ x. holds l (all_chosen p l) (witness_at p k).formula 0 (x ∷ [])) (witness_reading k lt))
        ∙ (sym (fold_at-Any Bool Env (truth_step (shown p l (all_chosen p l) 0)) (witness_at p k).sort (reading (labels_of p) ((witness_at p k).sort ∷ []) (witness_at p k).formula) []) ∙ h))

    none_own : (k : ℕ) (s : SortId) → constant_in (own_vocabulary p).constants (Witness k) ≡ Some s → all_chosen p l k ≡ 0
    none_own k s h = absurd (none_some (no_own_constant (Witness k) (witness_apart k) 0 p.symbols) h)
      where
        none_some : constant_in (own_vocabulary p).constants (Witness k) ≡ None → constant_in (own_vocabulary p).constants (Witness k) ≡ Some s → ⊥
        none_some e h = cc

    module _ (violated : holds l (λ k. 0) p.property 0 [] ≡ false) where
      start : IsStart (problem_of p) (shown p l (all_chosen p l) 0)
      start = record {
        axioms = sym (own_truths p l (all_chosen p l) 0 (structure_at 0) p.axioms (all_fit_more _ (own_vocabulary p) (fixed_extends p) p.axioms [] scoped.axioms)) ∙ run.axioms;
        inits = sym (own_truths p l (all_chosen p l) 0 (structure_at 0) p.inits scoped.inits) ∙ run.inits;
        denied = fold_at-Not Bool Env (truth_step (shown p l (all_chosen p l) 0)) (reading (labels_of p) [] p.property) []
            ∙ ap not (reading_true (own_vocabulary p) (witness_vocabulary_plain p 0) p l (all_chosen p l) p.property [] 0 [] scoped.property (property_inside p) refl
            ∙ (holds_alike (own_vocabulary p) l (all_chosen p l) (λ k. 0) none_own p.property [] 0 [] scoped.property ∙ violated));
        chosen = λ k b h. let lt : k < length p.witnesses = rw (length-map p.witnesses (choice_of (labels_of p))) at b in
            subst (λ c. truth_in (shown p l (all_chosen p l) 0) (Any c.sort c.body) [] ≡ true → truth_in (shown p l (all_chosen p l) 0) c.body (all_chosen p l k ∷ []) ≡ true) (sym (choice_at_is p k lt)) (meets k lt) h;
      }

      -- a lasso run that violates the property, unrolled, with the true tables and the chosen witnesses, is a labelled run
      pub labelled_run : (last : ℕ) → IsLabelledRun (problem_of p) (unrolled_run p l (all_chosen p l) last)
      labelled_run last = record {
        structures = λ i b. state_at i;
        start = start;
        actions = λ i b. run.actions (position_on l i) (position_bound i);
        allowed = λ i b. allowed_at i;
        steps = λ i b. step_at i;
        witnesses = λ i b k. refl;
        labels = λ i b. labels_at i;
      }
