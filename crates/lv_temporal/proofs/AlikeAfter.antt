-- Structures that agree on the vocabulary of a step agree after the step.
use Rattle.std.proofs.Common.{◌≡◌, ℕ, suc, ◌+◌, ◌<◌, true, false, not, ◌&&◌, ◌||◌, eqb, List, [], ◌∷◌, ◌++◌, length, reverse, Some, refl, sym, ap, ap₂, subst, ◌∙◌, arith}
use Rattle.std.specs.List.{All}
use Rattle.std.proofs.lemmas.Bool.{and_parts, cond_both, eqb-true, ltb-true}
use Rattle.lv_formula.specs.declared.symbols.SortId.{SortId}
use Rattle.lv_formula.specs.declared.symbols.Sym.{Sym}
use Rattle.lv_formula.specs.declared.symbols.Sym.TheVariants.{Own, Witness, Label, Frozen, Saved, Touched, Kept, Due, Copy, CopyLabel, Next, Param}
use Rattle.lv_formula.specs.declared.formula.Formula.{Formula}
use Rattle.lv_formula.specs.declared.terms.Term.{Term}
use Rattle.lv_formula.specs.declared.terms.Term.TheVariants.{Var, Const}
use Rattle.lv_formula.specs.declared.vocabulary.Vocabulary.{Vocabulary}
use Rattle.lv_formula.specs.Fits.{fits_in, sort_of}
use Rattle.lv_formula.specs.Vocabulary.{relation_in}
use Rattle.lv_formula.specs.Meaning.{AgreeOn, IsStructureOf, Meaning, in_range, is_element}
use Rattle.lv_formula.specs.Truth.{truth_in, value_of}
use Rattle.lv_formula.proofs.AgreeLaw.{same_sort, term_agrees}
use Rattle.lv_system.specs.declared.parts.Action.{Action}
use Rattle.lv_system.specs.declared.parts.ActionUpdate.{ActionUpdate}
use Rattle.lv_system.specs.declared.parts.ActionUpdate.TheVariants.{Relation, Constant}
use Rattle.lv_system.specs.Step.{set_holds, set_value, symbol_at}
use Rattle.lv_system.specs.Vocabularies.{constant_sort, own_vocabulary, relation_sorts}
use Rattle.lv_labels.specs.Problem.{Problem, justice_at, label_at, state_vocabulary}
use Rattle.lv_labels.specs.Runs.{is_constant, is_passed}
use Rattle.lv_formula.proofs.Below.{any_below_same}
use Rattle.lv_temporal.proofs.Fits.{Extends}
use Rattle.lv_labels.specs.declared.moves.Move.{Move}
use Rattle.lv_labels.specs.Monitor.{elements_in, is_due_then, is_freeze, is_gained, is_new_value, is_save, is_touched, params_in, stepped, stepped_holds, stepped_value}
use Rattle.lv_labels.specs.Vocabularies.{catch_vocabulary, step_vocabulary}
use Rattle.lv_temporal.proofs.Differ.{AreSortsThere}
use Rattle.lv_temporal.proofs.Found.{IsConstantWord, IsRelationWord, catch-constant_found, catch-constant_step, catch-found, catch-step, copy-catch, copy-constant_catch, copy_label-catch, due-catch, frozen-catch, kept-catch, label-state, next-step, own-constant_state, own-state, param-step, saved-catch, touched-catch, witness-state}
use Rattle.lv_temporal.proofs.Alike.{and_same, cond_also, cond_same, over_agrees, own_constant, range_same, single_agrees, single_range, some_same, state_truth, witness_value}
use Rattle.lv_labels.proofs.Ranges.{over_append, over_reverse}
use Rattle.lv_temporal.proofs.FitsMore.{fits_more}
use Rattle.lv_temporal.proofs.Extends.{state_extends_own, step_extends_state}
use Rattle.lv_temporal.proofs.ClosedFits.{IsFit, UpdatesFit}

pub term_more : (voc more : Vocabulary) → Extends voc more → (context : List SortId) (t : Term) (s : SortId) → sort_of voc context t ≡ Some s → sort_of more context t ≡ Some s
term_more voc more extends context (Var v) s h = h
term_more voc more extends context (Const c) s h = extends.constants c s h

module _ (q : Problem) (there : AreSortsThere q) (choices : length q.choices ≡ length q.parts.witnesses) (fit : IsFit q)
    (a : Action) (updates : UpdatesFit q.parts a.params a.updates)
    (m n : Meaning) (sound : IsStructureOf (step_vocabulary q a) m) (agrees : AgreeOn (step_vocabulary q a) m n)
    (elements : in_range m a.params (elements_in m a) ≡ true) where
  abbrev IsThere : SortId → Type 0
  IsThere s = s.0 < length q.parts.sorts

  abbrev extends : Extends (state_vocabulary q) (step_vocabulary q a)
  extends = step_extends_state q a

  own_extends : Extends (own_vocabulary q.parts) (state_vocabulary q)
  own_extends = state_extends_own q

  truth_same : (f : Formula) (context : List SortId) (env : List ℕ) → fits_in (state_vocabulary q) context f ≡ true → in_range m context env ≡ true → truth_in m f env ≡ truth_in n f env
  truth_same = state_truth q there choices m n (step_vocabulary q a) extends sound agrees

  constant_same : (c : ℕ) (s : SortId) → c < length q.parts.symbols → constant_sort (symbol_at q.parts c).shape ≡ Some s → m.value (Own c) ≡ n.value (Own c)
  constant_same = own_constant q there choices m n (step_vocabulary q a) extends sound agrees

  in_range_same : (sorts : List SortId) → All IsThere sorts → (tuple : List ℕ) → in_range m sorts tuple ≡ in_range n sorts tuple
  in_range_same = range_same q there choices m n (step_vocabulary q a) extends sound agrees

  -- ---- the elements of the step

  params_same : (k : ℕ) (ss : List SortId) → ((i : ℕ) → i < length ss → m.value (Param (k + i)) ≡ n.value (Param (k + i))) → params_in m k ss ≡ params_in n k ss
  params_same k [] h = refl
  params_same k (s ∷ ss) h = ap₂ (λ x xs. x ∷ xs)
      (let here : k + 0 ≡ k = omega arith in subst (λ j. m.value (Param j) ≡ n.value (Param j)) here (h 0 (omega arith)))
      (params_same (suc k) ss (λ i l. let next : k + suc i ≡ suc k + i = omega arith in subst (λ j. m.value (Param j) ≡ n.value (Param j)) next (h (suc i) (omega arith))))

  pub elements_same : elements_in m a ≡ elements_in n a
  elements_same = params_same 0 a.params (λ i l. let z : i ≡ 0 + i = omega arith in subst (λ j. m.value (Param j) ≡ n.value (Param j)) z (agrees.constants (Param i) _ (param-step q a i l)))

  -- ---- the action

  abbrev es : List ℕ
  es = elements_in m a

  body_inside : (sorts : List SortId) (tuple : List ℕ) → in_range m sorts tuple ≡ true → in_range m (reverse (a.params ++ sorts)) (reverse (es ++ tuple)) ≡ true
  body_inside sorts tuple inside = over_reverse (is_element m) (a.params ++ sorts) (es ++ tuple) (over_append (is_element m) a.params sorts es tuple elements inside)

  set_holds_same : (us : List ActionUpdate) → UpdatesFit q.parts a.params us → (r : ℕ) (sorts : List SortId) → r < length q.parts.symbols → relation_sorts (symbol_at q.parts r).shape ≡ Some sorts
      → (tuple : List ℕ) → in_range m sorts tuple ≡ true → set_holds q.parts es m us r tuple ≡ set_holds q.parts es n us r tuple
  set_holds_same [] f r sorts l is tuple inside = agrees.relations (Own r) sorts (extends.relations (Own r) sorts (own-state q r sorts l is)) tuple inside
  set_holds_same (Relation symbol body ∷ us) f r sorts l is tuple inside = cond_same (eqb symbol r) _ _ _ _
      (λ e. let here : symbol ≡ r = eqb-true symbol r e in
      let known : f.0.0 ≡ sorts = some_same (relation_sorts (symbol_at q.parts r).shape) f.0.0 sorts (subst (λ j. relation_sorts (symbol_at q.parts j).shape ≡ Some f.0.0) here f.0.2) is in
      ap₂ (λ b c. b && c)
      (rw (is) (in_range_same sorts (there.relations r sorts l is) tuple))
      (truth_same body (reverse (a.params ++ sorts)) (reverse (es ++ tuple))
      (fits_more (own_vocabulary q.parts) (state_vocabulary q) own_extends body (reverse (a.params ++ sorts)) (subst (λ ss. fits_in (own_vocabulary q.parts) (reverse (a.params ++ ss)) body ≡ true) known f.0.4))
      (body_inside sorts tuple inside)))
      (set_holds_same us f.1 r sorts l is tuple inside)
  set_holds_same (Constant symbol term ∷ us) f r sorts l is tuple inside = set_holds_same us f.1 r sorts l is tuple inside

  env_inside : in_range m (reverse a.params) (reverse es) ≡ true
  env_inside = over_reverse (is_element m) a.params es elements

  term_same : (term : Term) (s : SortId) → sort_of (own_vocabulary q.parts) (reverse a.params) term ≡ Some s → (value_of m (reverse es) term ≡ value_of n (reverse es) term) × (is_element m s (value_of m (reverse es) term) ≡ true)
  term_same term s h = term_agrees (step_vocabulary q a) m n sound agrees (reverse a.params) (reverse es) term s
      (term_more (state_vocabulary q) (step_vocabulary q a) extends (reverse a.params) term s (term_more (own_vocabulary q.parts) (state_vocabulary q) own_extends (reverse a.params) term s h)) env_inside

  set_value_same : (us : List ActionUpdate) → UpdatesFit q.parts a.params us → (c : ℕ) (s : SortId) → c < length q.parts.symbols → constant_sort (symbol_at q.parts c).shape ≡ Some s → set_value es m us c ≡ set_value es n us c
  set_value_same [] f c s l is = constant_same c s l is
  set_value_same (Relation symbol body ∷ us) f c s l is = set_value_same us f.1 c s l is
  set_value_same (Constant symbol term ∷ us) f c s l is = cond_also (eqb symbol c) _ _ _ _ (term_same term f.0.0 f.0.4).0 (set_value_same us f.1 c s l is)

  set_value_inside : (us : List ActionUpdate) → UpdatesFit q.parts a.params us → (c : ℕ) (s : SortId) → c < length q.parts.symbols → constant_sort (symbol_at q.parts c).shape ≡ Some s → set_value es m us c < m.size s
  set_value_inside [] f c s l is = sound.constants (Own c) s (extends.constants (Own c) s (own-constant_state q c s l is))
  set_value_inside (Relation symbol body ∷ us) f c s l is = set_value_inside us f.1 c s l is
  set_value_inside (Constant symbol term ∷ us) f c s l is = cond_both (eqb symbol c) (value_of m (reverse es) term) (set_value es m us c) (λ v. v < m.size s)
      (λ e. let here : symbol ≡ c = eqb-true symbol c e in
      let known : f.0.0 ≡ s = some_same (constant_sort (symbol_at q.parts c).shape) f.0.0 s (subst (λ j. constant_sort (symbol_at q.parts j).shape ≡ Some f.0.0) here f.0.2) is in
      ltb-true _ _ (subst (λ t. is_element m t (value_of m (reverse es) term) ≡ true) known (term_same term f.0.0 f.0.4).1))
      (λ e. set_value_inside us f.1 c s l is)

  own_after : (r : ℕ) (sorts : List SortId) → r < length q.parts.symbols → relation_sorts (symbol_at q.parts r).shape ≡ Some sorts → (tuple : List ℕ) → in_range m sorts tuple ≡ true
      → set_holds q.parts es m a.updates r tuple ≡ set_holds q.parts (elements_in n a) n a.updates r tuple
  own_after r sorts l is tuple inside = set_holds_same a.updates updates r sorts l is tuple inside ∙ ap (λ xs. set_holds q.parts xs n a.updates r tuple) elements_same

  constant_after : (c : ℕ) (s : SortId) → c < length q.parts.symbols → constant_sort (symbol_at q.parts c).shape ≡ Some s → set_value es m a.updates c ≡ set_value (elements_in n a) n a.updates c
  constant_after c s l is = set_value_same a.updates updates c s l is ∙ ap (λ xs. set_value xs n a.updates c) elements_same

  -- ---- the monitor

  catch_relation : (r : Sym) (sorts : List SortId) → relation_in (catch_vocabulary q).relations r ≡ Some sorts → (tuple : List ℕ) → in_range m sorts tuple ≡ true → m.holds r tuple ≡ n.holds r tuple
  catch_relation r sorts h tuple inside = agrees.relations r sorts (catch-step q a r sorts h) tuple inside

  touched_same : (s : SortId) → IsThere s → (x : ℕ) → is_element m s x ≡ true → is_touched m s x ≡ is_touched n s x
  touched_same s l x e = catch_relation (Touched s) (s ∷ []) (touched-catch q s l) (x ∷ []) (single_range m s x e)

  new_value_same : (s : SortId) (x : ℕ) → is_new_value q a m s x ≡ is_new_value q a n s x
  new_value_same s x = any_below_same (length q.parts.symbols) _ _ (λ c l.
      and_same (not (symbol_at q.parts c).fixed && is_constant (symbol_at q.parts c) s) _ _ (λ h. ap (λ v. eqb v x)
      (constant_after c s l (same_sort (constant_sort (symbol_at q.parts c).shape) s (and_parts (not (symbol_at q.parts c).fixed) (is_constant (symbol_at q.parts c) s) h).1))))

  gained_same : (s : SortId) (x : ℕ) → is_gained q a m s x ≡ is_gained q a n s x
  gained_same s x = ap₂ (λ b c. b || c) (ap (λ xs. is_passed a.params xs s x) elements_same) (new_value_same s x)

  due_then_same : (mv : Move) (j : ℕ) → j < length q.justice → (tuple : List ℕ) → in_range m (justice_at q j).sorts tuple ≡ true → is_due_then q mv m j tuple ≡ is_due_then q mv n j tuple
  due_then_same mv j l tuple inside = cond_also (is_freeze mv || is_save mv) _ _ _ _
      (over_agrees m (length q.parts.sorts) (is_touched m) (is_touched n) (λ s x b e. touched_same s b x e) (justice_at q j).sorts (there.justice j l) tuple inside)
      (catch_relation (Due j) (justice_at q j).sorts (due-catch q j l) tuple inside)

  due_after : (mv : Move) (j : ℕ) → j < length q.justice → (tuple : List ℕ) → in_range m (justice_at q j).sorts tuple ≡ true → stepped_holds q mv a m (Due j) tuple ≡ stepped_holds q mv a n (Due j) tuple
  due_after mv j l tuple inside = ap₂ (λ b c. b && not c) (due_then_same mv j l tuple inside)
      (truth_same (justice_at q j).body (reverse (justice_at q j).sorts) (reverse tuple) (fit.justice j l) (over_reverse (is_element m) (justice_at q j).sorts tuple inside))

  after_relation : (mv : Move) (r : Sym) (sorts : List SortId) → IsRelationWord q r sorts → (tuple : List ℕ) → in_range m sorts tuple ≡ true → stepped_holds q mv a m r tuple ≡ stepped_holds q mv a n r tuple
  after_relation mv (Own r) sorts w tuple inside = own_after r sorts w.0 w.1 tuple inside
  after_relation mv (Label l) sorts w tuple inside = agrees.relations (Next l) (label_at q l).sorts (next-step q a l w.0) tuple (subst (λ ss. in_range m ss tuple ≡ true) (sym w.1) inside)
  after_relation mv Frozen sorts w tuple inside = ap (λ b. is_freeze mv || b) (catch_relation Frozen [] (frozen-catch q) tuple (subst (λ ss. in_range m ss tuple ≡ true) (sym w) inside))
  after_relation mv Saved sorts w tuple inside = ap (λ b. is_save mv || b) (catch_relation Saved [] (saved-catch q) tuple (subst (λ ss. in_range m ss tuple ≡ true) (sym w) inside))
  after_relation mv (Touched s) sorts w tuple inside = single_agrees m s _ _ tuple (subst (λ ss. in_range m ss tuple ≡ true) (sym w.1) inside) (λ x e. ap₂ (λ b c. b || c) (gained_same s x) (touched_same s w.0 x e))
  after_relation mv (Kept s) sorts w tuple inside = let here : in_range m (s ∷ []) tuple ≡ true = subst (λ ss. in_range m ss tuple ≡ true) (sym w.1) inside in
      cond_also (is_freeze mv) _ _ _ _ (catch_relation (Touched s) (s ∷ []) (touched-catch q s w.0) tuple here) (catch_relation (Kept s) (s ∷ []) (kept-catch q s w.0) tuple here)
  after_relation mv (Due j) sorts w tuple inside = due_after mv j w.0 tuple (subst (λ ss. in_range m ss tuple ≡ true) (sym w.1) inside)
  after_relation mv (Copy r) sorts w tuple inside = cond_also (is_save mv) _ _ _ _
      (agrees.relations (Own r) sorts (extends.relations (Own r) sorts (own-state q r sorts w.0 w.2)) tuple inside) (catch_relation (Copy r) sorts (copy-catch q r sorts w.0 w.1 w.2) tuple inside)
  after_relation mv (CopyLabel l) sorts w tuple inside = let here : in_range m (label_at q l).sorts tuple ≡ true = subst (λ ss. in_range m ss tuple ≡ true) (sym w.1) inside in
      cond_also (is_save mv) _ _ _ _ (agrees.relations (Label l) (label_at q l).sorts (extends.relations (Label l) (label_at q l).sorts (label-state q l w.0)) tuple here) (catch_relation (CopyLabel l) (label_at q l).sorts (copy_label-catch q l w.0) tuple here)
  after_relation mv (Witness k) sorts w tuple inside = refl
  after_relation mv (Next l) sorts w tuple inside = refl
  after_relation mv (Param k) sorts w tuple inside = refl

  copy_same : (c : ℕ) (s : SortId) → c < length q.parts.symbols → (symbol_at q.parts c).fixed ≡ false → constant_sort (symbol_at q.parts c).shape ≡ Some s → m.value (Copy c) ≡ n.value (Copy c)
  copy_same c s l free is = agrees.constants (Copy c) s (catch-constant_step q a (Copy c) s (copy-constant_catch q c s l free is))

  after_constant : (mv : Move) (c : Sym) (s : SortId) → IsConstantWord q [] c s → stepped_value mv a m c ≡ stepped_value mv a n c
  after_constant mv (Own c) s w = constant_after c s w.0 w.1
  after_constant mv (Witness k) s w = witness_value q there choices m n (step_vocabulary q a) extends sound agrees k w.0
  after_constant mv (Copy c) s w = cond_also (is_save mv) _ _ _ _ (constant_same c s w.0 w.2) (copy_same c s w.0 w.1 w.2)
  after_constant mv (Label l) s w = refl
  after_constant mv Frozen s w = refl
  after_constant mv Saved s w = refl
  after_constant mv (Touched t) s w = refl
  after_constant mv (Kept t) s w = refl
  after_constant mv (Due j) s w = refl
  after_constant mv (CopyLabel l) s w = refl
  after_constant mv (Next l) s w = refl
  after_constant mv (Param k) s w = refl

  after_inside : (mv : Move) (c : Sym) (s : SortId) → IsConstantWord q [] c s → stepped_value mv a m c < m.size s
  after_inside mv (Own c) s w = set_value_inside a.updates updates c s w.0 w.1
  after_inside mv (Witness k) s w = sound.constants (Witness k) s (extends.constants (Witness k) s (witness-state q k w.0 ∙ ap Some w.1))
  after_inside mv (Copy c) s w = cond_both (is_save mv) (m.value (Own c)) (m.value (Copy c)) (λ v. v < m.size s)
      (λ e. sound.constants (Own c) s (extends.constants (Own c) s (own-constant_state q c s w.0 w.2)))
      (λ e. sound.constants (Copy c) s (catch-constant_step q a (Copy c) s (copy-constant_catch q c s w.0 w.1 w.2)))
  after_inside mv (Param k) s w = absurd (omega (arith, w.0))
  after_inside mv _ s w = absurd w

  pub stepped_agrees : (mv : Move) → AgreeOn (catch_vocabulary q) (stepped q mv a m) (stepped q mv a n)
  stepped_agrees mv = record {
    sizes = λ s l. agrees.sizes s l;
    relations = λ r ss h. after_relation mv r ss (catch-found q r ss h);
    constants = λ c s h. after_constant mv c s (catch-constant_found q c s h);
  }

  -- the structure after the step has an element of each sort, and its constants are in range
  pub stepped_sound : (mv : Move) → IsStructureOf (catch_vocabulary q) (stepped q mv a m)
  stepped_sound mv = record { sizes = sound.sizes; constants = λ c s h. after_inside mv c s (catch-constant_found q c s h) }
