-- Taking the steps of a lasso one after the other.
use Rattle.std.proofs.Common.{◌≡◌, ℕ, ◌+◌, ◌<◌, ◌≤◌, ◌^◌, true, false, leb, ltb, max, List, [], ◌∷◌, ◌++◌, length, map, drop, get_or, Some, refl, sym, ap, ap₂, subst, ◌∙◌, arith}
use Rattle.std.proofs.lemmas.Bool.{and_parts, leb-true, ltb-true, cond-true, cond-false}
use Rattle.std.proofs.lemmas.List.{append_assoc, append-nil, drop_more, map_push, length_push}
use Rattle.lv_formula.specs.declared.symbols.SortId.{SortId}
use Rattle.lv_formula.specs.declared.formula.Formula.{Formula}
use Rattle.lv_formula.specs.declared.vocabulary.Vocabulary.{Vocabulary}
use Rattle.lv_formula.specs.Measures.{depth_of, depth_of_all, nodes_of}
use Rattle.lv_formula.specs.Vocabulary.{relation_in, constant_in}
use Rattle.lv_formula.proofs.MeasureLaws.{depth-le-nodes}
use Rattle.lv_struct.specs.Tables.{Tables, meaning, size_in, size_of}
use Rattle.lv_formula.specs.Tuples.{over}
use Rattle.lv_system.specs.declared.parts.Parts.{Parts}
use Rattle.lv_system.specs.Fits.{formulas_fit, formula_fits, fits_parts}
use Rattle.lv_system.specs.Limits.{is_small, in_item}
use Rattle.lv_system.specs.Step.{action_at}
use Rattle.lv_system.proofs.FitsFacts.{fitting}
use Rattle.lv_exec.specs.Symbols.{HasSymbols, SameSymbols}
use Rattle.lv_replay.specs.declared.lasso.StepTaken.{StepTaken}
use Rattle.lv_replay.specs.Fits.{step_fits, steps_fit}
use Rattle.lv_replay.specs.Play.{Walked, first_refused, is_guarded}
use Rattle.lv_replay.specs.Run.{reached, states_of, taken}

-- ---- formulas that keep their limits have few binders

pub small_is_shallow : (lists : ℕ) (f : Formula) → is_small lists f ≡ true → depth_of f < 2 ^ 32
small_is_shallow lists f small =
    let nodes : nodes_of f ≤ 1024 = leb-true _ _ (and_parts (leb (nodes_of f) 1024) _ small).0 in
    let depth = depth-le-nodes f in
    omega (arith, nodes, depth)

max_below : (a b n : ℕ) → a < n → b < n → max a b < n
max_below a b n h k = omega (arith, h, k)

pub all_shallow : (voc : Vocabulary) (fs : List Formula) → formulas_fit voc fs ≡ true → depth_of_all fs < 2 ^ 32
all_shallow voc [] h = omega arith
all_shallow voc (f ∷ fs) h =
    let both = and_parts (formula_fits in_item voc [] f) (formulas_fit voc fs) h in
    max_below (depth_of f) (depth_of_all fs) (2 ^ 32) (small_is_shallow in_item f (and_parts (is_small in_item f) _ both.0).0) (all_shallow voc fs both.1)

pub shallow_guard : (p : Parts) (n : ℕ) → fits_parts p ≡ true → n < length p.actions → depth_of (action_at p n).guard < 2 ^ 32
shallow_guard p n fits lt = small_is_shallow _ (action_at p n).guard ((fitting p fits).actions n lt).small

-- ---- a step that fits

pub action_there : (p : Parts) (size : SortId → ℕ) (s : StepTaken) → step_fits p size s ≡ true → s.action < length p.actions
action_there p size s h = ltb-true _ _ (and_parts (ltb s.action (length p.actions)) _ h).0

pub elements_there : (p : Parts) (size : SortId → ℕ) (s : StepTaken) → step_fits p size s ≡ true → over (λ sort x. ltb x (size sort)) (action_at p s.action).params s.elements ≡ true
elements_there p size s h = (and_parts (ltb s.action (length p.actions)) _ h).1

-- ---- symbols stay

pub same_symbols : (u v w : Tables) → SameSymbols u v → SameSymbols v w → SameSymbols u w
same_symbols u v w a b = record { sizes = b.sizes ∙ a.sizes; relations = b.relations ∙ a.relations; constants = b.constants ∙ a.constants }

pub kept_symbols : (voc : Vocabulary) (v w : Tables) → HasSymbols voc v → SameSymbols v w → HasSymbols voc w
kept_symbols voc v w has same = record {
  count = ap length same.sizes ∙ has.count;
  relations = λ r sorts h. ap (λ shapes. relation_in shapes r) same.relations ∙ has.relations r sorts h;
  constants = λ c sort h. ap (λ shapes. constant_in shapes c) same.constants ∙ has.constants c sort h;
}

pub same_as_start : (w : Tables) → SameSymbols w w
same_as_start w = record { sizes = refl; relations = refl; constants = refl }

-- ---- the loop

-- so far: the structure m is reached, and the rest of the steps is still to be taken
pub record Walking (p : Parts) (start : Tables) (ss : List StepTaken) (before : List Tables) (m : Tables) (states : List Tables) (rest : List StepTaken) : Type 0 where
  pub guarded : first_refused p (meaning start) (length before) ss ≡ first_refused p (meaning m) (length states) rest
  pub passed : map meaning states ++ states_of p (meaning m) rest ≡ map meaning before ++ states_of p (meaning start) ss
  pub ends : reached p (meaning m) rest ≡ reached p (meaning start) ss
  pub symbols : SameSymbols start m
  pub fit : steps_fit p (size_in start) rest ≡ true

module _ (p : Parts) (start : Tables) (ss : List StepTaken) (before : List Tables) where
  pub walk_begins : steps_fit p (size_in start) ss ≡ true → Walking p start ss before start before ss
  walk_begins fit = record { guarded = refl; passed = refl; ends = refl; symbols = same_as_start start; fit = fit }

  -- the next of the steps
  pub next_step : (m : Tables) (states : List Tables) (i : ℕ) (s : StepTaken) → Walking p start ss before m states (drop i ss) → i < length ss → s ≡ get_or ss i s
      → Walking p start ss before m states (s ∷ drop (i + 1) ss)
  next_step m states i s w lt is = subst (λ rest. Walking p start ss before m states rest) (drop_more ss i s lt ∙ ap (λ x. x ∷ drop (i + 1) ss) (sym is)) w

  pub walk_on : (m next : Tables) (states states' : List Tables) (s : StepTaken) (rest : List StepTaken) → Walking p start ss before m states (s ∷ rest)
      → is_guarded p (meaning m) s ≡ true → meaning next ≡ taken p (meaning m) s → SameSymbols m next → states' ≡ states ++ m ∷ []
      → Walking p start ss before next states' rest
  walk_on m next states states' s rest w guarded is same pushed = record {
    guarded = w.guarded ∙ (cond-true (is_guarded p (meaning m) s) _ _ guarded
        ∙ ap₂ (λ x n. first_refused p x n rest) (sym is) (omega arith ∙ sym (ap length pushed ∙ length_push states m)));
    passed = ap₂ (λ xs x. xs ++ states_of p x rest) (ap (map meaning) pushed ∙ map_push meaning states m) is
        ∙ (append_assoc (map meaning states) (meaning m ∷ []) (states_of p (taken p (meaning m) s) rest) ∙ w.passed);
    ends = ap (λ x. reached p x rest) is ∙ w.ends;
    symbols = same_symbols start m next w.symbols same;
    fit = (and_parts (step_fits p (size_in start) s) (steps_fit p (size_in start) rest) w.fit).1;
  }

  pub walk_stops : (m : Tables) (states : List Tables) (s : StepTaken) (rest : List StepTaken) → Walking p start ss before m states (s ∷ rest)
      → is_guarded p (meaning m) s ≡ false → first_refused p (meaning start) (length before) ss ≡ Some (length states)
  walk_stops m states s rest w refused = w.guarded ∙ cond-false (is_guarded p (meaning m) s) _ _ refused

  pub walk_ends : (m : Tables) (states : List Tables) → Walking p start ss before m states [] → Walked p start ss before states m
  walk_ends m states w = record { guarded = w.guarded; passed = sym (append-nil (map meaning states)) ∙ w.passed; ends = w.ends; symbols = w.symbols }

  -- the next step fits the structure that is reached
  pub next_fits : (m : Tables) (states : List Tables) (s : StepTaken) (rest : List StepTaken) → Walking p start ss before m states (s ∷ rest) → step_fits p (size_in m) s ≡ true
  next_fits m states s rest w = subst (λ sizes. step_fits p (size_of sizes) s ≡ true) (sym w.symbols.sizes) (and_parts (step_fits p (size_in start) s) (steps_fit p (size_in start) rest) w.fit).0
