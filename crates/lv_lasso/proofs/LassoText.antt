-- The text that is written for a lasso spells it.
use Rattle.std.proofs.Common.{◌≡◌, ℕ, zero, suc, ◌<◌, ◌≤◌, true, ltb, List, [], ◌∷◌, length, map, get_or, refl, arith}
use Rattle.std.specs.Prelude.{codes}
use Rattle.std.proofs.lemmas.Bool.{and_parts, ltb-true}
use Rattle.lv_tree.specs.declared.tree.Tree.{Tree}
use Rattle.lv_tree.specs.Spelling.{all_fit_in, fits_in, is_text}
use Rattle.lv_tree.specs.Writing.{bare}
use Rattle.lv_formula.specs.Tuples.{over}
use Rattle.lv_struct.specs.Tables.{IsSound, size_in}
use Rattle.lv_system.specs.declared.parts.Parts.{Parts}
use Rattle.lv_system.specs.declared.parts.Action.{Action}
use Rattle.lv_system.specs.Fits.{fits_parts}
use Rattle.lv_system.specs.Names.{are_names, is_name}
use Rattle.lv_system.specs.Step.{action_at, no_action}
use Rattle.lv_system.specs.Vocabularies.{own_vocabulary}
use Rattle.lv_system.proofs.FitsFacts.{tests}
use Rattle.lv_grammar.specs.Grammar.{Each, first_and_rest, nothing}
use Rattle.lv_grammar.specs.ShownStructures.{number, structure_tree}
use Rattle.lv_grammar.specs.StructureLaws.{StructureCanBeShown}
use Rattle.lv_grammar.proofs.FormulaFits.{items_fit, many_parts}
use Rattle.lv_grammar.proofs.Likeness.{four, front, like_word, none_like}
use Rattle.lv_grammar.proofs.SmallElements.{tuple_few}
use Rattle.lv_grammar.proofs.StructureFits.{numbers_fit, parts_fit}
use Rattle.lv_grammar.proofs.StructureText.{numbers_shown, structure_shown}
use Rattle.lv_grammar.proofs.SymbolWords.{have_names, short_name, short_text}
use Rattle.lv_replay.specs.declared.lasso.Lasso.{Lasso}
use Rattle.lv_replay.specs.declared.lasso.StepTaken.{StepTaken}
use Rattle.lv_replay.specs.Fits.{step_fits, steps_fit}
use Rattle.lv_lasso.specs.Lassos.{AreSteps, IsLasso, IsStep, LassoCanBeShown}
use Rattle.lv_lasso.specs.Shown.{shown_lasso, shown_step, shown_steps}
use Rattle.lv_lasso.proofs.OwnWords.{own_words}

-- the name of an action that is there is a name
pub named : (actions : List Action) → are_names (map (λ a. a.name) actions) ≡ true → (n : ℕ) → n < length actions → is_name (get_or actions n no_action).name ≡ true
named [] h n lt = absurd (omega (arith, lt))
named (a ∷ rest) h zero lt = (and_parts (is_name a.name) (are_names (map (λ a. a.name) rest)) h).0
named (a ∷ rest) h (suc n) lt = named rest (and_parts (is_name a.name) (are_names (map (λ a. a.name) rest)) h).1 n (omega (arith, lt))

module _ (p : Parts) (fits : fits_parts p ≡ true) (l : Lasso) (can : LassoCanBeShown p l) (sound : IsSound l.start) where
  can_start : StructureCanBeShown p (own_vocabulary p) l.start
  can_start = record { fits = fits; sound = sound; vocabulary = can.fits.vocabulary; few = can.few; words = own_words p fits }

  -- ---- it can be written

  name_is_text : (n : ℕ) → n < length p.actions → is_text (action_at p n).name ≡ true
  name_is_text n lt = short_text (short_name (action_at p n).name (named p.actions (have_names p (tests p fits).names).actions n lt))

  step_writes : (s : StepTaken) → step_fits p (size_in l.start) s ≡ true → fits_in 62 (shown_step p s) ≡ true
  step_writes s h =
      let both = and_parts (ltb s.action (length p.actions)) (over (λ sort x. ltb x (size_in l.start sort)) (action_at p s.action).params s.elements) h in
      many_parts (action_at p s.action).name (map number s.elements) 62 (name_is_text s.action (ltb-true s.action (length p.actions) both.0)) (omega arith)
      (numbers_fit 61 s.elements (tuple_few l.start.sizes can.few (action_at p s.action).params s.elements both.1))

  steps_write : (ss : List StepTaken) → steps_fit p (size_in l.start) ss ≡ true → all_fit_in 62 (map (shown_step p) ss) ≡ true
  steps_write [] h = refl
  steps_write (s ∷ ss) h =
      let both = and_parts (step_fits p (size_in l.start) s) (steps_fit p (size_in l.start) ss) h in
      items_fit 62 (shown_step p s) (map (shown_step p) ss) (step_writes s both.0) (steps_write ss both.1)

  pub lasso_writes : fits_in 64 (shown_lasso p l) ≡ true
  lasso_writes = many_parts (codes "lasso") _ 64 refl (omega arith)
      (items_fit 63 (structure_tree p (own_vocabulary p) l.start) (shown_steps p (codes "stem") l.stem ∷ shown_steps p (codes "loop") l.turn ∷ []) (many_parts (codes "structure") _ 63 refl (omega arith) (parts_fit p (own_vocabulary p) l.start can_start 62 (omega arith)))
      (items_fit 63 (shown_steps p (codes "stem") l.stem) (shown_steps p (codes "loop") l.turn ∷ []) (many_parts (codes "stem") _ 63 refl (omega arith) (steps_write l.stem can.fits.stem))
      (items_fit 63 (shown_steps p (codes "loop") l.turn) [] (many_parts (codes "loop") _ 63 refl (omega arith) (steps_write l.turn can.fits.turn)) refl)))

  -- ---- the tree spells it, whatever its places

  step_shown : (s : StepTaken) (u : Tree) → bare u ≡ bare (shown_step p s) → IsStep p s u
  step_shown s u e =
      let k = front u _ (map number s.elements) e in
      record { h = k.a; items = k.rest; list = k.is; name = like_word k.a (action_at p s.action).name k.first; elements = numbers_shown s.elements k.rest k.others }

  each_shown : (ss : List StepTaken) (us : List Tree) → map bare us ≡ map bare (map (shown_step p) ss) → Each (IsStep p) ss us
  each_shown [] us e = rw (none_like us e) nothing
  each_shown (s ∷ ss) [] e = absurd cc
  each_shown (s ∷ ss) (u ∷ us) e = first_and_rest (step_shown s u (cc)) (each_shown ss us (cc))

  steps_shown : (head : List ℕ) (ss : List StepTaken) (u : Tree) → length ss ≤ 256 → bare u ≡ bare (shown_steps p head ss) → AreSteps p head ss u
  steps_shown head ss u few e =
      let k = front u _ (map (shown_step p) ss) e in
      record { h = k.a; items = k.rest; list = k.is; word = like_word k.a head k.first; steps = each_shown ss k.rest k.others; few = few }

  pub lasso_shown : (u : Tree) → bare u ≡ bare (shown_lasso p l) → IsLasso p l u
  lasso_shown u e =
      let k = four u _ _ _ _ e in
      record {
        h = k.a;
        structure = k.b;
        before = k.c;
        round = k.d;
        list = k.is;
        head = like_word k.a (codes "lasso") k.first;
        start = structure_shown p (own_vocabulary p) l.start can_start k.b k.second;
        stem = steps_shown (codes "stem") l.stem k.c can.stem k.third;
        turn = steps_shown (codes "loop") l.turn k.d can.turn k.fourth;
      }
