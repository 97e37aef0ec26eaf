-- Of a tree that spells a lasso the same lasso is read.
use Rattle.std.proofs.Common.{◌≡◌, ℕ, ◌-◌, ◌<◌, ◌≤◌, true, ltb, List, [], ◌∷◌, length, Ok, refl, subst, arith}
use Rattle.std.specs.Prelude.{codes, decimal}
use Rattle.std.specs.List.{All}
use Rattle.std.proofs.lemmas.Bool.{and_parts, eq-eqb, ltb-true, ne_eqb}
use Rattle.lv_tree.specs.declared.tree.Tree.{Tree}
use Rattle.lv_formula.specs.declared.symbols.SortId.{SortId}
use Rattle.lv_formula.specs.Tuples.{over}
use Rattle.lv_struct.specs.Tables.{IsInRange, size_of}
use Rattle.lv_system.specs.declared.parts.Parts.{Parts}
use Rattle.lv_system.specs.Fits.{fits_parts}
use Rattle.lv_system.specs.Step.{action_at}
use Rattle.lv_system.specs.Vocabularies.{own_vocabulary}
use Rattle.lv_system.proofs.FitsFacts.{tests}
use Rattle.lv_grammar.specs.Grammar.{Each, IsWord, first_and_rest}
use Rattle.lv_grammar.proofs.SmallElements.{tuple_few}
use Rattle.lv_fault.specs.Given.{next_of}
use Rattle.lv_reading.specs.Structures.{elements_in}
use Rattle.lv_grammar.proofs.Steps.{done}
use Rattle.lv_grammar.proofs.TreesAgain.{headed_by}
use Rattle.lv_replay.specs.declared.lasso.Lasso.{Lasso}
use Rattle.lv_replay.specs.declared.lasso.StepTaken.{StepTaken}
use Rattle.lv_replay.specs.Fits.{step_fits, steps_fit}
use Rattle.lv_lasso.specs.Lassos.{AreSteps, IsStep, SpellsLasso}
use Rattle.lv_lasso.specs.Reading.{lasso_in, loop_in, stem_in, step_in, steps_in}
use Rattle.lv_lasso.proofs.OwnWords.{own_sound}
use Rattle.lv_spelled.specs.LassoLaws.{IsAlikeLasso}
use Rattle.lv_spelled.proofs.Actions.{action_again}
use Rattle.lv_spelled.proofs.Again.{elements_again}
use Rattle.lv_spelled.proofs.Spelled.{few_sizes, spelled_is_read}

module _ (p : Parts) (fits : fits_parts p ≡ true) (sizes : List ℕ) (few : All (λ n. n ≤ 256) sizes) where
  items_again : (sorts : List SortId) (at : ℕ) (es : List ℕ) (ts : List Tree) → IsInRange sizes sorts es → Each (λ n a. IsWord (decimal n) a) es ts → elements_in sizes sorts at ts ≡ Ok es
  unfolding elements_in
  items_again sorts at es ts inside is =
      let again = elements_again sizes few sorts sorts es ts (tuple_few sizes few sorts es inside) inside is in
      rw (eq-eqb (length ts) (length sorts) again.0, again.1) refl

  step_again : (s : StepTaken) (t : Tree) → step_fits p (size_of sizes) s ≡ true → IsStep p s t → step_in p sizes t ≡ Ok s
  unfolding step_in
  step_again s t fit i =
      let both = and_parts (ltb s.action (length p.actions)) (over (λ sort x. ltb x (size_of sizes sort)) (action_at p s.action).params s.elements) fit in
      let l = headed_by t i.h i.items (action_at p s.action).name i.list i.name in
      let there = ltb-true s.action (length p.actions) both.0 in
      let action = action_again p (tests p fits).names s.action there l.word_at in
      rw (l.is, action, items_again (action_at p s.action).params l.word_at s.elements i.items both.1 i.elements) refl

  steps_again : (room : ℕ) (ss : List StepTaken) (ts : List Tree) → length ss ≤ room → steps_fit p (size_of sizes) ss ≡ true → Each (IsStep p) ss ts → steps_in p sizes room ts ≡ Ok ss
  unfolding steps_in
  steps_again room [] [] small fit is = refl
  steps_again room [] (t ∷ ts) small fit is = elim is [ ]
  steps_again room (s ∷ ss) [] small fit is = elim is [ ]
  steps_again room (s ∷ ss) (t ∷ ts) small fit (first_and_rest is rest) =
      let both = and_parts (step_fits p (size_of sizes) s) (steps_fit p (size_of sizes) ss) fit in
      let some = ne_eqb room 0 (λ e. absurd (omega (arith, small, e))) in
      rw (some, step_again s t both.0 is, steps_again (room - 1) ss ts (omega (arith, small)) both.1 rest) refl

  stem_again : (ss : List StepTaken) (t : Tree) → steps_fit p (size_of sizes) ss ≡ true → AreSteps p (codes "stem") ss t → stem_in p sizes t ≡ Ok ss
  unfolding stem_in
  stem_again ss t fit i =
      let l = headed_by t i.h i.items (codes "stem") i.list i.word in
      rw l.is (steps_again 256 ss i.items i.few fit i.steps)

  next_again : (end : ℕ) (ss : List StepTaken) (ts : List Tree) → 0 < length ss → Each (IsStep p) ss ts → (r : Tree × List Tree) × (next_of end ts ≡ done r)
  next_again end [] ts some is = absurd (omega (arith, some))
  next_again end (s ∷ ss) [] some is = elim is [ ]
  next_again end (s ∷ ss) (t ∷ ts) some is = ((t, ts), refl)

  loop_again : (ss : List StepTaken) (t : Tree) → 0 < length ss → steps_fit p (size_of sizes) ss ≡ true → AreSteps p (codes "loop") ss t → loop_in p sizes t ≡ Ok ss
  unfolding loop_in
  loop_again ss t some fit i =
      let l = headed_by t i.h i.items (codes "loop") i.list i.word in
      let n = next_again l.end ss i.items some i.steps in
      rw (l.is, n.1) (steps_again 256 ss i.items i.few fit i.steps)

pub spelled_lasso_is_read : (p : Parts) (t : Tree) (l : Lasso) → fits_parts p ≡ true → SpellsLasso p t l → (m : Lasso) × (lasso_in p t ≡ Ok m) × IsAlikeLasso p l m
unfolding lasso_in
spelled_lasso_is_read p t l fits is =
    let i = is.written in
    let k = headed_by t i.h (i.structure ∷ i.before ∷ i.round ∷ []) (codes "lasso") i.list i.head in
    let start = spelled_is_read p (own_vocabulary p) i.structure l.start (own_sound p fits) (record { written = i.start; sound = is.sound; vocabulary = is.fits.vocabulary }) in
    let few = few_sizes p 0 l.start.sizes i.start.sizes i.start.sized in
    let same = start.2.sizes in
    let stem = subst (λ z. stem_in p z i.before ≡ Ok l.stem) same (stem_again p fits l.start.sizes few l.stem i.before is.fits.stem i.stem) in
    let turn = subst (λ z. loop_in p z i.round ≡ Ok l.turn) same (loop_again p fits l.start.sizes few l.turn i.round is.fits.loops is.fits.turn i.turn) in
    (record { start = start.0; stem = l.stem; turn = l.turn }, rw (k.is, start.1, stem, turn) refl, record { start = start.2; stem = refl; turn = refl })
