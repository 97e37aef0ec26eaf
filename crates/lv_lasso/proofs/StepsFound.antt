-- What a tree is of which steps or a lasso were read, and that they fit.
use Rattle.std.proofs.Common.{◌≡◌, ℕ, zero, suc, ◌+◌, ◌-◌, ◌<◌, ◌≤◌, Bool, true, false, not, eqb, cond, List, [], ◌∷◌, length, get_or, Option, Some, None, Result, Ok, refl, sym, ap, subst, ◌∙◌, arith}
use Rattle.std.specs.Prelude.{codes, decimal}
use Rattle.std.proofs.lemmas.Bool.{and_from, eqb-true, lt-ltb}
use Rattle.lv_tree.specs.declared.tree.Tree.{Tree}
use Rattle.lv_formula.specs.declared.symbols.SortId.{SortId}
use Rattle.lv_struct.specs.Tables.{size_of}
use Rattle.lv_system.specs.declared.parts.Parts.{Parts}
use Rattle.lv_system.specs.declared.parts.Action.{Action}
use Rattle.lv_system.specs.Names.{same_text}
use Rattle.lv_system.specs.Step.{action_at, no_action}
use Rattle.lv_system.specs.Vocabularies.{own_vocabulary}
use Rattle.lv_grammar.specs.Grammar.{Each, IsList, IsWord, first_and_rest, nothing}
use Rattle.lv_fault.specs.declared.fault.Kind.TheVariants.{Unexpected, TooMany, UnknownName, WrongArity}
use Rattle.lv_fault.specs.declared.fault.SyntaxFault.{SyntaxFault}
use Rattle.lv_fault.specs.Given.{◌>>=◌, Worded, fail, headed, list_in, place_of}
use Rattle.lv_reading.specs.Numbers.{element_in, exactly}
use Rattle.lv_reading.specs.Structures.{each_element, elements_in, structure_in}
use Rattle.lv_reading.proofs.Found.{element_found}
use Rattle.lv_grammar.proofs.SameTexts.{same_is}
use Rattle.lv_grammar.proofs.Steps.{bound, head_found, nothing_left, ok_is, one_more, passed}
use Rattle.lv_reading.proofs.TupleLaws.{in_range}
use Rattle.lv_replay.specs.declared.lasso.Lasso.{Lasso}
use Rattle.lv_replay.specs.declared.lasso.StepTaken.{StepTaken}
use Rattle.lv_replay.specs.Fits.{step_fits, steps_fit}
use Rattle.lv_lasso.specs.Lassos.{AreSteps, IsStep}
use Rattle.lv_lasso.specs.Reading.{action_in, action_named, lasso_in, looks_like_name, loop_in, or_fault, past_the_last, stem_in, step_in, steps_in}

no_not : (b : Bool) → not b ≡ false → b ≡ true
no_not true e = refl
no_not false e = absurd cc

-- the word is the one that is asked for
exact : {B : Type 0} (text : List ℕ) (w : Worded) (f : Unit {0} → Result B SyntaxFault) (y : B) → (exactly text w >>= f) ≡ Ok y → (text ≡ w.text) × (f tt ≡ Ok y)
exact text w f y e =
    let p = passed (not (same_text text w.text)) Unexpected w.at f y e in
    (same_is text w.text (no_not (same_text text w.text) p.0), p.1)

-- ---- actions

pub record Named (n : ℕ) (actions : List Action) (name : List ℕ) (k : ℕ) : Type 0 where
  pub at : ℕ
  pub is : k ≡ n + at
  pub there : at < length actions
  pub same : (get_or actions at no_action).name ≡ name

named_found : (n : ℕ) (actions : List Action) (name : List ℕ) (k : ℕ) → action_named n actions name ≡ Some k → Named n actions name k
named_found n [] name k e = absurd cc
named_found n (a ∷ rest) name k e = go (same_text a.name name) refl e (named_found (suc n) rest name k)
  where
    later : Named (suc n) rest name k → Named n (a ∷ rest) name k
    later r = record { at = suc r.at; is = omega (arith, r.is); there = omega (arith, r.there); same = r.same }

    go : (b : Bool) → same_text a.name name ≡ b → cond b (Some n) (action_named (suc n) rest name) ≡ Some k → (action_named (suc n) rest name ≡ Some k → Named (suc n) rest name k) → Named n (a ∷ rest) name k
    go true is e ih = record { at = 0; is = let same : n ≡ k = cc in omega (arith, same); there = omega arith; same = same_is a.name name is }
    go false is e ih = later (ih e)

action_found : (p : Parts) (w : Worded) (k : ℕ) → action_in p w ≡ Ok k → (k < length p.actions) × ((action_at p k).name ≡ w.text)
action_found p w k e = go (action_named 0 p.actions w.text) refl e
  where
    no_fault : (b : Bool) → cond b (fail UnknownName w.at) (fail Unexpected w.at) ≡ Ok k → (k < length p.actions) × ((action_at p k).name ≡ w.text)
    no_fault true h = absurd cc
    no_fault false h = absurd cc

    there : (m : ℕ) → Named 0 p.actions w.text m → (m < length p.actions) × ((action_at p m).name ≡ w.text)
    there m r = let i = r.is in let same : r.at ≡ m = omega (arith, i) in subst (λ x. (x < length p.actions) × ((action_at p x).name ≡ w.text)) same (r.there, r.same)

    go : (o : Option ℕ) → action_named 0 p.actions w.text ≡ o → or_fault w o ≡ Ok k → (k < length p.actions) × ((action_at p k).name ≡ w.text)
    go (Some m) is h = subst (λ x. (x < length p.actions) × ((action_at p x).name ≡ w.text)) (ok_is m k h) (there m (named_found 0 p.actions w.text m is))
    go None is h = no_fault (looks_like_name w.text) h

-- ---- elements

each_found : (sizes : List ℕ) (ss : List SortId) (ts : List Tree) (es : List ℕ) → length ts ≡ length ss → each_element sizes ss ts ≡ Ok es → Each (λ n a. IsWord (decimal n) a) es ts
unfolding each_element
each_found sizes [] [] es l e = subst (λ z. Each (λ n a. IsWord (decimal n) a) z []) (ok_is [] es e) nothing
each_found sizes [] (t ∷ ts) es l e = absurd (omega (arith, l))
each_found sizes (s ∷ ss) [] es l e = absurd (omega (arith, l))
each_found sizes (s ∷ ss) (t ∷ ts) es l e =
    let a = bound (element_in (size_of sizes s) t) _ es e in
    let b = bound (each_element sizes ss ts) _ es a.2 in
    subst (λ z. Each (λ n a. IsWord (decimal n) a) z (t ∷ ts)) (ok_is (a.0 ∷ b.0) es b.2)
    (first_and_rest (element_found (size_of sizes s) t a.0 a.1) (each_found sizes ss ts b.0 (omega (arith, l)) b.1))

elements_found : (sizes : List ℕ) (ss : List SortId) (at : ℕ) (ts : List Tree) (es : List ℕ) → elements_in sizes ss at ts ≡ Ok es → Each (λ n a. IsWord (decimal n) a) es ts
unfolding elements_in
elements_found sizes ss at ts es e =
    let p = passed (not (eqb (length ts) (length ss))) WrongArity at _ es e in
    each_found sizes ss ts es (eqb-true (length ts) (length ss) (no_not (eqb (length ts) (length ss)) p.0)) p.1

-- ---- steps

module _ (p : Parts) (sizes : List ℕ) where
  pub step_found : (t : Tree) (s : StepTaken) → step_in p sizes t ≡ Ok s → IsStep p s t × (step_fits p (size_of sizes) s ≡ true)
  unfolding step_in
  step_found t s e =
      let l = bound (headed t) _ s e in
      let k = bound (action_in p l.0.word) _ s l.2 in
      let es = bound (elements_in sizes (action_at p k.0).params l.0.word.at l.0.rest) _ s k.2 in
      let begins = head_found t l.0 l.1 in
      let found = action_found p l.0.word k.0 k.1 in
      subst (λ z. IsStep p z t × (step_fits p (size_of sizes) z ≡ true)) (ok_is (record { action = k.0; elements = es.0 }) s es.2) (
        record {
          h = begins.heads.first;
          items = l.0.rest;
          list = subst (λ z. IsList z t) begins.heads.whole begins.list;
          name = subst (λ z. IsWord z begins.heads.first) (sym found.1) begins.heads.word;
          elements = elements_found sizes (action_at p k.0).params l.0.word.at l.0.rest es.0 es.1;
        },
        and_from _ _ (lt-ltb k.0 (length p.actions) found.0) (in_range sizes (action_at p k.0).params l.0.word.at l.0.rest es.0 es.1),
      )

  abbrev AreFound : ℕ → List Tree → List StepTaken → Type 0
  AreFound room ts ss = Each (IsStep p) ss ts × (steps_fit p (size_of sizes) ss ≡ true) × (length ss ≤ room)

  pub steps_found : (room : ℕ) (ts : List Tree) (ss : List StepTaken) → steps_in p sizes room ts ≡ Ok ss → AreFound room ts ss
  unfolding steps_in
  steps_found room [] ss e = subst (AreFound room []) (ok_is [] ss e) (nothing, refl, omega arith)
  steps_found room (t ∷ ts) ss e = go (eqb room 0) refl e (steps_found (room - 1) ts)
    where
      more : (0 < room) → (step_in p sizes t >>= λ s. steps_in p sizes (room - 1) ts >>= λ ss. Ok (s ∷ ss)) ≡ Ok ss
          → ((rest : List StepTaken) → steps_in p sizes (room - 1) ts ≡ Ok rest → AreFound (room - 1) ts rest) → AreFound room (t ∷ ts) ss
      more some e ih =
          let s = bound (step_in p sizes t) _ ss e in
          let rest = bound (steps_in p sizes (room - 1) ts) _ ss s.2 in
          let one = step_found t s.0 s.1 in
          let others = ih rest.0 rest.1 in
          let few = others.2 in
          subst (AreFound room (t ∷ ts)) (ok_is (s.0 ∷ rest.0) ss rest.2)
          (first_and_rest one.0 others.0, and_from (step_fits p (size_of sizes) s.0) (steps_fit p (size_of sizes) rest.0) one.1 others.1, omega (arith, some, few))

      past : past_the_last t ≡ Ok ss → AreFound room (t ∷ ts) ss
      past h = let l = bound (list_in t) (λ l. fail TooMany (place_of t)) ss h in absurd (never l.2)
        where
          never : fail TooMany (place_of t) ≡ Ok ss → ⊥
          never h = cc

      positive : (n : ℕ) → eqb n 0 ≡ false → 0 < n
      positive zero e = absurd cc
      positive (suc n) e = omega arith

      go : (b : Bool) → eqb room 0 ≡ b → cond b (past_the_last t) (step_in p sizes t >>= λ s. steps_in p sizes (room - 1) ts >>= λ ss. Ok (s ∷ ss)) ≡ Ok ss
          → ((rest : List StepTaken) → steps_in p sizes (room - 1) ts ≡ Ok rest → AreFound (room - 1) ts rest) → AreFound room (t ∷ ts) ss
      go true is h ih = past h
      go false is h ih = more (positive room is) h ih

  pub stem_found : (t : Tree) (ss : List StepTaken) → stem_in p sizes t ≡ Ok ss → AreSteps p (codes "stem") ss t × (steps_fit p (size_of sizes) ss ≡ true)
  unfolding stem_in
  stem_found t ss e =
      let l = bound (headed t) _ ss e in
      let w = exact (codes "stem") l.0.word _ ss l.2 in
      let begins = head_found t l.0 l.1 in
      let found = steps_found 256 l.0.rest ss w.1 in (
        record {
          h = begins.heads.first;
          items = l.0.rest;
          list = subst (λ z. IsList z t) begins.heads.whole begins.list;
          word = subst (λ z. IsWord z begins.heads.first) (sym w.0) begins.heads.word;
          steps = found.0;
          few = found.2;
        },
        found.1,
      )

  some_step : (ss : List StepTaken) (t : Tree) (ts : List Tree) → Each (IsStep p) ss (t ∷ ts) → 0 < length ss
  some_step [] t ts each = elim each [ ]
  some_step (s ∷ ss) t ts each = omega arith

  pub loop_found : (t : Tree) (ss : List StepTaken) → loop_in p sizes t ≡ Ok ss → AreSteps p (codes "loop") ss t × (steps_fit p (size_of sizes) ss ≡ true) × (0 < length ss)
  unfolding loop_in
  loop_found t ss e =
      let l = bound (headed t) _ ss e in
      let w = exact (codes "loop") l.0.word _ ss l.2 in
      let a = one_more l.0.end l.0.rest _ ss w.1 in
      let begins = head_found t l.0 l.1 in
      let found = steps_found 256 l.0.rest ss a.3 in (
        record {
          h = begins.heads.first;
          items = l.0.rest;
          list = subst (λ z. IsList z t) begins.heads.whole begins.list;
          word = subst (λ z. IsWord z begins.heads.first) (sym w.0) begins.heads.word;
          steps = found.0;
          few = found.2;
        },
        found.1,
        some_step ss a.0 a.1 (subst (Each (IsStep p) ss) a.2 found.0),
      )

-- ---- lassos

-- the parts of a tree of which a lasso was read
pub record Found (p : Parts) (l : Lasso) (t : Tree) : Type 0 where
  pub h : Tree
  pub structure : Tree
  pub before : Tree
  pub round : Tree
  pub list : IsList (h ∷ structure ∷ before ∷ round ∷ []) t
  pub head : IsWord (codes "lasso") h
  pub start : structure_in p (own_vocabulary p) structure ≡ Ok l.start
  pub stem : AreSteps p (codes "stem") l.stem before
  pub stem_fits : steps_fit p (size_of l.start.sizes) l.stem ≡ true
  pub turn : AreSteps p (codes "loop") l.turn round
  pub turn_fits : steps_fit p (size_of l.start.sizes) l.turn ≡ true
  pub loops : 0 < length l.turn

pub lasso_found : (p : Parts) (t : Tree) (l : Lasso) → lasso_in p t ≡ Ok l → Found p l t
unfolding lasso_in
lasso_found p t l e =
    let h = bound (headed t) _ l e in
    let w = exact (codes "lasso") h.0.word _ l h.2 in
    let a = one_more h.0.end h.0.rest _ l w.1 in
    let start = bound (structure_in p (own_vocabulary p) a.0) _ l a.3 in
    let b = one_more h.0.end a.1 _ l start.2 in
    let stem = bound (stem_in p start.0.sizes b.0) _ l b.3 in
    let c = one_more h.0.end b.1 _ l stem.2 in
    let turn = bound (loop_in p start.0.sizes c.0) _ l c.3 in
    let last = nothing_left c.1 _ l turn.2 in
    let begins = head_found t h.0 h.1 in
    let before = stem_found p start.0.sizes b.0 stem.0 stem.1 in
    let round = loop_found p start.0.sizes c.0 turn.0 turn.1 in
    let items = a.2 ∙ ap (λ ts. a.0 ∷ ts) (b.2 ∙ ap (λ ts. b.0 ∷ ts) (c.2 ∙ ap (λ ts. c.0 ∷ ts) last.0)) in
    subst (λ z. Found p z t) (ok_is (record { start = start.0; stem = stem.0; turn = turn.0 }) l last.1) (record {
      h = begins.heads.first;
      structure = a.0;
      before = b.0;
      round = c.0;
      list = subst (λ z. IsList z t) (begins.heads.whole ∙ ap (λ ts. begins.heads.first ∷ ts) items) begins.list;
      head = subst (λ z. IsWord z begins.heads.first) (sym w.0) begins.heads.word;
      start = start.1;
      stem = before.0;
      stem_fits = before.1;
      turn = round.0;
      turn_fits = round.1;
      loops = round.2;
    })
