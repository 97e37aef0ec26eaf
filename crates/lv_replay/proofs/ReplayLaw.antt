-- From the walk through a lasso's steps to the answers.
use Rattle.std.proofs.Common.{◌≡◌, ℕ, zero, suc, ◌+◌, ◌<◌, ◌^◌, Bool, true, false, cond, List, [], ◌∷◌, ◌++◌, length, map, get_or, Option, Some, None, refl, sym, ap, ap₂, subst, ◌∙◌, arith}
use Rattle.std.proofs.lemmas.List.{length-append, length-map}
use Rattle.std.proofs.lemmas.Bool.{cond-true, cond-false}
use Rattle.lv_formula.specs.Measures.{depth_of, depth_of_all}
use Rattle.lv_struct.specs.Compare.{IsSame}
use Rattle.lv_formula.specs.Meaning.{Meaning}
use Rattle.lv_struct.specs.Tables.{HasVocabulary, IsSound, Tables, meaning, size_in, size_of}
use Rattle.lv_struct.proofs.MeaningLaws.{same_meaning-tables}
use Rattle.lv_formula.specs.Vocabulary.{relation_in, constant_in}
use Rattle.lv_system.specs.declared.parts.Parts.{Parts}
use Rattle.lv_system.specs.declared.parts.Fair.{Fair}
use Rattle.lv_system.specs.Fits.{fits_parts}
use Rattle.lv_system.specs.Lasso.{IsLassoRun, fair_at, no_fair}
use Rattle.lv_system.specs.Vocabularies.{fixed_vocabulary, own_vocabulary}
use Rattle.lv_system.proofs.FitsFacts.{fitting, tests}
use Rattle.lv_exec.specs.Symbols.{HasSymbols}
use Rattle.lv_replay.specs.declared.lasso.Lasso.{Lasso}
use Rattle.lv_replay.specs.declared.lasso.StepTaken.{StepTaken}
use Rattle.lv_replay.specs.declared.answer.ReplayAnswer.TheVariants.{GuardFails, LoopOpen}
use Rattle.lv_replay.specs.Answers.{IsAnswer}
use Rattle.lv_replay.specs.Fairness.{condition_of}
use Rattle.lv_replay.specs.Fits.{LassoFits, steps_fit}
use Rattle.lv_replay.specs.Play.{IsPlayed, IsWalked, Walked, first_refused, is_guarded}
use Rattle.lv_replay.specs.Run.{Begins, reached, run_of, states_of, taken}
use Rattle.lv_replay.proofs.PlayLaw.{all_shallow, small_is_shallow}
use Rattle.lv_replay.proofs.RunLaw.{first_is_refused, length_states, reached_append, refused_append, states_append}
use Rattle.lv_replay.proofs.LassoLaw.{allowed, lasso_run, refused, same_ends}
use Rattle.lv_replay.proofs.SameLaw.{same_tables}

-- ---- conditions

fairs_below : (cs : List Fair) → ((j : ℕ) → j < length cs → depth_of (get_or cs j no_fair).condition < 2 ^ 32) → depth_of_all (map condition_of cs) < 2 ^ 32
fairs_below [] h = omega arith
fairs_below (c ∷ cs) h = let a = h zero (omega arith) in let b = fairs_below cs (λ j lt. h (suc j) (omega (arith, lt))) in omega (arith, a, b)

pub fairs_shallow : (p : Parts) → fits_parts p ≡ true → depth_of_all (map condition_of p.fairs) < 2 ^ 32
fairs_shallow p fits = fairs_below p.fairs (λ j lt. small_is_shallow _ (fair_at p j).condition ((fitting p fits).fairs j lt).small)

pub axioms_shallow : (p : Parts) → fits_parts p ≡ true → depth_of_all p.axioms < 2 ^ 32
axioms_shallow p fits = all_shallow (fixed_vocabulary p) p.axioms (tests p fits).axioms

pub inits_shallow : (p : Parts) → fits_parts p ≡ true → depth_of_all p.inits < 2 ^ 32
inits_shallow p fits = all_shallow (own_vocabulary p) p.inits (tests p fits).inits

pub few_fairs : (p : Parts) → fits_parts p ≡ true → length p.fairs < 2 ^ 32
few_fairs p fits = let few = (fitting p fits).few.fairs in omega (arith, few)

pub few_axioms : (p : Parts) → fits_parts p ≡ true → length p.axioms < 2 ^ 32
few_axioms p fits = let few = (fitting p fits).few.axioms in omega (arith, few)

pub few_inits : (p : Parts) → fits_parts p ≡ true → length p.inits < 2 ^ 32
few_inits p fits = let few = (fitting p fits).few.inits in omega (arith, few)

pub has_symbols : (p : Parts) (w : Tables) → HasVocabulary (own_vocabulary p) w → HasSymbols (own_vocabulary p) w
has_symbols p w has = record {
  count = has.sorts;
  relations = λ r sorts h. ap (λ shapes. relation_in shapes r) has.relations ∙ h;
  constants = λ c sort h. ap (λ shapes. constant_in shapes c) has.constants ∙ h;
}

-- ---- a guard that is false

pub refused_below : (p : Parts) (m : Meaning) (n : ℕ) (ss : List StepTaken) (k : ℕ) → first_refused p m n ss ≡ Some k → k < n + length ss
refused_below p m n ss k h = let r = first_is_refused p m n ss k h in let a = r.is in let b = r.there in omega (arith, a, b)

refused_first : (p : Parts) (m : Meaning) (n : ℕ) (ss ts : List StepTaken) (k : ℕ) → first_refused p m n ss ≡ Some k → first_refused p m n (ss ++ ts) ≡ Some k
refused_first p m n [] ts k h = cc
refused_first p m n (s ∷ ss) ts k h = by (is_guarded p m s) refl h (refused_first p (taken p m s) (suc n) ss ts k)
  where
    by : (b : Bool) → is_guarded p m s ≡ b → cond b (first_refused p (taken p m s) (suc n) ss) (Some n) ≡ Some k
        → (first_refused p (taken p m s) (suc n) ss ≡ Some k → first_refused p (taken p m s) (suc n) (ss ++ ts) ≡ Some k)
        → cond (is_guarded p m s) (first_refused p (taken p m s) (suc n) (ss ++ ts)) (Some n) ≡ Some k
    by true is h rest = cond-true (is_guarded p m s) _ _ is ∙ rest h
    by false is h rest = cond-false (is_guarded p m s) _ _ is ∙ h

pub stem_refused : (p : Parts) (l : Lasso) → LassoFits p l → Begins p (meaning l.start) → (k : ℕ) → first_refused p (meaning l.start) 0 l.stem ≡ Some k → IsAnswer p l (GuardFails k)
stem_refused p l fit begins k h = (begins, refused p l fit k (refused_first p (meaning l.start) 0 l.stem l.turn k h))

module _ (p : Parts) (l : Lasso) (first : Tables) (before : List Tables) (walked : Walked p l.start l.stem [] before first) where
  count_before : length before ≡ 0 + length l.stem
  count_before = let a = length-map before meaning in let b = ap length walked.passed in let c = length_states p (meaning l.start) l.stem in omega (arith, a, b, c)

  whole : first_refused p (meaning l.start) 0 (l.stem ++ l.turn) ≡ first_refused p (meaning first) (length before) l.turn
  whole = refused_append p (meaning l.start) 0 (length before) l.stem l.turn count_before walked.guarded ∙ ap (λ m. first_refused p m (length before) l.turn) (sym walked.ends)

  pub turn_refused : LassoFits p l → Begins p (meaning l.start) → (k : ℕ) → first_refused p (meaning first) (length before) l.turn ≡ Some k → IsAnswer p l (GuardFails k)
  turn_refused fit begins k h = (begins, refused p l fit k (whole ∙ h))

  pub turn_below : (k : ℕ) → LassoFits p l → first_refused p (meaning first) (length before) l.turn ≡ Some k → k < 2 ^ 32
  turn_below k fit h = let a = refused_below p (meaning first) (length before) l.turn k h in let b = count_before in let c = fit.few in omega (arith, a, b, c)

  pub turn_fits : LassoFits p l → steps_fit p (size_in first) l.turn ≡ true
  turn_fits fit = subst (λ sizes. steps_fit p (size_of sizes) l.turn ≡ true) (sym walked.symbols.sizes) fit.turn

  pub first_symbols : LassoFits p l → HasSymbols (own_vocabulary p) first
  first_symbols fit = record {
    count = ap length walked.symbols.sizes ∙ fit.vocabulary.sorts;
    relations = λ r sorts h. ap (λ shapes. relation_in shapes r) (walked.symbols.relations ∙ fit.vocabulary.relations) ∙ h;
    constants = λ c sort h. ap (λ shapes. constant_in shapes c) (walked.symbols.constants ∙ fit.vocabulary.constants) ∙ h;
  }

  pub played : (through : List Tables) (last : Tables) → Begins p (meaning l.start) → Walked p first l.turn before through last → IsSound l.start → IsSound first → IsSound last
      → IsPlayed p l first last through
  played through last begins w a b c = record {
    begins = begins;
    guarded = whole ∙ w.guarded;
    states = w.passed ∙ (ap₂ (λ xs m. xs ++ states_of p m l.turn) walked.passed walked.ends ∙ sym (states_append p (meaning l.start) l.stem l.turn));
    starts = walked.ends;
    ends = w.ends ∙ (ap (λ m. reached p m l.turn) walked.ends ∙ sym (reached_append p (meaning l.start) l.stem l.turn));
    symbols = w.symbols;
    sound_start = a;
    sound_first = b;
    sound_last = c;
  }

-- ---- the loop

module _ (p : Parts) (l : Lasso) (fit : LassoFits p l) (first last : Tables) (through : List Tables) (it : IsPlayed p l first last through) where
  pub is_open : (IsSame first last → ⊥) → IsAnswer p l LoopOpen
  is_open differ = (it.begins, allowed p l fit it.guarded, λ c. differ (same_tables first last it.symbols it.sound_first it.sound_last (it.starts ∙ (same_ends p l fit c ∙ sym it.ends))))

  pub is_run : fits_parts p ≡ true → IsSame first last → IsLassoRun p (run_of p l)
  is_run fits same = lasso_run p l fit fits it.sound_start it.begins it.guarded (sym it.starts ∙ (same_meaning-tables first last same ∙ it.ends))

pub states_long : (p : Parts) (l : Lasso) (states : List Tables) → map meaning states ≡ states_of p (meaning l.start) (l.stem ++ l.turn) → length states ≡ length l.stem + length l.turn
states_long p l states e = let a = length-map states meaning in let b = ap length e in let c = length_states p (meaning l.start) (l.stem ++ l.turn) in let d = length-append l.stem l.turn in omega (arith, a, b, c, d)

pub walked_none : (p : Parts) (start : Tables) (ss : List StepTaken) (before states : List Tables) (o : Option Tables) → IsWalked p start ss before states o → o ≡ None → first_refused p (meaning start) (length before) ss ≡ Some (length states)
walked_none p start ss before states o w e = subst (IsWalked p start ss before states) e w

pub walked_some : (p : Parts) (start : Tables) (ss : List StepTaken) (before states : List Tables) (o : Option Tables) (end : Tables) → IsWalked p start ss before states o → o ≡ Some end → Walked p start ss before states end
walked_some p start ss before states o end w e = subst (IsWalked p start ss before states) e w
