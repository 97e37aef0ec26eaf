-- All obligations of the sample system over a sort are valid.
use Rattle.std.proofs.Common.{◌≡◌, ℕ, zero, suc, Bool, true, false, not, ◌&&◌, ◌||◌, eqb, ltb, List, [], ◌∷◌, reverse, refl, sym, ap, subst, ◌∙◌, arith, eq-eqb, lt-ltb}
use Rattle.std.specs.List.{All}
use Rattle.std.proofs.lemmas.Bool.{and_from, and_parts, false≢true, or_left, or_right}
use Rattle.std.proofs.lemmas.List.Elements.{All-cons, All-nil, All-weaker}
use Rattle.lv_formula.specs.declared.symbols.Sym.TheVariants.{Own, Witness, Label, Frozen, Saved, Due, Next, Param}
use Rattle.lv_formula.specs.declared.formula.Formula.TheVariants as F
use Rattle.lv_formula.specs.Symbols.{sym_eq}
use Rattle.lv_formula.proofs.Folds as FF
use Rattle.lv_formula.specs.Meaning.{IsStructureOf, Meaning, in_range}
use Rattle.lv_struct.specs.Tables.{meaning}
use Rattle.lv_struct.proofs.MeaningLaws.{structure_of}
use Rattle.lv_formula.specs.Truth.{all_below, all_true_in, any_below, truth_in}
use Rattle.lv_formula.proofs.Below.{any_below-holds}
use Rattle.lv_system.specs.declared.parts.Action.{Action}
use Rattle.lv_system.specs.Step.{action_at}
use Rattle.lv_labels.specs.Problem.{Problem, choice_at, problem_of}
use Rattle.lv_labels.specs.Runs.{IsStart, LabelEquation, is_constant_value, is_witness_value}
use Rattle.lv_labels.specs.declared.moves.Move.{Move}
use Rattle.lv_labels.specs.declared.moves.Move.TheVariants.{Stay, Freeze, Save}
use Rattle.lv_labels.specs.Monitor.{MayMove, NoneDue, is_freeze, is_touched, is_touched_first, stepped}
use Rattle.lv_labels.specs.Vocabularies.{step_vocabulary}
use Rattle.lv_formula.specs.Tuples.{over}
use Rattle.lv_labels.specs.declared.which.Which.{Which}
use Rattle.lv_labels.specs.declared.which.Which.TheVariants as W
use Rattle.lv_labels.specs.Obligations.{AreValid, Breaks, IsValid, invariants_of, obligations_of, vocabulary_of}
use Rattle.lv_temporal.specs.Samples.{node}
use Rattle.lv_examples.specs.Visits.{is_at, seen, visits, w_due, w_done, w_missed, w_seen}
use Rattle.lv_examples.proofs.VisitsProblem.{done, missed, problem, problem-visits}

-- ---- truth values

some_step : (a c t : Bool) → (not a ≡ true → c ≡ true) → not (a && not t) ≡ true → (c || t) ≡ true
some_step a c true ih h = or_right c true refl
some_step true c false ih h = absurd (false≢true h)
some_step false c false ih h = or_left c false (ih refl)

-- what isn't false everywhere is true somewhere
some_not : (n : ℕ) (p : ℕ → Bool) → not (all_below n (λ x. not (p x))) ≡ true → any_below n p ≡ true
some_not zero p h = h
some_not (suc n) p h = some_step (all_below n (λ x. not (p x))) (any_below n p) (p n) (some_not n p) h

or_end : (a b : Bool) → (a || b) ≡ true → (a || (b || false)) ≡ true
or_end true b h = refl
or_end false true h = refl
or_end false false h = h

not_due : (d s : Bool) → (d || (s || false)) ≡ true → d ≡ false → s ≡ true
not_due true s h e = absurd (false≢true (sym e))
not_due false true h e = refl
not_due false false h e = h

frozen_parts : (f s d : Bool) → (not f || (s && (d && true))) ≡ true → f ≡ true → (s ≡ true) × (d ≡ true)
frozen_parts true true true h e = (refl, refl)
frozen_parts true true false h e = absurd (false≢true h)
frozen_parts true false d h e = absurd (false≢true h)
frozen_parts false s d h e = absurd (false≢true e)

frozen_fails : (f s d : Bool) → (not f || (s && (d && true))) ≡ false → (f ≡ true → (s ≡ true) × (d ≡ true)) → ⊥
frozen_fails true true true h k = false≢true (sym h)
frozen_fails true true false h k = false≢true (k refl).1
frozen_fails true false d h k = false≢true (k refl).0
frozen_fails false s d h k = false≢true (sym h)

visit_fails : (d e s : Bool) → ((d && not e) || (s || false)) ≡ false → (d ≡ true → e ≡ true → s ≡ true) → (d ≡ false → s ≡ true) → ⊥
visit_fails true true true h a b = false≢true (sym h)
visit_fails true true false h a b = false≢true (a refl refl)
visit_fails true false s h a b = false≢true (sym h)
visit_fails false e true h a b = false≢true (sym h)
visit_fails false e false h a b = false≢true (b refl)

-- ---- what is known in a structure

abbrev pub q : Problem
q = problem visits.invariants

abbrev a : Action
a = action_at visits 0

abbrev w : Meaning → ℕ
w m = m.value (Witness 0)

abbrev is_seen : Meaning → Bool
is_seen m = m.holds (Own 1) (w m ∷ [])

abbrev is_done : Meaning → Bool
is_done m = m.holds (Own 2) (w m ∷ [])

abbrev is_there : Meaning → Bool
is_there m = eqb (m.value (Own 0)) (w m)

-- what the invariants say
record Known (m : Meaning) : Type 0 where
  missed : m.holds (Label 0) (w m ∷ []) ≡ true
  visited : (m.holds (Due 0) (w m ∷ []) || (is_seen m || false)) ≡ true
  frozen : (not (m.holds Frozen []) || (is_seen m && (is_done m && true))) ≡ true
  saved : not (m.holds Saved []) ≡ true

known : (m : Meaning) → all_true_in m (invariants_of visits) [] ≡ true → Known m
known m h =
    let one = and_parts (truth_in m w_missed []) _ h in
    let two = and_parts (truth_in m (F.Or (w_due ∷ (w_seen ∷ []))) []) _ one.1 in
    let three = and_parts (truth_in m (F.Implies (F.Atom Frozen []) (F.And (w_seen ∷ (w_done ∷ [])))) []) _ two.1 in
    let four = and_parts (truth_in m (F.Not (F.Atom Saved [])) []) true three.1 in
    record {
      missed = simp (FF.folds_at) at one.0;
      visited = simp (FF.folds_at) at two.0;
      frozen = simp (FF.folds_at) at three.0;
      saved = simp (FF.folds_at) at four.0;
    }

-- the witness is an element
inside : (m : Meaning) → IsStructureOf (step_vocabulary q a) m → in_range m (node ∷ []) (w m ∷ []) ≡ true
unfolding sym_eq
inside m s = and_from (ltb (w m) (m.size node)) true (lt-ltb (w m) (m.size node) (s.constants (Witness 0) node refl)) refl

-- what the label's equation says of it
unfulfilled : (m : Meaning) → IsStructureOf (step_vocabulary q a) m → LabelEquation q m (λ l tuple. m.holds (Next l) tuple) → Known m
    → (is_done m ≡ false) × (m.holds (Next 0) (w m ∷ []) ≡ true)
unfulfilled m s eq k =
    let both = and_parts (truth_in m (F.Not done) (reverse (w m ∷ []))) (m.holds (Next 0) (w m ∷ []))
    (sym (eq 0 (omega arith) (w m ∷ []) (inside m s)) ∙ k.missed) in
    (was_not (is_done m) (simp (FF.folds_at) at both.0), both.1)
  where
    was_not : (b : Bool) → not b ≡ true → b ≡ false
    was_not true h = absurd (false≢true h)
    was_not false h = refl

-- nothing is due, so it was seen
seen_then : (m : Meaning) → NoneDue q m → Known m → is_seen m ≡ true
seen_then m none k = not_due (m.holds (Due 0) (w m ∷ [])) (is_seen m) k.visited (none 0 (omega arith) (w m ∷ []))

-- ---- the start

is_missed : (m : Meaning) → IsStart q m → m.holds (Label 0) (w m ∷ []) ≡ true
is_missed m s = simp (FF.folds_at) at (s.chosen 0 (omega arith)
    (simp (FF.folds_at) (some_not (m.size node) (λ x. m.holds (Label 0) (x ∷ [])) (simp (FF.folds_at) at s.denied))))

is_touched_at_first : (m : Meaning) → is_touched_first q m node (w m) ≡ true
is_touched_at_first m = or_right (is_constant_value q.parts (λ c. m.value (Own c)) node (w m)) (is_witness_value q m node (w m))
    (any_below-holds 1 (λ k. eqb (choice_at q k).sort.0 node.0 && eqb (m.value (Witness k)) (w m)) 0 (omega arith) (eq-eqb (w m) (w m) refl))

abbrev NotBroken : Problem → Which → Type 0
NotBroken r which = (m : Meaning) → IsStructureOf (vocabulary_of r which) m → Breaks r which m → ⊥

start-missed : NotBroken q (W.Start 0)
start-missed m s b = false≢true (sym (simp (FF.folds_at) at b.fails) ∙ is_missed m b.start)

start-visited : NotBroken q (W.Start 1)
start-visited m s b = false≢true (sym (simp (FF.folds_at) at b.fails)
    ∙ or_left (over (is_touched_first q m) (node ∷ []) (w m ∷ [])) (is_seen m || false)
    (and_from (is_touched_first q m node (w m)) true (is_touched_at_first m) refl))

start-frozen : NotBroken q (W.Start 2)
start-frozen m s b = false≢true (sym (simp (FF.folds_at) at b.fails))

start-saved : NotBroken q (W.Start 3)
start-saved m s b = false≢true (sym (simp (FF.folds_at) at b.fails))

-- ---- steps

seen_after : (mv : Move) (m : Meaning) → IsStructureOf (step_vocabulary q a) m → (is_seen m || is_there m) ≡ true
    → (stepped q mv a m).holds (Own 1) (w m ∷ []) ≡ true
seen_after mv m s h = and_from (in_range m (node ∷ []) (w m ∷ []))
    (truth_in m (F.Or (seen 0 ∷ (is_at 0 ∷ []))) (w m ∷ (m.value (Param 0) ∷ []))) (inside m s) (simp (FF.folds_at) (or_end (is_seen m) (is_there m) h))

done_after : (mv : Move) (m : Meaning) → IsStructureOf (step_vocabulary q a) m → is_seen m ≡ true
    → (stepped q mv a m).holds (Own 2) (w m ∷ []) ≡ true
done_after mv m s h = and_from (in_range m (node ∷ []) (w m ∷ [])) (truth_in m (seen 0) (w m ∷ (m.value (Param 0) ∷ []))) (inside m s)
    (simp (FF.folds_at) h)

-- where the next structure is frozen, the witness was seen
seen_when : (mv : Move) (m : Meaning) → MayMove q mv m → Known m → (is_freeze mv || m.holds Frozen []) ≡ true → is_seen m ≡ true
seen_when Stay m may k f = (frozen_parts (m.holds Frozen []) (is_seen m) (is_done m) k.frozen f).0
seen_when Freeze m may k f = seen_then m may.2 k
seen_when Save m may k f = (frozen_parts (m.holds Frozen []) (is_seen m) (is_done m) k.frozen f).0

-- what two of the invariants say, in truth values
due_or_seen-is : (n : Meaning) → truth_in n (F.Or (w_due ∷ (w_seen ∷ []))) [] ≡ (n.holds (Due 0) (w n ∷ []) || (is_seen n || false))
due_or_seen-is n = simp (FF.folds_at) refl

frozen_then_done-is : (n : Meaning) → truth_in n (F.Implies (F.Atom Frozen []) (F.And (w_seen ∷ (w_done ∷ [])))) []
    ≡ (not (n.holds Frozen []) || (is_seen n && (is_done n && true)))
frozen_then_done-is n = simp (FF.folds_at) refl

visited_now : (m : Meaning) → truth_in m (is_at 0) (w m ∷ []) ≡ true → is_there m ≡ true
visited_now m h = simp (FF.folds_at) at h

step-missed : (mv : Move) → NotBroken q (W.Step 0 mv 0)
step-missed mv m s b = false≢true (sym (simp (FF.folds_at) at b.fails) ∙ (unfulfilled m s b.labels (known m b.invariants)).1)

step-visited : (mv : Move) → NotBroken q (W.Step 0 mv 1)
step-visited Stay m s b =
    visit_fails (m.holds (Due 0) (w m ∷ [])) (truth_in m (is_at 0) (w m ∷ [])) (is_seen (stepped q Stay a m)) (sym (due_or_seen-is (stepped q Stay a m)) ∙ b.fails)
    (λ d e. seen_after Stay m s (or_right (is_seen m) (is_there m) (visited_now m e)))
    (λ d. seen_after Stay m s (or_left (is_seen m) (is_there m) (not_due (m.holds (Due 0) (w m ∷ [])) (is_seen m) (known m b.invariants).visited d)))
step-visited Freeze m s b =
    let now = seen_after Freeze m s (or_left (is_seen m) (is_there m) (seen_then m b.may_move.2 (known m b.invariants))) in
    visit_fails (over (is_touched m) (node ∷ []) (w m ∷ [])) (truth_in m (is_at 0) (w m ∷ [])) (is_seen (stepped q Freeze a m))
    (sym (due_or_seen-is (stepped q Freeze a m)) ∙ b.fails) (λ d e. now) (λ d. now)
step-visited Save m s b =
    let now = seen_after Save m s (or_left (is_seen m) (is_there m) (seen_then m b.may_move.2 (known m b.invariants))) in
    visit_fails (over (is_touched m) (node ∷ []) (w m ∷ [])) (truth_in m (is_at 0) (w m ∷ [])) (is_seen (stepped q Save a m))
    (sym (due_or_seen-is (stepped q Save a m)) ∙ b.fails) (λ d e. now) (λ d. now)

step-frozen : (mv : Move) → NotBroken q (W.Step 0 mv 2)
step-frozen mv m s b = frozen_fails (is_freeze mv || m.holds Frozen []) (is_seen (stepped q mv a m)) (is_done (stepped q mv a m))
    (sym (frozen_then_done-is (stepped q mv a m)) ∙ b.fails)
    (λ f. let then = seen_when mv m b.may_move (known m b.invariants) f in
    (seen_after mv m s (or_left (is_seen m) (is_there m) then), done_after mv m s then))

step-saved : (mv : Move) → NotBroken q (W.Step 0 mv 3)
step-saved Stay m s b = false≢true (sym (simp (FF.folds_at) at b.fails) ∙ (known m b.invariants).saved)
step-saved Freeze m s b = false≢true (sym (simp (FF.folds_at) at b.fails) ∙ (known m b.invariants).saved)
step-saved Save m s b =
    let k = known m b.invariants in
    false≢true (sym (unfulfilled m s b.labels k).0 ∙ (frozen_parts (m.holds Frozen []) (is_seen m) (is_done m) k.frozen b.may_move.0).1)

-- ---- all of them

catch : NotBroken q W.Catch
catch m s b = false≢true (sym (ap not b.caught.saved) ∙ (known m b.invariants).saved)

one_more : (which : Which) (rest : List Which) → NotBroken q which → All (NotBroken q) rest → All (NotBroken q) (which ∷ rest)
one_more which rest h all = All-cons (NotBroken q) which rest h all

abbrev steps_of : Move → List Which → List Which
steps_of mv rest = W.Step 0 mv 0 ∷ (W.Step 0 mv 1 ∷ (W.Step 0 mv 2 ∷ (W.Step 0 mv 3 ∷ rest)))

-- the four steps with a move, before the rest
of_move : (mv : Move) (rest : List Which) → All (NotBroken q) rest → All (NotBroken q) (steps_of mv rest)
of_move mv rest all =
    one_more (W.Step 0 mv 0) (W.Step 0 mv 1 ∷ (W.Step 0 mv 2 ∷ (W.Step 0 mv 3 ∷ rest))) (step-missed mv)
    (one_more (W.Step 0 mv 1) (W.Step 0 mv 2 ∷ (W.Step 0 mv 3 ∷ rest)) (step-visited mv)
    (one_more (W.Step 0 mv 2) (W.Step 0 mv 3 ∷ rest) (step-frozen mv)
    (one_more (W.Step 0 mv 3) rest (step-saved mv) all)))

abbrev from_save : List Which
from_save = steps_of Save (W.Catch ∷ [])

abbrev from_freeze : List Which
from_freeze = steps_of Freeze from_save

abbrev from_stay : List Which
from_stay = steps_of Stay from_freeze

all_not_broken : All (NotBroken q) (obligations_of visits)
all_not_broken =
    one_more (W.Start 0) (W.Start 1 ∷ (W.Start 2 ∷ (W.Start 3 ∷ from_stay))) start-missed
    (one_more (W.Start 1) (W.Start 2 ∷ (W.Start 3 ∷ from_stay)) start-visited
    (one_more (W.Start 2) (W.Start 3 ∷ from_stay) start-frozen
    (one_more (W.Start 3) from_stay start-saved
    (of_move Stay from_freeze (of_move Freeze from_save (of_move Save (W.Catch ∷ [])
    (one_more W.Catch [] catch (All-nil (NotBroken q)))))))))

pub visits_valid : AreValid visits
visits_valid = All-weaker (NotBroken (problem_of visits)) (IsValid (problem_of visits))
    (λ which h t sound has. h (meaning t) (structure_of (vocabulary_of (problem_of visits) which) t sound has)) (obligations_of visits)
    (subst (λ r. All (NotBroken r) (obligations_of visits)) (sym (problem-visits visits.invariants)) all_not_broken)
