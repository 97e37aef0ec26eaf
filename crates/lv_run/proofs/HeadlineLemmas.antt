-- Where the first byte of a report is `p`, the text was proved.
use Rattle.std.proofs.Common.{◌≡◌, ◌⊎◌, ℕ, zero, suc, List, [], ◌∷◌, ◌++◌, take, map, string_bytes, true, false, Option, Some, None, refl, sym, ap, subst, ◌∙◌, inl, inr}
use Rattle.std.specs.Prelude.{IfSome}
use Rattle.std.specs.declared.string.String.{String}
use Rattle.std.specs.declared.alloc.Global.{Global}
use Rattle.std.proofs.lemmas.List.{append_cancel_left}
use Rattle.lv_edge.specs.Streams.{Grows, GrowsByPart}
use Rattle.lv_system.specs.declared.parts.Parts.{Parts}
use Rattle.lv_run.specs.declared.detail.Detail.{Detail}
use Rattle.lv_run.specs.declared.detail.Detail.TheVariants as D
use Rattle.lv_grammar.specs.Layout.{shown_text}
use Rattle.lv_command.specs.declared.mode.Mode.TheVariants.{Make}
use Rattle.lv_command.specs.declared.mode.TextMode.{TextMode}
use Rattle.lv_command.specs.declared.mode.TextMode.TheVariants.{Check, Prove, Replay, Show}
use Rattle.lv_command.proofs.CommandWords.{in_range}
use Rattle.lv_chain.specs.Chain.{chain_of}
use Rattle.lv_prove.specs.declared.outcome.Outcome.{Outcome}
use Rattle.lv_prove.specs.declared.outcome.Outcome.TheVariants as O
use Rattle.lv_prove.specs.Outcomes.{IsOutcome}
use Rattle.lv_headline.specs.Headline.{HoldsAtAllSizes, IsProved}
use Rattle.lv_headline.proofs.Sound.{chain_holds, text_proved}
use Rattle.lv_report.specs.Texts.{begins_with_p}
use Rattle.lv_spelling.proofs.OneSystem.{spells_at_most_one}
use Rattle.lv_run.specs.Answers.{Reading, NoTree, NoText, OneSystem, OneCheck, OneReplay, Systems, Reads, IsAnswer, check_report, checked_text, language_of, replay_report, replayed_text, report_of, system_report}
use Rattle.lv_check.specs.declared.checking.Checked.{Checked}
use Rattle.lv_check.specs.declared.checking.Checked.TheVariants as C
use Rattle.lv_replay.specs.declared.answer.ReplayAnswer.{ReplayAnswer}
use Rattle.lv_replay.specs.declared.answer.ReplayAnswer.TheVariants as L
use Rattle.lv_run.specs.Chains.{IsChainAnswer, made_report}
use Rattle.lv_run.specs.Calls.{AskFor, IsMade, AreRead, IsReadAnswer, IsComposed, IsDelivered, HasReason, BeginsWithP, told_of}
use Rattle.lv_run.proofs.CallLemmas.{reason, same_mode}

-- a text's first byte is the letter `p`
pub record StartsWithP (text : List ℕ) : Type 0 where
  pub rest : List ℕ
  pub is : text ≡ 112 ∷ rest

-- a report that doesn't begin with it
other_letter : (text : List ℕ) → begins_with_p text ≡ false → StartsWithP text → ⊥
other_letter text other s = let bad : false ≡ true = sym other ∙ ap begins_with_p s.is in cc

nothing : (ys : List ℕ) → [] ≡ 112 ∷ ys → ⊥
nothing ys e = cc

told_proof : (left : Option (List ℕ)) (bytes : List ℕ) → AreRead left bytes → IsProved bytes → IfSome left IsProved
told_proof None bytes r h = tt
told_proof (Some told) bytes r h = subst IsProved (sym r.all) h

-- a text whose system has all its obligations valid is proved
proof : (p : Parts) (bytes : List ℕ) (budget n : ℕ) → Reads Systems bytes (OneSystem p) → IsOutcome p budget (O.Proved n) → IsProved bytes
proof p bytes budget n reads a = text_proved bytes p reads (λ other spells. spells_at_most_one bytes other p spells reads) a.1

-- of the reports on a system the one that it is proved begins with `p`
of_system : (p : Parts) (mode : TextMode) (bytes : List ℕ) (d : Detail) → Reads (language_of mode) bytes (OneSystem p) → IsAnswer mode (OneSystem p) d → StartsWithP (system_report p d) → IsProved bytes
of_system p (Prove budget) bytes (D.Proved n) reads a s = proof p bytes budget n reads a
of_system p (Prove budget) bytes (D.Counter i w) reads a s = absurd (other_letter _ refl s)
of_system p (Prove budget) bytes (D.NotStratified i ss) reads a s = absurd (other_letter _ refl s)
of_system p (Prove budget) bytes (D.TooLarge i) reads a s = absurd (other_letter _ refl s)
of_system p (Prove budget) bytes (D.Spent i log) reads a s = absurd (other_letter _ refl s)
of_system p (Prove budget) bytes D.Shown reads a s = absurd a
of_system p (Prove budget) bytes (D.Checked checked) reads a s = absurd a
of_system p (Prove budget) bytes (D.Replayed answer) reads a s = absurd a
of_system p (Prove budget) bytes (D.Made obligations largest answer) reads a s = absurd a
of_system p (Prove budget) bytes (D.TreeRefused f) reads a s = absurd a
of_system p (Prove budget) bytes (D.SyntaxRefused f) reads a s = absurd a
of_system p (Prove budget) bytes D.Usage reads a s = absurd a
of_system p (Prove budget) bytes D.TooLong reads a s = absurd a
of_system p (Prove budget) bytes D.ReadFault reads a s = absurd a
of_system p (Prove budget) bytes D.WriteFault reads a s = absurd a
of_system p (Prove budget) bytes D.MemoryWanting reads a s = absurd a
of_system p Show bytes d reads a s =
    let shown : StartsWithP (shown_text p) = subst (λ x. StartsWithP (system_report p x)) a s in
    absurd (other_letter (shown_text p) refl shown)
of_system p Check bytes d reads a s = absurd reads
of_system p Replay bytes d reads a s = absurd reads

-- and none of those on a check or a replay
checked_letter : (checked : Checked) → begins_with_p (checked_text checked) ≡ false
checked_letter C.Breaks = refl
checked_letter (C.HypothesisFails number) = refl
checked_letter C.ConclusionHolds = refl

check_letter : (d : Detail) → StartsWithP (check_report d) → ⊥
check_letter (D.Checked checked) s = other_letter (checked_text checked) (checked_letter checked) s
check_letter (D.Proved n) s = nothing s.rest s.is
check_letter (D.Counter i w) s = nothing s.rest s.is
check_letter (D.NotStratified i ss) s = nothing s.rest s.is
check_letter (D.TooLarge i) s = nothing s.rest s.is
check_letter (D.Spent i log) s = nothing s.rest s.is
check_letter D.Shown s = nothing s.rest s.is
check_letter (D.Replayed answer) s = nothing s.rest s.is
check_letter (D.Made obligations largest answer) s = nothing s.rest s.is
check_letter (D.TreeRefused f) s = nothing s.rest s.is
check_letter (D.SyntaxRefused f) s = nothing s.rest s.is
check_letter D.Usage s = nothing s.rest s.is
check_letter D.TooLong s = nothing s.rest s.is
check_letter D.ReadFault s = nothing s.rest s.is
check_letter D.WriteFault s = nothing s.rest s.is
check_letter D.MemoryWanting s = nothing s.rest s.is

replayed_letter : (p : Parts) (answer : ReplayAnswer) → begins_with_p (replayed_text p answer) ≡ false
replayed_letter p (L.AxiomFails number) = refl
replayed_letter p L.NotInit = refl
replayed_letter p (L.GuardFails step) = refl
replayed_letter p L.LoopOpen = refl
replayed_letter p (L.Unfair fair) = refl
replayed_letter p L.Satisfies = refl
replayed_letter p L.Violates = refl

replay_letter : (p : Parts) (d : Detail) → StartsWithP (replay_report p d) → ⊥
replay_letter p (D.Replayed answer) s = other_letter (replayed_text p answer) (replayed_letter p answer) s
replay_letter p (D.Proved n) s = nothing s.rest s.is
replay_letter p (D.Counter i w) s = nothing s.rest s.is
replay_letter p (D.NotStratified i ss) s = nothing s.rest s.is
replay_letter p (D.TooLarge i) s = nothing s.rest s.is
replay_letter p (D.Spent i log) s = nothing s.rest s.is
replay_letter p D.Shown s = nothing s.rest s.is
replay_letter p (D.Checked checked) s = nothing s.rest s.is
replay_letter p (D.Made obligations largest answer) s = nothing s.rest s.is
replay_letter p (D.TreeRefused f) s = nothing s.rest s.is
replay_letter p (D.SyntaxRefused f) s = nothing s.rest s.is
replay_letter p D.Usage s = nothing s.rest s.is
replay_letter p D.TooLong s = nothing s.rest s.is
replay_letter p D.ReadFault s = nothing s.rest s.is
replay_letter p D.WriteFault s = nothing s.rest s.is
replay_letter p D.MemoryWanting s = nothing s.rest s.is

-- nor any on a chain
chain_letter : (p : Parts) (obligations largest : ℕ) (answer : Outcome) → StartsWithP (made_report p (D.Made obligations largest answer)) → ⊥
chain_letter p obligations largest answer s = other_letter (made_report p (D.Made obligations largest answer)) refl s

of_reading : (r : Reading) (mode : TextMode) (bytes : List ℕ) (d : Detail) → Reads (language_of mode) bytes r → IsAnswer mode r d → StartsWithP (report_of r d) → IsProved bytes
of_reading (NoTree f) mode bytes d reads a s = absurd (nothing s.rest s.is)
of_reading (NoText f) mode bytes d reads a s = absurd (nothing s.rest s.is)
of_reading (OneSystem p) mode bytes d reads a s = of_system p mode bytes d reads a s
of_reading (OneCheck c) mode bytes d reads a s = absurd (check_letter d s)
of_reading (OneReplay r) mode bytes d reads a s = absurd (replay_letter r.system d s)

of_answer : (words : List (String Global)) (left : Option (List ℕ)) (d : Detail) (out : List ℕ) → IsReadAnswer words left d out → StartsWithP out → IfSome left IsProved
of_answer words left d out c s =
    let a = c.answered in
    told_proof left c.bytes c.read (of_reading a.reading c.mode c.bytes d a.reads a.is (subst StartsWithP a.report s))

of_composed : (words : List (String Global)) (left : Option (List ℕ)) (d : Detail) (out : List ℕ) → IsComposed words left d out → StartsWithP out → IfSome left IsProved
of_composed words left (D.Proved n) out c s = of_answer words left _ out c s
of_composed words left (D.Counter i w) out c s = of_answer words left _ out c s
of_composed words left (D.NotStratified i ss) out c s = of_answer words left _ out c s
of_composed words left (D.TooLarge i) out c s = of_answer words left _ out c s
of_composed words left (D.Spent i log) out c s = of_answer words left _ out c s
of_composed words left D.Shown out c s = of_answer words left _ out c s
of_composed words left (D.Checked checked) out c s = of_answer words left _ out c s
of_composed words left (D.Replayed answer) out c s = of_answer words left _ out c s
of_composed words left (D.Made obligations largest answer) out c s = absurd (chain_letter (chain_of c.places) obligations largest answer (subst StartsWithP c.answered.1 s))
of_composed words left (D.TreeRefused f) out c s = of_answer words left _ out c s
of_composed words left (D.SyntaxRefused f) out c s = of_answer words left _ out c s
of_composed words left D.Usage out c s = absurd (nothing s.rest (sym c.1 ∙ s.is))
of_composed words left D.TooLong out c s = absurd (nothing s.rest (sym c.2 ∙ s.is))
of_composed words left D.ReadFault out c s = absurd (nothing s.rest (sym c.1 ∙ s.is))
of_composed words left D.WriteFault out c s = absurd c
of_composed words left D.MemoryWanting out c s = absurd (nothing s.rest (sym c ∙ s.is))

-- a text that a sink got whole, or the part of one that it got, where it begins with `p`
whole_starts : (before now : Option (List ℕ)) (text : List ℕ) → Grows before now text → BeginsWithP before now → StartsWithP text
whole_starts before now text g b =
    let grown : Some (b.front ++ text) ≡ Some (b.front ++ 112 ∷ b.rest) = sym (rw b.was at g) ∙ b.is in
    let same : b.front ++ text ≡ b.front ++ 112 ∷ b.rest = cc in
    record { rest = b.rest; is = append_cancel_left b.front text (112 ∷ b.rest) same }

front_starts : (count : ℕ) (text : List ℕ) → StartsWithP (take count text) → StartsWithP text
front_starts zero text s = absurd (nothing s.rest s.is)
front_starts (suc n) [] s = absurd (nothing s.rest s.is)
front_starts (suc n) (x ∷ xs) s =
    let e : x ∷ take n xs ≡ 112 ∷ s.rest = s.is in
    let f : x ≡ 112 = cc in record { rest = xs; is = ap (λ y. y ∷ xs) f }

part_starts : (before now : Option (List ℕ)) (text : List ℕ) → GrowsByPart before now text → BeginsWithP before now → StartsWithP text
part_starts before now text g b = front_starts g.count text (whole_starts before now (take g.count text) g.grown b)

delivered_starts : (composed answered : Detail) (on-out on-err : List ℕ) (out out' err err' : Option (List ℕ))
    → IsDelivered composed answered on-out on-err out out' err err' → BeginsWithP out out' → StartsWithP on-out
delivered_starts composed answered on-out on-err out out' err err' (inl d) b = whole_starts out out' on-out d.1 b
delivered_starts composed answered on-out on-err out out' err err' (inr d) b = failed d.1 where
  failed : (GrowsByPart out out' on-out × (err' ≡ err)) ⊎ (Grows out out' on-out × GrowsByPart err err' on-err) → StartsWithP on-out
  failed (inl p) = part_starts out out' on-out p.0 b
  failed (inr w) = whole_starts out out' on-out w.0 b

pub headline : (words : List (String Global)) (left : Option (List ℕ)) (composed answered : Detail) (on-out : List ℕ) (out out' err err' : Option (List ℕ))
    → IsComposed words left composed on-out → IsDelivered composed answered on-out (told_of composed) out out' err err' → BeginsWithP out out' → IfSome left IsProved
headline words left composed answered on-out out out' err err' c d b =
    of_composed words left composed on-out c (delivered_starts composed answered on-out (told_of composed) out out' err err' d b)

-- the answer that came has its reason, as the composed one has, or is a write fault
pub reason_delivered : (words : List (String Global)) (left : Option (List ℕ)) (composed answered : Detail) (on-out : List ℕ) (out out' err err' : Option (List ℕ))
    → IsComposed words left composed on-out → IsDelivered composed answered on-out (told_of composed) out out' err err' → HasReason words left answered
reason_delivered words left composed answered on-out out out' err err' c (inl d) = subst (HasReason words left) (sym d.0) (reason words left composed on-out c)
reason_delivered words left composed answered on-out out out' err err' c (inr d) = subst (HasReason words left) (sym d.0) tt

-- a chain whose answer is that it is proved has all its obligations valid
pub chain_headline : (words : List (String Global)) (left : Option (List ℕ)) (d : Detail) → HasReason words left d → (places obligations largest n : ℕ) → AskFor (Make places) words
    → d ≡ D.Made obligations largest (O.Proved n) → HoldsAtAllSizes (chain_of places)
chain_headline words left d r places obligations largest n asked is =
    let made : IsMade words (D.Made obligations largest (O.Proved n)) = subst (HasReason words left) is r in
    let one : Make made.places ≡ Make places = same_mode words (Make made.places) (Make places) made.asked asked in
    let same : made.places ≡ places = cc in
    let answer : IsChainAnswer places (D.Made obligations largest (O.Proved n)) = subst (λ (m : ℕ). IsChainAnswer m (D.Made obligations largest (O.Proved n))) same made.is in
    let range = in_range (Some (Make places)) (map (λ word. string_bytes word) words) (sym asked) in
    chain_holds places range.0 range.1 answer.decided.1
