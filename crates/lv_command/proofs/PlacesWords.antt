-- Which words the command takes behind `make`: a number, with at most `--` before or behind it. And what it reads there.
use Rattle.std.proofs.Common.{◌≡◌, ◌⊎◌, inl, inr, ℕ, zero, suc, Bool, true, false, ◌&&◌, ◌||◌, ◌==◌, List, [], ◌∷◌, length, Option, Some, None, codes, if◌then◌else◌, refl, sym, subst, ap, ◌∙◌, arith}
use Rattle.std.specs.Prelude.{pos, slice_get, fold, option_and_then, option_map, unwrap_or}
use Rattle.std.specs.Option.{option_map_or}
use Rattle.std.specs.Str.{chars, bytes_eq}
use Rattle.std.specs.Str.Parse.{IsNumeral, without_leading_plus}
use Rattle.clap.specs.Lexer.{long_of, long_of_rest, short_of, short_of_rest, strip_byte}
use Rattle.clap.specs.Takes.{bundle_passes, bundle_step_passes, flag_word_passes, flags_pass, is_given, level_passes, settle_passes, step_passes, turn_passes, walk_passes}
use Rattle.clap.specs.ValueTests.{accepts}
use Rattle.clap.specs.Walk.{Held, Outcome, Row, Step, Text, Walk, after_flag, after_step, bundle_met, bundle_step, finished, long_or_other, nothing_held, one_of, rows_after, short_or_plain, walk_from, walked}
use Rattle.clap.specs.Walk.{idle, plain, trailing, value}
use Rattle.clap.specs.declared.builder.value_parser.ValueParser.TheVariants as parsers
use Rattle.clap.proofs.WalkLemmas.{both}
use Rattle.lv_command.specs.Commands.{HasReadNumbers, IsChainSize, number_of, places_of}
use Rattle.lv_command.proofs.Numbers.{IsTakenIn, minus_free, number_is_taken}
use Rattle.lv_command.proofs.BudgetFaults.{and_true}
use Rattle.lv_command.proofs.BudgetWords.{EndDashed, dashes, held_with, same_text}
use Rattle.lv_command.proofs.PlacesFaults.{make_leaf, the_rules}

abbrev pub IsTaken : Text → Type 0
IsTaken = IsTakenIn 2 16

-- ---- where the walk stands

-- the text is the argument's value
abbrev given : Text → Held
given text = held_with [] (Some (codes "places", text ∷ []))

-- no value was met, or one
abbrev at_first : Walk
at_first = record { held = nothing_held; waiting = idle; position = 1; is_trailing = false; stopped = None }

abbrev at_second : Text → Walk
at_second text = record { held = given text; waiting = idle; position = 2; is_trailing = false; stopped = None }

-- the same behind `--`
abbrev trailing_first : Walk
trailing_first = record { held = nothing_held; waiting = idle; position = 1; is_trailing = true; stopped = None }

abbrev trailing_second : Text → Walk
trailing_second text = record { held = given text; waiting = idle; position = 2; is_trailing = true; stopped = None }

-- what is held is one value that is taken
abbrev Closes : Held → Type 0
Closes h = (settle_passes the_rules false h ≡ true) × (is_given (codes "places") (finished the_rules h) ≡ true)

-- the words pass from there on, and what is held at their end closes the parse
abbrev Ends : Walk → List Text → Type 0
Ends w words = (walk_passes make_leaf [] w words ≡ true) × Closes (fold (walked the_rules []) w words).held

none_closes : Closes nothing_held → ⊥
none_closes e = let bad : false ≡ true = e.1 in cc

closes_taken : (text : Text) → Closes (given text) → IsTaken text
closes_taken text e = let parts : (accepts false (parsers.Signed (pos 2) (pos 16)) text && true) ≡ true = e.0 in (both _ _ parts).0

taken_closes : (text : Text) → IsTaken text → Closes (given text)
taken_closes text good = (ap (λ b. b && true) good, refl)

-- ---- one word

bundle_plain : (k : ℕ) (flags : Text) (rows : List Row) (pending : Option (Text × List Text)) → flags_pass the_rules false k flags 0 (held_with rows pending) ≡ true
    → bundle_met the_rules k flags 0 plain (held_with rows pending) ≡ (held_with rows pending, plain)
unfolding flags_pass bundle_met
bundle_plain zero flags rows pending e = refl
bundle_plain (suc k) flags rows pending e = go (slice_get (chars flags) 0) e
  where
    go : (o : Option ℕ) → bundle_step_passes the_rules false o flags 0 (held_with rows pending) (flags_pass the_rules false k) ≡ true
        → bundle_step the_rules o flags 0 plain (held_with rows pending) (bundle_met the_rules k) ≡ (held_with rows pending, plain)
    go None e = refl
    go (Some x) e = let bad : false ≡ true = e in cc

-- a word that is no flag is a value
plain_is : (word : Text) (flags : Option Text) (rows : List Row) (pending : Option (Text × List Text))
    → option_map_or (λ f. bundle_passes the_rules false f (held_with rows pending)) flags true ≡ true
    → short_or_plain the_rules idle word flags (held_with rows pending) ≡ (held_with rows pending, value)
plain_is word None rows pending e = refl
plain_is word (Some flags) rows pending e = ap (λ (m : Held × Outcome). after_flag the_rules idle word m.0 m.1) (bundle_plain (length flags) flags rows pending e)

abbrev met : Bool → Walk → Option (Text × Option Text) → Text → Held × Step
met dashed w long word = if dashed then (w.held, trailing w.position) else long_or_other the_rules idle word long w.held

-- the word passes, and so do those behind it
abbrev Turns : Bool → Walk → Option (Text × Option Text) → Text → List Text → Type 0
Turns dashed w long word rest =
    (((dashed || flag_word_passes the_rules false long word w.held) && step_passes make_leaf w.position (met dashed w long word).0 (met dashed w long word).1) ≡ true)
    × Ends (after_step the_rules word w (met dashed w long word).0 (met dashed w long word).1) rest

-- a word is `--`, or a value
abbrev First : Text → List Text → Type 0
First word rest = ((word ≡ dashes) × Ends trailing_first rest) ⊎ Ends (at_second word) rest

first_turns : (dashed : Bool) (long : Option (Text × Option Text)) (word : Text) (rest : List Text) → bytes_eq word dashes ≡ dashed → Turns dashed at_first long word rest → First word rest
first_turns true long word rest is e = inl (same_text word dashes is, e.1)
first_turns false (Some p) word rest is e = let bad : false ≡ true = e.0 in cc
first_turns false None word rest is e =
    let parts = both (option_map_or (λ f. bundle_passes the_rules false f nothing_held) (short_of word) true) _ e.0 in
    inr (subst (λ (m : Held × Step). Ends (after_step the_rules word at_first m.0 m.1) rest) (plain_is word (short_of word) [] None parts.0) e.1)

first_turn : (word : Text) (rest : List Text) → Ends at_first (word ∷ rest) → First word rest
unfolding walk_passes walked
first_turn word rest e =
    let parts = both _ _ e.0 in
    first_turns (bytes_eq word dashes) (long_of word) word rest refl (parts.0, (parts.1, e.1))

-- behind a value only `--` passes
second_turns : (text : Text) (dashed : Bool) (long : Option (Text × Option Text)) (word : Text) (rest : List Text) → bytes_eq word dashes ≡ dashed → Turns dashed (at_second text) long word rest
    → (word ≡ dashes) × Ends (trailing_second text) rest
second_turns text true long word rest is e = (same_text word dashes is, e.1)
second_turns text false (Some p) word rest is e = let bad : false ≡ true = e.0 in cc
second_turns text false None word rest is e =
    let parts = both (option_map_or (λ f. bundle_passes the_rules false f (given text)) (short_of word) true) _ e.0 in
    let bad : false ≡ true = subst (λ (m : Held × Step). step_passes make_leaf 2 m.0 m.1 ≡ true) (plain_is word (short_of word) [] (Some (codes "places", text ∷ [])) parts.0) parts.1 in cc

second_turn : (text word : Text) (rest : List Text) → Ends (at_second text) (word ∷ rest) → (word ≡ dashes) × Ends (trailing_second text) rest
unfolding walk_passes walked
second_turn text word rest e =
    let parts = both _ _ e.0 in
    second_turns text (bytes_eq word dashes) (long_of word) word rest refl (parts.0, (parts.1, e.1))

-- ---- all words

-- the number, with `--` before or behind it, or alone
abbrev pub Sizes : Text → List Text → Type 0
Sizes text words = ((words ≡ text ∷ []) ⊎ (words ≡ text ∷ dashes ∷ [])) ⊎ (words ≡ dashes ∷ text ∷ [])

abbrev pub Behind : List Text → Type 0
Behind words = (text : Text) × IsTaken text × Sizes text words

trailed : (text : Text) (words : List Text) → Ends (trailing_second text) words → (words ≡ []) × IsTaken text
unfolding walk_passes
trailed text [] e = (refl, closes_taken text e.1)
trailed text (word ∷ rest) e = let bad : false ≡ true = e.0 in cc

behind_dashes : (words : List Text) → Ends trailing_first words → (text : Text) × IsTaken text × (words ≡ text ∷ [])
unfolding walk_passes walked
behind_dashes [] e = absurd (none_closes e.1)
behind_dashes (word ∷ rest) e = let it = trailed word rest e in let last = it.0 in (word, it.1, cc)

behind_value : (text : Text) (words : List Text) → Ends (at_second text) words → IsTaken text × EndDashed words
behind_value text [] e = (closes_taken text e.1, inl refl)
behind_value text (word ∷ rest) e =
    let it = second_turn text word rest e in
    let end = trailed text rest it.1 in
    let first = it.0 in let last = end.0 in (end.1, inr cc)

with_front : (text : Text) (rest : List Text) → EndDashed rest → Sizes text (text ∷ rest)
with_front text rest (inl is) = inl (inl cc)
with_front text rest (inr is) = inl (inr cc)

behind_make : (words : List Text) → Ends at_first words → Behind words
behind_make [] e = absurd (none_closes e.1)
behind_make (word ∷ rest) e = elim (first_turn word rest e) [
  | inl d ↦ let it = behind_dashes rest d.1 in let first = d.0 in let last = it.2 in (it.0, it.1, inr cc)
  | inr v ↦ let it = behind_value word rest v in (word, it.0, with_front word rest it.1)
]

abbrev pub Level : List Text → Type 0
Level words = level_passes make_leaf [] nothing_held words false ≡ true

pub leveled_behind : (words : List Text) → Level words → Behind words
leveled_behind words level =
    let walks = both (walk_passes make_leaf [] (walk_from nothing_held) words) _ level in
    let settles = both (settle_passes the_rules false (fold (walked the_rules []) at_first words).held) _ walks.1 in
    behind_make words (walks.0, (settles.0, (both (is_given (codes "places") (finished the_rules (fold (walked the_rules []) at_first words).held)) true settles.1).0))

-- ---- the forms

abbrev Reaches : Walk → List Text → Held → Type 0
Reaches w words h = (walk_passes make_leaf [] w words ≡ true) × ((fold (walked the_rules []) w words).held ≡ h)

turned : (w next : Walk) (word : Text) (rest : List Text) (h : Held) → turn_passes make_leaf [] w word ≡ true → walked the_rules [] w word ≡ next → Reaches next rest h → Reaches w (word ∷ rest) h
unfolding walk_passes
turned w next word rest h passes is e =
    let there : Reaches (walked the_rules [] w word) rest h = subst (λ (v : Walk). Reaches v rest h) (sym is) e in
    (and_true _ _ passes there.0, there.1)

at_end : (text : Text) (rest : List Text) → EndDashed rest → Reaches (at_second text) rest (given text)
unfolding walk_passes walked
at_end text rest (inl is) = subst (λ (ws : List Text). Reaches (at_second text) ws (given text)) (sym is) (refl, refl)
at_end text rest (inr is) = subst (λ (ws : List Text). Reaches (at_second text) ws (given text)) (sym is) (refl, refl)

-- a text without a hyphen in front
value_passes : (d : ℕ) (ds : Text) → (d == 45) ≡ false
    → (turn_passes make_leaf [] at_first (d ∷ ds) ≡ true) × (walked the_rules [] at_first (d ∷ ds) ≡ at_second (d ∷ ds))
unfolding walked
value_passes d ds is =
    let dashed : bytes_eq (d ∷ ds) dashes ≡ false = ap (λ b. b && bytes_eq ds (45 ∷ [])) is in
    let long : long_of (d ∷ ds) ≡ None = ap (λ b. option_and_then long_of_rest (option_and_then (strip_byte 45) (if b then Some ds else None))) is in
    let short : short_of (d ∷ ds) ≡ None = ap (λ b. option_and_then short_of_rest (if b then Some ds else None)) is in
    rw (dashed, long, short) (refl, refl)

value_first : (text : Text) (rest : List Text) → IsNumeral 10 (without_leading_plus text) → EndDashed rest → Reaches at_first (text ∷ rest) (given text)
value_first [] rest numeral end = absurd (omega (arith, numeral.0))
value_first (d ∷ ds) rest numeral end =
    let it = value_passes d ds (minus_free (d ∷ ds) numeral) in
    turned _ _ (d ∷ ds) rest _ it.0 it.1 (at_end (d ∷ ds) rest end)

dashes_first : (text : Text) → Reaches at_first (dashes ∷ text ∷ []) (given text)
unfolding walk_passes walked
dashes_first text = (refl, refl)

abbrev pub given_rows : Text → List Row
given_rows text = finished the_rules (given text)

leveled : (words : List Text) (text : Text) → Reaches at_first words (given text) → IsTaken text → Level words × (rows_after the_rules [] words ≡ given_rows text)
leveled words text e good =
    let closes : Closes (fold (walked the_rules []) at_first words).held = subst Closes (sym e.1) (taken_closes text good) in
    (and_true _ _ e.0 (and_true _ _ closes.0 (and_true _ true closes.1 refl)), ap (finished the_rules) e.1)

spelled : (text : Text) (words : List Text) → IsChainSize text → IsTaken text → Sizes text words → Level words × (rows_after the_rules [] words ≡ given_rows text)
spelled text words size good (inl (inl is)) =
    subst (λ (ws : List Text). Level ws × (rows_after the_rules [] ws ≡ given_rows text)) (sym is) (leveled (text ∷ []) text (value_first text [] size.digits (inl refl)) good)
spelled text words size good (inl (inr is)) =
    subst (λ (ws : List Text). Level ws × (rows_after the_rules [] ws ≡ given_rows text)) (sym is) (leveled (text ∷ dashes ∷ []) text (value_first text (dashes ∷ []) size.digits (inr refl)) good)
spelled text words size good (inr is) =
    subst (λ (ws : List Text). Level ws × (rows_after the_rules [] ws ≡ given_rows text)) (sym is) (leveled (dashes ∷ text ∷ []) text (dashes_first text) good)

-- ---- what was read

read_text : (text : Text) → IsChainSize text → one_of (codes "places") (given_rows text) ≡ Some text
read_text [] n = absurd (omega (arith, n.digits.0))
read_text (d ∷ ds) n = ap (λ x. Some (unwrap_or (if x then Some ds else None) (d ∷ ds))) (minus_free (d ∷ ds) n.digits)

-- what stands behind `make`, and the number that it says
pub record Says (words : List Text) (places : ℕ) : Type 0 where
  pub level : Level words
  pub is : places_of (rows_after the_rules [] words) ≡ Some places
  pub read : HasReadNumbers (rows_after the_rules [] words)

pub says_places : (text : Text) (words : List Text) → IsChainSize text → Sizes text words → Says words (number_of text)
says_places text words size is =
    let it = spelled text words size (number_is_taken 2 16 text (omega arith) size) is in
    let one = read_text text size in
    record {
      level = it.0;
      is = ap places_of it.1 ∙ ap (option_map number_of) one;
      read = subst HasReadNumbers (sym it.1) ((λ other e. cc), (λ other e. let same : text ≡ other = cc in subst IsChainSize same size));
    }
