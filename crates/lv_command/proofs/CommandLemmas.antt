-- When the command takes its words: where no step of the parse fails.
use Rattle.std.proofs.Common.{arith, ◌≡◌, ◌<◌, ◌^◌, ℕ, zero, suc, Bool, true, false, not, ◌&&◌, ◌||◌, List, [], ◌∷◌, length, Option, Some, None, if◌then◌else◌, option_and_then, codes, refl, sym, ap, ◌∙◌, is_some}
use Rattle.std.specs.Prelude.{slice_get, Ok, Err, Result, option_map, unwrap_or}
use Rattle.std.specs.Option.{option_map_or}
use Rattle.std.specs.Str.{chars, bytes_eq}
use Rattle.std.specs.Str.Parse.{ParsesUnsigned}
use Rattle.clap.specs.Lexer.{long_of, short_of}
use Rattle.clap.specs.Kinds.{Kinds, check_kinds}
use Rattle.clap.specs.Simple.{App, HasMatchesOf, Shape, built, entered, is_simple, names_of, new_shape, subcommand_of, subcommand_rows_of}
use Rattle.clap.specs.Walk.{Held, Names, Step, Text, Walk, answers_to, arg_by_id, nothing_held, one_of, rows_of, subcommand_met, walk, walk_from, walked, word_met}
use Rattle.clap.specs.Walk.{next, subcommand, trailing, value}
use Rattle.clap.specs.Takes.{bundle_step_passes, entered_passes, flag_word_passes, bundle_passes, flags_pass, level_passes, other_passes, step_passes, takes, turn_passes, use_passes, walk_passes}
use Rattle.clap.specs.Faults.{bundle_fault, bundle_step_fault, defaults_fault, entered_fault, fault_of, flag_word_fault, flags_fault, is_simple_and_free, level_fault, other_fault, settle_fault, step_fault, turn_fault, walk_fault, word_fault}
use Rattle.clap.specs.Matches.{ReadsOne, one_text}
use Rattle.clap.specs.Values.{kind_of}
use Rattle.clap.specs.declared.error.Error.{Error}
use Rattle.clap.specs.declared.error.kind.ErrorKind.TheVariants as kind
use Rattle.clap.specs.declared.parser.matches.ArgMatches.{ArgMatches}
use Rattle.clap.specs.declared.parser.matches.Found.{Found}
use Rattle.clap.proofs.OnLiterals.{clap_on_literals}
use Rattle.clap.proofs.WalkLemmas.{one_text-rows}
use Rattle.lv_command.specs.declared.mode.Mode.{Mode}
use Rattle.lv_command.specs.Commands.{HasReadBudget, HasReadPlaces, IsNumberIn, NamesEachMode, budget_of, mode_named, mode_of, number_of, places_of, the_command}
use Rattle.lv_command.proofs.PlacesFaults.{make_leaf, make_level}
use Rattle.lv_command.proofs.BudgetFaults.{and_true, both_empty, or_right, prove_leaf, prove_level, unless}

-- the command without arguments, and without help by words
abbrev pub bare : Shape → Shape
bare s = record s { rules = []; disable_help_subcommand = true; arg_required_else_help = false }

-- ---- one word

bundle_steps : (again : Bool) (x : Option ℕ) (flags : Text) (skip : ℕ) (h : Held) (faults : Text → ℕ → Held → Kinds) (passes : Text → ℕ → Held → Bool)
    → ((t : Text) (n : ℕ) (g : Held) → faults t n g ≡ [] → passes t n g ≡ true)
    → bundle_step_fault [] again x flags skip h faults ≡ [] → bundle_step_passes [] again x flags skip h passes ≡ true
bundle_steps again None flags skip h faults passes later e = refl
bundle_steps again (Some x) flags zero h faults passes later e = let bad : kind.UnknownArgument ∷ [] ≡ [] = e in cc
bundle_steps again (Some x) flags (suc skip) h faults passes later e = later _ _ _ e

flags_step : (again : Bool) (k : ℕ) (flags : Text) (skip : ℕ) (h : Held) → flags_fault [] again k flags skip h ≡ [] → flags_pass [] again k flags skip h ≡ true
unfolding flags_fault flags_pass
flags_step again zero flags skip h e = refl
flags_step again (suc k) flags skip h e = bundle_steps again (slice_get (chars flags) 0) flags skip h (flags_fault [] again k) (flags_pass [] again k) (flags_step again k) e

short_step : (again : Bool) (flags : Option Text) (h : Held)
    → option_map_or (λ f. bundle_fault [] again f h) flags [] ≡ [] → option_map_or (λ f. bundle_passes [] again f h) flags true ≡ true
short_step again None h e = refl
short_step again (Some flags) h e = flags_step again (length flags) flags h.skip (record h { skip = 0 }) e

flag_step : (again : Bool) (long : Option (Text × Option Text)) (word : Text) (h : Held) → flag_word_fault [] again long word h ≡ [] → flag_word_passes [] again long word h ≡ true
flag_step again (Some p) word h e = let bad : kind.UnknownArgument ∷ [] ≡ [] = e in cc
flag_step again None word h e = short_step again (short_of word) h e

other_step : (s : Shape) (met : Option Text) (word : Text) (h : Held) → other_fault (bare s) met word h ≡ [] → other_passes (bare s) met word h ≡ true
other_step s (Some name) word h e = or_right (not (bytes_eq name (codes "help")))
other_step s None word h e = unless (bytes_eq word (45 ∷ 45 ∷ [])) _ _ (flag_step s.args_override_self (long_of word) word h) e

no_stray : (b : Bool) → (if b then kind.UnknownArgument ∷ [] else kind.UnknownArgument ∷ kind.InvalidSubcommand ∷ []) ≡ [] → ⊥
no_stray true e = cc
no_stray false e = cc

stepped : (s : Shape) (position : ℕ) (h : Held) (step : Step) → step_fault (bare s) position h step ≡ [] → step_passes (bare s) position h step ≡ true
stepped s position h value e = absurd (no_stray s.is_leaf e)
stepped s position h (next waiting) e = refl
stepped s position h (trailing p) e = refl
stepped s position h (subcommand name) e = refl

turn_step : (s : Shape) (names : Names) (w : Walk) (word : Text) → turn_fault (bare s) names w word ≡ [] → turn_passes (bare s) names w word ≡ true
turn_step s names w word e =
    let met = word_met [] names w.is_trailing w.waiting w.position word w.held in
    unless (is_some w.stopped) _ _ (λ none.
    let parts = both_empty (word_fault (bare s) names w.is_trailing w.waiting word w.held) (step_fault (bare s) w.position met.0 met.1) none in
    and_true _ _ (unless w.is_trailing _ _ (other_step s (subcommand_met names w.waiting word) word w.held) parts.0) (stepped s w.position met.0 met.1 parts.1)) e

walk_steps : (s : Shape) (names : Names) (w : Walk) (words : List Text) → walk_fault (bare s) names w words ≡ [] → walk_passes (bare s) names w words ≡ true
unfolding walk_fault walk_passes
walk_steps s names w [] e = refl
walk_steps s names w (word ∷ rest) e =
    let parts = both_empty (turn_fault (bare s) names w word) (walk_fault (bare s) names (walked [] names w word) rest) e in
    and_true _ _ (turn_step s names w word parts.0) (walk_steps s names (walked [] names w word) rest parts.1)

-- ---- a level, and the command

settles : (again : Bool) (h : Held) (pending : Option (Text × List Text)) → option_map_or (λ p. option_map_or (λ a. use_passes again a p.1 h.rows) (arg_by_id [] p.0) true) pending true ≡ true
settles again h None = refl
settles again h (Some p) = refl

checked : (has required negates : Bool)
    → check_kinds (not has && false) (not has && required) (not (negates && has) && false) ≡ []
    → ((not required || has) && (true && ((negates && has) || true))) ≡ true
checked true true true e = refl
checked true true false e = refl
checked true false true e = refl
checked true false false e = refl
checked false true negates e = let bad : kind.MissingSubcommand ∷ [] ≡ [] = e in cc
checked false false true e = refl
checked false false false e = refl

level_step : (s : Shape) (names : Names) (h : Held) (words : List Text) (has : Bool) (below : Kinds) → level_fault (bare s) names h words has below ≡ []
    → (level_passes (bare s) names h words has ≡ true) × (below ≡ [])
unfolding defaults_fault
level_step s names h words has below e =
    let end = (walk [] names h words).held in
    let first = both_empty (walk_fault (bare s) names (walk_from h) words) _ e in
    let second = both_empty below _ first.1 in
    let third = both_empty (settle_fault [] s.args_override_self end) _ second.1 in
    let valid = checked has s.subcommand_required s.subcommand_negates_reqs third.1 in (
      and_true _ _ (walk_steps s names (walk_from h) words first.0) (and_true _ _ (settles s.args_override_self end end.pending) valid),
      second.0,
    )

-- ---- the subcommands

-- a subcommand without arguments, built
abbrev pub leaf : Text → Shape
leaf name = record (new_shape name) {
  no_binary_name = true;
  disable_help_flag = true;
  disable_help_subcommand = true;
  disable_version_flag = true;
  is_built = true;
}

abbrev found : Bool → Bool → Bool → Bool → Bool → Option Shape
found proves shows checks replays makes =
    if proves then Some prove_leaf
    else (if shows then Some (leaf (codes "show"))
    else (if checks then Some (leaf (codes "check"))
    else (if replays then Some (leaf (codes "replay"))
    else (if makes then Some make_leaf else None))))

found_step : (proves shows checks replays makes : Bool) (words : List Text)
    → option_map_or (λ s. level_fault s [] nothing_held words false []) (found proves shows checks replays makes) [] ≡ []
    → option_map_or (λ s. level_passes s [] nothing_held words false) (found proves shows checks replays makes) true ≡ true
found_step true shows checks replays makes words e = prove_level words e
found_step false true checks replays makes words e = (level_step (leaf (codes "show")) [] nothing_held words false [] e).0
found_step false false true replays makes words e = (level_step (leaf (codes "check")) [] nothing_held words false [] e).0
found_step false false false true makes words e = (level_step (leaf (codes "replay")) [] nothing_held words false [] e).0
found_step false false false false true words e = make_level words e
found_step false false false false false words e = refl

entered_step : (stop : Option (Text × List Text)) → entered_fault (built the_command) stop ≡ [] → entered_passes (built the_command) stop ≡ true
entered_step None e = refl
entered_step (Some p) e =
    found_step (answers_to p.0 (codes "prove", [])) (answers_to p.0 (codes "show", [])) (answers_to p.0 (codes "check", [])) (answers_to p.0 (codes "replay", []))
    (answers_to p.0 (codes "make", [])) p.1 e

simple : is_simple the_command ≡ true
simple = refl

simple_and_free : is_simple_and_free the_command ≡ true
simple_and_free = refl

taken : (words : List Text) → fault_of the_command words ≡ [] → takes the_command words ≡ true
taken words e =
    let a = built the_command in
    let stop = (walk [] (names_of a) nothing_held words).stopped in
    let level = level_step a.top (names_of a) nothing_held words (is_some (entered a stop)) (entered_fault a stop) e in
    and_true _ _ (entered_step stop level.1) level.0

-- ---- the mode

mode_when : (b : Bool) (mode other : Option Mode) → b ≡ true → other ≡ mode → other ≡ (if b then mode else None)
mode_when true mode other is same = same
mode_when false mode other is same = cc

-- the words are taken, and what was read is what they say
pub record IsReadBy (words : List Text) (m : ArgMatches) : Type 0 where
  pub taken : takes the_command words ≡ true
  pub rows : subcommand_rows_of m ≡ subcommand_of the_command words

pub is_read_by : (a : App) (words : List Text) (m : ArgMatches) → a ≡ the_command → HasMatchesOf a words m → (is_simple_and_free a ≡ true → fault_of a words ≡ []) → IsReadBy words m
is_read_by a words m is matches kinds = record {
  taken = taken words (sym (ap (λ x. fault_of x words) is) ∙ kinds (ap is_simple_and_free is ∙ simple_and_free));
  rows = (matches (ap is_simple is ∙ simple)).1 ∙ ap (λ x. subcommand_of x words) is;
}

pub mode_at_ok : (words : List Text) (m : ArgMatches) → IsReadBy words m → option_and_then mode_named (subcommand_rows_of m) ≡ mode_of words
unfolding mode_of
mode_at_ok words m read = mode_when (takes the_command words) _ _ read.taken (ap (λ x. option_and_then mode_named x) read.rows)

none_unless : (b : Bool) (mode : Option Mode) → (b ≡ true → ⊥) → None ≡ (if b then mode else None)
none_unless true mode never = absurd (never refl)
none_unless false mode never = refl

pub mode_at_err : (a : App) (words : List Text) (e : Error) → a ≡ the_command → (takes a words ≡ true → kind_of e ≡ kind.OutOfMemory) → (kind_of e ≡ kind.OutOfMemory → ⊥)
    → None ≡ mode_of words
unfolding mode_of
mode_at_err a words e is passes other = none_unless (takes the_command words) _ (λ t. other (passes (ap (λ x. takes x words) is ∙ t)))

pub names_each_mode : NamesEachMode
unfolding mode_of clap_on_literals
names_each_mode = (refl, refl, refl, refl, refl, refl, refl, refl, refl, refl, refl, refl, refl, refl)

-- ---- the numbers that were read

read_number : (E : Type 0) (G : List ℕ → Result ℕ E → Type 0) (low high : ℕ) (text : Text) (r : Option ℕ) → high < 2 ^ 32 → ReadsOne G text r → ((u : List ℕ) (x : Result ℕ E) → G u x → ParsesUnsigned 32 10 u x)
    → IsNumberIn low high text → r ≡ Some (number_of text)
read_number E G low high text (Some n) small reads only number = ap Some (only text (Ok n) reads).1
read_number E G low high text None small reads only number = let most = number.most in absurd (only text (Err reads.0) reads.1 (number.digits, omega (arith, most, small)))

-- the number of the text that was found, where one was
number_read_as : (E : Type 0) (G : List ℕ → Result ℕ E → Type 0) (low high : ℕ) (o : Option Text) (r : Option ℕ) → high < 2 ^ 32
    → (o ≡ None → r ≡ None) → ((text : Text) → o ≡ Some text → ReadsOne G text r) → ((u : List ℕ) (x : Result ℕ E) → G u x → ParsesUnsigned 32 10 u x)
    → ((text : Text) → o ≡ Some text → IsNumberIn low high text) → r ≡ option_map number_of o
number_read_as E G low high None r small none some only numbers = none refl
number_read_as E G low high (Some text) r small none some only numbers = read_number E G low high text r small (some text refl) only (numbers text refl)

number_read : (E : Type 0) (G : List ℕ → Result ℕ E → Type 0) (low high : ℕ) (f : Found) (id name : Text) (r : Option ℕ) → high < 2 ^ 32 → id ≡ name
    → (one_text f id ≡ None → r ≡ None) → ((text : Text) → one_text f id ≡ Some text → ReadsOne G text r)
    → ((u : List ℕ) (x : Result ℕ E) → G u x → ParsesUnsigned 32 10 u x) → ((text : Text) → one_of name (rows_of f) ≡ Some text → IsNumberIn low high text)
    → r ≡ option_map number_of (one_of name (rows_of f))
number_read E G low high f id name r small is none some only numbers =
    let same : one_text f id ≡ one_of name (rows_of f) = one_text-rows f id ∙ ap (λ x. one_of x (rows_of f)) is in
    number_read_as E G low high (one_of name (rows_of f)) r small (λ e. none (same ∙ e)) (λ text e. some text (same ∙ e)) only numbers

or_usual : (o : Option Text) → unwrap_or (option_map number_of o) 100000 ≡ option_map_or number_of o 100000
or_usual None = refl
or_usual (Some text) = refl

pub budget_read : (E : Type 0) (G : List ℕ → Result ℕ E → Type 0) (f : Found) (id : Text) (r : Option ℕ) → id ≡ codes "budget"
    → (one_text f id ≡ None → r ≡ None) → ((text : Text) → one_text f id ≡ Some text → ReadsOne G text r)
    → ((u : List ℕ) (x : Result ℕ E) → G u x → ParsesUnsigned 32 10 u x) → HasReadBudget (rows_of f) → unwrap_or r 100000 ≡ budget_of (rows_of f)
budget_read E G f id r is none some only budgets =
    ap (λ x. unwrap_or x 100000) (number_read E G 1 1000000 f id (codes "budget") r (omega arith) is none some only budgets) ∙ or_usual (one_of (codes "budget") (rows_of f))

pub places_read : (E : Type 0) (G : List ℕ → Result ℕ E → Type 0) (f : Found) (id : Text) (r : Option ℕ) → id ≡ codes "places"
    → (one_text f id ≡ None → r ≡ None) → ((text : Text) → one_text f id ≡ Some text → ReadsOne G text r)
    → ((u : List ℕ) (x : Result ℕ E) → G u x → ParsesUnsigned 32 10 u x) → HasReadPlaces (rows_of f) → r ≡ places_of (rows_of f)
places_read E G f id r is none some only sizes = number_read E G 2 16 f id (codes "places") r (omega arith) is none some only sizes
