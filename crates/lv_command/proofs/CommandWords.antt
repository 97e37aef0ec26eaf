-- Which words the command takes: the name of a subcommand, behind `prove` a budget, with at most `--` at the end.
use Rattle.std.proofs.Common.{◌≡◌, ◌⊎◌, inl, inr, ℕ, zero, suc, Bool, true, false, ◌&&◌, ◌||◌, List, [], ◌∷◌, ◌++◌, length, Option, Some, None, codes, if◌then◌else◌, append-nil, refl, sym, subst, ap, ◌∙◌, append_assoc, arith, is_some}
use Rattle.std.specs.Prelude.{slice_get, option_and_then, option_map, fold, IfSome}
use Rattle.std.specs.Option.{option_map_or}
use Rattle.std.specs.Str.{chars, bytes_eq}
use Rattle.clap.specs.Lexer.{long_of, short_of}
use Rattle.clap.specs.Simple.{Shape, built, entered, names_of, subcommand_of, subcommand_rows_of}
use Rattle.clap.specs.Walk.{Held, Names, Outcome, Row, Text, Walk, after_flag, after_step, bundle, bundle_met, bundle_step, finished, long_or_other, nothing_held, rows_after, short_or_plain, subcommand_met, subcommand_or_other, walk_from, walked}
use Rattle.clap.specs.Walk.{idle, plain, trailing}
use Rattle.clap.specs.Takes.{bundle_passes, bundle_step_passes, entered_passes, flag_word_passes, flags_pass, is_valid, level_passes, other_passes, settle_passes, step_passes, takes, turn_passes, walk_passes}
use Rattle.clap.specs.declared.parser.matches.ArgMatches.{ArgMatches}
use Rattle.clap.proofs.OnLiterals.{clap_on_literals}
use Rattle.clap.proofs.WalkLemmas.{both}
use Rattle.lv_command.specs.declared.mode.Mode.{Mode}
use Rattle.lv_command.specs.declared.mode.Mode.TheVariants.{Make, OnText}
use Rattle.lv_command.specs.declared.mode.TextMode.TheVariants.{Check, Prove, Replay, Show}
use Rattle.lv_command.specs.Commands.{AsksByName, AsksToMake, AsksToProve, AsksWhereTaken, EndIn, GiveBudget, GivePlaces, HasReadNumbers, IsInRange, mode_named, mode_of, number_of, the_command}
use Rattle.lv_command.proofs.BudgetFaults.{and_true, prove_leaf, the_rules}
use Rattle.lv_command.proofs.BudgetForms.{Says, says_budget, says_usual}
use Rattle.lv_command.proofs.BudgetWords.{Behind, EndDashed, Spell, behind_prove, dashes, same_text}
use Rattle.lv_command.proofs.Numbers.{taken_is_number}
use Rattle.lv_command.proofs.PlacesFaults.{the_rules as size_rules}
use Rattle.lv_command.proofs.PlacesWords.{leveled_behind, says_places}
use Rattle.lv_command.proofs.PlacesWords as size_words
use Rattle.lv_command.proofs.CommandLemmas.{IsReadBy, bare, leaf}

-- ---- a word that is neither `--` nor the name of a subcommand

step_plain : (again : Bool) (x : Option ℕ) (flags : Text) (skip : ℕ) (h : Held) (passes : Text → ℕ → Held → Bool) (meets : Text → ℕ → Outcome → Held → Held × Outcome)
    → ((t : Text) (n : ℕ) (g : Held) → passes t n g ≡ true → (meets t n plain g).1 ≡ plain)
    → bundle_step_passes [] again x flags skip h passes ≡ true → (bundle_step [] x flags skip plain h meets).1 ≡ plain
step_plain again None flags skip h passes meets later e = refl
step_plain again (Some x) flags zero h passes meets later e = let bad : false ≡ true = e in cc
step_plain again (Some x) flags (suc skip) h passes meets later e = later _ _ _ e

flags_plain : (again : Bool) (k : ℕ) (flags : Text) (skip : ℕ) (h : Held) → flags_pass [] again k flags skip h ≡ true → (bundle_met [] k flags skip plain h).1 ≡ plain
unfolding flags_pass bundle_met
flags_plain again zero flags skip h e = refl
flags_plain again (suc k) flags skip h e = step_plain again (slice_get (chars flags) 0) flags skip h (flags_pass [] again k) (bundle_met [] k) (flags_plain again k) e

plain_refused : (s : Shape) (position : ℕ) (word : Text) (h : Held) (outcome : Outcome) → outcome ≡ plain → step_passes (bare s) position (after_flag [] idle word h outcome).0 (after_flag [] idle word h outcome).1 ≡ true → ⊥
plain_refused s position word h outcome is e =
    let bad : false ≡ true = subst (λ (o : Outcome). step_passes (bare s) position (after_flag [] idle word h o).0 (after_flag [] idle word h o).1 ≡ true) is e in cc

short_refused : (s : Shape) (again : Bool) (position : ℕ) (word : Text) (flags : Option Text) (h : Held)
    → (option_map_or (λ f. bundle_passes [] again f h) flags true
    && step_passes (bare s) position (short_or_plain [] idle word flags h).0 (short_or_plain [] idle word flags h).1) ≡ true → ⊥
short_refused s again position word None h e = let bad : false ≡ true = e in cc
short_refused s again position word (Some flags) h e =
    let parts = both (bundle_passes [] again flags h) _ e in
    plain_refused s position word (bundle [] flags h).0 (bundle [] flags h).1 (flags_plain again (length flags) flags h.skip (record h { skip = 0 }) parts.0) parts.1

flag_refused : (s : Shape) (again : Bool) (position : ℕ) (word : Text) (long : Option (Text × Option Text)) (h : Held)
    → (flag_word_passes [] again long word h
    && step_passes (bare s) position (long_or_other [] idle word long h).0 (long_or_other [] idle word long h).1) ≡ true → ⊥
flag_refused s again position word (Some p) h e = let bad : false ≡ true = e in cc
flag_refused s again position word None h e = short_refused s again position word (short_of word) h e

other_refused : (s : Shape) (position : ℕ) (word : Text) (h : Held) (b : Bool)
    → ((b || flag_word_passes [] s.args_override_self (long_of word) word h)
    && step_passes (bare s) position (if b then (h, trailing position) else long_or_other [] idle word (long_of word) h).0
    (if b then (h, trailing position) else long_or_other [] idle word (long_of word) h).1) ≡ true → b ≡ true
other_refused s position word h true e = refl
other_refused s position word h false e = absurd (flag_refused s s.args_override_self position word (long_of word) h e)

-- ---- the words

abbrev trail : ℕ → Held → Walk
trail position h = record { held = h; waiting = idle; position = position; is_trailing = true; stopped = None }

none_trail : (s : Shape) (names : Names) (position : ℕ) (h : Held) (words : List Text) → walk_passes (bare s) names (trail position h) words ≡ true → words ≡ []
unfolding walk_passes
none_trail s names position h [] e = refl
none_trail s names position h (word ∷ rest) e = let bad : false ≡ true = e in cc

-- a word that names no subcommand is `--`
unnamed : (s : Shape) (word : Text) (h : Held) (met : Option Text) → met ≡ None
    → (other_passes (bare s) met word h
    && step_passes (bare s) 1 (subcommand_or_other [] met idle 1 word h).0 (subcommand_or_other [] met idle 1 word h).1) ≡ true → word ≡ dashes
unnamed s word h None is e = same_text word dashes (other_refused s 1 word h (bytes_eq word dashes) e)
unnamed s word h (Some name) is e = cc

first_word : (s : Shape) (names : Names) (h : Held) (word : Text) (rest : List Text) → subcommand_met names idle word ≡ None → walk_passes (bare s) names (walk_from h) (word ∷ rest) ≡ true
    → word ≡ dashes
unfolding walk_passes
first_word s names h word rest is e = unnamed s word h (subcommand_met names idle word) is (both (turn_passes (bare s) names (walk_from h) word) _ e).0

none_after : (s : Shape) (names : Names) (h : Held) (word : Text) (rest : List Text) → word ≡ dashes → subcommand_met names idle dashes ≡ None
    → walk_passes (bare s) names (walk_from h) (word ∷ rest) ≡ true → rest ≡ []
unfolding walk_passes walked
none_after s names h word rest is unmet e =
    let passes : walk_passes (bare s) names (walk_from h) (dashes ∷ rest) ≡ true = subst (λ (w : Text). walk_passes (bare s) names (walk_from h) (w ∷ rest) ≡ true) is e in
    let later : walk_passes (bare s) names (walked [] names (walk_from h) dashes) rest ≡ true = (both (turn_passes (bare s) names (walk_from h) dashes) _ passes).1 in
    let next_is = at_dashes names h (subcommand_met names idle dashes) unmet in
    none_trail s names 1 h rest (subst (λ (w : Walk). walk_passes (bare s) names w rest ≡ true) next_is later)
  where
    at_dashes : (names : Names) (h : Held) (met : Option Text) → met ≡ None → after_step [] dashes (walk_from h) (subcommand_or_other [] met idle 1 dashes h).0 (subcommand_or_other [] met idle 1 dashes h).1 ≡ trail 1 h
    at_dashes names h None is = refl
    at_dashes names h (Some name) is = cc

level_words : (s : Shape) (h : Held) (words : List Text) → walk_passes (bare s) [] (walk_from h) words ≡ true → (words ≡ []) ⊎ (words ≡ dashes ∷ [])
level_words s h [] e = inl refl
level_words s h (word ∷ rest) e =
    let first : word ≡ dashes = first_word s [] h word rest refl e in
    let last : rest ≡ [] = none_after s [] h word rest first refl e in
    inr cc

-- ---- the subcommand

abbrev the_names : Names
the_names = names_of (built the_command)

abbrev stopped_with : Text → List Text → Walk
stopped_with name before = record (walk_from nothing_held) { stopped = Some (name, before) }

-- behind the name of a subcommand the words are kept for it
stopped_walk : (name : Text) (before words : List Text) → fold (walked [] the_names) (stopped_with name before) words ≡ stopped_with name (before ++ words)
unfolding walked
stopped_walk name before [] = ap (stopped_with name) (sym (append-nil before))
stopped_walk name before (word ∷ words) = stopped_walk name (before ++ word ∷ []) words ∙ ap (stopped_with name) (append_assoc before (word ∷ []) words)

stopped_passes : (name : Text) (before words : List Text) → walk_passes (built the_command).top the_names (stopped_with name before) words ≡ true
unfolding walk_passes walked
stopped_passes name before [] = refl
stopped_passes name before (word ∷ words) = stopped_passes name (before ++ word ∷ []) words

-- what is read where the walk stopped so
abbrev entered_at : Walk → Option (Text × List Row)
entered_at w = entered (built the_command) w.stopped

abbrev Takes : Walk → Bool → Bool
Takes w walks = entered_passes (built the_command) w.stopped
    && (walks && (settle_passes [] false w.held && (true && is_valid (built the_command).top (finished [] w.held) (is_some (entered_at w)))))

-- the words behind `prove`

proves : (rest : List Text) → takes the_command (codes "prove" ∷ rest) ≡ true → level_passes prove_leaf [] nothing_held rest false ≡ true
unfolding walked
proves rest e = subst (λ (w : Walk). entered_passes (built the_command) w.stopped ≡ true) (stopped_walk (codes "prove") [] rest) (both _ _ e).0

taken_prove : (rest : List Text) → level_passes prove_leaf [] nothing_held rest false ≡ true → takes the_command (codes "prove" ∷ rest) ≡ true
unfolding walk_passes walked
taken_prove rest level =
    subst (λ (w : Walk). Takes w (walk_passes (built the_command).top the_names (stopped_with (codes "prove") []) rest) ≡ true) (sym (stopped_walk (codes "prove") [] rest))
    (and_true _ _ level (and_true _ _ (stopped_passes (codes "prove") [] rest) refl))

read_prove : (rest : List Text) → subcommand_of the_command (codes "prove" ∷ rest) ≡ Some (codes "prove", rows_after the_rules [] rest)
unfolding walked
read_prove rest = ap entered_at (stopped_walk (codes "prove") [] rest)

-- those behind `make`

makes : (rest : List Text) → takes the_command (codes "make" ∷ rest) ≡ true → size_words.Level rest
unfolding walked
makes rest e = subst (λ (w : Walk). entered_passes (built the_command) w.stopped ≡ true) (stopped_walk (codes "make") [] rest) (both _ _ e).0

taken_make : (rest : List Text) → size_words.Level rest → takes the_command (codes "make" ∷ rest) ≡ true
unfolding walk_passes walked
taken_make rest level =
    subst (λ (w : Walk). Takes w (walk_passes (built the_command).top the_names (stopped_with (codes "make") []) rest) ≡ true) (sym (stopped_walk (codes "make") [] rest))
    (and_true _ _ level (and_true _ _ (stopped_passes (codes "make") [] rest) refl))

read_make : (rest : List Text) → subcommand_of the_command (codes "make" ∷ rest) ≡ Some (codes "make", rows_after size_rules [] rest)
unfolding walked
read_make rest = ap entered_at (stopped_walk (codes "make") [] rest)

-- and those behind a name that takes nothing

shows : (rest : List Text) → takes the_command (codes "show" ∷ rest) ≡ true → EndDashed rest
unfolding walked
shows rest e =
    let level : level_passes (leaf (codes "show")) [] nothing_held rest false ≡ true = subst (λ (w : Walk). entered_passes (built the_command) w.stopped ≡ true) (stopped_walk (codes "show") [] rest) (both _ _ e).0 in
    level_words (leaf (codes "show")) nothing_held rest (both _ _ level).0

checks : (rest : List Text) → takes the_command (codes "check" ∷ rest) ≡ true → EndDashed rest
unfolding walked
checks rest e =
    let level : level_passes (leaf (codes "check")) [] nothing_held rest false ≡ true = subst (λ (w : Walk). entered_passes (built the_command) w.stopped ≡ true) (stopped_walk (codes "check") [] rest) (both _ _ e).0 in
    level_words (leaf (codes "check")) nothing_held rest (both _ _ level).0

replays : (rest : List Text) → takes the_command (codes "replay" ∷ rest) ≡ true → EndDashed rest
unfolding walked
replays rest e =
    let level : level_passes (leaf (codes "replay")) [] nothing_held rest false ≡ true = subst (λ (w : Walk). entered_passes (built the_command) w.stopped ≡ true) (stopped_walk (codes "replay") [] rest) (both _ _ e).0 in
    level_words (leaf (codes "replay")) nothing_held rest (both _ _ level).0

-- the command takes the name, alone or with `--` behind it, and reads nothing more
abbrev AreForms : Text → Type 0
AreForms name =
    (takes the_command (name ∷ []) ≡ true)
    × (takes the_command (name ∷ dashes ∷ []) ≡ true)
    × (subcommand_of the_command (name ∷ []) ≡ Some (name, []))
    × (subcommand_of the_command (name ∷ dashes ∷ []) ≡ Some (name, []))

show_forms : AreForms (codes "show")
unfolding clap_on_literals
show_forms = (refl, refl, refl, refl)

check_forms : AreForms (codes "check")
unfolding clap_on_literals
check_forms = (refl, refl, refl, refl)

replay_forms : AreForms (codes "replay")
unfolding clap_on_literals
replay_forms = (refl, refl, refl, refl)

-- ---- the words that are taken

-- what they are, and what is read of them
pub record AreRead (words : List Text) (mode : Mode) (met : Text × List Row) : Type 0 where
  pub taken : takes the_command words ≡ true
  pub rows : subcommand_of the_command words ≡ Some met
  pub named : mode_named met ≡ Some mode
  pub read : HasReadNumbers met.1

-- the words ask for the mode by its laws
abbrev Ask : Mode → List Text → Type 0
Ask (OnText (Prove budget)) words = ((budget ≡ 100000) × EndIn (codes "prove" ∷ []) words) ⊎ GiveBudget budget words
Ask (OnText Show) words = EndIn (codes "show" ∷ []) words
Ask (OnText Check) words = EndIn (codes "check" ∷ []) words
Ask (OnText Replay) words = EndIn (codes "replay" ∷ []) words
Ask (Make places) words = GivePlaces places words

reads_proving : (rest : List Text) (budget : ℕ) → Says rest budget → AreRead (codes "prove" ∷ rest) (OnText (Prove budget)) (codes "prove", rows_after the_rules [] rest)
reads_proving rest budget says = record {
  taken = taken_prove rest says.level;
  rows = read_prove rest;
  named = ap (λ n. Some (OnText (Prove n))) says.is;
  read = says.read;
}

reads_name : (mode : Mode) (name : Text) (words : List Text) → AreForms name → mode_named (name, []) ≡ Some mode → EndIn (name ∷ []) words → AreRead words mode (name, [])
reads_name mode name words forms named (inl is) = subst (λ (ws : List Text). AreRead ws mode (name, [])) (sym is) (record { taken = forms.0; rows = forms.2; named = named; read = ((λ text e. cc), (λ text e. cc)) })
reads_name mode name words forms named (inr is) = subst (λ (ws : List Text). AreRead ws mode (name, [])) (sym is) (record { taken = forms.1; rows = forms.3; named = named; read = ((λ text e. cc), (λ text e. cc)) })

abbrev Reads : Mode → List Text → Type 0
Reads mode words = (met : Text × List Row) × AreRead words mode met

behind_name : (words rest : List Text) (budget : ℕ) → words ≡ codes "prove" ∷ rest → Says rest budget → Reads (OnText (Prove budget)) words
behind_name words rest budget is says = subst (Reads (OnText (Prove budget))) (sym is) ((codes "prove", rows_after the_rules [] rest), reads_proving rest budget says)

usual : (words : List Text) → EndIn (codes "prove" ∷ []) words → Reads (OnText (Prove 100000)) words
usual words (inl is) = behind_name words [] 100000 is (says_usual [] (inl refl))
usual words (inr is) = behind_name words (dashes ∷ []) 100000 is (says_usual (dashes ∷ []) (inr refl))

given : (budget : ℕ) (words : List Text) → GiveBudget budget words → Reads (OnText (Prove budget)) words
given budget words g = subst (λ (n : ℕ). Reads (OnText (Prove n)) words) (sym g.is) (elim g.spelled [
  | inl (inl is) ↦ behind_name words _ _ is (says_budget g.text [] _ g.is_budget (inl refl) (inl refl))
  | inl (inr is) ↦ behind_name words _ _ is (says_budget g.text (dashes ∷ []) _ g.is_budget (inr refl) (inl refl))
  | inr (inl is) ↦ behind_name words _ _ is (says_budget g.text [] _ g.is_budget (inl refl) (inr refl))
  | inr (inr is) ↦ behind_name words _ _ is (says_budget g.text (dashes ∷ []) _ g.is_budget (inr refl) (inr refl))
])

made : (places : ℕ) (words rest : List Text) → words ≡ codes "make" ∷ rest → size_words.Says rest places → Reads (Make places) words
made places words rest is says = subst (Reads (Make places)) (sym is) (
  (codes "make", rows_after size_rules [] rest),
  record {
    taken = taken_make rest says.level;
    rows = read_make rest;
    named = ap (option_map Make) says.is;
    read = says.read;
  },
)

sized : (places : ℕ) (words : List Text) → GivePlaces places words → Reads (Make places) words
sized places words g = subst (λ (n : ℕ). Reads (Make n) words) (sym g.is) (elim g.spelled [
  | inl (inl is) ↦ made _ words _ is (says_places g.text _ g.is_size (inl (inl refl)))
  | inl (inr is) ↦ made _ words _ is (says_places g.text _ g.is_size (inl (inr refl)))
  | inr is ↦ made _ words _ is (says_places g.text _ g.is_size (inr refl))
])

reads : (mode : Mode) (words : List Text) → Ask mode words → Reads mode words
reads (OnText (Prove budget)) words (inl usually) = subst (λ (n : ℕ). Reads (OnText (Prove n)) words) (sym usually.0) (usual words usually.1)
reads (OnText (Prove budget)) words (inr budgeted) = given budget words budgeted
reads (OnText Show) words ask = ((codes "show", []), reads_name (OnText Show) (codes "show") words show_forms refl ask)
reads (OnText Check) words ask = ((codes "check", []), reads_name (OnText Check) (codes "check") words check_forms refl ask)
reads (OnText Replay) words ask = ((codes "replay", []), reads_name (OnText Replay) (codes "replay") words replay_forms refl ask)
reads (Make places) words ask = sized places words ask

asks_behind : (words rest : List Text) → words ≡ codes "prove" ∷ rest → Behind rest → (mode : Mode) × Ask mode words
asks_behind words rest is (inl (inl none)) = (OnText (Prove 100000), inl (refl, inl cc))
asks_behind words rest is (inl (inr end)) = (OnText (Prove 100000), inl (refl, inr cc))
asks_behind words rest is (inr b) =
    (OnText (Prove (number_of b.0)), inr (record { text = b.0; is_budget = taken_is_number 1 1000000 b.0 (omega arith) b.2; is = refl; spelled = in_words b.3 b.4 }))
  where
    in_words : EndDashed b.1 → Spell b.0 b.1 rest → EndIn (codes "prove" ∷ codes "--budget" ∷ b.0 ∷ []) words ⊎ EndIn (codes "prove" ∷ (codes "--budget=" ++ b.0) ∷ []) words
    in_words (inl none) (inl spelled) = inl (inl cc)
    in_words (inr end) (inl spelled) = inl (inr cc)
    in_words (inl none) (inr spelled) = inr (inl cc)
    in_words (inr end) (inr spelled) = inr (inr cc)

asks_places : (words rest : List Text) → words ≡ codes "make" ∷ rest → size_words.Behind rest → (mode : Mode) × Ask mode words
asks_places words rest is b =
    (Make (number_of b.0), record { text = b.0; is_size = taken_is_number 2 16 b.0 (omega arith) b.1; is = refl; spelled = in_words b.2 })
  where
    in_words : size_words.Sizes b.0 rest → EndIn (codes "make" ∷ b.0 ∷ []) words ⊎ (words ≡ codes "make" ∷ codes "--" ∷ b.0 ∷ [])
    in_words (inl (inl alone)) = inl (inl cc)
    in_words (inl (inr end)) = inl (inr cc)
    in_words (inr front) = inr cc

none_met : (b c d e f : Bool) → b ≡ false → c ≡ false → d ≡ false → e ≡ false → f ≡ false
    → option_map (λ (s : Text × List Text). s.0)
    (if b || false then Some (codes "prove", []) else (if c || false then Some (codes "show", [])
    else (if d || false then Some (codes "check", []) else (if e || false then Some (codes "replay", [])
    else (if f || false then Some (codes "make", []) else None))))) ≡ None
none_met false false false false false b c d e f = refl
none_met true c d e f is js ks ls ms = cc
none_met false true d e f is js ks ls ms = cc
none_met false false true e f is js ks ls ms = cc
none_met false false false true f is js ks ls ms = cc
none_met false false false false true is js ks ls ms = cc

-- what the first word is
data First (word : Text) : Type 0 where
  proving : word ≡ codes "prove" → First word
  showing : word ≡ codes "show" → First word
  checking : word ≡ codes "check" → First word
  replaying : word ≡ codes "replay" → First word
  making : word ≡ codes "make" → First word
  stray : subcommand_met the_names idle word ≡ None → First word

first_of : (word : Text) (b c d e f : Bool) → b ≡ bytes_eq (codes "prove") word → c ≡ bytes_eq (codes "show") word → d ≡ bytes_eq (codes "check") word
    → e ≡ bytes_eq (codes "replay") word → f ≡ bytes_eq (codes "make") word → First word
first_of word true c d e f is js ks ls ms = proving (sym (same_text (codes "prove") word (sym is)))
first_of word false true d e f is js ks ls ms = showing (sym (same_text (codes "show") word (sym js)))
first_of word false false true e f is js ks ls ms = checking (sym (same_text (codes "check") word (sym ks)))
first_of word false false false true f is js ks ls ms = replaying (sym (same_text (codes "replay") word (sym ls)))
first_of word false false false false true is js ks ls ms = making (sym (same_text (codes "make") word (sym ms)))
first_of word false false false false false is js ks ls ms = stray (none_met _ _ _ _ _ (sym is) (sym js) (sym ks) (sym ls) (sym ms))

nothing_untaken : takes the_command [] ≡ false
unfolding clap_on_literals
nothing_untaken = refl

dashes_untaken : takes the_command (dashes ∷ []) ≡ false
unfolding clap_on_literals
dashes_untaken = refl

dashes_alone : (word : Text) (rest : List Text) → word ≡ dashes → rest ≡ [] → takes the_command (word ∷ rest) ≡ true → ⊥
dashes_alone word rest first last e =
    let words : word ∷ rest ≡ dashes ∷ [] = cc in
    let untaken : false ≡ true = sym dashes_untaken ∙ ap (takes the_command) (sym words) ∙ e in cc

unmet_refused : (word : Text) (rest : List Text) → subcommand_met the_names idle word ≡ None → takes the_command (word ∷ rest) ≡ true → ⊥
unmet_refused word rest unmet e =
    let level = (both _ _ e).1 in
    let walks : walk_passes (bare (built the_command).top) the_names (walk_from nothing_held) (word ∷ rest) ≡ true = (both _ _ level).0 in
    let first = first_word (built the_command).top the_names nothing_held word rest unmet walks in
    let last = none_after (built the_command).top the_names nothing_held word rest first refl walks in
    dashes_alone word rest first last e

ask_proving : (word : Text) (rest : List Text) → word ≡ codes "prove" → takes the_command (word ∷ rest) ≡ true → (mode : Mode) × Ask mode (word ∷ rest)
ask_proving word rest is e =
    let words : word ∷ rest ≡ codes "prove" ∷ rest = ap (λ w. w ∷ rest) is in
    let level = proves rest (ap (takes the_command) (sym words) ∙ e) in
    asks_behind (word ∷ rest) rest words (behind_prove rest ((both _ _ level).0, (both _ _ (both _ _ level).1).0))

ask_making : (word : Text) (rest : List Text) → word ≡ codes "make" → takes the_command (word ∷ rest) ≡ true → (mode : Mode) × Ask mode (word ∷ rest)
ask_making word rest is e =
    let words : word ∷ rest ≡ codes "make" ∷ rest = ap (λ w. w ∷ rest) is in
    asks_places (word ∷ rest) rest words (leveled_behind rest (makes rest (ap (takes the_command) (sym words) ∙ e)))

-- the words are the name with what may stand behind it
ends_in : (name word : Text) (rest : List Text) → word ≡ name → (takes the_command (name ∷ rest) ≡ true → EndDashed rest) → takes the_command (word ∷ rest) ≡ true → EndIn (name ∷ []) (word ∷ rest)
ends_in name word rest is ends e = elim (ends (ap (takes the_command) (ap (λ w. w ∷ rest) (sym is)) ∙ e)) [
  | inl none ↦ inl cc
  | inr end ↦ inr cc
]

-- the words that the command takes ask for a mode
taken_ask : (words : List Text) → takes the_command words ≡ true → (mode : Mode) × Ask mode words
taken_ask [] e = let untaken : false ≡ true = sym nothing_untaken ∙ e in cc
taken_ask (word ∷ rest) e = elim (first_of word _ _ _ _ _ refl refl refl refl refl) [
  | proving is ↦ ask_proving word rest is e
  | showing is ↦ (OnText Show, ends_in (codes "show") word rest is (shows rest) e)
  | checking is ↦ (OnText Check, ends_in (codes "check") word rest is (checks rest) e)
  | replaying is ↦ (OnText Replay, ends_in (codes "replay") word rest is (replays rest) e)
  | making is ↦ ask_making word rest is e
  | stray none ↦ absurd (unmet_refused word rest none e)
]

-- ---- the mode

some_takes : (b : Bool) (named : Option Mode) (mode : Mode) → (if b then named else None) ≡ Some mode → b ≡ true
some_takes true named mode e = refl
some_takes false named mode e = cc

when_taken : (b : Bool) (named : Option Mode) → b ≡ true → (if b then named else None) ≡ named
when_taken true named e = refl
when_taken false named e = cc

mode_read : (mode : Mode) (words : List Text) → Reads mode words → mode_of words ≡ Some mode
unfolding mode_of
mode_read mode words r = when_taken (takes the_command words) _ r.1.taken ∙ (ap (option_and_then mode_named) r.1.rows ∙ r.1.named)

mode_asked : (mode : Mode) (words : List Text) → Ask mode words → mode_of words ≡ Some mode
mode_asked mode words ask = mode_read mode words (reads mode words ask)

asked : (words : List Text) (mode : Mode) → mode_of words ≡ Some mode → Ask mode words
unfolding mode_of
asked words mode e =
    let found = taken_ask words (some_takes (takes the_command words) _ mode e) in
    let some : Some found.0 ≡ Some mode = sym (mode_asked found.0 words found.1) ∙ e in
    let same : found.0 ≡ mode = cc in
    subst (λ (m : Mode). Ask m words) same found.1

pub asks_to_prove : AsksToProve
asks_to_prove words budget = (asked words (OnText (Prove budget)), mode_asked (OnText (Prove budget)) words)

pub asks_to_make : AsksToMake
asks_to_make words places = (asked words (Make places), mode_asked (Make places) words)

pub asks_by_name : AsksByName
asks_by_name = (
  λ words. (asked words (OnText Show), mode_asked (OnText Show) words),
  λ words. (asked words (OnText Check), mode_asked (OnText Check) words),
  λ words. (asked words (OnText Replay), mode_asked (OnText Replay) words),
)

none_when : (b : Bool) (mode : Option Mode) → b ≡ false → (if b then mode else None) ≡ None
none_when true mode e = cc
none_when false mode e = refl

untaken_when : (b : Bool) (words : List Text) → b ≡ takes the_command words → mode_of words ≡ None → b ≡ false
untaken_when false words is e = refl
untaken_when true words is e =
    let found = taken_ask words (sym is) in
    let some : None ≡ Some found.0 = sym e ∙ mode_asked found.0 words found.1 in cc

pub asks_where_taken : AsksWhereTaken
unfolding mode_of
asks_where_taken words = (untaken_when (takes the_command words) words refl, none_when (takes the_command words) _)

-- ---- for the code

ask_in_range : (mode : Mode) (words : List Text) → Ask mode words → IsInRange mode
ask_in_range (OnText (Prove budget)) words (inl usually) = let is = usually.0 in (omega (arith, is), omega (arith, is))
ask_in_range (OnText (Prove budget)) words (inr g) = let is = g.is in let least = g.is_budget.least in let most = g.is_budget.most in (omega (arith, is, least), omega (arith, is, most))
ask_in_range (OnText Show) words ask = tt
ask_in_range (OnText Check) words ask = tt
ask_in_range (OnText Replay) words ask = tt
ask_in_range (Make places) words g = let is = g.is in let least = g.is_size.least in let most = g.is_size.most in (omega (arith, is, least), omega (arith, is, most))

pub in_range : (o : Option Mode) (words : List Text) → o ≡ mode_of words → IfSome o IsInRange
in_range None words is = tt
in_range (Some mode) words is = ask_in_range mode words (asked words mode (sym is))

pub has_read_numbers : (words : List Text) (m : ArgMatches) → IsReadBy words m → IfSome (subcommand_rows_of m) (λ met. HasReadNumbers met.1)
has_read_numbers words m read =
    let found = taken_ask words read.taken in
    let it = reads found.0 words found.1 in
    subst (λ (o : Option (Text × List Row)). IfSome o (λ met. HasReadNumbers met.1)) (sym (read.rows ∙ it.1.rows)) it.1.read
