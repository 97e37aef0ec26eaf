-- When the words behind `prove` are taken: where no step of their parse fails.
use Rattle.std.proofs.Common.{is_some, ◌==◌, ◌≡◌, ℕ, zero, suc, Bool, true, false, not, ◌&&◌, ◌||◌, List, [], ◌∷◌, length, Option, Some, None, if◌then◌else◌, codes, refl, arith}
use Rattle.std.specs.Prelude.{pos, slice_get}
use Rattle.std.specs.Option.{option_map_or}
use Rattle.std.specs.Str.{bytes_eq, chars}
use Rattle.std.proofs.lemmas.Bool.{ne_eqb}
use Rattle.clap.specs.Faults.{bundle_fault, bundle_step_fault, flag_word_fault, flags_fault, level_fault, long_fault, option_fault, other_fault, react_fault, settle_fault, step_fault, turn_fault, use_fault, walk_fault, word_fault}
use Rattle.clap.specs.Kinds.{Kinds, or_else}
use Rattle.clap.specs.Lexer.{long_of, short_of}
use Rattle.clap.specs.Simple.{Shape, filled_from, new_shape}
use Rattle.clap.specs.Takes.{bundle_passes, bundle_step_passes, flag_word_passes, flags_pass, level_passes, long_passes, option_passes, other_passes, react_passes, settle_passes, step_passes, turn_passes, use_passes, walk_passes}
use Rattle.clap.specs.ValueTests.{accepts}
use Rattle.clap.specs.Walk.{Held, Row, Rule, Step, Text, Walk, has_row, nothing_held, settled, subcommand_met, walk, walk_from, walked, word_met}
use Rattle.clap.specs.Walk.{next, subcommand, trailing, value}
use Rattle.clap.specs.declared.builder.action.ArgAction.TheVariants.{Set}
use Rattle.clap.specs.declared.builder.value_parser.ValueParser.TheVariants as parsers
use Rattle.clap.specs.declared.error.kind.ErrorKind.{ErrorKind}
use Rattle.clap.specs.declared.error.kind.ErrorKind.TheVariants as kind
use Rattle.lv_command.specs.Commands.{budget_rule}

-- the option, with what it left out
abbrev pub the_rules : List Rule
the_rules = filled_from 1 (budget_rule ∷ [])

abbrev pub the_rule : Rule
the_rule = record budget_rule {
  action = Some Set;
  range = Some (record { start_inclusive = 1; end_inclusive = 1 });
}

abbrev pub prove_leaf : Shape
prove_leaf = record (new_shape (codes "prove")) {
  rules = the_rules;
  no_binary_name = true;
  disable_help_flag = true;
  disable_help_subcommand = true;
  disable_version_flag = true;
  is_built = true;
}

-- ---- truth values and faults

pub or_right : (b : Bool) → (b || true) ≡ true
or_right true = refl
or_right false = refl

pub both_empty : (a b : Kinds) → or_else a b ≡ [] → (a ≡ []) × (b ≡ [])
both_empty [] b e = (refl, e)
both_empty (x ∷ xs) b e = cc

pub unless : (b : Bool) (f : Kinds) (p : Bool) → (f ≡ [] → p ≡ true) → (if b then [] else f) ≡ [] → (b || p) ≡ true
unless true f p follows e = refl
unless false f p follows e = follows e

pub and_true : (a b : Bool) → a ≡ true → b ≡ true → (a && b) ≡ true
and_true true true e f = refl
and_true true false e f = f
and_true false b e f = e

-- ---- one use of the option

pub taken_value : (seen good : Bool) (again wrong : ErrorKind) → or_else (if seen && true then again ∷ [] else []) (or_else (if good then [] else wrong ∷ []) []) ≡ [] → ((not seen || false) && (good && true)) ≡ true
taken_value true good again wrong e = cc
taken_value false true again wrong e = refl
taken_value false false again wrong e = cc

pub too_many : (none one : Bool) (wanting wrong : ErrorKind) (rest : Kinds) → one ≡ false → or_else (if true && none then wanting ∷ [] else (if one then [] else wrong ∷ [])) rest ≡ [] → ⊥
too_many true one wanting wrong rest is e = cc
too_many false true wanting wrong rest is e = cc
too_many false false wanting wrong rest is e = cc

use_step : (values : List Text) (rows : List Row) → use_fault false the_rule values rows ≡ [] → use_passes false the_rule values rows ≡ true
use_step [] rows e = let bad : kind.InvalidValue ∷ [] ≡ [] = e in cc
use_step (v ∷ []) rows e = taken_value (has_row (codes "budget") rows) (accepts false (parsers.Signed (pos 1) (pos 1000000)) v) kind.ArgumentConflict kind.ValueValidation e
use_step (v ∷ w ∷ vs) rows e =
    let n = length (v ∷ w ∷ vs) in
    absurd (too_many (n == 0) (1 == n) kind.InvalidValue kind.WrongNumberOfValues _ (ne_eqb 1 n (λ is. omega (arith, is))) e)

settle_step : (p : Option (Text × List Text)) (rows : List Row) → settle_fault the_rules false (record { rows = rows; pending = p; skip = 0 }) ≡ [] → settle_passes the_rules false (record { rows = rows; pending = p; skip = 0 }) ≡ true
settle_step None rows e = refl
settle_step (Some p) rows e = go (bytes_eq (codes "budget") p.0) e
  where
    go : (b : Bool) → option_map_or (λ a. use_fault false a p.1 rows) (if b then Some the_rule else None) [] ≡ [] → option_map_or (λ a. use_passes false a p.1 rows) (if b then Some the_rule else None) true ≡ true
    go true e = use_step p.1 rows e
    go false e = refl

held_settles : (h : Held) → settle_fault the_rules false h ≡ [] → settle_passes the_rules false h ≡ true
held_settles h e = settle_step h.pending h.rows e

-- ---- one word

react_step : (values : List Text) (h : Held) → react_fault the_rules false the_rule values h ≡ [] → react_passes the_rules false the_rule values h ≡ true
react_step values h e =
    let parts = both_empty (settle_fault the_rules false h) (use_fault false the_rule values (settled the_rules h).rows) e in
    and_true _ _ (held_settles h parts.0) (use_step values (settled the_rules h).rows parts.1)

option_step : (v : Option Text) (h : Held) → option_fault the_rules false the_rule v h ≡ [] → option_passes the_rules false the_rule v h ≡ true
option_step (Some v) h e = react_step (v ∷ []) h e
option_step None h e = held_settles h e

long_step : (b : Bool) (v : Option Text) (h : Held) → long_fault the_rules false (if b then Some the_rule else None) v h ≡ [] → long_passes the_rules false (if b then Some the_rule else None) v h ≡ true
long_step true v h e = option_step v h e
long_step false v h e = let bad : kind.UnknownArgument ∷ [] ≡ [] = e in cc

bundle_steps : (x : Option ℕ) (flags : Text) (skip : ℕ) (h : Held) (faults : Text → ℕ → Held → Kinds) (passes : Text → ℕ → Held → Bool)
    → ((t : Text) (n : ℕ) (g : Held) → faults t n g ≡ [] → passes t n g ≡ true)
    → bundle_step_fault the_rules false x flags skip h faults ≡ [] → bundle_step_passes the_rules false x flags skip h passes ≡ true
bundle_steps None flags skip h faults passes later e = refl
bundle_steps (Some x) flags zero h faults passes later e = let bad : kind.UnknownArgument ∷ [] ≡ [] = e in cc
bundle_steps (Some x) flags (suc skip) h faults passes later e = later _ _ _ e

flags_step : (k : ℕ) (flags : Text) (skip : ℕ) (h : Held) → flags_fault the_rules false k flags skip h ≡ [] → flags_pass the_rules false k flags skip h ≡ true
unfolding flags_fault flags_pass
flags_step zero flags skip h e = refl
flags_step (suc k) flags skip h e = bundle_steps (slice_get (chars flags) 0) flags skip h (flags_fault the_rules false k) (flags_pass the_rules false k) (flags_step k) e

short_step : (flags : Option Text) (h : Held)
    → option_map_or (λ f. bundle_fault the_rules false f h) flags [] ≡ [] → option_map_or (λ f. bundle_passes the_rules false f h) flags true ≡ true
short_step None h e = refl
short_step (Some flags) h e = flags_step (length flags) flags h.skip (record h { skip = 0 }) e

flag_step : (long : Option (Text × Option Text)) (word : Text) (h : Held) → flag_word_fault the_rules false long word h ≡ [] → flag_word_passes the_rules false long word h ≡ true
flag_step (Some p) word h e = long_step (bytes_eq (codes "budget") p.0 || false) p.1 h e
flag_step None word h e = short_step (short_of word) h e

other_step : (met : Option Text) (word : Text) (h : Held) → other_fault prove_leaf met word h ≡ [] → other_passes prove_leaf met word h ≡ true
other_step (Some name) word h e = or_right (not (bytes_eq name (codes "help")))
other_step None word h e = unless (bytes_eq word (45 ∷ 45 ∷ [])) _ _ (flag_step (long_of word) word h) e

stepped : (position : ℕ) (h : Held) (step : Step) → step_fault prove_leaf position h step ≡ [] → step_passes prove_leaf position h step ≡ true
stepped position h value e = let bad : kind.UnknownArgument ∷ [] ≡ [] = e in cc
stepped position h (next waiting) e = refl
stepped position h (trailing p) e = refl
stepped position h (subcommand name) e = refl

turn_step : (w : Walk) (word : Text) → turn_fault prove_leaf [] w word ≡ [] → turn_passes prove_leaf [] w word ≡ true
turn_step w word e =
    let met = word_met the_rules [] w.is_trailing w.waiting w.position word w.held in
    unless (is_some w.stopped) _ _ (λ none.
    let parts = both_empty (word_fault prove_leaf [] w.is_trailing w.waiting word w.held) (step_fault prove_leaf w.position met.0 met.1) none in
    and_true _ _ (unless w.is_trailing _ _ (other_step (subcommand_met [] w.waiting word) word w.held) parts.0) (stepped w.position met.0 met.1 parts.1)) e

walk_steps : (w : Walk) (words : List Text) → walk_fault prove_leaf [] w words ≡ [] → walk_passes prove_leaf [] w words ≡ true
unfolding walk_fault walk_passes
walk_steps w [] e = refl
walk_steps w (word ∷ rest) e =
    let parts = both_empty (turn_fault prove_leaf [] w word) (walk_fault prove_leaf [] (walked the_rules [] w word) rest) e in
    and_true _ _ (turn_step w word parts.0) (walk_steps (walked the_rules [] w word) rest parts.1)

-- ---- all of them

pub prove_level : (words : List Text) → level_fault prove_leaf [] nothing_held words false [] ≡ [] → level_passes prove_leaf [] nothing_held words false ≡ true
prove_level words e =
    let end = (walk the_rules [] nothing_held words).held in
    let first = both_empty (walk_fault prove_leaf [] (walk_from nothing_held) words) _ e in
    let second = both_empty (settle_fault the_rules false end) _ first.1 in
    and_true _ _ (walk_steps (walk_from nothing_held) words first.0) (and_true _ _ (held_settles end second.0) refl)
