-- Which words the command takes behind `prove`: none or a budget, with at most `--` at the end.
use Rattle.std.proofs.Common.{◌≡◌, ◌⊎◌, inl, inr, ℕ, zero, suc, ◌+◌, Bool, true, false, not, ◌&&◌, ◌||◌, cond, ◌==◌, List, [], ◌∷◌, ◌++◌, take, drop, length, Option, Some, None, codes, if◌then◌else◌, refl, sym, subst, ap, ◌∙◌, arith}
use Rattle.std.specs.Prelude.{nat_le, nat_lt, pos, slice_get, option_and_then, fold}
use Rattle.std.specs.List.{after_first, position_or_len}
use Rattle.std.specs.Option.{option_map_or}
use Rattle.std.specs.Str.{chars, bytes_eq}
use Rattle.std.proofs.lemmas.Bool.{eqb-true}
use Rattle.std.proofs.lemmas.Slice.Eq.{bytes_eq-Decides}
use Rattle.clap.specs.Lexer.{has_byte, long_of, long_of_rest, name_and_value, short_of, strip_byte}
use Rattle.clap.specs.Takes.{bundle_passes, bundle_step_passes, flag_word_passes, flags_pass, long_passes, settle_passes, step_passes, use_passes, values_pass, walk_passes}
use Rattle.clap.specs.ValueTests.{accepts}
use Rattle.clap.specs.Walk.{Held, Outcome, Row, Rule, Step, Text, Waiting, Walk, after_flag, after_step, bundle_met, bundle_step, has_row, long_met, long_or_other, pending_count, plain_word, reacted, settled, short_or_plain, values_or_missing, walked}
use Rattle.clap.specs.Walk.{idle, option, plain, trailing}
use Rattle.clap.specs.declared.builder.value_parser.ValueParser.TheVariants as parsers
use Rattle.clap.proofs.WalkLemmas.{both}
use Rattle.lv_command.proofs.Numbers.{IsTakenIn}
use Rattle.lv_command.proofs.BudgetFaults.{prove_leaf, the_rule, the_rules}

abbrev pub dashes : Text
dashes = 45 ∷ 45 ∷ []

pub same_text : (xs ys : Text) → bytes_eq xs ys ≡ true → xs ≡ ys
same_text xs ys = (bytes_eq-Decides xs ys).0

-- ---- a word that begins with `--`

-- the name, with `=` and a value behind it where there is one
abbrev joined : Text → Option Text → Text
joined name None = name
joined name (Some v) = name ++ 61 ∷ v

parted : (text : Text) → text ≡ joined (name_and_value text).0 (name_and_value text).1
parted [] = refl
parted (x ∷ xs) = go (x == 61) refl (parted xs)
  where
    is_equals : ℕ → Bool
    is_equals b = b == 61

    rest : (n : ℕ) → drop (1 + n + 1) (x ∷ xs) ≡ drop (n + 1) xs
    rest n = let e : 1 + n + 1 ≡ suc (n + 1) = omega arith in ap (λ k. drop k (x ∷ xs)) e

    start : (n : ℕ) → take (1 + n) (x ∷ xs) ≡ x ∷ take n xs
    start n = let e : 1 + n ≡ suc n = omega arith in ap (λ k. take k (x ∷ xs)) e

    later : (b : Bool) (name v name' v' : Text) → name' ≡ x ∷ name → v' ≡ v → xs ≡ joined name (if b then Some v else None) → x ∷ xs ≡ joined name' (if b then Some v' else None)
    later true name v name' v' is js e = cc
    later false name v name' v' is js e = cc

    go : (b : Bool) → (x == 61) ≡ b → xs ≡ joined (name_and_value xs).0 (name_and_value xs).1
        → x ∷ xs ≡ joined (take (cond (not b) (1 + position_or_len (λ c. c == 61) xs) 0) (x ∷ xs)) (if b || has_byte 61 xs then Some (drop (cond (not b) (1 + position_or_len (λ c. c == 61) xs) 0 + 1) (x ∷ xs)) else None)
    go true is ih = let e : x ≡ 61 = eqb-true x 61 is in cc
    go false is ih = later (has_byte 61 xs) _ (after_first (λ c. c == 61) xs) _ _ (start (position_or_len (λ c. c == 61) xs)) (rest (position_or_len (λ c. c == 61) xs)) ih

stripped : (word rest : Text) → strip_byte 45 word ≡ Some rest → word ≡ 45 ∷ rest
stripped [] rest e = cc
stripped (x ∷ xs) rest e = go (x == 45) refl e
  where
    go : (b : Bool) → (x == 45) ≡ b → (if b then Some xs else None) ≡ Some rest → x ∷ xs ≡ 45 ∷ rest
    go true is e = let same : x ≡ 45 = eqb-true x 45 is in cc
    go false is e = cc

named_text : (text name : Text) (v : Option Text) → long_of_rest text ≡ Some (name, v) → text ≡ joined name v
named_text [] name v e = cc
named_text (x ∷ xs) name v e =
    let parts : name_and_value (x ∷ xs) ≡ (name, v) = cc in
    parted (x ∷ xs) ∙ ap (λ p. joined p.0 p.1) parts

long_word : (word name : Text) (v : Option Text) → long_of word ≡ Some (name, v) → word ≡ 45 ∷ 45 ∷ joined name v
long_word word name v e = first (strip_byte 45 word) refl e
  where
    second : (rest : Text) (o : Option Text) → strip_byte 45 rest ≡ o → option_and_then long_of_rest o ≡ Some (name, v) → rest ≡ 45 ∷ joined name v
    second rest None is e = cc
    second rest (Some text) is e = stripped rest text is ∙ ap (λ t. 45 ∷ t) (named_text text name v e)

    first : (o : Option Text) → strip_byte 45 word ≡ o → option_and_then long_of_rest (option_and_then (strip_byte 45) o) ≡ Some (name, v) → word ≡ 45 ∷ 45 ∷ joined name v
    first None is e = cc
    first (Some rest) is e = stripped word rest is ∙ ap (λ t. 45 ∷ t) (second rest (strip_byte 45 rest) refl e)

-- ---- where the walk stands

abbrev pub held_with : List Row → Option (Text × List Text) → Held
held_with rows pending = record { rows = rows; pending = pending; skip = 0 }

-- the option waits for its value
abbrev pub asks : Waiting
asks = option (codes "budget")

abbrev pub walk_at : Waiting → Held → Walk
walk_at waiting h = record { held = h; waiting = waiting; position = 1; is_trailing = false; stopped = None }

abbrev trailing_walk : Waiting → Held → Walk
trailing_walk waiting h = record { held = h; waiting = waiting; position = 1; is_trailing = true; stopped = None }

abbrev Settles : Held → Type 0
Settles h = settle_passes the_rules false h ≡ true

-- the words pass from there on, and what is held at their end
abbrev Ends : Walk → List Text → Type 0
Ends w words = (walk_passes prove_leaf [] w words ≡ true) × Settles (fold (walked the_rules []) w words).held

none_trail : (waiting : Waiting) (h : Held) (words : List Text) → Ends (trailing_walk waiting h) words → (words ≡ []) × Settles h
unfolding walk_passes
none_trail waiting h [] e = (refl, e.1)
none_trail waiting h (word ∷ rest) e = let bad : false ≡ true = e.0 in cc

abbrev pub EndDashed : List Text → Type 0
EndDashed words = (words ≡ []) ⊎ (words ≡ dashes ∷ [])

-- ---- one word

abbrev found : Bool → Option Rule
found named = if named then Some the_rule else None

-- the option was named, with a value or without one, and its earlier use settles
abbrev Given : Option Text → Held → List Text → Type 0
Given (Some v) h rest = Settles h × (use_passes false the_rule (v ∷ []) (settled the_rules h).rows ≡ true) × Ends (walk_at idle (reacted the_rules the_rule (v ∷ []) h)) rest
Given None h rest = Settles h × Ends (walk_at asks (record (settled the_rules h) { pending = Some (codes "budget", []) })) rest

abbrev after_long : Waiting → Text → Bool → Option Text → Held → Held × Step
after_long waiting word named v h = after_flag the_rules waiting word (long_met the_rules (found named) v h).0 (long_met the_rules (found named) v h).1

named_word : (named : Bool) (v : Option Text) (waiting : Waiting) (word : Text) (h : Held) (rest : List Text)
    → (long_passes the_rules false (found named) v h && step_passes prove_leaf 1 (after_long waiting word named v h).0 (after_long waiting word named v h).1) ≡ true
    → Ends (after_step the_rules word (walk_at waiting h) (after_long waiting word named v h).0 (after_long waiting word named v h).1) rest
    → (named ≡ true) × Given v h rest
named_word true (Some v) waiting word h rest e ends =
    let uses = both _ _ (both _ _ e).0 in
    (refl, (uses.0, uses.1, ends))
named_word true None waiting word h rest e ends = (refl, ((both _ _ e).0, ends))
named_word false v waiting word h rest e ends = let bad : false ≡ true = e in cc

bundle_plain : (k : ℕ) (flags : Text) (rows : List Row) (pending : Option (Text × List Text)) → flags_pass the_rules false k flags 0 (held_with rows pending) ≡ true
    → bundle_met the_rules k flags 0 plain (held_with rows pending) ≡ (held_with rows pending, plain)
unfolding flags_pass bundle_met
bundle_plain zero flags rows pending e = refl
bundle_plain (suc k) flags rows pending e = go (slice_get (chars flags) 0) e
  where
    go : (o : Option ℕ) → bundle_step_passes the_rules false o flags 0 (held_with rows pending) (flags_pass the_rules false k) ≡ true
        → bundle_step the_rules o flags 0 plain (held_with rows pending) (bundle_met the_rules k) ≡ (held_with rows pending, plain)
    go None e = refl
    go (Some x) e = let bad : false ≡ true = e in cc

-- a word that is no flag
plain_is : (waiting : Waiting) (word : Text) (flags : Option Text) (rows : List Row) (pending : Option (Text × List Text))
    → option_map_or (λ f. bundle_passes the_rules false f (held_with rows pending)) flags true ≡ true
    → short_or_plain the_rules waiting word flags (held_with rows pending) ≡ plain_word the_rules waiting word (held_with rows pending)
plain_is waiting word None rows pending e = refl
plain_is waiting word (Some flags) rows pending e = ap (λ (m : Held × Outcome). after_flag the_rules waiting word m.0 m.1) (bundle_plain (length flags) flags rows pending e)

-- what the words come to where one of these three stands first
abbrev Dashed : Text → Held → List Text → Type 0
Dashed word h rest = (word ≡ dashes) × (rest ≡ []) × Settles h

abbrev Named : Text → Held → List Text → Type 0
Named word h rest = (v : Option Text) × (long_of word ≡ Some (codes "budget", v)) × Given v h rest

-- the word is one more value of the option
abbrev Pushed : Text → List Row → List Text → List Text → Type 0
Pushed word rows values rest =
    Ends (walk_at (if nat_lt (pending_count the_rule (Some (codes "budget", values ++ word ∷ []))) 1 then asks else idle) (held_with rows (Some (codes "budget", values ++ word ∷ [])))) rest

abbrev met : Bool → Waiting → Option (Text × Option Text) → Text → Held → Held × Step
met dashed waiting long word h = if dashed then (h, trailing 1) else long_or_other the_rules waiting word long h

abbrev Turns : Bool → Waiting → Option (Text × Option Text) → Text → Held → List Text → Type 0
Turns dashed waiting long word h rest =
    (((dashed || flag_word_passes the_rules false long word h) && step_passes prove_leaf 1 (met dashed waiting long word h).0 (met dashed waiting long word h).1) ≡ true)
    × Ends (after_step the_rules word (walk_at waiting h) (met dashed waiting long word h).0 (met dashed waiting long word h).1) rest

dashed_turn : (waiting : Waiting) (word : Text) (h : Held) (rest : List Text) → bytes_eq word dashes ≡ true → Ends (trailing_walk waiting h) rest → Dashed word h rest
dashed_turn waiting word h rest is e = let t = none_trail waiting h rest e in (same_text word dashes is, t.0, t.1)

named_turn : (waiting : Waiting) (word name : Text) (v : Option Text) (h : Held) (rest : List Text) → long_of word ≡ Some (name, v) → Turns false waiting (Some (name, v)) word h rest → Named word h rest
named_turn waiting word name v h rest is e =
    let it = named_word (bytes_eq (codes "budget") name || false) v waiting word h rest e.0 e.1 in
    let same : codes "budget" ≡ name = same_text (codes "budget") name (or_false (bytes_eq (codes "budget") name) it.0) in
    (v, is ∙ ap (λ n. Some (n, v)) (sym same), it.1)
  where
    or_false : (b : Bool) → (b || false) ≡ true → b ≡ true
    or_false true e = refl
    or_false false e = e

idle_turns : (dashed : Bool) (long : Option (Text × Option Text)) (word : Text) (rows : List Row) (pending : Option (Text × List Text)) (rest : List Text) → bytes_eq word dashes ≡ dashed → long_of word ≡ long
    → Turns dashed idle long word (held_with rows pending) rest → Dashed word (held_with rows pending) rest ⊎ Named word (held_with rows pending) rest
idle_turns true long word rows pending rest is js e = inl (dashed_turn idle word (held_with rows pending) rest is e.1)
idle_turns false (Some p) word rows pending rest is js e = inr (named_turn idle word p.0 p.1 (held_with rows pending) rest js e)
idle_turns false None word rows pending rest is js e =
    let parts = both (option_map_or (λ f. bundle_passes the_rules false f (held_with rows pending)) (short_of word) true) _ e.0 in
    let bad : false ≡ true = subst (λ (m : Held × Step). step_passes prove_leaf 1 m.0 m.1 ≡ true) (plain_is idle word (short_of word) rows pending parts.0) parts.1 in cc

asked_turns : (dashed : Bool) (long : Option (Text × Option Text)) (word : Text) (rows : List Row) (values : List Text) (rest : List Text) → bytes_eq word dashes ≡ dashed → long_of word ≡ long
    → Turns dashed asks long word (held_with rows (Some (codes "budget", values))) rest
    → Dashed word (held_with rows (Some (codes "budget", values))) rest ⊎ (Named word (held_with rows (Some (codes "budget", values))) rest ⊎ Pushed word rows values rest)
asked_turns true long word rows values rest is js e = inl (dashed_turn asks word (held_with rows (Some (codes "budget", values))) rest is e.1)
asked_turns false (Some p) word rows values rest is js e = inr (inl (named_turn asks word p.0 p.1 (held_with rows (Some (codes "budget", values))) rest js e))
asked_turns false None word rows values rest is js e =
    let h = held_with rows (Some (codes "budget", values)) in
    let parts = both (option_map_or (λ f. bundle_passes the_rules false f h) (short_of word) true) _ e.0 in
    inr (inr (subst (λ (m : Held × Step). Ends (after_step the_rules word (walk_at asks h) m.0 m.1) rest) (plain_is asks word (short_of word) rows (Some (codes "budget", values)) parts.0) e.1))

idle_turn : (word : Text) (rows : List Row) (pending : Option (Text × List Text)) (rest : List Text) → Ends (walk_at idle (held_with rows pending)) (word ∷ rest)
    → Dashed word (held_with rows pending) rest ⊎ Named word (held_with rows pending) rest
unfolding walk_passes walked
idle_turn word rows pending rest e =
    let parts = both _ _ e.0 in
    idle_turns (bytes_eq word dashes) (long_of word) word rows pending rest refl refl (parts.0, (parts.1, e.1))

asked_turn : (word : Text) (rows : List Row) (values rest : List Text) → Ends (walk_at asks (held_with rows (Some (codes "budget", values)))) (word ∷ rest)
    → Dashed word (held_with rows (Some (codes "budget", values))) rest ⊎ (Named word (held_with rows (Some (codes "budget", values))) rest ⊎ Pushed word rows values rest)
unfolding walk_passes walked
asked_turn word rows values rest e =
    let parts = both _ _ e.0 in
    asked_turns (bytes_eq word dashes) (long_of word) word rows values rest refl refl (parts.0, (parts.1, e.1))

-- ---- all words

no_second : (some few seen good : Bool) → seen ≡ true → (some && (few && ((not seen || false) && good))) ≡ true → ⊥
no_second true true true good is e = let bad : false ≡ true = e in cc
no_second true true false good is e = cc
no_second true false seen good is e = cc
no_second false few seen good is e = cc

used_twice : (rows : List Row) (values : List Text) → has_row (codes "budget") rows ≡ true → use_passes false the_rule values rows ≡ true → ⊥
used_twice rows values is e = no_second (nat_le 1 (length values)) (nat_le (length values) 1) (has_row (codes "budget") rows) (values_pass the_rule (values_or_missing the_rule values)) is e

given_settles : (v : Option Text) (h : Held) (rest : List Text) → Given v h rest → Settles h
given_settles (Some v) h rest e = e.0
given_settles None h rest e = e.0

-- where a budget was given, a second is not
none_again : (words : List Text) (asking : Bool) (rows : List Row) (values : List Text) → has_row (codes "budget") rows ≡ true
    → Ends (walk_at (if asking then asks else idle) (held_with rows (Some (codes "budget", values)))) words → ⊥
none_again [] asking rows values is e = used_twice rows values is e.1
none_again (word ∷ rest) true rows values is e = elim (asked_turn word rows values rest e) [
  | inl d ↦ used_twice rows values is d.2
  | inr (inl g) ↦ used_twice rows values is (given_settles g.0 _ rest g.2)
  | inr (inr p) ↦ none_again rest _ rows (values ++ word ∷ []) is p
]
none_again (word ∷ rest) false rows values is e = elim (idle_turn word rows (Some (codes "budget", values)) rest e) [
  | inl d ↦ used_twice rows values is d.2
  | inr g ↦ used_twice rows values is (given_settles g.0 _ rest g.2)
]

again_given : (v : Option Text) (rows : List Row) (rest : List Text) → has_row (codes "budget") rows ≡ true → Given v (held_with rows None) rest → ⊥
again_given (Some v) rows rest is e = used_twice rows (v ∷ []) is e.1
again_given None rows rest is e = none_again rest true rows [] is e.1

no_more : (words : List Text) (rows : List Row) → has_row (codes "budget") rows ≡ true → Ends (walk_at idle (held_with rows None)) words → EndDashed words
no_more [] rows is e = inl refl
no_more (word ∷ rest) rows is e = elim (idle_turn word rows None rest e) [
  | inl d ↦ let first = d.0 in let last = d.1 in inr cc
  | inr g ↦ absurd (again_given g.0 rows rest is g.2)
]

-- the number is one that the option takes
abbrev pub IsTaken : Text → Type 0
IsTaken = IsTakenIn 1 1000000

taken_value : (text : Text) → use_passes false the_rule (text ∷ []) [] ≡ true → IsTaken text
taken_value text e = let parts : (accepts false (parsers.Signed (pos 1) (pos 1000000)) text && true) ≡ true = e in (both _ _ parts).0

abbrev pub given_rows : Text → List Row
given_rows text = (settled the_rules (held_with [] (Some (codes "budget", text ∷ [])))).rows

then_given : (v : Option Text) (text : Text) (rest : List Text) → Given v (held_with [] (Some (codes "budget", text ∷ []))) rest → ⊥
then_given (Some v) text rest e = used_twice (given_rows text) (v ∷ []) refl e.1
then_given None text rest e = none_again rest true (given_rows text) [] refl e.1

with_value : (text : Text) (rest : List Text) → Ends (walk_at idle (held_with [] (Some (codes "budget", text ∷ [])))) rest → IsTaken text × EndDashed rest
with_value text [] e = (taken_value text e.1, inl refl)
with_value text (word ∷ rest) e = elim (idle_turn word [] (Some (codes "budget", text ∷ [])) rest e) [
  | inl d ↦ let first = d.0 in let last = d.1 in (taken_value text d.2, inr cc)
  | inr g ↦ absurd (then_given g.0 text rest g.2)
]

unasked : Settles (held_with [] (Some (codes "budget", []))) → ⊥
unasked e = let bad : false ≡ true = e in cc

asked : (words : List Text) → Ends (walk_at asks (held_with [] (Some (codes "budget", [])))) words → (text : Text) × (rest : List Text) × (words ≡ text ∷ rest) × IsTaken text × EndDashed rest
asked [] e = absurd (unasked e.1)
asked (word ∷ rest) e = elim (asked_turn word [] [] rest e) [
  | inl d ↦ absurd (unasked d.2)
  | inr (inl g) ↦ absurd (unasked (given_settles g.0 _ rest g.2))
  | inr (inr p) ↦ let it = with_value word rest p in (word, rest, refl, it.0, it.1)
]

-- the words give this number, in one of the two spellings
abbrev pub Spell : Text → List Text → List Text → Type 0
Spell text rest words = (words ≡ codes "--budget" ∷ text ∷ rest) ⊎ (words ≡ (codes "--budget=" ++ text) ∷ rest)

abbrev pub Behind : List Text → Type 0
Behind words = EndDashed words ⊎ ((text : Text) × (rest : List Text) × IsTaken text × EndDashed rest × Spell text rest words)

first_given : (v : Option Text) (word : Text) (rest : List Text) → long_of word ≡ Some (codes "budget", v) → Given v (held_with [] None) rest → Behind (word ∷ rest)
first_given (Some v) word rest is e =
    let spelled : word ≡ codes "--budget=" ++ v = long_word word (codes "budget") (Some v) is in
    inr (v, rest, taken_value v e.1, no_more rest _ refl e.2, inr cc)
first_given None word rest is e =
    let spelled : word ≡ codes "--budget" = long_word word (codes "budget") None is in
    let it = asked rest e.1 in
    let words = it.2 in
    inr (it.0, it.1, it.3, it.4, inl cc)

pub behind_prove : (words : List Text) → Ends (walk_at idle (held_with [] None)) words → Behind words
behind_prove [] e = inl (inl refl)
behind_prove (word ∷ rest) e = elim (idle_turn word [] None rest e) [
  | inl d ↦ let first = d.0 in let last = d.1 in inl (inr cc)
  | inr g ↦ first_given g.0 word rest g.1 g.2
]
