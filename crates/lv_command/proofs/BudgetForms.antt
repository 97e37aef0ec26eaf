-- What the command reads where a budget stands behind `prove`.
use Rattle.std.proofs.Common.{◌≡◌, inl, inr, ℕ, true, false, ◌&&◌, ◌==◌, List, [], ◌∷◌, ◌++◌, Some, None, codes, if◌then◌else◌, refl, sym, subst, ap, ◌∙◌, arith}
use Rattle.std.specs.Prelude.{fold, option_and_then, unwrap_or}
use Rattle.std.specs.Option.{option_map_or}
use Rattle.std.specs.Str.{bytes_eq}
use Rattle.std.specs.Str.Parse.{IsNumeral, without_leading_plus}
use Rattle.clap.specs.Lexer.{long_of, long_of_rest, short_of, short_of_rest, strip_byte}
use Rattle.clap.specs.Takes.{level_passes, settle_passes, turn_passes, walk_passes}
use Rattle.clap.specs.Walk.{Held, Text, Walk, finished, nothing_held, one_of, rows_after, walked}
use Rattle.clap.specs.Walk.{idle}
use Rattle.lv_command.specs.Commands.{HasReadNumbers, IsBudget, budget_of, number_of}
use Rattle.lv_command.proofs.Numbers.{minus_free, number_is_taken}
use Rattle.lv_command.proofs.BudgetFaults.{and_true, prove_leaf, the_rules}
use Rattle.lv_command.proofs.BudgetWords.{EndDashed, IsTaken, Spell, asks, dashes, given_rows, held_with, walk_at}

-- ---- from one word to the next

-- the words pass from there on, and this is held at their end
abbrev Reaches : Walk → List Text → Held → Type 0
Reaches w words h = (walk_passes prove_leaf [] w words ≡ true) × ((fold (walked the_rules []) w words).held ≡ h)

turned : (w next : Walk) (word : Text) (rest : List Text) (h : Held) → turn_passes prove_leaf [] w word ≡ true → walked the_rules [] w word ≡ next → Reaches next rest h → Reaches w (word ∷ rest) h
unfolding walk_passes
turned w next word rest h passes is e =
    let there : Reaches (walked the_rules [] w word) rest h = subst (λ (v : Walk). Reaches v rest h) (sym is) e in
    (and_true _ _ passes there.0, there.1)

at_end : (h : Held) (rest : List Text) → EndDashed rest → Reaches (walk_at idle h) rest h
unfolding walk_passes walked
at_end h rest (inl is) = subst (λ (ws : List Text). Reaches (walk_at idle h) ws h) (sym is) (refl, refl)
at_end h rest (inr is) = subst (λ (ws : List Text). Reaches (walk_at idle h) ws h) (sym is) (refl, refl)

-- a text without a hyphen in front, behind the option
value_passes : (d : ℕ) (ds : Text) → (d == 45) ≡ false
    → (turn_passes prove_leaf [] (walk_at asks (held_with [] (Some (codes "budget", [])))) (d ∷ ds) ≡ true)
    × (walked the_rules [] (walk_at asks (held_with [] (Some (codes "budget", [])))) (d ∷ ds) ≡ walk_at idle (held_with [] (Some (codes "budget", (d ∷ ds) ∷ []))))
unfolding walked
value_passes d ds is =
    let dashed : bytes_eq (d ∷ ds) dashes ≡ false = ap (λ b. b && bytes_eq ds (45 ∷ [])) is in
    let long : long_of (d ∷ ds) ≡ None = ap (λ b. option_and_then long_of_rest (option_and_then (strip_byte 45) (if b then Some ds else None))) is in
    let short : short_of (d ∷ ds) ≡ None = ap (λ b. option_and_then short_of_rest (if b then Some ds else None)) is in
    rw (dashed, long, short) (refl, refl)

named_passes : (turn_passes prove_leaf [] (walk_at idle nothing_held) (codes "--budget") ≡ true)
    × (walked the_rules [] (walk_at idle nothing_held) (codes "--budget") ≡ walk_at asks (held_with [] (Some (codes "budget", []))))
unfolding walked
named_passes = (refl, refl)

joined_passes : (text : Text) → IsTaken text
    → (turn_passes prove_leaf [] (walk_at idle nothing_held) (codes "--budget=" ++ text) ≡ true)
    × (walked the_rules [] (walk_at idle nothing_held) (codes "--budget=" ++ text) ≡ walk_at idle (held_with (given_rows text) None))
unfolding walked
joined_passes text good = (and_true _ _ (ap (λ b. b && true) good) refl, refl)

-- ---- all words

abbrev Level : List Text → Type 0
Level words = level_passes prove_leaf [] nothing_held words false ≡ true

-- what is read at the end
leveled : (words : List Text) (h : Held) → Reaches (walk_at idle nothing_held) words h → settle_passes the_rules false h ≡ true
    → Level words × (rows_after the_rules [] words ≡ finished the_rules h)
leveled words h e settles =
    (and_true _ _ e.0 (and_true _ _ (subst (λ (g : Held). settle_passes the_rules false g ≡ true) (sym e.1) settles) refl), ap (finished the_rules) e.1)

settled_value : (text : Text) → IsTaken text → settle_passes the_rules false (held_with [] (Some (codes "budget", text ∷ []))) ≡ true
settled_value text good = ap (λ b. b && true) good

split_text : (text : Text) (rest : List Text) → IsNumeral 10 (without_leading_plus text) → EndDashed rest
    → Reaches (walk_at asks (held_with [] (Some (codes "budget", [])))) (text ∷ rest) (held_with [] (Some (codes "budget", text ∷ [])))
split_text [] rest numeral end = absurd (omega (arith, numeral.0))
split_text (d ∷ ds) rest numeral end =
    let it = value_passes d ds (minus_free (d ∷ ds) numeral) in
    turned _ _ (d ∷ ds) rest _ it.0 it.1 (at_end _ rest end)

spelled : (text : Text) (rest words : List Text) → IsBudget text → IsTaken text → EndDashed rest → Spell text rest words → Level words × (rows_after the_rules [] words ≡ given_rows text)
spelled text rest words budget good end (inl is) =
    let it = leveled (codes "--budget" ∷ text ∷ rest) _ (turned _ _ (codes "--budget") (text ∷ rest) _ named_passes.0 named_passes.1 (split_text text rest budget.digits end)) (settled_value text good) in
    subst (λ (ws : List Text). Level ws × (rows_after the_rules [] ws ≡ given_rows text)) (sym is) it
spelled text rest words budget good end (inr is) =
    let step = joined_passes text good in
    let it = leveled ((codes "--budget=" ++ text) ∷ rest) _ (turned _ _ (codes "--budget=" ++ text) rest _ step.0 step.1 (at_end _ rest end)) refl in
    subst (λ (ws : List Text). Level ws × (rows_after the_rules [] ws ≡ given_rows text)) (sym is) it

unspelled : (words : List Text) → EndDashed words → Level words × (rows_after the_rules [] words ≡ [])
unspelled words end = leveled words _ (at_end nothing_held words end) refl

-- ---- what was read

read_text : (text : Text) → IsBudget text → one_of (codes "budget") (given_rows text) ≡ Some text
read_text [] b = absurd (omega (arith, b.digits.0))
read_text (d ∷ ds) b = ap (λ x. Some (unwrap_or (if x then Some ds else None) (d ∷ ds))) (minus_free (d ∷ ds) b.digits)

-- what stands behind `prove`, and the budget that it says
pub record Says (words : List Text) (budget : ℕ) : Type 0 where
  pub level : Level words
  pub is : budget_of (rows_after the_rules [] words) ≡ budget
  pub read : HasReadNumbers (rows_after the_rules [] words)

pub says_usual : (words : List Text) → EndDashed words → Says words 100000
says_usual words end =
    let it = unspelled words end in
    record { level = it.0; is = ap budget_of it.1; read = subst HasReadNumbers (sym it.1) ((λ text e. cc), (λ text e. cc)) }

pub says_budget : (text : Text) (rest words : List Text) → IsBudget text → EndDashed rest → Spell text rest words → Says words (number_of text)
says_budget text rest words budget end is =
    let it = spelled text rest words budget (number_is_taken 1 1000000 text (omega arith) budget) end is in
    let one = read_text text budget in
    record {
      level = it.0;
      is = ap budget_of it.1 ∙ ap (λ o. option_map_or number_of o 100000) one;
      read = subst HasReadNumbers (sym it.1) ((λ other e. let same : text ≡ other = cc in subst IsBudget same budget), (λ other e. cc));
    }
