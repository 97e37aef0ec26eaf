-- The texts of reports: on a system's obligations, on the check of a structure, on the replay of a lasso, on a system that
-- was made.
use Rattle.std.specs.Prelude.{ℕ, Bool, false, eqb, List, [], ◌∷◌, ◌++◌, codes, decimal, slice_get, take, Option, Some, None}
use Rattle.std.specs.List.{position_or_len}
use Rattle.lv_formula.specs.declared.symbols.SortId.{SortId}
use Rattle.lv_formula.specs.declared.vocabulary.Vocabulary.{Vocabulary}
use Rattle.lv_struct.specs.Tables.{Tables}
use Rattle.lv_system.specs.declared.parts.Parts.{Parts}
use Rattle.lv_labels.specs.declared.moves.Move.{Move}
use Rattle.lv_labels.specs.declared.moves.Move.TheVariants.{Stay, Freeze, Save}
use Rattle.lv_labels.specs.declared.which.Which.{Which}
use Rattle.lv_labels.specs.declared.which.Which.TheVariants.{Start, Step, Catch}
use Rattle.lv_labels.specs.Obligations.{vocabulary_of}
use Rattle.lv_labels.specs.Problem.{problem_of}
use Rattle.lv_oblig.specs.Numbers.{obligation_at}
use Rattle.lv_grammar.specs.Layout.{shown_text}
use Rattle.lv_grammar.specs.ShownStructures.{shown_structure}

-- ---- names

-- the name of the item with this number
abbrev pub name_if : {A : Type 0} → (A → List ℕ) → Option A → List ℕ
name_if name None = []
name_if name (Some x) = name x

abbrev pub name_at : {A : Type 0} → (A → List ℕ) → List A → ℕ → List ℕ
name_at name xs n = name_if name (slice_get xs n)

abbrev pub move_text : Move → List ℕ
move_text Stay = codes " stay "
move_text Freeze = codes " freeze "
move_text Save = codes " save "

abbrev pub action_text : Parts → ℕ → List ℕ
action_text p n = name_at (λ a. a.name) p.actions n

abbrev pub invariant_text : Parts → ℕ → List ℕ
invariant_text p n = name_at (λ i. i.name) p.invariants n

-- the name of an obligation
abbrev pub obligation_text : Parts → Which → List ℕ
obligation_text p (Start invariant) = codes "start " ++ invariant_text p invariant
obligation_text p (Step action move invariant) = codes "step " ++ (action_text p action ++ (move_text move ++ invariant_text p invariant))
obligation_text p Catch = codes "catch"

-- the name of each sort behind a space
abbrev pub sort_texts : Parts → List SortId → List ℕ
sort_texts p [] = []
sort_texts p (s ∷ ss) = codes " " ++ (name_at (λ x. x.name) p.sorts s.0 ++ sort_texts p ss)

-- ---- reports

-- the vocabulary of the obligation with that number
abbrev pub vocabulary_at : Parts → ℕ → Vocabulary
vocabulary_at p index = vocabulary_of (problem_of p) (obligation_at p index)

-- a word, the number of an obligation, and its name
abbrev pub heading : List ℕ → Parts → ℕ → List ℕ
heading word p index = word ++ (codes " " ++ (decimal index ++ (codes " " ++ obligation_text p (obligation_at p index))))

abbrev pub proved_text : ℕ → List ℕ
proved_text obligations = codes "proved " ++ (decimal obligations ++ codes " obligations\n")

abbrev pub countermodel_text : Parts → ℕ → Tables → List ℕ
countermodel_text p index w = heading (codes "countermodel") p index ++ (codes "\n" ++ shown_structure p (vocabulary_at p index) w)

abbrev pub not_stratified_text : Parts → ℕ → List SortId → List ℕ
not_stratified_text p index sorts = heading (codes "not stratified") p index ++ (codes ":" ++ (sort_texts p sorts ++ codes "\n"))

abbrev pub too_large_text : Parts → ℕ → List ℕ
too_large_text p index = heading (codes "too large") p index ++ codes "\n"

abbrev pub spent_text : Parts → ℕ → ℕ → List ℕ
spent_text p index learned = heading (codes "spent") p index ++ (codes " after " ++ (decimal learned ++ codes " learned clauses\n"))

-- a number behind these words
abbrev pub numbered_text : List ℕ → ℕ → List ℕ
numbered_text words number = words ++ (decimal number ++ codes "\n")

abbrev pub hypothesis_fails_text : ℕ → List ℕ
hypothesis_fails_text number = numbered_text (codes "hypothesis fails ") number

abbrev pub axiom_fails_text : ℕ → List ℕ
axiom_fails_text number = numbered_text (codes "axiom fails ") number

abbrev pub guard_fails_text : ℕ → List ℕ
guard_fails_text step = numbered_text (codes "guard fails ") step

abbrev pub unfair_text : Parts → ℕ → List ℕ
unfair_text p fair = codes "unfair " ++ (name_at (λ c. c.name) p.fairs fair ++ codes "\n")

-- the bytes before the first space
abbrev pub first_word : List ℕ → List ℕ
first_word text = take (position_or_len (λ b. eqb b 32) text) text

-- comments: how many obligations there are, the largest size of one, and this answer
abbrev pub figures_text : ℕ → ℕ → List ℕ → List ℕ
figures_text obligations largest answer =
    numbered_text (codes "; obligations ") obligations ++ (numbered_text (codes "; largest size ") largest ++ (codes "; answer " ++ (answer ++ codes "\n")))

-- the text of a system, and the same of it
abbrev pub made_text : Parts → ℕ → ℕ → List ℕ → List ℕ
made_text p obligations largest answer = shown_text p ++ figures_text obligations largest answer

-- ---- the first byte

abbrev pub begins_with_p : List ℕ → Bool
begins_with_p [] = false
begins_with_p (b ∷ bs) = eqb b 112
