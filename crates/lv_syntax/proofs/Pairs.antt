-- Reading parameters pair by pair.
use Rattle.std.proofs.Common.{◌≡◌, ℕ, ◌≤◌, List, [], ◌∷◌, ◌++◌, length, get_or, take, drop, length-drop, Ok, refl, ap, ◌-◌, arith}
use Rattle.std.proofs.lemmas.List.{take_all}
use Rattle.lv_tree.specs.declared.tree.Tree.{Tree}
use Rattle.lv_formula.specs.declared.symbols.SortId.{SortId}
use Rattle.lv_grammar.specs.Known.{Known}
use Rattle.lv_fault.specs.Given.{place_of}
use Rattle.lv_grammar.specs.ReadWords.{sort_in}
use Rattle.lv_grammar.specs.ReadItems.{Declared}
use Rattle.lv_syntax.specs.Behind.{parameter_in, pairs_behind}

-- what stands behind the first item
pub behind_first : (items : List Tree) → take (length items - 1) (drop 1 items) ≡ drop 1 items
behind_first items = take_all (length items - 1) (drop 1 items) (omega (arith, length-drop 1 items))

-- one more pair is read
pub pairs_step : (d : Known) (done more : List Declared) (end : ℕ) (items rest last : List Tree) (t u : Tree) (name : List ℕ) (sort : SortId)
    → rest ≡ drop 1 items → last ≡ drop 1 rest → 1 ≤ length items → t ≡ get_or items 0 t → 1 ≤ length rest → u ≡ get_or rest 0 u
    → parameter_in done t ≡ Ok name → sort_in d u ≡ Ok sort → more ≡ done ++ record { at = place_of t; variable = record { name = name; sort = sort } } ∷ []
    → pairs_behind d done end items ≡ pairs_behind d more end last
unfolding pairs_behind
pairs_step d done more end [] rest last t u name sort r l some is others then p s m = absurd (omega (arith, some))
pairs_step d done more end (a ∷ []) rest last t u name sort r l some is others then p s m =
    let none : length rest ≡ 0 = ap length r in
    absurd (omega (arith, others, none))
pairs_step d done more end (a ∷ b ∷ ts) rest last t u name sort r l some is others then p s m =
    let second : u ≡ b = rw r at then in
    let end_is : last ≡ ts = rw r at l in
    rw (end_is, ← is, ← second, p, s, m) refl
