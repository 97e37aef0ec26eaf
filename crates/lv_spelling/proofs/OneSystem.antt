-- A tree spells at most one system, and so does a text.
use Rattle.std.proofs.Common.{◌≡◌, ℕ, List, sym, subst, ◌∙◌}
use Rattle.lv_tree.specs.declared.tree.Tree.{Tree}
use Rattle.lv_tree.proofs.Reading.{at_most_one}
use Rattle.lv_system.specs.declared.parts.Parts.{Parts}
use Rattle.lv_grammar.specs.Spelling.{SpellsSystem, Spells}
use Rattle.lv_grammar.proofs.Steps.{ok_is}
use Rattle.lv_spelling.proofs.SystemAgain.{system_again}

pub one_system_each : (t : Tree) (p q : Parts) → SpellsSystem p t → SpellsSystem q t → p ≡ q
one_system_each t p q a b = ok_is p q (sym (system_again p t a) ∙ system_again q t b)

pub spells_at_most_one : (bytes : List ℕ) (p q : Parts) → Spells bytes p → Spells bytes q → p ≡ q
spells_at_most_one bytes p q a b =
    let same : a.tree ≡ b.tree = at_most_one bytes a.tree b.tree a.spelled b.spelled in
    one_system_each b.tree p q (subst (λ t. SpellsSystem p t) same a.system) b.system
