-- The text of a system, from what was added to it.
use Rattle.std.proofs.Common.{◌≡◌, ℕ, List, [], ◌∷◌, ◌++◌, ap, ◌∙◌, append_assoc}
use Rattle.std.specs.Prelude.{codes}
use Rattle.lv_tree.specs.declared.tree.Tree.{Tree}
use Rattle.lv_system.specs.declared.parts.Parts.{Parts}
use Rattle.lv_grammar.specs.ShownSystems.{shown_items}
use Rattle.lv_grammar.specs.Layout.{in_lines, shown_text}

-- the text, from what was added to it
pub text_made : (p q : Parts) (ts : List Tree) (t0 t1 t2 t3 r : List ℕ) → q ≡ p → ts ≡ shown_items q → t0 ≡ codes "(system " → t1 ≡ t0 ++ q.name → t2 ≡ t1 ++ in_lines ts → t3 ≡ t2 ++ 41 ∷ 10 ∷ []
    → r ≡ t3 → r ≡ shown_text p
text_made p q ts t0 t1 t2 t3 r a b c d e f g =
    g ∙ f ∙ ap (λ l. l ++ 41 ∷ 10 ∷ []) (e ∙ ap (λ l. l ++ in_lines ts) (d ∙ ap (λ l. l ++ q.name) c)) ∙ append_assoc (codes "(system " ++ q.name) (in_lines ts) (41 ∷ 10 ∷ []) ∙ append_assoc (codes "(system ") q.name (in_lines ts ++ 41 ∷ 10 ∷ [])
    ∙ ap (λ l. codes "(system " ++ (q.name ++ (in_lines l ++ 41 ∷ 10 ∷ []))) b ∙ ap shown_text a
