-- Reading a system in groups of sections is reading it section by section.
use Rattle.std.proofs.Common.{◌≡◌, ℕ, List, Result, Ok, Err, refl, ◌∙◌}
use Rattle.lv_tree.specs.declared.tree.Tree.{Tree}
use Rattle.lv_system.specs.declared.parts.Parts.{Parts}
use Rattle.lv_fault.specs.declared.fault.SyntaxFault.{SyntaxFault}
use Rattle.lv_fault.specs.Given.{◌>>=◌}
use Rattle.lv_grammar.specs.Known.{Known}
use Rattle.lv_grammar.specs.Sections.{section}
use Rattle.lv_grammar.specs.Rules.{known_first}
use Rattle.lv_grammar.specs.Reading.{sort_kind, symbol_kind, axiom_kind, init_kind, action_kind, fair_kind, label_kind, witness_kind, property_kind, invariant_kind, the_one, none_left, parts_of}
use Rattle.lv_syntax.specs.Groups.{Declared, declared_from, Moving, moving_from, Closing, closing_from, parts_with, in_groups}

abbrev Read : Type 0 → Type 0
Read A = Result A SyntaxFault

steps : {A B : Type 0} (r : Read A) (f g : A → Read B) → ((x : A) → f x ≡ g x) → (r >>= f) ≡ (r >>= g)
steps (Ok x) f g e = e x
steps (Err z) f g e = refl

-- what follows four steps follows the last of them
one : {A B C : Type 0} (r : Read A) (make : A → B) (g : B → Read C) → ((r >>= λ a. Ok (make a)) >>= g) ≡ (r >>= λ a. g (make a))
one (Ok a) make g = refl
one (Err z) make g = refl

two : {A A2 B C : Type 0} (r : Read A) (s : A → Read A2) (make : A → A2 → B) (g : B → Read C) → ((r >>= λ a. s a >>= λ b. Ok (make a b)) >>= g) ≡ (r >>= λ a. s a >>= λ b. g (make a b))
two (Ok a) s make g = one (s a) (make a) g
two (Err z) s make g = refl

three : {A A2 A3 B C : Type 0} (r : Read A) (s : A → Read A2) (t : A → A2 → Read A3) (make : A → A2 → A3 → B) (g : B → Read C)
    → ((r >>= λ a. s a >>= λ b. t a b >>= λ c. Ok (make a b c)) >>= g) ≡ (r >>= λ a. s a >>= λ b. t a b >>= λ c. g (make a b c))
three (Ok a) s t make g = two (s a) (t a) (make a) g
three (Err z) s t make g = refl

four : {A A2 A3 A4 B C : Type 0} (r : Read A) (s : A → Read A2) (t : A → A2 → Read A3) (u : A → A2 → A3 → Read A4) (make : A → A2 → A3 → A4 → B) (g : B → Read C)
    → ((r >>= λ a. s a >>= λ b. t a b >>= λ c. u a b c >>= λ d. Ok (make a b c d)) >>= g) ≡ (r >>= λ a. s a >>= λ b. t a b >>= λ c. u a b c >>= λ d. g (make a b c d))
four (Ok a) s t u make g = three (s a) (t a) (u a) (make a) g
four (Err z) s t u make g = refl

abbrev declared_then : Known → List Tree → (Declared → Read Parts) → Read Parts
declared_then k ts g =
    section sort_kind 16 k ts >>= λ a. section symbol_kind 256 a.known a.rest >>= λ b. section axiom_kind 64 b.known b.rest >>= λ c. section init_kind 64 c.known c.rest >>= λ e.
    g (record { sorts = a.items; symbols = b.items; axioms = c.items; inits = e.items; known = e.known; rest = e.rest })

declared_out : (k : Known) (ts : List Tree) (g : Declared → Read Parts) → (declared_from k ts >>= g) ≡ declared_then k ts g
unfolding declared_from
declared_out k ts g =
    four (section sort_kind 16 k ts) (λ a. section symbol_kind 256 a.known a.rest) (λ a b. section axiom_kind 64 b.known b.rest) (λ a b c. section init_kind 64 c.known c.rest)
    (λ a b c e. record { sorts = a.items; symbols = b.items; axioms = c.items; inits = e.items; known = e.known; rest = e.rest }) g

abbrev moving_then : Known → List Tree → (Moving → Read Parts) → Read Parts
moving_then k ts g =
    section action_kind 32 k ts >>= λ a. section fair_kind 16 a.known a.rest >>= λ b. section label_kind 32 b.known b.rest >>= λ c. section witness_kind 16 c.known c.rest >>= λ e.
    g (record { actions = a.items; fairs = b.items; labels = c.items; witnesses = e.items; known = e.known; rest = e.rest })

moving_out : (k : Known) (ts : List Tree) (g : Moving → Read Parts) → (moving_from k ts >>= g) ≡ moving_then k ts g
unfolding moving_from
moving_out k ts g =
    four (section action_kind 32 k ts) (λ a. section fair_kind 16 a.known a.rest) (λ a b. section label_kind 32 b.known b.rest) (λ a b c. section witness_kind 16 c.known c.rest)
    (λ a b c e. record { actions = a.items; fairs = b.items; labels = c.items; witnesses = e.items; known = e.known; rest = e.rest }) g

abbrev closing_then : Known → ℕ → List Tree → (Closing → Read Parts) → Read Parts
closing_then k end ts g =
    section property_kind 1 k ts >>= λ l. the_one end l.items l.rest >>= λ p. section invariant_kind 256 l.known l.rest >>= λ m. none_left m.rest >>= λ z. g (record { property = p; invariants = m.items })

closing_out : (k : Known) (end : ℕ) (ts : List Tree) (g : Closing → Read Parts) → (closing_from k end ts >>= g) ≡ closing_then k end ts g
unfolding closing_from
closing_out k end ts g =
    four (section property_kind 1 k ts) (λ l. the_one end l.items l.rest) (λ l p. section invariant_kind 256 l.known l.rest) (λ l p m. none_left m.rest) (λ l p m z. record { property = p; invariants = m.items }) g

abbrev moving_and_closing : List ℕ → ℕ → Declared → Read Parts
moving_and_closing name end a = moving_then a.known a.rest (λ b. closing_then b.known end b.rest (λ c. Ok (parts_with name a b c)))

behind_declared : (name : List ℕ) (end : ℕ) (a : Declared) → (moving_from a.known a.rest >>= λ b. closing_from b.known end b.rest >>= λ c. Ok (parts_with name a b c)) ≡ moving_and_closing name end a
behind_declared name end a =
    steps (moving_from a.known a.rest) (λ b. closing_from b.known end b.rest >>= λ c. Ok (parts_with name a b c)) (λ b. closing_then b.known end b.rest (λ c. Ok (parts_with name a b c)))
    (λ b. closing_out b.known end b.rest (λ c. Ok (parts_with name a b c)))
    ∙ moving_out a.known a.rest (λ b. closing_then b.known end b.rest (λ c. Ok (parts_with name a b c)))

pub parts_in_groups : (name : List ℕ) (end : ℕ) (ts : List Tree) → in_groups name end ts ≡ parts_of name end ts
unfolding in_groups parts_of
parts_in_groups name end ts =
    steps (declared_from (known_first name) ts) (λ a. moving_from a.known a.rest >>= λ b. closing_from b.known end b.rest >>= λ c. Ok (parts_with name a b c)) (moving_and_closing name end)
    (behind_declared name end)
    ∙ declared_out (known_first name) ts (moving_and_closing name end)
