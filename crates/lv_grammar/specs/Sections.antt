-- Items of one kind, read one after the other, each over what is known behind those before it.
use Rattle.std.specs.Prelude.{◌≡◌, ℕ, zero, suc, Bool, true, false, List, [], ◌∷◌, ◌++◌, Result, Ok}
use Rattle.lv_tree.specs.declared.tree.Tree.{Tree}
use Rattle.lv_fault.specs.declared.fault.Kind.TheVariants.{TooMany}
use Rattle.lv_fault.specs.declared.fault.SyntaxFault.{SyntaxFault}
use Rattle.lv_fault.specs.Given.{◌>>=◌, fail, place_of}
use Rattle.lv_grammar.specs.Known.{Known}

-- a kind of items: which trees are of it, what each says over what is known, and what is known behind it
pub record Kind (X : Type 0) : Type 0 where
  pub is : Tree → Bool
  pub read : Known → Tree → Result X SyntaxFault
  pub add : Known → X → Known

-- what was read of a section, what is known behind it, and the trees that are left
pub record Section (X : Type 0) : Type 0 where
  pub known : Known
  pub items : List X
  pub rest : List Tree

module _ {X : Type 0} (kind : Kind X) where
  abbrev pub in_front : X → Section X → Section X
  in_front x s = record { known = s.known; items = x ∷ s.items; rest = s.rest }

  -- the next item, and what the rest reads; an item for which there is no room is one too many
  abbrev pub next_item : ℕ → Known → Tree → List Tree → (ℕ → Known → Result (Section X) SyntaxFault) → Bool → Result (Section X) SyntaxFault
  next_item room k t ts others false = Ok (record { known = k; items = []; rest = t ∷ ts })
  next_item zero k t ts others true = fail TooMany (place_of t)
  next_item (suc room) k t ts others true = kind.read k t >>= λ x. others room (kind.add k x) >>= λ s. Ok (in_front x s)

  -- the items at the front that are of the kind, at most so many
  unfoldable pub section : ℕ → Known → List Tree → Result (Section X) SyntaxFault
  section room k [] = Ok (record { known = k; items = []; rest = [] })
  section room k (t ∷ ts) = next_item room k t ts (λ r d. section r d ts) (kind.is t)

-- the trees spell the items of a kind one by one, at most so many, from what is known before them to what is known behind them
pub data Spell {X : Type 0} (Is : Known → X → Tree → Type 0) (add : Known → X → Known) : ℕ → Known → List X → List Tree → Known → Type 0 where
  none : {room : ℕ} {k : Known} → Spell Is add room k [] [] k
  one : {room : ℕ} {k d : Known} {x : X} {xs : List X} {t : Tree} {ts : List Tree} → Is k x t → Spell Is add room (add k x) xs ts d → Spell Is add (suc room) k (x ∷ xs) (t ∷ ts) d

-- the first tree isn't of the kind
abbrev pub Ends : (Tree → Bool) → List Tree → Type 0
Ends is [] = Unit {0}
Ends is (t ∷ ts) = is t ≡ false

-- the trees at the front spell the items of the section, and the first of the rest isn't of the kind
pub record Spelled {X : Type 0} (Is : Known → X → Tree → Type 0) (add : Known → X → Known) (is : Tree → Bool) (room : ℕ) (k : Known) (ts : List Tree) (s : Section X) : Type 0 where
  pub front : List Tree
  pub whole : ts ≡ front ++ s.rest
  pub items : Spell Is add room k s.items front s.known
  pub ends : Ends is s.rest

-- ---- behind items that are read

-- the section with these items in front
abbrev pub behind_items : {X : Type 0} → List X → Section X → Section X
behind_items done s = record { known = s.known; items = done ++ s.items; rest = s.rest }

abbrev pub section_from : {X : Type 0} → Kind X → ℕ → Known → List X → List Tree → Result (Section X) SyntaxFault
section_from kind room k done ts = section kind room k ts >>= λ s. Ok (behind_items done s)
