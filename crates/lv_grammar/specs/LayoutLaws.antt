-- What holds of what is shown, whatever the system.
use Rattle.std.specs.Prelude.{◌≡◌, ℕ, ◌≤◌, true, IsTrue}
use Rattle.std.specs.List.{All}
use Rattle.lv_tree.specs.Spelling.{all_fit_in}
use Rattle.lv_formula.specs.declared.formula.Formula.{Formula}
use Rattle.lv_system.specs.declared.parts.Parts.{Parts}
use Rattle.lv_system.specs.declared.parts.ActionUpdate.{ActionUpdate}
use Rattle.lv_system.specs.declared.parts.ActionUpdate.TheVariants.{Relation, Constant}
use Rattle.lv_system.specs.Fits.{fits_parts}
use Rattle.lv_grammar.specs.Lifted.{lifted}
use Rattle.lv_grammar.specs.HaveWords.{has_words, invariants_have_words}
use Rattle.lv_grammar.specs.ShownSystems.{shown_items}

-- each word of the items has 1 to 64 word bytes, and lists in them nest at most 59 deep
abbrev pub ShownFits : Type 0
ShownFits = (p : Parts) → fits_parts p ≡ true → invariants_have_words p p.invariants ≡ true → (room : ℕ) → 59 ≤ room → IsTrue (all_fit_in room (shown_items p))

-- each symbol and each sort in the formula has a word of at most 64 bytes
abbrev pub CanBeShown : Parts → Formula → Type 0
CanBeShown p f = has_words p (lifted f) ≡ true

abbrev pub UpdateCanBeShown : Parts → ActionUpdate → Type 0
UpdateCanBeShown p (Relation symbol body) = CanBeShown p body
UpdateCanBeShown p (Constant symbol term) = Unit {0}

-- each formula of the system can be shown alone
pub record FormulasCanBeShown (p : Parts) : Type 0 where
  pub axioms : All (CanBeShown p) p.axioms
  pub inits : All (CanBeShown p) p.inits
  pub guards : All (λ a. CanBeShown p a.guard) p.actions
  pub updates : All (λ a. All (UpdateCanBeShown p) a.updates) p.actions
  pub fairs : All (λ c. CanBeShown p c.condition) p.fairs
  pub invariants : All (λ i. CanBeShown p i.formula) p.invariants

-- where the parts fit and the symbols of the invariants have words, each formula can be shown
abbrev pub FittingCanBeShown : Type 0
FittingCanBeShown = (p : Parts) → fits_parts p ≡ true → invariants_have_words p p.invariants ≡ true → FormulasCanBeShown p
