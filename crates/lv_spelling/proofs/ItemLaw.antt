-- Items that begin with a word are read exactly where they are spelled, where that holds of what follows the word.
use Rattle.std.proofs.Common.{◌≡◌, ℕ, true, false, List, codes, refl, ◌∙◌, ap, subst}
use Rattle.std.specs.Prelude.{Result, Ok, [], ◌∷◌}
use Rattle.lv_tree.specs.declared.tree.Tree.{Tree}
use Rattle.lv_formula.specs.declared.formula.Formula.{Formula}
use Rattle.lv_fault.specs.declared.fault.SyntaxFault.{SyntaxFault}
use Rattle.lv_fault.specs.Given.{◌>>=◌, Headed, headed}
use Rattle.lv_grammar.specs.declared.reading.Role.{Role}
use Rattle.lv_grammar.specs.declared.reading.Role.TheVariants as R
use Rattle.lv_grammar.specs.Known.{Known, is_temporal}
use Rattle.lv_grammar.specs.Reading.{kind_of, lone_item, axiom_kind, init_kind, begins_with}
use Rattle.lv_grammar.specs.Rules.{Begins, IsLone, add_nothing}
use Rattle.lv_grammar.proofs.Steps.{done, bound}
use Rattle.lv_spelling.specs.Laws.{Agree}
use Rattle.lv_spelling.proofs.Heads.{kind_found, kind_again, head_again}
use Rattle.lv_spelling.proofs.SectionLaw as Law
use Rattle.lv_spelling.proofs.Wholes.{lone_is, lone_again}

-- what follows the word, and where it is spelled the same is read whatever the places
module _ {X : Type 0} (word : List ℕ) (item : Known → Headed → Result X SyntaxFault) (add : Known → X → Known) (Is : Known → X → Tree → Type 0)
    (found : (k : Known) (x : X) (t : Tree) (h : Headed) → headed t ≡ done h → Begins word h.rest t → item k h ≡ done x → Is k x t)
    (again : (k : Known) (x : X) (t : Tree) → Is k x t → (items : List Tree) × Begins word items t × ((at end word_at : ℕ) → item k (record { at = at; end = end; word = record { at = word_at; text = word }; rest = items }) ≡ done x)) where
  item_found : (k : Known) (x : X) (t : Tree) → begins_with word t ≡ true → (headed t >>= item k) ≡ done x → Is k x t
  item_found k x t b e = let h = bound (headed t) _ x e in found k x t h.0 h.1 (kind_found word t h.0 h.1 b) h.2

  item_again : (k : Known) (x : X) (t : Tree) → Is k x t → (begins_with word t ≡ true) × ((headed t >>= item k) ≡ done x)
  item_again k x t is =
      let a = again k x t is in
      let h = head_again word a.0 t a.1 in
      (kind_again word a.0 t a.1, ap (λ z. z >>= item k) h.is ∙ a.2 h.at h.end h.word_at)

  pub kinds_agree : Agree (kind_of word item add) Is
  kinds_agree = Law.sections_agree (kind_of word item add) Is (λ k x t. (item_again k x t, λ y. item_found k x t y.0 y.1))

-- ---- items of one formula of a state

module _ (word : List ℕ) (role : Role) (state : is_temporal role ≡ false) where
  lone_found : (k : Known) (f : Formula) (t : Tree) (h : Headed) → headed t ≡ done h → Begins word h.rest t → lone_item role k h ≡ done f → IsLone word role 58 [] k f t
  lone_found k f t h e begins read =
      let a = lone_is k role state 58 [] h.end h.rest f read in
      record { a = a.0; list = subst (λ z. Begins word z t) a.1 begins; formula = a.2 }

  pub lones_agree : Agree (kind_of word (lone_item role) add_nothing) (IsLone word role 58 [])
  lones_agree = kinds_agree word (lone_item role) add_nothing (IsLone word role 58 []) lone_found
      (λ k f t is. (is.a ∷ [], is.list, λ at end word_at. lone_again k role state 58 [] end is.a f is.formula))

pub axioms_agree : Agree axiom_kind (IsLone (codes "axiom") R.Axiom 58 [])
axioms_agree = lones_agree (codes "axiom") R.Axiom refl

pub inits_agree : Agree init_kind (IsLone (codes "init") R.State 58 [])
inits_agree = lones_agree (codes "init") R.State refl
