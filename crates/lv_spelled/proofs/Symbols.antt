-- The symbols of a sound vocabulary in their order: each stands once, and is a relation or a constant.
use Rattle.std.proofs.Common.{◌≡◌, Bool, true, false, cond, List, [], ◌∷◌, map, Some, None, refl, sym, ap, subst, ◌∙◌}
use Rattle.std.specs.List.{All, IsDistinct}
use Rattle.std.proofs.lemmas.List.Elements.{All-append, All-cons, All-nil}
use Rattle.std.proofs.lemmas.List.Sorted.{All-permutation}
use Rattle.std.proofs.lemmas.Map.Keys.{IsDistinct-IsPermutation}
use Rattle.std.proofs.lemmas.Map.Made.{IsDistinct-from_AllPairs}
use Rattle.lv_formula.specs.declared.symbols.SortId.{SortId}
use Rattle.lv_formula.specs.declared.symbols.Sym.{Sym}
use Rattle.lv_formula.specs.declared.vocabulary.ConShape.{ConShape}
use Rattle.lv_formula.specs.declared.vocabulary.RelShape.{RelShape}
use Rattle.lv_formula.specs.declared.vocabulary.Vocabulary.{Vocabulary}
use Rattle.lv_formula.specs.Symbols.{sym_eq}
use Rattle.lv_formula.specs.Vocabulary.{IsSound, constant_in, relation_in, symbols_of}
use Rattle.lv_formula.proofs.SymbolLaws.{sym_eq-refl, sym_eq-true}

pub flips : (a b : Sym) → sym_eq a b ≡ sym_eq b a
flips a b = go (sym_eq a b) (sym_eq b a) refl refl where
  go : (p q : Bool) → sym_eq a b ≡ p → sym_eq b a ≡ q → p ≡ q
  go true true e h = refl
  go false false e h = refl
  go true false e h = sym (sym_eq-refl b) ∙ (ap (λ z. sym_eq b z) (sym (sym_eq-true a b e)) ∙ h)
  go false true e h = sym e ∙ (ap (λ z. sym_eq z b) (sym (sym_eq-true b a h)) ∙ sym_eq-refl b)

-- no symbol stands twice in the order
pub order_distinct : (voc : Vocabulary) → IsSound voc → IsDistinct sym_eq voc.order
order_distinct voc sound = IsDistinct-IsPermutation sym_eq flips (symbols_of voc) voc.order sound.order
    (IsDistinct-from_AllPairs (λ a b. (sym_eq-true a b, λ e. subst (λ z. sym_eq a z ≡ true) e (sym_eq-refl a))) (symbols_of voc) sound.differ)

-- what is no relation is a constant
abbrev pub IsNamed : Vocabulary → Sym → Type 0
IsNamed voc s = relation_in voc.relations s ≡ None → (sort : SortId) × (constant_in voc.constants s ≡ Some sort)

relations_there : (rs : List RelShape) → All (λ s. (relation_in rs s ≡ None) → ⊥) (map (λ r. r.sym) rs)
relations_there [] = All-nil (λ s. (relation_in [] s ≡ None) → ⊥)
relations_there (r ∷ rs) = All-cons (λ s. (relation_in (r ∷ rs) s ≡ None) → ⊥) r.sym (map (λ r. r.sym) rs)
    (λ e. first (sym_eq r.sym r.sym) (sym_eq-refl r.sym) e)
    (λ k d l e. later _ (sym_eq r.sym _) (relations_there rs k d l) e)
  where
    first : (b : Bool) → b ≡ true → cond b (Some r.sorts) (relation_in rs r.sym) ≡ None → ⊥
    first true is e = cc
    first false is e = cc

    later : (s : Sym) (b : Bool) → ((relation_in rs s ≡ None) → ⊥) → cond b (Some r.sorts) (relation_in rs s) ≡ None → ⊥
    later s true not e = cc
    later s false not e = not e

constants_there : (cs : List ConShape) → All (λ s. (sort : SortId) × (constant_in cs s ≡ Some sort)) (map (λ c. c.sym) cs)
constants_there [] = All-nil (λ s. (sort : SortId) × (constant_in [] s ≡ Some sort))
constants_there (c ∷ cs) = All-cons (λ s. (sort : SortId) × (constant_in (c ∷ cs) s ≡ Some sort)) c.sym (map (λ c. c.sym) cs)
    (c.sort, rw (sym_eq-refl c.sym) refl)
    (λ k d l. later _ (sym_eq c.sym _) (constants_there cs k d l))
  where
    later : (s : Sym) (b : Bool) → ((sort : SortId) × (constant_in cs s ≡ Some sort)) → (sort : SortId) × (cond b (Some c.sort) (constant_in cs s) ≡ Some sort)
    later s true there = (c.sort, refl)
    later s false there = there

pub order_named : (voc : Vocabulary) → IsSound voc → All (IsNamed voc) voc.order
order_named voc sound = All-permutation (IsNamed voc) (symbols_of voc) voc.order sound.order
    (All-append (IsNamed voc) (map (λ r. r.sym) voc.relations) (map (λ c. c.sym) voc.constants)
    (λ k d l none. absurd (relations_there voc.relations k d l none))
    (λ k d l none. constants_there voc.constants k d l))
