-- What an entry makes of a structure, and what it leaves.
use Rattle.std.proofs.Common.{◌≡◌, ℕ, ◌<◌, false, List, Some, refl, sym, subst, ◌∙◌}
use Rattle.std.specs.List.{All}
use Rattle.lv_formula.specs.declared.symbols.SortId.{SortId}
use Rattle.lv_formula.specs.declared.symbols.Sym.{Sym}
use Rattle.lv_formula.specs.declared.vocabulary.Vocabulary.{Vocabulary}
use Rattle.lv_formula.specs.Symbols.{sym_eq}
use Rattle.lv_formula.specs.Tuples.{has_tuple}
use Rattle.lv_formula.specs.Vocabulary.{constant_in, relation_in}
use Rattle.lv_struct.specs.Changes.{with_element, with_tuples}
use Rattle.lv_struct.specs.Tables.{HasVocabulary, IsInRange, IsSound, Tables, holds_in, size_of, value_in}
use Rattle.lv_struct.proofs.ChangeLaws.{with_element_is_sound, with_tuples_is_sound}
use Rattle.lv_struct.proofs.MeaningLaws.{holds-with_tuples, holds-with_tuples_other, sort-in_vocabulary, sorts-in_vocabulary, value-with_element, value-with_element_other, vocabulary-with_element, vocabulary-with_tuples}

-- the second structure has the first one's sizes, and what the first has of each symbol other than s
pub record IsChangedAt (s : Sym) (u v : Tables) : Type 0 where
  pub sizes : v.sizes ≡ u.sizes
  pub tuples : (r : Sym) → sym_eq s r ≡ false → (tuple : List ℕ) → holds_in v r tuple ≡ holds_in u r tuple
  pub elements : (c : Sym) → sym_eq s c ≡ false → value_in v c ≡ value_in u c

pub tuples_changed : (u : Tables) (s : Sym) (tuples : List (List ℕ)) → IsChangedAt s u (with_tuples u s tuples)
tuples_changed u s tuples = record { sizes = refl; tuples = λ r differ tuple. holds-with_tuples_other u s tuples r differ tuple; elements = λ c differ. refl }

pub element_changed : (u : Tables) (s : Sym) (element : ℕ) → IsChangedAt s u (with_element u s element)
element_changed u s element = record { sizes = refl; tuples = λ r differ tuple. refl; elements = λ c differ. value-with_element_other u s element c differ }

-- a structure of the vocabulary
pub record IsOf (voc : Vocabulary) (u : Tables) : Type 0 where
  pub sound : IsSound u
  pub vocabulary : HasVocabulary voc u

module _ (voc : Vocabulary) (u : Tables) (is : IsOf voc u) (s : Sym) where
  pub tuples_of_it : (sorts : List SortId) → relation_in voc.relations s ≡ Some sorts → (tuples : List (List ℕ)) → All (IsInRange u.sizes sorts) tuples → IsOf voc (with_tuples u s tuples)
  tuples_of_it sorts known tuples inside =
      record {
        sound = with_tuples_is_sound u s tuples u.sizes _ u.constants is.sound (λ x e. subst (λ z. All (IsInRange u.sizes z) tuples) (one sorts x (sym (sorts-in_vocabulary voc u is.vocabulary s ∙ known) ∙ e)) inside) refl refl refl;
        vocabulary = vocabulary-with_tuples voc u s tuples is.vocabulary;
      }
    where
      one : (x y : List SortId) → Some x ≡ Some y → x ≡ y
      one x y e = cc

  pub tuples_are_held : (sorts : List SortId) → relation_in voc.relations s ≡ Some sorts → (tuples : List (List ℕ)) (tuple : List ℕ) → has_tuple tuples tuple ≡ holds_in (with_tuples u s tuples) s tuple
  tuples_are_held sorts known tuples tuple = sym (holds-with_tuples u s tuples sorts (sorts-in_vocabulary voc u is.vocabulary s ∙ known) tuple)

  pub element_of_it : (sort : SortId) → constant_in voc.constants s ≡ Some sort → (element : ℕ) → element < size_of u.sizes sort → IsOf voc (with_element u s element)
  element_of_it sort known element below =
      record {
        sound = with_element_is_sound u s element u.sizes u.relations _ is.sound (λ x e. subst (λ z. element < size_of u.sizes z) (one sort x (sym (sort-in_vocabulary voc u is.vocabulary s ∙ known) ∙ e)) below) refl refl refl;
        vocabulary = vocabulary-with_element voc u s element is.vocabulary;
      }
    where
      one : (x y : SortId) → Some x ≡ Some y → x ≡ y
      one x y e = cc

  pub element_is_value : (sort : SortId) → constant_in voc.constants s ≡ Some sort → (element : ℕ) → value_in (with_element u s element) s ≡ element
  element_is_value sort known element = value-with_element u s element sort (sort-in_vocabulary voc u is.vocabulary s ∙ known)
