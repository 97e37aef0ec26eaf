-- The vocabulary of a system's own symbols is sound, and its symbols have words.
use Rattle.std.proofs.Common.{◌≡◌, ℕ, suc, ◌+◌, ◌<◌, ◌≤◌, true, leb, List, [], ◌∷◌, ◌++◌, length, map, All, IsPermutation, refl, subst, arith}
use Rattle.std.proofs.lemmas.Bool.{and_parts, leb-true}
use Rattle.std.proofs.lemmas.List.{append-nil}
use Rattle.std.proofs.lemmas.List.Elements.{All-cons, All-nil}
use Rattle.std.proofs.lemmas.List.Sorted.{IsPermutation-cons, IsPermutation-middle, IsPermutation-refl, IsPermutation-trans}
use Rattle.lv_formula.specs.declared.symbols.Sym.TheVariants.{Own}
use Rattle.lv_formula.specs.declared.formula.Formula.TheVariants.{True}
use Rattle.lv_formula.specs.declared.vocabulary.RelShape.{RelShape}
use Rattle.lv_formula.specs.Vocabulary.{IsSound}
use Rattle.lv_struct.proofs.Tabulate.{IsProper}
use Rattle.lv_system.specs.declared.parts.Parts.{Parts}
use Rattle.lv_system.specs.declared.parts.Shape.{Shape}
use Rattle.lv_system.specs.declared.parts.Shape.TheVariants.{Relation, Constant}
use Rattle.lv_system.specs.declared.parts.Symbol.{Symbol}
use Rattle.lv_system.specs.Fits.{fits_parts, shape_fits, shapes_fit}
use Rattle.lv_system.specs.Vocabularies.{any_symbol, constant_if, constant_sort, constants_from, names_from, own_vocabulary, relation_if, relation_sorts, relations_from}
use Rattle.lv_system.proofs.FitsFacts.{fitting, tests}
use Rattle.lv_labels.specs.Problem.{Problem}
use Rattle.lv_temporal.proofs.Differ.{AreSortsThere, state-proper}
use Rattle.lv_temporal.proofs.SortsThere.{sorts_there}
use Rattle.lv_grammar.specs.HaveWords.{has_word}
use Rattle.lv_grammar.specs.StructureLaws.{VocabularyHasWords}
use Rattle.lv_grammar.proofs.SymbolWords.{have_names, own_has_word}

-- ---- the symbols in order

permuted : (n : ℕ) (ss : List Symbol)
    → IsPermutation (map (λ r. r.sym) (relations_from any_symbol Own n ss) ++ map (λ c. c.sym) (constants_from any_symbol Own n ss)) (names_from any_symbol Own n ss)
permuted n [] = IsPermutation-refl []
permuted n (s ∷ ss) = by s.shape (permuted (suc n) ss)
  where
    by : (shape : Shape) → IsPermutation (map (λ r. r.sym) (relations_from any_symbol Own (suc n) ss) ++ map (λ c. c.sym) (constants_from any_symbol Own (suc n) ss)) (names_from any_symbol Own (suc n) ss)
        → IsPermutation (map (λ r. r.sym) (relation_if true (Own n) (relation_sorts shape) (relations_from any_symbol Own (suc n) ss)) ++ map (λ c. c.sym) (constant_if true (Own n) (constant_sort shape) (constants_from any_symbol Own (suc n) ss)))
        (Own n ∷ names_from any_symbol Own (suc n) ss)
    by (Relation sorts) rest = IsPermutation-cons (Own n) _ _ rest
    by (Constant sort) rest = IsPermutation-trans _ _ _
        (IsPermutation-middle (map (λ r. r.sym) (relations_from any_symbol Own (suc n) ss)) (Own n) (map (λ c. c.sym) (constants_from any_symbol Own (suc n) ss))) (IsPermutation-cons (Own n) _ _ rest)

-- ---- at most four arguments

abbrev IsNarrow : RelShape → Type 0
IsNarrow r = length r.sorts ≤ 4

narrow : (count n : ℕ) (ss : List Symbol) → shapes_fit count ss ≡ true → All IsNarrow (relations_from any_symbol Own n ss)
narrow count n [] h = All-nil IsNarrow
narrow count n (s ∷ ss) h =
    let both = and_parts (shape_fits count s.shape) (shapes_fit count ss) h in
    by s.shape both.0 (narrow count (suc n) ss both.1)
  where
    by : (shape : Shape) → shape_fits count shape ≡ true → All IsNarrow (relations_from any_symbol Own (suc n) ss)
        → All IsNarrow (relation_if true (Own n) (relation_sorts shape) (relations_from any_symbol Own (suc n) ss))
    by (Relation sorts) fits rest = All-cons IsNarrow _ _ (leb-true (length sorts) 4 (and_parts (leb (length sorts) 4) _ fits).0) rest
    by (Constant sort) fits rest = rest

each_both : {X : Type 0} (P Q : X → Type 0) (xs : List X) → All P xs → All Q xs → All (λ x. P x × Q x) xs
each_both P Q xs a b i d lt = (a i d lt, b i d lt)

-- ---- the symbols differ, as they do among those of a run without labels and witnesses

module _ (p : Parts) (fits : fits_parts p ≡ true) where
  abbrev bare : Problem
  bare = record { parts = record p { witnesses = [] }; denied = True; choices = []; labels = []; justice = [] }

  there : AreSortsThere bare
  there = let all = sorts_there p (fitting p fits) in record {
    params = all.params;
    relations = all.relations;
    constants = all.constants;
    witnesses = λ k lt. absurd (omega (arith, lt));
    labels = λ k lt. absurd (omega (arith, lt));
    justice = λ k lt. absurd (omega (arith, lt));
  }

  proper : IsProper (own_vocabulary p)
  proper =
      let it = state-proper bare there in
      let relations = append-nil (relations_from any_symbol Own 0 p.symbols) in
      let constants = append-nil (constants_from any_symbol Own 0 p.symbols) in
      subst IsProper (λ i. record { sorts = length p.sorts; relations = relations i; constants = constants i; order = names_from any_symbol Own 0 p.symbols })
      (record { differ = it.differ; relations = it.relations; constants = it.constants })

  pub own_sound : IsSound (own_vocabulary p)
  own_sound = record {
    differ = proper.differ;
    relations = each_both IsNarrow (λ r. All (λ s. s.0 < length p.sorts) r.sorts) (own_vocabulary p).relations (narrow (length p.sorts) 0 p.symbols (tests p fits).shapes) proper.relations;
    constants = proper.constants;
    order = permuted 0 p.symbols;
  }

  have_words : (n : ℕ) (ss : List Symbol) → n + length ss ≤ length p.symbols → All (λ s. has_word p s ≡ true) (names_from any_symbol Own n ss)
  have_words n [] few = All-nil (λ s. has_word p s ≡ true)
  have_words n (s ∷ ss) few = All-cons (λ s. has_word p s ≡ true) (Own n) (names_from any_symbol Own (suc n) ss)
      (own_has_word p (have_names p (tests p fits).names) n (omega (arith, few))) (have_words (suc n) ss (omega (arith, few)))

  pub own_words : VocabularyHasWords p (own_vocabulary p)
  own_words = record { symbols = have_words 0 p.symbols (omega arith); sorts = refl }
