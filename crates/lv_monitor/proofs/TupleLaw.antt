-- Formulas over a tuple's places.
use Rattle.std.proofs.Common.{◌≡◌, ℕ, ◌-◌, ◌≤◌, Bool, true, ◌&&◌, List, [], ◌∷◌, ◌++◌, length, get_or, reverse, refl, sym, ap, ap₂, ◌∙◌, arith}
use Rattle.std.proofs.lemmas.Bool.{and_parts, false≢true}
use Rattle.std.proofs.lemmas.List.{append-nil, get_or-append_right, length-reverse}
use Rattle.lv_formula.specs.declared.symbols.SortId.{SortId}
use Rattle.lv_formula.specs.declared.symbols.Sym.{Sym}
use Rattle.lv_formula.specs.declared.symbols.Sym.TheVariants.{Touched}
use Rattle.lv_formula.specs.declared.terms.Term.{Term}
use Rattle.lv_formula.specs.declared.terms.Term.TheVariants.{Var}
use Rattle.lv_formula.specs.declared.formula.Formula.{Formula}
use Rattle.lv_formula.proofs.Folds.{fold_at-Atom}
use Rattle.lv_formula.specs.Meaning.{Meaning, in_range, is_element}
use Rattle.lv_formula.specs.Tuples.{over}
use Rattle.lv_formula.specs.Truth.{all_true_in, truth_in, truth_step, value_of}
use Rattle.lv_labels.specs.Problem.{tuple_variables}
use Rattle.lv_labels.proofs.Ranges.{over_length}
use Rattle.lv_labels.proofs.TupleVariables.{tuple_read}
use Rattle.lv_labels.proofs.OverTuples.{reversed}
use Rattle.lv_labels.specs.Monitor.{is_touched}
use Rattle.lv_monitor.specs.Updates.{at_places, itself, touched_term}

module _ (m : Meaning) where
  -- a relation of one argument
  pub alone : (s : SortId) (tuple : List ℕ) → in_range m (s ∷ []) tuple ≡ true → (f g : List ℕ → Bool) → ((x : ℕ) → is_element m s x ≡ true → f (x ∷ []) ≡ g (x ∷ [])) → f tuple ≡ g (reverse tuple)
  alone s [] inside f g h = absurd (false≢true inside)
  alone s (x ∷ []) inside f g h = h x (and_parts (is_element m s x) true inside).0
  alone s (x ∷ (y ∷ ys)) inside f g h = absurd (false≢true (and_parts (is_element m s x) (in_range m [] (y ∷ ys)) inside).1)

  -- the relation for the tuple itself
  pub itself_true : (s : Sym) (sorts : List SortId) (tuple : List ℕ) → in_range m sorts tuple ≡ true → truth_in m (itself s sorts) (reverse tuple) ≡ m.holds s tuple
  itself_true s sorts tuple inside = fold_at-Atom Bool (List ℕ) (truth_step m) s (tuple_variables (length sorts)) (reverse tuple)
      ∙ ap (m.holds s) (tuple_read m (length sorts) tuple (over_length (is_element m) sorts tuple inside))

  -- the first element of a tuple is the value of its variable
  first_value : (x : ℕ) (xs rest : List ℕ) (n : ℕ) → length xs ≡ n → get_or (reverse xs ++ (x ∷ rest)) n 0 ≡ x
  first_value x xs rest n e =
      let le : n ≤ n = omega arith in
      get_or-append_right (reverse xs) (x ∷ rest) n n 0 (length-reverse xs ∙ e) le
      ∙ (let z : n - n ≡ 0 = omega arith in ap (λ k. get_or (x ∷ rest) k 0) z)

  module _ (f : SortId → Term → Formula) (set : SortId → ℕ → Bool)
      (says : (s : SortId) (t : Term) (env : List ℕ) → is_element m s (value_of m env t) ≡ true → truth_in m (f s t) env ≡ set s (value_of m env t)) where
    places : (sorts : List SortId) (tuple rest : List ℕ) → in_range m sorts tuple ≡ true → all_true_in m (at_places f sorts) (reverse tuple ++ rest) ≡ over set sorts tuple
    places [] [] rest inside = refl
    places [] (x ∷ xs) rest inside = absurd (false≢true inside)
    places (s ∷ ss) [] rest inside = absurd (false≢true inside)
    places (s ∷ ss) (x ∷ xs) rest inside =
        let both = and_parts (is_element m s x) (in_range m ss xs) inside in
        let value : get_or (reverse xs ++ (x ∷ rest)) (length ss) 0 ≡ x = first_value x xs rest (length ss) (over_length (is_element m) ss xs both.1) in
        ap (all_true_in m (at_places f (s ∷ ss))) (reversed x xs rest)
        ∙ ap₂ (λ a b. a && b)
        (says s (Var (length ss)) (reverse xs ++ (x ∷ rest)) (ap (is_element m s) value ∙ both.0) ∙ ap (set s) value)
        (places ss xs (x ∷ rest) both.1)

    -- each place of the tuple is in the set exactly where the formulas say so
    pub places_true : (sorts : List SortId) (tuple : List ℕ) → in_range m sorts tuple ≡ true → all_true_in m (at_places f sorts) (reverse tuple) ≡ over set sorts tuple
    places_true sorts tuple inside = ap (all_true_in m (at_places f sorts)) (sym (append-nil (reverse tuple))) ∙ places sorts tuple [] inside

  pub touched_term-true : (s : SortId) (t : Term) (env : List ℕ) → truth_in m (touched_term s t) env ≡ is_touched m s (value_of m env t)
  touched_term-true s t env = fold_at-Atom Bool (List ℕ) (truth_step m) (Touched s) (t ∷ []) env
