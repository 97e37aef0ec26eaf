-- The scope that the code keeps of parameters is the one that definitions read in.
use Rattle.std.proofs.Common.{◌≡◌, suc, List, [], ◌∷◌, ◌++◌, length, map, reverse, refl, sym, ap, ◌∙◌}
use Rattle.std.proofs.lemmas.List.{append-nil, map-append}
use Rattle.std.proofs.lemmas.Grind.{reverse_onto}
use Rattle.lv_formula.specs.declared.symbols.SortId.{SortId}
use Rattle.lv_grammar.specs.Words.{Variable}
use Rattle.lv_grammar.specs.ReadItems.{Declared, variables_of, scope_of, ranges_of}
use Rattle.lv_words.specs.declared.scope.Parameter.{Parameter}
use Rattle.lv_words.specs.Scopes.{variable_seen, variables_seen}
use Rattle.lv_syntax.specs.Parameters.{param_seen, params_seen}

variables_same : (xs : List Parameter) → variables_of (params_seen xs) ≡ variables_seen xs
variables_same [] = refl
variables_same (x ∷ xs) = ap (λ ys. variable_seen x ∷ ys) (variables_same xs)

-- the scope of parameters alone
pub scope_same : (xs : List Parameter) → scope_of (params_seen xs) ≡ reverse (variables_seen xs) ++ []
scope_same xs = ap (λ (ys : List Variable). reverse ys) (variables_same xs) ∙ sym (append-nil (reverse (variables_seen xs)))

pub params_more : (xs : List Parameter) (x : Parameter) → params_seen (xs ++ x ∷ []) ≡ params_seen xs ++ param_seen x ∷ []
params_more xs x = map-append param_seen xs (x ∷ [])

pub params_length : (xs : List Parameter) → length (params_seen xs) ≡ length xs
params_length [] = refl
params_length (x ∷ xs) = ap suc (params_length xs)

pub variables_more : (xs : List Parameter) (x : Parameter) → variables_seen (xs ++ x ∷ []) ≡ variables_seen xs ++ variable_seen x ∷ []
variables_more xs x = map-append variable_seen xs (x ∷ [])

sorts_same : (xs : List Declared) → map (λ v. v.sort) (variables_of xs) ≡ ranges_of xs
sorts_same [] = refl
sorts_same (x ∷ xs) = ap (λ ys. x.variable.sort ∷ ys) (sorts_same xs)

reversed : {A B : Type 0} (f : A → B) (xs : List A) → map f (reverse xs) ≡ reverse (map f xs)
reversed f [] = refl
reversed f (x ∷ xs) =
    ap (map f) (reverse_onto xs x []) ∙ (map-append f (reverse xs) (x ∷ []) ∙ (ap (λ ys. ys ++ f x ∷ []) (reversed f xs) ∙ sym (reverse_onto (map f xs) (f x) [])))

-- the sorts of the scope of parameters
pub scope_sorts : (xs : List Declared) → map (λ v. v.sort) (scope_of xs) ≡ reverse (ranges_of xs)
scope_sorts xs = reversed (λ v. v.sort) (variables_of xs) ∙ ap (λ (ys : List SortId). reverse ys) (sorts_same xs)
