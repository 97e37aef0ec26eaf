-- What is found in a scope is the number of a variable, with its sort.
use Rattle.std.proofs.Common.{◌≡◌, ℕ, suc, ◌+◌, ◌<◌, ◌≤◌, Bool, true, false, List, [], ◌∷◌, ◌++◌, length, get_or, take, map, reverse, Option, Some, None, is_some, refl, sym, ap, ◌∙◌, add-one}
use Rattle.std.proofs.lemmas.List.{map_more, take_all, reverse-append, append-nil, map-append}
use Rattle.lv_formula.specs.declared.symbols.SortId.{SortId}
use Rattle.lv_system.specs.Names.{same_text}
use Rattle.lv_grammar.specs.Words.{Variable, variable_number}
use Rattle.lv_grammar.specs.Rules.{sort_at}
use Rattle.lv_words.specs.declared.scope.Parameter.{Parameter}
use Rattle.std.proofs.lemmas.Grind.{reverse_onto}
use Rattle.lv_words.specs.Scopes.{found_in, found_within, variable_seen, variables_seen}

abbrev pub with_sort : List Variable → Option ℕ → Option (ℕ × SortId)
with_sort vs None = None
with_sort vs (Some i) = Some (i, sort_at vs i)

step_by : (b : Bool) (v : Variable) (vs : List Variable) (name : List ℕ) (n : Option ℕ) → same_text v.name name ≡ b → variable_number vs name ≡ n
    → found_within v (with_sort vs n) name ≡ with_sort (v ∷ vs) (variable_number (v ∷ vs) name)
step_by true v vs name n e m = rw e refl
step_by false v vs name None e m = rw (e, m) refl
step_by false v vs name (Some i) e m = rw (e, m) (ap (λ (k : ℕ). Some (k, sort_at vs i)) (add-one i))

pub found_number : (vs : List Variable) (name : List ℕ) → found_in vs name ≡ with_sort vs (variable_number vs name)
found_number [] name = refl
found_number (v ∷ vs) name = ap (λ (f : Option (ℕ × SortId)). found_within v f name) (found_number vs name) ∙ step_by (same_text v.name name) v vs name (variable_number vs name) refl refl

some_with : (vs : List Variable) (n : Option ℕ) → is_some (with_sort vs n) ≡ is_some n
some_with vs None = refl
some_with vs (Some i) = refl

pub found_some : (vs : List Variable) (name : List ℕ) → is_some (found_in vs name) ≡ is_some (variable_number vs name)
found_some vs name = ap is_some (found_number vs name) ∙ some_with vs (variable_number vs name)

-- the scope grows by the next of the listed variables
pub listed_next : (xs : List Parameter) (vs : List Variable) (i : ℕ) (d : Parameter) → i < length xs
    → reverse (variables_seen (take (i + 1) xs)) ++ vs ≡ variable_seen (get_or xs i d) ∷ (reverse (variables_seen (take i xs)) ++ vs)
listed_next xs vs i d h =
    ap (λ (ys : List Variable). reverse ys ++ vs) (map_more variable_seen xs i d h)
    ∙ ap (λ (ys : List Variable). ys ++ vs) (reverse-append (variables_seen (take i xs)) (variable_seen (get_or xs i d) ∷ []))

pub find_next : (xs : List Parameter) (vs : List Variable) (i : ℕ) (d : Parameter) (name : List ℕ) (found next : Option (ℕ × SortId)) → i < length xs
    → next ≡ found_within (variable_seen (get_or xs i d)) found name → found ≡ found_in (reverse (variables_seen (take i xs)) ++ vs) name
    → next ≡ found_in (reverse (variables_seen (take (i + 1) xs)) ++ vs) name
find_next xs vs i d name found next h n so_far = rw (listed_next xs vs i d h, ← so_far) n

pub find_all : (xs : List Parameter) (vs : List Variable) (i : ℕ) (name : List ℕ) (found : Option (ℕ × SortId)) → length xs ≤ i
    → found ≡ found_in (reverse (variables_seen (take i xs)) ++ vs) name → found ≡ found_in (reverse (variables_seen xs) ++ vs) name
find_all xs vs i name found h so_far = rw (take_all i xs h) at so_far
