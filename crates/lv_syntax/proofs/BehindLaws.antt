-- Reading behind what is done is reading, with what is done in front.
use Rattle.std.proofs.Common.{◌≡◌, ℕ, ◌+◌, leb, List, [], ◌∷◌, ◌++◌, length, map, reverse, Result, Ok, Err, refl, sym, ap, ap₂, ◌∙◌, arith}
use Rattle.std.proofs.lemmas.List.{reverse-append}
use Rattle.lv_tree.specs.declared.tree.Tree.{Tree}
use Rattle.lv_formula.specs.declared.symbols.SortId.{SortId}
use Rattle.lv_grammar.specs.Words.{Variable}
use Rattle.lv_grammar.specs.Known.{Known}
use Rattle.lv_fault.specs.declared.fault.Kind.TheVariants.{Missing, TooMany}
use Rattle.lv_fault.specs.declared.fault.SyntaxFault.{SyntaxFault}
use Rattle.lv_fault.specs.Given.{◌>>=◌, fail, fail_if, place_of}
use Rattle.lv_fault.specs.Behind.{behind}
use Rattle.lv_fault.proofs.BehindLaws.{nothing_done, nothing_more, one_more, step_behind}
use Rattle.lv_grammar.specs.ReadWords.{new_variable, sort_in}
use Rattle.lv_grammar.specs.ReadItems.{Declared, scope_of, sorts_from, pairs_from, arguments_from}
use Rattle.lv_syntax.specs.Behind.{sorts_behind, parameter_in, pairs_behind, arguments_behind}

steps : {A B : Type 0} (r : Result B SyntaxFault) (f g : B → Result A SyntaxFault) → ((x : B) → f x ≡ g x) → (r >>= f) ≡ (r >>= g)
steps (Ok x) f g e = e x
steps (Err z) f g e = refl

one_longer : {A : Type 0} (done : List A) (x : A) → length (done ++ x ∷ []) ≡ length done + 1
one_longer [] x = refl
one_longer (y ∷ ys) x = let e = one_longer ys x in omega (arith, e)

sorts_front : (d : Known) (done : List SortId) (ts : List Tree) → sorts_behind d done ts ≡ behind done (sorts_from d (length done) ts)
unfolding sorts_behind sorts_from
sorts_front d done [] = sym (nothing_more done)
sorts_front d done (t ∷ ts) =
    steps (sort_in d t) _ _ (λ s. steps (fail_if (leb 4 (length done)) TooMany (place_of t)) _ _ (λ u. sorts_front d (done ++ s ∷ []) ts ∙ (ap (λ n. behind (done ++ s ∷ []) (sorts_from d n ts)) (one_longer done s)
    ∙ one_more done s (sorts_from d (length done + 1) ts))) ∙ sym (step_behind done (fail_if (leb 4 (length done)) TooMany (place_of t)) _)) ∙ sym (step_behind done (sort_in d t) _)

pub sorts_read : (d : Known) (ts : List Tree) → sorts_behind d [] ts ≡ sorts_from d 0 ts
sorts_read d ts = sorts_front d [] ts ∙ nothing_done (sorts_from d 0 ts)

last_first : {A : Type 0} (xs : List A) (x : A) → reverse (xs ++ x ∷ []) ≡ x ∷ reverse xs
last_first xs x = reverse-append xs (x ∷ [])

arguments_front : (vs done : List Variable) (ss : List SortId) (end : ℕ) (ts : List Tree) → arguments_behind vs done ss end ts ≡ behind done (arguments_from (reverse done ++ vs) ss end ts)
unfolding arguments_behind arguments_from
arguments_front vs done [] end [] = sym (nothing_more done)
arguments_front vs done [] end (t ∷ ts) = refl
arguments_front vs done (s ∷ ss) end [] = refl
arguments_front vs done (s ∷ ss) end (t ∷ ts) =
    steps (new_variable (reverse done ++ vs) t) _ _ (λ name. arguments_front vs (done ++ record { name = name; sort = s } ∷ []) ss end ts
    ∙ (ap (λ z. behind (done ++ record { name = name; sort = s } ∷ []) (arguments_from (z ++ vs) ss end ts)) (last_first done (record { name = name; sort = s }))
    ∙ one_more done (record { name = name; sort = s }) (arguments_from (record { name = name; sort = s } ∷ (reverse done ++ vs)) ss end ts)))
    ∙ sym (step_behind done (new_variable (reverse done ++ vs) t) _)

pub arguments_read : (vs : List Variable) (ss : List SortId) (end : ℕ) (ts : List Tree) → arguments_behind vs [] ss end ts ≡ arguments_from vs ss end ts
arguments_read vs ss end ts = arguments_front vs [] ss end ts ∙ nothing_done (arguments_from vs ss end ts)

map_last : {A B : Type 0} (f : A → B) (xs : List A) (x : A) → map f (xs ++ x ∷ []) ≡ map f xs ++ f x ∷ []
map_last f [] x = refl
map_last f (y ∷ ys) x = ap (λ z. f y ∷ z) (map_last f ys x)

scope_last : (done : List Declared) (x : Declared) → scope_of (done ++ x ∷ []) ≡ x.variable ∷ scope_of done
scope_last done x = ap reverse (map_last (λ y. y.variable) done x) ∙ last_first (map (λ y. y.variable) done) x.variable

parameter_step : {B : Type 0} (done : List Declared) (t : Tree) (f : List ℕ → Result B SyntaxFault)
    → (parameter_in done t >>= f) ≡ (new_variable (scope_of done) t >>= λ name. fail_if (leb 4 (length done)) TooMany (place_of t) >>= λ u. f name)
unfolding parameter_in
parameter_step done t f = go (new_variable (scope_of done) t) (fail_if (leb 4 (length done)) TooMany (place_of t)) where
  go : (r : Result (List ℕ) SyntaxFault) (q : Result (Unit {0}) SyntaxFault) → ((r >>= λ name. q >>= λ u. Ok name) >>= f) ≡ (r >>= λ name. q >>= λ u. f name)
  go (Ok name) (Ok u) = refl
  go (Ok name) (Err e) = refl
  go (Err e) q = refl

pairs_front : (d : Known) (done : List Declared) (end : ℕ) (ts : List Tree) → pairs_behind d done end ts ≡ behind done (pairs_from d (length done) (scope_of done) end ts)
unfolding pairs_behind pairs_from
pairs_front d done end [] = sym (nothing_more done)
pairs_front d done end (t ∷ []) =
    parameter_step done t (λ name. fail Missing end)
    ∙ (steps (new_variable (scope_of done) t) _ _ (λ name. sym (step_behind done (fail_if (leb 4 (length done)) TooMany (place_of t)) (λ u. fail Missing end))) ∙ sym (step_behind done (new_variable (scope_of done) t) _))
pairs_front d done end (t ∷ u ∷ ts) =
    parameter_step done t _
    ∙ (steps (new_variable (scope_of done) t) _ _ (λ name.
    steps (fail_if (leb 4 (length done)) TooMany (place_of t)) _ _ (λ z.
    steps (sort_in d u) _ _ (λ sort.
    pairs_front d (done ++ made name sort ∷ []) end ts
    ∙ (ap₂ (λ n vs. behind (done ++ made name sort ∷ []) (pairs_from d n vs end ts)) (one_longer done (made name sort)) (scope_last done (made name sort))
    ∙ one_more done (made name sort) (pairs_from d (length done + 1) ((made name sort).variable ∷ scope_of done) end ts)))
    ∙ sym (step_behind done (sort_in d u) _))
    ∙ sym (step_behind done (fail_if (leb 4 (length done)) TooMany (place_of t)) _))
    ∙ sym (step_behind done (new_variable (scope_of done) t) _)) where
      made : List ℕ → SortId → Declared
      made name sort = record { at = place_of t; variable = record { name = name; sort = sort } }

pub pairs_read : (d : Known) (end : ℕ) (ts : List Tree) → pairs_behind d [] end ts ≡ pairs_from d 0 [] end ts
pairs_read d end ts = pairs_front d [] end ts ∙ nothing_done (pairs_from d 0 [] end ts)
