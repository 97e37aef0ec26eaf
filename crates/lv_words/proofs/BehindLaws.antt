-- Reading behind what is done is reading, with what is done in front.
use Rattle.std.proofs.Common.{◌≡◌, ℕ, ◌+◌, leb, List, [], ◌∷◌, ◌++◌, length, map, reverse, Result, Ok, Err, refl, sym, ap, ap₂, ◌∙◌, arith}
use Rattle.std.proofs.lemmas.List.{reverse-append}
use Rattle.lv_tree.specs.declared.tree.Tree.{Tree}
use Rattle.lv_formula.specs.declared.symbols.SortId.{SortId}
use Rattle.lv_formula.specs.declared.terms.Term.{Term}
use Rattle.lv_grammar.specs.Words.{Variable}
use Rattle.lv_grammar.specs.Known.{Known}
use Rattle.lv_grammar.specs.declared.reading.Role.{Role}
use Rattle.lv_fault.specs.declared.fault.Kind.TheVariants.{Missing, TooMany}
use Rattle.lv_fault.specs.declared.fault.SyntaxFault.{SyntaxFault}
use Rattle.lv_fault.specs.Given.{◌>>=◌, fail, fail_if, place_of}
use Rattle.lv_fault.specs.Behind.{behind}
use Rattle.lv_fault.proofs.BehindLaws.{nothing_done, nothing_more, one_more, step_behind}
use Rattle.lv_grammar.specs.ReadWords.{new_variable, sort_in}
use Rattle.lv_grammar.specs.ReadFormulas.{term_of_sort, terms_in}
use Rattle.lv_words.specs.Behind.{terms_behind}

steps : {A B : Type 0} (r : Result B SyntaxFault) (f g : B → Result A SyntaxFault) → ((x : B) → f x ≡ g x) → (r >>= f) ≡ (r >>= g)
steps (Ok x) f g e = e x
steps (Err z) f g e = refl

terms_front : (d : Known) (role : Role) (vs : List Variable) (done : List Term) (ss : List SortId) (ts : List Tree) → terms_behind d role vs done ss ts ≡ behind done (terms_in d role vs ss ts)
unfolding terms_behind terms_in
terms_front d role vs done [] [] = sym (nothing_more done)
terms_front d role vs done [] (t ∷ ts) = sym (nothing_more done)
terms_front d role vs done (s ∷ ss) [] = sym (nothing_more done)
terms_front d role vs done (s ∷ ss) (t ∷ ts) =
    steps (term_of_sort d role vs s t) _ _ (λ x. terms_front d role vs (done ++ x ∷ []) ss ts ∙ one_more done x (terms_in d role vs ss ts)) ∙ sym (step_behind done (term_of_sort d role vs s t) _)

pub terms_read : (d : Known) (role : Role) (vs : List Variable) (ss : List SortId) (ts : List Tree) → terms_behind d role vs [] ss ts ≡ terms_in d role vs ss ts
terms_read d role vs ss ts = terms_front d role vs [] ss ts ∙ nothing_done (terms_in d role vs ss ts)
