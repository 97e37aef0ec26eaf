-- Reading behind what is done is reading, with what is done in front.
use Rattle.std.proofs.Common.{◌≡◌, List, [], ◌∷◌, ◌++◌, Result, Ok, Err, refl, sym, ap, ◌∙◌, append_assoc}
use Rattle.std.proofs.lemmas.List.{append-nil}
use Rattle.lv_fault.specs.declared.fault.SyntaxFault.{SyntaxFault}
use Rattle.lv_fault.specs.declared.fault.ReadText.{ReadText}
use Rattle.lv_fault.specs.declared.fault.ReadText.TheVariants.{Refused, Memory}
use Rattle.lv_fault.specs.Given.{◌>>=◌, Fails}
use Rattle.lv_fault.specs.Behind.{behind}

pub one_more : {A : Type 0} (done : List A) (x : A) (r : Result (List A) SyntaxFault) → behind (done ++ x ∷ []) r ≡ behind done (r >>= λ xs. Ok (x ∷ xs))
one_more done x (Ok xs) = ap Ok (append_assoc done (x ∷ []) xs)
one_more done x (Err e) = refl

pub nothing_more : {A : Type 0} (done : List A) → behind done (Ok []) ≡ Ok done
nothing_more done = ap Ok (append-nil done)

pub nothing_done : {A : Type 0} (r : Result (List A) SyntaxFault) → behind [] r ≡ r
nothing_done (Ok xs) = refl
nothing_done (Err e) = refl

-- a step that gives something, and a step that fails
pub goes_on : {A B : Type 0} (r : Result A SyntaxFault) (f : A → Result B SyntaxFault) (x : A) (total : Result B SyntaxFault) → r ≡ Ok x → (r >>= f) ≡ total → f x ≡ total
goes_on r f x total e so_far = sym (ap (λ s. s >>= f) e) ∙ so_far

pub stops : {A B : Type 0} (e : ReadText) (r : Result A SyntaxFault) (f : A → Result B SyntaxFault) (total : Result B SyntaxFault) → Fails e r → (r >>= f) ≡ total → Fails e total
stops Memory r f total h so_far = tt
stops (Refused z) r f total h so_far = sym so_far ∙ ap (λ s. s >>= f) h

pub step_behind : {A B : Type 0} (done : List A) (r : Result B SyntaxFault) (f : B → Result (List A) SyntaxFault) → behind done (r >>= f) ≡ (r >>= λ x. behind done (f x))
step_behind done (Ok x) f = refl
step_behind done (Err e) f = refl
