-- Results that are found one after the other, as a loop finds them.
use Rattle.std.proofs.Common.{◌≡◌, List, [], ◌∷◌, ◌++◌, Result, Ok, Err, refl, sym, ap, ◌∙◌, append_assoc}
use Rattle.std.proofs.lemmas.List.{append-nil}
use Rattle.lv_fault.specs.declared.fault.SyntaxFault.{SyntaxFault}
use Rattle.lv_fault.specs.declared.fault.ReadText.{ReadText}
use Rattle.lv_fault.specs.declared.fault.ReadText.TheVariants.{Refused, Memory}
use Rattle.lv_fault.specs.Given.{Fails}

-- what is left to find, behind what was found
abbrev pub with_front : {A : Type 0} → List A → Result (List A) SyntaxFault → Result (List A) SyntaxFault
with_front done (Err e) = Err e
with_front done (Ok xs) = Ok (done ++ xs)

-- one more, and those behind it
abbrev pub then_all : {A : Type 0} → Result A SyntaxFault → Result (List A) SyntaxFault → Result (List A) SyntaxFault
then_all (Err e) others = Err e
then_all (Ok x) (Err e) = Err e
then_all (Ok x) (Ok xs) = Ok (x ∷ xs)

moves : {A : Type 0} (done : List A) (x : A) (others : Result (List A) SyntaxFault) → with_front (done ++ x ∷ []) others ≡ with_front done (then_all (Ok x) others)
moves done x (Err e) = refl
moves done x (Ok xs) = ap Ok (append_assoc done (x ∷ []) xs)

pub goes_on : {A : Type 0} (done : List A) (x : A) (one : Result A SyntaxFault) (all others total : Result (List A) SyntaxFault) → one ≡ Ok x → all ≡ then_all one others
    → with_front done all ≡ total → with_front (done ++ x ∷ []) others ≡ total
goes_on done x one all others total e split so_far = moves done x others ∙ (ap (λ o. with_front done (then_all o others)) (sym e) ∙ (ap (with_front done) (sym split) ∙ so_far))

pub stops : {A : Type 0} (e : ReadText) (done : List A) (one : Result A SyntaxFault) (all others total : Result (List A) SyntaxFault) → Fails e one → all ≡ then_all one others
    → with_front done all ≡ total → Fails e total
stops (Refused f) done one all others total e split so_far = sym so_far ∙ (ap (with_front done) split ∙ ap (λ o. with_front done (then_all o others)) e)
stops Memory done one all others total e split so_far = tt

pub is_done : {A : Type 0} (done : List A) (all total : Result (List A) SyntaxFault) → all ≡ Ok [] → with_front done all ≡ total → total ≡ Ok done
is_done done all total last so_far = sym so_far ∙ (ap (with_front done) last ∙ ap Ok (append-nil done))
