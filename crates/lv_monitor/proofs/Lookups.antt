-- What a symbol becomes by updates that are made of a vocabulary.
use Rattle.std.proofs.Common.{◌≡◌, ℕ, Bool, true, false, cond, List, [], ◌∷◌, ◌++◌, Option, Some, None, refl, sym, ap, ◌∙◌, ⊎_elim}
use Rattle.std.proofs.lemmas.Bool.{cases_Bool, cond-true, cond-false}
use Rattle.lv_formula.specs.declared.symbols.SortId.{SortId}
use Rattle.lv_formula.specs.declared.symbols.Sym.{Sym}
use Rattle.lv_formula.specs.declared.symbols.Sym.TheVariants.{Own, Witness, Label, Frozen, Saved, Touched, Kept, Due, Copy, CopyLabel, Next, Param}
use Rattle.lv_formula.specs.declared.terms.Term.{Term}
use Rattle.lv_formula.specs.declared.terms.Term.TheVariants.{Const}
use Rattle.lv_formula.specs.declared.update.Update.{Update}
use Rattle.lv_formula.specs.declared.update.Update.TheVariants as update
use Rattle.lv_formula.specs.declared.vocabulary.RelShape.{RelShape}
use Rattle.lv_formula.specs.declared.vocabulary.ConShape.{ConShape}
use Rattle.lv_formula.specs.declared.formula.Formula.{Formula}
use Rattle.lv_formula.specs.Symbols.{sym_eq}
use Rattle.lv_formula.specs.Vocabulary.{constant_in, relation_in}
use Rattle.lv_formula.proofs.SymbolLaws.{sym_eq-refl, sym_eq-true}
use Rattle.lv_formula.specs.Updated.{body_in, term_in}
use Rattle.lv_monitor.specs.Updates.{copies_of, updates_of, with_copy}

module _ (keep : Sym → Bool) (body : Sym → List SortId → Formula) (more : List Update) (s : Sym) where
  abbrev made : List RelShape → List Update
  made rs = updates_of keep body rs ++ more

  first : (r : RelShape) (rs : List RelShape) (b c : Bool) → keep r.sym ≡ b → sym_eq r.sym s ≡ c
      → body_in (made (r ∷ rs)) s ≡ cond b (cond c (Some (body r.sym r.sorts)) (body_in (made rs) s)) (body_in (made rs) s)
  first r rs b c k e = ap (λ x. body_in (cond x (update.Relation r.sym r.sorts (body r.sym r.sorts) ∷ updates_of keep body rs) (updates_of keep body rs) ++ more) s) k ∙ by b
    where
      by : (b : Bool) → body_in (cond b (update.Relation r.sym r.sorts (body r.sym r.sorts) ∷ updates_of keep body rs) (updates_of keep body rs) ++ more) s ≡ cond b (cond c (Some (body r.sym r.sorts)) (body_in (made rs) s)) (body_in (made rs) s)
      by true = ap (λ x. cond x (Some (body r.sym r.sorts)) (body_in (made rs) s)) e
      by false = refl

  mapped : Option (List SortId) → Option Formula
  mapped None = None
  mapped (Some ss) = Some (body s ss)

  -- a relation that passes the test becomes its body
  pub body_kept : keep s ≡ true → (rs : List RelShape) (sorts : List SortId) → relation_in rs s ≡ Some sorts → body_in (made rs) s ≡ Some (body s sorts)
  unfolding mapped
  body_kept k [] sorts is = cc
  body_kept k (r ∷ rs) sorts is = ⊎_elim
      (λ e. let same : r.sym ≡ s = sym_eq-true r.sym s e in
      let its : Some r.sorts ≡ Some sorts = sym (cond-true (sym_eq r.sym s) (Some r.sorts) (relation_in rs s) e) ∙ is in
      first r rs true true (ap keep same ∙ k) e ∙ ap (λ x. Some (body x r.sorts)) same ∙ ap mapped its)
      (λ e. let later : body_in (made rs) s ≡ Some (body s sorts) = body_kept k rs sorts (sym (cond-false (sym_eq r.sym s) (Some r.sorts) (relation_in rs s) e) ∙ is) in
      ⊎_elim (λ t. first r rs true false t e ∙ later) (λ t. first r rs false false t e ∙ later) (cases_Bool (keep r.sym)))
      (cases_Bool (sym_eq r.sym s))

  -- any other is left to what follows
  pub body_left : keep s ≡ false → (rs : List RelShape) → body_in (made rs) s ≡ body_in more s
  body_left k [] = refl
  body_left k (r ∷ rs) = ⊎_elim
      (λ e. first r rs false true (ap keep (sym_eq-true r.sym s e) ∙ k) e ∙ body_left k rs)
      (λ e. ⊎_elim (λ t. first r rs true false t e ∙ body_left k rs) (λ t. first r rs false false t e ∙ body_left k rs) (cases_Bool (keep r.sym)))
      (cases_Bool (sym_eq r.sym s))

  -- updates of relations say nothing of a constant
  pub term_left : (rs : List RelShape) → term_in (made rs) s ≡ term_in more s
  term_left [] = refl
  term_left (r ∷ rs) = ⊎_elim (λ t. rw (t) (term_left rs)) (λ t. rw (t) (term_left rs)) (cases_Bool (keep r.sym))

-- updates of constants say nothing of a relation
body_with_copy : (c s : Sym) (us : List Update) → body_in (with_copy c us) s ≡ body_in us s
body_with_copy (Own n) s us = refl
body_with_copy (Witness n) s us = refl
body_with_copy (Label n) s us = refl
body_with_copy Frozen s us = refl
body_with_copy Saved s us = refl
body_with_copy (Touched t) s us = refl
body_with_copy (Kept t) s us = refl
body_with_copy (Due n) s us = refl
body_with_copy (Copy n) s us = refl
body_with_copy (CopyLabel n) s us = refl
body_with_copy (Next n) s us = refl
body_with_copy (Param n) s us = refl

pub no_body : (cs : List ConShape) (s : Sym) → body_in (copies_of cs) s ≡ None
no_body [] s = refl
no_body (c ∷ cs) s = body_with_copy c.sym s (copies_of cs) ∙ no_body cs s

-- what the copies become by their update alone
abbrev pub copied : Sym → Option Term
copied (Copy n) = Some (Const (Own n))
copied sym = None

term_with_copy : (c s : Sym) (us : List Update) → sym_eq c s ≡ false → term_in (with_copy c us) s ≡ term_in us s
term_with_copy (Copy n) s us e = rw (e) refl
term_with_copy (Own n) s us e = refl
term_with_copy (Witness n) s us e = refl
term_with_copy (Label n) s us e = refl
term_with_copy Frozen s us e = refl
term_with_copy Saved s us e = refl
term_with_copy (Touched t) s us e = refl
term_with_copy (Kept t) s us e = refl
term_with_copy (Due n) s us e = refl
term_with_copy (CopyLabel n) s us e = refl
term_with_copy (Next n) s us e = refl
term_with_copy (Param n) s us e = refl

term_of_copy : (n : ℕ) (us : List Update) → term_in (with_copy (Copy n) us) (Copy n) ≡ Some (Const (Own n))
term_of_copy n us = rw (sym_eq-refl (Copy n)) refl

-- a copy that is there becomes its constant
pub copy_term : (cs : List ConShape) (n : ℕ) (sort : SortId) → constant_in cs (Copy n) ≡ Some sort → term_in (copies_of cs) (Copy n) ≡ Some (Const (Own n))
copy_term [] n sort is = cc
copy_term (c ∷ cs) n sort is = ⊎_elim
    (λ e. let same : c.sym ≡ Copy n = sym_eq-true c.sym (Copy n) e in ap (λ x. term_in (with_copy x (copies_of cs)) (Copy n)) same ∙ term_of_copy n (copies_of cs))
    (λ e. term_with_copy c.sym (Copy n) (copies_of cs) e ∙ copy_term cs n sort (sym (cond-false (sym_eq c.sym (Copy n)) (Some c.sort) (constant_in cs (Copy n)) e) ∙ is))
    (cases_Bool (sym_eq c.sym (Copy n)))

-- whatever is no copy stays
pub no_term : (cs : List ConShape) (s : Sym) → copied s ≡ None → term_in (copies_of cs) s ≡ None
no_term [] s h = refl
no_term (c ∷ cs) s h = ⊎_elim
    (λ e. let same : c.sym ≡ s = sym_eq-true c.sym s e in ap (λ x. term_in (with_copy x (copies_of cs)) s) same ∙ (plain s h ∙ no_term cs s h))
    (λ e. term_with_copy c.sym s (copies_of cs) e ∙ no_term cs s h)
    (cases_Bool (sym_eq c.sym s))
  where
    plain : (x : Sym) → copied x ≡ None → term_in (with_copy x (copies_of cs)) s ≡ term_in (copies_of cs) s
    plain (Copy n) e = cc
    plain (Own n) e = refl
    plain (Witness n) e = refl
    plain (Label n) e = refl
    plain Frozen e = refl
    plain Saved e = refl
    plain (Touched t) e = refl
    plain (Kept t) e = refl
    plain (Due n) e = refl
    plain (CopyLabel n) e = refl
    plain (Next n) e = refl
    plain (Param n) e = refl
