-- The words of the monitored structure have no next value of a label.
use Rattle.std.proofs.Common.{◌≡◌, ℕ, List, [], Option, Some, None, sym, ap, ◌∙◌}
use Rattle.std.proofs.lemmas.List.{append-nil}
use Rattle.lv_formula.specs.declared.symbols.SortId.{SortId}
use Rattle.lv_formula.specs.declared.symbols.Sym.TheVariants.{Next}
use Rattle.lv_formula.specs.Vocabulary.{relation_in}
use Rattle.lv_labels.specs.Problem.{Problem}
use Rattle.lv_labels.specs.Vocabularies.{catch_vocabulary}
use Rattle.lv_temporal.proofs.Found.{catch-not_next}
use Rattle.lv_temporal.proofs.Words.{relation-skip}

pub no_next : (q : Problem) (n : ℕ) (sorts : List SortId) → relation_in (catch_vocabulary q).relations (Next n) ≡ Some sorts → ⊥
no_next q n sorts is =
    let absent : relation_in (catch_vocabulary q).relations (Next n) ≡ None = ap (λ rs. relation_in rs (Next n)) (sym (append-nil (catch_vocabulary q).relations)) ∙ relation-skip (catch_vocabulary q).relations [] (Next n) (catch-not_next q) in
    let clash : ◌≡◌ {A = Option (List SortId)} None (Some sorts) = sym absent ∙ is in
    cc
