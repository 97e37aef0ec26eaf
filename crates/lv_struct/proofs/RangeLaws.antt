-- In a structure as data each relation has tuples in range alone.
use Rattle.std.proofs.Common.{◌≡◌, ℕ, true, List, [], ◌∷◌, map, Some, sym, ap, subst, ◌∙◌, ⊎_elim}
use Rattle.std.specs.List.{All}
use Rattle.std.proofs.lemmas.Bool.{cases_Bool, cond-false, cond-true, false≢true, or_cases}
use Rattle.std.proofs.lemmas.List.Elements.{All-head, All-tail}
use Rattle.lv_formula.specs.declared.symbols.SortId.{SortId}
use Rattle.lv_formula.specs.declared.symbols.Sym.{Sym}
use Rattle.lv_formula.specs.declared.vocabulary.Vocabulary.{Vocabulary}
use Rattle.lv_formula.specs.Symbols.{sym_eq}
use Rattle.lv_formula.specs.Vocabulary.{relation_in}
use Rattle.lv_formula.specs.Tuples.{has_tuple, tuple_eq}
use Rattle.lv_struct.specs.declared.tables.Relation.{Relation}
use Rattle.lv_struct.specs.Tables.{HasVocabulary, IsInRange, IsRelationSound, IsSound, Tables, holds_in, relation_shape, tuples_in}
use Rattle.lv_struct.proofs.CompareLaws.{tuple_tells}

-- what holds of all listed tuples holds of one that is there
pub of_each : (P : List ℕ → Type 0) (ts : List (List ℕ)) → All P ts → (tuple : List ℕ) → has_tuple ts tuple ≡ true → P tuple
of_each P [] all tuple h = absurd (false≢true h)
of_each P (t ∷ ts) all tuple h = ⊎_elim
    (λ e. subst P ((tuple_tells t tuple).0 e) (All-head P t ts all))
    (λ e. of_each P ts (All-tail P t ts all) tuple e)
    (or_cases (tuple_eq t tuple) (has_tuple ts tuple) h)

in_table : (sizes : List ℕ) (rs : List Relation) → All (IsRelationSound sizes) rs → (r : Sym) (sorts : List SortId) → relation_in (map relation_shape rs) r ≡ Some sorts
    → (tuple : List ℕ) → has_tuple (tuples_in rs r) tuple ≡ true → IsInRange sizes sorts tuple
in_table sizes [] all r sorts is tuple h = cc
in_table sizes (x ∷ xs) all r sorts is tuple h = ⊎_elim
    (λ e. let its : Some x.sorts ≡ Some sorts = sym (cond-true (sym_eq x.sym r) (Some x.sorts) (relation_in (map relation_shape xs) r) e) ∙ is in
    let same : x.sorts ≡ sorts = cc in
    subst (λ ss. IsInRange sizes ss tuple) same
    (of_each (IsInRange sizes x.sorts) x.tuples (All-head (IsRelationSound sizes) x xs all) tuple (ap (λ ts. has_tuple ts tuple) (sym (cond-true (sym_eq x.sym r) x.tuples (tuples_in xs r) e)) ∙ h)))
    (λ e. in_table sizes xs (All-tail (IsRelationSound sizes) x xs all) r sorts
    (sym (cond-false (sym_eq x.sym r) (Some x.sorts) (relation_in (map relation_shape xs) r) e) ∙ is) tuple
    (ap (λ ts. has_tuple ts tuple) (sym (cond-false (sym_eq x.sym r) x.tuples (tuples_in xs r) e)) ∙ h))
    (cases_Bool (sym_eq x.sym r))

pub tuples_in_range : (voc : Vocabulary) (w : Tables) → IsSound w → HasVocabulary voc w → (r : Sym) (sorts : List SortId) → relation_in voc.relations r ≡ Some sorts
    → (tuple : List ℕ) → holds_in w r tuple ≡ true → IsInRange w.sizes sorts tuple
tuples_in_range voc w sound has r sorts is tuple h = in_table w.sizes w.relations sound.relations r sorts (ap (λ rs. relation_in rs r) has.relations ∙ is) tuple h
