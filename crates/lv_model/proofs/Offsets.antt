-- The rows of the relations, one after the other.
use Rattle.std.proofs.Common.{◌≡◌, ℕ, zero, suc, ◌+◌, ◌-◌, ◌*◌, ◌<◌, List, [], ◌∷◌, ◌++◌, map, length, take, drop, get_or, Some, refl, sym, ap, ap₂, ◌∙◌, subst, append_assoc, arith, length-append}
use Rattle.std.specs.Prelude.{slice_get}
use Rattle.std.proofs.Math.Seq.{get_or-append_seam}
use Rattle.std.proofs.lemmas.Bool.{cases_lt}
use Rattle.std.proofs.lemmas.List.{drop_more, get_or_append_left, length-drop, take_all}
use Rattle.std.proofs.lemmas.Option.{get_or_from_slice_get, slice_get-get_or, slice_get_within}
use Rattle.lv_formula.specs.declared.symbols.SortId.{SortId}
use Rattle.lv_formula.specs.declared.vocabulary.RelShape.{RelShape}
use Rattle.lv_places.specs.Universes.{product}
use Rattle.lv_places.proofs.Tests.{either}
use Rattle.lv_model.specs.declared.assigned.Assigned.{Assigned}
use Rattle.lv_model.specs.declared.classes.Classes.{Classes}
use Rattle.lv_model.specs.declared.rows.Row.{Row}
use Rattle.lv_model.specs.Quotients.{classes_in, offsets_of, IsRow, AreRows}

-- the offsets of a sort and of those behind it
offsets_step : (n : SortId → ℕ) (all : List Classes) (ss : List SortId) (i : ℕ) (d : SortId) → i < length ss
    → offsets_of n all (drop i ss) ≡ map (λ place. place * product n (drop (i + 1) ss)) (classes_in all (get_or ss i d)).firsts
    ∷ offsets_of n all (drop (i + 1) ss)
offsets_step n all ss i d l = ap (offsets_of n all) (drop_more ss i d l)

-- the offsets of one sort more
pub offsets_pushed : (n : SortId → ℕ) (all : List Classes) (ss : List SortId) (i : ℕ) (done next : List (List ℕ)) (row firsts : List ℕ) (weight : ℕ)
    (d : SortId) → i < length ss → next ≡ done ++ row ∷ [] → row ≡ map (λ place. place * weight) firsts
    → firsts ≡ (classes_in all (get_or ss i d)).firsts → weight ≡ product n (take (length ss - (i + 1)) (drop (i + 1) ss))
    → done ++ offsets_of n all (drop i ss) ≡ offsets_of n all ss → next ++ offsets_of n all (drop (i + 1) ss) ≡ offsets_of n all ss
offsets_pushed n all ss i done next row firsts weight d l pushed is from times h =
    let rest = drop (i + 1) ss in
    let len = length-drop (i + 1) ss in
    let w : weight ≡ product n rest = times ∙ ap (product n) (take_all (length ss - (i + 1)) rest (omega arith)) in
    let r : row ≡ map (λ place. place * product n rest) (classes_in all (get_or ss i d)).firsts =
    is ∙ ap₂ (λ k (l : List ℕ). map (λ place. place * k) l) w from in
    ap (λ l. l ++ offsets_of n all rest) pushed ∙ append_assoc done (row ∷ []) (offsets_of n all rest) ∙ ap (λ x. done ++ x ∷ offsets_of n all rest) r
    ∙ sym (ap (λ l. done ++ l) (offsets_step n all ss i d l)) ∙ h

pub row_pushed : (st : Assigned) (all : List Classes) (xs : List RelShape) (rs : List Row) (k : ℕ) (x : RelShape) (y : Row) → k < length xs → get_or xs k x ≡ x
    → IsRow st all x y → AreRows st all k xs rs → AreRows st all (k + 1) xs (rs ++ y ∷ [])
row_pushed st all xs rs k x y l e row are = record { len = length-append rs (y ∷ []) ∙ ap (λ j. j + 1) are.len; each = each }
  where
    each : (i : ℕ) (z : RelShape) (w : Row) → slice_get xs i ≡ Some z → slice_get (rs ++ y ∷ []) i ≡ Some w → IsRow st all z w
    each i z w p q = either (cases_lt i k)
        (λ lt. let within : i < length rs = let n = are.len in omega (arith, n, lt) in
        let there : w ≡ get_or rs i w = sym (get_or_from_slice_get (rs ++ y ∷ []) i w w q) ∙ get_or_append_left rs (y ∷ []) w i within in
        are.each i z w p (slice_get-get_or rs i w within ∙ ap Some (sym there)))
        (λ ge. let b = slice_get_within (rs ++ y ∷ []) i w q in
        let at : i ≡ k = let n = are.len in let m = length-append rs (y ∷ []) in omega (arith, n, m, b, ge) in
        let seam : i ≡ length rs = let n = are.len in omega (arith, n, at) in
        let is_y : y ≡ w = sym (get_or-append_seam rs y [] w) ∙ ap (λ j. get_or (rs ++ y ∷ []) j w) (sym seam) ∙ get_or_from_slice_get (rs ++ y ∷ []) i w w q in
        let is_x : x ≡ z = sym e ∙ ap (λ j. get_or xs j x) (sym at) ∙ get_or_from_slice_get xs i z x p in
        subst (λ r. IsRow st all z r) is_y (subst (λ s. IsRow st all s y) is_x row))
