-- The elements of a step, taken one after the other.
use Rattle.std.proofs.Common.{◌≡◌, ℕ, suc, ◌+◌, ◌<◌, List, [], ◌∷◌, ◌++◌, length, drop, sym, ap, ◌∙◌, arith, append_assoc, drop-cons}
use Rattle.lv_formula.specs.declared.symbols.SortId.{SortId}
use Rattle.lv_formula.specs.declared.symbols.Sym.TheVariants.{Param}
use Rattle.lv_formula.specs.Meaning.{Meaning}
use Rattle.lv_labels.specs.Monitor.{params_in}
use Rattle.lv_temporal.proofs.Words.{no_sort_id}

pub next_param : (m : Meaning) (passed : List ℕ) (k : ℕ) (ss : List SortId) (x : ℕ) → k < length ss → x ≡ m.value (Param k)
    → (passed ++ x ∷ []) ++ params_in m (k + 1) (drop (k + 1) ss) ≡ passed ++ params_in m k (drop k ss)
next_param m passed k ss x lt is =
    let next : suc k ≡ k + 1 = omega arith in
    let here : params_in m k (drop k ss) ≡ m.value (Param k) ∷ params_in m (k + 1) (drop (k + 1) ss) =
    ap (params_in m k) (drop-cons ss k no_sort_id lt) ∙ ap (λ j. m.value (Param k) ∷ params_in m j (drop j ss)) next in
    append_assoc passed (x ∷ []) (params_in m (k + 1) (drop (k + 1) ss))
    ∙ ap (λ y. passed ++ y ∷ params_in m (k + 1) (drop (k + 1) ss)) is
    ∙ sym (ap (λ xs. passed ++ xs) here)
