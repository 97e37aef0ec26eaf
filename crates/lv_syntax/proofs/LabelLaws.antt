-- The table of labels that is read is the one that the labels make.
use Rattle.std.proofs.Common.{◌≡◌, ℕ, ◌||◌, ltb, List, [], ◌∷◌, length, drop, Result, Ok, refl, sym}
use Rattle.lv_labels.specs.declared.key.Key.{Key}
use Rattle.lv_labels.specs.Labels.{key_eq}
use Rattle.lv_labels.specs.Once.{once_behind}
use Rattle.lv_fault.specs.declared.fault.SyntaxFault.{SyntaxFault}
use Rattle.lv_fault.specs.declared.fault.Kind.TheVariants.{TooMany}
use Rattle.lv_grammar.specs.Labelling.{first_of, add_labels}
use Rattle.lv_grammar.proofs.Steps.{ok_is, passed}

pub table_is : (known : List Key) (places : List ℕ) (keys table : List Key) → add_labels known places keys ≡ Ok table → table ≡ once_behind key_eq known keys
unfolding add_labels
table_is known places [] table e = sym (ok_is known table e)
table_is known places (key ∷ keys) table e =
    let p = passed (ltb 4 (length key.sorts) || ltb 32 (length (once_behind key_eq known (key ∷ [])))) TooMany (first_of places) _ table e in
    table_is (once_behind key_eq known (key ∷ [])) (drop 1 places) keys table p.1
