-- New variables are read exactly where they are new.
use Rattle.std.proofs.Common.{◌≡◌, ℕ, true, false, not, ◌&&◌, leb, ltb, List, length, is_some, refl, ap, subst}
use Rattle.std.proofs.lemmas.Bool.{and_from}
use Rattle.lv_tree.specs.declared.tree.Tree.{Tree}
use Rattle.lv_system.specs.Names.{are_name_bytes}
use Rattle.lv_fault.specs.Given.{Worded, word_in}
use Rattle.lv_grammar.specs.declared.reading.Family.{Family}
use Rattle.lv_grammar.specs.declared.reading.Family.TheVariants as Fam
use Rattle.lv_grammar.specs.Grammar.{IsWord}
use Rattle.lv_grammar.specs.Words.{Variable, variable_number, begins_capital, is_variable, is_new_variable}
use Rattle.lv_grammar.specs.WordKinds.{family_of}
use Rattle.lv_grammar.specs.ReadWords.{new_variable, new_variable_by}
use Rattle.lv_grammar.proofs.Steps.{done, ok_is, bound, passed, word_found}
use Rattle.lv_grammar.proofs.TreesAgain.{word_again}
use Rattle.lv_spelling.proofs.Families.{family_says, short, Says}
use Rattle.lv_spelling.proofs.Tests.{not_long, not_not}
use Rattle.lv_spelling.proofs.WordKinds.{and_first, and_second, variable_family}

pub record NewVariable (vs : List Variable) (name : List ℕ) (t : Tree) : Type 0 where
  pub word : IsWord name t
  pub new : is_new_variable vs name ≡ true

by_family : (vs : List Variable) (t : Tree) (w : Worded) (f : Family) (name : List ℕ) → IsWord w.text t → Says w.text f → new_variable_by vs w.at w.text f ≡ done name → NewVariable vs name t
by_family vs t w Fam.Variable name is says e =
    let a = passed (is_some (variable_number vs w.text)) _ _ _ name e in
    let b = passed (ltb 48 (length w.text)) _ _ _ name a.1 in
    let form : is_variable w.text ≡ true = and_from (begins_capital w.text && are_name_bytes w.text) _ says (short (length w.text) b.0) in
    let new : is_new_variable vs w.text ≡ true = and_from (is_variable w.text) _ form (ap not a.0) in
    subst (λ z. NewVariable vs z t) (ok_is w.text name b.1) (record { word = is; new = new })
by_family vs t w Fam.Frozen name is says e = absurd cc
by_family vs t w Fam.Saved name is says e = absurd cc
by_family vs t w Fam.Dotted name is says e = absurd cc
by_family vs t w Fam.Name name is says e = absurd cc
by_family vs t w Fam.Other name is says e = absurd cc

pub variable_found : (vs : List Variable) (t : Tree) (name : List ℕ) → new_variable vs t ≡ done name → NewVariable vs name t
unfolding new_variable
variable_found vs t name e =
    let w = bound (word_in t) _ name e in
    by_family vs t w.0 (family_of w.0.text) name (word_found t w.0 w.1) (family_says w.0.text) w.2

pub new_again : (vs : List Variable) (name : List ℕ) (t : Tree) → IsWord name t → is_new_variable vs name ≡ true → new_variable vs t ≡ done name
unfolding new_variable
new_again vs name t is e =
    let w = word_again t name is in
    let form : is_variable name ≡ true = and_first (is_variable name) _ e in
    let free : is_some (variable_number vs name) ≡ false = not_not _ (and_second (is_variable name) _ e) in
    let size : leb (length name) 48 ≡ true = and_second (begins_capital name && are_name_bytes name) _ form in
    rw (w.1, variable_family name form, free, not_long (length name) size) refl
