-- Reading updates one after the other, as a loop does.
use Rattle.std.proofs.Common.{◌≡◌, ℕ, ◌+◌, ◌<◌, ◌≤◌, List, [], ◌∷◌, ◌++◌, length, get_or, drop, Result, Ok, Err, refl, sym, ◌∙◌, add-one}
use Rattle.std.proofs.Math.Seq.{drop-cons}
use Rattle.std.proofs.lemmas.List.{drop_all}
use Rattle.lv_tree.specs.declared.tree.Tree.{Tree}
use Rattle.lv_system.specs.declared.parts.ActionUpdate.{ActionUpdate}
use Rattle.lv_grammar.specs.Words.{Variable}
use Rattle.lv_grammar.specs.Known.{Known}
use Rattle.lv_fault.specs.declared.fault.SyntaxFault.{SyntaxFault}
use Rattle.lv_fault.specs.declared.fault.ReadText.{ReadText}
use Rattle.lv_fault.specs.declared.fault.ReadText.TheVariants.{Refused, Memory}
use Rattle.lv_fault.specs.Given.{◌>>=◌, Fails}
use Rattle.lv_grammar.specs.ReadItems.{update_in, updates_in}

updates_split : (d : Known) (vs : List Variable) (done : List ActionUpdate) (ts : List Tree) (i : ℕ) (t : Tree) → t ≡ get_or ts i t → i < length ts
    → updates_in d vs done (drop i ts) ≡ (update_in d vs done t >>= λ u. updates_in d vs (done ++ u ∷ []) (drop (i + 1) ts))
unfolding updates_in
updates_split d vs done ts i t is lt = rw (add-one, drop-cons ts i t lt, ← is) refl

pub updates_go_on : (d : Known) (vs : List Variable) (done : List ActionUpdate) (ts : List Tree) (i : ℕ) (t : Tree) (u : ActionUpdate) (total : Result (List ActionUpdate) SyntaxFault) → t ≡ get_or ts i t → i < length ts
    → update_in d vs done t ≡ Ok u → updates_in d vs done (drop i ts) ≡ total → updates_in d vs (done ++ u ∷ []) (drop (i + 1) ts) ≡ total
updates_go_on d vs done ts i t u total is lt e so_far =
    let x : updates_in d vs done (drop i ts) ≡ updates_in d vs (done ++ u ∷ []) (drop (i + 1) ts) = updates_split d vs done ts i t is lt ∙ rw e refl in
    sym x ∙ so_far

pub updates_stop : (e : ReadText) (d : Known) (vs : List Variable) (done : List ActionUpdate) (ts : List Tree) (i : ℕ) (t : Tree) (total : Result (List ActionUpdate) SyntaxFault) → t ≡ get_or ts i t → i < length ts
    → Fails e (update_in d vs done t) → updates_in d vs done (drop i ts) ≡ total → Fails e total
updates_stop Memory d vs done ts i t total is lt e so_far = tt
updates_stop (Refused f) d vs done ts i t total is lt e so_far =
    let x : updates_in d vs done (drop i ts) ≡ Err f = updates_split d vs done ts i t is lt ∙ rw e refl in
    sym so_far ∙ x

pub updates_end : (d : Known) (vs : List Variable) (done : List ActionUpdate) (ts : List Tree) (i : ℕ) (total : Result (List ActionUpdate) SyntaxFault) → length ts ≤ i → updates_in d vs done (drop i ts) ≡ total → total ≡ Ok done
unfolding updates_in
updates_end d vs done ts i total le so_far =
    let x : updates_in d vs done (drop i ts) ≡ Ok done = rw (drop_all i ts le) refl in
    sym so_far ∙ x
