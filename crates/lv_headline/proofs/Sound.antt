-- What holds of a system that is spelled and of which all obligations are valid.
use Rattle.std.proofs.Common.{◌≡◌, ◌≤◌, ℕ, true, List}
use Rattle.lv_tree.specs.declared.tree.Tree.{Tree}
use Rattle.lv_system.specs.declared.parts.Parts.{Parts}
use Rattle.lv_system.specs.Fits.{fits_parts}
use Rattle.lv_chain.specs.Chain.{chain_of}
use Rattle.lv_chain.proofs.FitsLaw.{chain_fits}
use Rattle.lv_labels.specs.Problem.{problem_of}
use Rattle.lv_temporal.proofs.Listed.{true_labels}
use Rattle.lv_temporal.proofs.Scoped.{scoped}
use Rattle.lv_grammar.specs.Spelling.{Spells, SpellsSystem}
use Rattle.lv_fitting.proofs.SystemFits.{system_fits, system_limited}
use Rattle.lv_labels.specs.Obligations.{AreValid, InvariantsFit}
use Rattle.lv_temporal.proofs.Bound.{bounded, bounded_positions}
use Rattle.lv_temporal.proofs.ProblemFits.{kept_and_free, problem_fits}
use Rattle.lv_temporal.proofs.LoopRounds.{meets}
use Rattle.lv_headline.specs.Headline.{HoldsAtAllSizes, IsProved}
use Rattle.lv_headline.proofs.ChainLimits.{chain_keeps_limits}
use Rattle.lv_headline.proofs.Spoken.{invariants_stand}

pub spelled_stand : (p : Parts) (tree : Tree) → SpellsSystem p tree → InvariantsFit p
spelled_stand p tree spelled = invariants_stand p (system_limited p tree spelled)

-- of parts that fit, with invariants that stand over the words of the monitored structure
fitting_holds : (p : Parts) → fits_parts p ≡ true → InvariantsFit p → AreValid p → HoldsAtAllSizes p
fitting_holds p fits stand valid =
    let fit = problem_fits p fits stand in
    let free = kept_and_free p fits stand valid in
    record {
      meets = meets p (true_labels p (scoped p fits)) (bounded (problem_of p) fit free.0 free.1);
      bounded = bounded_positions p fit free.0 free.1;
    }

pub system_holds : (p : Parts) (tree : Tree) → SpellsSystem p tree → AreValid p → HoldsAtAllSizes p
system_holds p tree spelled valid = fitting_holds p (system_fits p tree spelled) (spelled_stand p tree spelled) valid

pub text_holds : (bytes : List ℕ) (p : Parts) → Spells bytes p → AreValid p → HoldsAtAllSizes p
text_holds bytes p text valid = system_holds p text.tree text.system valid

pub text_proved : (bytes : List ℕ) (p : Parts) → Spells bytes p → ((other : Parts) → Spells bytes other → other ≡ p) → AreValid p → IsProved bytes
text_proved bytes p text one valid = record { system = p; spells = text; one = one; holds = text_holds bytes p text valid }

pub chain_holds : (places : ℕ) → 2 ≤ places → places ≤ 16 → AreValid (chain_of places) → HoldsAtAllSizes (chain_of places)
chain_holds places least most valid =
    fitting_holds (chain_of places) (chain_fits places least most) (invariants_stand (chain_of places) (chain_keeps_limits places least most)) valid
