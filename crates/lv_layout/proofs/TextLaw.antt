-- Where some tree spells a system, so do the bytes that are shown.
use Rattle.std.proofs.Common.{◌≡◌, ℕ, true, List, Result, Ok, Err, IfOk, arith}
use Rattle.lv_tree.specs.declared.tree.Tree.{Tree}
use Rattle.lv_tree.specs.Writing.{bare}
use Rattle.lv_system.proofs.FitsFacts.{tests}
use Rattle.lv_system.specs.declared.parts.Parts.{Parts}
use Rattle.lv_grammar.specs.HaveWords.{invariants_have_words}
use Rattle.lv_grammar.specs.Spelling.{SpellsSystem, Spells}
use Rattle.lv_grammar.specs.ShownSystems.{shown_items, shown_system}
use Rattle.lv_grammar.specs.Layout.{shown_text}
use Rattle.lv_grammar.proofs.SymbolWords.{have_names, short_name, short_text}
use Rattle.lv_grammar.proofs.SpokenParts.{limits_have_words}
use Rattle.lv_grammar.proofs.ItemFits.{items_can_be_written}
use Rattle.lv_grammar.proofs.LayoutLaw.{laid}
use Rattle.lv_fitting.proofs.SystemFits.{system_fits, system_limited}
use Rattle.lv_layout.proofs.SystemLaw.{system_shown}

pub spelled_has_words : (p : Parts) (t : Tree) → SpellsSystem p t → invariants_have_words p p.invariants ≡ true
spelled_has_words p t s = limits_have_words p (system_fits p t s) (system_limited p t s)

pub shown_text_spells : (p : Parts) (t : Tree) → SpellsSystem p t → Spells (shown_text p) p
shown_text_spells p t s =
    let fits = system_fits p t s in
    let text = short_text (short_name p.name (have_names p (tests p fits).names).system) in
    let l = laid p.name (shown_items p) text (items_can_be_written p fits (spelled_has_words p t s) 63 (omega arith)) in
    record { tree = l.tree; spelled = l.spelled; system = system_shown p t s l.tree l.same }

pub text_again : (bytes : List ℕ) (p : Parts) (t : Tree) → bytes ≡ shown_text p → SpellsSystem p t → Spells bytes p
text_again bytes p t e s = rw e (shown_text_spells p t s)

-- of an answer that is the text, or an error
pub answer_again : {E : Type 0} (r : Result (List ℕ) E) (p : Parts) (t : Tree) → IfOk r (λ bytes. bytes ≡ shown_text p) → SpellsSystem p t → IfOk r (λ bytes. Spells bytes p)
answer_again (Ok bytes) p t e s = text_again bytes p t e s
answer_again (Err x) p t e s = tt
