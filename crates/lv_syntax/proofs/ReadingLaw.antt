-- What is read of a tree is what it spells.
use Rattle.std.proofs.Common.{◌≡◌, true, Result, Ok, Err, sym, ◌∙◌}
use Rattle.lv_tree.specs.declared.tree.Tree.{Tree}
use Rattle.lv_system.specs.declared.parts.Parts.{Parts}
use Rattle.lv_system.specs.Fits.{fits_parts}
use Rattle.lv_fault.specs.declared.fault.ReadText.{ReadText}
use Rattle.lv_fault.specs.declared.fault.ReadText.TheVariants.{Refused, Memory}
use Rattle.lv_fault.specs.Given.{Gives}
use Rattle.lv_grammar.specs.Spelling.{SpellsSystem}
use Rattle.lv_grammar.specs.Reading.{system_of}
use Rattle.lv_grammar.proofs.Steps.{done, ok_is}
use Rattle.lv_spelling.proofs.SystemRead.{system_found}
use Rattle.lv_spelling.proofs.SystemAgain.{system_again}
use Rattle.lv_fitting.proofs.SystemFits.{system_fits}
use Rattle.lv_syntax.specs.Reader.{IsSystemOrMemory}

pub read_is_spelled : (t : Tree) (p : Parts) → system_of t ≡ done p → SpellsSystem p t
read_is_spelled t p e = system_found t p e

-- the parts that are read fit
pub read_fits : (t : Tree) (p : Parts) → system_of t ≡ done p → fits_parts p ≡ true
read_fits t p e = system_fits p t (system_found t p e)

-- where a system is spelled, no other answer than it or want of memory
pub spelled_is_read : (t : Tree) (r : Result Parts ReadText) → Gives (λ x. x) r (system_of t) → (p : Parts) → SpellsSystem p t → IsSystemOrMemory p r
spelled_is_read t (Ok q) e p s = ok_is q p (sym e ∙ system_again p t s)
spelled_is_read t (Err Memory) e p s = tt
spelled_is_read t (Err (Refused f)) e p s = let z : done p ≡ Err f = sym (system_again p t s) ∙ e in absurd cc
