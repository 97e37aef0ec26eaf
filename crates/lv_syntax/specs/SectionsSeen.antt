-- What definitions see of the sections that the code reads.
use Rattle.std.specs.Prelude.{Result, Ok}
use Rattle.lv_tree.specs.declared.tree.Tree.{Tree}
use Rattle.lv_fault.specs.declared.fault.SyntaxFault.{SyntaxFault}
use Rattle.lv_fault.specs.Given.{◌>>=◌}
use Rattle.lv_grammar.specs.Known.{Known}
use Rattle.lv_grammar.specs.Sections.{Kind, Section}
use Rattle.lv_syntax.specs.declared.sections.Section as code_section

-- the section, behind which this is known
abbrev pub section_seen : {X : Type 0} → Known → code_section.Section X → Section X
section_seen k s = record { known = k; items = s.items; rest = s.rest.now }

-- an item, and what is known behind it
abbrev pub read_and_add : {X : Type 0} → Kind X → Known → Tree → Result (X × Known) SyntaxFault
read_and_add kind k t = kind.read k t >>= λ x. Ok (x, kind.add k x)
