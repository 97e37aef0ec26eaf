-- What definitions see of the structs that the code reads words into: what their references point to.
use Rattle.std.specs.Prelude.{ℕ, List, [], ◌∷◌, Option, Some, None, Result, Ok}
use Rattle.std.specs.Borrow.{Bor}
use Rattle.lv_formula.specs.declared.symbols.SortId.{SortId}
use Rattle.lv_fault.specs.declared.fault.Kind.{Kind}
use Rattle.lv_fault.specs.declared.fault.SyntaxFault.{SyntaxFault}
use Rattle.lv_fault.specs.Given.{fail}
use Rattle.lv_grammar.specs.declared.reading.Named.{Named}
use Rattle.lv_words.specs.declared.symbols.Sorts.{Sorts}
use Rattle.lv_words.specs.declared.symbols.Sorts.TheVariants as Args
use Rattle.lv_words.specs.declared.symbols.Spoken as declared_spoken
use Rattle.lv_words.specs.declared.symbols.Speaks as declared_speaks
use Rattle.lv_words.specs.declared.symbols.Predicate as declared_predicate
use Rattle.lv_grammar.specs.Known.{Said, Relation, Constant}
use Rattle.lv_grammar.specs.ReadWords.{Speaks, Predicate}

abbrev pub lent_bytes : Option (Bor (List ℕ)) → Option (List ℕ)
lent_bytes None = None
lent_bytes (Some text) = Some text.now

abbrev pub lent_named : Option (Bor Named) → Option Named
lent_named None = None
lent_named (Some what) = Some what.now

abbrev pub sorts_seen : Sorts → List SortId
sorts_seen (Args.Listed sorts) = sorts.now
sorts_seen (Args.One sort) = sort ∷ []
sorts_seen Args.Empty = []

abbrev pub said_seen : declared_spoken.Spoken → Said
said_seen (declared_spoken.TheVariants.Relation sym sorts) = Relation sym (sorts_seen sorts)
said_seen (declared_spoken.TheVariants.Constant sym sort) = Constant sym sort

abbrev pub said_seen_in : Option declared_spoken.Spoken → Option Said
said_seen_in None = None
said_seen_in (Some spoken) = Some (said_seen spoken)

-- the fault at this place, where there is one
abbrev pub refused_seen : ℕ → Option Kind → Result (Unit {0}) SyntaxFault
refused_seen at None = Ok tt
refused_seen at (Some kind) = fail kind at

abbrev pub speaks_seen : ℕ → declared_speaks.Speaks → Speaks
speaks_seen at s = record { says = said_seen s.says; refused = refused_seen at s.refused }

abbrev pub speaks_seen_in : ℕ → Option declared_speaks.Speaks → Option Speaks
speaks_seen_in at None = None
speaks_seen_in at (Some s) = Some (speaks_seen at s)

abbrev pub predicate_seen : declared_predicate.Predicate → Predicate
predicate_seen r = record { sym = r.sym; sorts = sorts_seen r.sorts }
