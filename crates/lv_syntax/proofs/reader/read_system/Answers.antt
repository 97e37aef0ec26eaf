use Rattle.std.proofs.Common.{Ok, Err, sym, subst, ◌∙◌}
use Rattle.lv_grammar.specs.Spelling.{SpellsSystem}
use Rattle.lv_syntax.proofs.ReadingLaw.{read_is_spelled, read_fits, spelled_is_read}
use Rattle.lv_syntax.proofs.reader.read_system.Goals as goal

pub new-requires : goal.new-requires
new-requires c = read_fits c.args.tree.now c.in-Ok.parts c.in-Ok.ensures

pub returns-in-Ok-clause-found : goal.returns-in-Ok-clause-found
returns-in-Ok-clause-found c = subst (λ p. SpellsSystem p c.args.tree.now) (sym c.new.ensures) (read_is_spelled c.args.tree.now c.in-Ok.parts c.in-Ok.ensures)

pub returns-in-Ok-clause-only : goal.returns-in-Ok-clause-only
returns-in-Ok-clause-only c = λ p s. c.new.ensures ∙ spelled_is_read c.args.tree.now (Ok c.in-Ok.parts) c.in-Ok.ensures p s

pub returns-in-Err-clause-only : goal.returns-in-Err-clause-only
returns-in-Err-clause-only c = λ p s. spelled_is_read c.args.tree.now (Err c.in-Err.error) c.in-Err.ensures p s
