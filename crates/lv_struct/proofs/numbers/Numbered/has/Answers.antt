use Rattle.std.proofs.Common.{sym, ◌∙◌, rules}
use Rattle.lv_struct.proofs.NumberLaws.{other_length, has_by_number, no_number}
use Rattle.lv_struct.proofs.numbers.Numbered.has.Goals as goal

pub returns-then-count-self : goal.returns-then-count-self
returns-then-count-self g c = sym (other_length c.args.self.now.arity c.args.self.now.numbers (g.T.Elements.elements c.args.tuple.now) c.args.self.now.kept.short c.args.self.now.kept.below (search rules))

pub returns-in-Some : goal.returns-in-Some
returns-in-Some g c = c.has_number.ensures ∙ sym (has_by_number c.args.self.now.arity c.args.self.now.numbers (g.T.Elements.elements c.args.tuple.now) c.args.self.now.kept.short c.args.self.now.kept.below (search rules) c.in-Some.number (sym c.number_of.ensures ∙ c.in-Some.is))

pub returns-in-None : goal.returns-in-None
returns-in-None g c = sym (no_number c.args.self.now.arity c.args.self.now.numbers (g.T.Elements.elements c.args.tuple.now) c.args.self.now.kept.short c.args.self.now.kept.below (sym c.number_of.ensures ∙ c.in-None.is))
