use Rattle.std.proofs.Common.{◌&&◌, sym, ap, ◌∙◌}
use Rattle.std.proofs.lemmas.Bool.{and_left, eq-eqb, ne_eqb}
use Rattle.lv_struct.specs.Numbers.{has_number}
use Rattle.lv_struct.proofs.NumberLaws.{has_number_of_tuple}
use Rattle.lv_struct.proofs.numbers.Numbered.has_numbered.Goals as goal

pub returns-then-arity-self : goal.returns-then-arity-self
returns-then-arity-self c = c.has_number.ensures ∙ sym (has_number_of_tuple c.args.self.now.arity c.args.self.now.numbers c.args.arity c.args.number c.args.self.now.kept.short c.args.self.now.kept.below c.requires ∙ ap (λ b. b && has_number c.args.self.now.numbers c.args.number) (eq-eqb c.args.arity c.args.self.now.arity c.if-arity-self.true))

pub returns-else-arity-self : goal.returns-else-arity-self
returns-else-arity-self c = ne_eqb c.args.arity c.args.self.now.arity c.if-arity-self.false
    ∙ sym (has_number_of_tuple c.args.self.now.arity c.args.self.now.numbers c.args.arity c.args.number c.args.self.now.kept.short c.args.self.now.kept.below c.requires ∙ and_left _ (has_number c.args.self.now.numbers c.args.number) (ne_eqb c.args.arity c.args.self.now.arity c.if-arity-self.false))
