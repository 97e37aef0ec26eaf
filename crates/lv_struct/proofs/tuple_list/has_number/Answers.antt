use Rattle.std.proofs.Common.{sym, ap, ◌∙◌}
use Rattle.lv_struct.specs.Numbers.{is_number}
use Rattle.lv_struct.proofs.NumberLaws.{is_tuple_of_number}
use Rattle.lv_struct.proofs.tuple_list.has_number.Goals as goal

pub returns-in-Some : goal.returns-in-Some
returns-in-Some c = sym (is_tuple_of_number c.args.arity c.args.number c.args.tuple.now c.requires.short c.requires.below ∙ ap (is_number c.args.number) (sym c.number_at.ensures ∙ c.in-Some.is))

pub returns-in-None : goal.returns-in-None
returns-in-None c = sym (is_tuple_of_number c.args.arity c.args.number c.args.tuple.now c.requires.short c.requires.below ∙ ap (is_number c.args.number) (sym c.number_at.ensures ∙ c.in-None.is))
