use Rattle.std.proofs.Common.{◌≡◌, ◌∙◌, sym, Ok, Err}
use Rattle.lv_places.specs.Universes.{counts}
use Rattle.lv_model.proofs.Tables.{relation_told, equality_told}
use Rattle.lv_model.proofs.truths.number_in.Goals as goal

pub returns-then-is_named : goal.returns-then-is_named
returns-then-is_named c =
    relation_told (counts c.args.u.now.terms) c.args.head c.args.sorts.now c.args.atom.now c.in-Relation.sym c.in-Relation.terms c.as_slice.result.now
    c.tuple_number.result c.in-Relation.is c.as_slice.ensures (sym c.is_named.ensures ∙ c.if-is_named.true) c.tuple_number.ensures

pub returns-then-is_equality : goal.returns-then-is_equality
returns-then-is_equality c =
    equality_told (counts c.args.u.now.terms) c.args.head c.args.sorts.now c.args.atom.now c.in-Equal.left c.in-Equal.right
    c.tuple_number-then-is_equality.result c.in-Equal.is c.requires (sym c.is_equality.ensures ∙ c.if-is_equality.true)
    c.tuple_number-then-is_equality.ensures
