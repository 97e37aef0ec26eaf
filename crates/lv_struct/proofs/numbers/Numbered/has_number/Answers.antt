use Rattle.std.proofs.Common.{◌∙◌}
use Rattle.lv_struct.proofs.NumberLaws.{search_tells}
use Rattle.lv_struct.proofs.numbers.Numbered.has_number.Goals as goal

pub returns : goal.returns
returns c = c.is_ok.ensures.value ∙ search_tells c.index.result.now c.args.number c.binary_search.result c.index.ensures.ascends c.binary_search.ensures.position ∙ c.index.ensures.same c.args.number
