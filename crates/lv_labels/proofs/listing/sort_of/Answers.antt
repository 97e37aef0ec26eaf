use Rattle.std.proofs.Common.{ap, ◌∙◌, unwrap_or}
use Rattle.std.proofs.lemmas.Option.{unwrap_or-slice_get}
use Rattle.lv_formula.specs.declared.symbols.SortId.{SortId}
use Rattle.lv_formula.specs.Contexts.{context_of}
use Rattle.lv_labels.proofs.listing.sort_of.Goals as goal

abbrev first_sort : SortId
first_sort = record { 0 = 0 }

pub returns : goal.returns
returns c = c.unwrap_or.ensures ∙ (ap (λ o. unwrap_or o first_sort) c.sort.ensures ∙ unwrap_or-slice_get (context_of c.args.scope.now) c.args.v first_sort)
