-- What definitions see of the structs that the code reads items into: what their references point to.
use Rattle.std.specs.Prelude.{◌≡◌, List, map, reverse}
use Rattle.lv_labels.specs.Labels.{keys_of}
use Rattle.lv_words.specs.declared.scope.Parameter.{Parameter}
use Rattle.lv_words.specs.Scopes.{variable_seen}
use Rattle.lv_grammar.specs.Known.{Known}
use Rattle.lv_grammar.specs.Rules.{number_in, own_sorts, table_behind}
use Rattle.lv_grammar.specs.ReadItems.{Declared, Opened, Target}
use Rattle.lv_syntax.specs.declared.parameters.Opening as code_opening
use Rattle.lv_syntax.specs.declared.updates.Target as code_target
use Rattle.lv_syntax.specs.declared.labelled.Labelled.{Labelled}

abbrev pub param_seen : Parameter → Declared
param_seen x = record { at = x.at; variable = variable_seen x }

abbrev pub params_seen : List Parameter → List Declared
params_seen xs = map param_seen xs

abbrev pub opening_seen : code_opening.Opening → Opened
opening_seen o = record { name = o.name.now; params = params_seen o.params; rest = o.rest.now }

abbrev pub target_seen : code_target.Target → Target
target_seen x = record { symbol = x.symbol; shape = x.shape.now }

-- the number and the sorts are those of the declaration's label, and the table has its labels
pub record IsLabelled (k : Known) (x : Labelled) : Type 0 where
  pub number : x.number ≡ number_in k (reverse x.label.params) x.label.formula
  pub sorts : x.sorts ≡ own_sorts (keys_of x.label.formula (reverse x.label.params))
  pub table : x.table ≡ table_behind k (reverse x.label.params) x.label.formula
