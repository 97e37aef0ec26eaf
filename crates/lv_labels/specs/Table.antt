-- The table of a system's labels: for each label its name, the sorts of its variables and the reading of its body.
use Rattle.std.specs.Prelude.{ℕ, ltb, cond, List, map, length, get_or, reverse}
use Rattle.std.specs.declared.option.Option.{Option}
use Rattle.std.specs.declared.option.Option.TheVariants.{Some, None}
use Rattle.lv_system.specs.declared.parts.Parts.{Parts}
use Rattle.lv_system.specs.declared.parts.LabelDecl.{LabelDecl}
use Rattle.lv_labels.specs.declared.key.Key.{Key}
use Rattle.lv_labels.specs.declared.labelling.Label.{Label}
use Rattle.lv_labels.specs.Labels.{key_eq, keys_of, labels_of, no_key, reading}
use Rattle.lv_labels.specs.Once.{place_of}

-- the label of a declared formula, which is `always` of another, so its label is the first in it
abbrev pub own_key : LabelDecl → Key
own_key l = get_or (keys_of l.formula (reverse l.params)) 0 no_key

-- the number of the first declaration with the label
abbrev pub name_among : List Key → Key → Option ℕ
name_among own key = cond (ltb (place_of key_eq key own) (length own)) (Some (place_of key_eq key own)) None

abbrev pub label_row : List Key → List Key → Key → Label
label_row table own key = record { name = name_among own key; sorts = key.sorts; body = reading table (reverse key.sorts) key.inner }

abbrev pub table_labels : Parts → List Label
table_labels p = map (label_row (labels_of p) (map own_key p.labels)) (labels_of p)
