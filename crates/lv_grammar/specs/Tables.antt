-- The words of labels by the table of labels.
use Rattle.std.specs.Prelude.{◌≡◌, ℕ, true, List, [], map, get_or, slice_get}
use Rattle.std.specs.declared.option.Option.{Option}
use Rattle.std.specs.declared.option.Option.TheVariants.{Some, None}
use Rattle.lv_system.specs.declared.parts.Parts.{Parts}
use Rattle.lv_system.specs.declared.parts.LabelDecl.{LabelDecl}
use Rattle.lv_system.specs.Fits.{fits_parts}
use Rattle.lv_labels.specs.declared.labelling.Label.{Label}
use Rattle.lv_labels.specs.Table.{table_labels}

-- the labels are those of the system, whose parts fit
pub record IsTable (p : Parts) (labels : List Label) : Type 0 where
  pub fits : fits_parts p ≡ true
  pub table : labels ≡ table_labels p

-- the name of the declaration with the number
abbrev pub named_by : List LabelDecl → Option ℕ → Option (List ℕ)
named_by declarations None = None
named_by declarations (Some i) = Some (get_or (map (λ l. l.name) declarations) i [])

abbrev pub row_declaration : Option Label → Option ℕ
row_declaration None = None
row_declaration (Some label) = label.name

-- the number of the declaration that names the label with the number
abbrev pub declaration_in : List Label → ℕ → Option ℕ
declaration_in labels k = row_declaration (slice_get labels k)
