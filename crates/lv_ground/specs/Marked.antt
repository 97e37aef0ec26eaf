-- The table of the atoms that have occurred.
use Rattle.lv_ground.specs.declared.atoms.Atoms.{Atoms}
use Rattle.lv_ground.specs.declared.setting.Setting.{Setting}
use Rattle.lv_ground.specs.Positions.{IsTable}
use Rattle.lv_ground.specs.Settings.{numbers}

abbrev pub AreMarked : Setting → Atoms → Type 0
AreMarked st atoms = IsTable st.sk.now (numbers st) atoms.list.items atoms.marks.items
