-- What a reader of systems answers.
use Rattle.std.specs.Prelude.{◌≡◌, Result, Ok, Err}
use Rattle.lv_system.specs.declared.parts.Parts.{Parts}
use Rattle.lv_fault.specs.declared.fault.ReadText.{ReadText}
use Rattle.lv_fault.specs.declared.fault.ReadText.TheVariants.{Refused, Memory}

-- the answer is this system, unless memory ran out
abbrev pub IsSystemOrMemory : Parts → Result Parts ReadText → Type 0
IsSystemOrMemory p (Ok q) = q ≡ p
IsSystemOrMemory p (Err Memory) = Unit {0}
IsSystemOrMemory p (Err (Refused fault)) = ⊥
