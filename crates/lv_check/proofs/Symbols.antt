-- The number of a system's symbols.
use Rattle.std.proofs.Common.{◌≡◌, ◌≤◌, true, length}
use Rattle.lv_system.specs.declared.parts.Parts.{Parts}
use Rattle.lv_system.specs.Fits.{fits_parts}
use Rattle.lv_system.proofs.FitsFacts.{fitting}

pub few_symbols : (p : Parts) → fits_parts p ≡ true → length p.symbols ≤ 256
few_symbols p h = (fitting p h).few.symbols
