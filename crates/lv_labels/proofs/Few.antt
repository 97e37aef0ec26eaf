-- A system has few label declarations.
use Rattle.std.proofs.Common.{◌≡◌, ◌<◌, ◌≤◌, ◌^◌, true, leb, List, length, map, ap, ◌∙◌, arith}
use Rattle.std.proofs.lemmas.Bool.{and_parts, leb-true}
use Rattle.std.proofs.lemmas.List.{length-map}
use Rattle.lv_system.specs.declared.parts.Parts.{Parts}
use Rattle.lv_system.specs.Fits.{fits_parts}
use Rattle.lv_system.specs.Limits.{counts_fit}
use Rattle.lv_labels.specs.declared.key.Key.{Key}
use Rattle.lv_labels.specs.Table.{own_key}

-- a system has at most 32 label declarations
few_labels : (p : Parts) → fits_parts p ≡ true → length p.labels ≤ 32
few_labels p h =
    let counts = and_parts (counts_fit p) _ h in
    let sorts = and_parts (leb (length p.sorts) 16) _ counts.0 in
    let symbols = and_parts (leb (length p.symbols) 256) _ sorts.1 in
    let axioms = and_parts (leb (length p.axioms) 64) _ symbols.1 in
    let inits = and_parts (leb (length p.inits) 64) _ axioms.1 in
    let actions = and_parts (leb (length p.actions) 32) _ inits.1 in
    let fairs = and_parts (leb (length p.fairs) 16) _ actions.1 in
    let labels = and_parts (leb (length p.labels) 32) _ fairs.1 in
    leb-true (length p.labels) 32 labels.0

-- so a `u32` counts the labels of the declared formulas
pub few_own : (p : Parts) (own : List Key) → fits_parts p ≡ true → own ≡ map own_key p.labels → length own < 2 ^ 32
few_own p own h e = omega (arith, few_labels p h, ap length e ∙ length-map p.labels own_key)
