use Rattle.std.proofs.Common.{◌≡◌, drop}
use Rattle.lv_system.specs.Names.{are_name_bytes}
use Rattle.lv_system.proofs.words.all_stand_in_names.Given as goal

abbrev pub invariant-loop-byte : goal.invariant-loop-byte
invariant-loop-byte l = are_name_bytes (drop l.byte-index l.text) ≡ are_name_bytes l.text
