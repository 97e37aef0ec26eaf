use Rattle.std.proofs.Common.{◌≡◌, drop}
use Rattle.lv_struct.specs.Tables.{HasVocabulary}
use Rattle.lv_reading.specs.Structures.{entries_in}
use Rattle.lv_reading.proofs.structures.entries.Given as goal

abbrev pub invariant-loop-sym : goal.invariant-loop-sym
invariant-loop-sym l =
    (entries_in l.words.parts.now l.voc l.end l.m (drop l.sym-index l.voc.order) l.rest ≡ entries_in l.words.parts.now l.voc l.end l.fn.m l.voc.order l.items)
    × HasVocabulary l.voc l.m
