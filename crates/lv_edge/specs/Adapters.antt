-- What a read and a write through std's readers and writers do.
use Rattle.std.specs.Prelude.{ℕ, List, Option, Result}
use Rattle.std.specs.Io.KnownBytes.{ReadConsumes, WriteAppends}
use Rattle.lv_edge.specs.declared.adapters.StdSource.{StdSource}
use Rattle.lv_edge.specs.declared.adapters.StdSink.{StdSink}
use Rattle.lv_edge.specs.Causes.{CountsFault}

-- the reader that a source reads from
abbrev pub reader_of : {R : Type 0} → StdSource R → R
reader_of source = source.inner

-- how often a source has failed
abbrev pub read_faults : {R : Type 0} → StdSource R → ℕ
read_faults source = source.faults

-- A read gives what the reader gave, where that tells its bytes, and counts an error.
pub record ReadsThrough {R E : Type 0} (remaining : R → Option (List ℕ)) (before : StdSource R) (result : Result ℕ E) (buf : List ℕ) (now : StdSource R) : Type 0 where
  pub bytes : ReadConsumes (remaining before.inner) (remaining now.inner) result buf
  pub faults : CountsFault before.faults now.faults result

-- the writer that a sink writes to
abbrev pub writer_of : {W : Type 0} → StdSink W → W
writer_of sink = sink.inner

-- how often a sink has failed
abbrev pub write_faults : {W : Type 0} → StdSink W → ℕ
write_faults sink = sink.faults

-- A write hands the writer what it takes, where that tells its bytes, and counts an error.
pub record WritesThrough {W E : Type 0} (contents : W → Option (List ℕ)) (before : StdSink W) (piece : List ℕ) (result : Result ℕ E) (now : StdSink W) : Type 0 where
  pub bytes : WriteAppends (contents before.inner) (contents now.inner) result piece
  pub faults : CountsFault before.faults now.faults result
