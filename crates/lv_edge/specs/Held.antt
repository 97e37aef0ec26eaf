-- What contracts see of a source and a sink in memory, and what a read and a write do to them.
use Rattle.std.specs.Prelude.{◌≡◌, ◌↔◌, ◌⊎◌, ℕ, ◌-◌, ◌≤◌, min, List, length, Contains, Result, IsErr, IfOk}
use Rattle.lv_edge.specs.Causes.{one_more, CountsFault}

-- A source: the bytes that are left, the most that one read gives, the numbers of the reads that fail,
-- and how many reads and faults there were.
pub record HeldSource : Type 0 where
  pub left : List ℕ
  pub piece : ℕ
  pub fails : List ℕ
  pub calls : ℕ
  pub faults : ℕ

-- A read fails exactly where its number is listed. Else it gives as many bytes as are left, as have
-- room and as one read may give.
pub record ReadsHeld {E : Type 0} (before : HeldSource) (result : Result ℕ E) (buf : List ℕ) (now : HeldSource) : Type 0 where
  pub fails : IsErr result ↔ Contains before.fails (one_more before.calls)
  pub count : IfOk result (λ n. n ≡ min (length before.left) (min (length buf) before.piece))
  pub faults : CountsFault before.faults now.faults result
  pub calls : now.calls ≡ one_more before.calls
  pub same_piece : now.piece ≡ before.piece
  pub same_fails : now.fails ≡ before.fails

-- A sink: the bytes that were written, the most that one write takes, the most that it takes in all,
-- the numbers of the writes that fail, and how many writes and faults there were.
pub record HeldSink : Type 0 where
  pub written : List ℕ
  pub piece : ℕ
  pub room : ℕ
  pub fails : List ℕ
  pub calls : ℕ
  pub faults : ℕ

-- A write fails exactly where its number is listed or the sink is full. Else it takes as many bytes as
-- the piece has, as have room and as one write may take.
pub record WritesHeld {E : Type 0} (before : HeldSink) (piece : List ℕ) (result : Result ℕ E) (now : HeldSink) : Type 0 where
  pub fails : IsErr result ↔ (Contains before.fails (one_more before.calls) ⊎ (before.room ≤ length before.written))
  pub count : IfOk result (λ n. n ≡ min (length piece) (min (before.room - length before.written) before.piece))
  pub faults : CountsFault before.faults now.faults result
  pub calls : now.calls ≡ one_more before.calls
  pub same_piece : now.piece ≡ before.piece
  pub same_room : now.room ≡ before.room
  pub same_fails : now.fails ≡ before.fails
