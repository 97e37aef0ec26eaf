use Rattle.std.proofs.Common.{◌≤◌, ◌-◌, Some, length, take, drop, ap, arith}
use Rattle.lv_edge.proofs.Told.{copied_front}
use Rattle.lv_edge.proofs.memory_source.MemorySourceSource.read.Goals as goal

pub returns-clause-bytes : goal.returns-clause-bytes
returns-clause-bytes c =
    let fits : c.min-count.result ≤ length (take (length c.as_slice-2.result.now - c.self.inside.at) (drop c.self.inside.at c.as_slice-2.result.now)) = omega (arith, c.min-count.ensures) in
    ap Some (copied_front c.copy_from_slice.new.self c.args.buf.now c.self.inside.bytes c.args.self.now.left c.self.inside.at c.min-count.result
    (ap (λ s. s.left) c.self.view_is)
    (rw c.as_slice-2.ensures at fits)
    (rw c.as_slice-2.ensures at c.copy_from_slice.ensures.after))
