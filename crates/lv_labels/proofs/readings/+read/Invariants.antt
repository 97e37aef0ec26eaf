use Rattle.std.proofs.Common.{◌≡◌, ◌++◌, drop}
use Rattle.lv_formula.specs.Contexts.{context_of}
use Rattle.lv_labels.specs.Labels.{readings}
use Rattle.lv_labels.proofs.readings.+read.Given as goal

abbrev pub invariant-read_all-loop-f : goal.invariant-read_all-loop-f
invariant-read_all-loop-f l = l.all.items ++ readings l.keys (drop l.f-index l.fs) (context_of l.scope) ≡ readings l.keys l.fs (context_of l.scope)
