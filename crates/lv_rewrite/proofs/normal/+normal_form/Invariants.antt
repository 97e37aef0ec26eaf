use Rattle.std.proofs.Common.{◌≡◌, ◌++◌, drop}
use Rattle.lv_rewrite.specs.Normal.{nnf_of_all}
use Rattle.lv_rewrite.proofs.normal.+normal_form.Given as goal

abbrev pub invariant-each_normal-loop-f : goal.invariant-each_normal-loop-f
invariant-each_normal-loop-f l = l.all.items ++ nnf_of_all (drop l.f-index l.fs) l.positive ≡ nnf_of_all l.fs l.positive
