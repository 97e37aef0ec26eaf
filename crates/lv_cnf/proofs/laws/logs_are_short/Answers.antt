use Rattle.std.proofs.Common.{ℕ, ◌<◌, ◌^◌, subst}
use Rattle.lv_cnf.proofs.Count.{log_below}
use Rattle.lv_cnf.proofs.laws.logs_are_short.Goals as goal

pub returns : goal.returns
returns c vars clauses budget log spent = subst (λ (n : ℕ). n < 3 ^ vars) spent.count (log_below vars clauses log spent.in_range spent.new)
