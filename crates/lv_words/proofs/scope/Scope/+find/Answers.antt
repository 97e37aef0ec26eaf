use Rattle.std.proofs.Common.{arith}
use Rattle.lv_words.specs.Scopes.{scope_seen}
use Rattle.lv_words.proofs.ScopeLemmas.{find_next, find_all}
use Rattle.lv_words.proofs.scope.Scope.+find.Goals as goal

pub loop-variable-init : goal.loop-variable-init
loop-variable-init t c = λ vs h. h

pub loop-variable-preserved : goal.loop-variable-preserved
loop-variable-preserved t c = λ vs h. find_next c.in-Listed.variables.now vs c.loop-variable.variable-index _ c.args.name.now c.loop-variable.found _ (omega arith) c.in_ok-found-in-Listed-2.ensures (c.loop-variable.invariant vs h)

pub returns-after-loop-variable : goal.returns-after-loop-variable
returns-after-loop-variable t c =
    let vs = scope_seen c.in-Listed.outer.now in
    let all = find_all c.in-Listed.variables.now vs c.loop-variable.variable-index c.args.name.now c.loop-variable.found c.loop-variable-test.false (c.loop-variable.invariant vs c.in_ok-found-in-Listed.ensures) in
    rw c.in-Listed.is all
