use Rattle.std.proofs.Common.{◌-◌, length, take, drop}
use Rattle.lv_syntax.specs.Parameters.{params_seen}
use Rattle.lv_syntax.proofs.Pairs.{behind_first, pairs_step}
use Rattle.lv_syntax.proofs.parameters.+pairs.Goals as goal

pub returns : goal.returns
returns t c =
    let items = c.args.items.now in
    let rest = take (length items - 1) (drop 1 items) in
    let name = rw c.as_slice.ensures.items at c.in_ok-name-in-len1-up.ensures in
    let step = pairs_step c.args.known.now (params_seen c.args.done) (params_seen c.in_ok-done-in-len1-up-rest.done) c.args.end items rest _ c.first-item.result c.second-item.result c.in_ok-name-in-len1-up.name.now c.in_ok-sort-in-len1-up-rest.sort
    (behind_first items) (behind_first rest) c.in-len1-up.len_at_least c.first-item.is c.in-len1-up-rest.len_at_least c.second-item.is name c.in_ok-sort-in-len1-up-rest.ensures (rw c.place.ensures at c.in_ok-done-in-len1-up-rest.ensures.added) in
    rw step c.pairs.ensures
