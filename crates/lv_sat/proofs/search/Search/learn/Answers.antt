use Rattle.std.proofs.Common.{◌++◌, ◌∷◌, []}
use Rattle.lv_sat.proofs.Learning.{watching_settles, learned_range, learned_permutes, learned_short, learned_new, learned_asserts}
use Rattle.lv_sat.proofs.search.Search.learn.Goals as goal

pub analyse-requires-clause-settled : goal.analyse-requires-clause-settled
analyse-requires-clause-settled g c =
    watching_settles c.args.self.now.state.packed c.args.self.now.state.watches c.args.self.now.state.trail c.requires.watching

pub add_learned-requires-clause-asserts : goal.add_learned-requires-clause-asserts
add_learned-requires-clause-asserts g c =
    let s = c.args.self.now.state in
    rw (c.as_slice.ensures.value, c.in_ok-lits.ensures)
    (learned_asserts s.packed s.watches s.trail c.in_ok-learned.learned c.requires.watching c.in_ok-learned.ensures.learned)

pub returns-clause-learns : goal.returns-clause-learns
returns-clause-learns g c =
    let s = c.args.self.now.state in
    let l = c.in_ok-learned.learned in
    let is = c.in_ok-learned.ensures.learned in
    let w = c.requires.watching in
    let a = c.in_ok-add_learned.ensures in
    record {
      clause = l.others.items ++ l.asserted ∷ [];
      packed = l.asserted ∷ l.others.items;
      state = a.state;
      size = a.size;
      log = rw (← c.in_ok-clause.ensures) c.in_ok-push.ensures.items;
      clauses = rw (← c.in_ok-lits.ensures, ← c.as_slice.ensures.value) a.clauses;
      permutes = learned_permutes s.packed s.watches s.trail l w is;
      range = learned_range s.packed s.watches s.trail l w is;
      short = learned_short s.packed s.watches s.trail l w is;
      follows = is.follows;
      new_is = learned_new s.packed s.watches s.trail l w is;
    }
