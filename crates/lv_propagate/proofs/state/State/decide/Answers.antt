use Rattle.std.proofs.Common.{◌≡◌, ◌++◌, ◌∷◌, [], length, set, refl, ap, ◌∙◌, false, Some, None, arith, length-append, length-set}
use Rattle.lv_cnf.specs.Literals.{negative_literal}
use Rattle.lv_propagate.specs.State.{IsDone}
use Rattle.lv_propagate.proofs.Potential.{phi_same}
use Rattle.lv_watch.specs.Values.{before}
use Rattle.lv_propagate.proofs.Changes.{decided, decided_still}
use Rattle.lv_propagate.proofs.state.State.decide.Goals as goal

pub returns : goal.returns
returns c =
    let s = c.args.self.now in
    let t = c.assign.new.self in
    let p = c.in_ok-assign.ensures in
    let start : c.len-start.result ≡ length s.trail.lits.items = c.len-start.ensures in
    let lits : t.lits.items ≡ s.trail.lits.items ++ negative_literal c.args.var ∷ [] = rw (← c.negative.ensures) p.lits in
    let starts : t.starts.items ≡ s.trail.starts.items ++ length s.trail.lits.items ∷ [] = rw (← start) (p.starts ∙ c.in_ok-push.ensures.items) in
    let values : t.values.items ≡ set s.trail.values.items c.args.var (Some (record { positive = false; place = length s.trail.lits.items; reason = None })) =
    rw c.negative.ensures at p.values in
    let done : IsDone s.packed s.trail (length s.trail.lits.items) = rw c.requires.done at c.requires.state.1 in
    let both = decided s.packed s.watches s.trail t (negative_literal c.args.var) c.requires.state.0 done c.requires.var c.requires.free values lits starts in
    let still = decided_still s.packed s.watches s.trail t (negative_literal c.args.var) c.requires.state.0 done c.requires.var c.requires.free values
    lits starts in
    let len = ap length lits in
    let more = length-append s.trail.lits.items (negative_literal c.args.var ∷ []) in
    record {
      state = rw c.requires.done both;
      packed = refl;
      lits = lits;
      starts = starts;
      size = ap length values ∙ length-set s.trail.values.items c.args.var _;
      longer = omega (arith, len, more);
      paid = phi_same (before t.values.items s.head) (before s.trail.values.items s.head) s.packed
          (rw c.requires.done (still (length s.trail.lits.items) (omega arith)));
    }
