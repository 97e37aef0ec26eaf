use Rattle.std.proofs.Common.{length, ap, subst, arith}
use Rattle.lv_places.specs.Universes.{count_at}
use Rattle.lv_ground.specs.Settings.{AreFirsts, AreRelationStarts, AreSortStarts}
use Rattle.lv_ground.proofs.Counted.{counted_len, counted_inhabited, counted_places, counted_constants}
use Rattle.lv_ground.proofs.setting.Setting.new.Goals as goal

pub returns-clause-ready : goal.returns-clause-ready
returns-clause-ready c =
    let sk = c.args.sk.now in
    let u = c.args.u.now.terms in
    let ns = c.in_ok-counts.counts.items in
    let e = c.in_ok-counts.ensures in
    record {
      len = counted_len sk u c.requires.range c.requires.universe ns e;
      few = omega (arith, c.in_ok-_places.ensures.few, ap length c.as_slice.ensures);
      known = c.requires.known;
      inhabited = counted_inhabited sk u c.requires.range c.requires.universe ns e;
      places = counted_places sk u c.requires.range c.requires.universe ns e;
      constants = counted_constants sk u c.requires.range c.requires.universe ns e;
      firsts = subst (λ l. AreFirsts sk (count_at l) (length sk.places) c.in_ok-firsts.firsts.items) c.as_slice-2.ensures.value c.in_ok-firsts.ensures;
      relations = subst (λ l. AreRelationStarts sk (count_at l) (length sk.relations) c.in_ok-relations.relations.items) c.as_slice-3.ensures.value
          c.in_ok-relations.ensures;
      sorts = subst (λ l. AreSortStarts sk (count_at l) sk.sorts c.in_ok-sorts.sorts.items) c.as_slice-5.ensures.value c.in_ok-sorts.ensures;
    }
