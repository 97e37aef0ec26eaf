use Rattle.std.proofs.Common.{sym, ap, ◌∙◌, subst}
use Rattle.lv_skolem.specs.Ranking.{AreInRange}
use Rattle.lv_places.specs.Places.{places_of}
use Rattle.lv_skolem.proofs.InRange.{places_in_range}
use Rattle.lv_skolem.proofs.sentences.skolemise.Goals as goal

pub cycle_of-requires : goal.cycle_of-requires
cycle_of-requires c =
    subst (AreInRange c.args.voc.now.sorts) (sym (c.as_slice-6.ensures ∙ c.in_ok-places.ensures ∙ ap places_of (c.as_slice.ensures ∙ c.in_ok-forms.ensures)))
    (places_in_range c.args.voc.now c.args.s.now c.requires)
