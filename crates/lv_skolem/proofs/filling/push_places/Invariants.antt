use Rattle.std.proofs.Common.{◌≡◌, ◌++◌, drop}
use Rattle.lv_places.specs.Universes.{place_terms, count_at}
use Rattle.lv_skolem.proofs.filling.push_places.Given as goal

abbrev pub invariant-loop-i : goal.invariant-loop-i
invariant-loop-i l = l.terms.items ++ place_terms (count_at l.counts) l.sort l.i (drop l.i l.places) ≡ l.initial.terms.items
    ++ place_terms (count_at l.counts) l.sort 0 l.places
