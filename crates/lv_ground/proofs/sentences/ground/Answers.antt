use Rattle.std.proofs.Common.{ap, ◌∙◌}
use Rattle.lv_places.specs.Universes.{count_at}
use Rattle.lv_skolem.proofs.Ranged.{is_ranged}
use Rattle.lv_ground.specs.Settings.{numbers}
use Rattle.lv_ground.proofs.Counted.{counts_are}
use Rattle.lv_ground.proofs.Known.{relations_known}
use Rattle.lv_ground.proofs.Whole.{sentences_stand, whole_of, roots_below, equalities_below}
use Rattle.lv_ground.proofs.sentences.ground.Goals as goal

pub new-requires-clause-range : goal.new-requires-clause-range
new-requires-clause-range c = let k = c.requires.skolem in is_ranged k.voc k.sentences c.args.sk.now k.sound k.fit k.skolem

pub new-requires-clause-known : goal.new-requires-clause-known
new-requires-clause-known c = let k = c.requires.skolem in relations_known k.voc k.sentences c.args.sk.now k.sound k.skolem

pub roots-requires-clause-stand : goal.roots-requires-clause-stand
roots-requires-clause-stand c =
    let k = c.requires.skolem in
    sentences_stand k.voc k.sentences c.args.sk.now k.sound k.fit k.skolem c.in_ok-setting.setting c.as_slice.result.now c.in_ok-setting.ensures.same
    c.as_slice.ensures

pub returns-clause-grounded : goal.returns-clause-grounded
returns-clause-grounded c =
    let st = c.in_ok-setting.setting in
    whole_of c.args.sk.now st.sk.now c.args.u.now.terms (numbers st) c.as_slice.result.now c.in_ok-setting.ensures.same
    (ap count_at c.in_ok-setting.ensures.counts ∙ counts_are c.args.u.now.terms) c.as_slice.ensures
    c.in_ok-atoms.atoms.list.items c.roots.new.atoms.list.items c.push_equalities.new.made.atoms.list.items c.in_ok-roots.roots c.new-3.result.items
    c.push_equalities.new.made.clauses.items c.grounded.result
    c.in_ok-atoms.ensures.none c.new-3.ensures.items c.in_ok-roots.ensures.grown c.in_ok-push_equalities.ensures.made c.grounded.ensures.atoms
    c.grounded.ensures.roots c.grounded.ensures.equalities

pub returns-clause-roots : goal.returns-clause-roots
returns-clause-roots c = roots_below c.args.sk.now c.args.u.now.terms c.grounded.result (returns-clause-grounded c)

pub returns-clause-equalities : goal.returns-clause-equalities
returns-clause-equalities c = equalities_below c.args.sk.now c.args.u.now.terms c.grounded.result (returns-clause-grounded c)
