use Rattle.lv_model.specs.declared.assigned.Assigned.{Assigned}
use Rattle.lv_model.proofs.Built.{quotient_is_structure, value_built, vocabulary_built, broken_built, few_built, sound_built}
use Rattle.lv_model.proofs.building.build.Goals as goal

pub tabulate-requires-clause-structure : goal.tabulate-requires-clause-structure
tabulate-requires-clause-structure c =
    let st : Assigned = record { sk = c.args.sk; u = c.args.u; g = c.args.g; a = c.args.a } in
    let r = c.requires in
    quotient_is_structure c.args.voc.now st r.sound r.skolem r.universe r.grounded r.satisfied c.in_ok-quotient.quotient c.in_ok-quotient.ensures

pub returns-clause-value : goal.returns-clause-value
returns-clause-value c =
    let st : Assigned = record { sk = c.args.sk; u = c.args.u; g = c.args.g; a = c.args.a } in
    let r = c.requires in
    value_built c.args.voc.now st r.sound r.skolem r.universe r.grounded r.satisfied c.in_ok-quotient.quotient c.in_ok-quotient.ensures
    c.tabulate.result c.tabulate.ensures

pub returns-clause-sound : goal.returns-clause-sound
returns-clause-sound c =
    let st : Assigned = record { sk = c.args.sk; u = c.args.u; g = c.args.g; a = c.args.a } in
    let r = c.requires in
    sound_built c.args.voc.now st r.sound r.skolem r.universe r.grounded r.satisfied c.tabulate.result (returns-clause-value c)

pub returns-clause-vocabulary : goal.returns-clause-vocabulary
returns-clause-vocabulary c =
    let st : Assigned = record { sk = c.args.sk; u = c.args.u; g = c.args.g; a = c.args.a } in
    let r = c.requires in
    vocabulary_built c.args.voc.now st r.sound r.skolem r.universe r.grounded r.satisfied c.tabulate.result (returns-clause-value c)

pub returns-clause-broken : goal.returns-clause-broken
returns-clause-broken c =
    let st : Assigned = record { sk = c.args.sk; u = c.args.u; g = c.args.g; a = c.args.a } in
    let r = c.requires in
    broken_built c.args.voc.now st r.sound r.skolem r.universe r.grounded r.satisfied c.tabulate.result (returns-clause-value c)

pub returns-clause-few : goal.returns-clause-few
returns-clause-few c =
    let st : Assigned = record { sk = c.args.sk; u = c.args.u; g = c.args.g; a = c.args.a } in
    let r = c.requires in
    few_built c.args.voc.now st r.sound r.skolem r.universe r.grounded r.satisfied c.tabulate.result (returns-clause-value c)
