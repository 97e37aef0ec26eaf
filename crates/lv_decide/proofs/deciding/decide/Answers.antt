use Rattle.std.proofs.Common.{◌≡◌, subst}
use Rattle.lv_sat.specs.Verdict.{VerdictIs}
use Rattle.lv_decide.proofs.Decided.{breaking, few_variables, ground_clauses_are, unbroken}
use Rattle.lv_decide.proofs.deciding.decide.Goals as goal

pub ground_clauses-requires-clause-few : goal.ground_clauses-requires-clause-few
ground_clauses-requires-clause-few c =
    let r = c.requires in
    few_variables c.args.voc.now c.args.s.now c.in_ok-sk.sk r.sound r.fit c.in_ok-sk.ensures r.stratified r.small c.in_ok-u.u.terms c.in_ok-u.ensures
    c.in_ok-g.g c.in_ok-g.ensures.grounded

pub returns-in-Unsat : goal.returns-in-Unsat
returns-in-Unsat c =
    let r = c.requires in
    let clauses = c.in_ok-clauses.clauses in
    unbroken c.args.voc.now c.args.s.now c.in_ok-sk.sk r.sound r.fit c.in_ok-sk.ensures r.stratified r.small c.in_ok-u.u.terms c.in_ok-u.ensures
    c.in_ok-g.g c.in_ok-g.ensures.grounded clauses c.in_ok-clauses.ensures.list
    (subst (VerdictIs clauses c.args.budget) c.in-Unsat.is c.in_ok-solved.ensures)

pub build-requires-clause-skolem : goal.build-requires-clause-skolem
build-requires-clause-skolem c = record { sentences = c.args.s.now; fit = c.requires.fit; skolem = c.in_ok-sk.ensures }

pub returns-in-Sat : goal.returns-in-Sat
returns-in-Sat c =
    let r = c.requires in
    let built = c.in_ok-build-in-Sat.ensures in
    breaking c.args.voc.now c.args.s.now c.in_ok-sk.sk r.sound r.fit c.in_ok-sk.ensures r.stratified r.small c.in_ok-u.u.terms c.in_ok-u.ensures
    c.in_ok-build-in-Sat.field-0 built.sound built.vocabulary (built.broken c.args.s.now r.fit c.in_ok-sk.ensures) built.few

pub returns : goal.returns
returns c =
    let r = c.requires in
    let clauses = c.in_ok-clauses.clauses in
    let spent = subst (VerdictIs clauses c.args.budget) c.in-Spent.is c.in_ok-solved.ensures in
    record {
      clauses = clauses;
      made = ground_clauses_are c.args.voc.now c.args.s.now c.in_ok-sk.sk r.sound r.fit c.in_ok-sk.ensures r.stratified r.small
          c.in_ok-u.u.terms c.in_ok-u.ensures c.in_ok-g.g c.in_ok-g.ensures.grounded clauses c.in_ok-clauses.ensures.vars c.in_ok-clauses.ensures.list;
      learned = spent.0;
      few = spent.1;
    }
