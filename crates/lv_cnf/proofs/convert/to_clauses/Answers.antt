use Rattle.std.proofs.Common.{rules, ◌≡◌, ◌+◌, ℕ, List, subst}
use Rattle.std.specs.Prelude.{◌↔◌}
use Rattle.std.specs.List.{All}
use Rattle.lv_cnf.specs.declared.literal.Lit.{Lit}
use Rattle.lv_cnf.specs.Literals.{InRange, IsSatisfiable}
use Rattle.lv_cnf.specs.Nodes.{plains, inners, clauses_of, AreSatisfiable, with_nodes}
use Rattle.lv_cnf.proofs.Nodes.{nodes_solve, solution_holds}
use Rattle.lv_cnf.proofs.Ranges.{clauses_below}
use Rattle.lv_cnf.proofs.convert.to_clauses.Goals as goal

pub returns-clause-range : goal.returns-clause-range
returns-clause-range c =
    let n = c.args.atoms in
    let roots = plains c.args.roots.now in
    let equalities = c.args.equalities.now in
    let list : clauses_of n roots equalities ≡ c.from_vec.result = search rules in
    let vars : n + inners roots ≡ c.in_ok-vars.vars = search rules in
    subst (λ (xs : List (List Lit)). All (InRange c.in_ok-vars.vars) xs) list
    (subst (λ (m : ℕ). All (InRange m) (clauses_of n roots equalities)) vars (clauses_below n roots equalities c.requires.roots c.requires.equalities))

pub returns-clause-satisfiable : goal.returns-clause-satisfiable
returns-clause-satisfiable c =
    let n = c.args.atoms in
    let roots = plains c.args.roots.now in
    let equalities = c.args.equalities.now in
    let list : clauses_of n roots equalities ≡ c.from_vec.result = search rules in
    subst (λ (xs : List (List Lit)). IsSatisfiable xs ↔ AreSatisfiable roots equalities) list (
      (λ s. (s.0, solution_holds n s.0 roots equalities s.1)),
      (λ s. (with_nodes n s.0 roots, nodes_solve n s.0 roots equalities c.requires.roots c.requires.equalities s.1.0 s.1.1)),
    )
