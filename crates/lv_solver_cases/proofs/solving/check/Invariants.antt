use Rattle.lv_solver_cases.proofs.solving.check.Given as goal

abbrev pub ghosts-solve_with : goal.ghosts-solve_with
ghosts-solve_with a = record { name = a.blank.name; parts = a.blank.parts }
