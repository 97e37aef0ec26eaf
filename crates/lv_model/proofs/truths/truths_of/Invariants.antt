use Rattle.lv_cnf.specs.Literals.{assignment_of}
use Rattle.lv_model.specs.Truths.{numbers, AreTruths}
use Rattle.lv_model.proofs.Tables.{after}
use Rattle.lv_model.proofs.truths.truths_of.Given as goal

abbrev pub invariant-loop-k : goal.invariant-loop-k
invariant-loop-k l = AreTruths (numbers l.st) (after l.st.g.now.atoms (assignment_of l.st.a.now) l.k) l.head l.sorts l.truths.items
