use Rattle.lv_model.specs.Quotients.{AreRows}
use Rattle.lv_model.proofs.rows.rows_of.Given as goal

abbrev pub invariant-loop-shape : goal.invariant-loop-shape
invariant-loop-shape l = AreRows l.st l.classes l.shape-index l.st.sk.now.relations l.all.items
