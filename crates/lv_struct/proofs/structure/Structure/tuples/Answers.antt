use Rattle.std.proofs.Common.{◌≡◌, true, List, ℕ, AllPairs, ap, sym, subst, ◌∙◌}
use Rattle.std.proofs.lemmas.Result.{IfOk-weaker}
use Rattle.lv_formula.specs.Meaning.{in_range}
use Rattle.lv_struct.specs.Tables.{meaning, size_in}
use Rattle.lv_formula.specs.Tuples.{has_tuple, tuple_lt, tuples_over}
use Rattle.lv_struct.proofs.TupleLaws.{has_tuple-tuples_over, order-tuples_over}
use Rattle.lv_struct.proofs.structure.Structure.tuples.Goals as goal

pub returns-clause-all : goal.returns-clause-all
returns-clause-all c = IfOk-weaker c.tuples_over.result (λ ts. ts ≡ tuples_over (size_in c.args.self.now) c.args.sorts.now)
    (λ ts. (tuple : List ℕ) → has_tuple ts tuple ≡ in_range (meaning c.args.self.now) c.args.sorts.now tuple)
    (λ ts e tuple. ap (λ us. has_tuple us tuple) e ∙ has_tuple-tuples_over (size_in c.args.self.now) c.args.sorts.now tuple)
    c.tuples_over.ensures

pub returns-clause-order : goal.returns-clause-order
returns-clause-order c = IfOk-weaker c.tuples_over.result (λ ts. ts ≡ tuples_over (size_in c.args.self.now) c.args.sorts.now)
    (λ ts. AllPairs (λ a b. tuple_lt a b ≡ true) ts)
    (λ ts e. subst (λ us. AllPairs (λ a b. tuple_lt a b ≡ true) us) (sym e) (order-tuples_over (size_in c.args.self.now) c.args.sorts.now))
    c.tuples_over.ensures
