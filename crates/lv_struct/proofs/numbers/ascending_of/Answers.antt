use Rattle.std.proofs.Common.{sym, subst}
use Rattle.std.proofs.lemmas.Bool.{MatchBool-at_true}
use Rattle.std.proofs.lemmas.List.Sorted.{IsNonDecreasingBy-from_sort, non_decreasing_from_is_sorted}
use Rattle.lv_struct.specs.Numbers.{IsIndex}
use Rattle.lv_struct.proofs.NumberLaws.{index_of_itself, index_by_sorting}
use Rattle.lv_struct.proofs.numbers.ascending_of.Goals as goal

pub returns-then-is_sorted : goal.returns-then-is_sorted
returns-then-is_sorted c = index_of_itself c.args.numbers.now (MatchBool-at_true _ _ c.if-is_sorted.true (non_decreasing_from_is_sorted c.args.numbers.now c.is_sorted.result c.is_sorted.ensures.cases))

pub returns : goal.returns
returns c = subst (λ ks. IsIndex c.args.numbers.now ks) (sym c.from_vec.ensures)
    (subst (λ ks. IsIndex ks c.sort.new.self.items) c.in_ok-ascending.ensures.items
    (index_by_sorting c.in_ok-ascending.ascending.items c.sort.new.self.items c.in_ok-sort.ensures.permutation (IsNonDecreasingBy-from_sort (λ x. x) c.sort.new.self.items c.in_ok-sort.ensures.sorted)))
