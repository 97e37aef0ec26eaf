use Rattle.std.proofs.Common.{◌≡◌, ◌<◌, Some, subst, sym, ◌∙◌}
use Rattle.lv_formula.specs.declared.symbols.SortId.{SortId}
use Rattle.lv_struct.specs.Tables.{size_in}
use Rattle.lv_reading.proofs.StructureSteps.{constant_below}
use Rattle.lv_reading.proofs.structures.with_constant.Goals as goal

same_sort : (a b : SortId) → Some a ≡ Some b → a ≡ b
same_sort a b e = cc

pub with_constant-requires : goal.with_constant-requires
with_constant-requires c = record {
  in_range = λ x is.
      let same = same_sort c.args.sort x (sym c.requires ∙ is) in
      let below = constant_below c.size.result c.args.name.now c.args.tree.now c.in_ok-element.element c.in_ok-element.ensures in
      subst (λ s. c.in_ok-element.element < size_in c.args.m.now s) same (subst (λ n. c.in_ok-element.element < n) c.size.ensures.value below);
}
