use Rattle.std.proofs.Common.{◌≡◌, ◌+◌, ◌≤◌, ◌∷◌, true, false, drop}
use Rattle.lv_formula.specs.Measures.{depth_of, depth_of_all}
use Rattle.lv_struct.specs.Tables.{meaning}
use Rattle.lv_formula.specs.Truth.{truth_in, all_true_in, any_true_in, all_below, any_below}
use Rattle.lv_eval.proofs.evaluate.+truth.Given as goal

abbrev pub invariant-all_hold-loop-f : goal.invariant-all_hold-loop-f
invariant-all_hold-loop-f l = record {
  same : l.env ≡ l.initial.env;
  room : depth_of_all (drop l.f-index l.fs) ≤ l.env.room;
  rest : all_true_in (meaning l.m) (drop l.f-index l.fs) l.initial.env.values ≡ all_true_in (meaning l.m) l.fs l.initial.env.values;
}

abbrev pub invariant-any_holds-loop-f : goal.invariant-any_holds-loop-f
invariant-any_holds-loop-f l = record {
  same : l.env ≡ l.initial.env;
  room : depth_of_all (drop l.f-index l.fs) ≤ l.env.room;
  rest : any_true_in (meaning l.m) (drop l.f-index l.fs) l.initial.env.values ≡ any_true_in (meaning l.m) l.fs l.initial.env.values;
}

abbrev pub invariant-holds_for_all-loop-x : goal.invariant-holds_for_all-loop-x
invariant-holds_for_all-loop-x l = record {
  same : l.env ≡ l.initial.env;
  room : depth_of l.f + 1 ≤ l.env.room;
  so_far : all_below l.x (λ x. truth_in (meaning l.m) l.f (x ∷ l.initial.env.values)) ≡ true;
}

abbrev pub invariant-holds_for_any-loop-witness : goal.invariant-holds_for_any-loop-witness
invariant-holds_for_any-loop-witness l = record {
  same : l.env ≡ l.initial.env;
  room : depth_of l.f + 1 ≤ l.env.room;
  so_far : any_below l.witness (λ x. truth_in (meaning l.m) l.f (x ∷ l.initial.env.values)) ≡ false;
}
