use Rattle.std.proofs.Common.{◌≡◌, ◌≤◌, ◌+◌, drop}
use Rattle.lv_places.specs.Forms.{forms_of}
use Rattle.lv_places.specs.Universes.{count_at}
use Rattle.lv_places.specs.Sizes.{forms_nodes}
use Rattle.lv_skolem.specs.Counting.{capped}
use Rattle.lv_skolem.proofs.sizing.+nodes.Given as goal

abbrev pub invariant-nodes_of_all-loop-f : goal.invariant-nodes_of_all-loop-f
invariant-nodes_of_all-loop-f l = record {
  small : l.sum ≤ 4000001;
  rest : capped (l.sum + forms_nodes (count_at l.counts) (forms_of (drop l.f-index l.fs))) ≡ capped (forms_nodes (count_at l.counts) (forms_of l.fs));
}
