use Rattle.std.proofs.Common.{◌≡◌, ◌<◌, All, map, take}
use Rattle.trs_core.specs.View.{tree}
use Rattle.term_pool.specs.Outlines.{part_variable}
use Rattle.term_pool.proofs.outlining.part_ids.Given as goal

abbrev pub invariant-loop-item : goal.invariant-loop-item
invariant-loop-item l = record {
  variables : map part_variable l.ids.items ≡ map tree (take l.item-index l.items);
  below : All (λ id. id < l.parts) l.ids.items;
}
