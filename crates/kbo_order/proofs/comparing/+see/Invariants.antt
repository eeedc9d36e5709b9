use Rattle.std.proofs.Common.{◌≡◌, drop, length}
use Rattle.trs_defs.specs.Size.{size_of}
use Rattle.trs_core.specs.View.{tree, forest}
use Rattle.kbo_order.proofs.Walking.{Walk}
use Rattle.kbo_order.proofs.comparing.+see.Given as goal

abbrev pub decreases-see : goal.decreases-see
decreases-see g l = size_of (tree l.s.now)

abbrev pub invariant-loop-i : goal.invariant-loop-i
invariant-loop-i g l = record {
  same_length : length l.a-items ≡ length l.ts-inside.items.items;
  walk : Walk (g.W.Weighting.weights l.order) (g.W.Weighting.ranks l.order) g.row.N l.from (forest l.a-items) (forest l.ts-inside.items.items)
      (forest (drop l.i l.a-items)) (forest (drop l.i l.ts-inside.items.items)) l.seen l.balances;
}
