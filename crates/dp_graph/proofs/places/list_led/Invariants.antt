use Rattle.std.proofs.Common.{◌≤◌, length}
use Rattle.dp_graph.specs.GraphConditions.{lists_of}
use Rattle.dp_graph.proofs.ItemLaws.{LedBefore}
use Rattle.dp_graph.proofs.places.list_led.Given as goal

abbrev pub invariant-loop-w : goal.invariant-loop-w
invariant-loop-w l = record {
  low : l.w ≤ length l.leaders;
  led : LedBefore l.leaders (lists_of l.led.items) l.w;
}
