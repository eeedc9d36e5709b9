use Rattle.std.proofs.Common.{take}
use Rattle.dp_graph.specs.GroupOrSingle.{items_of}
use Rattle.dp_graph.specs.PutOut.{AreItemsOf}
use Rattle.dp_graph.proofs.places.items.Given as goal

abbrev pub invariant-loop-v : goal.invariant-loop-v
invariant-loop-v l = AreItemsOf l.problem l.leaders (take l.v-index l.order) (items_of l.items.items)
