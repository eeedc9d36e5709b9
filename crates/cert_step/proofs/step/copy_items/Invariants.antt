use Rattle.std.proofs.Common.{◌≡◌, take}
use Rattle.dp_graph.specs.GroupOrSingle.{items_of}
use Rattle.cert_step.proofs.step.copy_items.Given as goal

abbrev pub invariant-loop-item : goal.invariant-loop-item
invariant-loop-item l = items_of l.copies.items ≡ items_of (take l.item-index l.items)
