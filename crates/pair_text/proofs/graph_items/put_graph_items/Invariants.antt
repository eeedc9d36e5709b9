use Rattle.std.proofs.Common.{◌≡◌, ◌++◌, map, drop}
use Rattle.std.specs.List.{AllByRecursion}
use Rattle.sexp_core.specs.Items.{items_of}
use Rattle.sexp_core.specs.Printed.{spaced}
use Rattle.dp_graph.specs.GroupOrSingle.{item_of}
use Rattle.pair_text.specs.GraphItems.{printed_item}
use Rattle.pair_text.specs.Ranges.{HasPairs}
use Rattle.pair_text.proofs.graph_items.put_graph_items.Given as goal

abbrev pub invariant-loop-item : goal.invariant-loop-item
invariant-loop-item l = record {
  text :
      l.out.items ++ spaced (items_of (map printed_item (map item_of (drop l.item-index l.items))))
      ≡ l.initial.out.items ++ spaced (items_of (map printed_item (map item_of l.items)));
  range : AllByRecursion HasPairs (map item_of (drop l.item-index l.items)) → AllByRecursion HasPairs (map item_of l.items);
}
