use Rattle.std.proofs.Common.{◌≡◌, drop, map}
use Rattle.sexp_core.specs.Items.{views}
use Rattle.text_reading.specs.Reading.{many}
use Rattle.text_reading.specs.Seen.{seen, joined}
use Rattle.dp_graph.specs.GroupOrSingle.{item_of}
use Rattle.pair_text.specs.GraphItems.{graph_item}
use Rattle.pair_text.proofs.graph_items.read_graph_items.Given as goal

abbrev pub invariant-loop-item : goal.invariant-loop-item
invariant-loop-item l =
    joined (seen (λ v. map item_of v.items) l.groups) (many graph_item (views (drop l.item-index l.items))) ≡ many graph_item (views l.items)
