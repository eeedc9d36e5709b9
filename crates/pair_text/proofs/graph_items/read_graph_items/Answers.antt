use Rattle.std.proofs.Common.{map}
use Rattle.text_reading.specs.Seen.{seen}
use Rattle.text_reading.proofs.SeenParts.{seen_pushed, one_more}
use Rattle.dp_graph.specs.GroupOrSingle.{item_of}
use Rattle.pair_text.specs.GraphItems.{graph_item}
use Rattle.pair_text.proofs.graph_items.read_graph_items.Goals as goal

pub loop-item-preserved : goal.loop-item-preserved
loop-item-preserved c =
    let more = seen_pushed item_of c.push.new.values c.loop-item.groups c.in_ok-read_graph_item.field-0 _ c.in_ok-push.ensures c.in_ok-read_graph_item.ensures in
    one_more graph_item (seen (λ v. map item_of v.items) c.loop-item.groups) _ c.args.items.now c.item-item.result c.loop-item.item-index _ c.loop-item-test.true c.item-item.is more c.loop-item.invariant
