use Rattle.std.proofs.Common.{get_or, refl, arith}
use Rattle.std.proofs.lemmas.Option.{slice_get_within}
use Rattle.dp_graph.proofs.ItemLaws.{no_items_yet, one_more_item, all_items}
use Rattle.dp_graph.proofs.ListPlaces.{row_at, lists_length}
use Rattle.dp_graph.proofs.places.items.Goals as goal

pub loop-v-init : goal.loop-v-init
loop-v-init c = no_items_yet c.args.problem.now c.args.leaders.now c.args.order.now c.new-items.result.items c.new-items.ensures.items

pub bounds-led-v : goal.bounds-led-v
bounds-led-v c =
    let v = get_or c.args.order.now c.loop-v.v-index 0 in
    let own = c.requires.order c.loop-v.v-index 0 c.loop-v-test.true in
    let lt = slice_get_within c.args.leaders.now v v own in
    let count = c.requires.led.count in
    let size = lists_length c.args.led.now in
    omega (arith, lt, count, size)

pub loop-v-preserved : goal.loop-v-preserved
loop-v-preserved c =
    let v = get_or c.args.order.now c.loop-v.v-index 0 in
    let own = c.requires.order c.loop-v.v-index 0 c.loop-v-test.true in
    let lt = slice_get_within c.args.leaders.now v v own in
    let count = c.requires.led.count in
    let size = lists_length c.args.led.now in
    let at = row_at c.args.led.now v c.index-led-v.result (omega (arith, lt, count, size)) c.index-led-v.is in
    one_more_item c.args.problem.now c.args.leaders.now c.args.order.now c.loop-v.items.items c.add_item.new.items.items c.loop-v.v-index v c.loop-v-test.true refl
    (c.in_ok-add_item.ensures c.args.leaders.now c.requires.places own (rw c.deref.ensures.value (c.requires.led.each v c.index-led-v.result.items at))) c.loop-v.invariant

pub returns : goal.returns
returns c = all_items c.args.problem.now c.args.leaders.now c.args.order.now c.loop-v.items.items c.loop-v.v-index c.loop-v-test.false c.loop-v.invariant
