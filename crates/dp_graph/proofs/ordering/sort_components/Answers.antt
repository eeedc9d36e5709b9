use Rattle.std.proofs.Common.{◌<◌, length, arith, ap, subst}
use Rattle.std.proofs.lemmas.Option.{slice_get_within}
use Rattle.dp_graph.specs.GraphConditions.{lists_of}
use Rattle.dp_graph.specs.Waiting.{TakesOut}
use Rattle.dp_graph.proofs.ListPlaces.{row_at, lists_length, length_more, all_of_each}
use Rattle.dp_graph.proofs.ItemLaws.{led_place, place_led}
use Rattle.dp_graph.proofs.OrderLaws.{starts, goes_on, ends, room, leads_itself_now, blockers_count, out_count, leaders_within}
use Rattle.dp_graph.proofs.ordering.sort_components.Goals as goal

pub loop-v-init : goal.loop-v-init
loop-v-init c = starts c.args.pairs (lists_of c.args.rows.now) c.args.leaders.now c.requires.leaders c.new-order.result.items c.in_ok-waiting.waiting c.new-order.ensures.items c.in_ok-waiting.ensures

pub returns : goal.returns
returns c =
    ends c.args.pairs (lists_of c.args.rows.now) c.args.leaders.now c.requires.leaders c.loop-v.order.items c.loop-v.waiting c.take_ready.new.self c.loop-v.invariant
    (subst (TakesOut c.args.pairs c.loop-v.waiting c.take_ready.new.self) c.in_default.is c.take_ready.ensures)

pub new-requires-clause-leaders : goal.new-requires-clause-leaders
new-requires-clause-leaders c =
    all_of_each (λ l. l < length c.args.leaders.now) c.args.leaders.now (leaders_within (lists_of c.args.rows.now) c.args.leaders.now c.requires.leaders)

pub bounds-led-v : goal.bounds-led-v
bounds-led-v c =
    let own = leads_itself_now c.args.pairs (lists_of c.args.rows.now) c.args.leaders.now c.requires.leaders c.loop-v.order.items c.loop-v.waiting c.take_ready.new.self c.loop-v.invariant c.in-Some.v
    c.in-Some.ensures in
    let lt = slice_get_within c.args.leaders.now c.in-Some.v c.in-Some.v own in
    let count = c.requires.led.count in
    let size = lists_length c.args.led.now in
    omega (arith, lt, count, size)

pub release-requires-clause-leaders : goal.release-requires-clause-leaders
release-requires-clause-leaders c =
    all_of_each (λ l. l < length c.take_ready.new.self.blockers.items) c.args.leaders.now
    (λ l i.
    let h = leaders_within (lists_of c.args.rows.now) c.args.leaders.now c.requires.leaders l i in
    let b = blockers_count c.args.pairs (lists_of c.args.rows.now) c.args.leaders.now c.requires.leaders c.loop-v.order.items c.loop-v.waiting c.take_ready.new.self c.loop-v.invariant c.in-Some.v
    c.in-Some.ensures in
    omega (arith, h, b))

pub release-requires-clause-leader : goal.release-requires-clause-leader
release-requires-clause-leader c =
    let own = leads_itself_now c.args.pairs (lists_of c.args.rows.now) c.args.leaders.now c.requires.leaders c.loop-v.order.items c.loop-v.waiting c.take_ready.new.self c.loop-v.invariant c.in-Some.v
    c.in-Some.ensures in
    let lt = slice_get_within c.args.leaders.now c.in-Some.v c.in-Some.v own in
    let outs = out_count c.args.pairs (lists_of c.args.rows.now) c.args.leaders.now c.requires.leaders c.loop-v.order.items c.loop-v.waiting c.take_ready.new.self c.loop-v.invariant c.in-Some.v
    c.in-Some.ensures in
    omega (arith, lt, outs)

pub release-requires-clause-places : goal.release-requires-clause-places
release-requires-clause-places c =
    let own = leads_itself_now c.args.pairs (lists_of c.args.rows.now) c.args.leaders.now c.requires.leaders c.loop-v.order.items c.loop-v.waiting c.take_ready.new.self c.loop-v.invariant c.in-Some.v
    c.in-Some.ensures in
    let lt = slice_get_within c.args.leaders.now c.in-Some.v c.in-Some.v own in
    let count = c.requires.led.count in
    let size = lists_length c.args.led.now in
    let total = c.requires.leaders.count in
    let rows = lists_length c.args.rows.now in
    let at = row_at c.args.led.now c.in-Some.v c.index-led-v.result (omega (arith, lt, count, size)) c.index-led-v.is in
    rw c.deref.ensures.value
    (all_of_each (λ w. w < length c.args.rows.now) c.index-led-v.result.items
    (λ w i.
    let h = slice_get_within c.args.leaders.now w c.in-Some.v (led_place c.args.leaders.now (lists_of c.args.led.now) c.requires.led c.in-Some.v c.index-led-v.result.items at w i) in
    omega (arith, h, total, rows)))

pub loop-v-smaller : goal.loop-v-smaller
loop-v-smaller c =
    let r = room c.args.pairs (lists_of c.args.rows.now) c.args.leaders.now c.requires.leaders c.loop-v.order.items c.loop-v.waiting c.take_ready.new.self c.loop-v.invariant c.in-Some.v
    c.in-Some.ensures in
    let a = ap length c.in_ok-push.ensures.items in
    let b = length_more c.loop-v.order.items c.in-Some.v in
    omega (arith, r, a, b)

pub loop-v-preserved : goal.loop-v-preserved
loop-v-preserved c =
    let own = leads_itself_now c.args.pairs (lists_of c.args.rows.now) c.args.leaders.now c.requires.leaders c.loop-v.order.items c.loop-v.waiting c.take_ready.new.self c.loop-v.invariant c.in-Some.v
    c.in-Some.ensures in
    let lt = slice_get_within c.args.leaders.now c.in-Some.v c.in-Some.v own in
    let count = c.requires.led.count in
    let size = lists_length c.args.led.now in
    let at = row_at c.args.led.now c.in-Some.v c.index-led-v.result (omega (arith, lt, count, size)) c.index-led-v.is in
    goes_on c.args.pairs (lists_of c.args.rows.now) c.args.leaders.now c.requires.leaders c.loop-v.order.items c.loop-v.waiting c.take_ready.new.self c.loop-v.invariant c.in-Some.v c.in-Some.ensures
    c.release.new.self c.index-led-v.result.items (λ w. (
      λ e. place_led c.args.leaders.now (lists_of c.args.led.now) c.requires.led c.in-Some.v c.index-led-v.result.items at w e,
      λ i. led_place c.args.leaders.now (lists_of c.args.led.now) c.requires.led c.in-Some.v c.index-led-v.result.items at w i,
    ))
    (rw c.deref.ensures.value at c.in_ok-release.ensures) c.push.new.self.items c.in_ok-push.ensures.items
