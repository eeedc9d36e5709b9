use Rattle.std.proofs.Common.{get_or, length, arith, refl}
use Rattle.dp_graph.specs.GraphConditions.{lists_of}
use Rattle.dp_graph.proofs.ItemLaws.{none_led_before, one_more_led, all_led_lists}
use Rattle.dp_graph.proofs.ListPlaces.{lists_length}
use Rattle.dp_graph.proofs.places.list_led.Goals as goal

pub loop-w-init : goal.loop-w-init
loop-w-init c = record {
  low = omega arith;
  led = none_led_before c.args.leaders.now (lists_of c.in_ok-led.led.items) (length c.args.leaders.now) refl c.in_ok-led.ensures;
}

pub put_behind-requires : goal.put_behind-requires
put_behind-requires c =
    let lt = c.requires c.loop-w.w 0 c.loop-w-test.true in
    let count = c.loop-w.invariant.led.count in
    let size = lists_length c.loop-w.led.items in
    omega (arith, lt, count, size)

pub loop-w-preserved : goal.loop-w-preserved
loop-w-preserved c =
    let w = c.loop-w.w in
    let l = get_or c.args.leaders.now w 0 in
    let lt = c.requires w 0 c.loop-w-test.true in
    let count = c.loop-w.invariant.led.count in
    record {
      low = omega (arith, c.loop-w-test.true);
      led = one_more_led c.args.leaders.now (lists_of c.loop-w.led.items) (lists_of c.put_behind.new.lists.items) w l c.loop-w-test.true refl (omega (arith, lt, count)) c.in_ok-put_behind.ensures
          c.loop-w.invariant.led;
    }

pub returns : goal.returns
returns c = all_led_lists c.args.leaders.now (lists_of c.loop-w.led.items) c.loop-w.w c.loop-w-test.false c.loop-w.invariant.low c.loop-w.invariant.led
