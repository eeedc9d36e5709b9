use Rattle.std.proofs.Common.{◌≡◌, ◌≤◌, get_or, length, arith, subst}
use Rattle.std.proofs.lemmas.Option.{slice_get-get_or}
use Rattle.dp_graph.specs.GraphConditions.{lists_of}
use Rattle.dp_graph.proofs.ListPlaces.{lists_length}
use Rattle.dp_graph.proofs.RowLaws.{LedSoFar, none_led_yet, one_more_row, from_rule, are_rows}
use Rattle.dp_graph.proofs.rows.rows.Goals as goal

pub loop-i-init : goal.loop-i-init
loop-i-init c = record {
  low = omega arith;
  led = none_led_yet c.args.graph.now c.args.problem.now c.in_ok-rules.rules.by_root (record { rows = c.in_ok-rules.rules.rows; places = c.new.result }) c.new.ensures.empty;
}

pub lead-requires : goal.lead-requires
lead-requires c =
    let n = c.loop-i.invariant.led.longer in
    let low = c.in_ok-rules.ensures.low in
    let a = lists_length c.in_ok-rules.rules.rows.items in
    let b = lists_length c.loop-i.rights.rows.items in
    omega (arith, n, low, a, b, c.loop-i-test.true)

pub loop-i-preserved : goal.loop-i-preserved
loop-i-preserved c =
    let i = c.loop-i.i in
    let before = lists_of c.in_ok-rules.rules.rows.items in
    let whole : length c.args.problem.now ≤ length before = (let low = c.in_ok-rules.ensures.low in let a = lists_length c.in_ok-rules.rules.rows.items in omega (arith, low, a)) in
    record {
      low = omega (arith, c.loop-i-test.true);
      led = one_more_row c.args.graph.now c.args.problem.now c.in_ok-rules.rules.by_root before whole (λ k j f. (from_rule c.args.graph.now c.args.problem.now c.in_ok-rules.rules c.in_ok-rules.ensures k j f).0)
          i (get_or c.args.problem.now i 0) c.loop-i.rights c.lead.new.self (slice_get-get_or c.args.problem.now i 0 c.loop-i-test.true) c.in_ok-lead.ensures.valid c.in_ok-lead.ensures.symbols c.in_ok-lead.ensures.leads
          c.loop-i.invariant.led;
    }

pub returns : goal.returns
returns c =
    let low = c.loop-i.invariant.low in
    let same : c.loop-i.i ≡ length c.args.problem.now = omega (arith, low, c.loop-i-test.false) in
    are_rows c.args.graph.now c.args.problem.now c.in_ok-rules.rules c.in_ok-rules.ensures c.loop-i.rights
    (subst (LedSoFar c.args.graph.now c.args.problem.now c.in_ok-rules.rules.by_root (lists_of c.in_ok-rules.rules.rows.items) c.loop-i.rights) same c.loop-i.invariant.led)
