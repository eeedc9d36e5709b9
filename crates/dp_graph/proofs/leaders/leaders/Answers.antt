use Rattle.std.proofs.Common.{◌≡◌, ◌<◌, ◌+◌, ◌-◌, length, get_or, arith, sym, ap, subst, false, ◌∙◌}
use Rattle.std.proofs.lemmas.Option.{slice_get-get_or}
use Rattle.trs_defs.proofs.Members.{in_of_get}
use Rattle.dp_graph.specs.GraphConditions.{lists_of}
use Rattle.dp_graph.proofs.LeaderLaws.{LedSoFar, none_led, next_led, all_led, leads_lengths}
use Rattle.dp_graph.proofs.ListPlaces.{lists_length, length_repeat}
use Rattle.dp_graph.proofs.leaders.leaders.Goals as goal

pub loop-k-init : goal.loop-k-init
loop-k-init c =
    let first = c.in_ok-leaders.ensures.items_if_clones_equal (λ y e. e) in
    let unset = c.in_ok-flags.ensures.items_if_clones_equal (λ y e. e) in
    let n = length c.args.back.now in
    record {
      leaders = ap length first ∙ length_repeat n 0;
      flags = ap length unset ∙ length_repeat n false;
      low = omega arith;
      led = λ rows are finishes.
          let size : n ≡ length rows = sym (are.count ∙ lists_length c.args.back.now) in
          none_led rows c.args.order.now c.in_ok-leaders.leaders.items c.in_ok-flags.flags.items n n (length c.args.order.now) size size first unset (omega arith);
    }

pub lead_from-requires-clause-place : goal.lead_from-requires-clause-place
lead_from-requires-clause-place c =
    let low = c.loop-k.invariant.low in
    let k = c.loop-k.k - 1 in
    let lt : k < length c.args.order.now = omega (arith, low, c.loop-k-test.true) in
    c.requires (get_or c.args.order.now k 0) (in_of_get c.args.order.now k (get_or c.args.order.now k 0) (slice_get-get_or c.args.order.now k 0 lt))

pub loop-k-preserved : goal.loop-k-preserved
loop-k-preserved c =
    let low = c.loop-k.invariant.low in
    let k = c.loop-k.k - 1 in
    let v = get_or c.args.order.now k 0 in
    let lt : k < length c.args.order.now = omega (arith, low, c.loop-k-test.true) in
    let more : c.loop-k.k ≡ k + 1 = omega (arith, c.loop-k-test.true) in
    let old = c.loop-k.leaders.items in
    let new = c.lead_from.new.leaders.items in
    let flags = c.loop-k.flags.items in
    let set = c.lead_from.new.flags.items in
    let sizes = leads_lengths (lists_of c.args.back.now) v flags set old new c.in_ok-lead_from.ensures in
    record {
      leaders = sizes.0 ∙ c.loop-k.invariant.leaders;
      flags = sizes.1 ∙ c.loop-k.invariant.flags;
      low = omega (arith, lt);
      led = λ rows are finishes.
          next_led rows (lists_of c.args.back.now) are c.args.order.now finishes old new flags set k v (slice_get-get_or c.args.order.now k 0 lt)
          (subst (LedSoFar rows c.args.order.now old flags) more (c.loop-k.invariant.led rows are finishes)) c.in_ok-lead_from.ensures;
    }

pub returns : goal.returns
returns c = λ rows are finishes.
    let none : c.loop-k.k ≡ 0 = omega (arith, c.loop-k-test.false) in
    all_led rows c.args.order.now c.loop-k.leaders.items c.loop-k.flags.items finishes (subst (LedSoFar rows c.args.order.now c.loop-k.leaders.items c.loop-k.flags.items) none (c.loop-k.invariant.led rows are finishes))
