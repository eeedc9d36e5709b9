use Rattle.std.proofs.Common.{◌<◌, ◌≤◌, arith}
use Rattle.lpo_find.specs.LpoSpace.{filter_count}
use Rattle.lpo_find.proofs.FilterLists.{one_filter_more, all_filters}
use Rattle.lpo_find.proofs.filters.arity_filters.Goals as goal

pub loop-number-preserved : goal.loop-number-preserved
loop-number-preserved c =
    let below : c.loop-number.number < filter_count c.args.arity = omega (arith, c.loop-number-test.true, c.filter_count-count.ensures) in
    one_filter_more c.args.arity c.loop-number.number c.in_ok-filter_number.field-0 c.loop-number.filters.items c.push.new.self.items below c.in_ok-filter_number.ensures
    c.in_ok-push.ensures.items c.loop-number.invariant

pub returns : goal.returns
returns c =
    let past : filter_count c.args.arity ≤ c.loop-number.number = omega (arith, c.loop-number-test.false, c.filter_count-count.ensures) in
    all_filters c.args.arity c.loop-number.number c.loop-number.filters.items past c.loop-number.invariant
