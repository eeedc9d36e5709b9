use Rattle.std.proofs.Common.{get_or, refl}
use Rattle.dp_graph.proofs.ItemLaws.{one_more_number, all_numbers}
use Rattle.dp_graph.proofs.places.numbers_at.Goals as goal

pub loop-w-preserved : goal.loop-w-preserved
loop-w-preserved c =
    let x = get_or c.args.places.now c.loop-w.w-index 0 in
    one_more_number c.args.problem.now c.args.places.now c.loop-w.numbers.items c.add_number.new.numbers.items c.loop-w.w-index x c.loop-w-test.true refl c.loop-w.invariant c.in_ok-add_number.ensures

pub returns : goal.returns
returns c = all_numbers c.args.problem.now c.args.places.now c.loop-w.numbers.items c.loop-w.w-index c.loop-w-test.false c.loop-w.invariant
