use Rattle.std.proofs.Common.{get_or, arith, refl}
use Rattle.dp_graph.proofs.FoundLaws.{in_row}
use Rattle.dp_graph.proofs.LeaderLaws.{none_first, one_more_first, all_first}
use Rattle.dp_graph.proofs.leaders.lead.Goals as goal

pub loop-w-init : goal.loop-w-init
loop-w-init c = none_first c.args.component.now c.least-least.result c.args.leaders.now.items

pub index_mut-requires : goal.index_mut-requires
index_mut-requires c =
    let x = get_or c.args.component.now c.loop-w.w-index 0 in
    let lt = c.requires.within x (in_row c.args.component.now c.loop-w.w-index x c.loop-w-test.true refl) in
    let size = c.loop-w.invariant.count in
    omega (arith, lt, size)

pub loop-w-preserved : goal.loop-w-preserved
loop-w-preserved c =
    let i = c.loop-w.w-index in
    let x = get_or c.args.component.now i 0 in
    let lt = c.requires.within x (in_row c.args.component.now i x c.loop-w-test.true refl) in
    let size = c.loop-w.invariant.count in
    one_more_first c.args.component.now c.least-least.result c.args.leaders.now.items c.loop-w.leaders.items i x c.loop-w-test.true refl (omega (arith, lt, size)) c.loop-w.invariant

pub returns : goal.returns
returns c =
    all_first c.args.component.now c.least-least.result c.args.leaders.now.items c.loop-w.leaders.items c.loop-w.w-index c.loop-w-test.false c.least-least.ensures.there c.least-least.ensures.least c.loop-w.invariant
