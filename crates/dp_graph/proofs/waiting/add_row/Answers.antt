use Rattle.std.proofs.Common.{get_or, arith, refl}
use Rattle.std.proofs.lemmas.Option.{slice_get-get_or}
use Rattle.dp_graph.specs.GraphConditions.{lists_of}
use Rattle.dp_graph.proofs.ListPlaces.{lists_length}
use Rattle.dp_graph.proofs.WaitingLaws.{no_row_added, row_more, all_row}
use Rattle.dp_graph.proofs.waiting.add_row.Goals as goal

pub loop-j-init : goal.loop-j-init
loop-j-init c = no_row_added c.args.row.now c.args.from c.args.leaders.now (lists_of c.args.blockers.now.items)

pub add_edge-requires : goal.add_edge-requires
add_edge-requires c =
    let x = get_or c.args.row.now c.loop-j.j-index 0 in
    let h = c.requires.leaders x 0 (c.requires.row c.loop-j.j-index 0 c.loop-j-test.true) in
    let count = c.loop-j.invariant.count in
    let a = lists_length c.args.blockers.now.items in
    let b = lists_length c.loop-j.blockers.items in
    omega (arith, h, count, a, b)

pub loop-j-preserved : goal.loop-j-preserved
loop-j-preserved c =
    let i = c.loop-j.j-index in
    let x = get_or c.args.row.now i 0 in
    row_more c.args.row.now c.args.leaders.now c.args.from i x (get_or c.args.leaders.now x 0) (lists_of c.args.blockers.now.items) (lists_of c.loop-j.blockers.items) (lists_of c.add_edge.new.blockers.items) c.loop-j-test.true refl
    (slice_get-get_or c.args.leaders.now x 0 (c.requires.row i 0 c.loop-j-test.true)) c.loop-j.invariant c.in_ok-add_edge.ensures

pub returns : goal.returns
returns c = all_row c.args.row.now c.args.leaders.now c.args.from c.loop-j.j-index (lists_of c.args.blockers.now.items) (lists_of c.loop-j.blockers.items) c.loop-j-test.false c.loop-j.invariant
