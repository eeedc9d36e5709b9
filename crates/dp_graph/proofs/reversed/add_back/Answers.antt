use Rattle.std.proofs.Common.{get_or, arith, refl}
use Rattle.dp_graph.specs.GraphConditions.{lists_of}
use Rattle.dp_graph.proofs.FoundLaws.{in_row}
use Rattle.dp_graph.proofs.ListPlaces.{lists_length}
use Rattle.dp_graph.proofs.ReversedLaws.{none_added, one_added, all_added}
use Rattle.dp_graph.proofs.reversed.add_back.Goals as goal

pub loop-j-init : goal.loop-j-init
loop-j-init c = none_added c.args.row.now c.args.i (lists_of c.args.back.now.items)

pub put_behind-requires : goal.put_behind-requires
put_behind-requires c =
    let x = get_or c.args.row.now c.loop-j.j-index 0 in
    let lt = c.requires x (in_row c.args.row.now c.loop-j.j-index x c.loop-j-test.true refl) in
    let size = c.loop-j.invariant.count in
    let a = lists_length c.args.back.now.items in
    let b = lists_length c.loop-j.back.items in
    omega (arith, lt, size, a, b)

pub loop-j-preserved : goal.loop-j-preserved
loop-j-preserved c =
    let x = get_or c.args.row.now c.loop-j.j-index 0 in
    let lt = c.requires x (in_row c.args.row.now c.loop-j.j-index x c.loop-j-test.true refl) in
    let size = c.loop-j.invariant.count in
    let a = lists_length c.args.back.now.items in
    one_added c.args.row.now c.loop-j.j-index c.args.i x (lists_of c.args.back.now.items) (lists_of c.loop-j.back.items) (lists_of c.put_behind.new.lists.items) c.loop-j-test.true refl
    (omega (arith, lt, size, a)) c.loop-j.invariant c.in_ok-put_behind.ensures

pub returns : goal.returns
returns c = all_added c.args.row.now c.loop-j.j-index c.args.i (lists_of c.args.back.now.items) (lists_of c.loop-j.back.items) c.loop-j-test.false c.loop-j.invariant
