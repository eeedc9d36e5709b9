use Rattle.std.proofs.Common.{length, arith, sym}
use Rattle.dp_graph.specs.GraphConditions.{lists_of}
use Rattle.dp_graph.proofs.ListPlaces.{lists_length, row_at}
use Rattle.dp_graph.proofs.ReversedLaws.{no_back, next_back, all_back}
use Rattle.dp_graph.proofs.reversed.reverse.Goals as goal

pub loop-i-init : goal.loop-i-init
loop-i-init c = no_back (lists_of c.args.rows.now) (lists_of c.in_ok-back.back.items) (length c.args.rows.now) (sym (lists_length c.args.rows.now)) c.in_ok-back.ensures

pub add_back-requires : goal.add_back-requires
add_back-requires c = λ j i.
    let row = c.index-rows-i.result in
    let at = row_at c.args.rows.now c.loop-i.i row c.loop-i-test.true c.index-rows-i.is in
    let lt = c.requires c.loop-i.i j (row.items, at, rw c.deref.ensures.value at i) in
    let size = c.loop-i.invariant.count in
    let b = lists_length c.loop-i.back.items in
    omega (arith, lt, size, b)

pub loop-i-preserved : goal.loop-i-preserved
loop-i-preserved c =
    let row = c.index-rows-i.result in
    next_back (lists_of c.args.rows.now) (lists_of c.loop-i.back.items) (lists_of c.add_back.new.back.items) c.loop-i.i row.items (row_at c.args.rows.now c.loop-i.i row c.loop-i-test.true c.index-rows-i.is)
    (rw c.deref.ensures.value at c.in_ok-add_back.ensures) c.loop-i.invariant

pub returns : goal.returns
returns c =
    let size = lists_length c.args.rows.now in
    all_back (lists_of c.args.rows.now) (lists_of c.loop-i.back.items) c.loop-i.i (omega (arith, size, c.loop-i-test.false)) c.requires c.loop-i.invariant
