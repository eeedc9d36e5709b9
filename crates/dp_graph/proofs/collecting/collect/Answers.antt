use Rattle.std.proofs.Common.{◌<◌, length, refl, arith}
use Rattle.std.proofs.lemmas.Option.{slice_get_read}
use Rattle.trs_defs.proofs.Members.{in_of_get}
use Rattle.dp_graph.specs.GraphConditions.{lists_of}
use Rattle.dp_graph.proofs.FoundLaws.{begins, goes_on, ends, found_place, some_left}
use Rattle.dp_graph.proofs.collecting.collect.Goals as goal

pub loop-i-init : goal.loop-i-init
loop-i-init c =
    begins (lists_of c.args.rows.now) c.args.flags.now.items c.args.start c.mark.new.flags.items c.mark.new.found.items c.requires.unset (rw c.new-found.ensures.items at c.in_ok-mark.ensures)

pub walk-requires : goal.walk-requires
walk-requires c =
    let lt : c.loop-i.i < length c.loop-i.found.items = omega (arith, c.loop-i-test.true, c.len.ensures) in
    let at = slice_get_read c.loop-i.found.items _ c.loop-i.i c.index.result.now refl lt c.index.ensures in
    let h = found_place (lists_of c.args.rows.now) c.args.flags.now.items c.args.start c.loop-i.flags.items c.loop-i.found.items c.loop-i.i c.index.result.now c.loop-i.invariant
    (in_of_get c.loop-i.found.items c.loop-i.i c.index.result.now at) in
    let size = c.requires.places in
    omega (arith, h, size)

pub loop-i-preserved : goal.loop-i-preserved
loop-i-preserved c =
    let x = c.index.result.now in
    let lt : c.loop-i.i < length c.loop-i.found.items = omega (arith, c.loop-i-test.true, c.len.ensures) in
    let at = slice_get_read c.loop-i.found.items _ c.loop-i.i x refl lt c.index.ensures in
    goes_on (lists_of c.args.rows.now) c.args.flags.now.items c.args.start c.loop-i.flags.items c.walk.new.flags.items c.loop-i.found.items c.walk.new.found.items c.loop-i.i x at c.loop-i.invariant
    c.in_ok-walk.ensures

pub loop-i-smaller : goal.loop-i-smaller
loop-i-smaller c =
    let lt : c.loop-i.i < length c.loop-i.found.items = omega (arith, c.loop-i-test.true, c.len.ensures) in
    let h = some_left (lists_of c.args.rows.now) c.args.flags.now.items c.args.start c.loop-i.flags.items c.loop-i.found.items c.loop-i.i lt c.loop-i.invariant in
    omega (arith, h)

pub returns : goal.returns
returns c =
    ends (lists_of c.args.rows.now) c.args.flags.now.items c.args.start c.loop-i.flags.items c.loop-i.found.items c.loop-i.i (omega (arith, c.loop-i-test.false, c.len.ensures)) c.loop-i.invariant
