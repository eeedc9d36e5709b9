use Rattle.std.proofs.Common.{◌∙◌}
use Rattle.io_edge.proofs.Writing.{written_more}
use Rattle.io_edge.proofs.writer_sink.write_whole.Goals as goal

pub loop-written-preserved : goal.loop-written-preserved
loop-written-preserved g c =
    let so_far = c.loop-written.invariant in
    let more =
    written_more (g.W.Outlet.taken c.args.outlet.now) (g.W.Outlet.taken c.loop-written.outlet) (g.W.Outlet.taken c.write.new.self)
    c.args.piece.now c.loop-written.written c.in-Ok.count so_far.0 so_far.1 c.in-Ok.ensures.bound c.in-Ok.ensures.written in
    (more.0, more.1, c.in-Ok.ensures.faultless ∙ so_far.2)
