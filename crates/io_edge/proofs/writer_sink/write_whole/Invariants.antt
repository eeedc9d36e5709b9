use Rattle.std.proofs.Common.{◌≡◌, ◌≤◌, ◌-◌, length, take}
use Rattle.std.specs.Io.KnownBytes.{Appends}
use Rattle.io_edge.proofs.writer_sink.write_whole.Given as goal

abbrev pub invariant-loop-written : goal.invariant-loop-written
invariant-loop-written g l =
    (l.written ≤ length l.piece) × Appends (g.W.Outlet.taken l.fn.outlet) (g.W.Outlet.taken l.outlet) (take l.written l.piece)
    × (g.W.Outlet.faults l.outlet ≡ g.W.Outlet.faults l.fn.outlet)

abbrev pub decreases-loop-written : goal.decreases-loop-written
decreases-loop-written g l = length l.piece - l.written
