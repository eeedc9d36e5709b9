use Rattle.std.proofs.Common.{length}
use Rattle.program_edge.proofs.PuttingLines.{SoFar}
use Rattle.program_edge.proofs.pieces.put_lines.Given as goal

abbrev pub invariant-loop-line : goal.invariant-loop-line
invariant-loop-line g l = SoFar l.text (g.K.Sink.means l.fn.out) (g.K.Sink.means l.out) l.rest

abbrev pub decreases-loop-line : goal.decreases-loop-line
decreases-loop-line g l = length l.rest
