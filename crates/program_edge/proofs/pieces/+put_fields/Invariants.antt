use Rattle.std.proofs.Common.{length}
use Rattle.program_edge.proofs.pieces.+put_fields.Given as goal

abbrev pub decreases-put_fields : goal.decreases-put_fields
decreases-put_fields g l = length l.fields.now
