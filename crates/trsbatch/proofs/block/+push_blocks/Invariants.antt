use Rattle.std.proofs.Common.{length}
use Rattle.trsbatch.proofs.block.+push_blocks.Given as goal

abbrev pub decreases-push_blocks : goal.decreases-push_blocks
decreases-push_blocks l = length l.problems.now
