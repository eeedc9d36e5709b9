use Rattle.std.proofs.Common.{take}
use Rattle.trsbatch.specs.Problems.{AreBlocksOf}
use Rattle.trsbatch.proofs.beside.blocks_alone.Given as goal

abbrev pub invariant-loop-place : goal.invariant-loop-place
invariant-loop-place g l = AreBlocksOf l.question l.budget (take l.place l.problems) l.blocks.items
