use Rattle.std.proofs.Common.{take}
use Rattle.trsbatch.specs.Problems.{AreBlocksOf}
use Rattle.trsbatch.specs.Placing.{AreInSlots}
use Rattle.trsbatch.proofs.beside.blocks_of.Given as goal

abbrev pub invariant-loop-place : goal.invariant-loop-place
invariant-loop-place g l =
    AreInSlots l.question l.budget l.problems l.slots.items × AreBlocksOf l.question l.budget (take l.place l.problems) l.blocks.items
