use Rattle.std.proofs.Common.{take}
use Rattle.io_edge.specs.Shelf.{CanAskAgain}
use Rattle.program_edge.specs.Words.{texts}
use Rattle.trsbatch.specs.Problems.{AreFetched, TouchesOnly}
use Rattle.trsbatch.proofs.problem.fetch_problems.Given as goal

abbrev pub invariant-loop-name : goal.invariant-loop-name
invariant-loop-name g l =
    AreFetched (g.S.Shelf.means l.fn.shelf) (g.S.Shelf.means l.shelf) (take l.name-index l.names) l.problems.items
    × TouchesOnly (texts l.names) (g.S.Shelf.means l.fn.shelf) (g.S.Shelf.means l.shelf)
    × CanAskAgain (g.S.Shelf.means l.fn.shelf) (g.S.Shelf.means l.shelf)
