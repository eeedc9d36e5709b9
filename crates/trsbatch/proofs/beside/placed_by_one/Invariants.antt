use Rattle.trsbatch.specs.Placing.{ArePlaced}
use Rattle.trsbatch.proofs.beside.placed_by_one.Given as goal

abbrev pub invariant-loop : goal.invariant-loop
invariant-loop g l = ArePlaced l.question l.budget l.problems l.placed
