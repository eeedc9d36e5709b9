use Rattle.poly_lin.proofs.Numbering.{AreNumbered}
use Rattle.poly_lin.proofs.listing.Listing.+add.Given as goal

abbrev pub invariant-loop-arg : goal.invariant-loop-arg
invariant-loop-arg l = AreNumbered l.fn.self.nodes.items l.self.nodes.items l.arg-items l.numbers.items l.arg-index
