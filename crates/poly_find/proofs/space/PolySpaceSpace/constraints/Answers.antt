use Rattle.order_search.specs.OrderSpace.{arity_with_mark}
use Rattle.order_search.proofs.Constraints.{many_constraints}
use Rattle.poly_find.specs.PolySpace.{poly_family}
use Rattle.poly_find.proofs.space.PolySpaceSpace.constraints.Goals as goal

pub returns : goal.returns
returns c = let x = c.args.self.now in many_constraints (poly_family (arity_with_mark x.arities.now)) x.symbols.now x.rules.now x.pairs.now
