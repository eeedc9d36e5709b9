use Rattle.std.proofs.Common.{arith}
use Rattle.trs_caps.specs.HoledTree.{hole, own}
use Rattle.trs_caps.proofs.capping.variable_cap.Goals as goal

pub returns-then-fixed-clause-shape : goal.returns-then-fixed-clause-shape
returns-then-fixed-clause-shape c = c.add.ensures (own c.args.v) (record { nodes = omega (arith, c.symbol.ensures.nodes); holes = c.symbol.ensures.holes })

pub returns-else-fixed-clause-shape : goal.returns-else-fixed-clause-shape
returns-else-fixed-clause-shape c = c.add-else-fixed.ensures hole c.hole.ensures
