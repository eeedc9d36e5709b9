use Rattle.std.proofs.Common.{◌≡◌, map, take}
use Rattle.poly_lin.specs.Subterms.{terms, value_at_one}
use Rattle.poly_lin.proofs.subterms.values_of.Given as goal

abbrev pub invariant-loop-node : goal.invariant-loop-node
invariant-loop-node g l = l.values.items ≡ map (value_at_one (g.T.Coefficients.coefficient l.table)) (terms (take l.node-index l.nodes))
