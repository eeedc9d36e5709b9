use Rattle.std.proofs.Common.{◌≡◌, map, take}
use Rattle.pair_theory.specs.DependencyPair.{dependency_pairs}
use Rattle.dp_core.proofs.LeftNumbering.{rule_of}
use Rattle.dp_core.proofs.prepared.Pairs.keeping.Given as goal

abbrev pub invariant-loop-p : goal.invariant-loop-p
invariant-loop-p l = (l.sides.items ≡ take l.p-index (dependency_pairs l.trs.rules)) × (l.numbers.items ≡ take l.p-index (map rule_of l.all))
