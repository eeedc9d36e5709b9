use Rattle.std.proofs.Common.{take}
use Rattle.crit_pairs.specs.WholeSides.{AreWholeSides}
use Rattle.crit_pairs.proofs.whole_sides.whole_sides.Given as goal

abbrev pub invariant-loop-k : goal.invariant-loop-k
invariant-loop-k l = AreWholeSides (take l.k l.rules) l.sides.items
