use Rattle.std.proofs.Common.{take}
use Rattle.crit_pairs.specs.Apart.{AreApartLefts}
use Rattle.crit_pairs.proofs.apart_left.apart_lefts.Given as goal

abbrev pub invariant-loop-k : goal.invariant-loop-k
invariant-loop-k l = AreApartLefts (take l.k l.rules) l.lefts.items
