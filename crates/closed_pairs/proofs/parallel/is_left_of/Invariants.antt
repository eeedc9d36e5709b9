use Rattle.std.proofs.Common.{◌↔◌, drop}
use Rattle.closed_pairs.specs.LeftOf.{IsLeftOf}
use Rattle.closed_pairs.proofs.parallel.is_left_of.Given as goal

abbrev pub invariant-loop-i : goal.invariant-loop-i
invariant-loop-i l = (IsLeftOf (drop l.i l.p) (drop l.i l.q)) ↔ (IsLeftOf l.p l.q)
