use Rattle.std.proofs.Common.{◌≡◌, take}
use Rattle.label_find.proofs.label.widen.Given as goal

abbrev pub invariant-loop-rank : goal.invariant-loop-rank
invariant-loop-rank l = l.wide.items ≡ take l.rank-index l.ranks
