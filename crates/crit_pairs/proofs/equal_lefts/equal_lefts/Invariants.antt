use Rattle.std.proofs.Common.{◌≡◌, length}
use Rattle.crit_pairs.specs.EqualLefts.{NameEqualLefts}
use Rattle.crit_pairs.proofs.equal_lefts.equal_lefts.Given as goal

abbrev pub invariant-loop-k : goal.invariant-loop-k
invariant-loop-k l = record {
  equal : NameEqualLefts l.rules l.firsts.items;
  numbered : length l.firsts.items ≡ l.k;
}
