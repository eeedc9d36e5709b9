use Rattle.std.proofs.Common.{◌≡◌, ◌≤◌, length}
use Rattle.crit_pairs.specs.EqualRules.{NameEqual}
use Rattle.crit_pairs.proofs.equal_rules.EqualRules.add.Given as goal

abbrev pub invariant-loop-k : goal.invariant-loop-k
invariant-loop-k l = record {
  equal : NameEqual l.rules l.self.firsts.items;
  numbered : length l.self.firsts.items ≡ l.k;
  within : l.k ≤ length l.rules;
}
