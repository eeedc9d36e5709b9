use Rattle.std.proofs.Common.{take}
use Rattle.term_pool.specs.Pooled.{Extends}
use Rattle.crit_pairs.specs.PooledTerms.{ArePooledRights}
use Rattle.crit_pairs.proofs.pooled_rules.right_sides.Given as goal

abbrev pub invariant-loop-rule : goal.invariant-loop-rule
invariant-loop-rule l = record {
  sides : ArePooledRights (take l.rule-index l.rules) l.pool l.sides.items;
  kept : Extends l.fn.pool l.pool;
}
