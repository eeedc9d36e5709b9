use Rattle.crit_pairs.proofs.PooledRuleLaws.{whatever_ok, pooled_still}
use Rattle.crit_pairs.proofs.pooled_results.make_results.Goals as goal

pub returns-in-Bound-clause-limits : goal.returns-in-Bound-clause-limits
returns-in-Bound-clause-limits c = rw c.in-Bound.is c.make_bound.ensures.limits

pub returns-in-Shared-clause-pooled : goal.returns-in-Shared-clause-pooled
returns-in-Shared-clause-pooled c =
    whatever_ok c.make_built.result _ (pooled_still c.args.rules.now.rules c.args.pool.now c.make_built.new.pool c.args.sides.now c.args.sides.now.outer c.args.sides.now.inner c.make_built.ensures.kept c.requires.pooled)
