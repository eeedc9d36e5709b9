use Rattle.term_pool.proofs.Extending.{undone}
use Rattle.term_pool.proofs.pools.Pool.reach_knowing.Goals as goal

pub returns-in-Err-clause-unchanged : goal.returns-in-Err-clause-unchanged
returns-in-Err-clause-unchanged c = undone c.args.self.now c.search.new.self c.release.new.self c.mark-mark.result c.mark-mark.ensures c.in-Err.ensures.kept c.release.ensures
