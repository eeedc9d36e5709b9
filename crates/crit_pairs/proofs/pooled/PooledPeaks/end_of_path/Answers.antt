use Rattle.std.proofs.Common.{refl}
use Rattle.crit_pairs.proofs.PooledLaws.{held_longer, ids_longer}
use Rattle.crit_pairs.proofs.pooled.PooledPeaks.end_of_path.Goals as goal

pub returns-clause-end : goal.returns-clause-end
returns-clause-end c = c.end_in_pool.ensures.end

pub returns-clause-there : goal.returns-clause-there
returns-clause-there c = c.end_in_pool.ensures.there

pub returns-clause-kept : goal.returns-clause-kept
returns-clause-kept c = ids_longer c.args.self.now.pool c.end_in_pool.new.pool c.end_in_pool.ensures.kept

pub returns-clause-peaks : goal.returns-clause-peaks
returns-clause-peaks c = λ peaks held. held_longer peaks c.args.self.now _ refl refl c.end_in_pool.ensures.kept held
