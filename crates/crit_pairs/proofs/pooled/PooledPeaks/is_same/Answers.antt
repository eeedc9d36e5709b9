use Rattle.crit_pairs.proofs.PooledLaws.{same_ids}
use Rattle.crit_pairs.proofs.pooled.PooledPeaks.is_same.Goals as goal

pub returns : goal.returns
returns c = same_ids c.args.self.now.pool c.args.first c.args.second c.ids_are_distinct.ensures c.requires.first c.requires.second
