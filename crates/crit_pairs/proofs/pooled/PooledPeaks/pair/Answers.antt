use Rattle.crit_pairs.proofs.PooledLaws.{sides_there}
use Rattle.crit_pairs.proofs.pooled.PooledPeaks.pair.Goals as goal

pub returns : goal.returns
returns c = λ peaks p held there. sides_there peaks p c.args.self.now c.args.n _ c.index.ensures c.requires held there
