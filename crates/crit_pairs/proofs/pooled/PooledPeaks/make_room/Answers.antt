use Rattle.std.proofs.Common.{refl}
use Rattle.crit_pairs.proofs.PooledLaws.{held_cut}
use Rattle.crit_pairs.proofs.pooled.PooledPeaks.make_room.Goals as goal

pub returns-then-len-most : goal.returns-then-len-most
returns-then-len-most c = λ peaks held. held_cut peaks c.args.self.now _ refl refl c.release.ensures held
