use Rattle.std.proofs.Common.{◌-◌, ◌*◌}
use Rattle.worker_pool.proofs.pool.+crew+fn-crew-join+arg3.Given as goal

abbrev pub decreases-crew : goal.decreases-crew
decreases-crew g l = 2 * l.workers

abbrev pub decreases-join+arg3 : goal.decreases-join+arg3
decreases-join+arg3 g l = 2 * l.workers - 1
