use Rattle.worker_pool.proofs.Turning.{verdict_stands}
use Rattle.worker_pool.proofs.pool.finish.Goals as goal

pub new-requires : goal.new-requires
new-requires c = verdict_stands c.args.tree c.verdict.result c.in-Some.field-0 c.in-Some.is c.verdict.ensures
