use Rattle.term_pool.specs.Pooled.{tree_at}
use Rattle.rewrite_core.specs.PathCheck.{followed}
use Rattle.rewrite_core.proofs.Answering.{path_answered}
use Rattle.rewrite_core.proofs.checks.path_check.end_in_pool.Goals as goal

pub returns-in-Ok-clause-end : goal.returns-in-Ok-clause-end
returns-in-Ok-clause-end c = followed (tree_at c.run_path.new.self c.in-Ok.end) c.in-Ok.ensures.end

pub returns-in-Err-clause-end : goal.returns-in-Err-clause-end
returns-in-Err-clause-end c =
    rw c.path_refused.ensures
    (path_answered c.args.trs.now.rules (tree_at c.args.pool.now c.args.start) c.args.path.now c.args.item c.args.number c.in-Err.fault c.in-Err.ensures.fault)
