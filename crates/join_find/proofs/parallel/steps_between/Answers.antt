use Rattle.join_find.proofs.ParallelPeaks.{all_steps}
use Rattle.term_pool.specs.Pooled.{tree_at}
use Rattle.join_find.proofs.parallel.steps_between.Goals as goal

pub returns-clause-steps : goal.returns-clause-steps
returns-clause-steps c =
    all_steps c.args.trs.now.rules (tree_at c.args.pool.now c.args.ids.0) (tree_at c.args.pool.now c.args.ids.1) c.new-steps.result.items c.add_steps.new.steps.items c.new-place.result.items
    c.new-place.ensures.items c.new-steps.ensures.items (c.in_ok-add_steps.ensures.found c.if-not-branch.false)
