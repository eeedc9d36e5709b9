use Rattle.trs_core.specs.View.{tree}
use Rattle.term_pool.specs.Pooled.{tree_at}
use Rattle.term_pool.proofs.MatchSteps.{instance_tested}
use Rattle.term_pool.proofs.pools.Pool.is_instance_of.Goals as goal

pub returns : goal.returns
returns c =
    instance_tested c.args.self.now (tree c.args.pattern.now) (tree_at c.args.self.now c.args.id) c.in_ok-match_at.field-0 c.is_some.result
    c.in_ok-match_at.ensures.found c.in_ok-match_at.ensures.none c.is_some.ensures
