use Rattle.term_pool.specs.Pooled.{tree_at}
use Rattle.term_pool.proofs.NormalForms.{normal_found, reducible_found}
use Rattle.term_pool.proofs.pools.Pool.is_normal.Goals as goal

pub returns-clause-normal : goal.returns-clause-normal
returns-clause-normal c = normal_found c.args.by_root.now.rules (tree_at c.args.self.now c.args.id) c.in_ok-has_redex.field-0 c.in_ok-has_redex.ensures.redex

pub returns-clause-reducible : goal.returns-clause-reducible
returns-clause-reducible c = reducible_found c.args.by_root.now.rules (tree_at c.args.self.now c.args.id) c.in_ok-has_redex.field-0 c.in_ok-has_redex.ensures.redex

pub has_redex-requires-clause-known : goal.has_redex-requires-clause-known
has_redex-requires-clause-known c = c.new-known.ensures c.args.by_root.now.rules c.args.self.now

pub has_redex-requires-clause-sides : goal.has_redex-requires-clause-sides
has_redex-requires-clause-sides c = c.new-sides.ensures c.args.by_root.now.rules c.args.self.now
