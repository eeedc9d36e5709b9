use Rattle.std.proofs.Common.{arith}
use Rattle.term_pool.specs.Pooled.{tree_at}
use Rattle.term_pool.proofs.Extending.{same_tree_at}
use Rattle.term_pool.proofs.NormalForms.{normal_found, reducible_found}
use Rattle.term_pool.proofs.pools.Pool.is_normal_by_ids.Goals as goal

pub has_redex-requires-clause-there : goal.has_redex-requires-clause-there
has_redex-requires-clause-there c = omega (arith, c.requires, c.add_left_sides.ensures.kept.longer)

pub has_redex-requires-clause-known : goal.has_redex-requires-clause-known
has_redex-requires-clause-known c = c.new-known.ensures c.args.by_root.now.rules c.add_left_sides.new.self

pub returns-clause-normal : goal.returns-clause-normal
returns-clause-normal c =
    rw (← same_tree_at c.args.self.now c.add_left_sides.new.self c.add_left_sides.ensures.kept c.args.id c.requires)
    (normal_found c.args.by_root.now.rules (tree_at c.add_left_sides.new.self c.args.id) c.in_ok-has_redex.field-0 c.in_ok-has_redex.ensures.redex)

pub returns-clause-reducible : goal.returns-clause-reducible
returns-clause-reducible c =
    rw (← same_tree_at c.args.self.now c.add_left_sides.new.self c.add_left_sides.ensures.kept c.args.id c.requires)
    (reducible_found c.args.by_root.now.rules (tree_at c.add_left_sides.new.self c.args.id) c.in_ok-has_redex.field-0 c.in_ok-has_redex.ensures.redex)
