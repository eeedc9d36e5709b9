use Rattle.std.proofs.Common.{◌∙◌, sym}
use Rattle.term_pool.specs.Pooled.{tree_at}
use Rattle.term_pool.proofs.Contracta.{placed_within}
use Rattle.term_pool.proofs.Extending.{undone}
use Rattle.term_pool.proofs.pools.Pool.put_within.Goals as goal

pub returns-then-not-keeps_limits-clause-unchanged : goal.returns-then-not-keeps_limits-clause-unchanged
returns-then-not-keeps_limits-clause-unchanged c =
    undone c.args.self.now c.put.new.self c.release.new.self c.mark-mark.result c.mark-mark.ensures c.in_ok-new.ensures.kept c.release.ensures

pub returns-clause-put : goal.returns-clause-put
returns-clause-put c =
    placed_within c.args.places.now (tree_at c.args.self.now c.args.id) (tree_at c.args.self.now c.args.by) c.args.self.now c.put.new.self c.in_ok-new.new
    c.in_ok-new.ensures.id (sym c.keeps_limits.ensures ∙ c.if-not-keeps_limits.false) c.in_ok-new.ensures.there c.in_ok-new.ensures.few
