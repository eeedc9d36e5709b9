use Rattle.trs_core.specs.View.{tree}
use Rattle.trs_defs.specs.System.{RewriteRule}
use Rattle.trs_defs.specs.Substitution.{IsInstance}
use Rattle.std.proofs.Common.{◌↔◌, IsTrue, subst}
use Rattle.term_pool.specs.Pooled.{tree_at}
use Rattle.term_pool.proofs.MatchSteps.{instance_tested}
use Rattle.term_pool.proofs.pools.Pool.is_instance.Goals as goal

pub returns : goal.returns
returns c =
    let P : RewriteRule → Type 0 = λ r. IsTrue c.is_some.result ↔ IsInstance r.left (tree_at c.args.self.now c.args.id) in
    subst P c.rule.view_is (instance_tested c.args.self.now (tree c.rule.inside.left) (tree_at c.args.self.now c.args.id) c.in_ok-match_at.field-0 c.is_some.result
    c.in_ok-match_at.ensures.found c.in_ok-match_at.ensures.none c.is_some.ensures)
