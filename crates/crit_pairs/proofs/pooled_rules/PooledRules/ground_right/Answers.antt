use Rattle.std.proofs.Common.{arith}
use Rattle.crit_pairs.proofs.PooledRuleLaws.{right_got, ground_side}
use Rattle.crit_pairs.proofs.pooled_rules.PooledRules.ground_right.Goals as goal

pub returns-then-is_empty-clause-stands : goal.returns-then-is_empty-clause-stands
returns-then-is_empty-clause-stands c = λ rules pool r pooled numbered.
    (right_got rules pool c.args.self.now c.args.k r c.deref.result.now c.in_ok-side.side pooled numbered c.deref.ensures.value c.in_ok-side.ensures.lookup).stands

pub returns-then-is_empty-clause-ground : goal.returns-then-is_empty-clause-ground
returns-then-is_empty-clause-ground c = λ rules pool r pooled numbered.
    ground_side pool r.right c.in_ok-side.side.now
    (right_got rules pool c.args.self.now c.args.k r c.deref.result.now c.in_ok-side.side pooled numbered c.deref.ensures.value c.in_ok-side.ensures.lookup)
    (grind (arith, c.is_empty.ensures, c.if-is_empty.true, c.in_ok-side.side.now.variables.ok.0))
