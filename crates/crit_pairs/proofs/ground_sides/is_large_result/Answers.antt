use Rattle.std.proofs.Common.{arith}
use Rattle.crit_pairs.proofs.ground_sides.is_large_result.Goals as goal

pub returns-then-size-lt-MANY_NODES : goal.returns-then-size-lt-MANY_NODES
returns-then-size-lt-MANY_NODES c = (λ e. absurd cc, λ h. absurd (omega (arith, h.1, c.size.ensures, c.if-size-lt-MANY_NODES.true)))

pub returns : goal.returns
returns c = (λ e. (c.is_ground.ensures.0 e, omega (arith, c.size.ensures, c.if-size-lt-MANY_NODES.false)), λ h. c.is_ground.ensures.1 h.0)
