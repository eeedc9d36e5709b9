use Rattle.rewrite_core.specs.Check.{holds, lacks}
use Rattle.closed_pairs.proofs.pooled.same_ids.Goals as goal

pub returns-then-is_same : goal.returns-then-is_same
returns-then-is_same c = holds (c.is_same.ensures.0 c.if-is_same.true)

pub returns-else-is_same : goal.returns-else-is_same
returns-else-is_same c = lacks (λ e. let wrong = c.is_same.ensures.1 e in let other = c.if-is_same.false in absurd cc)
