use Rattle.rewrite_core.specs.Check.{holds, lacks}
use Rattle.closed_pairs.proofs.ends.same_ends.Goals as goal

pub returns-then-same : goal.returns-then-same
returns-then-same c = holds (c.same.ensures.0 c.if-same.true)

pub returns-else-same : goal.returns-else-same
returns-else-same c = lacks (λ e. let wrong = c.same.ensures.1 e in let other = c.if-same.false in absurd cc)
