use Rattle.std.proofs.Common.{arith}
use Rattle.rewrite_core.specs.Check.{stops, holds, lacks}
use Rattle.rewrite_core.proofs.Answering.{then_answers}
use Rattle.closed_pairs.proofs.strong.half.Goals as goal

pub returns-then-short-gt1 : goal.returns-then-short-gt1
returns-then-short-gt1 c = stops _ (lacks (λ le. omega (arith, le, c.if-short-gt1.true)))

pub returns : goal.returns
returns c = then_answers _ _ (λ u. u) tt c.meet.result (holds (omega (arith, c.if-short-gt1.false))) c.meet.ensures
