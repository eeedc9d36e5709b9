use Rattle.std.proofs.Common.{arith}
use Rattle.loop_find.proofs.TokenWalks.{never_recurs}
use Rattle.loop_find.proofs.recurring.may_recur.Goals as goal

pub returns : goal.returns
returns c = λ e p t q a b h. never_recurs c.args.pattern.now c.args.tokens.now c.loop-start.start (omega (arith, c.loop-start-test.false)) c.loop-start.invariant p t q a b h
