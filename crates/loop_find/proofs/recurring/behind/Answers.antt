use Rattle.std.proofs.Common.{arith}
use Rattle.loop_find.proofs.TokenWalks.{one_ahead, goes_ahead, ends_at_last, none_ahead, read_same}
use Rattle.loop_find.proofs.recurring.behind.Goals as goal

pub loop-ahead-init : goal.loop-ahead-init
loop-ahead-init c = λ t rest e. one_ahead c.args.tokens.now c.args.start t rest e

pub loop-ahead-preserved : goal.loop-ahead-preserved
loop-ahead-preserved c = λ t rest e.
    goes_ahead c.args.tokens.now c.loop-ahead.at 18446744073709551615 c.loop-ahead.ahead _ _ rest (omega (arith, c.requires)) c.if-at-tokens.false
    (read_same c.args.tokens.now c.loop-ahead.at _ c.if-at-tokens.false) c.loop-ahead-test.true c.ahead_after-ahead.ensures (c.loop-ahead.invariant t rest e)

pub returns-then-at-tokens : goal.returns-then-at-tokens
returns-then-at-tokens c = λ t rest e. ends_at_last c.args.tokens.now c.loop-ahead.at c.loop-ahead.ahead rest c.if-at-tokens.true (c.loop-ahead.invariant t rest e)

pub returns : goal.returns
returns c = λ t rest e. none_ahead c.args.tokens.now c.loop-ahead.at c.loop-ahead.ahead rest c.loop-ahead-test.false (c.loop-ahead.invariant t rest e)
