use Rattle.std.proofs.Common.{sym}
use Rattle.trs_caps.specs.View.{holed}
use Rattle.trs_caps.proofs.Rows.{next_alike, one_unlike}
use Rattle.trs_caps.proofs.agreeing.are_alike.Goals as goal

pub returns-then-not-is_like-clause-differ : goal.returns-then-not-is_like-clause-differ
returns-then-not-is_like-clause-differ c =
    λ _ t p each. one_unlike (holed c.args.first.now) c.args.caps.now c.loop-cap.cap-index c.cap-item.result t c.loop-cap-test.true c.cap-item.is (sym c.if-not-is_like.ensures) p each

pub loop-cap-preserved : goal.loop-cap-preserved
loop-cap-preserved c =
    next_alike (holed c.args.first.now) c.args.caps.now c.loop-cap.cap-index c.cap-item.result c.loop-cap-test.true c.cap-item.is (sym c.if-not-is_like.ensures) c.loop-cap.invariant
