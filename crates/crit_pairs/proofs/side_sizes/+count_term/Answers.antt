use Rattle.std.proofs.Common.{arith}
use Rattle.crit_pairs.proofs.SideSizeLaws.{counts_next, counts_end}
use Rattle.crit_pairs.proofs.side_sizes.+count_term.Goals as goal

pub loop-arg-preserved : goal.loop-arg-preserved
loop-arg-preserved t c =
    λ new h.
    c.loop-arg.invariant new
    (counts_next c.deref-arg-items.result.now c.loop-arg.arg-index c.arg-item.result c.loop-arg.size c.count_term.new.size new c.loop-arg-test.true c.arg-item.is c.in_ok-count_term-in-App.ensures h)

pub returns-after-loop-arg : goal.returns-after-loop-arg
returns-after-loop-arg t c =
    c.loop-arg.invariant c.loop-arg.size (counts_end c.deref-arg-items.result.now c.loop-arg.arg-index c.loop-arg.size (omega arith))
