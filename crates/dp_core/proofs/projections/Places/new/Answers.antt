use Rattle.std.proofs.Common.{arith}
use Rattle.dp_core.proofs.Places.{one_entry_more}
use Rattle.dp_core.proofs.projections.Places.new.Goals as goal

pub loop-i-preserved : goal.loop-i-preserved
loop-i-preserved c = (
  omega (arith, c.loop-i.invariant.0),
  one_entry_more c.args.entries.now c.loop-i.i (0, 0) c.loop-i.by_symbol c.insert.new.self c.loop-i-test.true c.loop-i.invariant.0 c.loop-i.invariant.1 c.in_ok-insert.ensures.updates.0,
)
