use Rattle.std.proofs.Common.{arith}
use Rattle.loop_find.proofs.QuickUnifiers.{settled_all}
use Rattle.loop_find.proofs.binding.are_settled.Goals as goal

pub returns : goal.returns
returns c = λ yes v t e low. settled_all c.args.found.now c.loop-binding.binding-index (omega (arith, c.loop-binding-test.false)) c.loop-binding.invariant v t e low
