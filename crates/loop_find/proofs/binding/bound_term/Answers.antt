use Rattle.loop_find.proofs.QuickUnifiers.{found_here, found_later, found_nowhere}
use Rattle.loop_find.proofs.binding.bound_term.Goals as goal

pub returns-then-binding-v : goal.returns-then-binding-v
returns-then-binding-v c = found_here c.args.found.now c.loop-binding.binding-index c.binding-item.result c.args.v c.loop-binding-test.true c.binding-item.is c.if-binding-v.true c.loop-binding.invariant

pub loop-binding-preserved : goal.loop-binding-preserved
loop-binding-preserved c = found_later c.args.found.now c.loop-binding.binding-index c.binding-item.result c.args.v c.loop-binding-test.true c.binding-item.is c.if-binding-v.false c.loop-binding.invariant

pub returns : goal.returns
returns c = found_nowhere c.args.found.now c.loop-binding.binding-index c.args.v c.loop-binding-test.false c.loop-binding.invariant
