use Rattle.std.proofs.Common.{arith, refl}
use Rattle.dp_core.proofs.AllNumbers.{one_number_more, all_numbers}
use Rattle.dp_core.proofs.numbers.rule_numbers.Goals as goal

pub overflow_cast-n : goal.overflow_cast-n
overflow_cast-n c = omega (arith, c.requires, c.loop-n-test.true)

pub loop-n-preserved : goal.loop-n-preserved
loop-n-preserved c = one_number_more c.args.rules.now c.loop-n.n c.loop-n.numbers.items c.push.new.self.items c.loop-n-test.true c.loop-n.invariant c.in_ok-push.ensures.items

pub returns : goal.returns
returns c = all_numbers c.args.rules.now c.args.rules.now c.loop-n.n c.loop-n.numbers.items refl c.loop-n-test.false c.loop-n.invariant
