use Rattle.dp_graph.proofs.ItemLaws.{number_added, no_number_added}
use Rattle.std.proofs.Common.{arith}
use Rattle.dp_graph.proofs.places.add_number.Goals as goal

pub returns-in_ok-push : goal.returns-in_ok-push
returns-in_ok-push c = number_added c.args.problem.now c.args.numbers.now.items c.push.new.self.items c.args.w c.if-w-problem.true c.in_ok-push.ensures.items

pub returns-else-w-problem : goal.returns-else-w-problem
returns-else-w-problem c = no_number_added c.args.problem.now c.args.numbers.now.items c.args.w (omega (arith, c.if-w-problem.false))
