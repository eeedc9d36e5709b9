use Rattle.std.proofs.Common.{get_or}
use Rattle.std.proofs.lemmas.Option.{slice_get-get_or}
use Rattle.dp_graph.proofs.ItemLaws.{single_item, group_item}
use Rattle.dp_graph.proofs.places.item.Goals as goal

pub returns-then-led-eq1 : goal.returns-then-led-eq1
returns-then-led-eq1 c = λ leaders size own are.
    single_item c.args.problem.now leaders size c.args.v own c.args.led.now are (get_or c.args.problem.now c.args.v 0) c.if-led-eq1.true (slice_get-get_or c.args.problem.now c.args.v 0 c.requires)

pub returns : goal.returns
returns c = λ leaders size own are.
    group_item c.args.problem.now leaders size c.args.v own c.args.led.now are c.in_ok-members.members.items c.in_ok-members.ensures c.if-led-eq1.false
