use Rattle.dp_graph.proofs.NotedLaws.{none_listed}
use Rattle.dp_graph.proofs.noted.noted_by_root.Goals as goal

pub loop-rule-init : goal.loop-rule-init
loop-rule-init c = none_listed c.args.by_root.now.rules c.args.lefts.now c.new-noted.result c.new-noted.ensures.empty
