use Rattle.dp_graph.proofs.NotedLaws.{one_more_list}
use Rattle.dp_graph.proofs.noted.add_root.Goals as goal

pub returns : goal.returns
returns c =
    one_more_list c.args.by_root.now.rules c.args.lefts.now c.args.noted.now c.insert.new.self c.args.f _ c.in_ok-insert.ensures.updates
    (rw c.with_root-numbers.ensures.numbers at c.in_ok-noted_among.ensures)
