use Rattle.std.proofs.Common.{take}
use Rattle.dp_graph.specs.PairNodes.{AddsNodes}
use Rattle.dp_graph.proofs.nodes.Nodes.add_all.Given as goal

abbrev pub invariant-loop-end : goal.invariant-loop-end
invariant-loop-end l = AddsNodes l.rule l.from (take l.end-index l.ends) l.fn.self l.self
