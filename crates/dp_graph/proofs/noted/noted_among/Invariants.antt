use Rattle.std.proofs.Common.{take}
use Rattle.dp_graph.proofs.NotedLaws.{HasNotedOf}
use Rattle.dp_graph.proofs.noted.noted_among.Given as goal

abbrev pub invariant-loop-k : goal.invariant-loop-k
invariant-loop-k l = HasNotedOf l.lefts (take l.k-index l.numbers) l.noted.items
