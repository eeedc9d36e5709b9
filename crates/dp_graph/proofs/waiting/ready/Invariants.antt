use Rattle.dp_graph.specs.GraphConditions.{lists_of}
use Rattle.dp_graph.specs.Waiting.{IsFreeLeader}
use Rattle.dp_graph.proofs.WaitingLaws.{ReadySoFar}
use Rattle.dp_graph.proofs.waiting.ready.Given as goal

abbrev pub invariant-loop-v : goal.invariant-loop-v
invariant-loop-v l = ReadySoFar (IsFreeLeader l.leaders (lists_of l.blockers)) l.ready l.v
