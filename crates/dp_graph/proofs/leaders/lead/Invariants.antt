use Rattle.dp_graph.proofs.LeaderLaws.{LedFirst}
use Rattle.dp_graph.proofs.leaders.lead.Given as goal

abbrev pub invariant-loop-w : goal.invariant-loop-w
invariant-loop-w l = LedFirst l.component l.least l.fn.leaders.items l.leaders.items l.w-index
