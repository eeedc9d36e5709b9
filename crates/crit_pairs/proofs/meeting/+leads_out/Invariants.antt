use Rattle.std.proofs.Common.{drop}
use Rattle.trs_core.specs.View.{forest}
use Rattle.crit_pairs.proofs.Bindings.{ArgumentsEnd}
use Rattle.crit_pairs.proofs.meeting.+leads_out.Given as goal

abbrev pub decreases-leads_out : goal.decreases-leads_out
decreases-leads_out l = l.depth

abbrev pub invariant-loop-arg : goal.invariant-loop-arg
invariant-loop-arg l = ArgumentsEnd l.levels l.bindings.list.items (forest (drop l.arg-index l.arg-items)) → ArgumentsEnd l.levels l.bindings.list.items (forest l.arg-items)
