use Rattle.trs_core.specs.View.{tree}
use Rattle.crit_pairs.specs.Meeting.{SameUnder}
use Rattle.crit_pairs.proofs.binding_table.Bindings.resolve.Given as goal

abbrev pub invariant-loop : goal.invariant-loop
invariant-loop l = SameUnder l.self.list.items (tree l.t) (tree l.current)
