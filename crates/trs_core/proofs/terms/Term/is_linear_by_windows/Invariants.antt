use Rattle.trs_core.specs.View.{tree}
use Rattle.trs_core.proofs.Linearity.{OnceBelow, room_behind}
use Rattle.trs_core.proofs.terms.Term.is_linear_by_windows.Given as goal

abbrev pub invariant-loop-next : goal.invariant-loop-next
invariant-loop-next l = OnceBelow l.next (tree l.self)

abbrev pub decreases-loop-next : goal.decreases-loop-next
decreases-loop-next l = room_behind l.next
