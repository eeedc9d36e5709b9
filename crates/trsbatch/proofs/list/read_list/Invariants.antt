use Rattle.trsbatch.specs.ListAnswers.{texts}
use Rattle.trsbatch.proofs.ListLines.{AreRead, most_left}
use Rattle.trsbatch.proofs.list.read_list.Given as goal

abbrev pub invariant-loop-left : goal.invariant-loop-left
invariant-loop-left l = AreRead l.text (texts l.names) l.left l.number

abbrev pub decreases-loop-left : goal.decreases-loop-left
decreases-loop-left l = most_left l.left
