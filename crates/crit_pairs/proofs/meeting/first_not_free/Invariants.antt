use Rattle.std.proofs.Common.{All, take}
use Rattle.trs_core.specs.View.{tree}
use Rattle.crit_pairs.specs.Meeting.{Ends}
use Rattle.crit_pairs.proofs.meeting.first_not_free.Given as goal

abbrev pub invariant-loop-place : goal.invariant-loop-place
invariant-loop-place l = All (λ b. Ends l.bindings.levels l.bindings.list.items (tree b.term.now)) (take l.place l.bindings.list.items)
