use Rattle.std.proofs.Common.{◌+◌, ◌-◌, length}
use Rattle.dp_graph.specs.SameLefts.{NotesStay}
use Rattle.dp_graph.proofs.lefts.make_room.Given as goal

abbrev pub invariant-loop-seen : goal.invariant-loop-seen
invariant-loop-seen l = NotesStay l.fn.seen.items l.seen.items

abbrev pub decreases-loop-seen : goal.decreases-loop-seen
decreases-loop-seen l = (l.place + 1) - length l.seen.items
