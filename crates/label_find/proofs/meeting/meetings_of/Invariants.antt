use Rattle.label_find.specs.Meetings.{AreMeetings}
use Rattle.label_find.proofs.meeting.meetings_of.Given as goal

abbrev pub invariant-loop-place : goal.invariant-loop-place
invariant-loop-place l = AreMeetings l.lefts l.rights l.place l.meetings.items
