use Rattle.std.proofs.Common.{◌≡◌, drop}
use Rattle.label_find.specs.Grouping.{lists_at}
use Rattle.label_find.specs.Constraint.{some_meet}
use Rattle.label_find.proofs.constraint.some_meet.Given as goal

abbrev pub invariant-loop-meeting : goal.invariant-loop-meeting
invariant-loop-meeting l =
    some_meet l.ranks l.a l.b (lists_at l.lefts) (lists_at l.rights) (drop l.meeting-index l.meetings) ≡ some_meet l.ranks l.a l.b (lists_at l.lefts) (lists_at l.rights) l.meetings
