use Rattle.label_find.proofs.MeetingLists.{no_right_group, meeting_pushed, later_in_group}
use Rattle.label_find.proofs.meeting.add_meeting.Goals as goal

pub returns : goal.returns
returns c =
    meeting_pushed c.args.lefts.now c.args.rights.now c.args.place c.end_at-end.result c.end_at-end.ensures c.in-Some.other c.args.meetings.now.items c.push.new.self.items
    (c.begins.ensures.first c.if-not-begins.false c.end_at-end.result c.end_at-end.ensures) c.in-Some.ensures.1 c.in_ok-push.ensures.items

pub returns-in_default : goal.returns-in_default
returns-in_default c =
    no_right_group c.args.lefts.now c.args.rights.now c.args.place c.end_at-end.result c.end_at-end.ensures c.args.meetings.now.items c.in_default.ensures

pub returns-then-not-begins : goal.returns-then-not-begins
returns-then-not-begins c =
    let later = c.begins.ensures.later c.if-not-begins.true in
    later_in_group c.args.lefts.now c.args.rights.now c.args.place c.args.meetings.now.items later.0 later.1
