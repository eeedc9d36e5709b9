use Rattle.std.proofs.Common.{◌≡◌, ℕ, subst, arith}
use Rattle.label_find.specs.Grouping.{count_of}
use Rattle.label_find.specs.Meetings.{AreMeetings}
use Rattle.label_find.proofs.MeetingLists.{no_meetings, meetings_more}
use Rattle.label_find.proofs.meeting.meetings_of.Goals as goal

pub loop-place-init : goal.loop-place-init
loop-place-init c = no_meetings c.args.lefts.now c.args.rights.now c.new-meetings.result.items c.new-meetings.ensures.items

pub loop-place-preserved : goal.loop-place-preserved
loop-place-preserved c =
    meetings_more c.args.lefts.now c.args.rights.now c.loop-place.place c.loop-place.meetings.items c.add_meeting.new.meetings.items c.loop-place.invariant c.in_ok-add_meeting.ensures

pub returns : goal.returns
returns c =
    let all : c.loop-place.place ≡ count_of c.args.lefts.now = omega (arith, c.loop-place.auto.place-end, c.loop-place-test.false, c.count-place-end.ensures) in
    subst (λ (n : ℕ). AreMeetings c.args.lefts.now c.args.rights.now n c.loop-place.meetings.items) all c.loop-place.invariant
